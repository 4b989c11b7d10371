-- Wrong answers of the calls that move records.
use Rattle.std.specs.Prelude.{◌≡◌, List, [], ◌∷◌, ◌++◌, ℕ, get_or}
use Rattle.answers.specs.declared.Answer.TheVariants.{Done, UnknownSet, NoRoom, BrokenRecord, ChipLost}
use Rattle.permutation.specs.Strings.{zeros}
use Rattle.digits.specs.Ascii.{ascii}
use Rattle.record.specs.Known.{nine_lines}
use Rattle.moving.specs.Known.{old_case, chip_case, right_case, entry_lines, first_entry, second_entry, bytes_entry, bytes_record, long_entry, long_record, three_lines, published_three, published_four, all_moved}
use Rattle.moving.specs.declared.route.Route.TheVariants.{Forward, Back, Import, Export}
use Rattle.moving.specs.Moves.{Moving, MovingAll, refused_move, moved_as, refused_all}
use Rattle.letter.specs.Calls.{lent, lent_mut, Never, NeverLeaves, NoSet}
use Rattle.letter.specs.Moving.{one_learnt, all_learnt}

-- the entry with a byte in each field, its digits in lower case; and with no blank behind `PT =`
abbrev pub lower_entry : List ℕ
lower_entry =
    ascii "Count = 1\nKey = 000102030405060708090a0b\nNonce = 0c0d0e0f1011121314151617\nPT = 18\nAD = 19\nCT = 1a1b1c1d1e1f20212223242526\n\n"

abbrev pub blank_entry : List ℕ
blank_entry = three_lines ++ ascii "PT =\nAD = \nCT = 00000000000000000000000000000000\n\n"

pub record Wrong : Type 0 where
  -- going back does not drop a chip
  pub back_drops : (taken written : ℕ) → Never one_learnt (Back, (1, (lent chip_case, (lent_mut (zeros 200), tt)))) (moved_as taken written)
  -- and says so before it looks at the room
  pub back_room : Never one_learnt (Back, (1, (lent chip_case, (lent_mut [], tt)))) (refused_move NoRoom 0 0)
  -- a broken record is not 11, nor 6
  pub back_broken : (line column : ℕ)
      → Never one_learnt (Back, (1, (lent (nine_lines ++ ascii "rounds=025\n"), (lent_mut (zeros 200), tt)))) (refused_move ChipLost line column)
  pub back_broken_room : (line column : ℕ) → Never one_learnt (Back, (1, (lent (ascii "form=1\n"), (lent_mut [], tt)))) (refused_move NoRoom line column)
  -- 11 names no line
  pub back_line : (column : ℕ) → Never one_learnt (Back, (1, (lent chip_case, (lent_mut [], tt)))) (refused_move ChipLost 3 column)
  -- a refusal changes no lent byte, and takes none
  pub back_touched : NeverLeaves one_learnt (Back, (1, (lent chip_case, (lent_mut (0 ∷ []), tt)))) (refused_move ChipLost 0 0)
      (Back, (1, (lent chip_case, (lent_mut (1 ∷ []), tt))))
  pub back_taken : Never one_learnt (Back, (1, (lent chip_case, (lent_mut [], tt))))
      (record { answer = ChipLost; line = 0; column = 0; taken = 161; written = 0 })
  -- forward never answers 11, whatever the text and the room
  pub forward_chip : (number : ℕ) (text out : List ℕ) (r : Moving) → r.answer ≡ ChipLost → Never one_learnt (Forward, (number, (lent text, (lent_mut out, tt)))) r
  -- a record that is of the form already is not moved
  pub forward_again : (taken written : ℕ) → Never one_learnt (Forward, (1, (lent chip_case, (lent_mut (zeros 200), tt)))) (moved_as taken written)
  pub back_again : (taken written : ℕ) → Never one_learnt (Back, (1, (lent old_case, (lent_mut (zeros 200), tt)))) (moved_as taken written)
  -- of several records the first that is refused decides
  pub all_first : (line column : ℕ) → Never all_learnt (Back, (lent (chip_case ++ ascii "x"), (lent_mut [], tt))) (refused_all BrokenRecord 2 line column)
  -- and records are counted from 1
  pub all_number : Never all_learnt (Back, (lent chip_case, (lent_mut [], tt))) (refused_all ChipLost 0 0 0)
  -- a text that is refused is not moved in part
  pub all_part : (records written : ℕ) → Never all_learnt (Forward, (lent (old_case ++ ascii "x"), (lent_mut (zeros 200), tt))) (all_moved records written)
  -- no text is no records, and nothing is refused
  pub all_nothing : (line column : ℕ) → Never all_learnt (Forward, (lent [], (lent_mut [], tt))) (refused_all BrokenRecord 1 line column)
  -- what has no room is not done
  pub all_room : (records written : ℕ) → Never all_learnt (Forward, (lent old_case, (lent_mut [], tt))) (all_moved records written)
  -- ---- published test files

  -- Count is looked at: neither a first entry that says 2 nor a second that says 1 is taken
  pub import_skip : (records written : ℕ) → Never all_learnt (Import 1, (lent second_entry, (lent_mut (zeros 200), tt))) (all_moved records written)
  pub import_again : (records written : ℕ) → Never all_learnt (Import 1, (lent (first_entry ++ first_entry), (lent_mut (zeros 300), tt))) (all_moved records written)
  pub import_nought : (taken written : ℕ) → Never one_learnt (Import 1, (1, (lent (ascii "Count = 0\n" ++ (entry_lines ++ ascii "\n")), (lent_mut (zeros 200), tt)))) (moved_as taken written)
  -- digits in lower case are not taken
  pub import_lower : (records written : ℕ) → Never all_learnt (Import 2, (lent lower_entry, (lent_mut (zeros 200), tt))) (all_moved records written)
  -- nor is an empty field without its blank
  pub import_blank : (records written : ℕ) → Never all_learnt (Import 1, (lent blank_entry, (lent_mut (zeros 200), tt))) (all_moved records written)
  -- the tag is the end of CT, and not its front
  pub import_tag : NeverLeaves all_learnt (Import 2, (lent bytes_entry, (lent_mut (zeros 129), tt))) (all_moved 1 129)
      (Import 2, (lent bytes_entry, (lent_mut (ascii "set=2\nkey=000102030405060708090a0b\nnonce=0c0d0e0f1011121314151617\nad=19\ntext=18\ncipher=26\ntag=1a1b1c1d1e1f202122232425\nrounds=32\n"), tt)))
  -- the rounds are those of data and text: not 0, and not by the ciphertext, nor by all of CT
  pub import_rounds : (rounds : List ℕ) (written : ℕ) → (get_or rounds 0 0 ≡ 0x32 → ⊥) → NeverLeaves all_learnt (Import 1, (lent long_entry, (lent_mut (zeros 163), tt))) (all_moved 1 written)
      (Import 1, (lent long_entry, (lent_mut (long_record rounds), tt)))
  -- nothing is written before a later entry is found broken
  pub import_part : NeverLeaves all_learnt (Import 1, (lent (first_entry ++ ascii "x"), (lent_mut (zeros 147), tt))) (refused_all BrokenRecord 2 1 1)
      (Import 1, (lent (first_entry ++ ascii "x"), (lent_mut right_case, tt)))
  -- 6 is not said before 10, of whatever entry
  pub import_room : (number line column : ℕ) → Never all_learnt (Import 1, (lent (first_entry ++ ascii "x"), (lent_mut [], tt))) (refused_all NoRoom number line column)
  -- a last entry without its empty line is not taken
  pub import_end : (records written : ℕ) → Never all_learnt (Import 1, (lent (ascii "Count = 1\n" ++ entry_lines), (lent_mut (zeros 200), tt))) (all_moved records written)
  -- a number that no set has is refused with 1, whatever the text and the room: also where the text is empty, and before an entry is found broken
  pub import_set : (set : ℕ) (text out : List ℕ) (r : MovingAll) → NoSet set → (r.answer ≡ UnknownSet → ⊥) → Never all_learnt (Import set, (lent text, (lent_mut out, tt))) r
  pub import_set_one : (set number : ℕ) (text out : List ℕ) (r : Moving) → NoSet set → (r.answer ≡ UnknownSet → ⊥)
      → Never one_learnt (Import set, (number, (lent text, (lent_mut out, tt)))) r
  -- sets 3 and 4 are not refused
  pub import_three : (r : MovingAll) → (r.answer ≡ Done → ⊥) → Never all_learnt (Import 3, (lent published_three, (lent_mut (zeros 200), tt))) r
  pub import_four : (r : MovingAll) → (r.answer ≡ Done → ⊥) → Never all_learnt (Import 4, (lent published_four, (lent_mut (zeros 200), tt))) r
  -- an entry whose key has not the set's length is not taken
  pub import_other_key : (records written : ℕ) → Never all_learnt (Import 1, (lent bytes_entry, (lent_mut (zeros 200), tt))) (all_moved records written)
  -- entries are counted from 1
  pub export_nought : NeverLeaves all_learnt (Export, (lent right_case, (lent_mut (zeros 141), tt))) (all_moved 1 141)
      (Export, (lent right_case, (lent_mut (ascii "Count = 0\n" ++ (entry_lines ++ ascii "\n")), tt)))
  -- digits are written in upper case
  pub export_lower : NeverLeaves all_learnt (Export, (lent bytes_record, (lent_mut (zeros 123), tt))) (all_moved 1 123) (Export, (lent bytes_record, (lent_mut lower_entry, tt)))
  -- a wrong round count is dropped, and not refused
  pub export_rounds : (number line column : ℕ) → Never all_learnt (Export, (lent old_case, (lent_mut (zeros 141), tt))) (refused_all BrokenRecord number line column)
  -- a chip is not dropped: a record of form 2 is not written
  pub export_chip : (records written : ℕ) → Never all_learnt (Export, (lent chip_case, (lent_mut (zeros 200), tt))) (all_moved records written)
