-- Wrong answers of the calls of entries.
use Rattle.std.specs.Prelude.{◌≡◌, Bool, false, List, [], ◌∷◌, ℕ}
use Rattle.answers.specs.declared.Answer.TheVariants.{Done, UnknownSet, NoRoom, BrokenRecord}
use Rattle.permutation.specs.Strings.{zeros}
use Rattle.digits.specs.Ascii.{ascii}
use Rattle.record.specs.Form.{with_number, with_field, blank}
use Rattle.record.specs.Calls.{Reading, refused_at, read_as, refused_with}
use Rattle.moving.specs.Known.{first_entry}
use Rattle.letter.specs.Calls.{lent, lent_mut, Never, NeverLeaves, NoSet}
use Rattle.letter.specs.Entries.{read_learnt, write_learnt}
use Rattle.letter.specs.Wrong.Records.{case_of}

pub record Wrong : Type 0 where
  -- the empty text is missing its first line, and not its last
  pub read_nothing : (column : ℕ) (early : Bool) → Never read_learnt (1, (1, (lent [], tt))) (refused_at 7 column early)
  -- whatever the text, it is not refused at line 0, nor at column 0
  pub read_line_nought : (text : List ℕ) (r : Reading) → r.answer ≡ BrokenRecord → r.line ≡ 0 → Never read_learnt (1, (1, (lent text, tt))) r
  pub read_column_nought : (text : List ℕ) (r : Reading) → r.answer ≡ BrokenRecord → r.column ≡ 0 → Never read_learnt (1, (1, (lent text, tt))) r
  -- `Count = 12` could be a first entry's up to its 1: the 2 is at fault
  pub read_count_longer : (early : Bool) → Never read_learnt (1, (1, (lent (ascii "Count = 12\n"), tt))) (refused_at 1 9 early)
  -- in `Count = 01` the zero is at fault, since no entry's number begins with it
  pub read_count_zero : (early : Bool) → Never read_learnt (1, (1, (lent (ascii "Count = 01\n"), tt))) (refused_at 1 10 early)
  -- a text that ended inside a line can go on
  pub read_inside : Never read_learnt (1, (1, (lent (ascii "Count = "), tt))) (refused_at 1 9 false)
  -- a record that is read has the rounds of the formula, and no others
  pub read_rounds : (taken rounds : ℕ) → (rounds ≡ 24 → ⊥) → Never read_learnt (1, (1, (lent first_entry, tt))) (read_as taken (case_of rounds))
  -- a number that no set has is answered 1, whatever the text
  pub read_set : (set number : ℕ) (text : List ℕ) (r : Reading) → NoSet set → (r.answer ≡ UnknownSet → ⊥) → Never read_learnt (set, (number, (lent text, tt))) r
  -- a record out of form is not written, and that is said before the room is looked at
  pub write_broken : (line column : ℕ) → Never write_learnt (1, (blank, (lent_mut [], tt))) (record { answer = NoRoom; line = line; column = column; written = 0 })
  -- the line named is the record's own: the text is line 5 of it, and line 4 of an entry
  pub write_line : Never write_learnt (1, (with_field 7 (record { bytes = zeros 256; size = 257 }) (case_of 24), (lent_mut [], tt))) (refused_with BrokenRecord 4)
  -- nor is one with a chip
  pub write_chip : (line column written : ℕ)
      → Never write_learnt (1, (with_number 3 7 (case_of 24), (lent_mut (zeros 200), tt))) (record { answer = Done; line = line; column = column; written = written })
  -- a refusal changes no lent byte
  pub write_touched : NeverLeaves write_learnt (1, (blank, (lent_mut (0 ∷ []), tt))) (refused_with BrokenRecord 1) (1, (blank, (lent_mut (1 ∷ []), tt)))
  -- an entry does not go into a byte less
  pub write_room : (line column written : ℕ) → Never write_learnt (1, (case_of 24, (lent_mut (zeros 140), tt))) (record { answer = Done; line = line; column = column; written = written })
