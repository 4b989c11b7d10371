-- Known answers of moving, written down from the papers.
use Rattle.std.specs.Prelude.{◌≡◌, List, [], ◌∷◌, ◌++◌, ℕ, ◌*◌, replicate}
use Rattle.answers.specs.declared.Answer.TheVariants.{Done, UnknownSet, NoRoom, BrokenRecord, ChipLost}
use Rattle.permutation.specs.Strings.{zeros}
use Rattle.digits.specs.Ascii.{ascii}
use Rattle.record.specs.Known.{seven_lines, nine_lines}
use Rattle.moving.specs.Moves.{MovingAll}
use Rattle.moving.specs.declared.route.Route.TheVariants.{Forward, Back, Import, Export}
use Rattle.moving.specs.Moves.{move_leaves, refused_move, moved_as, move_call, all_leaves, refused_all, move_all_call}

-- the rules' whole case in form 1; in form 2 with chip 0, spelled out; and with chip 7
abbrev pub old_case : List ℕ
old_case = seven_lines ++ ascii "rounds=25\n"

abbrev pub new_case : List ℕ
new_case =
    ascii "form=2\nset=1\nchip=0\nkey=00000000000000000000000000000000\nnonce=00000000000000000000000000000000\nad=\ntext=\ncipher=\ntag=00000000000000000000000000000000\nrounds=25\n"

abbrev pub chip_case : List ℕ
chip_case = nine_lines ++ ascii "rounds=25\n"

-- in form 1 with the round count of the formula
abbrev pub right_case : List ℕ
right_case = seven_lines ++ ascii "rounds=24\n"

-- the five lines of its entry behind the first
abbrev pub entry_lines : List ℕ
entry_lines = ascii "Key = 00000000000000000000000000000000\nNonce = 00000000000000000000000000000000\nPT = \nAD = \nCT = 00000000000000000000000000000000\n"

-- its entry as the first and as the second of a file
abbrev pub first_entry : List ℕ
first_entry = ascii "Count = 1\n" ++ (entry_lines ++ ascii "\n")

abbrev pub second_entry : List ℕ
second_entry = ascii "Count = 2\n" ++ (entry_lines ++ ascii "\n")

-- an entry of set 2 with a byte in each field: the bytes of CT are the ciphertext's, and then the tag's
abbrev pub bytes_entry : List ℕ
bytes_entry =
    ascii "Count = 1\nKey = 000102030405060708090A0B\nNonce = 0C0D0E0F1011121314151617\nPT = 18\nAD = 19\nCT = 1A1B1C1D1E1F20212223242526\n\n"

-- its record: set 2, one block of data and one of text, so 24 rounds and 8 for the block of data
abbrev pub bytes_record : List ℕ
bytes_record =
    ascii "set=2\nkey=000102030405060708090a0b\nnonce=0c0d0e0f1011121314151617\nad=19\ntext=18\ncipher=1a\ntag=1b1c1d1e1f20212223242526\nrounds=32\n"

-- an entry of set 1 whose ciphertext has a block more than its text, which is empty; and its record, with such rounds: 24 are right
abbrev pub long_entry : List ℕ
long_entry =
    ascii "Count = 1\nKey = 00000000000000000000000000000000\nNonce = 00000000000000000000000000000000\nPT = \nAD = \nCT = 000000000000000000000000000000000000000000000000\n\n"

abbrev pub long_record : List ℕ → List ℕ
long_record rounds =
    ascii "set=1\nkey=00000000000000000000000000000000\nnonce=00000000000000000000000000000000\nad=\ntext=\ncipher=0000000000000000\ntag=00000000000000000000000000000000\nrounds="
    ++ (rounds ++ ascii "\n")

-- the first three lines of an entry of set 1
abbrev pub three_lines : List ℕ
three_lines = ascii "Count = 1\nKey = 00000000000000000000000000000000\nNonce = 00000000000000000000000000000000\n"

-- a published entry of set 3, with a byte of text, and one of set 4, with nothing; and their records
abbrev pub published_three : List ℕ
published_three =
    ascii "Count = 1\nKey = 000102030405060708090A0B0C0D0E0F\nNonce = 000102030405060708090A0B0C0D0E0F\nPT = 00\nAD = \nCT = BC18C3F4E39ECA7222490D967C79BFFC92\n\n"

abbrev pub published_four : List ℕ
published_four =
    ascii "Count = 1\nKey = 000102030405060708090A0B0C0D0E0F\nNonce = 000102030405060708090A0B0C0D0E0F\nPT = \nAD = \nCT = 7A834E6F09210957067B10FD831F0078\n\n"

abbrev pub record_three : List ℕ
record_three =
    ascii "set=3\nkey=000102030405060708090a0b0c0d0e0f\nnonce=000102030405060708090a0b0c0d0e0f\nad=\ntext=00\ncipher=bc\ntag=18c3f4e39eca7222490d967c79bffc92\nrounds=24\n"

abbrev pub record_four : List ℕ
record_four =
    ascii "set=4\nkey=000102030405060708090a0b0c0d0e0f\nnonce=000102030405060708090a0b0c0d0e0f\nad=\ntext=\ncipher=\ntag=7a834e6f09210957067b10fd831f0078\nrounds=24\n"

-- so many zero bytes in hex
abbrev pub noughts : ℕ → List ℕ
noughts n = replicate (2 * n) 0x30

-- all records of a text, moved
abbrev pub all_moved : ℕ → ℕ → MovingAll
all_moved records written = record { answer = Done; records = records; line = 0; column = 0; written = written }

pub record Known : Type 0 where
  -- forward, with a byte behind the record and one behind the room that it takes
  pub forward : move_call Forward 1 (old_case ++ ascii "x") (zeros 162) ≡ move_leaves (moved_as 147 161) (new_case ++ 0 ∷ [])
  -- back, in room that is just enough
  pub back : move_call Back 1 new_case (zeros 147) ≡ move_leaves (moved_as 161 147) old_case
  -- a byte less is no room
  pub short : move_call Back 1 new_case (zeros 146) ≡ move_leaves (refused_move NoRoom 0 0) (zeros 146)
  -- a chip would be lost, and that is said before the room is looked at
  pub chip : move_call Back 1 chip_case [] ≡ move_leaves (refused_move ChipLost 0 0) []
  -- a record of the other form
  pub back_again : move_call Back 1 old_case (zeros 162) ≡ move_leaves (refused_move BrokenRecord 1 1) (zeros 162)
  pub forward_again : move_call Forward 1 new_case (zeros 162) ≡ move_leaves (refused_move BrokenRecord 1 1) (zeros 162)
  -- two records; the second broken in its second line, at column 3; the second with a chip
  pub all_forward : (move_all_call Forward (old_case ++ old_case) (zeros 322)).out ≡ new_case ++ new_case
  pub all_broken : move_all_call Forward (old_case ++ ascii "set=1\nkex=\n") (zeros 322) ≡ all_leaves (refused_all BrokenRecord 2 2 3) (zeros 322)
  pub all_chip : move_all_call Back (new_case ++ chip_case) (zeros 322) ≡ all_leaves (refused_all ChipLost 2 0 0) (zeros 322)
  -- ---- published test files

  -- an entry is read into a record, with the tag from the end of CT and the rounds of the formula; and written back
  pub import_bytes : move_all_call (Import 2) bytes_entry (zeros 280) ≡ all_leaves (all_moved 1 129) (bytes_record ++ zeros 151)
  pub export_bytes : move_all_call Export bytes_record (zeros 280) ≡ all_leaves (all_moved 1 123) (bytes_entry ++ zeros 157)
  -- published entries of the later edition's sets
  pub import_three : move_all_call (Import 3) published_three (zeros 151) ≡ all_leaves (all_moved 1 151) record_three
  pub import_four : move_all_call (Import 4) published_four (zeros 147) ≡ all_leaves (all_moved 1 147) record_four
  pub export_three : move_all_call Export record_three (zeros 145) ≡ all_leaves (all_moved 1 145) published_three
  pub export_four : move_all_call Export record_four (zeros 141) ≡ all_leaves (all_moved 1 141) published_four
  -- two entries in a row; and back
  pub import_two : move_all_call (Import 1) (first_entry ++ second_entry) (zeros 294) ≡ all_leaves (all_moved 2 294) (right_case ++ right_case)
  pub export_two : move_all_call Export (right_case ++ right_case) (zeros 282) ≡ all_leaves (all_moved 2 282) (first_entry ++ second_entry)
  -- text and ciphertext may have different lengths: the rounds are by the text
  pub import_lengths : move_all_call (Import 1) long_entry (zeros 163) ≡ all_leaves (all_moved 1 163) (long_record (ascii "24"))
  -- a wrong round count is dropped
  pub export_rounds : move_all_call Export old_case (zeros 141) ≡ all_leaves (all_moved 1 141) first_entry
  -- an unknown set is refused, whatever the text
  pub import_set : move_all_call (Import 5) [] [] ≡ all_leaves (refused_all UnknownSet 0 0 0) []
  -- no entries, no records
  pub import_none : move_all_call (Import 2) [] [] ≡ all_leaves (all_moved 0 0) []
  -- Count is the entry's place: 2 at the first is wrong at the digit, 1 at the second too
  pub import_skip : move_all_call (Import 1) second_entry (zeros 300) ≡ all_leaves (refused_all BrokenRecord 1 1 9) (zeros 300)
  pub import_again : move_all_call (Import 1) (first_entry ++ first_entry) (zeros 300) ≡ all_leaves (refused_all BrokenRecord 2 1 9) (zeros 300)
  -- an empty field has its blank
  pub import_blank : move_call (Import 1) 1 (three_lines ++ ascii "PT =\n") [] ≡ move_leaves (refused_move BrokenRecord 4 5) []
  -- digits in lower case are wrong at the first
  pub import_lower : move_call (Import 1) 1 (ascii "Count = 1\nKey = 0a\n") [] ≡ move_leaves (refused_move BrokenRecord 2 8) []
  -- text and data of 257 bytes are wrong at the digit that is too many, and so is a ciphertext of 257 and its tag; one shorter than the tag at its end
  pub import_text_long : move_call (Import 1) 1 (three_lines ++ (ascii "PT = " ++ noughts 257)) [] ≡ move_leaves (refused_move BrokenRecord 4 518) []
  pub import_data_long : move_call (Import 1) 1 (three_lines ++ (ascii "PT = \nAD = " ++ noughts 257)) [] ≡ move_leaves (refused_move BrokenRecord 5 518) []
  pub import_cipher_long : move_call (Import 1) 1 (three_lines ++ (ascii "PT = \nAD = \nCT = " ++ noughts 273)) [] ≡ move_leaves (refused_move BrokenRecord 6 550) []
  pub import_cipher_short : move_call (Import 1) 1 (three_lines ++ (ascii "PT = \nAD = \nCT = " ++ (noughts 15 ++ ascii "\n"))) [] ≡ move_leaves (refused_move BrokenRecord 6 36) []
  -- the last entry has its empty line, too
  pub import_end : move_all_call (Import 1) (ascii "Count = 1\n" ++ entry_lines) (zeros 300) ≡ all_leaves (refused_all BrokenRecord 1 7 1) (zeros 300)
  -- 10 is said before the room is looked at, and 6 where all entries are good
  pub import_broken_room : move_all_call (Import 1) (first_entry ++ ascii "x") [] ≡ all_leaves (refused_all BrokenRecord 2 1 1) []
  pub import_room : move_all_call (Import 1) first_entry (zeros 146) ≡ all_leaves (refused_all NoRoom 0 0 0) (zeros 146)
  -- writing names the record's own line and column; a record of form 2 is none here
  pub export_line : move_all_call Export
      (ascii "set=1\nkey=00000000000000000000000000000000\nnonce=00000000000000000000000000000000\nad=\ntext=0\n") [] ≡ all_leaves (refused_all BrokenRecord 1 5 7) []
  pub export_two_form : move_all_call Export new_case (zeros 300) ≡ all_leaves (refused_all BrokenRecord 1 1 1) (zeros 300)
