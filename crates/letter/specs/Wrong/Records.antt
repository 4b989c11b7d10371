-- Wrong answers of the calls of records, lines and digits.
use Rattle.std.specs.Prelude.{◌≡◌, Bool, true, false, List, [], ◌∷◌, ◌++◌, ℕ, suc, ◌<◌, replicate, Some, None, Ok, Err}
use Rattle.answers.specs.declared.Answer.TheVariants.{Done, NoRoom, BrokenRecord}
use Rattle.permutation.specs.Strings.{zeros}
use Rattle.digits.specs.declared.hex.Case.TheVariants.{Lower, Upper}
use Rattle.digits.specs.declared.hex.BadDigit.TheVariants.{First, Second}
use Rattle.digits.specs.Hex.{hex_digit_in}
use Rattle.digits.specs.Ascii.{ascii}
use Rattle.lines.specs.declared.kinds.Kind.{Kind}
use Rattle.lines.specs.declared.kinds.Value.TheVariants.{Number, Bytes}
use Rattle.lines.specs.Right.{named}
use Rattle.lines.specs.Steps.{standing, begin}
use Rattle.record.specs.declared.form.Form.{Form}
use Rattle.record.specs.declared.form.Form.TheVariants.{One, Two}
use Rattle.record.specs.declared.form.Record.{Record}
use Rattle.record.specs.Calls.{Reading}
use Rattle.record.specs.Form.{field_of, with_number, with_field, blank}
use Rattle.record.specs.Calls.{refused_at, read_as}
use Rattle.record.specs.Known.{seven_lines, nine_lines, other_key}
use Rattle.digits.proofs as digits
use Rattle.lines.proofs as lines
use Rattle.record.proofs as record-crate
use Rattle.letter.specs.Calls.{lent, lent_mut, Never, Only, NeverLeaves, NoSet}
use Rattle.letter.specs.Records.{read_learnt, read_any_learnt, write_learnt}

-- the record of the rules' whole case, with any rounds: set 1, key, nonce and tag of zeros, all else empty
abbrev pub case_of : ℕ → Record
case_of rounds =
    let sixteen = field_of (zeros 16) in
    let none = field_of [] in
    record { set = 1; chip = 0; key = sixteen; nonce = sixteen; ad = none; text = none; cipher = none; tag = sixteen; rounds = rounds }

-- a line of decimals called `n=`, up to a bound, and a line of bytes called `b=`, in hex
abbrev pub number_line : ℕ → Kind
number_line most = record { name = named (ascii "n="); value = Number 0 most }

abbrev pub bytes_line : ℕ → ℕ → Kind
bytes_line least most = record { name = named (ascii "b="); value = Bytes least most Lower }

pub record Wrong : Type 0 where
  -- a character is read as no value of which it is not the digit: no value is off by one, and `A` to `F`, `/` and `g` have none
  pub read_digit_other : (c v : ℕ) → (v < 16 → hex_digit_in Lower v ≡ c → ⊥) → Never digits.read_digit.Reads.Learnt (c, tt) (Some v)
  -- a digit is not read as none
  pub read_digit_none : (v : ℕ) → v < 16 → Never digits.read_digit.Reads.Learnt (hex_digit_in Lower v, tt) None
  -- `A` is no digit in lower case, nor `a` in upper case
  pub is_digit_upper : Never digits.is_digit.Reads.Learnt (Lower, (0x41, tt)) true
  pub is_digit_lower : Never digits.is_digit.Reads.Learnt (Upper, (0x61, tt)) true
  -- `f` and `F` are digits in theirs
  pub is_digit_f : Never digits.is_digit.Reads.Learnt (Lower, (0x66, tt)) false
  pub is-digit-F : Never digits.is_digit.Reads.Learnt (Upper, (0x46, tt)) false
  -- `01` is not sixteen
  pub read_pair_low : Never digits.read_pair.Reads.Learnt (Lower, (0x30, (0x31, tt))) (Ok 16)
  -- `0g` is no byte
  pub read_pair_half : Never digits.read_pair.Reads.Learnt (Lower, (0x30, (0x67, tt))) (Ok 0)
  -- in `g0` the second digit is not at fault, in `0g` the first is not, and in `gg` the second is not
  pub read_pair_first : Never digits.read_pair.Reads.Learnt (Lower, (0x67, (0x30, tt))) (Err Second)
  pub read_pair_second : Never digits.read_pair.Reads.Learnt (Lower, (0x30, (0x67, tt))) (Err First)
  pub read_pair_neither : Never digits.read_pair.Reads.Learnt (Lower, (0x67, (0x67, tt))) (Err Second)
  -- `0A` is no byte in lower case, nor `0a` in upper case, where the second is at fault
  pub read_pair_upper : Never digits.read_pair.Reads.Learnt (Lower, (0x30, (0x41, tt))) (Ok 10)
  pub read_pair_lower : Never digits.read_pair.Reads.Learnt (Upper, (0x30, (0x61, tt))) (Ok 10)
  pub read_pair_lower_first : Never digits.read_pair.Reads.Learnt (Upper, (0x30, (0x61, tt))) (Err First)
  -- 1f is not put as `f1`
  pub put_bytes_low : NeverLeaves digits.put_bytes.Reads.Learnt (Lower, (lent (0x1f ∷ []), (lent_mut (zeros 2), tt))) 2 (Lower, (lent (0x1f ∷ []), (lent_mut (ascii "f1"), tt)))
  -- nor in lower case where upper case is asked for
  pub put_bytes_case : NeverLeaves digits.put_bytes.Reads.Learnt (Upper, (lent (0x1f ∷ []), (lent_mut (zeros 2), tt))) 2 (Upper, (lent (0x1f ∷ []), (lent_mut (ascii "1f"), tt)))
  -- 1f is not put where one place is lent
  pub put_bytes_room : Never digits.put_bytes.Reads.Learnt (Lower, (lent (0x1f ∷ []), (lent_mut (zeros 1), tt))) 2
  -- two bytes do not go into one place
  pub put_text_room : Never digits.put_text.Reads.Learnt (lent (zeros 2), (lent_mut (zeros 1), tt)) 2
  -- one byte does not touch the second place
  pub put_text_beyond : NeverLeaves digits.put_text.Reads.Learnt (lent (1 ∷ []), (lent_mut (zeros 2), tt)) 1 (lent (1 ∷ []), (lent_mut (1 ∷ 1 ∷ []), tt))
  -- an empty line has its line feed
  pub put_line_feed : Never digits.put_line.Reads.Learnt (lent [], (lent [], (lent_mut (zeros 1), tt))) 0
  -- a line feed does not go into no place
  pub put_line_room : Never digits.put_line.Reads.Learnt (lent [], (lent [], (lent_mut [], tt))) 1
  -- 10 has two digits
  pub number_length_ten : Never digits.number_length.Reads.Learnt (10, tt) 1
  -- 0 has one digit
  pub number_length_nought : Never digits.number_length.Reads.Learnt (0, tt) 0
  -- 10 is not put as `01`
  pub put_number_ten : NeverLeaves digits.put_number.Reads.Learnt (10, (lent_mut (zeros 2), tt)) 2 (10, (lent_mut (ascii "01"), tt))
  -- 10 is not put as one digit
  pub put_number_room : Never digits.put_number.Reads.Learnt (10, (lent_mut (zeros 1), tt)) 1
  -- 1 is not put as `2`
  pub put_number_high : NeverLeaves digits.put_number.Reads.Learnt (1, (lent_mut (zeros 1), tt)) 1 (1, (lent_mut (0x32 ∷ []), tt))
  -- a name of 33 bytes does not go into its places
  pub named_long : Never lines.named.Reads.Learnt (lent (zeros 33), tt) (record { bytes = zeros 32; size = 33 })
  -- a name keeps its length
  pub named_size : Never lines.named.Reads.Learnt (lent (ascii "n="), tt) (record { bytes = ascii "n=" ++ zeros 30; size = 32 })
  -- before its first character a line has not ended, and has no digit
  pub begun_ended : (place count number : ℕ) → Never lines.begun.Reads.Learnt tt (standing place count number true)
  pub begun_digit : (place number : ℕ) → Never lines.begun.Reads.Learnt tt (standing place 1 number false)
  -- a name does not begin with another character, and nothing comes behind a line feed
  pub advance_name : Never lines.advance.Reads.Learnt (number_line 9, (begin, (0x6d, tt))) (Some (standing 1 0 0 false))
  pub advance_behind : Never lines.advance.Reads.Learnt (number_line 9, (standing 2 1 5 true, (0x36, tt))) (Some (standing 2 1 56 false))
  -- a needless zero is not at fault itself: the digit behind it is
  pub line_zero : Never lines.read.Reads.Learnt (number_line 99, (lent (ascii "n=05\n"), tt)) (Err (record { column = 3 }))
  -- nor is the line's end
  pub line_zero_end : Never lines.read.Reads.Learnt (number_line 99, (lent (ascii "n=05\n"), tt)) (Err (record { column = 5 }))
  -- a zero alone is a number
  pub line_nought : Never lines.read.Reads.Learnt (number_line 99, (lent (ascii "n=0\n"), tt)) (Err (record { column = 4 }))
  -- a number past its bound is at fault where it passes it, and not before or at its end
  pub line_bound : Never lines.read.Reads.Learnt (number_line 65_535, (lent (ascii "n=65536\n"), tt)) (Err (record { column = 8 }))
  pub line_bound_early : Never lines.read.Reads.Learnt (number_line 65_535, (lent (ascii "n=65536\n"), tt)) (Err (record { column = 6 }))
  -- a number has a digit
  pub line_empty : Never lines.read.Reads.Learnt (number_line 9, (lent (ascii "n=\n"), tt)) (Ok (record { size = 3; number = 0 }))
  -- columns count from 1
  pub line_from_nought : Never lines.read.Reads.Learnt (number_line 9, (lent [], tt)) (Err (record { column = 0 }))
  -- of the digits `g0` the first is at fault, of `0g` the second
  pub line_first_digit : Never lines.read.Reads.Learnt (bytes_line 0 2, (lent (ascii "b=00g0\n"), tt)) (Err (record { column = 6 }))
  pub line_second_digit : Never lines.read.Reads.Learnt (bytes_line 0 2, (lent (ascii "b=000g\n"), tt)) (Err (record { column = 5 }))
  -- a lone digit is not at fault: what comes too early behind it is
  pub line_odd : Never lines.read.Reads.Learnt (bytes_line 0 2, (lent (ascii "b=0\n"), tt)) (Err (record { column = 3 }))
  -- a byte too many is at fault at its first digit
  pub line_byte_too_many : Never lines.read.Reads.Learnt (bytes_line 0 1, (lent (ascii "b=0011\n"), tt)) (Err (record { column = 6 }))
  -- a byte too few is not taken
  pub line_byte_too_few : Never lines.read.Reads.Learnt (bytes_line 2 2, (lent (ascii "b=00\n"), tt)) (Ok (record { size = 5; number = 0 }))
  -- of two columns the later is right, and a line is right where either is
  pub either_later : Never lines.either.Reads.Learnt (Err (record { column = 3 }), (Err (record { column = 5 }), tt)) (Err (record { column = 3 }))
  pub either_line : Never lines.either.Reads.Learnt (Err (record { column = 3 }), (Ok (record { size = 2; number = 7 }), tt)) (Err (record { column = 3 }))
  -- digits in lower case are no bytes where upper case is asked for, and a digit alone is none
  pub read_field_case : Never record-crate.read_field.Reads.Learnt (Upper, (lent (ascii "0a"), tt)) (field_of (10 ∷ []))
  pub read_field_odd : Never record-crate.read_field.Reads.Learnt (Lower, (lent (ascii "0"), tt)) (field_of (0 ∷ []))
  -- the empty text is broken at its first line, and not at its last
  pub read_nothing : (column : ℕ) (early : Bool) → Never read_learnt (One, (lent [], tt)) (refused_at 8 column early)
  -- whatever the text, it is not refused at line 0, nor at column 0
  pub read_line_nought : (form : Form) (text : List ℕ) (r : Reading) → r.answer ≡ BrokenRecord → r.line ≡ 0 → Never read_learnt (form, (lent text, tt)) r
  pub read_column_nought : (form : Form) (text : List ℕ) (r : Reading) → r.answer ≡ BrokenRecord → r.column ≡ 0 → Never read_learnt (form, (lent text, tt)) r
  -- a text that is refused takes nothing
  pub read_taken : (line column : ℕ) (early : Bool)
      → Never read_learnt (One, (lent [], tt)) (record { answer = BrokenRecord; line = line; column = column; early = early; taken = 1; content = blank })
  -- a lone digit behind a key breaks the key's line, and not the next one
  pub read_odd : (column : ℕ) (early : Bool) → Never read_learnt (One, (lent (ascii "set=1\nkey=" ++ (replicate 33 0x30 ++ (0x0a ∷ []))), tt)) (refused_at 3 column early)
  -- a line that has no line feed is broken itself, and not the next one
  pub read_feed : (column : ℕ) (early : Bool) → Never read_learnt (One, (lent (ascii "set=1"), tt)) (refused_at 2 column early)
  -- and can still get it
  pub read_decided : Never read_learnt (One, (lent (ascii "set=1"), tt)) (refused_at 1 6 false)
  -- a wrong character can't be mended by what comes
  pub read_mended : Never read_learnt (One, (lent (ascii "set=5"), tt)) (refused_at 1 5 true)
  -- sets 3 and 4 are no fault
  pub read_three : (column : ℕ) (early : Bool) → Never read_learnt (One, (lent (ascii "set=3\n"), tt)) (refused_at 1 column early)
  pub read_four : (column : ℕ) (early : Bool) → Never read_learnt (Two, (lent (ascii "form=2\nset=4\n"), tt)) (refused_at 2 column early)
  -- the third line is not called `nonse=`: its fourth character is at fault, and not the line's end
  pub read_name : (column : ℕ) (early : Bool)
      → Never read_learnt (One, (lent (ascii "set=1\nkey=00000000000000000000000000000000\nnonse=00000000000000000000000000000000\n"), tt)) (refused_at 4 column early)
  pub read_end : (early : Bool)
      → Never read_learnt (One, (lent (ascii "set=1\nkey=00000000000000000000000000000000\nnonse=00000000000000000000000000000000\n"), tt)) (refused_at 3 39 early)
  -- a key of 16 bytes in set 2 is at fault at its first digit too many: not at its end, and not as counted in the record
  pub read_key_end : (early : Bool) → Never read_learnt (One, (lent other_key, tt)) (refused_at 2 37 early)
  pub read_key_in_record : (early : Bool) → Never read_learnt (One, (lent other_key, tt)) (refused_at 2 35 early)
  -- of a wrong pair's digits the second is not blamed for the first
  pub read_first_digit : (early : Bool) → Never read_learnt (One, (lent (ascii "set=1\nkey=g0"), tt)) (refused_at 2 6 early)
  -- a needless zero in the rounds is not at fault itself
  pub read_zero : (early : Bool) → Never read_learnt (One, (lent (seven_lines ++ ascii "rounds=024\n"), tt)) (refused_at 8 8 early)
  -- a record that is refused in writing has its line named, no column, and no byte written
  pub write_no_line : (column : ℕ) → Never write_learnt (One, (blank, (lent_mut [], tt))) (record { answer = BrokenRecord; line = 0; column = column; written = 0 })
  pub write_column : (line column : ℕ) → Never write_learnt (One, (blank, (lent_mut [], tt))) (record { answer = BrokenRecord; line = line; column = suc column; written = 0 })
  pub write_touched : NeverLeaves write_learnt (One, (blank, (lent_mut (0 ∷ []), tt))) (record { answer = BrokenRecord; line = 1; column = 0; written = 0 })
      (One, (blank, (lent_mut (1 ∷ []), tt)))
  -- answer 10 comes before answer 6
  pub write_room : (line column : ℕ) → Never write_learnt (One, (blank, (lent_mut [], tt))) (record { answer = NoRoom; line = line; column = column; written = 0 })
  -- a text of 257 bytes breaks line 5, and not the cipher's
  pub first_broken_text : Never record-crate.first_broken.Reads.Learnt (
    One,
    (
      record {
        set = 1;
        chip = 0;
        key = field_of (zeros 16);
        nonce = field_of (zeros 16);
        ad = field_of [];
        text = record { bytes = zeros 256; size = 257 };
        cipher = field_of [];
        tag = field_of (zeros 16);
        rounds = 24;
      },
      tt,
    ),
  )
      (Some 6)
  -- a record with such a text is not in form
  pub first_broken_long : Never record-crate.first_broken.Reads.Learnt (One, (with_field 7 (record { bytes = zeros 256; size = 257 }) (case_of 24), tt)) None
  -- key, nonce and tag of 16 bytes are not in form in set 2
  pub first_broken_key : Never record-crate.first_broken.Reads.Learnt (One, (with_number 2 2 (case_of 24), tt)) None
  -- in sets 3 and 4 they are
  pub first_broken_three : Only record-crate.first_broken.Reads.Learnt (One, (with_number 2 3 (case_of 24), tt)) None
  pub first_broken_four : Only record-crate.first_broken.Reads.Learnt (One, (with_number 2 4 (case_of 24), tt)) None
  -- a number that no set has breaks line 1, in form 2 line 2
  pub first_broken_set : (set : ℕ) → NoSet set → Only record-crate.first_broken.Reads.Learnt (One, (with_number 2 set (case_of 24), tt)) (Some 1)
  pub two_set : (set : ℕ) → NoSet set → Only record-crate.first_broken.Reads.Learnt (Two, (with_number 2 set (case_of 24), tt)) (Some 2)
  -- rounds of eight digits are not in form
  pub first_broken_rounds : Never record-crate.first_broken.Reads.Learnt (One, (case_of 10_000_000, tt)) None
  -- a record with a byte past a field's length is not in form
  pub first_broken_past : Never record-crate.first_broken.Reads.Learnt (
    One,
    (
      record {
        set = 1;
        chip = 0;
        key = field_of (zeros 16);
        nonce = field_of (zeros 16);
        ad = record { bytes = 1 ∷ zeros 255; size = 0 };
        text = field_of [];
        cipher = field_of [];
        tag = field_of (zeros 16);
        rounds = 24;
      },
      tt,
    ),
  )
      None
  -- in form 2 a chip of 65,536 and one with a needless zero are not taken, and what is at fault is not line 2, as form 1 would count
  pub two_chip_past : (column : ℕ) (early : Bool) → Never read_learnt (Two, (lent (ascii "form=2\nset=1\nchip=65536\n"), tt)) (refused_at 4 column early)
  pub two_chip_zeros : (column : ℕ) (early : Bool) → Never read_learnt (Two, (lent (ascii "form=2\nset=1\nchip=00\n"), tt)) (refused_at 4 column early)
  pub two_chip_line : (column : ℕ) (early : Bool) → Never read_learnt (Two, (lent (ascii "form=2\nset=1\nchip=65536\n"), tt)) (refused_at 2 column early)
  -- its last line is not line 8
  pub two_numbered : (column : ℕ) (early : Bool) → Never read_learnt (Two, (lent nine_lines, tt)) (refused_at 8 column early)
  -- a record of form 2 is not read with its chip dropped
  pub two_chip_dropped : Never read_learnt (Two, (lent (nine_lines ++ ascii "rounds=25\n"), tt)) (read_as 161 (case_of 25))
  -- `form=1` is not read as form 1, where the `f` would be at fault, and a lone beginning of the word can still become form 2
  pub any_form_one : (early : Bool) → Never read_any_learnt (lent (ascii "form=1\n"), tt) (refused_at 1 1 early)
  pub any_inside : Never read_any_learnt (lent (ascii "form"), tt) (refused_at 1 1 false)
  -- a record of form 2 is not taken for less than all of it: it is one record, and not two
  pub any_two : (taken : ℕ) (r : Record) → taken < 161 → Never read_any_learnt (lent (nine_lines ++ ascii "rounds=25\n"), tt) (read_as taken r)
  -- a chip over 65,535 is line 3 in form 2, and not in form
  pub first_broken_chip : Never record-crate.first_broken.Reads.Learnt (Two, (with_number 3 65_536 (case_of 24), tt)) None
  pub first_broken_chip_line : Never record-crate.first_broken.Reads.Learnt (Two, (with_number 3 65_536 (case_of 24), tt)) (Some 2)
  -- form 1 does not drop a chip, and says so before it looks at the room
  pub write_chip : (line column written : ℕ)
      → Never write_learnt (One, (with_number 3 7 (case_of 25), (lent_mut (zeros 147), tt))) (record { answer = Done; line = line; column = column; written = written })
  pub write_chip_room : (line column : ℕ)
      → Never write_learnt (One, (with_number 3 7 (case_of 25), (lent_mut [], tt))) (record { answer = NoRoom; line = line; column = column; written = 0 })
