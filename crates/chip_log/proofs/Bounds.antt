-- How long an entry in form is.
use mathlib.Core.Path.{◌≡◌}
use mathlib.Core.Bool.{true}
use Prim.Native.Nat.{ℕ, ◌+◌, ◌≤◌}
use native.Mathlib.Omega.{arith}
use lib.ListN.{length, length-append}
use Rattle.sets.proofs.Rows.{row_sizes}
use Rattle.digits.specs.declared.hex.Case.TheVariants.{Lower}
use Rattle.digits.specs.Ascii.{ascii}
use Rattle.digits.specs.Hex.{hex_in}
use Rattle.digits.specs.Numbers.{numeral}
use Rattle.digits.proofs.Numerals.{places_some, places_least, length_numeral}
use Rattle.digits.proofs.Room.{length_line}
use Rattle.record.specs.declared.field.Field.{Field}
use Rattle.record.specs.Form.{held, allows}
use Rattle.record.proofs.Bounds.{digits_most}
use Rattle.chip_log.specs.declared.form.Call.{Call}
use Rattle.chip_log.specs.declared.form.Call.TheVariants.{Start1, Start2, Ad, Text, Finish}
use Rattle.chip_log.specs.declared.form.Entry.{Entry}
use Rattle.chip_log.specs.Form.{word_of, data_kind, name, line_text, entry_text, value_text}
use Rattle.chip_log.specs.Laws.{InForm, most_bytes}

-- a number of at most seven digits has one or more
numeral_size : (n : ℕ) → n ≤ 9_999_999 → (1 ≤ length (numeral n)) × (length (numeral n) ≤ 7)
numeral_size n h = (omega (arith, length_numeral n, places_some n), omega (arith, length_numeral n, places_least n 6 (omega arith)))

-- the word of a call has at least two letters, and with the digits of its data at most 516 characters
word_data : (call : Call) (f : Field) → allows (data_kind call) 0 f ≡ true → (2 ≤ length (word_of call)) × (length (word_of call) + length (hex_in Lower (held f)) ≤ 516)
word_data Start1 f e = (omega arith, omega (arith, digits_most Lower f _ _ e, (row_sizes 1).key))
word_data Start2 f e = (omega arith, omega (arith, digits_most Lower f _ _ e, (row_sizes 2).key))
word_data Ad f e = (omega arith, omega (arith, digits_most Lower f _ _ e))
word_data Text f e = (omega arith, omega (arith, digits_most Lower f _ _ e))
word_data Finish f e = (omega arith, omega (arith, digits_most Lower f _ _ e))

-- an entry has 33 characters beside its word, its digits and its numerals
entry_length : (e : Entry) → length (entry_text e)
    ≡ 33 + length (word_of e.call) + length (hex_in Lower (held e.input)) + length (numeral e.answer) + length (hex_in Lower (held e.out))
    + length (numeral e.rounds)
unfolding entry_text line_text
entry_length e =
    simp length-append (omega (
      arith,
      length_line (ascii "call=") (word_of e.call),
      length_line (name 2) (value_text 2 e),
      length_line (name 3) (value_text 3 e),
      length_line (name 4) (value_text 4 e),
      length_line (name 5) (value_text 5 e),
    ))

-- an entry in form has at least 37 bytes
pub entry_least : (e : Entry) → InForm e → 37 ≤ length (entry_text e)
entry_least e f =
    omega (arith, entry_length e, (word_data e.call e.input f.input).0, (numeral_size e.answer f.answer).0, (numeral_size e.rounds f.rounds).0)

-- and at most 1,075
pub entry_most : (e : Entry) → InForm e → length (entry_text e) ≤ most_bytes
entry_most e f =
    omega (
      arith,
      entry_length e,
      (word_data e.call e.input f.input).1,
      digits_most Lower e.out 0 256 f.out,
      (numeral_size e.answer f.answer).1,
      (numeral_size e.rounds f.rounds).1,
    )
