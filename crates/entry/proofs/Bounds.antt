-- Which fields the lines of an entry join, and how long they are for a record in form.
use mathlib.Core.Path.{◌≡◌, refl, sym, ap, ◌∙◌}
use mathlib.Core.Bool.{Bool, true, false, cond}
use mathlib.Core.List.{List, [], ◌∷◌, ◌++◌, append-nil}
use Prim.Native.Nat.{ℕ, zero, suc, ◌+◌, ◌-◌, ◌*◌, ◌≤◌}
use native.Mathlib.Omega.{arith}
use lib.Dec.{eqb}
use lib.ListN.{length, get_or, length-append}
use borrow.Author.Tests.{eqb-true, eqb-false}
use Rattle.ascon.specs.Sets.{row_of}
use Rattle.sets.proofs.Rows.{row_sizes}
use Rattle.digits.specs.declared.hex.Case.TheVariants.{Upper}
use Rattle.digits.specs.Ascii.{ascii}
use Rattle.digits.specs.Hex.{hex_in}
use Rattle.digits.specs.Numbers.{numeral}
use Rattle.digits.proofs.Spelling.{length_hex, hex_append}
use Rattle.digits.proofs.Room.{length_line}
use Rattle.record.specs.declared.field.Field.{Field}
use Rattle.record.specs.declared.form.Form.TheVariants.{One}
use Rattle.record.specs.declared.form.Record.{Record}
use Rattle.record.specs.Form.{field_of, held, broken}
use Rattle.record.proofs.Bounds.{field_digits}
use Rattle.record.proofs.InForm.{InForm, in_form}
use Rattle.entry.specs.Form.{largest_number, name, bytes_at, line_text, entry_text}
use Rattle.entry.proofs.Table.{name_few}

-- ---- the fields of a line

-- the field that stands behind the name of a line; the empty one where none does
abbrev pub first_at : ℕ → Record → Field
first_at line r = get_or (field_of [] ∷ r.key ∷ r.nonce ∷ r.text ∷ r.ad ∷ r.cipher ∷ []) (line - 1) (field_of [])

-- the field behind that
abbrev pub second_at : ℕ → Record → Field
second_at line r = cond (eqb line 6) r.tag (field_of [])

-- the bytes of a line are those of its two fields
pub bytes_two : (line : ℕ) (r : Record) → bytes_at line r ≡ held (first_at line r) ++ held (second_at line r)
unfolding bytes_at field_of
bytes_two line r = go (eqb line 6) refl
  where
    -- any other line has one field
    one : (i : ℕ) → (i ≡ 5 → ⊥)
        → get_or ([] ∷ held r.key ∷ held r.nonce ∷ held r.text ∷ held r.ad ∷ (held r.cipher ++ held r.tag) ∷ []) i []
        ≡ held (get_or (field_of [] ∷ r.key ∷ r.nonce ∷ r.text ∷ r.ad ∷ r.cipher ∷ []) i (field_of []))
    one zero h = refl
    one (suc zero) h = refl
    one (suc (suc zero)) h = refl
    one (suc (suc (suc zero))) h = refl
    one (suc (suc (suc (suc zero)))) h = refl
    one (suc (suc (suc (suc (suc zero))))) h = absurd (h refl)
    one (suc (suc (suc (suc (suc (suc i)))))) h = refl

    go : (t : Bool) → eqb line 6 ≡ t → bytes_at line r ≡ held (first_at line r) ++ held (cond t r.tag (field_of []))
    go true e = rw (eqb-true line 6 e)
    go false e = one (line - 1) (λ f. eqb-false line 6 e (omega arith)) ∙ sym (append-nil (held (first_at line r)))

-- ---- how long they are

-- a line has its name's bytes, its digits, and one more
line_length : (number line : ℕ) (r : Record) → length (line_text number line r) ≡ length (name number line) + length (hex_in Upper (bytes_at line r)) + 1
unfolding line_text
line_length number line r = length_line (name number line) (hex_in Upper (bytes_at line r))

module _ (r : Record) (e : broken One r ≡ 0) where
  -- the first field of a line says at most 256 bytes
  pub first_few : (line : ℕ) → (first_at line r).size ≤ 256
  unfolding field_of
  first_few line = go (line - 1)
    where
      sizes : InForm r
      sizes = in_form One r e

      key : (row_of r.set).key ≤ 16
      key = (row_sizes r.set).key

      go : (i : ℕ) → (get_or (field_of [] ∷ r.key ∷ r.nonce ∷ r.text ∷ r.ad ∷ r.cipher ∷ []) i (field_of [])).size ≤ 256
      go zero = omega arith
      go (suc zero) = omega (arith, sizes.key, key)
      go (suc (suc zero)) = omega (arith, sizes.nonce, key)
      go (suc (suc (suc zero))) = sizes.text
      go (suc (suc (suc (suc zero)))) = sizes.ad
      go (suc (suc (suc (suc (suc zero))))) = sizes.cipher
      go (suc (suc (suc (suc (suc (suc i)))))) = omega arith

  -- the second says at most 16
  pub second_few : (line : ℕ) → (second_at line r).size ≤ 16
  unfolding field_of
  second_few line = go (eqb line 6)
    where
      go : (t : Bool) → (cond t r.tag (field_of [])).size ≤ 16
      go true = omega (arith, (in_form One r e).tag, (row_sizes r.set).key)
      go false = omega arith

  -- the digits of both are at most 544
  pub digits_few : (line : ℕ) → length (hex_in Upper (bytes_at line r)) ≤ 544
  digits_few line =
      let first = first_at line r in
      let second = second_at line r in
      let two = ap (λ (x : List ℕ). length (hex_in Upper x)) (bytes_two line r) ∙ ap length (hex_append Upper (held first) (held second)) in
      omega (
        arith,
        two,
        length-append (hex_in Upper (held first)) (hex_in Upper (held second)),
        field_digits Upper first,
        field_digits Upper second,
        first_few line,
        second_few line,
      )

-- the entry of a record in form, whose number has 64 bits, has at most 1,696 bytes
pub entry_most : (number : ℕ) → number ≤ largest_number → (r : Record) → broken One r ≡ 0 → length (entry_text number r) ≤ 1_696
unfolding entry_text name bytes_at
entry_most number h r e =
    let sizes = in_form One r e in
    let key = (row_sizes r.set).key in
    let count : length (line_text number 1 r) ≤ 29 = omega (arith, line_length number 1 r, name_few number h 1) in
    let keys : length (line_text number 2 r) ≤ 39 = omega (arith, line_length number 2 r, field_digits Upper r.key, sizes.key, key) in
    let nonce : length (line_text number 3 r) ≤ 41 = omega (arith, line_length number 3 r, field_digits Upper r.nonce, sizes.nonce, key) in
    let text : length (line_text number 4 r) ≤ 518 = omega (arith, line_length number 4 r, field_digits Upper r.text, sizes.text) in
    let ad : length (line_text number 5 r) ≤ 518 = omega (arith, line_length number 5 r, field_digits Upper r.ad, sizes.ad) in
    let cipher : length (line_text number 6 r) ≤ 550 = omega (arith, line_length number 6 r, digits_few r e 6) in
    let none : length (line_text number 7 r) ≤ 1 = omega (arith, line_length number 7 r) in
    simp length-append (omega arith)

-- an entry has 44 bytes, the digits of its number, and two digits for each byte of the fields
pub entry_length : (number : ℕ) (r : Record) → length (entry_text number r)
    ≡ 44 + length (numeral number)
    + 2 * (length (held r.key) + length (held r.nonce) + length (held r.ad) + length (held r.text) + length (held r.cipher) + length (held r.tag))
unfolding entry_text name bytes_at
entry_length number r =
    simp length-append (omega (
      arith,
      line_length number 1 r,
      line_length number 2 r,
      line_length number 3 r,
      line_length number 4 r,
      line_length number 5 r,
      line_length number 6 r,
      line_length number 7 r,
      length-append (ascii "Count = ") (numeral number),
      length_hex Upper (held r.key),
      length_hex Upper (held r.nonce),
      length_hex Upper (held r.ad),
      length_hex Upper (held r.text),
      length_hex Upper (held r.cipher ++ held r.tag),
      length-append (held r.cipher) (held r.tag),
    ))
