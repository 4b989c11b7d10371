-- How long lines that keep their rules can be.
use mathlib.Core.Path.{◌≡◌}
use mathlib.Core.Bool.{Bool, true, ◌&&◌}
use mathlib.Core.List.{[], ◌∷◌}
use Prim.Native.Nat.{ℕ, zero, suc, ◌+◌, ◌-◌, ◌*◌, ◌≤◌}
use native.Mathlib.Omega.{arith}
use lib.Dec.{leb, lit≤}
use lib.ListN.{length, get_or, length-append, length-take}
use borrow.Author.Tests.{leb-true}
use Rattle.digits.specs.Hex.{hex_in}
use Rattle.digits.proofs.Spelling.{and_both, length_hex}
use Rattle.digits.proofs.Numerals.{places_least, length_numeral}
use Rattle.digits.specs.declared.hex.Case.{Case}
use Rattle.digits.specs.declared.hex.Case.TheVariants.{Lower}
use Rattle.ascon.specs.Sets.{is_set, row_of}
use Rattle.sets.proofs.Rows.{one_digit, row_sizes}
use Rattle.lines.specs.declared.kinds.Value.{Value}
use Rattle.lines.specs.declared.kinds.Value.TheVariants.{Fixed, Number, Bytes}
use Rattle.record.specs.declared.field.Field.{Field}
use Rattle.record.specs.declared.form.Form.{Form}
use Rattle.record.specs.declared.form.Form.TheVariants.{One, Two}
use Rattle.record.specs.declared.form.Record.{Record}
use Rattle.record.specs.Form.{held, is_field, part_at, lines_in, number_at, field_at, value_kind, allows, keeps}
use Rattle.record.specs.Text.{names, name, spelled_as, value_text, line_text, text_from, most_bytes}
use Rattle.record.proofs.Fields.{held_most}
use Rattle.record.proofs.Places.{each_part, part_is}
use Rattle.record.proofs.Rules.{small, kind_tests}
use Rattle.record.proofs.Lines.{line_length}
use Rattle.record.proofs.Chains.{Sound}

-- the digits of a field in form
field_hex_most : (case : Case) (f : Field) (t : Bool) → (is_field f && t) ≡ true → length (hex_in case (held f)) ≤ 512
field_hex_most case f t e = omega (arith, length_hex case (held f), held_most f (and_both (is_field f) t e).0)

-- a field has at most two digits for each byte that it says
pub field_digits : (case : Case) (f : Field) → length (hex_in case (held f)) ≤ 2 * f.size
field_digits case f = omega (arith, length_hex case (held f), length-take f.size f.bytes)

-- so one of at most so many bytes has at most twice as many
pub digits_most : (case : Case) (f : Field) (least most : ℕ) → (is_field f && (leb least f.size && leb f.size most)) ≡ true → length (hex_in case (held f)) ≤ 2 * most
digits_most case f least most e =
    let b = and_both (is_field f) _ e in
    omega (arith, field_digits case f, leb-true f.size most (and_both (leb least f.size) _ b.1).1)

-- no value that is allowed has more than 512 digits
allowed_most : (value : Value) → small value ≡ true → (n : ℕ) (f : Field) → allows value n f ≡ true → length (spelled_as value n f) ≤ 512
allowed_most (Fixed own) s n f k = omega arith
allowed_most (Number least most) s n f k =
    let few : n ≤ 9_999_999 = omega (arith, leb-true n most (and_both (leb least n) _ k).1, leb-true most 9_999_999 s) in
    omega (arith, length_numeral n, places_least n 6 (omega arith))
allowed_most (Bytes least most case) s n f k = field_hex_most case f _ k

-- so of a part that keeps its rule
pub value_most : (part : ℕ) (r : Record) → keeps part r ≡ true → length (value_text part r) ≤ 512
unfolding value_text keeps
value_most part r k = allowed_most (value_kind part r.set) (kind_tests part r.set).1 (number_at part r) (field_at part r) k

-- the most bytes of a part's line
abbrev most : ℕ → ℕ
most part = get_or (7 ∷ 6 ∷ 11 ∷ 37 ∷ 39 ∷ 516 ∷ 518 ∷ 520 ∷ 37 ∷ 15 ∷ []) (part - 1) 0

-- a part that keeps its rule has no more
line_most : (part : ℕ) → 1 ≤ part → part ≤ 10 → (r : Record) → keeps part r ≡ true → length (line_text part r) ≤ most part
unfolding keeps value_kind is_set name names value_text
line_most =
    each_part (λ (part : ℕ). (r : Record) → keeps part r ≡ true → length (line_text part r) ≤ most part)
    (λ r k. omega (arith, line_length 1 r))
    (λ r k. omega (arith, line_length 2 r, length_numeral r.set, places_least r.set 0 (omega (arith, one_digit r.set k))))
    (λ r k. omega (arith, line_length 3 r, length_numeral r.chip, places_least r.chip 4 (omega (arith, leb-true r.chip 65_535 (and_both (leb 0 r.chip) _ k).1))))
    (λ r k. omega (arith, line_length 4 r, digits_most Lower r.key (row_of r.set).key (row_of r.set).key k, (row_sizes r.set).key))
    (λ r k. omega (arith, line_length 5 r, digits_most Lower r.nonce (row_of r.set).key (row_of r.set).key k, (row_sizes r.set).key))
    (λ r k. omega (arith, line_length 6 r, field_hex_most Lower r.ad _ k))
    (λ r k. omega (arith, line_length 7 r, field_hex_most Lower r.text _ k))
    (λ r k. omega (arith, line_length 8 r, field_hex_most Lower r.cipher _ k))
    (λ r k. omega (arith, line_length 9 r, digits_most Lower r.tag (row_of r.set).key (row_of r.set).key k, (row_sizes r.set).key))
    (λ r k. omega (arith, line_length 10 r, length_numeral r.rounds, places_least r.rounds 6 (omega (arith, leb-true r.rounds 9_999_999 (and_both (leb 0 r.rounds) _ k).1))))

-- the most bytes that k lines of a form can have, from a line on
abbrev room : Form → ℕ → ℕ → ℕ
room form zero line = 0
room form (suc k) line = most (part_at form line) + room form k (line + 1)

-- lines that keep their rules have no more
text_room : (form : Form) (k line : ℕ) → 1 ≤ line → line + k ≤ lines_in form + 1 → (r : Record) → Sound form k line r → length (text_from form k line r) ≤ room form k line
text_room form zero line h m r e = omega arith
text_room form (suc k) line h m r e =
    let is = part_is form line h (omega arith) in
    rw (length-append (line_text (part_at form line) r) (text_from form k (line + 1) r))
    (omega (
      arith,
      line_most (part_at form line) is.0 is.1 r (e line (omega arith) (omega arith)),
      text_room form k (line + 1) (omega arith) (omega arith) r (λ i a b. e i (omega arith) (omega arith)),
    ))

-- no more lines of a form than it has take more room than they all
room_most : (form : Form) (k : ℕ) → k ≤ lines_in form → room form k 1 ≤ most_bytes form
room_most form zero h = omega arith
room_most One (suc k) h = each_part (λ (n : ℕ). n ≤ 8 → room One n 1 ≤ 1_688) (λ a. lit≤ tt) (λ a. lit≤ tt) (λ a. lit≤ tt) (λ a. lit≤ tt) (λ a. lit≤ tt) (λ a. lit≤ tt) (λ a. lit≤ tt) (λ a. lit≤ tt) (λ a. absurd (omega arith)) (λ a. absurd (omega arith)) (suc k) (omega arith) (omega arith) h
room_most Two (suc k) h = each_part (λ (n : ℕ). room Two n 1 ≤ 1_706) (lit≤ tt) (lit≤ tt) (lit≤ tt) (lit≤ tt) (lit≤ tt) (lit≤ tt) (lit≤ tt) (lit≤ tt) (lit≤ tt) (lit≤ tt) (suc k) (omega arith) h

-- no lines that keep their rules have more than the most bytes of their form
pub text_most : (form : Form) (k : ℕ) → k ≤ lines_in form → (r : Record) → Sound form k 1 r → length (text_from form k 1 r) ≤ most_bytes form
text_most form k h r e = omega (arith, text_room form k 1 (omega arith) (omega arith) r e, room_most form k h)

-- no form has more than 1,706
pub few_bytes : (form : Form) → most_bytes form ≤ 1_706
few_bytes One = omega arith
few_bytes Two = omega arith
