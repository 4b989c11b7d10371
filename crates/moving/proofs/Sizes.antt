-- How long the texts of a record are, before it is moved and then.
use mathlib.Core.Path.{◌≡◌}
use mathlib.Core.Logic.{inr}
use Prim.Native.Nat.{ℕ, ◌+◌, ◌*◌, ◌≤◌}
use native.Mathlib.Omega.{arith}
use lib.Dec.{eqb, leb}
use lib.ListN.{length, length-append}
use borrow.Author.Tests.{eqb-true, not-false, leb-true}
use Rattle.sets.proofs.Rows.{one_digit}
use Rattle.digits.specs.declared.hex.Case.TheVariants.{Lower}
use Rattle.digits.specs.Numbers.{numeral}
use Rattle.digits.proofs.Spelling.{and_both, length_hex}
use Rattle.digits.proofs.Numerals.{places_least, length_numeral}
use Rattle.record.specs.declared.form.Form.{Form}
use Rattle.record.specs.declared.form.Form.TheVariants.{One, Two}
use Rattle.record.specs.declared.form.Record.{Record}
use Rattle.record.specs.Form.{held, lines_in, value_kind, keeps, broken}
use Rattle.record.specs.Text.{names, name, value_text, line_text, text_from, text_of, most_bytes}
use Rattle.record.proofs.Lines.{line_length}
use Rattle.record.proofs.Chains.{broken_rule}
use Rattle.record.proofs.Bounds.{text_most}
use Rattle.record.proofs.InForm as InForm
use Rattle.record.proofs.InForm.{shared_keeps}
use Rattle.entry.proofs.Bounds.{entry_length, entry_most}
use Rattle.entry.proofs.Table.{few_digits}
use Rattle.moving.specs.declared.route.Route.{Route}
use Rattle.moving.specs.declared.route.Route.TheVariants.{Forward, Back, Import, Export}
use Rattle.moving.specs.Moves.{text_by}
use Rattle.moving.specs.Laws.{source_by, Counts, Movable, most_by}
use Rattle.moving.proofs.Routes.{in_form}

-- form 2 has the lines of form 1, and those of the form and the chip
two_length : (r : Record) → length (text_of Two r) ≡ length (text_of One r) + (length (line_text 1 r) + length (line_text 3 r))
unfolding text_of
two_length r =
    omega (
      arith,
      length-append (line_text 1 r) (text_from Two 9 2 r),
      length-append (line_text 2 r) (text_from Two 8 3 r),
      length-append (line_text 3 r) (text_from Two 7 4 r),
      length-append (line_text 2 r) (text_from One 7 2 r),
    )

-- form 1 has 48 bytes, the digits of set and rounds, and two digits for each byte of the fields
one_length : (r : Record) → length (text_of One r)
    ≡ 48 + length (numeral r.set) + length (numeral r.rounds)
    + 2 * (length (held r.key) + length (held r.nonce) + length (held r.ad) + length (held r.text) + length (held r.cipher) + length (held r.tag))
unfolding text_of name names value_text value_kind
one_length r =
    simp length-append (omega (
      arith,
      line_length 2 r,
      line_length 4 r,
      line_length 5 r,
      line_length 6 r,
      line_length 7 r,
      line_length 8 r,
      line_length 9 r,
      line_length 10 r,
      length_hex Lower (held r.key),
      length_hex Lower (held r.nonce),
      length_hex Lower (held r.ad),
      length_hex Lower (held r.text),
      length_hex Lower (held r.cipher),
      length_hex Lower (held r.tag),
    ))

-- a record's text has a byte
pub some_source : (route : Route) (number : ℕ) (r : Record) → 1 ≤ length (source_by route number r)
some_source Forward number r = omega (arith, one_length r)
some_source Back number r = omega (arith, two_length r, one_length r)
some_source (Import set) number r = omega (arith, entry_length number r)
some_source Export number r = omega (arith, one_length r)

-- in a record in form the set has one digit, and the rounds have at most seven
few_digits_in : (r : Record) → broken One r ≡ 0 → (length (numeral r.set) ≤ 1) × (length (numeral r.rounds) ≤ 7)
unfolding keeps value_kind
few_digits_in r e =
    let rounds = and_both (leb 0 r.rounds) _ (shared_keeps One r e 10 (inr (omega arith, omega arith))) in (
      omega (arith, length_numeral r.set, places_least r.set 0 (omega (arith, one_digit r.set (InForm.in_form One r e).known))),
      omega (arith, length_numeral r.rounds, places_least r.rounds 6 (omega (arith, leb-true r.rounds 9_999_999 rounds.1))),
    )

-- the text of a record in form has no more than the most bytes of the form
form_most : (form : Form) (r : Record) → broken form r ≡ 0 → length (text_of form r) ≤ most_bytes form
unfolding text_of broken
form_most form r e = text_most form (lines_in form) (omega arith) r (broken_rule form (lines_in form) 1 r (omega arith) e)

-- a record that is moved has no more than the most bytes
pub most : (route : Route) (number : ℕ) → Counts route number → (r : Record) → Movable route r → length (text_by route number r) ≤ most_by route
most Forward number c r (s, k) = form_most Two r (in_form Forward r s)
most Back number c r (s, k) = form_most One r (in_form Back r s)
most (Import set) number c r (s, k) = form_most One r (in_form (Import set) r s)
most Export number c r (s, k) = entry_most number c r (in_form Export r s)

-- its text is at most twice as long as before
pub doubled : (route : Route) (number : ℕ) → Counts route number → (r : Record) → Movable route r → length (text_by route number r) ≤ 2 * length (source_by route number r)
unfolding name names value_text value_kind
doubled Forward number c r (s, k) =
    let none : r.chip ≡ 0 = eqb-true r.chip 0 (not-false (eqb r.chip 0) s.kept) in
    omega (arith, two_length r, one_length r, line_length 1 r, line_length 3 r, length_numeral r.chip, places_least r.chip 0 (omega arith))
doubled Back number c r (s, k) = omega (arith, two_length r)
doubled (Import set) number c r (s, k) =
    let d = few_digits_in r s.spellable.in_form in
    omega (arith, one_length r, entry_length number r, d.0, d.1)
doubled Export number c r (s, k) = omega (arith, one_length r, entry_length number r, few_digits number c)
