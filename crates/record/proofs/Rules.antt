-- What the rule of a part says of its kind, and a part copied into another record.
use mathlib.Core.Path.{◌≡◌, refl, sym, ap, ◌∙◌}
use mathlib.Core.Bool.{Bool, true, false, cond}
use Prim.Native.Nat.{ℕ, ◌≤◌}
use native.Mathlib.Omega.{arith}
use lib.Dec.{eqb, leb}
use lib.ListN.{length}
use borrow.Author.Tests.{le-leb}
use Rattle.ascon.specs.Sets.{table, row_of}
use Rattle.sets.proofs.Rows.{row_sizes}
use Rattle.digits.specs.declared.hex.Case.{Case}
use Rattle.digits.specs.declared.hex.Case.TheVariants.{Lower}
use Rattle.digits.proofs.Spelling.{and_both}
use Rattle.lines.specs.declared.kinds.Value.{Value}
use Rattle.lines.specs.declared.kinds.Value.TheVariants.{Fixed, Number, Bytes}
use Rattle.lines.specs.Laws.{fits}
use Rattle.record.specs.declared.form.Record.{Record}
use Rattle.record.specs.Form.{is_field, is_keyed, number_at, field_at, with_number, with_field, value_kind, allows, keeps}
use Rattle.record.proofs.Places.{each_part}

-- ---- the kinds

-- no more than seven digits, or 256 bytes
abbrev pub small : Value → Bool
small (Fixed own) = true
small (Number least most) = leb most 9_999_999
small (Bytes least most case) = leb most 256

-- each kind fits, so that the reader's law holds of it, and is small, whatever the set
pub kind_tests : (part set : ℕ) → (fits (value_kind part set) ≡ true) × (small (value_kind part set) ≡ true)
unfolding value_kind table
kind_tests part set = go (eqb part 1) (eqb part 2) (eqb part 3) (eqb part 10) (is_keyed part)
  where
    keyed : Value
    keyed = Bytes (row_of set).key (row_of set).key Lower

    go : (a b c d e : Bool)
        → let value = cond a (Fixed 2) (cond b (Number 1 (length table)) (cond c (Number 0 65_535) (cond d (Number 0 9_999_999) (cond e keyed (Bytes 0 256 Lower))))) in
        (fits value ≡ true) × (small value ≡ true)
    go true b c d e = (refl, refl)
    go false true c d e = (refl, refl)
    go false false true d e = (refl, refl)
    go false false false true e = (refl, refl)
    go false false false false true = (le-leb (row_of set).key (row_of set).key (omega arith), le-leb (row_of set).key 256 (omega (arith, (row_sizes set).key)))
    go false false false false false = (refl, refl)

-- a part of bytes that keeps its rule is a field in form
pub bytes_field : (part : ℕ) (r : Record) (least most : ℕ) (case : Case) → value_kind part r.set ≡ Bytes least most case → keeps part r ≡ true → is_field (field_at part r) ≡ true
unfolding keeps
bytes_field part r least most case e k =
    (and_both (is_field (field_at part r)) _ (sym (ap (λ (v : Value). allows v (number_at part r) (field_at part r)) e) ∙ k)).0

-- ---- a part copied

-- a record with what a part of another holds
abbrev pub copied_by : Value → ℕ → Record → Record → Record
copied_by (Fixed own) part r s = s
copied_by (Number least most) part r s = with_number part (number_at part r) s
copied_by (Bytes least most case) part r s = with_field part (field_at part r) s

unfoldable pub copied_part : ℕ → Record → Record → Record
copied_part part r s = copied_by (value_kind part s.set) part r s

-- a part that keeps its rule keeps it where it was copied to, in a record of the same set
pub rule_copied : (part : ℕ) → 1 ≤ part → part ≤ 10 → (r s : Record) → (3 ≤ part → s.set ≡ r.set) → keeps part r ≡ true → keeps part (copied_part part r s) ≡ true
unfolding keeps value_kind copied_part with_number with_field
rule_copied =
    each_part (λ (part : ℕ). (r s : Record) → (3 ≤ part → s.set ≡ r.set) → keeps part r ≡ true → keeps part (copied_part part r s) ≡ true)
    (λ r s e k. k)
    (λ r s e k. k)
    (λ r s e k. k)
    (λ r s e k. rw (e (omega arith)) k)
    (λ r s e k. rw (e (omega arith)) k)
    (λ r s e k. k)
    (λ r s e k. k)
    (λ r s e k. k)
    (λ r s e k. rw (e (omega arith)) k)
    (λ r s e k. k)

-- behind the set's own part a copy leaves the set
pub set_copied : (part : ℕ) → 1 ≤ part → part ≤ 10 → (r s : Record) → (part ≡ 2 → ⊥) → (copied_part part r s).set ≡ s.set
unfolding value_kind copied_part with_number with_field
set_copied =
    each_part (λ (part : ℕ). (r s : Record) → (part ≡ 2 → ⊥) → (copied_part part r s).set ≡ s.set)
    (λ r s h. refl)
    (λ r s h. absurd (h refl))
    (λ r s h. refl)
    (λ r s h. refl)
    (λ r s h. refl)
    (λ r s h. refl)
    (λ r s h. refl)
    (λ r s h. refl)
    (λ r s h. refl)
    (λ r s h. refl)
