-- What the two forms have in common: all parts but the form and the chip.
use mathlib.Core.Path.{◌≡◌, refl, ap, ◌∙◌}
use mathlib.Core.Bool.{Bool, true, false, cond}
use mathlib.Core.List.{List}
use mathlib.Core.Logic.{inl, inr}
use Prim.Native.Nat.{ℕ, ◌+◌, ◌≤◌, ◌<◌}
use native.Mathlib.Omega.{arith}
use lib.Dec.{eqb, leb}
use borrow.Author.Tests.{eqb-true, eqb-false, le-leb, lt-leb, not-false}
use Rattle.answers.specs.Numbers.{is_done}
use Rattle.answers.proofs.Numbers.{done_is}
use Rattle.record.specs.declared.form.Form.{Form}
use Rattle.record.specs.declared.form.Form.TheVariants.{One, Two}
use Rattle.record.specs.declared.form.Record.{Record}
use Rattle.record.specs.Form.{part_at, blank, value_kind, keeps, broken}
use Rattle.record.specs.Calls.{read_call}
use Rattle.record.specs.Laws.{TwoForms}
use Rattle.record.proofs.Places.{each_part}
use Rattle.record.proofs.Chains.{rule_broken}
use Rattle.record.proofs.InForm.{Shared, shared_keeps}
use Rattle.record.proofs.Laws.{reads_and_writes, refused_takes}

-- each line of form 1 is one that form 2 has too
one_shared : (line : ℕ) → 1 ≤ line → line ≤ 8 → Shared (part_at One line)
one_shared line h m = go (eqb line 1) refl
  where
    go : (b : Bool) → eqb line 1 ≡ b → Shared (cond b 2 (line + 2))
    go true e = inl refl
    go false e = inr (omega (arith, eqb-false line 1 e), omega arith)

-- a record that is in form 2 is in form 1
two_one : (r : Record) → broken Two r ≡ 0 → broken One r ≡ 0
unfolding broken
two_one r e = rule_broken One 8 1 r (λ m a b. shared_keeps Two r e (part_at One m) (one_shared m a (omega arith)))

-- so what is in either form is in form 1
pub in_one : (form : Form) (r : Record) → broken form r ≡ 0 → broken One r ≡ 0
in_one One r e = e
in_one Two r e = two_one r e

-- the form's own part is always right
form_keeps : (r : Record) → keeps 1 r ≡ true
unfolding keeps value_kind
form_keeps r = refl

-- the chip's is where it has 16 bits
chip_keeps : (r : Record) → keeps 3 r ≡ leb r.chip 65_535
unfolding keeps value_kind
chip_keeps r = rw (le-leb 0 r.chip (omega arith))

-- a record that is in form 1 is in form 2 but for its chip
one_two : (r : Record) → broken One r ≡ 0 → r.chip ≤ 65_535 → broken Two r ≡ 0
unfolding broken
one_two r e h = rule_broken Two 10 1 r (λ m a b. parts m a (omega arith))
  where
    shared : (part : ℕ) → Shared part → keeps part r ≡ true
    shared = shared_keeps One r e

    parts : (part : ℕ) → 1 ≤ part → part ≤ 10 → keeps part r ≡ true
    parts =
        each_part (λ (part : ℕ). keeps part r ≡ true)
        (form_keeps r)
        (shared 2 (inl refl))
        (chip_keeps r ∙ le-leb r.chip 65_535 h)
        (shared 4 (inr (omega arith, omega arith)))
        (shared 5 (inr (omega arith, omega arith)))
        (shared 6 (inr (omega arith, omega arith)))
        (shared 7 (inr (omega arith, omega arith)))
        (shared 8 (inr (omega arith, omega arith)))
        (shared 9 (inr (omega arith, omega arith)))
        (shared 10 (inr (omega arith, omega arith)))

-- a chip over 65,535 is a fault of line 3, behind a known set
chip_over : (r : Record) → keeps 2 r ≡ true → 65_535 < r.chip → broken Two r ≡ 3
unfolding broken
chip_over r e h = rw (form_keeps r, e, chip_keeps r ∙ lt-leb r.chip 65_535 h)

-- what is read in form 1 has chip 0
no_chip : (text : List ℕ) → (read_call One text).content.chip ≡ 0
unfolding blank
no_chip text = go (is_done (read_call One text).answer) refl
  where
    go : (b : Bool) → is_done (read_call One text).answer ≡ b → (read_call One text).content.chip ≡ 0
    go true e =
        let s = (reads_and_writes One).read_in_form text (done_is _ e) in
        eqb-true (read_call One text).content.chip 0 (not-false (eqb (read_call One text).content.chip 0) s.kept)
    go false e = ap (λ (r : Record). r.chip) (refused_takes One text e).1

pub two_forms : TwoForms
two_forms = record { two_one = two_one; one_two = one_two; chip = chip_over; no_chip = no_chip }
