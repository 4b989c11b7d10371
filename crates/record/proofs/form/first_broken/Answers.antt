-- `record::form::first_broken` meets its contract.
use mathlib.Core.Path.{◌≡◌, sym, ap, ◌∙◌}
use mathlib.Core.Bool.{true, cond}
use Prim.Native.Nat.{ℕ, suc, ◌+◌, ◌-◌, ◌≤◌}
use native.Mathlib.Omega.{arith}
use Rattle.record.specs.declared.form.Form.{Form}
use Rattle.record.specs.declared.form.Record.{Record}
use Rattle.record.specs.Form.{part_at, lines_in, keeps, broken_from, broken}
use Rattle.record.proofs.form.first_broken.Invariants.{left}
use Rattle.record.proofs.form.first_broken.Goals as goal
use Rattle.record.proofs.form.first_broken.Goals.{After-keeps_rule}

-- a line, and those behind it
one_line : (form : Form) (r : Record) (line : ℕ) → line ≤ lines_in form → left form line r ≡ cond (keeps (part_at form line) r) (left form (line + 1) r) line
one_line form r line h = let e : lines_in form + 1 - line ≡ suc (lines_in form + 1 - (line + 1)) = omega arith in rw e

pub loop-line-init : goal.loop-line-init
unfolding broken
loop-line-init c =
    let form = c.args.form in
    let all : lines_in form + 1 - 1 ≡ lines_in form = omega arith in
    ap (λ (k : ℕ). broken_from form k 1 c.args.entry) all

pub loop-line-preserved : goal.loop-line-preserved
loop-line-preserved c =
    let a = c.args in
    let l = c.loop-line in
    let rule : keeps (part_at a.form l.line) a.entry ≡ true = ap (λ (part : ℕ). keeps part a.entry) (sym c.part_at.ensures) ∙ sym c.keeps_rule.ensures ∙ c.if-not-keeps_rule.false in
    let here = one_line a.form a.entry l.line (omega (arith, c.lines-line-end.ensures, c.loop-line-test.true)) in
    sym (rw rule at here) ∙ l.invariant
