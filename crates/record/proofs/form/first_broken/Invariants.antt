-- `record::form::first_broken` meets its contract. The loop's invariant: the lines left decide.
use mathlib.Core.Path.{◌≡◌}
use Prim.Native.Nat.{ℕ, ◌+◌, ◌-◌}
use Rattle.record.specs.declared.form.Form.{Form}
use Rattle.record.specs.declared.form.Record.{Record}
use Rattle.record.specs.Form.{lines_in, broken_from, broken}
use Rattle.record.proofs.form.first_broken.Given as goal

-- the lines from one on
abbrev pub left : Form → ℕ → Record → ℕ
left form line r = broken_from form (lines_in form + 1 - line) line r

abbrev pub invariant-loop-line : goal.invariant-loop-line
invariant-loop-line l = left l.form l.line l.entry ≡ broken l.form l.entry
