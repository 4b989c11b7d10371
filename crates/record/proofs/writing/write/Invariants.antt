-- `record::writing::write` meets its contract. The loop's invariant: the lines before stand in the place, and those left have room.
use mathlib.Core.Path.{◌≡◌}
use mathlib.Core.List.{List}
use Prim.Native.Nat.{ℕ, ◌+◌, ◌-◌}
use lib.ListN.{length}
use Rattle.digits.specs.Room.{laid, put}
use Rattle.record.specs.declared.form.Form.{Form}
use Rattle.record.specs.declared.form.Record.{Record}
use Rattle.record.specs.Text.{text_from, text_of}
use Rattle.record.proofs.Chains.{text_left}
use Rattle.record.proofs.writing.write.Given as goal

-- what holds before a line is put
pub record Left (form : Form) (r : Record) (before out : List ℕ) (at line : ℕ) : Type 0 where
  pub sized : at ≡ length (text_from form (line - 1) 1 r)
  pub sum : at + length (text_left form line r) ≡ length (text_of form r)
  pub done : laid at out ≡ put (text_from form (line - 1) 1 r) before

abbrev pub invariant-loop-line : goal.invariant-loop-line
invariant-loop-line l = Left l.form l.entry l.initial.out l.out l.at l.line
