-- `record::writing::text_length` meets its contract. The loop's invariant: the bytes counted, and those of the lines left, are all.
use mathlib.Core.Path.{◌≡◌}
use Prim.Native.Nat.{◌+◌}
use lib.ListN.{length}
use Rattle.record.specs.Text.{text_of}
use Rattle.record.proofs.Chains.{text_left}
use Rattle.record.proofs.writing.text_length.Given as goal

abbrev pub invariant-loop-line : goal.invariant-loop-line
invariant-loop-line l = l.size + length (text_left l.form l.line l.entry) ≡ length (text_of l.form l.entry)
