-- `timing::kvistmaur_read_digits` meets its contract. The loop's invariant: reading on from its place gives what reading from the front of the first text
-- gives.
use mathlib.Core.Path.{◌≡◌}
use mathlib.Core.List.{List, [], ◌∷◌}
use Prim.Native.Nat.{ℕ, zero, suc}
use Rattle.timing.specs.Call.{Called, called, front, read_digits}
use Rattle.timing.proofs.kvistmaur_read_digits.Given as goal

-- the reading of a text whose first i digits are their values already
abbrev pub read_from : ℕ → List ℕ → Called
read_from zero text = read_digits text
read_from (suc i) [] = called 0 []
read_from (suc i) (value ∷ text) = front value (read_from i text)

abbrev pub invariant-loop-i : goal.invariant-loop-i
invariant-loop-i l = read_from l.i l.text ≡ read_digits l.initial.text
