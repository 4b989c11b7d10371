-- `digits::hex::put_bytes` meets its contract. The loop's invariant: the digits of the bytes put stand before what was there.
use mathlib.Core.Path.{◌≡◌}
use mathlib.Core.List.{List, ◌++◌}
use Prim.Native.Nat.{ℕ, ◌*◌}
use lib.ListN.{take, drop}
use Rattle.digits.specs.declared.hex.Case.{Case}
use Rattle.digits.specs.Hex.{hex_in}
use Rattle.digits.proofs.hex.put_bytes.Given as goal

-- a place with the digits of the first i bytes put
abbrev pub spelt : Case → List ℕ → List ℕ → ℕ → List ℕ
spelt case x out i = hex_in case (take i x) ++ drop (2 * i) out

abbrev pub invariant-loop-i : goal.invariant-loop-i
invariant-loop-i l = l.out ≡ spelt l.case l.bytes l.initial.out l.i
