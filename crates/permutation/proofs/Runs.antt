-- A run, one round after the other, with the constants as the code computes them.
use mathlib.Core.Path.{◌≡◌}
use Prim.Native.Nat.{ℕ, ◌+◌, ◌-◌, ◌*◌, ◌≤◌, ◌<◌}
use native.Mathlib.Omega.{arith}
use native.Mathlib.Numerals.{add-one}
use lib.Dec.{eqb, eqb→eq}
use lib.ListN.{get_or}
use lib.Seq.{slice, slice-cons, slice_empty}
use Rattle.permutation.specs.declared.State.{State}
use Rattle.permutation.specs.Round.{round}
use Rattle.permutation.specs.Runs.{constants, rounds}
use Rattle.permutation.proofs.Test.{at}

-- the constant of round i, computed
constant_at : (i : ℕ) → i < 12 → get_or constants i 0 ≡ 0xf0 - 0x0f * i
unfolding constants
constant_at i h = eqb→eq _ _ (at 12 (λ j. eqb (get_or constants j 0) (0xf0 - 0x0f * j)) tt i h)

-- round i is the first of those that are left
pub rounds_next : (i end : ℕ) (s : State) → i < end → end ≤ 12
    → rounds (slice i end constants) s ≡ rounds (slice (i + 1) end constants) (round (0xf0 - 0x0f * i) s)
unfolding rounds constants
rounds_next i end s h l = rw (add-one, ← constant_at i (omega arith), slice-cons i end constants 0 h l)

-- none is left
pub rounds_done : (end : ℕ) (s : State) → rounds (slice end end constants) s ≡ s
unfolding rounds
rounds_done end s = rw slice_empty
