-- `moving::all::put_all` meets its contract. The loop's invariant: the records before stand in the place, and what those left come to behind them is what all come
-- to. The measure is the number of bytes left.
use mathlib.Core.Path.{◌≡◌}
use mathlib.Core.List.{List}
use Prim.Native.Nat.{ℕ, ◌≤◌}
use lib.ListN.{length, drop}
use Rattle.digits.specs.Room.{laid, put}
use Rattle.moving.specs.declared.route.Route.{Route}
use Rattle.moving.proofs.Steps.{Left}
use Rattle.moving.proofs.all.put_all.Given as goal

-- what holds before a record is put
pub record Placed (route : Route) (text before out rest : List ℕ) (end number : ℕ) : Type 0 where
  pub at : ℕ
  pub earlier : List ℕ
  pub room : length earlier ≤ length before
  pub left : Left route text at number earlier
  pub done : laid end out ≡ put earlier before
  pub rest_is : rest ≡ drop at text

abbrev pub invariant-loop-rest : goal.invariant-loop-rest
invariant-loop-rest l = Placed l.route l.text l.initial.out l.out l.rest l.end l.number

abbrev pub decreases-loop-rest : goal.decreases-loop-rest
decreases-loop-rest l = length l.rest
