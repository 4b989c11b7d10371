-- `moving::all::measure` meets its contract. The loop's invariant: what the records left come to, behind those measured, is what all come to. The measure is the
-- number of bytes left.
use mathlib.Core.Path.{◌≡◌}
use mathlib.Core.Bool.{true}
use mathlib.Core.List.{List}
use Prim.Native.Nat.{ℕ}
use lib.ListN.{length, drop}
use Rattle.moving.specs.declared.route.Route.{Route}
use Rattle.moving.specs.Moves.{is_known}
use Rattle.moving.proofs.Steps.{Left}
use Rattle.moving.proofs.all.measure.Given as goal

-- what holds before a record is measured
pub record Measured (route : Route) (text scratch rest : List ℕ) (records written : ℕ) : Type 0 where
  pub at : ℕ
  pub before : List ℕ
  pub places : length scratch ≡ 1_706
  pub sum : written ≡ length before
  pub known : is_known route ≡ true
  pub left : Left route text at records before
  pub rest_is : rest ≡ drop at text

abbrev pub invariant-loop-rest : goal.invariant-loop-rest
invariant-loop-rest l = Measured l.route l.text l.scratch l.rest l.records l.written

abbrev pub decreases-loop-rest : goal.decreases-loop-rest
decreases-loop-rest l = length l.rest
