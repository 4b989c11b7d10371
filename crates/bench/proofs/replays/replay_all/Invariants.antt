-- `bench::replays::replay_all` meets its contract. The loop's invariant: answers lead to here, one a turn.
use mathlib.Core.Path.{◌≡◌}
use mathlib.Core.List.{List}
use Prim.Native.Nat.{ℕ}
use lib.ListN.{length}
use Rattle.turns.specs.Run.{Reply}
use Rattle.bench.specs.Replays.{Going, begun, replayed_on}
use Rattle.bench.proofs.replays.replay_all.Given as goal

-- what holds before each turn
pub record Led (g : Going) (turn : ℕ) : Type 0 where
  pub replies : List Reply
  pub is : g ≡ replayed_on begun replies
  pub count : length replies ≡ turn

abbrev pub invariant-loop : goal.invariant-loop
invariant-loop l = Led l.replay l.counter
