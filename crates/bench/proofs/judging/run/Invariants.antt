-- `bench::judging::run` meets its contract. The loop's invariant: the program stands where answers lead to, one a turn.
use mathlib.Core.Path.{◌≡◌}
use mathlib.Core.List.{List}
use Prim.Native.Nat.{ℕ}
use lib.ListN.{length}
use Rattle.turns.specs.Run.{Standing, Reply, ran}
use Rattle.bench.proofs.judging.run.Given as goal

-- what holds before each turn
pub record Going (standing : Standing) (turn : ℕ) : Type 0 where
  pub replies : List Reply
  pub is : standing ≡ ran replies
  pub count : length replies ≡ turn

abbrev pub invariant-loop : goal.invariant-loop
invariant-loop l = Going l.judging l.counter
