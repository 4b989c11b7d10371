-- `bench::whole::read_all` meets its contract. The loop's invariant: answers lead to here, one a turn.
use mathlib.Core.Path.{◌≡◌}
use mathlib.Core.List.{List}
use Prim.Native.Nat.{ℕ, ◌≤◌}
use lib.ListN.{length}
use Rattle.turns.specs.Run.{Reply}
use Rattle.bench.specs.Input as input
use Rattle.bench.specs.Whole.{nothing, read_on, shown}
use Rattle.bench.proofs.whole.read_all.Given as goal

-- what holds before each turn
pub record Going (place₀ place : List ℕ) (filled turn : ℕ) : Type 0 where
  pub replies : List Reply
  pub is : shown (input.Part filled) place ≡ read_on (length place₀) nothing replies
  pub inside : filled ≤ length place₀
  pub count : length replies ≡ turn

abbrev pub invariant-loop : goal.invariant-loop
invariant-loop l = Going l.initial.place l.place l.filled l.counter
