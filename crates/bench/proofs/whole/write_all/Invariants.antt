-- `bench::whole::write_all` meets its contract. The loop's invariant: answers lead to here, one a turn.
use mathlib.Core.Path.{◌≡◌}
use mathlib.Core.List.{List}
use Prim.Native.Nat.{ℕ, ◌≤◌}
use lib.ListN.{length}
use Rattle.bench.specs.Output as output
use Rattle.bench.specs.Progress.{Heard}
use Rattle.bench.specs.Whole.{written_on}
use Rattle.bench.proofs.whole.write_all.Given as goal

-- what holds before each turn
pub record Going (text : List ℕ) (from turn : ℕ) : Type 0 where
  pub answers : List Heard
  pub is : output.Part from ≡ written_on (length text) (output.Part 0) answers
  pub inside : from ≤ length text
  pub count : length answers ≡ turn

abbrev pub invariant-loop : goal.invariant-loop
invariant-loop l = Going l.text l.from l.counter
