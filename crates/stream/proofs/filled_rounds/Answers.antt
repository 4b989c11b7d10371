-- `stream::filled_rounds` meets its contract: the rounds are few.
use mathlib.Core.Path.{◌≡◌, ap₂}
use Prim.Native.Nat.{ℕ, ◌+◌, ◌-◌, ◌*◌, ◌/◌}
use native.Mathlib.Omega.{arith}
use Rattle.ascon.specs.Sets.{row_of}
use Rattle.sets.proofs.Rows.{row_sizes}
use Rattle.stream.specs.Calls.{filled_rounds}
use Rattle.stream.proofs.Tests.{rounds_bound}
use Rattle.stream.proofs.filled_rounds.Goals as goal

pub overflow_mul-result : goal.overflow_mul-result
unfolding filled_rounds
overflow_mul-result c =
    let a = c.args in
    let b = c.block_length-block.result in
    let product : c.rounds_between.result * ((a.count + a.n) / b - a.count / b) ≡ filled_rounds (row_of a.set) a.count a.n =
    ap₂ (λ (r b : ℕ). r * ((a.count + a.n) / b - a.count / b)) c.rounds_between.ensures c.block_length-block.ensures in
    omega (arith, product, rounds_bound (row_of a.set) (row_sizes a.set) a.count a.n (omega arith))
