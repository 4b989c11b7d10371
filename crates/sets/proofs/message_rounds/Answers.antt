-- `sets::message_rounds` meets its contract.
use mathlib.Core.Path.{◌≡◌, ap}
use Prim.Native.Nat.{ℕ, ◌+◌, ◌-◌, ◌*◌, ◌/◌, ◌≤◌}
use native.Mathlib.Nat.{div-le_self, mul-le-mul_right}
use native.Mathlib.Omega.{arith}
use Rattle.permutation.specs.Runs.{rounds_of, constants_of, constants}
use Rattle.ascon.specs.Rounds.{text_blocks, message_rounds}
use Rattle.sets.proofs.Rows.{row_sizes}
use Rattle.sets.proofs.message_rounds.Goals as goal

-- the rounds of all blocks are few
few : (rounds ad text block : ℕ) → rounds ≤ 8 → ad ≤ 4_294_967_296 → text ≤ 4_294_967_295 → rounds * (ad + text / block) ≤ 68_719_476_728
few rounds ad text block r d t =
    let most : rounds * (ad + text / block) ≤ 8 * (ad + text / block) = mul-le-mul_right (ad + text / block) r in
    omega (arith, div-le_self text block)

pub nonzero_div-blocks : goal.nonzero_div-blocks
nonzero_div-blocks c = rw c.block_length.ensures (row_sizes c.args.set).some_block

pub overflow_mul-result : goal.overflow_mul-result
overflow_mul-result c =
    omega (arith, few c.rounds_between.result c.ad_blocks.result c.args.text c.block_length.result (rw c.rounds_between.ensures (row_sizes c.args.set).rounds) c.ad_blocks.ensures.upper_bound (omega arith))

pub overflow_add-result : goal.overflow_add-result
overflow_add-result c =
    omega (arith, few c.rounds_between.result c.ad_blocks.result c.args.text c.block_length.result (rw c.rounds_between.ensures (row_sizes c.args.set).rounds) c.ad_blocks.ensures.upper_bound (omega arith))

pub returns : goal.returns
unfolding message_rounds text_blocks rounds_of constants_of constants
returns c =
    let a = c.args in
    let d = c.ad_blocks.result in
    let q = a.text / c.block_length.result in
    let blocks : d + q ≡ d + (q + 1) - 1 = omega arith in
    rw ((row_sizes a.set).ends, ← c.rounds_between.ensures, ← c.ad_blocks.ensures.value, ← c.block_length.ensures)
    (ap (λ (n : ℕ). 24 + c.rounds_between.result * n) blocks)
