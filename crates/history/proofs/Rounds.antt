-- Round counts add up.
use mathlib.Core.Path.{◌≡◌, refl, sym, ap, ◌∙◌}
use mathlib.Core.Bool.{Bool, true, false, cond}
use Prim.Native.Nat.{ℕ, ◌+◌, ◌-◌, ◌*◌, ◌/◌, ◌≤◌, ◌<◌}
use native.Mathlib.Nat.{mul-add, mul-one, zero-div, mul-zero}
use native.Mathlib.Omega.{arith}
use lib.Dec.{eqb}
use borrow.Author.Tests.{eqb-true}
use Rattle.permutation.specs.Runs.{rounds_of}
use Rattle.ascon.specs.Sets.{ParameterSet}
use Rattle.ascon.specs.Rounds.{ad_blocks, text_blocks, message_rounds}
use Rattle.stream.specs.declared.Phase.TheVariants.{Ad, Text}
use Rattle.stream.specs.Calls.{filled_rounds}
use Rattle.stream.proofs.Tests.{div_mono}
use Rattle.history.specs.History.{rounds_at}

-- the blocks before and the blocks that a piece fills
pub filled_more : (row : ParameterSet) → 0 < row.block → (count n : ℕ)
    → rounds_of row.between * (count / row.block) + filled_rounds row count n ≡ rounds_of row.between * ((count + n) / row.block)
unfolding filled_rounds
filled_more row pos count n =
    let r : ℕ = row.block in
    let up : count / r ≤ (count + n) / r = div_mono count (count + n) pos (omega arith) in
    let all : count / r + ((count + n) / r - count / r) ≡ (count + n) / r = omega arith in
    sym (mul-add (rounds_of row.between) (count / r) ((count + n) / r - count / r)) ∙ ap (λ (k : ℕ). rounds_of row.between * k) all

-- a piece more of data, and of text
pub rounds_ad : (row : ParameterSet) → 0 < row.block → (a n : ℕ) → rounds_at row Ad a 0 + filled_rounds row a n ≡ rounds_at row Ad (a + n) 0
unfolding rounds_at
rounds_ad row pos a n = omega (arith, filled_more row pos a n)

pub rounds_text : (row : ParameterSet) → 0 < row.block → (a t n : ℕ) → rounds_at row Text a t + filled_rounds row t n ≡ rounds_at row Text a (t + n)
unfolding rounds_at
rounds_text row pos a t n = omega (arith, filled_more row pos t n)

-- the whole message's, with the last twelve
pub rounds_whole : (row : ParameterSet) → rounds_of row.ends ≡ 12 → (a t : ℕ) → rounds_at row Text a t + 12 ≡ message_rounds row a t
unfolding rounds_at message_rounds ad_blocks text_blocks
rounds_whole row e a t = go (eqb a 0) refl
  where
    go : (z : Bool) → eqb a 0 ≡ z
        → 12 + rounds_of row.between * (a / row.block) + cond z 0 (rounds_of row.between) + rounds_of row.between * (t / row.block) + 12
        ≡ 2 * rounds_of row.ends + rounds_of row.between * (cond z 0 (a / row.block + 1) + (t / row.block + 1) - 1)
    go true f =
        let b : ℕ = rounds_of row.between in
        let q : ℕ = t / row.block in
        let less : 0 + (q + 1) - 1 ≡ q = omega arith in
        let right : b * (0 + (q + 1) - 1) ≡ b * q = ap (λ (k : ℕ). b * k) less in
        let none : b * (a / row.block) ≡ 0 =
        ap (λ (k : ℕ). b * (k / row.block)) (eqb-true a 0 f) ∙ ap (λ (k : ℕ). b * k) (zero-div row.block) ∙ mul-zero b in
        omega arith
    go false f =
        let b : ℕ = rounds_of row.between in
        let q : ℕ = t / row.block in
        let s : ℕ = a / row.block in
        let less : s + 1 + (q + 1) - 1 ≡ s + (q + 1) = omega arith in
        let right : b * (s + 1 + (q + 1) - 1) ≡ b * s + (b * q + b * 1) =
        ap (λ (k : ℕ). b * k) less ∙ mul-add b s (q + 1) ∙ ap (λ (k : ℕ). b * s + k) (mul-add b q 1) in
        let one : b * 1 ≡ b = mul-one b in
        omega arith
