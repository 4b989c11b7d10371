-- A message runs few rounds.
use mathlib.Core.Path.{◌≡◌, refl}
use mathlib.Core.Bool.{Bool, true, false, cond}
use mathlib.Core.List.{List}
use mathlib.Core.Option.{Option, some, none}
use Prim.Native.Nat.{ℕ, ◌+◌, ◌-◌, ◌*◌, ◌/◌, ◌≤◌}
use native.Mathlib.Nat.{div-le_self, mul-le-mul_right}
use native.Mathlib.Omega.{arith}
use lib.Dec.{eqb}
use lib.ListN.{length}
use Rattle.answers.specs.Numbers.{is_done}
use Rattle.permutation.specs.Runs.{rounds_of, constants_of, constants}
use Rattle.ascon.specs.Sets.{row_of, ad_limit, text_limit}
use Rattle.ascon.specs.Mode.{opened}
use Rattle.ascon.specs.Rounds.{ad_blocks, text_blocks, message_rounds}
use Rattle.sets.proofs.Rows.{row_sizes}
use Rattle.message.specs.Message.{message_test, SealLeaves, seal_call, OpenLeaves, judged, open_call}
use Rattle.message.proofs.Tests.{message_passed}

few_blocks : (r n : ℕ) → n ≤ ad_limit → ad_blocks r n ≤ 65_537
unfolding ad_blocks
few_blocks r n h = go (eqb n 0)
  where
    go : (z : Bool) → cond z 0 (n / r + 1) ≤ 65_537
    go true = omega arith
    go false = omega (arith, div-le_self n r)

few_rounds : (set a n : ℕ) → a ≤ ad_limit → n ≤ text_limit → message_rounds (row_of set) a n ≤ 8_912_928
unfolding message_rounds text_blocks rounds_of constants_of constants
few_rounds set a n h k =
    let row = row_of set in
    let blocks : ℕ = ad_blocks row.block a + (n / row.block + 1) - 1 in
    let bound : blocks ≤ 1_114_113 = omega (arith, few_blocks row.block a h, div-le_self n row.block) in
    let most : rounds_of row.between * blocks ≤ 8 * blocks = mul-le-mul_right blocks (row_sizes set).rounds in
    rw (row_sizes set).ends (omega arith)

pub seal_rounds : (set : ℕ) (K N A P out tag : List ℕ) → (seal_call set K N A P out tag).outcome.rounds ≤ 8_912_928
unfolding seal_call
seal_rounds set K N A P out tag =
    go (is_done (message_test set (length K) (length N) (length tag) (length A) (length P) (length out))) _ _
    (λ e. let h = message_passed set (length K) (length N) (length tag) (length A) (length P) (length out) e in few_rounds set (length A) (length P) h.ad_within h.text_within) (omega arith)
  where
    go : (b : Bool) (x y : SealLeaves) → (b ≡ true → x.outcome.rounds ≤ 8_912_928) → y.outcome.rounds ≤ 8_912_928 → (cond b x y).outcome.rounds ≤ 8_912_928
    go true x y h k = h refl
    go false x y h k = k

judged_rounds : (opening : Option (List ℕ)) (rounds n : ℕ) (out : List ℕ) → (judged opening rounds n out).outcome.rounds ≡ rounds
judged_rounds (some P) rounds n out = refl
judged_rounds none rounds n out = refl

pub open_rounds : (set : ℕ) (K N A C T out : List ℕ) → (open_call set K N A C T out).outcome.rounds ≤ 8_912_928
unfolding open_call
open_rounds set K N A C T out =
    go (is_done (message_test set (length K) (length N) (length T) (length A) (length C) (length out))) _ _
    (λ e. let h = message_passed set (length K) (length N) (length T) (length A) (length C) (length out) e in
    rw (judged_rounds (opened (row_of set) K N A C T) (message_rounds (row_of set) (length A) (length C)) (length C) out)
    (few_rounds set (length A) (length C) h.ad_within h.text_within)) (omega arith)
  where
    go : (b : Bool) (x y : OpenLeaves) → (b ≡ true → x.outcome.rounds ≤ 8_912_928) → y.outcome.rounds ≤ 8_912_928 → (cond b x y).outcome.rounds ≤ 8_912_928
    go true x y h k = h refl
    go false x y h k = k
