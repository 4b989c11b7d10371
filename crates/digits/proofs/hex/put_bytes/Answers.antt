use mathlib.Core.Path.{◌≡◌, refl, sym, ap, ◌∙◌}
use mathlib.Core.List.{List, [], ◌∷◌, ◌++◌}
use Prim.Native.Nat.{ℕ, zero, suc, ◌+◌, ◌*◌, ◌/◌, ◌%◌, ◌≤◌, ◌<◌}
use native.Mathlib.Numerals.{add-one}
use native.Mathlib.Omega.{arith}
use lib.ListN.{length, get_or, set, drop}
use lib.Seq.{take-length}
use Rattle.digits.specs.declared.hex.Case.{Case}
use Rattle.digits.specs.Hex.{hex_digit_in, hex_in}
use Rattle.digits.proofs.Room.{put_is}
use Rattle.digits.proofs.Spelling.{length_hex}
use Rattle.digits.proofs.hex.put_bytes.Invariants.{spelt}
use Rattle.digits.proofs.hex.put_bytes.Goals as goal

-- two places more
two-more : (i : ℕ) → 2 * suc i ≡ suc (suc (2 * i))
two-more i = omega arith

-- the place behind two more
suc_one : (i : ℕ) → suc (suc i) + 1 ≡ suc (suc (i + 1))
suc_one i = omega arith

-- one byte more
one_more : (case : Case) (x out : List ℕ) (i : ℕ) → i < length x → 2 * length x ≤ length out
    → set (set (spelt case x out i) (2 * i) (hex_digit_in case (get_or x i 0 / 16))) (2 * i + 1) (hex_digit_in case (get_or x i 0 % 16)) ≡ spelt case x out (suc i)
one_more case [] out i h room = absurd (omega arith)
one_more case (b ∷ x) [] i h room = absurd (omega arith)
one_more case (b ∷ x) (p ∷ []) i h room = absurd (omega arith)
one_more case (b ∷ x) (p ∷ q ∷ out) zero h room = refl
one_more case (b ∷ x) (p ∷ q ∷ out) (suc i) h room =
    rw (two-more i, two-more (suc i), suc_one (2 * i)) (ap (λ (y : List ℕ). hex_digit_in case (b / 16) ∷ hex_digit_in case (b % 16) ∷ y) (one_more case x out i (omega arith) (omega arith)))

pub loop-i-preserved : goal.loop-i-preserved
loop-i-preserved c =
    let l = c.loop-i in
    let a = c.args in
    let x = a.bytes.now in
    (λ j. set (set (l.invariant j) (2 * l.i) (c.spelled.ensures j)) (2 * l.i + 1) (c.spelled-in-loop-i.ensures j))
    ∙ one_more a.case x a.out.now l.i (omega arith) (omega arith)
    ∙ ap (spelt a.case x a.out.now) (sym (add-one l.i))

pub returns : goal.returns
returns c =
    let l = c.loop-i in
    let a = c.args in
    let x = a.bytes.now in
    let end : l.i ≡ length x = omega arith in
    put_is (hex_in a.case x) a.out.now l.out (2 * length x) (sym (length_hex a.case x)) (omega arith)
    (l.invariant ∙ ap (spelt a.case x a.out.now) end ∙ ap (λ (y : List ℕ). hex_in a.case y ++ drop (2 * length x) a.out.now) (take-length x))
