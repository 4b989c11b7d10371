-- `judge::difference::difference_tail` meets its contract.
use mathlib.Core.Path.{◌≡◌, sym, ap, ◌∙◌}
use mathlib.Core.List.{List}
use Prim.Native.Nat.{ℕ, ◌+◌, ◌-◌}
use native.Mathlib.Omega.{arith}
use lib.ListN.{length, take, drop, length-drop}
use lib.Seq.{take_all}
use Rattle.judge.specs.Difference.{first_difference}
use Rattle.judge.proofs.Differences.{part_from}
use Rattle.judge.proofs.difference.difference_tail.Goals as goal

-- what stands from a place to the end is what is left
to_end : (x : List ℕ) (i : ℕ) → take (length x - i) (drop i x) ≡ drop i x
to_end x i = take_all (length x - i) (drop i x) (omega (arith, length-drop i x))

pub returns : goal.returns
returns c =
    let e = c.first_place.ensures in
    let a = c.args in
    let place = (first_difference a.wanted.now a.found.now).place in
    let bytes : drop c.first_place.result a.found.now ≡ (first_difference a.wanted.now a.found.now).part =
    ap (λ (i : ℕ). drop i a.found.now) e ∙ sym (part_from a.wanted.now a.found.now) in
    let offset : c.first_place.result + a.found.ref_ptr.1 ≡ a.found.ref_ptr.1 + place = omega (arith, e) in
    λ j. record { bytes = (to_end a.found.now c.first_place.result ∙ bytes) j; block = a.found.ref_ptr.0; offset = offset j }
