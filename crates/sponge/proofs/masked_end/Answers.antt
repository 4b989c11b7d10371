use mathlib.Core.Path.{◌≡◌, ap, ap₂, ◌∙◌}
use mathlib.Core.List.{List, ◌++◌}
use Prim.Native.Nat.{ℕ, suc, ◌+◌, ◌-◌, ◌≤◌}
use native.Mathlib.Omega.{arith}
use lib.Bits.{bit_xor}
use lib.ListN.{length, get_or, set, take, drop, length-drop}
use lib.Seq.{length-take-le, take_all}
use borrow.Author.Rules.{rules}
use Rattle.permutation.specs.Strings.{string_of_words, zeros}
use Rattle.ascon.proofs.Strings.{length_xor}
use Rattle.sponge.proofs.Words.{Five, length_five}
use Rattle.sponge.proofs.Ends.{end_byte, laid_next}
use Rattle.sponge.proofs.masked_end.Invariants.{end}
use Rattle.sponge.proofs.masked_end.Goals as goal

-- it has n bytes
length_end : (w key : List ℕ) (n : ℕ) → Five w → length key ≡ 16 → n ≤ 16 → length (end w key n) ≡ n
length_end w key n h k l =
    let S : List ℕ = string_of_words w in
    let ls : length S ≡ 40 = length_five w h in
    let ld : length (drop (40 - n) S) ≡ length S - (40 - n) = length-drop (40 - n) S in
    let lk : length (take n key) ≡ n = length-take-le n key (omega arith) in
    length_xor (drop (40 - n) S) (take n key) ∙ omega arith

pub loop-i-preserved : goal.loop-i-preserved
loop-i-preserved c =
    let a = c.args in
    let l = c.loop-i in
    let five : Five a.w = record { five = search rules; small = λ i. search rules } in
    let size : length a.key ≡ 16 = search rules in
    let x = end a.w a.key a.n in
    let lx : length x ≡ a.n = length_end a.w a.key a.n five size (omega arith) in
    let e : 16 - l.i ≡ suc (16 - (l.i + 1)) = omega arith in
    ap₂ (λ (t : List ℕ) (b : ℕ). set t l.i b)
    (l.invariant ∙ ap (λ (m : ℕ). take l.i x ++ zeros m) e)
    (ap (λ (b : ℕ). bit_xor b (get_or a.key l.i 0)) c.byte_at.ensures
    ∙ end_byte a.w a.key a.n l.i five size (omega arith) (omega arith))
    ∙ laid_next x l.i (16 - (l.i + 1)) (omega arith)

pub returns : goal.returns
returns c =
    let a = c.args in
    let l = c.loop-i in
    let five : Five a.w = record { five = search rules; small = λ i. search rules } in
    let lx : length (end a.w a.key a.n) ≡ a.n = length_end a.w a.key a.n five (search rules) (omega arith) in
    let e : l.i ≡ a.n = omega arith in
    l.invariant ∙ ap₂ (λ (t : List ℕ) (n : ℕ). t ++ zeros (16 - n)) (take_all l.i (end a.w a.key a.n) (omega arith)) e
