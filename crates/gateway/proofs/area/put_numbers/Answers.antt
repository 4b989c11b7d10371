use mathlib.Core.Path.{◌≡◌, sym, ap, ◌∙◌}
use mathlib.Core.List.{List, ◌∷◌}
use Prim.Native.Nat.{ℕ, ◌+◌, ◌*◌, ◌<◌}
use native.Mathlib.Numerals.{add-one}
use native.Mathlib.Omega.{arith}
use lib.ListN.{length, get_or, drop}
use lib.Seq.{drop-cons}
use Rattle.permutation.specs.Strings.{bytes_of, string_of_words}
use Rattle.permutation.proofs.Strings.{length_bytes}
use Rattle.gateway.specs.Laying.{laid}
use Rattle.gateway.proofs.Numbers.{bytes_eight}
use Rattle.gateway.proofs.Laying.{laid_append}
use Rattle.gateway.proofs.area.put_numbers.Goals as goal

-- one number more
laid-left : (area numbers : List ℕ) (at i : ℕ) → i < length numbers
    → laid (laid area (at + 8 * i) (bytes_of 8 (get_or numbers i 0))) (at + 8 * (i + 1)) (string_of_words (drop (i + 1) numbers))
    ≡ laid area (at + 8 * i) (string_of_words (drop i numbers))
laid-left area numbers at i h =
    let first = bytes_of 8 (get_or numbers i 0) in
    let rest = string_of_words (drop (i + 1) numbers) in
    ap (λ (n : ℕ). laid (laid area (at + 8 * i) first) n rest) (omega (arith, length_bytes 8 (get_or numbers i 0)))
    ∙ sym (laid_append area (at + 8 * i) first rest)
    ∙ ap (λ (t : List ℕ). laid area (at + 8 * i) (string_of_words t)) (ap (λ (n : ℕ). get_or numbers i 0 ∷ drop n numbers) (add-one i) ∙ sym (drop-cons numbers i 0 h))

pub loop-i-preserved : goal.loop-i-preserved
loop-i-preserved c =
    let l = c.loop-i in
    let numbers = c.args.numbers.now in
    let at = c.args.at in
    let eight = c.to_be_bytes.ensures ∙ bytes_eight (get_or numbers l.i 0) in
    ap (λ (area : List ℕ). laid area (at + 8 * (l.i + 1)) (string_of_words (drop (l.i + 1) numbers)))
    (c.put.ensures ∙ ap (laid l.area (at + 8 * l.i)) eight)
    ∙ laid-left l.area numbers at l.i c.loop-i-test.true
    ∙ l.invariant
