-- `judge::difference::first_place` meets its contract.
use mathlib.Core.Path.{◌≡◌, refl, sym, ap, ◌∙◌}
use mathlib.Core.Bool.{Bool, true, false, cond}
use mathlib.Core.List.{List, [], ◌∷◌}
use Prim.Native.Nat.{ℕ, ◌+◌}
use native.Mathlib.Omega.{arith}
use lib.Dec.{eqb}
use borrow.Author.Rules.{rules}
use borrow.Author.Tests.{tests, eq-eqb, ne_eqb}
use Rattle.std.specs.List.{prefix_len, zip}
use Rattle.std.specs.Option.{unwrap_or}
use Rattle.std.proofs.lemmas.Iterator.{YieldsList-from_slice, YieldsList-from_zip, IsFirst-from_position, index_from_first}
use Rattle.std.proofs.lemmas.Slice.Zip.{length-zip}
use Rattle.judge.specs.Difference.{here, further, first_difference}
use Rattle.judge.proofs.difference.first_place.Goals as goal

-- both bytes of a pair are the same
abbrev alike : ℕ × ℕ → Bool
alike p = eqb p.0 p.1

-- the place is the number of pairs before the first whose bytes differ
place-is : (wanted found : List ℕ) → (first_difference wanted found).place ≡ prefix_len alike (zip wanted found)
place-is [] [] = refl
place-is [] (b ∷ found) = refl
place-is (a ∷ wanted) [] = refl
place-is (a ∷ wanted) (b ∷ found) = go (eqb a b) (place-is wanted found)
  where
    go : (t : Bool) → (first_difference wanted found).place ≡ prefix_len alike (zip wanted found)
        → (cond t (further (first_difference wanted found)) (here true (b ∷ found))).place ≡ cond t (1 + prefix_len alike (zip wanted found)) 0
    go true e = omega (arith, e)
    go false e = refl

-- a pair before which there is none
no-pair : (p : ℕ × ℕ) (pairs : List (ℕ × ℕ)) → (p.0 ≡ p.1 → ⊥) → prefix_len alike (p ∷ pairs) ≡ 0
no-pair p pairs other = rw (ne_eqb p.0 p.1 other)

-- a pair before the first
one-more : (p : ℕ × ℕ) (pairs : List (ℕ × ℕ)) → p.0 ≡ p.1 → prefix_len alike (p ∷ pairs) ≡ prefix_len alike pairs + 1
one-more p pairs same = rw (eq-eqb p.0 p.1 same) (omega arith)

pub returns : goal.returns
returns c =
    let wanted = c.args.wanted.now in
    let found = c.args.found.now in
    let first =
    IsFirst-from_position c.position.new.self _ _ (λ (p : ℕ × ℕ). p.0 ≡ p.1 → ⊥) (λ (p : ℕ × ℕ). p.0 ≡ p.1) c.position.ensures.ran
    (YieldsList-from_zip {s = c.zip.result} (YieldsList-from_slice wanted cc) (YieldsList-from_slice found cc)) (λ x q k. search (rules, tests)) (λ x q k. search (rules, tests)) in
    let count = index_from_first (prefix_len alike) _ _ refl no-pair one-more (zip wanted found) c.position.result first in
    c.unwrap_or.ensures
    ∙ ap (unwrap_or c.position.result) (c.min-shorter.ensures ∙ sym (length-zip wanted found))
    ∙ sym count
    ∙ sym (place-is wanted found)
