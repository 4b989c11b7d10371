-- Bytes put into a place one after the other.
use mathlib.Core.Path.{◌≡◌, refl, sym, ap, ap₂, ◌∙◌}
use mathlib.Core.List.{List, [], ◌∷◌, ◌++◌}
use Prim.Native.Nat.{ℕ, ◌+◌, ◌-◌, ◌≤◌}
use native.Mathlib.Nat.{not-suc-le-zero, le_of_suc-le-suc}
use native.Mathlib.Omega.{arith}
use lib.ListN.{length, set, take, drop, length-append, length-drop, take-append-drop}
use lib.Seq.{length-take-le, append_snoc, set-append_seam, drop-drop}
use Rattle.gateway.specs.Laying.{laid}

-- at the seam of p and q
laid_seam : (p q bs : List ℕ) → length bs ≤ length q → laid (p ++ q) (length p) bs ≡ p ++ (bs ++ drop (length bs) q)
laid_seam p q [] h = refl
laid_seam p [] (b ∷ bs) h = absurd (not-suc-le-zero h)
laid_seam p (y ∷ q) (b ∷ bs) h =
    let e : length (p ++ b ∷ []) ≡ length p + 1 = length-append p (b ∷ []) in
    ap₂ (λ (t : List ℕ) (n : ℕ). laid t n bs) (set-append_seam p y q b ∙ sym (append_snoc p b q)) (sym e)
    ∙ laid_seam (p ++ b ∷ []) q bs (le_of_suc-le-suc h)
    ∙ append_snoc p b (bs ++ drop (length bs) q)

-- at a place
pub laid_is : (area : List ℕ) (i : ℕ) (bs : List ℕ) → i + length bs ≤ length area → laid area i bs ≡ take i area ++ (bs ++ drop (i + length bs) area)
laid_is area i bs h =
    let lt : length (take i area) ≡ i = length-take-le i area (omega arith) in
    let ld : length (drop i area) ≡ length area - i = length-drop i area in
    ap₂ (λ (t : List ℕ) (n : ℕ). laid t n bs) (sym (take-append-drop i area)) (sym lt)
    ∙ laid_seam (take i area) (drop i area) bs (omega arith)
    ∙ ap (λ (t : List ℕ). take i area ++ (bs ++ t)) (drop-drop (length bs) i area)

-- one string after the other
pub laid_append : (area : List ℕ) (i : ℕ) (x y : List ℕ) → laid area i (x ++ y) ≡ laid (laid area i x) (i + length x) y
laid_append area i [] y = ap (λ (n : ℕ). laid area n y) (omega arith)
laid_append area i (b ∷ x) y = laid_append (set area i b) (i + 1) x y ∙ ap (λ (n : ℕ). laid (laid (set area i b) (i + 1) x) n y) (omega arith)
