-- Words that are the same, or not.
use mathlib.Core.Path.{◌≡◌, refl, sym, ap, ◌∙◌}
use mathlib.Core.Bool.{Bool, ◌&&◌}
use mathlib.Core.List.{List, [], ◌∷◌}
use Prim.Native.Nat.{ℕ}
use lib.Dec.{eqb}
use lib.Pointwise.{pointwise}
use Rattle.permutation.specs.Strings.{same}

-- the definitions' own test compares pair by pair
by_pairs : (x y : List ℕ) → same x y ≡ pointwise eqb x y
by_pairs [] [] = refl
by_pairs [] (b ∷ y) = refl
by_pairs (a ∷ x) [] = refl
by_pairs (a ∷ x) (b ∷ y) = ap (λ (t : Bool). eqb a b && t) (by_pairs x y)

-- what `==` says of a text and a word is what that test says
pub same_as : (x y : List ℕ) {z : List ℕ} {r : Bool} → z ≡ y → r ≡ pointwise eqb x z → same x y ≡ r
same_as x y is e = by_pairs x y ∙ ap (λ (w : List ℕ). pointwise eqb x w) (sym is) ∙ sym e
