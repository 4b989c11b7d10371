-- Keys and tags of at most 16 bytes.
use mathlib.Core.Path.{◌≡◌, refl, ap}
use mathlib.Core.Bool.{Bool, true, false, ◌&&◌}
use mathlib.Core.List.{List, ◌++◌}
use Prim.Native.Nat.{ℕ, ◌-◌, ◌≤◌}
use lib.ListN.{length, take}
use borrow.Author.Tests.{le-leb}
use Rattle.permutation.specs.Strings.{zeros, same}
use Rattle.permutation.proofs.Strings.{same_eq}
use Rattle.tags.specs.Tags.{sixteen_of, given_tag}

-- two laws of `&&` that docs/PORT.md names, and no proof cites any more
pub and_assoc : (a b c : Bool) → ((a && b) && c) ≡ (a && (b && c))
and_assoc true b c = refl
and_assoc false b c = refl

pub and_true : (a : Bool) → a ≡ (a && true)
and_true true = refl
and_true false = refl

-- strings of two lengths are not one
pub same_lengths : (x y : List ℕ) → (length x ≡ length y → ⊥) → same x y ≡ false
same_lengths x y h = go (same x y) refl
  where
    go : (t : Bool) → same x y ≡ t → t ≡ false
    go true e = absurd (h (ap length (same_eq x y e)))
    go false e = refl

-- ---- keys and tags that fit

pub sixteen_is : (x : List ℕ) → length x ≤ 16 → sixteen_of x ≡ x ++ zeros (16 - length x)
unfolding sixteen_of
sixteen_is x h = rw (le-leb (length x) 16 h)

pub given_is : (ours tag : List ℕ) → length tag ≤ 16 → given_tag ours tag ≡ take (length tag) ours
unfolding given_tag
given_is ours tag h = rw (le-leb (length tag) 16 h)
