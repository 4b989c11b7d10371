-- The names of the parts: each has one to eight bytes, and no line feed.
use mathlib.Core.Path.{◌≡◌, refl}
use mathlib.Core.Bool.{Bool, true, ◌&&◌}
use mathlib.Core.List.{List, [], ◌∷◌}
use Prim.Native.Nat.{ℕ, zero, suc, ◌-◌, ◌≤◌}
use native.Mathlib.Omega.{arith}
use lib.Dec.{leb}
use lib.ListN.{length, get_or}
use borrow.Author.Tests.{leb-true}
use Rattle.digits.proofs.Spelling.{and_both}
use Rattle.lines.specs.declared.kinds.Name.{Name}
use Rattle.lines.specs.Right.{named}
use Rattle.lines.specs.Laws.{plain}
use Rattle.lines.proofs.Names.{Holds, named_holds}
use Rattle.record.specs.Text.{names, name}

-- one to eight bytes, and none a line feed
abbrev is_name_lem : List ℕ → Bool
is_name_lem x = leb 1 (length x) && (leb (length x) 8 && plain x)

-- a test of each text of a list
abbrev every : List (List ℕ) → Bool
every [] = true
every (x ∷ xs) = is_name_lem x && every xs

-- what a list passes, each of its texts passes
at_each : (xs : List (List ℕ)) (i : ℕ) (d : List ℕ) → every xs ≡ true → is_name_lem d ≡ true → is_name_lem (get_or xs i d) ≡ true
at_each [] i d e f = f
at_each (x ∷ xs) zero d e f = (and_both (is_name_lem x) (every xs) e).0
at_each (x ∷ xs) (suc i) d e f = at_each xs i d (and_both (is_name_lem x) (every xs) e).1 f

-- what a name is
record IsName (x : List ℕ) : Type 0 where
  some : 1 ≤ length x
  few : length x ≤ 8
  plainly : plain x ≡ true

-- each name is one
is_name : (part : ℕ) → IsName (name part)
unfolding name names
is_name part =
    let b = and_both (leb 1 (length (name part))) _ (at_each names (part - 1) (get_or names 0 []) refl refl) in
    let c = and_both (leb (length (name part)) 8) _ b.1 in
    record { some = leb-true 1 _ b.0; few = leb-true _ 8 c.0; plainly = c.1 }

-- a name has a byte, and eight at most
pub name_sizes : (part : ℕ) → (1 ≤ length (name part)) × (length (name part) ≤ 8)
name_sizes part = ((is_name part).some, (is_name part).few)

-- no name has a line feed
pub name_plain : (part : ℕ) → plain (name part) ≡ true
name_plain part = (is_name part).plainly

-- so it is held by its places
pub held_name : (part : ℕ) (n : Name) → n ≡ named (name part) → Holds (name part) n
held_name part n e = named_holds (name part) (omega (arith, (name_sizes part).1)) n e
