-- Orders of refusals: what a done answer says, one order behind another, and the largest number.
use mathlib.Core.Path.{◌≡◌, refl, sym, ap, ◌∙◌}
use mathlib.Core.Bool.{Bool, true, false, cond, not, ◌&&◌, false≢true}
use mathlib.Core.List.{List, [], ◌∷◌, ◌++◌}
use Prim.Native.Nat.{ℕ, ◌≤◌, zero-le}
use native.Mathlib.Omega.{arith}
use lib.Dec.{leb}
use borrow.Author.Tests.{leb-true, eqb-false}
use Rattle.answers.specs.declared.Answer.{Answer}
use Rattle.answers.specs.declared.Answer.TheVariants.{Done}
use Rattle.answers.specs.Numbers.{number_of, is_done}
use Rattle.answers.specs.Order.{Choice, first}
use Rattle.answers.proofs.Numbers.{done_is}

-- every choice is a refusal
abbrev pub refuse : List (Choice Answer) → Bool
refuse [] = true
refuse (c ∷ cs) = not (is_done c.choice) && refuse cs

-- no condition holds
abbrev pub NoneHolds : List (Choice Answer) → Type 0
NoneHolds [] = Unit {0}
NoneHolds (c ∷ cs) = (c.holds ≡ false) × NoneHolds cs

-- a done answer says that none holds
pub none_holds : (cs : List (Choice Answer)) → refuse cs ≡ true → is_done (first Done cs) ≡ true → NoneHolds cs
none_holds [] e f = tt
none_holds (c ∷ cs) e f = go c.holds refl (is_done c.choice) refl e f (none_holds cs)
  where
    go : (b : Bool) → c.holds ≡ b → (d : Bool) → is_done c.choice ≡ d → (not d && refuse cs) ≡ true → is_done (cond b c.choice (first Done cs)) ≡ true
        → (refuse cs ≡ true → is_done (first Done cs) ≡ true → NoneHolds cs)
        → (c.holds ≡ false) × NoneHolds cs
    go b h true g e f rest = absurd (false≢true e)
    go true h false g e f rest = absurd (false≢true (sym g ∙ f))
    go false h false g e f rest = (h, rest e f)

-- one order behind another
pub first_append : (cs ds : List (Choice Answer)) → refuse cs ≡ true
    → first Done (cs ++ ds) ≡ cond (is_done (first Done cs)) (first Done ds) (first Done cs)
first_append [] ds e = refl
first_append (c ∷ cs) ds e = go c.holds (is_done c.choice) refl e (first_append cs ds)
  where
    go : (b d : Bool) → is_done c.choice ≡ d → (not d && refuse cs) ≡ true
        → (refuse cs ≡ true → first Done (cs ++ ds) ≡ cond (is_done (first Done cs)) (first Done ds) (first Done cs))
        → cond b c.choice (first Done (cs ++ ds))
        ≡ cond (is_done (cond b c.choice (first Done cs))) (first Done ds) (cond b c.choice (first Done cs))
    go b true g e rest = absurd (false≢true e)
    go true false g e rest = rw g
    go false false g e rest = rest e

-- behind an order of which none holds
pub first_behind : (cs ds : List (Choice Answer)) → refuse cs ≡ true → first Done cs ≡ Done → first Done (cs ++ ds) ≡ first Done ds
first_behind cs ds refuses e = first_append cs ds refuses ∙ ap (λ (answer : Answer). cond (is_done answer) (first Done ds) answer) e

-- every choice has at most this number
abbrev pub at_most : ℕ → List (Choice Answer) → Bool
at_most n [] = true
at_most n (c ∷ cs) = leb (number_of c.choice) n && at_most n cs

-- and so has the first
pub first_most : (n : ℕ) (cs : List (Choice Answer)) → at_most n cs ≡ true → number_of (first Done cs) ≤ n
first_most n [] e = zero-le
first_most n (c ∷ cs) e = go c.holds (leb (number_of c.choice) n) refl e (first_most n cs)
  where
    go : (b d : Bool) → leb (number_of c.choice) n ≡ d → (d && at_most n cs) ≡ true → (at_most n cs ≡ true → number_of (first Done cs) ≤ n)
        → number_of (cond b c.choice (first Done cs)) ≤ n
    go b false g e rest = absurd (false≢true e)
    go true true g e rest = leb-true (number_of c.choice) n g
    go false true g e rest = rest e

-- so where the answer has none of these numbers, none of the first order holds
pub first_passed : (n : ℕ) (cs ds : List (Choice Answer)) → refuse cs ≡ true → at_most n cs ≡ true → let answer = first Done (cs ++ ds) in
    ((1 ≤ number_of answer) × (number_of answer ≤ n) → ⊥) → first Done cs ≡ Done
first_passed n cs ds refuses most others = go (is_done (first Done cs)) refl
  where
    go : (b : Bool) → is_done (first Done cs) ≡ b → first Done cs ≡ Done
    go true e = done_is (first Done cs) e
    go false e =
        let number : number_of (first Done (cs ++ ds)) ≡ number_of (first Done cs) =
        ap number_of (first_append cs ds refuses ∙ ap (λ (b : Bool). cond b (first Done ds) (first Done cs)) e) in
        let some : number_of (first Done cs) ≡ 0 → ⊥ = eqb-false (number_of (first Done cs)) 0 e in
        let few : number_of (first Done cs) ≤ n = first_most n cs most in
        absurd (others (omega (arith, number, some), omega (arith, number, few)))
