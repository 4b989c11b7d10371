-- An answer chosen by its order: the first whose condition holds.
use Rattle.std.specs.Prelude.{Bool, cond, List, [], ◌∷◌}

infix 80 ◌when◌
-- a choice, and when it is made
pub record Choice (X : Type 0) : Type 0 where
  pub choice : X
  pub holds : Bool

abbrev pub ◌when◌ : {X : Type 0} → X → Bool → Choice X
x when holds = record { choice = x; holds = holds }

-- the first that holds; the other where none does
abbrev pub first : {X : Type 0} → X → List (Choice X) → X
first other [] = other
first other (c ∷ cs) = cond c.holds c.choice (first other cs)
