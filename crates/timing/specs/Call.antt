-- What a call of the timing boundary answers, and what it leaves in the place lent to it.
use Rattle.std.specs.Prelude.{cond, List, [], ◌∷◌, ℕ, suc, eqb, Option, Some, None}
use Rattle.permutation.specs.declared.Run.{Run}
use Rattle.permutation.specs.declared.Run.TheVariants.{Twelve, FirstEight, FirstSix}
use Rattle.permutation.specs.Runs.{rounds_of, permute_words}
use Rattle.digits.specs.Hex.{digit_of}

pub record Called : Type 0 where
  pub answer : ℕ
  pub left : List ℕ

abbrev pub called : ℕ → List ℕ → Called
called answer left = record { answer = answer; left = left }

-- a run, and the number of its rounds
abbrev pub ran : Run → List ℕ → Called
ran run words = called (rounds_of run) (permute_words run words)

-- the run of so many rounds, of v1's where both editions have one; any other number runs nothing
unfoldable pub permute_call : ℕ → List ℕ → Called
permute_call rounds words =
    cond (eqb rounds (rounds_of Twelve)) (ran Twelve words)
    (cond (eqb rounds (rounds_of FirstEight)) (ran FirstEight words) (cond (eqb rounds (rounds_of FirstSix)) (ran FirstSix words) (called 0 words)))

-- a value in front of what was read behind it
abbrev pub front : ℕ → Called → Called
front value rest = called (suc rest.answer) (value ∷ rest.left)

-- a digit's value stands in its place, and the reading goes on; any other character ends it
abbrev pub read_on : Option ℕ → ℕ → List ℕ → Called → Called
read_on (Some value) character text rest = front value rest
read_on None character text rest = called 0 (character ∷ text)

-- the digits at the front of a text become their values
abbrev pub read_digits : List ℕ → Called
read_digits [] = called 0 []
read_digits (character ∷ text) = read_on (digit_of character) character text (read_digits text)
