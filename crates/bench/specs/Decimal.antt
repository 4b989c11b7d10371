-- A decimal, read as a number of 64 bits.
use Rattle.std.specs.Prelude.{Option, Some, None, cond, ◌&&◌, List, [], ◌∷◌, ℕ, ◌+◌, ◌-◌, ◌*◌, leb}
use Rattle.digits.specs.Hex.{within}
use Rattle.turns.specs.Tallies.{largest}

-- a value with one character more: a digit, and no number that is too large
abbrev pub with_digit : Option ℕ → ℕ → Option ℕ
with_digit (Some n) character =
    let next = 10 * n + (character - 0x30) in cond (within 0x30 0x39 character && leb next largest) (Some next) None
with_digit None character = None

-- character after character, from left to right
abbrev pub read_from : Option ℕ → List ℕ → Option ℕ
read_from value [] = value
read_from value (character ∷ text) = read_from (with_digit value character) text

-- the number that a text spells; needless zeros in front change nothing, and an empty text spells none
abbrev pub decimal_of : List ℕ → Option ℕ
decimal_of [] = None
decimal_of (character ∷ text) = read_from (Some 0) (character ∷ text)
