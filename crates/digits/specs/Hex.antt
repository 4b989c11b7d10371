-- Bytes in hex, two digits a byte, the high digit first.
use mathlib.Core.Option as option
use Rattle.std.specs.Prelude.{Bool, true, false, cond, ◌&&◌, List, [], ◌∷◌, ℕ, ◌+◌, ◌-◌, ◌*◌, ◌/◌, ◌%◌, leb, ltb, Option, Some, None, Result, Ok, Err}
use Rattle.digits.specs.declared.hex.Case.{Case}
use Rattle.digits.specs.declared.hex.Case.TheVariants.{Lower, Upper}
use Rattle.digits.specs.declared.hex.BadDigit.{BadDigit}
use Rattle.digits.specs.declared.hex.BadDigit.TheVariants.{First, Second}

-- ---- reading

-- a character is one of a range
abbrev pub within : ℕ → ℕ → ℕ → Bool
within first last character = leb first character && leb character last

-- `a` or `A`: the letter of ten
abbrev pub letter_a : Case → ℕ
letter_a Lower = 0x61
letter_a Upper = 0x41

-- `0` to `9`, and six letters
unfoldable pub digit_in : Case → ℕ → Option ℕ
digit_in case character =
    cond (within 0x30 0x39 character) (Some (character - 0x30))
    (cond (within (letter_a case) (letter_a case + 5) character) (Some (character - letter_a case + 10)) None)

-- in lower case
abbrev pub digit_of : ℕ → Option ℕ
digit_of character = digit_in Lower character

abbrev pub is_value : Option ℕ → Bool
is_value (Some v) = true
is_value None = false

-- the byte of two digits, or which of them is none: the first where neither is one
abbrev pub pair_of : Option ℕ → Option ℕ → Result ℕ BadDigit
pair_of (Some high) (Some low) = Ok (16 * high + low)
pair_of (Some high) None = Err Second
pair_of None low = Err First

-- a byte, and the bytes behind it
abbrev pub and_then : Result ℕ BadDigit → option.Option (List ℕ) → option.Option (List ℕ)
and_then (Ok b) (option.some x) = option.some (b ∷ x)
and_then (Ok b) option.none = option.none
and_then (Err bad) x = option.none

-- the bytes of a text of digits
abbrev pub from_hex_in : Case → List ℕ → option.Option (List ℕ)
from_hex_in case [] = option.some []
from_hex_in case (one ∷ []) = option.none
from_hex_in case (high ∷ low ∷ text) = and_then (pair_of (digit_in case high) (digit_in case low)) (from_hex_in case text)

-- ---- writing

-- the digit of a value below 16
unfoldable pub hex_digit_in : Case → ℕ → ℕ
hex_digit_in case value = cond (ltb value 10) (0x30 + value) (letter_a case - 10 + value)

-- the digits of bytes
abbrev pub hex_in : Case → List ℕ → List ℕ
hex_in case [] = []
hex_in case (b ∷ x) = hex_digit_in case (b / 16) ∷ hex_digit_in case (b % 16) ∷ hex_in case x

-- ---- both

-- each character is a digit
abbrev pub all_digits : Case → List ℕ → Bool
all_digits case [] = true
all_digits case (character ∷ text) = is_value (digit_in case character) && all_digits case text
