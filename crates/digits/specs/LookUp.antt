-- The list that the code looks characters up in. Nobody has to believe it: `looked_up` proves that it says of each character what `digit_in` says, in both cases.
use Rattle.std.specs.Prelude.{◌≡◌, List, [], ◌∷◌, cond, ℕ, zero, suc, ◌-◌, ◌*◌, ◌/◌, ◌%◌, ◌^◌, eqb, ltb, get_or, Option, Some, None}
use Rattle.digits.specs.declared.hex.Case.{Case}
use Rattle.digits.specs.declared.hex.Case.TheVariants.{Lower, Upper}

-- a row without a digit
abbrev pub no_digits : ℕ
no_digits = 0xffffffffffffffff

-- the rows up to the last that has a digit; row n has the values of the characters 8 n to 8 n + 7, a byte each, the first in the low byte; 16 more
-- for a letter in upper case, ff for one that is no digit
abbrev pub digit_rows : List ℕ
digit_rows =
    no_digits ∷ no_digits ∷ no_digits ∷ no_digits ∷ no_digits ∷ no_digits ∷ 0x0706050403020100 ∷ 0xffffffffffff0908 ∷ 0xff1f1e1d1c1b1aff ∷ no_digits ∷ no_digits ∷ no_digits ∷ 0xff0f0e0d0c0b0aff ∷ []

-- a row by its number; those behind have no digit
abbrev pub digit_row : ℕ → ℕ
digit_row row = get_or digit_rows row no_digits

-- the entry of a character: its byte in its row
abbrev pub entry_of : ℕ → ℕ
entry_of character = digit_row (character / 8) / 2 ^ (8 * (character % 8)) % 256

-- what an entry is as a digit, in either case: a value, or no digit
abbrev pub said : Case → ℕ → Option ℕ
said Lower e = cond (ltb e 16) (Some e) None
said Upper e = cond (ltb e 10) (Some e) (cond (eqb (e / 16) 1) (Some (e - 16)) None)

-- a number is none of those below n: what is known of it behind n arms of a `match`, in the form that the checker has it in
abbrev pub none_below : ℕ → ℕ → Type 0
none_below zero number = Unit
none_below (suc n) number = none_below n number × (number ≡ n → ⊥)
