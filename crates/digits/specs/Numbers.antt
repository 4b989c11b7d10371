-- Numbers in decimals, with no needless leading zero.
use Rattle.std.specs.Prelude.{cond, List, [], ◌∷◌, ◌++◌, ℕ, zero, suc, ◌+◌, ◌/◌, ◌%◌, ltb}

-- the digits of a number, in at most `most` steps more
abbrev pub places_in : ℕ → ℕ → ℕ
places_in zero n = 1
places_in (suc most) n = cond (ltb n 10) 1 (suc (places_in most (n / 10)))

-- how many digits a number has; as many steps as the number itself are enough
unfoldable pub places : ℕ → ℕ
places n = places_in n n

-- the last digits of a number, as many as asked
abbrev pub decimals : ℕ → ℕ → List ℕ
decimals zero n = []
decimals (suc count) n = decimals count (n / 10) ++ (0x30 + n % 10) ∷ []

-- the numeral of a number
unfoldable pub numeral : ℕ → List ℕ
numeral n = decimals (places n) n
