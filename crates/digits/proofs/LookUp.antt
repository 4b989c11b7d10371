-- The list that the code looks characters up in says of each what it is as a digit.
use mathlib.Core.Path.{◌≡◌, refl, sym, ap}
use mathlib.Core.Bool.{Bool, true, false}
use Prim.Native.Nat.{ℕ, zero, suc, ◌≤◌, ◌<◌}
use native.Mathlib.Omega.{arith}
use lib.Dec.{T, eqb, eqb→eq}
use lib.ListN.{get_or-eq_default}
use Rattle.permutation.proofs.Test.{at}
use Rattle.digits.specs.declared.hex.Case.{Case}
use Rattle.digits.specs.declared.hex.Case.TheVariants.{Lower, Upper}
use Rattle.std.specs.Prelude.{Option, Some, None}
use Rattle.digits.specs.Hex.{digit_in}
use Rattle.digits.specs.LookUp.{no_digits, digit_rows, digit_row, entry_of, said, none_below}

-- ---- rows

-- a number that is none of those below n is n or more
pub past : (n row : ℕ) → none_below n row → n ≤ row
past zero row h = omega arith
past (suc n) row (h, other) = omega (arith, past n row h, other)

-- the last row, and any behind it, has no digits
pub behind : (row : ℕ) → none_below 31 row → no_digits ≡ digit_row row
behind row h = sym (get_or-eq_default digit_rows no_digits {n = row} (omega (arith, past 31 row h)))

-- ---- entries

abbrev same : Option ℕ → Option ℕ → Bool
same (Some v) (Some w) = eqb v w
same (Some v) None = false
same None (Some w) = false
same None None = true

same_eq : (d e : Option ℕ) → T (same d e) → d ≡ e
same_eq (Some v) (Some w) t = ap Some (eqb→eq v w t)
same_eq (Some v) None t = absurd t
same_eq None (Some w) t = absurd t
same_eq None None t = refl

-- the list's rule, computed at each character
pub looked_up : (case : Case) (character : ℕ) → character < 256 → said case (entry_of character) ≡ digit_in case character
unfolding digit_in
looked_up Lower character h = same_eq _ _ (at 256 (λ c. same (said Lower (entry_of c)) (digit_in Lower c)) tt character h)
looked_up Upper character h = same_eq _ _ (at 256 (λ c. same (said Upper (entry_of c)) (digit_in Upper c)) tt character h)
