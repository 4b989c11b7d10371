-- Hex digits and bytes: each reading undoes its writing, and the other way round.
use mathlib.Core.Path.{◌≡◌, refl, sym, ap}
use mathlib.Core.Bool.{Bool, true, false, cond, ◌&&◌, false≢true}
use mathlib.Core.List.{List, [], ◌∷◌, ◌++◌}
use mathlib.Core.Option as option
use mathlib.Core.Option.{some, none, none-ne-some, some-injective}
use Prim.Native.Nat.{ℕ, ◌+◌, ◌-◌, ◌*◌, ◌/◌, ◌%◌, ◌≤◌, ◌<◌}
use native.Mathlib.Omega.{arith}
use lib.Dec.{leb, ltb}
use lib.ListN.{length}
use lib.Pow.{are_bytes}
use borrow.Author.Tests.{ltb-true, ltb-false, leb-true, lt-ltb, le-ltb, le-leb, lt-leb}
use Rattle.digits.specs.declared.hex.Case.{Case}
use Rattle.digits.specs.declared.hex.Case.TheVariants.{Lower, Upper}
use Rattle.std.specs.Prelude.{Option, Some, None}
use Rattle.digits.specs.Hex.{within, letter_a, digit_in, pair_of, and_then, from_hex_in, hex_digit_in, hex_in, all_digits}

-- ---- tests

-- two tests that both hold
pub and_both : (s t : Bool) → (s && t) ≡ true → (s ≡ true) × (t ≡ true)
and_both true t e = (refl, e)
and_both false t e = absurd (false≢true e)

-- a character of a range lies between its ends
pub within_true : (first last c : ℕ) → within first last c ≡ true → (first ≤ c) × (c ≤ last)
within_true first last c e =
    let b = and_both (leb first c) _ e in
    (leb-true first c b.0, leb-true c last b.1)

-- a character between the ends of a range is of the range
pub within_is : (first last c : ℕ) → first ≤ c → c ≤ last → within first last c ≡ true
within_is first last c h k = rw (le-leb first c h, le-leb c last k)

-- ---- digits

-- the letters stand behind the decimals
letters_behind : (case : Case) → 0x39 < letter_a case
letters_behind Lower = omega arith
letters_behind Upper = omega arith

-- the value that a digit is read as is below 16, and is written as this digit
pub digit_spells : (case : Case) (c v : ℕ) → digit_in case c ≡ Some v → (v < 16) × (hex_digit_in case v ≡ c)
unfolding digit_in hex_digit_in
digit_spells case c v = go (letter_a case) (letters_behind case) (within 0x30 0x39 c) (within (letter_a case) (letter_a case + 5) c) refl refl
  where
    go : (ten : ℕ) → 0x39 < ten → (t u : Bool) → within 0x30 0x39 c ≡ t → within ten (ten + 5) c ≡ u
        → cond t (Some (c - 0x30)) (cond u (Some (c - ten + 10)) None) ≡ Some v → (v < 16) × (cond (ltb v 10) (0x30 + v) (ten - 10 + v) ≡ c)
    go ten h true u e f g =
        let b = within_true 0x30 0x39 c e in
        let k : c - 0x30 ≡ v = cc in
        (omega arith, rw (lt-ltb v 10 (omega arith)) (omega arith))
    go ten h false true e f g =
        let b = within_true ten (ten + 5) c f in
        let k : c - ten + 10 ≡ v = cc in
        (omega arith, rw (le-ltb v 10 (omega arith)) (omega arith))
    go ten h false false e f g = absurd cc

-- the digit of a value is read as this value
pub spelled_digit : (case : Case) (v : ℕ) → v < 16 → digit_in case (hex_digit_in case v) ≡ Some v
unfolding digit_in hex_digit_in
spelled_digit case v h = go (letter_a case) (letters_behind case) (ltb v 10) refl
  where
    go : (ten : ℕ) → 0x39 < ten → (t : Bool) → ltb v 10 ≡ t → let c = cond t (0x30 + v) (ten - 10 + v) in
        cond (within 0x30 0x39 c) (Some (c - 0x30)) (cond (within ten (ten + 5) c) (Some (c - ten + 10)) None) ≡ Some v
    go ten k true e =
        let l : v < 10 = ltb-true v 10 e in
        rw (within_is 0x30 0x39 (0x30 + v) (omega arith) (omega arith)) (ap Some (omega arith))
    go ten k false e =
        let l : 10 ≤ v = ltb-false v 10 e in
        rw (le-leb 0x30 (ten - 10 + v) (omega arith), lt-leb (ten - 10 + v) 0x39 (omega arith), within_is ten (ten + 5) (ten - 10 + v) (omega arith) (omega arith))
        (ap Some (omega arith))

-- ---- bytes

-- the digits of bytes are read as these bytes
pub bytes_hex : (case : Case) (x : List ℕ) → are_bytes x ≡ true → from_hex_in case (hex_in case x) ≡ some x
bytes_hex case [] e = refl
bytes_hex case (b ∷ x) e =
    let t = and_both (ltb b 256) _ e in
    let l : b < 256 = ltb-true b 256 t.0 in
    rw (spelled_digit case (b / 16) (omega arith), spelled_digit case (b % 16) (omega arith), bytes_hex case x t.1)
    (ap (λ (c : ℕ). some (c ∷ x)) (omega arith))

-- what a text is read as are bytes, and their digits are this text
pub hex_bytes : (case : Case) (text x : List ℕ) → from_hex_in case text ≡ some x → (hex_in case x ≡ text) × (are_bytes x ≡ true)
hex_bytes case [] x e = let f : x ≡ [] = sym (some-injective [] x e) in rw f (refl, refl)
hex_bytes case (one ∷ []) x e = absurd (none-ne-some x e)
hex_bytes case (high ∷ low ∷ text) x e = go (digit_in case high) (digit_in case low) (from_hex_in case text) refl refl refl e (hex_bytes case text)
  where
    go : (p q : Option ℕ) (r : option.Option (List ℕ)) → digit_in case high ≡ p → digit_in case low ≡ q → from_hex_in case text ≡ r → and_then (pair_of p q) r ≡ some x
        → ((y : List ℕ) → from_hex_in case text ≡ some y → (hex_in case y ≡ text) × (are_bytes y ≡ true))
        → (hex_in case x ≡ high ∷ low ∷ text) × (are_bytes x ≡ true)
    go (Some a) (Some b) (some y) f g h e rest =
        let s = digit_spells case high a f in
        let t = digit_spells case low b g in
        let u = rest y h in
        let i : (16 * a + b) / 16 ≡ a = omega arith in
        let j : (16 * a + b) % 16 ≡ b = omega arith in
        let k : x ≡ (16 * a + b) ∷ y = sym (some-injective _ x e) in
        rw (k, lt-ltb (16 * a + b) 256 (omega arith)) (cc, u.1)
    go (Some a) (Some b) none f g h e rest = absurd (none-ne-some x e)
    go (Some a) None r f g h e rest = absurd (none-ne-some x e)
    go None q r f g h e rest = absurd (none-ne-some x e)

-- two digits a byte
pub length_hex : (case : Case) (x : List ℕ) → length (hex_in case x) ≡ 2 * length x
length_hex case [] = refl
length_hex case (b ∷ x) = omega (arith, length_hex case x)

-- the digits of bytes are digits
pub digits_hex : (case : Case) (x : List ℕ) → are_bytes x ≡ true → all_digits case (hex_in case x) ≡ true
digits_hex case [] e = refl
digits_hex case (b ∷ x) e =
    let t = and_both (ltb b 256) _ e in
    let l : b < 256 = ltb-true b 256 t.0 in
    rw (spelled_digit case (b / 16) (omega arith), spelled_digit case (b % 16) (omega arith)) (digits_hex case x t.1)

-- the digits of bytes behind bytes stand behind theirs
pub hex_append : (case : Case) (x y : List ℕ) → hex_in case (x ++ y) ≡ hex_in case x ++ hex_in case y
hex_append case [] y = refl
hex_append case (b ∷ x) y = ap (λ (digits : List ℕ). hex_digit_in case (b / 16) ∷ hex_digit_in case (b % 16) ∷ digits) (hex_append case x y)
