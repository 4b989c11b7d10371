-- Strings of bytes: zeros, the test for equality; a number and its bytes, a state and its 40 bytes, are each other's inverse.
use mathlib.Core.Path.{◌≡◌, refl, sym, ap, ap₂, ◌∙◌}
use mathlib.Core.Bool.{Bool, true, false, ◌&&◌, false≢true}
use mathlib.Core.List.{List, [], ◌∷◌, ◌++◌}
use Prim.Native.Nat.{ℕ, zero, suc, ◌+◌, ◌-◌, ◌*◌, ◌/◌, ◌%◌, ◌^◌, ◌≤◌, ◌<◌}
use native.Mathlib.Nat.{mod-lt, mod-eq_of_lt, mod-one, mul-mod_left, div-eq_of_lt, lt_of_lt_of_le, not-suc-le-zero, le_of_suc-le-suc, sub-zero, zero-sub, suc-sub-suc}
use native.Mathlib.Omega.{arith}
use lib.Arith.{digits_lt}
use lib.Bits.{bit_xor, xor_shr, xor_mod, xor_zero_r}
use lib.Dec.{eqb, lit<}
use lib.ListN.{length, get_or, set, take, drop, length-drop, take-append-drop}
use lib.Pow.{pow-add, pow_mono, mod-pow-add, mod-mod-pow, field, high, low, shl_lt, shl-shr}
use lib.Seq.{length-take-le, take_all, drop-drop, get_or-drop}
use borrow.Author.Tests.{eqb-true, eq-eqb}
use Rattle.permutation.specs.declared.State.{State}
use Rattle.permutation.specs.Strings.{Bytes, zeros, same, bytes_of, value_of, string_of, state_of}
use Rattle.permutation.proofs.Words.{Words}

-- ---- strings of bytes

pub bytes_none : Bytes []
bytes_none = record { at = λ i. lit< tt }

pub bytes_cons : {b : ℕ} {x : List ℕ} → b < 2 ^ 8 → Bytes x → Bytes (b ∷ x)
bytes_cons {b} {x} h p = record { at = each }
  where
    each : (i : ℕ) → get_or (b ∷ x) i 0 < 2 ^ 8
    each zero = h
    each (suc i) = p.at i

pub bytes_zeros : (n : ℕ) → Bytes (zeros n)
bytes_zeros zero = record { at = λ i. lit< tt }
bytes_zeros (suc n) = bytes_cons (lit< tt) (bytes_zeros n)

-- what is left of zeros
pub drop_zeros : (n m : ℕ) → drop n (zeros m) ≡ zeros (m - n)
drop_zeros zero m = ap zeros (sym (sub-zero m))
drop_zeros (suc n) zero = ap zeros (sym (zero-sub (suc n)))
drop_zeros (suc n) (suc m) = drop_zeros n m ∙ ap zeros (sym (suc-sub-suc m n))

pub bytes_tail : {b : ℕ} {x : List ℕ} → Bytes (b ∷ x) → Bytes x
bytes_tail p = record { at = λ i. p.at (suc i) }

pub bytes_append : {x y : List ℕ} → Bytes x → Bytes y → Bytes (x ++ y)
bytes_append {x = []} p q = q
bytes_append {x = b ∷ x} p q = bytes_cons (p.at 0) (bytes_append (bytes_tail p) q)

pub bytes_take : (n : ℕ) {x : List ℕ} → Bytes x → Bytes (take n x)
bytes_take zero p = bytes_none
bytes_take (suc n) {x = []} p = bytes_none
bytes_take (suc n) {x = b ∷ x} p = bytes_cons (p.at 0) (bytes_take n (bytes_tail p))

pub bytes_drop : (n : ℕ) {x : List ℕ} → Bytes x → Bytes (drop n x)
bytes_drop n {x} p = record { at = λ i. rw (get_or-drop n x i 0) (p.at (n + i)) }

pub bytes_set : (x : List ℕ) (i b : ℕ) → Bytes x → b < 2 ^ 8 → Bytes (set x i b)
bytes_set [] i b p h = p
bytes_set (a ∷ x) zero b p h = bytes_cons h (bytes_tail p)
bytes_set (a ∷ x) (suc i) b p h = bytes_cons (p.at 0) (bytes_set x i b (bytes_tail p) h)

-- ---- the test for equality

pub same_refl : (x : List ℕ) → same x x ≡ true
same_refl [] = refl
same_refl (a ∷ x) = rw (eq-eqb a a refl, same_refl x)

pub same_eq : (x y : List ℕ) → same x y ≡ true → x ≡ y
same_eq [] [] e = refl
same_eq [] (b ∷ y) e = absurd (false≢true e)
same_eq (a ∷ x) [] e = absurd (false≢true e)
same_eq (a ∷ x) (b ∷ y) e = go (eqb a b) refl e (same_eq x y)
  where
    go : (t : Bool) → eqb a b ≡ t → (t && same x y) ≡ true → (same x y ≡ true → x ≡ y) → a ∷ x ≡ b ∷ y
    go true f g rest = ap₂ (λ (c : ℕ) (t : List ℕ). c ∷ t) (eqb-true a b f) (rest g)
    go false f g rest = absurd (false≢true g)

-- ---- a number and its bytes

-- one byte more
eight_more : (n : ℕ) → 8 * suc n ≡ 8 + 8 * n
eight_more n = omega arith

pub length_bytes : (n x : ℕ) → length (bytes_of n x) ≡ n
unfolding bytes_of
length_bytes zero x = refl
length_bytes (suc n) x = ap suc (length_bytes n x)

pub bytes_bytes : (n x : ℕ) → Bytes (bytes_of n x)
unfolding bytes_of
bytes_bytes zero x = bytes_none
bytes_bytes (suc n) x = bytes_cons (mod-lt (x / 2 ^ (8 * n)) (lit< tt)) (bytes_bytes n x)

-- n bytes of a number make the number up to 2 ^ (8 * n)
number_low : (n x : ℕ) → value_of (bytes_of n x) ≡ x % 2 ^ (8 * n)
unfolding bytes_of value_of
number_low zero x = sym (mod-one x)
number_low (suc n) x =
    ap₂ (λ (l m : ℕ). x / 2 ^ (8 * n) % 2 ^ 8 * 2 ^ (8 * l) + m) (length_bytes n x) (number_low n x)
    ∙ sym (mod-pow-add x 8 (8 * n))
    ∙ ap (λ (k : ℕ). x % 2 ^ k) (sym (eight_more n))

-- the bytes of a number make the number
pub number_bytes : (n x : ℕ) → x < 2 ^ (8 * n) → value_of (bytes_of n x) ≡ x
number_bytes n x h = number_low n x ∙ mod-eq_of_lt h

-- numbers alike up to 2 ^ (8 * n) have the same n bytes
same_low : (n x y : ℕ) → x % 2 ^ (8 * n) ≡ y % 2 ^ (8 * n) → bytes_of n x ≡ bytes_of n y
unfolding bytes_of
same_low zero x y e = refl
same_low (suc n) x y e =
    let f : x % 2 ^ (8 + 8 * n) ≡ y % 2 ^ (8 + 8 * n) = rw eight_more at e in
    ap₂ (λ (b : ℕ) (t : List ℕ). b ∷ t)
    (sym (field x 8 (8 * n)) ∙ ap (λ (m : ℕ). m / 2 ^ (8 * n)) f ∙ field y 8 (8 * n))
    (same_low n x y (sym (mod-mod-pow x 8 (8 * n)) ∙ ap (λ (m : ℕ). m % 2 ^ (8 * n)) f ∙ mod-mod-pow y 8 (8 * n)))

-- a string of n bytes makes a number below 2 ^ (8 * n)
pub number_lt : (x : List ℕ) → Bytes x → value_of x < 2 ^ (8 * length x)
unfolding value_of
number_lt [] p = lit< tt
number_lt (b ∷ x) p =
    let e : 2 ^ 8 * 2 ^ (8 * length x) ≡ 2 ^ (8 * suc (length x)) =
    sym (pow-add 2 8 (8 * length x)) ∙ ap (λ (k : ℕ). 2 ^ k) (sym (eight_more (length x))) in
    rw (← e) (digits_lt (p.at 0) (number_lt x (bytes_tail p)))

-- the number of a string of bytes has these bytes
pub bytes_number : (x : List ℕ) → Bytes x → bytes_of (length x) (value_of x) ≡ x
unfolding value_of bytes_of
bytes_number [] p = refl
bytes_number (b ∷ x) p =
    let k : ℕ = 8 * length x in
    let l : value_of x < 2 ^ k = number_lt x (bytes_tail p) in
    ap₂ (λ (c : ℕ) (t : List ℕ). c ∷ t)
    (ap (λ (m : ℕ). m % 2 ^ 8) (high b k l) ∙ mod-eq_of_lt (p.at 0))
    (same_low (length x) (b * 2 ^ k + value_of x) (value_of x) (low b k l ∙ sym (mod-eq_of_lt l)) ∙ bytes_number x (bytes_tail p))

-- ---- one byte of a number

-- byte j of n
pub byte_get : (n j x : ℕ) → j < n → get_or (bytes_of n x) j 0 ≡ x / 2 ^ (8 * (n - 1 - j)) % 2 ^ 8
unfolding bytes_of
byte_get zero j x h = absurd (not-suc-le-zero h)
byte_get (suc n) zero x h = ap (λ (k : ℕ). x / 2 ^ (8 * k) % 2 ^ 8) (omega arith)
byte_get (suc n) (suc j) x h = byte_get n j x (le_of_suc-le-suc h) ∙ ap (λ (k : ℕ). x / 2 ^ (8 * k) % 2 ^ 8) (omega arith)

-- digits combine apart
digit_xor : (x y k : ℕ) → bit_xor x y / 2 ^ k % 2 ^ 8 ≡ bit_xor (x / 2 ^ k % 2 ^ 8) (y / 2 ^ k % 2 ^ 8)
digit_xor x y k = ap (λ (n : ℕ). n % 2 ^ 8) (xor_shr x y k) ∙ xor_mod (x / 2 ^ k) (y / 2 ^ k) 8

-- a number combined with a byte in the place of byte j
pub byte_put : (n j x b : ℕ) → j < n → b < 2 ^ 8
    → bytes_of n (bit_xor x (b * 2 ^ (8 * (n - 1 - j)))) ≡ set (bytes_of n x) j (bit_xor (get_or (bytes_of n x) j 0) b)
unfolding bytes_of
byte_put zero j x b h l = absurd (not-suc-le-zero h)
byte_put (suc n) zero x b h l =
    let k : ℕ = 8 * n in
    let e : suc n - 1 - 0 ≡ n = omega arith in
    ap (λ (i : ℕ). bytes_of (suc n) (bit_xor x (b * 2 ^ (8 * i)))) e
    ∙ ap₂ (λ (c : ℕ) (t : List ℕ). c ∷ t)
    (digit_xor x (b * 2 ^ k) k ∙ ap (λ (c : ℕ). bit_xor (x / 2 ^ k % 2 ^ 8) c) (ap (λ (c : ℕ). c % 2 ^ 8) (shl-shr b k) ∙ mod-eq_of_lt l))
    (same_low n (bit_xor x (b * 2 ^ k)) x (xor_mod x (b * 2 ^ k) k ∙ ap (λ (c : ℕ). bit_xor (x % 2 ^ k) c) (mul-mod_left b (2 ^ k)) ∙ xor_zero_r (x % 2 ^ k)))
byte_put (suc n) (suc j) x b h l =
    let i : ℕ = 8 * (n - 1 - j) in
    let k : ℕ = 8 * n in
    let e : suc n - 1 - suc j ≡ n - 1 - j = omega arith in
    let o : 8 + i ≤ k = omega arith in
    let small : b * 2 ^ i < 2 ^ k = lt_of_lt_of_le (shl_lt 8 i l) (pow_mono o) in
    ap (λ (m : ℕ). bytes_of (suc n) (bit_xor x (b * 2 ^ (8 * m)))) e
    ∙ ap₂ (λ (c : ℕ) (t : List ℕ). c ∷ t)
    (digit_xor x (b * 2 ^ i) k
    ∙ ap (λ (c : ℕ). bit_xor (x / 2 ^ k % 2 ^ 8) (c % 2 ^ 8)) (div-eq_of_lt small)
    ∙ xor_zero_r (x / 2 ^ k % 2 ^ 8))
    (byte_put n j x b (le_of_suc-le-suc h) l)

-- ---- the state and its string

pub length_string : (s : State) → length (string_of s) ≡ 40
unfolding string_of bytes_of
length_string s = refl

pub bytes_string : (s : State) → Bytes (string_of s)
unfolding string_of
bytes_string s = search (bytes_append, bytes_bytes)

-- the state of a state's string is the state
pub state_string : (s : State) → Words s → state_of (string_of s) ≡ s
unfolding state_of string_of bytes_of
state_string s h = λ j. record {
  x0 = number_bytes 8 s.x0 h.x0 j;
  x1 = number_bytes 8 s.x1 h.x1 j;
  x2 = number_bytes 8 s.x2 h.x2 j;
  x3 = number_bytes 8 s.x3 h.x3 j;
  x4 = number_bytes 8 s.x4 h.x4 j;
}

-- eight bytes of a string, through their number
pub eight_bytes : (i : ℕ) (S : List ℕ) → Bytes S → i + 8 ≤ length S → bytes_of 8 (value_of (take 8 (drop i S))) ≡ take 8 (drop i S)
eight_bytes i S p h =
    let d : length (drop i S) ≡ length S - i = length-drop i S in
    let e : length (take 8 (drop i S)) ≡ 8 = length-take-le 8 (drop i S) (omega arith) in
    ap (λ (n : ℕ). bytes_of n (value_of (take 8 (drop i S)))) (sym e) ∙ bytes_number (take 8 (drop i S)) (bytes_take 8 (bytes_drop i p))

-- eight bytes, and what follows them
eight_on : (i : ℕ) (S rest : List ℕ) → rest ≡ drop (i + 8) S → take 8 (drop i S) ++ rest ≡ drop i S
eight_on i S rest e = ap (λ (t : List ℕ). take 8 (drop i S) ++ t) (e ∙ sym (drop-drop 8 i S)) ∙ take-append-drop 8 (drop i S)

-- the string of a string's state is the string
pub string_state : (S : List ℕ) → length S ≡ 40 → Bytes S → string_of (state_of S) ≡ S
unfolding state_of string_of
string_state S e p =
    let d : length (drop 32 S) ≡ length S - 32 = length-drop 32 S in
    rw (eight_bytes 0 S p (omega arith), eight_bytes 8 S p (omega arith), eight_bytes 16 S p (omega arith), eight_bytes 24 S p (omega arith), eight_bytes 32 S p (omega arith))
    (eight_on 0 S _ (eight_on 8 S _ (eight_on 16 S _ (eight_on 24 S _ (take_all 8 (drop 32 S) (omega arith))))))
