-- Numbers and their numerals: each reading undoes its writing, and the other way round.
use mathlib.Core.Path.{◌≡◌, refl, sym, ap, ◌∙◌, subst}
use mathlib.Core.Bool.{Bool, true, false, ◌&&◌, false≢true}
use mathlib.Core.List.{List, [], ◌∷◌, ◌++◌, append-nil}
use Prim.Native.Nat.{ℕ, zero, suc, ◌+◌, ◌-◌, ◌*◌, ◌/◌, ◌%◌, ◌^◌, ◌≤◌, ◌<◌}
use native.Mathlib.Nat.{le_refl}
use native.Mathlib.Omega.{arith}
use lib.Dec.{eqb, leb, ltb}
use lib.ListN.{length, get_or, length-append, get_or-append}
use lib.Seq.{append_snoc}
use borrow.Author.Tests.{ltb-true, ltb-false, lt-ltb, le-ltb, le-leb, eq-eqb}
use Rattle.digits.specs.Hex.{within}
use Rattle.digits.specs.Numbers.{places_in, places, decimals, numeral}
use Rattle.digits.proofs.Spelling.{and_both, within_true, within_is}

-- ---- decimals

-- each character is one of `0` to `9`
abbrev pub all_decimal : List ℕ → Bool
all_decimal [] = true
all_decimal (character ∷ text) = within 0x30 0x39 character && all_decimal text

-- a zero that other digits follow
abbrev pub needless_zero : List ℕ → Bool
needless_zero text = eqb (get_or text 0 0) 0x30 && leb 2 (length text)

-- the number that digits go on to, from what the digits before them say
abbrev pub value_from : ℕ → List ℕ → ℕ
value_from n [] = n
value_from n (character ∷ text) = value_from (10 * n + (character - 0x30)) text

-- what holds of the numbers below ten, and goes on with each digit more, holds of all
by_digits : (P : ℕ → Type 0) → ((d : ℕ) → d < 10 → P d) → ((n d : ℕ) → 1 ≤ n → d < 10 → P n → P (10 * n + d)) → (n : ℕ) → P n
by_digits P one more n = go n n (le_refl n)
  where
    pick : (m : ℕ) (t : Bool) → ltb m 10 ≡ t → P (m / 10) → P m
    pick m true e p = one m (ltb-true m 10 e)
    pick m false e p =
        let l : 10 ≤ m = ltb-false m 10 e in
        subst P (omega arith) (more (m / 10) (m % 10) (omega arith) (omega arith) p)

    go : (f m : ℕ) → m ≤ f → P m
    go zero m h = one m (omega arith)
    go (suc f) m h = pick m (ltb m 10) refl (go f (m / 10) (omega arith))

-- ---- how many digits

-- more steps than enough change nothing
steps_enough : (f g n : ℕ) → n ≤ f → n ≤ g → places_in f n ≡ places_in g n
steps_enough zero zero n h k = refl
steps_enough zero (suc g) n h k = rw (lt-ltb n 10 (omega arith))
steps_enough (suc f) zero n h k = rw (lt-ltb n 10 (omega arith))
steps_enough (suc f) (suc g) n h k = rw (steps_enough f g (n / 10) (omega arith) (omega arith))

-- a number below ten has one digit
places_one : (d : ℕ) → d < 10 → places d ≡ 1
unfolding places
places_one d h = steps_enough d (suc d) d (omega arith) (omega arith) ∙ rw (lt-ltb d 10 h)

-- a digit behind a number other than 0 is one more
places_more : (n d : ℕ) → 1 ≤ n → d < 10 → places (10 * n + d) ≡ suc (places n)
unfolding places
places_more n d l h =
    let m : ℕ = 10 * n + d in
    let e : m / 10 ≡ n = omega arith in
    steps_enough m (suc m) m (omega arith) (omega arith)
    ∙ rw (le-ltb m 10 (omega arith), e) (ap suc (steps_enough m n n (omega arith) (omega arith)))

-- a number has at least one digit
pub places_some : (n : ℕ) → 1 ≤ places n
places_some = by_digits (λ (n : ℕ). 1 ≤ places n) (λ d h. omega (arith, places_one d h)) (λ n d l h k. omega (arith, places_more n d l h))

-- a number below a power of ten has no more digits than the power has zeros
pub places_least : (n k : ℕ) → n < 10 ^ suc k → places n ≤ suc k
places_least = by_digits (λ (n : ℕ). (k : ℕ) → n < 10 ^ suc k → places n ≤ suc k) (λ d h k b. omega (arith, places_one d h)) more
  where
    more : (n d : ℕ) → 1 ≤ n → d < 10 → ((k : ℕ) → n < 10 ^ suc k → places n ≤ suc k)
        → (k : ℕ) → 10 * n + d < 10 ^ suc k → places (10 * n + d) ≤ suc k
    more n d l h rest zero b = absurd (omega arith)
    more n d l h rest (suc k) b = omega (arith, places_more n d l h, rest k (omega arith))

-- a number from a power of ten on has more digits than the power has zeros
places_most : (n k : ℕ) → 10 ^ k ≤ n → suc k ≤ places n
places_most = by_digits (λ (n : ℕ). (k : ℕ) → 10 ^ k ≤ n → suc k ≤ places n) one more
  where
    one : (d : ℕ) → d < 10 → (k : ℕ) → 10 ^ k ≤ d → suc k ≤ places d
    one d h zero b = omega (arith, places_some d)
    one d h (suc k) b = absurd (omega (arith, one_le_pow k))
      where
        one_le_pow : (k : ℕ) → 1 ≤ 10 ^ k
        one_le_pow zero = omega arith
        one_le_pow (suc k) = omega (arith, one_le_pow k)

    more : (n d : ℕ) → 1 ≤ n → d < 10 → ((k : ℕ) → 10 ^ k ≤ n → suc k ≤ places n) → (k : ℕ) → 10 ^ k ≤ 10 * n + d → suc k ≤ places (10 * n + d)
    more n d l h rest zero b = omega (arith, places_some (10 * n + d))
    more n d l h rest (suc k) b = omega (arith, places_more n d l h, rest k (omega arith))

-- so how many digits it has
pub places_is : (n k : ℕ) → 10 ^ k ≤ n → n < 10 * 10 ^ k → k + 1 ≡ places n
places_is n k h b = omega (arith, places_least n k (omega arith), places_most n k h)

-- a numeral has as many digits as its number
pub length_numeral : (n : ℕ) → length (numeral n) ≡ places n
unfolding numeral
length_numeral n = go (places n) n
  where
    go : (k m : ℕ) → length (decimals k m) ≡ k
    go zero m = refl
    go (suc k) m = simp length-append (omega (arith, go k (m / 10)))

-- ---- digit by digit

-- a number below ten is written as its digit
pub numeral_one : (d : ℕ) → d < 10 → numeral d ≡ (0x30 + d) ∷ []
unfolding numeral
numeral_one d h = rw (places_one d h) (ap (λ (c : ℕ). (0x30 + c) ∷ []) (omega arith))

-- a digit behind a number other than 0 is written behind its numeral
numeral_more : (n d : ℕ) → 1 ≤ n → d < 10 → numeral (10 * n + d) ≡ numeral n ++ (0x30 + d) ∷ []
unfolding numeral
numeral_more n d l h =
    let e : (10 * n + d) / 10 ≡ n = omega arith in
    let f : (10 * n + d) % 10 ≡ d = omega arith in
    rw (places_more n d l h, e, f)

-- a number other than 0 is written with no zero first
pub numeral_first : (n : ℕ) → 1 ≤ n → 0x31 ≤ get_or (numeral n) 0 0
numeral_first = by_digits (λ (n : ℕ). 1 ≤ n → 0x31 ≤ get_or (numeral n) 0 0) (λ d h l. rw (numeral_one d h) (omega arith))
    (λ n d l h rest k. rw (numeral_more n d l h, get_or-append (numeral n) ((0x30 + d) ∷ []) 0 0 (omega (arith, length_numeral n, places_some n))) (rest l))

-- ---- the characters

-- decimals behind decimals are decimals
decimal_append : (x y : List ℕ) → all_decimal x ≡ true → all_decimal y ≡ true → all_decimal (x ++ y) ≡ true
decimal_append [] y e f = f
decimal_append (c ∷ x) y e f =
    let b = and_both (within 0x30 0x39 c) _ e in
    rw b.0 (decimal_append x y b.1 f)

-- a numeral is of decimals
pub decimal_numeral : (n : ℕ) → all_decimal (numeral n) ≡ true
unfolding numeral
decimal_numeral n = go (places n) n
  where
    go : (k m : ℕ) → all_decimal (decimals k m) ≡ true
    go zero m = refl
    go (suc k) m =
        decimal_append (decimals k (m / 10)) ((0x30 + m % 10) ∷ []) (go k (m / 10))
        (rw (within_is 0x30 0x39 (0x30 + m % 10) (omega arith) (omega arith)))

-- the first of decimals is one of `0` to `9`, and the others are decimals
pub decimal_cons : (c : ℕ) (text : List ℕ) → all_decimal (c ∷ text) ≡ true → ((0x30 ≤ c) × (c ≤ 0x39)) × (all_decimal text ≡ true)
decimal_cons c text e =
    let b = and_both (within 0x30 0x39 c) _ e in
    (within_true 0x30 0x39 c b.0, b.1)

-- ---- reading what was written

-- digits behind digits are read from what those say
value_append : (n : ℕ) (x y : List ℕ) → value_from n (x ++ y) ≡ value_from (value_from n x) y
value_append n [] y = refl
value_append n (c ∷ x) y = value_append (10 * n + (c - 0x30)) x y

-- the digits of a numeral say its number
pub value_numeral : (n : ℕ) → value_from 0 (numeral n) ≡ n
value_numeral = by_digits (λ (n : ℕ). value_from 0 (numeral n) ≡ n) (λ d h. rw (numeral_one d h) (omega arith))
    (λ n d l h e. rw (numeral_more n d l h, value_append, e) (omega arith))

-- ---- writing what was read

-- what digits go on to from a number other than 0 is written as its numeral, and the digits behind it
numeral_on : (n : ℕ) (text : List ℕ) → 1 ≤ n → all_decimal text ≡ true → numeral (value_from n text) ≡ numeral n ++ text
numeral_on n [] l e = sym (append-nil (numeral n))
numeral_on n (c ∷ text) l e =
    let b = decimal_cons c text e in
    let k : 0x30 + (c - 0x30) ≡ c = omega arith in
    numeral_on (10 * n + (c - 0x30)) text (omega arith) b.1
    ∙ rw (numeral_more n (c - 0x30) l (omega arith), k) (append_snoc (numeral n) c text)

-- one decimal is the numeral of what it says
numeral_digit : (c : ℕ) (text : List ℕ) → all_decimal (c ∷ text) ≡ true → numeral (0 + (c - 0x30)) ≡ c ∷ []
numeral_digit c text e =
    let b = decimal_cons c text e in
    numeral_one (0 + (c - 0x30)) (omega arith) ∙ ap (λ (d : ℕ). d ∷ []) (omega arith)

-- decimals with no needless zero are the numeral of what they say
pub numeral_value : (text : List ℕ) → leb 1 (length text) ≡ true → needless_zero text ≡ false → all_decimal text ≡ true → numeral (value_from 0 text) ≡ text
numeral_value [] s z e = absurd (false≢true s)
numeral_value (c ∷ []) s z e = numeral_digit c [] e
numeral_value (c ∷ d ∷ text) s z e =
    let b = decimal_cons c (d ∷ text) e in
    let f : c ≡ 0x30 → ⊥ = λ q. false≢true (sym (rw (eq-eqb c 0x30 q, le-leb 2 (length (c ∷ d ∷ text)) (omega arith)) at z)) in
    numeral_on (0 + (c - 0x30)) (d ∷ text) (omega arith) b.1 ∙ rw (numeral_digit c (d ∷ text) e)
