-- What a test tells of each row of the table holds of each set's.
use mathlib.Core.Path.{◌≡◌, refl, sym, ap, ◌∙◌}
use mathlib.Core.Bool.{Bool, true, false, ◌&&◌, false≢true}
use mathlib.Core.List.{List, [], ◌∷◌, map}
use Prim.Native.Nat.{ℕ, zero, suc, ◌+◌, ◌-◌, ◌*◌, ◌^◌, ◌≤◌, ◌<◌}
use native.Mathlib.Omega.{arith}
use lib.Dec.{eqb, leb}
use lib.ListN.{length, get_or, get_or-eq_default}
use borrow.Author.Tests.{eqb-true, leb-true, leb-false, le-leb}
use Rattle.permutation.specs.declared.Run.{Run}
use Rattle.permutation.specs.declared.Run.TheVariants.{Twelve, FirstEight, FirstSix, LastEight, LastSix}
use Rattle.permutation.specs.Strings.{◌‖◌, zeros, same, bytes_of, value_of, string_of_words}
use Rattle.permutation.specs.Runs.{rounds_of, constants_of, constants}
use Rattle.permutation.proofs.Strings.{same_eq}
use Rattle.ascon.specs.Sets.{ParameterSet, ascon128, table, is_set, row_of}
use Rattle.ascon.specs.Mode.{before_key}
use Rattle.ascon.proofs.Sealing.{Fits}
use Rattle.sets.specs.declared.Row.{Row}
use Rattle.sets.specs.Rows.{in_code}

-- a test of each row
abbrev all : (ParameterSet → Bool) → List ParameterSet → Bool
all test [] = true
all test (row ∷ rows) = test row && all test rows

-- it tells of the row at any place, and, by the first row, of a place past the last
all_rows : (test : ParameterSet → Bool) (rows : List ParameterSet) (other : ParameterSet) → test other ≡ true → all test rows ≡ true
    → (i : ℕ) → test (get_or rows i other) ≡ true
all_rows test [] other h e i = h
all_rows test (row ∷ rows) other h e i = go (test row) refl e i (λ f. all_rows test rows other h f)
  where
    go : (t : Bool) → test row ≡ t → (t && all test rows) ≡ true → (i : ℕ) → (all test rows ≡ true → (j : ℕ) → test (get_or rows j other) ≡ true)
        → test (get_or (row ∷ rows) i other) ≡ true
    go false f e i rest = absurd (false≢true e)
    go true f e zero rest = f
    go true f e (suc i) rest = rest e i

-- a test of the table tells of the row of each number
pub each_row : (test : ParameterSet → Bool) → all test (ascon128 ∷ table) ≡ true → (set : ℕ) → test (row_of set) ≡ true
unfolding row_of
each_row test e set = go (test ascon128) refl e
  where
    go : (t : Bool) → test ascon128 ≡ t → (t && all test table) ≡ true → test (get_or table (set - 1) ascon128) ≡ true
    go false f e = absurd (false≢true e)
    go true f e = all_rows test table ascon128 f e (set - 1)

-- ---- the table in the code

-- a row of the code's table is the row at its place
pub held_row : (rows : List ParameterSet) (i : ℕ) (other : Row) (first : ParameterSet) → i < length rows → get_or (map in_code rows) i other ≡ in_code (get_or rows i first)
held_row [] i other first h = absurd (omega arith)
held_row (row ∷ rows) zero other first h = refl
held_row (row ∷ rows) (suc i) other first h = held_row rows i other first (omega arith)

-- a number but zero is a set's where the table has so many rows
set_is : (n : ℕ) → is_set (suc n) ≡ leb (suc n) (length table)
unfolding is_set
set_is n = ap (λ (t : Bool). t && leb (suc n) (length table)) (le-leb 1 (suc n) (omega arith))

-- the number of a set is that of a row
pub known_set : (set : ℕ) → is_set set ≡ true → (1 ≤ set) × (set ≤ length table)
unfolding is_set
known_set zero e = absurd (false≢true e)
known_set (suc n) e = (omega arith, leb-true (suc n) (length table) (sym (set_is n) ∙ e))

-- the number of a set has one digit
pub one_digit : (set : ℕ) → is_set set ≡ true → set ≤ 9
unfolding table
one_digit set e = let few : length table ≤ 9 = leb-true (length table) 9 refl in omega (arith, known_set set e, few)

-- any other number stands for the first row
pub unknown_set : (set : ℕ) → is_set set ≡ false → row_of set ≡ ascon128
unfolding row_of table
unknown_set zero e = refl
unknown_set (suc n) e =
    let past : length table ≤ suc n - 1 = omega (arith, leb-false (suc n) (length table) (sym (set_is n) ∙ e)) in
    get_or-eq_default table ascon128 {n = suc n - 1} past

-- ---- what each row keeps

pub row_fits : (set : ℕ) → Fits (row_of set)
unfolding table before_key
row_fits set =
    record {
      some_block = leb-true 1 _ (each_row (λ row. leb 1 row.block) refl set);
      room = leb-true _ 40 (each_row (λ row. leb (row.block + row.key) 40) refl set);
      placed = eqb-true _ _ (each_row (λ row. eqb (length (before_key row)) row.key_at) refl set);
      whole = eqb-true _ 40 (each_row (λ row. eqb (row.key_at + 2 * row.key) 40) refl set);
    }

-- the run of twelve
abbrev is_twelve : Run → Bool
is_twelve Twelve = true
is_twelve FirstEight = false
is_twelve FirstSix = false
is_twelve LastEight = false
is_twelve LastSix = false

is_twelve_lem : (run : Run) → is_twelve run ≡ true → run ≡ Twelve
is_twelve_lem Twelve e = refl
is_twelve_lem FirstEight e = absurd (false≢true e)
is_twelve_lem FirstSix e = absurd (false≢true e)
is_twelve_lem LastEight e = absurd (false≢true e)
is_twelve_lem LastSix e = absurd (false≢true e)

-- what the code counts on
pub record Sizes (row : ParameterSet) : Type 0 where
  pub some_block : 0 < row.block
  pub block : row.block ≤ 16
  pub some_key : 12 ≤ row.key
  pub key : row.key ≤ 16
  pub first : string_of_words (value_of row.word ∷ 0 ∷ 0 ∷ 0 ∷ 0 ∷ []) ≡ before_key row ‖ zeros (2 * row.key)
  pub word : value_of row.word < 2 ^ 64
  pub rounds : rounds_of row.between ≤ 8
  pub ends : row.ends ≡ Twelve

pub row_sizes : (set : ℕ) → Sizes (row_of set)
unfolding table before_key value_of bytes_of rounds_of constants_of constants
row_sizes set =
    record {
      some_block = (row_fits set).some_block;
      block = leb-true _ 16 (each_row (λ row. leb row.block 16) refl set);
      some_key = leb-true 12 _ (each_row (λ row. leb 12 row.key) refl set);
      key = leb-true _ 16 (each_row (λ row. leb row.key 16) refl set);
      first = same_eq _ _ (each_row (λ row. same (string_of_words (value_of row.word ∷ 0 ∷ 0 ∷ 0 ∷ 0 ∷ [])) (before_key row ‖ zeros (2 * row.key))) refl set);
      word = leb-true _ (2 ^ 64) (each_row (λ row. leb (suc (value_of row.word)) (2 ^ 64)) refl set);
      rounds = leb-true _ 8 (each_row (λ row. leb (rounds_of row.between) 8) refl set);
      ends = is_twelve_lem _ (each_row (λ row. is_twelve row.ends) refl set);
    }
