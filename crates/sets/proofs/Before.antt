-- Sets 1 and 2 are what they were before the later edition came.
use mathlib.Core.Path.{◌≡◌, refl, sym, ap, ◌∙◌}
use mathlib.Core.Bool.{false, cond}
use mathlib.Core.List.{List}
use mathlib.Core.Option.{some, none}
use Prim.Native.Nat.{ℕ, zero, suc, ◌-◌, ◌%◌}
use native.Mathlib.Omega.{arith}
use lib.ListN.{length, get_or-eq_default}
use borrow.Author.Tests.{le-leb, lt-leb}
use Rattle.permutation.specs.Runs.{constants, constants_of, rounds_of}
use Rattle.permutation.specs.Strings.{◌‖◌, zeros, same}
use Rattle.permutation.proofs.Strings.{same_eq}
use Rattle.ascon.specs.Sets.{ascon128, table, is_set, row_of}
use Rattle.ascon.specs.Mode.{◌⊕◌, p, pad, pad_ad, blocks, count, before_key, initialise, absorb, separate, before_text, encrypt, decrypt, encrypted, decrypted, finalise, sealed, opened}
use Rattle.sets.specs.Before.{table_before, is_set_before, row_before, first_block_before, initialise_before, before_text_before, SetsBefore}
use Rattle.sets.proofs.Rows.{each_row, unknown_set}

-- a number past the last row named no set and names none, and stands for the first row
past : (n : ℕ) → let set = suc (suc (suc (suc (suc n)))) in (is_set set ≡ is_set_before set) × (row_of set ≡ row_before set)
unfolding is_set table
past n =
    let set : ℕ = suc (suc (suc (suc (suc n)))) in
    let now : is_set set ≡ false = rw (le-leb 1 set (omega arith), lt-leb set 4 (omega arith)) in
    let before : is_set_before set ≡ false = rw (le-leb 1 set (omega arith), lt-leb set 2 (omega arith)) in
    (now ∙ sym before, unknown_set set now ∙ sym (get_or-eq_default table_before ascon128 {n = set - 1} (omega arith)))

numbers : (set : ℕ) → (set ≡ 3 → ⊥) → (set ≡ 4 → ⊥) → (is_set set ≡ is_set_before set) × (row_of set ≡ row_before set)
unfolding is_set row_of table
numbers zero h k = (refl, refl)
numbers (suc zero) h k = (refl, refl)
numbers (suc (suc zero)) h k = (refl, refl)
numbers (suc (suc (suc zero))) h k = absurd (h refl)
numbers (suc (suc (suc (suc zero)))) h k = absurd (k refl)
numbers (suc (suc (suc (suc (suc n))))) h k = past n

-- what stands before the key fills the state up to key and nonce
before_key_lem : (set : ℕ) → before_key (row_of set) ≡ first_block_before (row_of set)
unfolding before_key table rounds_of constants_of constants
before_key_lem set = same_eq _ _ (each_row (λ row. same (before_key row) (first_block_before row)) refl set)

-- so a start gives the state that it gave
started : (set : ℕ) (K N : List ℕ) → initialise (row_of set) K N ≡ initialise_before (row_of set) K N
unfolding initialise
started set K N = let row = row_of set in ap (λ (F : List ℕ). p row.ends (F ‖ K ‖ N) ⊕ (zeros (40 - row.key) ‖ K)) (before_key_lem set)

-- and so the data is taken in as it was
taken_in : (set : ℕ) (K N A : List ℕ) → before_text (row_of set) K N A ≡ before_text_before (row_of set) K N A
unfolding before_text
taken_in set K N A = let row = row_of set in ap (λ (S : List ℕ). separate (absorb row.block (p row.between) S (pad_ad row.block A))) (started set K N)

pub sets_before : SetsBefore
unfolding sealed opened encrypted decrypted row_of table constants_of constants
sets_before = record {
  row_1 = record { key_is = refl; block_is = refl; ends_is = refl; between_is = refl; word_is = refl };
  row_2 = record { key_is = refl; block_is = refl; ends_is = refl; between_is = refl; word_is = refl };
  twelve = refl;
  eight = refl;
  six = refl;
  numbers = numbers;
  sealing = λ set K N A P. let row = row_of set in
      ap (λ (S : List ℕ). let text = encrypt row.block (p row.between) (length P % row.block) S (pad row.block P) in
      record { cipher = text.out; tag = finalise row K text.state }) (taken_in set K N A);
  opening = λ set K N A C T. let row = row_of set in
      ap (λ (S : List ℕ). let text = decrypt row.block (p row.between) S (blocks row.block (count row.block C) C) in
      cond (same T (finalise row K text.state)) (some text.out) none) (taken_in set K N A);
}
