-- The sets before the later edition came: the table, the constants of v1's runs, and the sealing and opening that stood on them, as they were. Sets 1 and 2 keep them.
use Rattle.std.specs.Prelude.{Bool, cond, ◌&&◌, List, [], ◌∷◌, ◌≡◌, ℕ, ◌-◌, ◌%◌, leb, length, get_or}
use Rattle.std.proofs.Math.Option.{Option, some, none}
use Rattle.permutation.specs.declared.Run.{Run}
use Rattle.permutation.specs.declared.Run.TheVariants.{Twelve, FirstEight, FirstSix}
use Rattle.permutation.specs.Runs.{constants_of}
use Rattle.permutation.specs.Strings.{◌‖◌, zeros, same}
use Rattle.ascon.specs.Sets.{ParameterSet, first_word_v1, ascon128, ascon96, is_set, row_of}
use Rattle.ascon.specs.Mode.{◌⊕◌, p, pad, pad_ad, blocks, count, absorb, separate, encrypt, decrypt, finalise, Sealed, sealed, opened}

-- the two rows that there were, in their order
abbrev pub table_before : List ParameterSet
table_before = ascon128 ∷ ascon96 ∷ []

abbrev pub is_set_before : ℕ → Bool
is_set_before set = leb 1 set && leb set (length table_before)

abbrev pub row_before : ℕ → ParameterSet
row_before set = get_or table_before (set - 1) ascon128

-- the five fields that a row had; the word is v1's of the others
pub record RowBefore (key block : ℕ) (between : Run) (row : ParameterSet) : Type 0 where
  pub key_is : row.key ≡ key
  pub block_is : row.block ≡ block
  pub ends_is : row.ends ≡ Twelve
  pub between_is : row.between ≡ between
  pub word_is : row.word ≡ first_word_v1 key Twelve between

-- key and nonce were said to be the last bytes of the initial value
abbrev pub first_block_before : ParameterSet → List ℕ
first_block_before set = set.word ‖ zeros (40 - set.key - set.key - length set.word)

abbrev pub initialise_before : ParameterSet → List ℕ → List ℕ → List ℕ
initialise_before set K N = p set.ends (first_block_before set ‖ K ‖ N) ⊕ (zeros (40 - set.key) ‖ K)

-- what stood on it, word for word as `Mode` has it
abbrev pub before_text_before : ParameterSet → List ℕ → List ℕ → List ℕ → List ℕ
before_text_before set K N A = separate (absorb set.block (p set.between) (initialise_before set K N) (pad_ad set.block A))

abbrev pub sealed_before : ParameterSet → List ℕ → List ℕ → List ℕ → List ℕ → Sealed
sealed_before set K N A P =
    let text = encrypt set.block (p set.between) (length P % set.block) (before_text_before set K N A) (pad set.block P) in
    record { cipher = text.out; tag = finalise set K text.state }

abbrev pub opened_before : ParameterSet → List ℕ → List ℕ → List ℕ → List ℕ → List ℕ → Option (List ℕ)
opened_before set K N A C T =
    let text = decrypt set.block (p set.between) (before_text_before set K N A) (blocks set.block (count set.block C) C) in
    cond (same T (finalise set K text.state)) (some text.out) none

pub record SetsBefore : Type 0 where
  pub row_1 : RowBefore 16 8 FirstSix (row_of 1)
  pub row_2 : RowBefore 12 16 FirstEight (row_of 2)
  -- the constants that their runs take
  pub twelve : constants_of Twelve ≡ 0xf0 ∷ 0xe1 ∷ 0xd2 ∷ 0xc3 ∷ 0xb4 ∷ 0xa5 ∷ 0x96 ∷ 0x87 ∷ 0x78 ∷ 0x69 ∷ 0x5a ∷ 0x4b ∷ []
  pub eight : constants_of FirstEight ≡ 0xf0 ∷ 0xe1 ∷ 0xd2 ∷ 0xc3 ∷ 0xb4 ∷ 0xa5 ∷ 0x96 ∷ 0x87 ∷ []
  pub six : constants_of FirstSix ≡ 0xf0 ∷ 0xe1 ∷ 0xd2 ∷ 0xc3 ∷ 0xb4 ∷ 0xa5 ∷ []
  -- a number but 3 and 4 names a set where it named one, and has the row that it had
  pub numbers : (set : ℕ) → (set ≡ 3 → ⊥) → (set ≡ 4 → ⊥) → (is_set set ≡ is_set_before set) × (row_of set ≡ row_before set)
  -- sealing and opening give what they gave. The equations hold of sets 3 and 4, too: in every row the key lies two keys before the end
  pub sealing : (set : ℕ) (K N A P : List ℕ) → sealed (row_of set) K N A P ≡ sealed_before (row_of set) K N A P
  pub opening : (set : ℕ) (K N A C T : List ℕ) → opened (row_of set) K N A C T ≡ opened_before (row_of set) K N A C T
