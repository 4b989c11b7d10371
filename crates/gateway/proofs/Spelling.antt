-- The spelling of a state: its lengths, and that it is what is put.
use mathlib.Core.Path.{◌≡◌, sym, ap, ap₂, ◌∙◌}
use mathlib.Core.Bool.{true, and-eq-true_iff, ◌&&◌}
use mathlib.Core.List.{List, [], ◌∷◌, ◌++◌, append-nil}
use Prim.Native.Nat.{ℕ, ◌+◌, ◌*◌}
use native.Mathlib.Omega.{arith}
use lib.Dec.{eqb, leb}
use lib.ListN.{length, length-append, drop_of_length-le}
use borrow.Author.Tests.{eqb-true}
use Rattle.permutation.specs.Strings.{string_of_words, bytes_of}
use Rattle.permutation.proofs.Strings.{length_bytes}
use Rattle.stream.specs.declared.Stream.{Stream}
use Rattle.gateway.specs.Laying.{laid}
use Rattle.gateway.specs.Spelling.{state_length, numbers_of, spelling, number_at, is_spelling}
use Rattle.gateway.proofs.Laying.{laid_is, laid_append}

-- ---- lengths

-- a word has eight bytes
pub length_words : (words : List ℕ) → length (string_of_words words) ≡ 8 * length words
length_words [] = omega arith
length_words (w ∷ words) = length-append (bytes_of 8 w) (string_of_words words) ∙ omega (arith, length_bytes 8 w, length_words words)

-- what spells a state has its length
pub spelling_length : (area : List ℕ) → is_spelling area ≡ true → length area ≡ state_length
unfolding is_spelling
spelling_length area e = eqb-true (length area) state_length ((and-eq-true_iff (eqb (length area) state_length) (leb (number_at area 64) 2 && leb (number_at area 72) 2)).0 e).0

-- ---- a state that is put

module _ (s : Stream) (words : length s.words ≡ 5) (key : length s.key ≡ 16) where
  -- a spelling has the length of an area
  pub length_spelling : length (spelling s) ≡ state_length
  unfolding spelling
  length_spelling =
      length-append (string_of_words s.words) (s.key ++ string_of_words (numbers_of s))
      ∙ omega (arith, length-append s.key (string_of_words (numbers_of s)), length_words s.words, length_words (numbers_of s))

  -- words, key and numbers, put one after the other, are the spelling
  pub laid_spelling : (area : List ℕ) → length area ≡ state_length
      → laid (laid (laid area 0 (string_of_words s.words)) 40 s.key) 56 (string_of_words (numbers_of s)) ≡ spelling s
  unfolding spelling
  laid_spelling area whole =
      let W = string_of_words s.words in
      let N = string_of_words (numbers_of s) in
      let forty : 40 ≡ 0 + length W = omega (arith, length_words s.words) in
      let behind : 56 ≡ 0 + length W + length s.key = omega (arith, length_words s.words) in
      ap₂ (λ (i j : ℕ). laid (laid (laid area 0 W) i s.key) j N) forty behind
      ∙ sym (laid_append (laid area 0 W) (0 + length W) s.key N)
      ∙ sym (laid_append area 0 W (s.key ++ N))
      ∙ laid_is area 0 (spelling s) (omega (arith, length_spelling))
      ∙ ap (λ (x : List ℕ). spelling s ++ x) (drop_of_length-le area {i = 0 + length (spelling s)} (omega (arith, length_spelling)))
      ∙ append-nil (spelling s)
