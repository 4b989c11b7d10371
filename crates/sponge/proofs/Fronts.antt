-- Where a stream stands after some bytes, and what more bytes, the end of the data and the end of the text make of it.
use mathlib.Core.Path.{◌≡◌, sym, ap, ◌∙◌}
use mathlib.Core.List.{List, [], ◌∷◌, ◌++◌}
use Prim.Native.Nat.{ℕ, suc, ◌+◌, ◌%◌, ◌^◌, ◌≤◌, ◌<◌}
use native.Mathlib.Nat.{zero-add}
use native.Mathlib.Omega.{arith}
use lib.ListN.{length, take}
use borrow.Author.Tests.{ne_eqb}
use Rattle.permutation.specs.Strings.{Bytes, words_of_string}
use Rattle.ascon.specs.Sets.{ParameterSet}
use Rattle.ascon.specs.Mode.{p, initialise, separate, before_text, finalise}
use Rattle.ascon.specs.Bytewise.{At, at, sealing, closed, steps, outs}
use Rattle.ascon.proofs.Bytewise.{steps_append, outs_append, steps_place, length_steps, bytes_steps}
use Rattle.ascon.proofs.Sealing.{Fits, length_p, bytes_p, length_initialise, bytes_initialise, length_before, bytes_before, encrypted_view, decrypted_view}
use Rattle.ascon.proofs.Views.{streamed, ad_view}
use Rattle.sponge.specs.declared.Way.{Way}
use Rattle.sponge.specs.declared.Way.TheVariants.{Seal, Open}
use Rattle.sponge.specs.Sponge.{keep_of, processed, front_of, absorbed, given, ad_closed, tag_of}
use Rattle.sponge.proofs.Words.{string_view}

-- a direction keeps a byte
pub keep_byte : (way : Way) (c g : ℕ) → c < 2 ^ 8 → g < 2 ^ 8 → keep_of way c g < 2 ^ 8
keep_byte Seal c g h k = k
keep_byte Open c g h k = h

module _ (row : ParameterSet) (fits : Fits row) (way : Way) (S : List ℕ) (size : length S ≡ 40) (bytes : Bytes S) where
  -- after the bytes m
  abbrev pub stood : List ℕ → At
  stood m = steps row.block (p row.between) (keep_of way) (at S 0) m

  -- the words hold it
  pub front_is : (m : List ℕ) → Bytes m → front_of row (words_of_string (stood m).state) (length m) ≡ stood m
  front_is m h =
      let l : length (stood m).state ≡ 40 = length_steps row.block (p row.between) (keep_of way) 40 (length_p row.between) (at S 0) m size in
      let b : Bytes (stood m).state = bytes_steps row.block (p row.between) (bytes_p row.between) (keep_of way) (keep_byte way) (at S 0) m bytes h in
      let place : (stood m).place ≡ length m % row.block =
      steps_place row.block (p row.between) (keep_of way) (at S 0) m fits.some_block fits.some_block ∙ ap (λ (n : ℕ). n % row.block) (zero-add (length m)) in
      λ j. at (string_view (stood m).state l b j) (sym place j)

  -- more bytes
  pub absorbed_more : (m piece : List ℕ) → Bytes m
      → absorbed row way (words_of_string (stood m).state) (length m) piece ≡ words_of_string (stood (m ++ piece)).state
  unfolding absorbed
  absorbed_more m piece h =
      ap (λ (a : At). words_of_string (steps row.block (p row.between) (keep_of way) a piece).state) (front_is m h)
      ∙ ap (λ (a : At). words_of_string a.state) (sym (steps_append row.block (p row.between) (keep_of way) (at S 0) m piece))

  -- and what goes out of them
  pub given_more : (m piece : List ℕ) → Bytes m
      → outs row.block (p row.between) (keep_of way) (at S 0) m ++ given row way (words_of_string (stood m).state) (length m) piece
      ≡ outs row.block (p row.between) (keep_of way) (at S 0) (m ++ piece)
  unfolding given
  given_more m piece h =
      ap (λ (a : At). outs row.block (p row.between) (keep_of way) (at S 0) m ++ outs row.block (p row.between) (keep_of way) a piece) (front_is m h)
      ∙ sym (outs_append row.block (p row.between) (keep_of way) (at S 0) m piece)

  -- the tag
  pub tag_is : (m key : List ℕ) → Bytes m → tag_of row (words_of_string (stood m).state) (length m) key ≡ finalise row (take row.key key) (closed (stood m))
  unfolding tag_of
  tag_is m key h = ap (λ (a : At). finalise row (take row.key key) (closed a)) (front_is m h)

module _ (row : ParameterSet) (fits : Fits row) (K N : List ℕ) (key : length K ≡ row.key) (kb : Bytes K) where
  abbrev pub S₀ : List ℕ
  S₀ = initialise row K N

  pub l₀ : length S₀ ≡ 40
  l₀ = length_initialise row fits K key N

  pub b₀ : Bytes S₀
  b₀ = bytes_initialise row fits K key N kb

  -- the end of the data
  pub closed_is : (A : List ℕ) → Bytes A
      → ad_closed row (words_of_string (steps row.block (p row.between) sealing (at S₀ 0) A).state) (length A) ≡ words_of_string (before_text row K N A)
  unfolding ad_closed before_text
  closed_is [] h = ap (λ (S : List ℕ). words_of_string (separate S)) (string_view S₀ l₀ b₀)
  closed_is (a ∷ A) h =
      let room : row.block + row.key ≤ 40 = fits.room in
      rw (ne_eqb (suc (length A)) 0 (omega arith))
      (ap (λ (f : At). words_of_string (separate (p row.between (closed f)))) (front_is row fits Seal S₀ l₀ b₀ (a ∷ A) h)
      ∙ ap (λ (S : List ℕ). words_of_string (separate S))
      (sym (ad_view row.block (p row.between) 40 (λ x e. length_p row.between x) (omega arith) fits.some_block S₀ l₀ a A)))

  module _ (A : List ℕ) where
    abbrev pub S₁ : List ℕ
    S₁ = before_text row K N A

    pub l₁ : length S₁ ≡ 40
    l₁ = length_before row fits K key N A

    pub b₁ : Bytes S₁
    b₁ = bytes_before row fits K key N A kb

    -- byte by byte is block by block, either way: the bytes that go out are the published text's, and the end is the published state
    pub processed_view : (way : Way) (T : List ℕ) → streamed row.block (p row.between) (keep_of way) S₁ T ≡ processed way row K N A T
    processed_view Seal T = sym (encrypted_view row fits K key N A T)
    processed_view Open T = sym (decrypted_view row fits K key N A T)
