-- The sponge over a whole message gives the published text and tag, in either direction.
use mathlib.Core.Path.{◌≡◌, ap, ap₂, ◌∙◌}
use mathlib.Core.List.{List, [], ◌++◌}
use Prim.Native.Nat.{ℕ, ◌-◌, ◌≤◌}
use lib.ListN.{length, drop}
use lib.Seq.{take_at}
use borrow.Author.Tests.{le-leb}
use Rattle.permutation.specs.Strings.{Bytes, words_of_string, zeros}
use Rattle.ascon.specs.Sets.{ParameterSet}
use Rattle.ascon.specs.Mode.{Processed, initialise, before_text, finalise}
use Rattle.ascon.proofs.Sealing.{Fits}
use Rattle.sponge.specs.declared.Way.{Way}
use Rattle.sponge.specs.declared.Way.TheVariants.{Seal}
use Rattle.sponge.specs.Sponge.{processed, started, absorbed, crypted, crypted_of, ad_closed, tag_of}
use Rattle.sponge.proofs.Fronts.{stood, absorbed_more, given_more, tag_is, l₀, b₀, closed_is, l₁, b₁, processed_view}
use Rattle.permutation.proofs.Strings.{bytes_none}

module _ (row : ParameterSet) (fits : Fits row) (K N : List ℕ) (key : length K ≡ row.key) (nonce : length N ≡ row.key) (kb : Bytes K) where
  -- the start
  pub started_is : started row (K ++ zeros (16 - length K)) (N ++ zeros (16 - length N)) ≡ words_of_string (initialise row K N)
  unfolding started
  started_is =
      ap₂ (λ (x y : List ℕ). words_of_string (initialise row x y))
      (take_at K (zeros (16 - length K)) row.key key) (take_at N (zeros (16 - length N)) row.key nonce)

  -- the words before the text
  pub before_is : (A : List ℕ) → Bytes A → ad_closed row (absorbed row Seal (words_of_string (initialise row K N)) 0 A) (length A) ≡ words_of_string (before_text row K N A)
  before_is A ab =
      ap (λ (w : List ℕ). ad_closed row w (length A)) (absorbed_more row fits Seal (initialise row K N) (l₀ row fits K N key kb) (b₀ row fits K N key kb) [] A bytes_none)
      ∙ closed_is row fits K N key kb A ab

  module _ (way : Way) (A X : List ℕ) where
    -- the state after the text
    abbrev pub end : List ℕ
    end = (stood row fits way (before_text row K N A) (l₁ row fits K N key kb A) (b₁ row fits K N key kb A) X).state

    -- the text that goes out
    pub crypted_is : (out : List ℕ) → length X ≤ length out
        → crypted_of row way (words_of_string (before_text row K N A)) 0 X out ≡ crypted (words_of_string end) ((processed way row K N A X).out ++ drop (length X) out)
    unfolding crypted_of
    crypted_is out h =
        rw (le-leb (length X) (length out) h)
        (ap₂ (λ (w o : List ℕ). crypted w (o ++ drop (length X) out))
        (absorbed_more row fits way (before_text row K N A) (l₁ row fits K N key kb A) (b₁ row fits K N key kb A) [] X bytes_none)
        (given_more row fits way (before_text row K N A) (l₁ row fits K N key kb A) (b₁ row fits K N key kb A) [] X bytes_none
        ∙ ap (λ (w : Processed). w.out) (processed_view row fits K N key kb A way X)))

    -- the tag
    pub tagged_is : Bytes X → tag_of row (words_of_string end) (length X) (K ++ zeros (16 - length K)) ≡ finalise row K (processed way row K N A X).state
    tagged_is xb =
        tag_is row fits way (before_text row K N A) (l₁ row fits K N key kb A) (b₁ row fits K N key kb A) X (K ++ zeros (16 - length K)) xb
        ∙ ap₂ (λ (k s : List ℕ). finalise row k s) (take_at K (zeros (16 - length K)) row.key key)
        (ap (λ (w : Processed). w.state) (processed_view row fits K N key kb A way X))
