-- The other half of the history law: what fits is never refused, and what would pass the limit is.
use mathlib.Core.Path.{◌≡◌, refl, sym, ap, ◌∙◌}
use mathlib.Core.Bool.{Bool, true, false, cond, not, ◌&&◌, false≢true}
use mathlib.Core.List.{List, []}
use Prim.Native.Nat.{ℕ, ◌+◌, ◌-◌, ◌%◌, ◌≤◌, ◌<◌, zero-le}
use lib.Dec.{eqb, leb}
use lib.ListN.{length}
use lib.Seq.{drop_at}
use borrow.Author.Tests.{le-leb, lt-leb, eq-eqb}
use Rattle.answers.specs.declared.Answer.TheVariants.{Done, TagLength, PastLimit, NoRoom}
use Rattle.answers.specs.Numbers.{is_done}
use Rattle.permutation.specs.Strings.{zeros}
use Rattle.ascon.specs.Sets.{row_of, ad_limit, text_limit}
use Rattle.stream.specs.declared.Direction.{Direction}
use Rattle.stream.specs.declared.Phase.TheVariants.{Ad, Text}
use Rattle.stream.specs.declared.Stream.{Stream}
use Rattle.stream.specs.State.{gives_text, is_open, fits, is_sound_open, is_sound}
use Rattle.stream.specs.Calls.{piece_test, text_test, finish_test, Start}
use Rattle.stream.proofs.Tests.{text_test_is, zero_zeros}
use Rattle.history.specs.History.{ours, History, Started, state_at}
use Rattle.history.proofs.History.{Reached, Reached.in_ad, Reached.in_text, Reached.over, key, passed}

-- the tests of what fits
pub fits_piece : (s : Stream) (fit : Bool) (count n limit : ℕ) → is_sound s ≡ true → fit ≡ true → count + n ≤ limit → is_done (piece_test s fit count n limit) ≡ true
unfolding piece_test
fits_piece s fit count n limit a b c = rw (a, b, le-leb (count + n) limit c)

pub fits_text : (d : Direction) (s : Stream) (n room : ℕ) → is_sound s ≡ true → fits d s ≡ true → s.text + n ≤ s.limit → (gives_text d ≡ true → n ≤ room) → is_done (text_test d s n room) ≡ true
fits_text d s n room a b c r =
    ap is_done (text_test_is d s n room ∙ ap (λ (t : Bool). cond t (cond (gives_text d && not (leb n room)) NoRoom Done) (piece_test s (fits d s) s.text n s.limit)) (fits_piece s (fits d s) s.text n s.limit a b c))
    ∙ go (gives_text d) refl
  where
    go : (t : Bool) → gives_text d ≡ t → is_done (cond (t && not (leb n room)) NoRoom Done) ≡ true
    go true e = rw (le-leb n room (r e))
    go false e = refl

pub fits_finish : (d : Direction) (s : Stream) (n : ℕ) → is_sound s ≡ true → fits d s ≡ true → n ≡ (row_of s.set).key → is_done (finish_test d s n) ≡ true
unfolding finish_test
fits_finish d s n a b c = rw (a, b, eq-eqb n (row_of s.set).key c)

-- the test of a finish with a tag of another length
pub tag_refused : (d : Direction) (s : Stream) (n : ℕ) → is_sound s ≡ true → fits d s ≡ true → eqb n (row_of s.set).key ≡ false → finish_test d s n ≡ TagLength
unfolding finish_test
tag_refused d s n a b c = rw (a, b, c)

-- the test of a piece of text that would pass the stream's limit
pub past_text : (d : Direction) (s : Stream) (n room : ℕ) → is_sound s ≡ true → fits d s ≡ true → s.limit < s.text + n → text_test d s n room ≡ PastLimit
unfolding text_test
past_text d s n room a b c = rw (a, b, lt-leb (s.text + n) s.limit c)

module _ (start : Start) (begins : Started ours start) where
  -- a state that a history reaches breaks no rule
  pub sound_ad : (A : List ℕ) → length A ≤ ad_limit → is_sound (state_at start Ad A []) ≡ true
  unfolding is_sound is_sound_open state_at
  sound_ad A a =
      rw (
        (passed start begins).start.known,
        drop_at start.key (zeros (16 - length start.key)) (row_of start.set).key (key start begins),
        zero_zeros (16 - length start.key),
        le-leb (length A) ad_limit a,
        le-leb 0 start.limit zero-le,
        le-leb start.limit text_limit (passed start begins).within,
        eq-eqb (length A % (row_of start.set).block) (length A % (row_of start.set).block) refl,
      )

  pub sound_text : (A T : List ℕ) → length A ≤ ad_limit → length T ≤ start.limit → is_sound (state_at start Text A T) ≡ true
  unfolding is_sound is_sound_open state_at
  sound_text A T a t =
      rw (
        (passed start begins).start.known,
        drop_at start.key (zeros (16 - length start.key)) (row_of start.set).key (key start begins),
        zero_zeros (16 - length start.key),
        le-leb (length A) ad_limit a,
        le-leb (length T) start.limit t,
        le-leb start.limit text_limit (passed start begins).within,
        eq-eqb (length T % (row_of start.set).block) (length T % (row_of start.set).block) refl,
      )

  pub reached_sound : (h : History) → Reached start begins h → is_open h.stream.phase ≡ true → is_sound h.stream ≡ true
  reached_sound h (in_ad es et eo er ab) o = ap is_sound es ∙ sound_ad h.ad ab.within
  reached_sound h (in_text es eo er ab tb) o = ap is_sound es ∙ sound_text h.ad h.text ab.within tb.within
  reached_sound h (over e ab tb) o = absurd (false≢true (sym (ap (λ (s : Stream). is_open s.phase) e) ∙ o))
