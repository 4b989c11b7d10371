-- The states behind the calls of a stream break no rule.
use mathlib.Core.Path.{◌≡◌, refl, sym}
use mathlib.Core.Bool.{Bool, true, false, false≢true, and-eq-true_iff}
use mathlib.Core.List.{List}
use Prim.Native.Nat.{ℕ, ◌+◌, ◌-◌, ◌%◌, ◌≤◌, zero-le}
use native.Mathlib.Nat.{zero-mod}
use lib.Dec.{eqb}
use lib.ListN.{length}
use lib.Seq.{drop_at}
use borrow.Author.Tests.{le-leb, eq-eqb}
use Rattle.answers.specs.Numbers.{is_done}
use Rattle.ascon.specs.Sets.{row_of, ad_limit, text_limit}
use Rattle.permutation.specs.Strings.{zeros}
use Rattle.stream.specs.declared.Direction.{Direction}
use Rattle.stream.specs.declared.Phase.{Phase}
use Rattle.stream.specs.declared.Phase.TheVariants.{Ad, Text, Ended}
use Rattle.stream.specs.declared.Stream.{Stream}
use Rattle.stream.specs.State.{is_direction, is_ad, is_open, fits, ended, is_sound_open, is_sound_ended, is_sound_in, is_sound}
use Rattle.stream.specs.Calls.{limited_start_test, piece_test, Start, start_call, took_ad, took_text}
use Rattle.stream.proofs.Sound.{open_kept, sound_kept}
use Rattle.stream.proofs.Tests.{limited_start_passed, piece_passed, zero_zeros}

-- the ended state breaks no rule
pub ended_sound : is_sound ended ≡ true
unfolding is_sound is_sound_ended
ended_sound = refl

-- nor does the state behind a start
pub start_sound : (start : Start) → is_sound (start_call start).next ≡ true
unfolding start_call is_sound is_sound_open is_sound_ended
start_sound start = go (is_done (limited_start_test start.set (length start.key) (length start.nonce) start.limit)) refl
  where
    go : (t : Bool) → is_done (limited_start_test start.set (length start.key) (length start.nonce) start.limit) ≡ t → is_sound (start_call start).next ≡ true
    go true e =
        let passed = limited_start_passed start.set (length start.key) (length start.nonce) start.limit e in
        rw (
          e,
          passed.start.known,
          drop_at start.key (zeros (16 - length start.key)) (row_of start.set).key passed.start.key_fits,
          zero_zeros (16 - length start.key),
          le-leb 0 start.limit zero-le,
          le-leb start.limit text_limit passed.within,
          eq-eqb 0 (0 % (row_of start.set).block) (sym (zero-mod (row_of start.set).block)),
        )
    go false e = rw e

-- the state behind a piece of the data that is taken breaks no rule
pub ad_sound : (s : Stream) (piece : List ℕ) → is_done (piece_test s (is_ad s.phase) s.ad (length piece) ad_limit) ≡ true → is_sound (took_ad s piece).next ≡ true
unfolding is_sound is_sound_open
ad_sound s piece e =
    let passed = piece_passed s (is_ad s.phase) s.ad (length piece) ad_limit e in
    go s.phase passed.in_phase passed.sound passed.within
  where
    go : (phase : Phase) → is_ad phase ≡ true → is_sound_in phase s ≡ true → s.ad + length piece ≤ ad_limit → is_sound_in phase (took_ad s piece).next ≡ true
    go Ad f sound within =
        let halves = (and-eq-true_iff (eqb s.text 0) (is_sound_open s s.ad)).0 sound in
        let kept = open_kept s s.ad halves.1 in
        let place = (s.ad + length piece) % (row_of s.set).block in
        rw (halves.0, kept.known, kept.key, le-leb (s.ad + length piece) ad_limit within, kept.text, kept.limit, eq-eqb place place refl)
    go Text f sound within = absurd (false≢true f)
    go Ended f sound within = absurd (false≢true f)

-- nor does the state behind a piece of the text that is taken
pub text_sound : (d : Direction) (s : Stream) (words : List ℕ) (n : ℕ) → is_done (piece_test s (fits d s) s.text n s.limit) ≡ true
    → is_sound (took_text s words n).next ≡ true
unfolding is_sound is_sound_open took_text
text_sound d s words n e =
    let passed = piece_passed s (fits d s) s.text n s.limit e in
    let kept = sound_kept s ((and-eq-true_iff (is_open s.phase) (is_direction d s.direction)).0 passed.in_phase).0 passed.sound in
    let place = (s.text + n) % (row_of s.set).block in
    rw (kept.known, kept.key, kept.ad, le-leb (s.text + n) s.limit passed.within, kept.limit, eq-eqb place place refl)
