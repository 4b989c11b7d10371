-- What an open state that breaks no rule keeps, whatever its phase.
use mathlib.Core.Path.{◌≡◌}
use mathlib.Core.Bool.{true, false≢true, and-eq-true_iff}
use Prim.Native.Nat.{ℕ}
use lib.Dec.{eqb, leb}
use lib.ListN.{drop}
use Rattle.ascon.specs.Sets.{is_set, row_of, ad_limit, text_limit}
use Rattle.stream.specs.declared.Phase.{Phase}
use Rattle.stream.specs.declared.Phase.TheVariants.{Ad, Text, Ended}
use Rattle.stream.specs.declared.Stream.{Stream}
use Rattle.stream.specs.State.{is_open, all_zero, is_sound_open, is_sound_in, is_sound}

-- known set, zeros behind the key, both counts within their limits, and the text's limit within the largest
pub record Kept (s : Stream) : Type 0 where
  pub known : is_set s.set ≡ true
  pub key : all_zero (drop (row_of s.set).key s.key) ≡ true
  pub ad : leb s.ad ad_limit ≡ true
  pub text : leb s.text s.limit ≡ true
  pub limit : leb s.limit text_limit ≡ true

-- a state that keeps the rules of its phase's count
pub open_kept : (s : Stream) (count : ℕ) → is_sound_open s count ≡ true → Kept s
unfolding is_sound_open
open_kept s count e =
    let a = (and-eq-true_iff (is_set s.set) _).0 e in
    let b = (and-eq-true_iff (all_zero (drop (row_of s.set).key s.key)) _).0 a.1 in
    let c = (and-eq-true_iff (leb s.ad ad_limit) _).0 b.1 in
    let d = (and-eq-true_iff (leb s.text s.limit) _).0 c.1 in
    record { known = a.0; key = b.0; ad = c.0; text = d.0; limit = ((and-eq-true_iff (leb s.limit text_limit) _).0 d.1).0 }

-- a state that breaks no rule, in either open phase
pub sound_kept : (s : Stream) → is_open s.phase ≡ true → is_sound s ≡ true → Kept s
unfolding is_sound
sound_kept s o sound = go s.phase o sound
  where
    go : (phase : Phase) → is_open phase ≡ true → is_sound_in phase s ≡ true → Kept s
    go Ad f e = open_kept s s.ad ((and-eq-true_iff (eqb s.text 0) (is_sound_open s s.ad)).0 e).1
    go Text f e = open_kept s s.text e
    go Ended f e = absurd (false≢true f)
