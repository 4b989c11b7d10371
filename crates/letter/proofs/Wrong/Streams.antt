-- The contracts rule out the wrong answers of the calls of streams: each is computed in the checker.
use mathlib.Core.Path.{◌≡◌, refl, sym, ap, ◌∙◌, subst}
use mathlib.Core.Bool.{Bool, true, false, cond, not, true≢false, false≢true, and-eq-true_iff}
use mathlib.Core.List.{List, [], ◌∷◌}
use Prim.Native.Nat.{ℕ, zero, suc, ◌+◌, ◌-◌, ◌≤◌, ◌<◌, zero-le}
use native.Mathlib.Omega.{arith}
use lib.Dec.{eqb, leb}
use lib.ListN.{length, get_or, drop, replicate}
use lib.Seq.{drop-length, get_or-drop}
use borrow.Author.Tests.{eqb-true, le-leb, lt-leb}
use Rattle.answers.specs.Numbers.{is_done}
use Rattle.answers.specs.Order.{first}
use Rattle.answers.specs.declared.Answer.TheVariants.{Done, KeyLength, NonceLength, PastLimit, NoRoom, OutOfPhase, BrokenState, TagDiffers}
use Rattle.permutation.specs.Round.{◌⋙◌, add_constant, s_box, bit, from_bits, column, substituted, substitute, Σ₀, Σ₁, Σ₂, Σ₃, Σ₄, diffuse, round}
use Rattle.permutation.specs.Runs.{constants, constants_of, rounds_of, rounds, permute}
use Rattle.permutation.specs.Strings.{bytes_of, value_of, string_of, state_of, zeros, same}
use Rattle.permutation.proofs.Strings.{same_refl, same_eq}
use Rattle.ascon.specs.Sets.{table, is_set, row_of}
use Rattle.ascon.specs.Mode.{p, before_key, initialise, finalise}
use Rattle.sponge.specs.Sponge.{started, absorbed, given, tag_of}
use Rattle.stream.specs.declared.Stream.{Stream}
use Rattle.stream.specs.declared.Outcome.{Outcome}
use Rattle.stream.specs.declared.Direction.{Direction}
use Rattle.stream.specs.declared.Direction.TheVariants.{Sealing, Checking, Opening}
use Rattle.stream.specs.declared.Phase.{Phase}
use Rattle.stream.specs.declared.Phase.TheVariants.{Ad, Text, Ended}
use Rattle.stream.specs.State.{is_direction, gives_text, gives_tag, is_open, all_zero, ended, is_sound_open, is_sound_ended, is_sound_in, is_sound}
use Rattle.stream.specs.Calls.{limited_start_test, piece_test, text_test, finish_test, filled_rounds, closing_rounds, start_call, ad_call, text_words, took_text, Called, text_call, own_tag, tag_faults, finished_with, finish_call}
use Rattle.stream.proofs.Sound.{open_kept, sound_kept}
use Rattle.stream.proofs.Tests.{one_direction, own_direction, unfitting}
use Rattle.letter.specs.Calls.{NoSet}
use Rattle.letter.specs.Wrong.Streams.{Tailed, LongKeyed, EndedElse, begun_in, nine_in, text_in, stream_of, inside_text, fronted, three_bytes, nine_bytes, nine_fronted, zeros_tag, answering, TextOnly, FinishOnly, Wrong}
use Rattle.letter.specs.Wrong.Engine.{nine_tag}
use Rattle.letter.proofs.Calls.{off, no_set}
use Rattle.stream.proofs.Lent.{check_is}

-- a key of 16 bytes has nothing behind its sixteenth
nothing_behind : (key : List ℕ) → length key ≡ 16 → drop 16 key ≡ []
nothing_behind key size = ap (λ (n : ℕ). drop n key) (sym size) ∙ drop-length key

-- a state that can't be sound is not
broken_by : (s : Stream) → (is_sound s ≡ true → ⊥) → is_sound s ≡ false
broken_by s never = go (is_sound s) refl
  where
    go : (sound : Bool) → is_sound s ≡ sound → is_sound s ≡ false
    go true e = absurd (never e)
    go false e = e

-- a state that breaks no rule is of a set, in every phase
sound_known : (s : Stream) → is_sound s ≡ true → is_set s.set ≡ true
unfolding is_sound is_sound_ended is_set table
sound_known s sound = go s.phase sound
  where
    go : (phase : Phase) → is_sound_in phase s ≡ true → is_set s.set ≡ true
    go Ad e = (open_kept s s.ad ((and-eq-true_iff (eqb s.text 0) (is_sound_open s s.ad)).0 e).1).known
    go Text e = (open_kept s s.text e).known
    go Ended e =
        let words = (and-eq-true_iff (all_zero s.words) _).0 e in
        let key = (and-eq-true_iff (all_zero s.key) _).0 words.1 in
        let direction = (and-eq-true_iff (is_direction Sealing s.direction) _).0 key.1 in
        let one : s.set ≡ 1 = eqb-true s.set 1 ((and-eq-true_iff (eqb s.set 1) _).0 direction.1).0 in
        rw one

pub no_set_broken : (s : Stream) → NoSet s.set → is_sound s ≡ false
no_set_broken s none = broken_by s (λ sound. true≢false (sym (sound_known s sound) ∙ no_set s.set none))

-- what is all zeros is zero at each place
zero_at : (x : List ℕ) → all_zero x ≡ true → (i : ℕ) → get_or x i 0 ≡ 0
zero_at [] e i = refl
zero_at (a ∷ x) e zero = eqb-true a 0 ((and-eq-true_iff (eqb a 0) (all_zero x)).0 e).0
zero_at (a ∷ x) e (suc i) = zero_at x ((and-eq-true_iff (eqb a 0) (all_zero x)).0 e).1 i

tail_broken : (s : Stream) → Tailed s → is_sound s ≡ false
unfolding row_of table
tail_broken s (two, (begun, (i, (far, some)))) =
    broken_by s (λ sound.
    let place : 12 + (i - 12) ≡ i = omega (arith, far) in
    let zeros : all_zero (drop 12 s.key) ≡ true = sym (ap (λ (n : ℕ). all_zero (drop (row_of n).key s.key)) two) ∙ (sound_kept s begun sound).key in
    some (ap (λ (n : ℕ). get_or s.key n 0) (sym place) ∙ sym (get_or-drop 12 s.key (i - 12) 0) ∙ zero_at (drop 12 s.key) zeros (i - 12)))

-- the sets but 2 have keys of 16 bytes
long_key : (set : ℕ) → LongKeyed set → (row_of set).key ≡ 16
unfolding row_of table
long_key zero h = absurd (omega (arith, h.0))
long_key (suc zero) h = refl
long_key (suc (suc zero)) h = absurd (h.1.1 refl)
long_key (suc (suc (suc zero))) h = refl
long_key (suc (suc (suc (suc zero)))) h = refl
long_key (suc (suc (suc (suc (suc n))))) h = absurd (omega (arith, h.1.0))

begun_sound : (set : ℕ) → LongKeyed set → (d : Direction) (key : List ℕ) → length key ≡ 16 → is_sound (begun_in set d key) ≡ true
unfolding is_sound is_sound_open is_set row_of table
begun_sound zero h d key size = absurd (omega (arith, h.0))
begun_sound (suc zero) h d key size = rw (nothing_behind key size)
begun_sound (suc (suc zero)) h d key size = absurd (h.1.1 refl)
begun_sound (suc (suc (suc zero))) h d key size = rw (nothing_behind key size)
begun_sound (suc (suc (suc (suc zero)))) h d key size = rw (nothing_behind key size)
begun_sound (suc (suc (suc (suc (suc n))))) h d key size = absurd (omega (arith, h.1.0))

-- an ended state that says another direction than sealing breaks a rule
ended_else_broken : (s : Stream) → EndedElse s → is_sound s ≡ false
unfolding is_sound is_sound_ended
ended_else_broken s (over, else) = broken_by s (λ sound. go s.phase over sound)
  where
    go : (phase : Phase) → phase ≡ Ended → is_sound_in phase s ≡ true → ⊥
    go Ad e sound = off (cc e)
    go Text e sound = off (cc e)
    go Ended e sound =
        let words = (and-eq-true_iff (all_zero s.words) _).0 sound in
        let key = (and-eq-true_iff (all_zero s.key) _).0 words.1 in
        else (sym (one_direction Sealing s.direction ((and-eq-true_iff (is_direction Sealing s.direction) _).0 key.1).0))

-- a limit over the largest breaks a rule
wide_broken : (d : Direction) (limit : ℕ) → 1_048_576 < limit → is_sound (inside_text d 0 limit) ≡ false
unfolding is_sound is_sound_open is_set row_of table
wide_broken d limit over = let past : leb limit 1_048_576 ≡ false = lt-leb limit 1_048_576 over in rw (le-leb 0 limit zero-le, past)

-- ---- the calls of a direction

-- what holds in each direction holds in every one
each : (Holds : Direction → Type 0) → Holds Sealing → Holds Checking → Holds Opening → (d : Direction) → Holds d
each Holds seals checks opens Sealing = seals
each Holds seals checks opens Checking = checks
each Holds seals checks opens Opening = opens

-- the contracts allow no outcome but the definition's
text_only : (d : Direction) (s : Stream) (piece out : List ℕ) (Such : Outcome → Type 0) → Such (text_call d s piece out).outcome → TextOnly d s piece out Such
text_only Sealing s piece out Such h = λ o other κ e q. other (subst Such (sym (ap (λ (x : Called). x.outcome) q)) h)
text_only Checking s piece out Such h = λ o other κ e q. other (subst Such (ap (λ (x : Called). x.outcome) (check_is s piece out) ∙ sym q) h)
text_only Opening s piece out Such h = λ o other κ e q. other (subst Such (sym (ap (λ (x : Called). x.outcome) q)) h)

finish_only : (d : Direction) (s : Stream) (tag : List ℕ) (Such : Outcome → Type 0) → Such (finish_call d s tag).outcome → FinishOnly d s tag Such
finish_only Sealing s tag Such h = λ o other κ e q. other (subst Such (sym (ap (λ (x : Called). x.outcome) q)) h)
finish_only Checking s tag Such h = λ o other κ e q. other (subst Such (sym q) h)
finish_only Opening s tag Such h = λ o other κ e q. other (subst Such (sym q) h)

-- a text call, by what is computed in each direction
text_each : (s : Direction → Stream) (piece out : List ℕ) (Such : Direction → Outcome → Type 0)
    → Such Sealing (text_call Sealing (s Sealing) piece out).outcome
    → Such Checking (text_call Checking (s Checking) piece out).outcome
    → Such Opening (text_call Opening (s Opening) piece out).outcome
    → (d : Direction) → TextOnly d (s d) piece out (Such d)
text_each s piece out Such seals checks opens d =
    text_only d (s d) piece out (Such d) (each (λ d. Such d (text_call d (s d) piece out).outcome) seals checks opens d)

-- a broken state
broken_text : (d : Direction) (s : Stream) (piece out : List ℕ) → is_sound s ≡ false → (text_call d s piece out).outcome.answer ≡ BrokenState
unfolding text_call text_test
broken_text d s piece out e = rw e

broken_finish : (d : Direction) (s : Stream) (tag : List ℕ) → is_sound s ≡ false → (finish_call d s tag).outcome.answer ≡ BrokenState
unfolding finish_call finish_test
broken_finish d s tag e = rw e

-- a stream of another direction
crossed_text : (d : Direction) (s : Stream) (piece out : List ℕ) → is_sound s ≡ true → (s.direction ≡ d → ⊥) → (text_call d s piece out).outcome ≡ answering OutOfPhase 0 s
unfolding text_call text_test
crossed_text d s piece out sound other = rw (sound, unfitting d s other)

crossed_finish : (d : Direction) (s : Stream) (tag : List ℕ) → is_sound s ≡ true → (s.direction ≡ d → ⊥) → (finish_call d s tag).outcome ≡ answering OutOfPhase 0 s
unfolding finish_call finish_test
crossed_finish d s tag sound other = rw (sound, unfitting d s other)

-- one that gives text and has no room for it
no_room : (d : Direction) → gives_text d ≡ true
    → (text_call d (stream_of (zeros 5) d Ad 0 0 0 200) (0 ∷ []) []).outcome ≡ answering NoRoom 0 (stream_of (zeros 5) d Ad 0 0 0 200)
unfolding text_call text_test is_sound is_sound_open is_set row_of table
no_room Sealing gives = refl
no_room Checking gives = absurd (false≢true gives)
no_room Opening gives = refl

-- a piece that passes the limit
past_limit : (d : Direction) (piece out : List ℕ) → 200 ≤ length piece → (text_call d (inside_text d 1 200) piece out).outcome.answer ≡ PastLimit
unfolding text_call text_test is_sound is_sound_open is_set row_of table
past_limit d piece out long = let past : leb (1 + length piece) 200 ≡ false = lt-leb (1 + length piece) 200 (omega (arith, long)) in rw (own_direction d, past)

-- the ended state
ended_text : (d : Direction) (piece out : List ℕ) → (text_call d ended piece out).outcome.answer ≡ OutOfPhase
unfolding text_call text_test is_sound is_sound_ended
ended_text d piece out = refl

ended_finish : (d : Direction) (tag : List ℕ) → (finish_call d ended tag).outcome.answer ≡ OutOfPhase
unfolding finish_call finish_test is_sound is_sound_ended
ended_finish d tag = refl

-- ---- the end

-- a finish whose tests are passed
through : (d : Direction) (s : Stream) (tag : List ℕ) → is_done (finish_test d s (length tag)) ≡ true → (finish_call d s tag).outcome ≡ finished_with (first Done (tag_faults d s tag)) s
unfolding finish_call
through d s tag passed = rw passed

-- where it compares, and the state's own tag is known, and whether the two are the same
compared : (d : Direction) → gives_tag d ≡ false → (s : Stream) (tag : List ℕ) → is_done (finish_test d s (length tag)) ≡ true → (own : List ℕ) → own_tag s ≡ own
    → (b : Bool) → same tag own ≡ b → (finish_call d s tag).outcome ≡ finished_with (cond (not b) TagDiffers Done) s
compared d compares s tag passed own e b f = through d s tag passed ∙ rw (compares, e, f)

-- two texts that are not one differ
unlike : (x y : List ℕ) → (x ≡ y → ⊥) → same x y ≡ false
unlike x y other = go (same x y) refl
  where
    go : (t : Bool) → same x y ≡ t → same x y ≡ false
    go true e = absurd (other (same_eq x y e))
    go false e = e

inside_passed : (d : Direction) (tag : List ℕ) → length tag ≡ 16 → is_done (finish_test d (inside_text d 0 200) (length tag)) ≡ true
unfolding finish_test is_sound is_sound_open is_set row_of table
inside_passed d tag size = rw (size, own_direction d)

closing_passed : (d : Direction) (tag : List ℕ) → length tag ≡ 16 → is_done (finish_test d (stream_of (zeros 5) d Ad 1 0 1 200) (length tag)) ≡ true
unfolding finish_test is_sound is_sound_open is_set row_of table
closing_passed d tag size = rw (size, own_direction d)

four_passed : (d : Direction) → is_done (finish_test d (text_in 4 d 9 9) 16) ≡ true
unfolding finish_test is_sound is_sound_open is_set row_of table bytes_of
four_passed d = rw (own_direction d)

-- their own tags, computed
zeros_own : (d : Direction) → own_tag (inside_text d 0 200) ≡ zeros_tag
unfolding tag_of finalise text_words row_of table rounds_of constants_of constants p permute rounds round diffuse Σ₀ Σ₁ Σ₂ Σ₃ Σ₄ ◌⋙◌ substitute substituted column from_bits bit s_box add_constant string_of state_of bytes_of value_of
zeros_own d = refl

four_own : (d : Direction) → own_tag (text_in 4 d 9 9) ≡ nine_tag
unfolding tag_of finalise text_words row_of table rounds_of constants_of constants p permute rounds round diffuse Σ₀ Σ₁ Σ₂ Σ₃ Σ₄ ◌⋙◌ substitute substituted column from_bits bit s_box add_constant string_of state_of bytes_of value_of
four_own d = refl

pub wrong : Wrong
unfolding finalise absorbed tag_of filled_rounds closing_rounds text_words text_call took_text is_set row_of table rounds_of constants_of constants p permute rounds round diffuse Σ₀ Σ₁ Σ₂ Σ₃ Σ₄ ◌⋙◌ substitute substituted column from_bits bit s_box add_constant string_of state_of bytes_of value_of is_sound is_sound_open is_sound_ended start_call ad_call limited_start_test piece_test text_test finish_test finish_call started initialise before_key given
wrong = record {
  start_key = λ rounds next κ e p. let answer : NonceLength ≡ KeyLength = ap (λ (x : Outcome). x.answer) p in off (cc answer);
  start_nonce = λ d rounds next κ e p. let answer : PastLimit ≡ NonceLength = ap (λ (x : Outcome). x.answer) p in off (cc answer);
  start_set = λ d set limit key nonce none answer rounds next other κ e p. other (ap (λ (x : Outcome). x.answer) p ∙ rw (no_set set none));
  start_three = λ d answer rounds next other κ e p. other (ap (λ (x : Outcome). x.next.words) p);
  start_four = λ d answer rounds next other κ e p. other (ap (λ (x : Outcome). x.next.words) p);
  start_refused = λ d set limit key nonce none answer rounds next other κ e p. other (ap (λ (x : Outcome). x.next) p ∙ rw (no_set set none));
  start_refused_limit = λ d answer rounds next other κ e p. other (ap (λ (x : Outcome). x.next) p);
  start_limit_cut = λ d limit over answer rounds next other κ e p. let past : leb limit 1_048_576 ≡ false = lt-leb limit 1_048_576 over in other (ap (λ (x : Outcome). x.answer) p ∙ rw past);
  start_largest = λ d answer rounds next other κ e p. other (ap (λ (x : Outcome). x.answer) p);
  start_nought = λ d answer rounds next other κ e p. other (ap (λ (x : Outcome). x.answer) p);
  start_limit_kept = λ d limit within answer rounds next other κ e p.
      let fits : leb limit 1_048_576 ≡ true = le-leb limit 1_048_576 within in other (ap (λ (x : Outcome). x.next.limit) p ∙ rw fits);
  ad_set = λ s piece none answer rounds next other κ e p. other (ap (λ (x : Outcome). x.answer) p ∙ rw (no_set_broken s none));
  text_set = λ d s piece out none. text_only d s piece out _ (broken_text d s piece out (no_set_broken s none));
  finish_set = λ d s tag none. finish_only d s tag _ (broken_finish d s tag (no_set_broken s none));
  ad_key_tail = λ s piece tailed answer rounds next other κ e p. other (ap (λ (x : Outcome). x.answer) p ∙ rw (tail_broken s tailed));
  text_key_tail = λ d s piece out tailed. text_only d s piece out _ (broken_text d s piece out (tail_broken s tailed));
  finish_key_tail = λ d s tag tailed. finish_only d s tag _ (broken_finish d s tag (tail_broken s tailed));
  ad_key = λ set long d key size answer rounds next other κ e p. other (ap (λ (x : Outcome). x.answer) p ∙ rw (begun_sound set long d key size));
  text_key = λ set long d key size. text_only d (begun_in set d key) [] [] _
      (each (λ d. (text_call d (begun_in set d key) [] []).outcome.answer ≡ Done)
      (rw (begun_sound set long Sealing key size)) (rw (begun_sound set long Checking key size)) (rw (begun_sound set long Opening key size)) d);
  finish_key = λ set long d key size. finish_only d (begun_in set d key) (zeros 15) _ (rw (begun_sound set long d key size, own_direction d, long_key set long));
  ad_ended_else = λ s piece else answer rounds next other κ e p. other (ap (λ (x : Outcome). x.answer) p ∙ rw (ended_else_broken s else));
  text_ended_else = λ d s piece out else. text_only d s piece out _ (broken_text d s piece out (ended_else_broken s else));
  finish_ended_else = λ d s tag else. finish_only d s tag _ (broken_finish d s tag (ended_else_broken s else));
  text_other = λ d s piece out sound other. text_only d s piece out _ (crossed_text d s piece out sound other);
  finish_other = λ d s tag sound other. finish_only d s tag _ (crossed_finish d s tag sound other);
  ad_place_four = λ answer rounds next other κ e p. other (ap (λ (x : Outcome). x.answer) p);
  ad_place_eight = λ answer rounds next other κ e p. other (ap (λ (x : Outcome). x.answer) p);
  ad_place_three = λ answer rounds next other κ e p. other (ap (λ (x : Outcome). x.answer) p);
  ad_broken_ended = λ answer rounds next other κ e p. other (ap (λ (x : Outcome). x.answer) p);
  ad_ended_limit = λ answer rounds next other κ e p. other (ap (λ (x : Outcome). x.answer) p);
  ad_limit_wide = λ limit over answer rounds next other κ e p. let past : leb limit 1_048_576 ≡ false = lt-leb limit 1_048_576 over in other (ap (λ (x : Outcome). x.answer) p ∙ rw (le-leb 0 limit zero-le, past));
  ad_unheld = λ answer rounds next other κ e p. other (ap (λ (x : Outcome). x.answer) p);
  ad_past = λ answer rounds next other κ e p. other (ap (λ (x : Outcome). x.answer) p);
  ad_limit_kept = λ answer rounds next other κ e p. other (ap (λ (x : Outcome). x.next.limit) p);
  text_closes = λ d gives. text_only d (stream_of (zeros 5) d Ad 0 0 0 200) (0 ∷ []) [] _ (no_room d gives);
  text_past_closes = text_each (λ d. stream_of (zeros 5) d Ad 0 0 0 0) (0 ∷ []) (0 ∷ []) (λ d o. o ≡ answering PastLimit 0 (stream_of (zeros 5) d Ad 0 0 0 0)) refl refl refl;
  text_room = text_each (λ d. inside_text d 200 200) (0 ∷ []) [] (λ d o. o.answer ≡ PastLimit) refl refl refl;
  text_own = text_each (λ d. inside_text d 200 200) (0 ∷ []) (0 ∷ []) (λ d o. o.answer ≡ PastLimit) refl refl refl;
  text_reaches = text_each (λ d. inside_text d 199 200) (0 ∷ []) (0 ∷ []) (λ d o. o.answer ≡ Done) refl refl refl;
  text_reaches_largest = text_each (λ d. inside_text d 1_048_575 1_048_576) (0 ∷ []) (0 ∷ []) (λ d o. o.answer ≡ Done) refl refl refl;
  text_at = text_each (λ d. inside_text d 200 200) [] [] (λ d o. o.answer ≡ Done) refl refl refl;
  text_nought = text_each (λ d. stream_of (zeros 5) d Ad 0 0 0 0) [] [] (λ d o. o.answer ≡ Done) refl refl refl;
  text_wraps = λ d piece out long. text_only d (inside_text d 1 200) piece out _ (past_limit d piece out long);
  text_resets = text_each (λ d. inside_text d 76 77) (zeros 2) (zeros 2) (λ d o. o.next.limit ≡ 77) refl refl refl;
  text_first = text_each (λ d. stream_of (zeros 5) d Ad 0 0 0 77) (0 ∷ []) (0 ∷ []) (λ d o. o.next.limit ≡ 77) refl refl refl;
  text_past = text_each (λ d. inside_text d 201 200) [] [] (λ d o. o.answer ≡ BrokenState) refl refl refl;
  text_wide = λ d limit over. text_only d (inside_text d 0 limit) [] [] _ (broken_text d (inside_text d 0 limit) [] [] (wide_broken d limit over));
  text_front = λ d compares. text_only d (fronted d) three_bytes (zeros 3) _
      (each (λ d. gives_tag d ≡ false → (text_call d (fronted d) three_bytes (zeros 3)).outcome.next ≡ stream_of (0x1112130405060708 ∷ zeros 4) d Text 0 3 3 200)
      (λ gives. absurd (true≢false gives)) (λ _. refl) (λ _. refl) d compares);
  text_front_block = λ d compares. text_only d (fronted d) nine_bytes (zeros 9) _
      (each (λ d. gives_tag d ≡ false → (text_call d (fronted d) nine_bytes (zeros 9)).outcome.next ≡ stream_of nine_fronted d Text 0 9 1 200)
      (λ gives. absurd (true≢false gives)) (λ _. refl) (λ _. refl) d compares);
  sealed_front = text_only Sealing (fronted Sealing) three_bytes (zeros 3) _ refl;
  open_hands_out = λ o left other κ p. other (ap (λ (x : Called). x.lent) p);
  text_closing = text_each (λ d. stream_of (zeros 5) d Ad 1 0 1 200) [] [] (λ d o. o.rounds ≡ 6) refl refl refl;
  text_closing_three = text_each (λ d. nine_in 3 d 1) [] [] (λ d o. o.rounds ≡ 6) refl refl refl;
  text_closing_four = text_each (λ d. nine_in 4 d 9) [] [] (λ d o. o.rounds ≡ 8) refl refl refl;
  text_three = text_only Sealing (text_in 3 Sealing 0 0) (replicate 9 1) (zeros 9) _ refl;
  text_four = text_each (λ d. text_in 4 d 0 0) (replicate 9 1) (zeros 9) (λ d o. o.next.words ≡ 0x0101010101010101 ∷ 0x0100000000000000 ∷ zeros 3) refl refl refl;
  text_refused = λ κ p. let byte : ◌≡◌ {A = ℕ} 1 0 = ap (λ (x : Called). get_or x.lent 0 0) p in absurd (omega arith);
  open_piece_refused = λ κ p. let byte : ◌≡◌ {A = ℕ} 1 0 = ap (λ (x : Called). get_or x.lent 0 0) p in absurd (omega arith);
  ended_open = λ next begun κ e p. absurd (true≢false (sym begun ∙ ap (λ (x : Stream). is_open x.phase) p));
  ended_set = λ next other κ e p. other (ap (λ (x : Stream). x.set) p);
  ended_direction = λ next other κ e p. other (ap (λ (x : Stream). x.direction) p);
  ended_limit = λ next other κ e p. other (ap (λ (x : Stream). x.limit) p);
  text_ended = λ d piece out. text_only d ended piece out _ (ended_text d piece out);
  finish_ended = λ d tag. finish_only d ended tag _ (ended_finish d tag);
  finish_limit = λ d tag size. finish_only d (inside_text d 0 200) tag _ (ap (λ (o : Outcome). o.next.limit) (through d (inside_text d 0 200) tag (inside_passed d tag size)));
  finish_past = λ d. finish_only d (inside_text d 201 200) (zeros 16) _ (broken_finish d (inside_text d 201 200) (zeros 16) refl);
  finish_wide = λ d limit over. finish_only d (inside_text d 0 limit) (zeros 16) _ (broken_finish d (inside_text d 0 limit) (zeros 16) (wide_broken d limit over));
  finish_other_tag = λ d compares tag size other. finish_only d (inside_text d 0 200) tag _ (compared d compares (inside_text d 0 200) tag (inside_passed d tag size) zeros_tag (zeros_own d) false (unlike tag zeros_tag other));
  finish_right_tag = λ d compares. finish_only d (inside_text d 0 200) zeros_tag _ (compared d compares (inside_text d 0 200) zeros_tag (inside_passed d zeros_tag refl) zeros_tag (zeros_own d) true (same_refl zeros_tag));
  finish_closing = λ d tag size. finish_only d (stream_of (zeros 5) d Ad 1 0 1 200) tag _ (let end = through d (stream_of (zeros 5) d Ad 1 0 1 200) tag (closing_passed d tag size) in (ap (λ (o : Outcome). o.rounds) end, ap (λ (o : Outcome). o.next) end));
  finish_tag_four = λ o tag other κ p. other (ap (λ (x : Called). x.lent) p);
  finish_yes_four = λ d compares. finish_only d (text_in 4 d 9 9) nine_tag _ (ap (λ (o : Outcome). o.answer) (compared d compares (text_in 4 d 9 9) nine_tag (four_passed d) nine_tag (four_own d) true (same_refl nine_tag)));
}
