-- What our stream gives for a call of a log, from any state.
use mathlib.Core.Path.{◌≡◌, refl, sym, ap, ◌∙◌, subst}
use mathlib.Core.Bool.{Bool, true, false, cond, not, ◌&&◌, ◌||◌, false≢true}
use mathlib.Core.List.{List, [], ◌∷◌, ◌++◌}
use mathlib.Core.Logic.{◌⊎◌, inl, inr}
use Prim.Native.Nat.{ℕ, ◌+◌, ◌*◌, ◌≤◌}
use native.Mathlib.Omega.{arith}
use lib.Dec.{eqb, leb}
use lib.ListN.{length, take, drop, length-drop, length-replicate}
use lib.Seq.{length-take-le}
use borrow.Author.Tests.{leb-true, le-leb, eq-eqb}
use Rattle.answers.specs.declared.Answer.{Answer}
use Rattle.answers.specs.declared.Answer.TheVariants.{Done, TagLength, PastLimit, NoRoom, OutOfPhase, BrokenState}
use Rattle.answers.specs.Numbers.{number_of, is_done}
use Rattle.answers.specs.Order.{Choice, ◌when◌, first}
use Rattle.ascon.specs.Sets.{table, is_set, row_of, ad_limit, text_limit}
use Rattle.digits.proofs.Spelling.{and_both}
use Rattle.chip_log.specs.declared.form.Call.{Call}
use Rattle.chip_log.specs.declared.form.Call.TheVariants.{Start1, Start2, Ad, Text, Finish}
use Rattle.chip_log.specs.Form.{start_data, data_kind}
use Rattle.permutation.specs.Strings.{zeros}
use Rattle.record.specs.Form.{field_of, is_field, allows}
use Rattle.sponge.specs.declared.Way.TheVariants.{Seal}
use Rattle.sponge.specs.Sponge.{absorbed, given}
use Rattle.stream.specs.declared.Direction.TheVariants.{Sealing}
use Rattle.stream.specs.declared.Outcome.{Outcome}
use Rattle.stream.specs.declared.Stream.{Stream}
use Rattle.stream.specs.State.{is_ad, fits, ended, is_sound}
use Rattle.stream.specs.Calls.{refused, decided, limited_start_faults, limited_start_test, piece_faults, piece_test, text_test, finish_test, start_call, took_ad, ad_call, text_words, took_text, called, text_call, own_tag, finished_with, finish_call}
use Rattle.replay.specs.Feeding.{Gives, gives, silent, written, start_of, started, sealed_piece, finished, fed}
use Rattle.replay.specs.Laws.{Asked, answer_to, after, is_start, has_out, Feeds}
use Rattle.replay.proofs.Places.{text_fills}
use Rattle.replay.proofs.Sound.{ended_sound, start_sound, ad_sound, text_sound}

-- ---- a call by its test

-- the test of a start
abbrev test_start : ℕ → List ℕ → Answer
test_start set input = limited_start_test set (length (take (row_of set).key input)) (length (drop (row_of set).key input)) text_limit

-- the test of a call, but for its room
abbrev test_of : Stream → Call → List ℕ → Answer
test_of s Start1 input = test_start 1 input
test_of s Start2 input = test_start 2 input
test_of s Ad input = piece_test s (is_ad s.phase) s.ad (length input) ad_limit
test_of s Text input = piece_test s (fits Sealing s) s.text (length input) s.limit
test_of s Finish input = first Done (BrokenState when not (is_sound s) ∷ OutOfPhase when not (fits Sealing s) ∷ [])

-- what it gives where the test is passed
abbrev done_of : Stream → Call → List ℕ → Gives
done_of s Start1 input = started 1 input
done_of s Start2 input = started 2 input
done_of s Ad input = silent (took_ad s input)
done_of s Text input =
    let row = row_of s.set in
    let n = length input in
    gives (took_text s (absorbed row Seal (text_words s) s.text input) n) (given row Seal (text_words s) s.text input ++ drop n (zeros n))
done_of s Finish input = gives (finished_with Done s) (own_tag s)

-- a call that is no start, by its test
abbrev by_test : Answer → Gives → Stream → Gives
by_test test done s = cond (is_done test) done (silent (refused test s))

-- a call without an output is what its test says
silent_by : (test : Answer) (s : Stream) (done : Outcome) → silent (decided test s done) ≡ by_test test (silent done) s
silent_by test s done = go (is_done test)
  where
    go : (t : Bool) → silent (cond t done (refused test s)) ≡ cond t (silent done) (silent (refused test s))
    go true = refl
    go false = refl

-- and so is a call that writes
written_by_lem : (test : Answer) (s : Stream) (done : Outcome) (own place : List ℕ) → is_done done.answer ≡ true
    → written (cond (is_done test) (called done own) (called (refused test s) place)) ≡ by_test test (gives done own) s
written_by_lem test s done own place d = go (is_done test) refl
  where
    go : (t : Bool) → is_done test ≡ t
        → written (cond t (called done own) (called (refused test s) place)) ≡ cond t (gives done own) (silent (refused test s))
    go true e = rw d
    go false e = rw e

-- where the room is as long as the text, it plays no part
text_room : (s : Stream) (n : ℕ) → text_test Sealing s n (length (zeros n)) ≡ piece_test s (fits Sealing s) s.text n s.limit
unfolding text_test piece_test
text_room s n = rw (length-replicate {A = ℕ} n 0, le-leb n n (omega arith))

-- where it is as long as the tag, it plays no part in a finish
finish_room : (s : Stream) → finish_test Sealing s (length (zeros (row_of s.set).key)) ≡ test_of s Finish []
unfolding finish_test
finish_room s = let k = (row_of s.set).key in rw (eq-eqb (length (zeros k)) k (length-replicate {A = ℕ} k 0))

-- a call that is no start gives what its test says
fed_by : (s : Stream) (call : Call) (input : List ℕ) → is_start call ≡ false → fed s call input ≡ by_test (test_of s call input) (done_of s call input) s
unfolding sealed_piece finished ad_call text_call took_text finish_call
fed_by s Start1 input e = absurd (false≢true (sym e))
fed_by s Start2 input e = absurd (false≢true (sym e))
fed_by s Ad input e = silent_by (test_of s Ad input) s (took_ad s input)
fed_by s Text input e =
    let g = done_of s Text input in
    let done : Outcome = record { answer = g.answer; rounds = g.rounds; next = g.next } in
    written_by_lem (text_test Sealing s (length input) (length (zeros (length input)))) s done g.out (zeros (length input)) refl
    ∙ ap (λ (test : Answer). by_test test g s) (text_room s (length input))
fed_by s Finish input e =
    let place = zeros (row_of s.set).key in
    written_by_lem (finish_test Sealing s (length place)) s (finished_with Done s) (own_tag s) place refl
    ∙ ap (λ (test : Answer). by_test test (gives (finished_with Done s) (own_tag s)) s) (finish_room s)

-- what holds where its test is passed, and where it is not, holds of what it gives
fed_either : (P : Gives → Type 0) (s : Stream) (call : Call) (input : List ℕ) → is_start call ≡ false → let test = test_of s call input in
    (is_done test ≡ true → P (done_of s call input)) → (is_done test ≡ false → P (silent (refused test s))) → P (fed s call input)
fed_either P s call input e done other = subst P (sym (fed_by s call input e)) (go (is_done (test_of s call input)) done other)
  where
    go : (t : Bool) → (t ≡ true → P (done_of s call input)) → (t ≡ false → P (silent (refused (test_of s call input) s)))
        → P (cond t (done_of s call input) (silent (refused (test_of s call input) s)))
    go true done other = done refl
    go false done other = other refl

-- where the test is passed the answer is done
done_answer : (s : Stream) (call : Call) (input : List ℕ) → is_start call ≡ false → (done_of s call input).answer ≡ Done
unfolding took_text
done_answer s Start1 input e = absurd (false≢true (sym e))
done_answer s Start2 input e = absurd (false≢true (sym e))
done_answer s Ad input e = refl
done_answer s Text input e = refl
done_answer s Finish input e = refl

-- what holds of a done answer and of a start's test holds of its answer
start_has : (P : Answer → Type 0) (set : ℕ) (input : List ℕ) → P Done → P (test_start set input) → P (started set input).answer
unfolding started start_call
start_has P set input d other = go (is_done (test_start set input)) refl
  where
    go : (t : Bool) → is_done (test_start set input) ≡ t → P (started set input).answer
    go true e = rw e d
    go false e = rw e other

-- and so it is for the other calls
piece_has : (P : Answer → Type 0) (s : Stream) (call : Call) (input : List ℕ) → is_start call ≡ false → P Done → P (test_of s call input)
    → P (fed s call input).answer
piece_has P s call input e d other = fed_either (λ g. P g.answer) s call input e (λ f. subst P (sym (done_answer s call input e)) d) (λ f. other)

-- so it is for each call
fed_has : (P : Answer → Type 0) (s : Stream) (call : Call) (input : List ℕ) → P Done → P (test_of s call input) → P (fed s call input).answer
fed_has P s Start1 input d other = start_has P 1 input d other
fed_has P s Start2 input d other = start_has P 2 input d other
fed_has P s Ad input d other = piece_has P s Ad input refl d other
fed_has P s Text input d other = piece_has P s Text input refl d other
fed_has P s Finish input d other = piece_has P s Finish input refl d other

-- ---- the answers

-- each choice has a property
abbrev Each : (Answer → Type 0) → List (Choice Answer) → Type 0
Each P [] = Unit {0}
Each P (c ∷ cs) = P c.choice × Each P cs

-- then so has the first that holds
first_each : (P : Answer → Type 0) (cs : List (Choice Answer)) → P Done → Each P cs → P (first Done cs)
first_each P [] d e = d
first_each P (c ∷ cs) d e = go c.holds (first_each P cs d e.1)
  where
    go : (t : Bool) → P (first Done cs) → P (cond t c.choice (first Done cs))
    go true rest = e.0
    go false rest = rest

-- an answer that refuses a room or the length of a tag
abbrev is_tight : Answer → Bool
is_tight answer = eqb (number_of answer) 4 || eqb (number_of answer) 6

-- and one that does not
abbrev Roomy : Answer → Type 0
Roomy answer = is_tight answer ≡ false

-- no test refuses either
test_roomy : (s : Stream) (call : Call) (input : List ℕ) → Roomy (test_of s call input)
unfolding limited_start_test piece_test
test_roomy s Start1 input = first_each Roomy (limited_start_faults 1 _ _ text_limit) refl (refl, (refl, (refl, (refl, tt))))
test_roomy s Start2 input = first_each Roomy (limited_start_faults 2 _ _ text_limit) refl (refl, (refl, (refl, (refl, tt))))
test_roomy s Ad input = first_each Roomy (piece_faults s (is_ad s.phase) (s.ad + length input) ad_limit) refl (refl, (refl, (refl, tt)))
test_roomy s Text input = first_each Roomy (piece_faults s (fits Sealing s) (s.text + length input) s.limit) refl (refl, (refl, (refl, tt)))
test_roomy s Finish input = first_each Roomy (BrokenState when not (is_sound s) ∷ OutOfPhase when not (fits Sealing s) ∷ []) refl (refl, (refl, tt))

-- so no call is refused for them
all_roomy : (s : Stream) (call : Call) (input : List ℕ) → let g = fed s call input in (g.answer ≡ NoRoom → ⊥) × (g.answer ≡ TagLength → ⊥)
all_roomy s call input =
    let roomy : Roomy (fed s call input).answer = fed_has Roomy s call input refl (test_roomy s call input) in
    (λ e. false≢true (sym roomy ∙ ap is_tight e), λ e. false≢true (sym roomy ∙ ap is_tight e))

-- ---- starts

-- data in form passes the test of a start
start_passes : (set : ℕ) (input : List ℕ) → is_set set ≡ true → allows (start_data set) 0 (field_of input) ≡ true → test_start set input ≡ Done
unfolding field_of limited_start_test
start_passes set input known e =
    let k : ℕ = (row_of set).key in
    let bounds = and_both (leb (2 * k) (length input)) (leb (length input) (2 * k)) (and_both (is_field (field_of input)) _ e).1 in
    let least : 2 * k ≤ length input = leb-true (2 * k) (length input) bounds.0 in
    let most : length input ≤ 2 * k = leb-true (length input) (2 * k) bounds.1 in
    let key : length (take k input) ≡ k = length-take-le k input (omega arith) in
    let nonce : length (drop k input) ≡ k = omega (arith, length-drop k input) in
    rw (known, eq-eqb (length (take k input)) k key, eq-eqb (length (drop k input)) k nonce)

-- so such a start is done, with 12 rounds and the largest limit
start_done_lem : (set : ℕ) (input : List ℕ) → is_set set ≡ true → allows (start_data set) 0 (field_of input) ≡ true
    → let g = started set input in (g.answer ≡ Done) × (g.rounds ≡ 12) × (g.next.limit ≡ text_limit)
unfolding started start_call
start_done_lem set input known e = rw (start_passes set input known e) (refl, refl, refl)

-- set 1 is known
one_known : is_set 1 ≡ true
unfolding is_set table
one_known = refl

-- and set 2
two_known : is_set 2 ≡ true
unfolding is_set table
two_known = refl

-- each start
starts_done : (s : Stream) (call : Call) (input : List ℕ) → is_start call ≡ true → allows (data_kind call) 0 (field_of input) ≡ true
    → let g = fed s call input in (g.answer ≡ Done) × (g.rounds ≡ 12) × (g.next.limit ≡ text_limit)
starts_done s Start1 input e allowed = start_done_lem 1 input one_known allowed
starts_done s Start2 input e allowed = start_done_lem 2 input two_known allowed
starts_done s Ad input e allowed = absurd (false≢true e)
starts_done s Text input e allowed = absurd (false≢true e)
starts_done s Finish input e allowed = absurd (false≢true e)

-- whatever stream was open plays no part
start_replaces : (s other : Stream) (call : Call) (input : List ℕ) → is_start call ≡ true → fed s call input ≡ fed other call input
start_replaces s other Start1 input e = refl
start_replaces s other Start2 input e = refl
start_replaces s other Ad input e = absurd (false≢true e)
start_replaces s other Text input e = absurd (false≢true e)
start_replaces s other Finish input e = absurd (false≢true e)

-- ---- refusals and outputs

-- a refused piece or finish changes nothing
refused_keeps : (s : Stream) (call : Call) (input : List ℕ) → is_start call ≡ false → let g = fed s call input in
    is_done g.answer ≡ false → (g.rounds ≡ 0) × (g.next ≡ s)
refused_keeps s call input e =
    fed_either (λ g. is_done g.answer ≡ false → (g.rounds ≡ 0) × (g.next ≡ s)) s call input e
    (λ t f. absurd (false≢true (sym f ∙ ap is_done (done_answer s call input e))))
    (λ t f. (refl, refl))

-- no output but of a done text or finish
out_empty : (s : Stream) (call : Call) (input : List ℕ) → let g = fed s call input in (has_out call && is_done g.answer) ≡ false → g.out ≡ []
unfolding started sealed_piece finished
out_empty s Start1 input e = refl
out_empty s Start2 input e = refl
out_empty s Ad input e = refl
out_empty s Text input e = rw e
out_empty s Finish input e = rw e

-- a done text gives as many bytes as it has
text_out : (s : Stream) (input : List ℕ) → let g = fed s Text input in is_done g.answer ≡ true → length g.out ≡ length input
unfolding sealed_piece
text_out s input e = rw e ((text_fills s input).done e)

-- a done finish gives the tag
finish_out : (s : Stream) (input : List ℕ) → let g = fed s Finish input in is_done g.answer ≡ true → g.out ≡ own_tag s
finish_out s input =
    fed_either (λ g. is_done g.answer ≡ true → g.out ≡ own_tag s) s Finish input refl (λ t f. refl) (λ t f. absurd (false≢true (sym t ∙ f)))

-- ---- from the ended state on

-- a call leaves a state that breaks no rule
fed_sound : (s : Stream) (call : Call) (input : List ℕ) → is_sound s ≡ true → is_sound (fed s call input).next ≡ true
unfolding started
fed_sound s Start1 input sound = start_sound (start_of 1 input)
fed_sound s Start2 input sound = start_sound (start_of 2 input)
fed_sound s Ad input sound = fed_either (λ g. is_sound g.next ≡ true) s Ad input refl (λ t. ad_sound s input t) (λ t. sound)
fed_sound s Text input sound =
    fed_either (λ g. is_sound g.next ≡ true) s Text input refl (λ t. text_sound Sealing s _ (length input) t) (λ t. sound)
fed_sound s Finish input sound = fed_either (λ g. is_sound g.next ≡ true) s Finish input refl (λ t. ended_sound) (λ t. sound)

-- and so do calls one after another
after_sound : (calls : List Asked) (s : Stream) → is_sound s ≡ true → is_sound (after s calls) ≡ true
after_sound [] s sound = sound
after_sound (a ∷ calls) s sound = after_sound calls (answer_to s a).next (fed_sound s a.call a.input sound)

-- done, past a limit, or out of phase
abbrev Usual : Answer → Type 0
Usual answer = let n = number_of answer in (n ≡ 0) ⊎ ((n ≡ 5) ⊎ (n ≡ 7))

-- the tests behind that of the state say one of them
late : (fit within : Bool) → Usual (first Done (OutOfPhase when not fit ∷ PastLimit when not within ∷ []))
late fit within = first_each Usual (OutOfPhase when not fit ∷ PastLimit when not within ∷ []) (inl refl) (inr (inr refl), (inr (inl refl), tt))

-- from such a state a test with data in form says one of them
test_usual : (s : Stream) (call : Call) (input : List ℕ) → is_sound s ≡ true → allows (data_kind call) 0 (field_of input) ≡ true → Usual (test_of s call input)
unfolding piece_test
test_usual s Start1 input sound allowed = subst Usual (sym (start_passes 1 input one_known allowed)) (inl refl)
test_usual s Start2 input sound allowed = subst Usual (sym (start_passes 2 input two_known allowed)) (inl refl)
test_usual s Ad input sound allowed = rw sound (late (is_ad s.phase) (leb (s.ad + length input) ad_limit))
test_usual s Text input sound allowed = rw sound (late (fits Sealing s) (leb (s.text + length input) s.limit))
test_usual s Finish input sound allowed = rw sound (late (fits Sealing s) true)

-- and so does the call
answers_usual : (calls : List Asked) (a : Asked) → allows (data_kind a.call) 0 (field_of a.input) ≡ true → Usual (answer_to (after ended calls) a).answer
answers_usual calls a allowed =
    let s = after ended calls in
    fed_has Usual s a.call a.input (inl refl) (test_usual s a.call a.input (after_sound calls ended ended_sound) allowed)

-- ---- the promise

-- our stream gives it all
pub feeds : Feeds
feeds =
    record {
      room = all_roomy;
      starts = starts_done;
      replaces = start_replaces;
      refused = refused_keeps;
      silent = out_empty;
      text = text_out;
      finish = finish_out;
      answers = answers_usual;
    }
