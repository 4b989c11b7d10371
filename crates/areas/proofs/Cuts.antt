-- Cutting a message does not matter in an area, and a second walk agrees there: read off the demand on streams.
use mathlib.Core.Path.{◌≡◌, refl, sym, ap, ◌∙◌, subst}
use mathlib.Core.Bool.{true, false, true≢false}
use mathlib.Core.List.{List, ◌++◌}
use mathlib.Core.Logic.{◌↔◌}
use Prim.Native.Nat.{ℕ, ◌+◌, ◌/◌, ◌%◌}
use lib.Dec.{eqb}
use lib.ListN.{length}
use Rattle.answers.specs.declared.Answer.TheVariants.{Done}
use Rattle.answers.specs.Numbers.{number_of}
use Rattle.answers.proofs.Numbers.{done_is}
use Rattle.ascon.specs.Sets.{row_of}
use Rattle.ascon.specs.Mode.{sealed}
use Rattle.stream.specs.declared.Direction.{Direction}
use Rattle.stream.specs.declared.Direction.TheVariants.{Sealing, Checking, Opening}
use Rattle.stream.specs.declared.Stream.{Stream}
use Rattle.stream.specs.State.{gives_tag, is_open}
use Rattle.stream.specs.Calls.{Start, finish_call}
use Rattle.history.specs.History.{Call, History, begun, after, BytesIn}
use Rattle.history.specs.History as histories
use Rattle.history.specs.Cuts.{start_towards, Whole}
use Rattle.history.proofs.History.{key}
use Rattle.history.proofs.Cuts.{whole_taken, whole}
use Rattle.history.proofs.Directions.{checks_whole, opens_whole, first_plaintext, cutting_does_not_matter}
use Rattle.gateway.specs.Spelling.{spelling, state_in}
use Rattle.gateway.specs.Calls.{LeftLent}
use Rattle.gateway.specs.Laws.{Sized}
use Rattle.gateway.proofs.OneWord.{word_answer, word_rounds}
use Rattle.gateway.proofs.Calls.{left_called}
use Rattle.areas.specs.Areas.{ours, AreaHistory, spelled_history, begun_on, after_on, StartedOn, is_open_in}
use Rattle.areas.specs.Cuts.{AreaWhole, AreaCutting, AreaWalks, AreaCuts}
use Rattle.areas.proofs.Areas.{finish_spelled, on_started, begins, streamed, come, streamed_sized, histories_spelled, state_spelled, by_stream}

-- ---- the finish of a stream whose state is spelled

module _ (d : Direction) (s : Stream) (sized : Sized s) (tag : List ℕ) where
  -- it is the stream's
  ended_so : ours.finish d (spelling s) tag ≡ left_called (finish_call d s tag)
  ended_so = finish_spelled s sized d tag

  -- its answer
  answer_is : (ours.finish d (spelling s) tag).word % 16 ≡ number_of (finish_call d s tag).outcome.answer
  answer_is = ap (λ (r : LeftLent). r.word % 16) ended_so ∙ word_answer (finish_call d s tag).outcome.answer (finish_call d s tag).outcome.rounds

  -- its rounds
  rounds_are : (ours.finish d (spelling s) tag).word / 16 ≡ (finish_call d s tag).outcome.rounds
  rounds_are = ap (λ (r : LeftLent). r.word / 16) ended_so ∙ word_rounds (finish_call d s tag).outcome.answer (finish_call d s tag).outcome.rounds

  -- 0 is done
  done_said : ((ours.finish d (spelling s) tag).word % 16 ≡ 0) ↔ ((finish_call d s tag).outcome.answer ≡ Done)
  done_said = (λ e. done_is _ (ap (λ (n : ℕ). eqb n 0) (sym answer_is ∙ e)), λ e. answer_is ∙ ap number_of e)

-- ---- the end of a message

-- a stream that compares says yes exactly where ciphertext and tag are some text's sealing
says_yes : (d : Direction) (start : Start) → start.direction ≡ d → gives_tag d ≡ false → length start.key ≡ (row_of start.set).key → (A C : List ℕ) (h : History) (tag : List ℕ)
    → Whole histories.ours start A C h tag
    → ((finish_call d h.stream tag).outcome.answer ≡ Done)
    ↔ ((P : List ℕ) × (sealed (row_of start.set) start.key start.nonce A P ≡ record { cipher = C; tag = tag }))
says_yes Sealing start e compares k A C h tag w = absurd (true≢false compares)
says_yes Checking start e compares k A C h tag w =
    (checks_whole start k A C h tag (subst (λ (d : Direction). Whole histories.ours (start_towards d start) A C h tag) e w)).yes
says_yes Opening start e compares k A C h tag w =
    let o = opens_whole start k A C h tag (subst (λ (d : Direction). Whole histories.ours (start_towards d start) A C h tag) e w) in
    (λ y. (h.out, (o.plaintext h.out).0 (y, refl)), λ (P, z). ((o.plaintext P).1 z).0)

-- an opening gives out the text whose sealing they are
gives_plaintext : (d : Direction) (start : Start) → start.direction ≡ d → d ≡ Opening → length start.key ≡ (row_of start.set).key → (A C : List ℕ) (h : History) (tag : List ℕ)
    → Whole histories.ours start A C h tag → (P : List ℕ)
    → (((finish_call d h.stream tag).outcome.answer ≡ Done) × (h.out ≡ P)) ↔ (sealed (row_of start.set) start.key start.nonce A P ≡ record { cipher = C; tag = tag })
gives_plaintext d start e opening k A C h tag w =
    subst (λ (x : Direction). (P : List ℕ)
    → (((finish_call x h.stream tag).outcome.answer ≡ Done) × (h.out ≡ P)) ↔ (sealed (row_of start.set) start.key start.nonce A P ≡ record { cipher = C; tag = tag }))
    (sym opening)
    (opens_whole start k A C h tag (subst (λ (x : Direction). Whole histories.ours (start_towards x start) A C h tag) (e ∙ opening) w)).plaintext

-- with its state spelled
spelled_whole : (start : Start) → length start.key ≡ (row_of start.set).key → (A T : List ℕ) (h : History) → Sized h.stream → (tag : List ℕ)
    → Whole histories.ours start A T h tag → AreaWhole ours start A T (spelled_history h) tag
spelled_whole start k A T h sized tag w =
    let d = start.direction in
    let so = ended_so d h.stream sized tag in
    let done = done_said d h.stream sized tag in
    record {
      out = w.out;
      answer = answer_is d h.stream sized tag ∙ ap number_of w.answer;
      yes = λ compares. let y = says_yes d start refl compares k A T h tag w in (λ e. y.0 (done.0 e), λ p. done.1 (y.1 p));
      plaintext = λ opening P.
          let y = gives_plaintext d start refl opening k A T h tag w P in
          (λ (e, o). y.0 (done.0 e, o), λ z. let both = y.1 z in (done.1 both.0, both.1));
      lent = λ e. ap (λ (r : LeftLent). r.lent) so ∙ w.lent e;
      rounds = λ e. ap (λ (n : ℕ). h.rounds + n) (rounds_are d h.stream sized tag) ∙ w.rounds e;
      over = λ e. ap (λ (r : LeftLent). r.area) so ∙ ap spelling (w.over e);
    }

-- of what any calls have taken
taken : (start : Start) (area : List ℕ) → StartedOn ours start area → (calls : List Call) → BytesIn calls → (tag : List ℕ)
    → let h = after_on ours (begun_on ours start area) calls in
    is_open_in h.area ≡ true → AreaWhole ours start h.ad h.text h tag
taken start area on calls b tag =
    by_stream (λ start h. is_open_in h.area ≡ true → AreaWhole ours start h.ad h.text h tag)
    (λ start area on calls b o.
    let h = streamed start area on calls b in
    let still : is_open h.stream.phase ≡ true = ap (λ (s : Stream). is_open s.phase) (sym (state_spelled start area on calls b)) ∙ o in
    spelled_whole start (key start (begins start area on calls b)) h.ad h.text h (streamed_sized start area on calls b) tag
    (whole_taken start (begins start area on calls b) h (come start area on calls b) still tag))
    start area on calls b

pub area_cutting : AreaCutting ours
area_cutting =
    record {
      taken = taken;
      areas = λ start area area' on on' calls other b c phase ad text.
          let one = histories_spelled start area on calls b in
          let two = histories_spelled start area' on' other c in
          let at_one : (state_in (after_on ours (begun_on ours start area) calls).area).phase ≡ (streamed start area on calls b).stream.phase =
          ap (λ (x : AreaHistory). (state_in x.area).phase) one ∙ ap (λ (s : Stream). s.phase) (state_spelled start area on calls b) in
          let at-two : (state_in (after_on ours (begun_on ours start area') other).area).phase ≡ (streamed start area' on' other c).stream.phase =
          ap (λ (x : AreaHistory). (state_in x.area).phase) two ∙ ap (λ (s : Stream). s.phase) (state_spelled start area' on' other c) in
          ap (λ (x : AreaHistory). x.area) one
          ∙ ap spelling
          (cutting_does_not_matter.states start (begins start area on calls b) calls other b c (sym at_one ∙ phase ∙ at-two)
          (ap (λ (x : AreaHistory). x.ad) (sym one) ∙ ad ∙ ap (λ (x : AreaHistory). x.ad) two)
          (ap (λ (x : AreaHistory). x.text) (sym one) ∙ text ∙ ap (λ (x : AreaHistory). x.text) two))
          ∙ ap (λ (x : AreaHistory). x.area) (sym two);
    }

-- ---- the second walk

pub area_walks : AreaWalks ours
area_walks =
    record {
      finishes = λ start area area' on on' calls other b c tag o o' ad text.
          let h = after_on ours (begun_on ours (start_towards Checking start) area) calls in
          let k = after_on ours (begun_on ours (start_towards Opening start) area') other in
          let w = taken (start_towards Checking start) area on calls b tag o in
          let v : AreaWhole ours (start_towards Opening start) h.ad h.text k tag =
          subst (λ (x : List ℕ). AreaWhole ours (start_towards Opening start) x h.text k tag) (sym ad)
          (subst (λ (x : List ℕ). AreaWhole ours (start_towards Opening start) k.ad x k tag) (sym text) (taken (start_towards Opening start) area' on' other c tag o')) in
          (w.answer ∙ sym v.answer, λ e. w.rounds e ∙ sym (v.rounds e));
      after_yes = λ start area area' on on' calls other b c rest tag o o' ad text said.
          let h = after_on ours (begun_on ours (start_towards Checking start) area) calls in
          let k = after_on ours (begun_on ours (start_towards Opening start) area') other in
          let w = taken (start_towards Checking start) area on calls b tag o in
          let found = (w.yes refl).0 said in
          let out = (taken (start_towards Opening start) area' on' other c tag o').out in
          let size = key (start_towards Checking start) (begins (start_towards Checking start) area on calls b) in
          let cut : sealed (row_of start.set) start.key start.nonce k.ad found.0 ≡ record { cipher = k.text ++ rest; tag = tag } =
          (λ j. sealed (row_of start.set) start.key start.nonce (sym ad j) found.0) ∙ found.1 ∙ (λ j. record { cipher = text j; tag = tag }) in
          (found.0, found.1, out ∙ first_plaintext start size k.ad k.text rest tag found.0 cut);
    }

-- ---- in the demand's words

pub area_cuts : AreaCuts ours histories.ours
area_cuts start area e A T calls tag m =
    let on = on_started start area e m.started in
    subst (λ (x : AreaHistory). AreaWhole ours start A T x tag) (sym (histories_spelled start area on calls m.bytes))
    (spelled_whole start (key start m.started) A T (streamed start area on calls m.bytes) (streamed_sized start area on calls m.bytes) tag (whole start A T calls m tag))
