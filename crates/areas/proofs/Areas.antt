-- Calls on areas are a stream's calls on the states that the areas spell: one call, and any list of them.
use mathlib.Core.Path.{◌≡◌, refl, sym, ap, ◌∙◌, subst}
use mathlib.Core.Bool.{Bool, true, false, cond}
use mathlib.Core.List.{List, [], ◌∷◌, ◌++◌}
use Prim.Native.Nat.{ℕ, ◌+◌, ◌/◌, ◌%◌}
use native.Mathlib.Omega.{arith}
use lib.Dec.{eqb}
use lib.ListN.{length, take}
use borrow.Author.Tests.{eq-eqb, eqb-true}
use Rattle.answers.specs.declared.Answer.{Answer}
use Rattle.answers.specs.declared.Answer.TheVariants.{Done, PastLimit}
use Rattle.answers.specs.Numbers.{number_of, is_done}
use Rattle.answers.proofs.Numbers.{done_is}
use Rattle.ascon.specs.Sets.{row_of}
use Rattle.stream.specs.declared.Direction.{Direction}
use Rattle.stream.specs.declared.Phase.{Phase}
use Rattle.stream.specs.declared.Phase.TheVariants.{Ad}
use Rattle.stream.specs.declared.Stream.{Stream}
use Rattle.stream.specs.declared.Outcome.{Outcome}
use Rattle.stream.specs.State.{gives_text, is_open}
use Rattle.stream.specs.Calls.{Start, start_call, ad_call, text_call, finish_call}
use Rattle.history.specs.History.{Call, give_ad, give_text, finish, reply, ad_of, text_of, out_of, History, begun, next, after, BytesIn, Started, state_at, rounds_at, Fitting.ad_fits, Fitting.text_fits}
use Rattle.history.specs.History as histories
use Rattle.history.proofs.History.{Reached, reached, advance, history_law}
use Rattle.history.proofs.Cuts.{never_refused, past_refused}
use Rattle.gateway.specs.Spelling.{state_length, spelling, is_spelling, state_in}
use Rattle.gateway.specs.Laws.{Sized}
use Rattle.gateway.specs.Calls.{Left, left, LeftLent, unspelled, left_by, start_on, ad_on, text_on, finish_on, end_on}
use Rattle.gateway.proofs.OneWord.{word_answer, word_rounds}
use Rattle.gateway.proofs.OneToOne.{one_to_one}
use Rattle.gateway.proofs.Calls.{left_called, ad_on_lem, text_on_lem, finish_on_lem}
use Rattle.areas.specs.Areas.{ours, AreaHistory, spelled_history, reply_on, out_on, begun_on, next_on, after_on, StartedOn, Spelled, is_open_in, AreaTold, AreaLaw, AreaTaken, AreasTake}
use Rattle.areas.proofs.Sizes.{reached_sized}

-- ---- one call on a spelling

module _ (s : Stream) (sized : Sized s) where
  abbrev yes : is_spelling (spelling s) ≡ true
  yes = (one_to_one.spelled s sized).0

  abbrev same : state_in (spelling s) ≡ s
  same = (one_to_one.spelled s sized).1

  -- a piece of text, and a finish, in a direction
  pub text_spelled : (d : Direction) (piece out : List ℕ) → text_on d (spelling s) piece out ≡ left_called (text_call d s piece out)
  text_spelled d piece out = sym (text_on_lem (spelling s) yes d piece out) ∙ ap (λ (x : Stream). left_called (text_call d x piece out)) same

  pub finish_spelled : (d : Direction) (tag : List ℕ) → finish_on d (spelling s) tag ≡ left_called (finish_call d s tag)
  finish_spelled d tag = sym (finish_on_lem (spelling s) yes d tag) ∙ ap (λ (x : Stream). left_called (finish_call d x tag)) same

  -- any call
  reply_spelled : (call : Call) → reply_on ours (spelling s) call ≡ left_by (reply histories.ours s call)
  reply_spelled (give_ad piece) = sym (ad_on_lem (spelling s) yes piece) ∙ ap (λ (x : Stream). left_by (ad_call x piece)) same
  reply_spelled (give_text d piece out) = ap (λ (r : LeftLent). left r.word r.area) (text_spelled d piece out)
  reply_spelled (finish d tag) = ap (λ (r : LeftLent). left r.word r.area) (finish_spelled d tag)

  -- and its output
  out_spelled : (call : Call) → out_on ours (spelling s) call ≡ out_of histories.ours s call
  out_spelled (give_ad piece) = refl
  out_spelled (give_text d piece out) = ap (λ (r : LeftLent). cond (gives_text d) (take (length piece) r.lent) []) (text_spelled d piece out)
  out_spelled (finish d tag) = refl

-- ---- any list of calls

-- what a word says of an outcome
said_done : (o : Outcome) → eqb ((left_by o).word % 16) 0 ≡ is_done o.answer
said_done o = ap (λ (n : ℕ). eqb n 0) (word_answer o.answer o.rounds)

-- one call more
next_spelled : (h : History) → Sized h.stream → (call : Call) → next_on ours (spelled_history h) call ≡ spelled_history (next histories.ours h call)
unfolding next_on next
next_spelled h sized call =
    let o = reply histories.ours h.stream call in
    let r = reply_spelled h.stream sized call in
    let done : eqb ((reply_on ours (spelling h.stream) call).word % 16) 0 ≡ is_done o.answer = ap (λ (l : Left). eqb (l.word % 16) 0) r ∙ said_done o in
    let rounds : (reply_on ours (spelling h.stream) call).word / 16 ≡ o.rounds = ap (λ (l : Left). l.word / 16) r ∙ word_rounds o.answer o.rounds in
    λ j. record {
      area = (r j).area;
      ad = h.ad ++ cond (done j) (ad_of call) [];
      text = h.text ++ cond (done j) (text_of call) [];
      out = h.out ++ cond (done j) (out_spelled h.stream sized call j) [];
      rounds = h.rounds + rounds j;
    }

-- a start in an area
begun_spelled : (start : Start) (area : List ℕ) → length area ≡ state_length → begun_on ours start area ≡ spelled_history (begun histories.ours start)
unfolding start_on
begun_spelled start area e =
    rw (eq-eqb (length area) state_length e)
    (λ j. record {
      area = spelling (start_call start).next;
      ad = [];
      text = [];
      out = [];
      rounds = word_rounds (start_call start).answer (start_call start).rounds j;
    })

-- a done start in an area is one of a stream, and the area has the length of one
started_on : (start : Start) (area : List ℕ) → StartedOn ours start area → (length area ≡ state_length) × Started histories.ours start
unfolding start_on
started_on start area on = go (eqb (length area) state_length) refl on.done
  where
    go : (b : Bool) → eqb (length area) state_length ≡ b → (cond b (left_by (start_call start)) (unspelled area)).word % 16 ≡ 0 → (length area ≡ state_length) × Started histories.ours start
    go true e done = (
      eqb-true (length area) state_length e,
      record { done = sym (said_done (start_call start)) ∙ ap (λ (n : ℕ). eqb n 0) done; key_bytes = on.key_bytes },
    )
    go false e done = absurd (omega (arith, done))

-- and the other way round
pub on_started : (start : Start) (area : List ℕ) → length area ≡ state_length → Started histories.ours start → StartedOn ours start area
unfolding start_on
on_started start area e begins =
    record {
      done = rw (eq-eqb (length area) state_length e) (word_answer (start_call start).answer (start_call start).rounds ∙ ap number_of (done_is (start_call start).answer begins.done));
      key_bytes = begins.key_bytes;
    }

module _ (start : Start) (area : List ℕ) (on : StartedOn ours start area) (calls : List Call) (b : BytesIn calls) where
  pub begins : Started histories.ours start
  begins = (started_on start area on).1

  -- the stream's history, and where it came to
  abbrev pub streamed : History
  streamed = after histories.ours (begun histories.ours start) calls

  pub come : Reached start begins streamed
  come = reached start begins calls b

  pub streamed_sized : Sized streamed.stream
  streamed_sized = reached_sized start begins streamed come

  -- from any point of a stream
  after_spelled : (calls : List Call) → BytesIn calls → (h : History) → Reached start begins h
      → after_on ours (spelled_history h) calls ≡ spelled_history (after histories.ours h calls)
  after_spelled [] b h r = refl
  after_spelled (call ∷ calls) b h r =
      ap (λ (x : AreaHistory). after_on ours x calls) (next_spelled h (reached_sized start begins h r) call)
      ∙ after_spelled calls b.2 (next histories.ours h call) (advance start begins h call b.0 b.1 r)

  -- from the start
  pub histories_spelled : after_on ours (begun_on ours start area) calls ≡ spelled_history streamed
  histories_spelled =
      ap (λ (x : AreaHistory). after_on ours x calls) (begun_spelled start area (started_on start area on).0)
      ∙ after_spelled calls b (begun histories.ours start) (reached start begins [] tt)

  -- the state that the area spells is the stream's
  pub state_spelled : state_in (spelling streamed.stream) ≡ streamed.stream
  state_spelled = (one_to_one.spelled streamed.stream streamed_sized).1

-- what holds of each history with its state spelled holds of what the calls in an area come to
pub by_stream : (Says : Start → AreaHistory → Type 0)
    → ((start : Start) (area : List ℕ) (on : StartedOn ours start area) (calls : List Call) (b : BytesIn calls) → Says start (spelled_history (streamed start area on calls b)))
    → (start : Start) (area : List ℕ) → StartedOn ours start area → (calls : List Call) → BytesIn calls → Says start (after_on ours (begun_on ours start area) calls)
by_stream Says s start area on calls b = subst (Says start) (sym (histories_spelled start area on calls b)) (s start area on calls b)

pub spelled : Spelled ours histories.ours
unfolding start_on ad_on text_on finish_on end_on
spelled =
    record {
      start = λ start area. refl;
      ad = λ area piece. refl;
      text = λ d area piece out. refl;
      finish = λ d area tag. refl;
      ends = λ area. refl;
      histories = λ start area on calls b. histories_spelled start area on calls b;
    }

-- the history law
pub area_law : AreaLaw ours
area_law = by_stream AreaTold (λ start area on calls b.
    let h = streamed start area on calls b in
    let law = history_law start (begins start area on calls b) calls b in
    let phase : h.stream.phase ≡ (state_in (spelling h.stream)).phase = ap (λ (s : Stream). s.phase) (sym (state_spelled start area on calls b)) in
    let was : is_open_in (spelling h.stream) ≡ true → is_open h.stream.phase ≡ true = λ o. ap is_open phase ∙ o in
    record {
      area = ap spelling law.state ∙ ap (λ (x : Phase). spelling (state_at start x h.ad h.text)) phase;
      out = λ o. law.out (was o);
      rounds = λ o. law.rounds (was o) ∙ ap (λ (x : Phase). rounds_at (row_of start.set) x (length h.ad) (length h.text)) phase;
      within = law.within;
    })

-- what is taken, and what is refused with 5
pub areas_take : AreasTake ours
areas_take = by_stream (AreaTaken ours) (λ start area on calls b.
    let h = streamed start area on calls b in
    let sized = streamed_sized start area on calls b in
    let starts = begins start area on calls b in
    let same = state_spelled start area on calls b in
    let was : is_open_in (spelling h.stream) ≡ true → is_open h.stream.phase ≡ true = λ o. ap (λ (s : Stream). is_open s.phase) (sym same) ∙ o in
    record {
      ad = λ phase piece within.
          let at-ad : h.stream.phase ≡ Ad = ap (λ (s : Stream). s.phase) (sym same) ∙ phase in
          answered h.stream sized (give_ad piece) Done (never_refused start starts calls b (ap is_open at-ad) (give_ad piece) (ad_fits piece at-ad within));
      text = λ o piece out within room.
          answered h.stream sized (give_text start.direction piece out) Done
          (never_refused start starts calls b (was o) (give_text start.direction piece out) (text_fits piece out within room));
      past = λ o piece out past.
          answered h.stream sized (give_text start.direction piece out) PastLimit (past_refused start starts calls b (was o) piece out past);
    })
  where
    -- the number of a call is that of the stream's answer
    answered : (s : Stream) → Sized s → (call : Call) (answer : Answer) → (reply histories.ours s call).answer ≡ answer → (reply_on ours (spelling s) call).word % 16 ≡ number_of answer
    answered s sized call answer e =
        let o = reply histories.ours s call in
        ap (λ (l : Left). l.word % 16) (reply_spelled s sized call) ∙ word_answer o.answer o.rounds ∙ ap number_of e
