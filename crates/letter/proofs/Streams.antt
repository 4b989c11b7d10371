-- Streams: what is said of their calls holds.
use mathlib.Core.Path.{◌≡◌, refl, sym, ap, ◌∙◌, subst}
use mathlib.Core.Bool.{Bool, true, false, cond, not, ◌&&◌, false≢true}
use mathlib.Core.List.{List, ◌++◌}
use Prim.Native.Nat.{ℕ, ◌+◌, ◌-◌, ◌≤◌}
use native.Mathlib.Omega.{arith}
use lib.ListN.{length, drop, length-append, length-drop}
use lib.Seq.{drop_at}
use Rattle.answers.specs.declared.Answer.{Answer}
use Rattle.answers.specs.declared.Answer.TheVariants.{Done, TagDiffers}
use Rattle.answers.specs.Numbers.{number_of, is_done}
use Rattle.answers.specs.Order.{first}
use Rattle.answers.proofs.Numbers.{done_is}
use Rattle.answers.proofs.Order.{first_append, first_most}
use Rattle.permutation.specs.Strings.{zeros, same, words_of_string}
use Rattle.ascon.specs.Sets.{ParameterSet, row_of, ad_limit}
use Rattle.ascon.specs.Mode.{p, initialise}
use Rattle.ascon.proofs.Bytewise.{length_outs}
use Rattle.sponge.specs.Sponge.{keep_of, front_of, absorbed, given}
use Rattle.stream.specs.declared.Direction.{Direction}
use Rattle.stream.specs.declared.Direction.TheVariants.{Sealing, Checking, Opening}
use Rattle.stream.specs.declared.Stream.{Stream}
use Rattle.stream.specs.declared.Outcome.{Outcome}
use Rattle.stream.specs.declared.Phase.TheVariants.{Ad, Text}
use Rattle.stream.specs.State.{way_of, gives_text, gives_tag, is_ad, ended}
use Rattle.stream.specs.Calls.{refused, decided, limited_start_faults, limited_start_test, piece_faults, piece_test, text_faults, text_test, finish_faults, finish_test, tag_faults, filled_rounds, closing_rounds, Start, start_call, took_ad, ad_call, text_words, took_text, Called, called, given_text, text_call, own_tag, finished_with, finish_call}
use Rattle.stream.proofs.Tests.{text_passed}
use Rattle.stream.proofs.Lent.{check_is, finish_is}
use Rattle.history.specs.History.{Streams, ours}
use Rattle.stream.proofs as stream
use Rattle.letter.specs.Calls.{lent, lent_mut, Through}
use Rattle.letter.specs.Streams.{Keeps, EveryCall, Listed, Unchanged, Mismatch, Reported}
use Rattle.letter.proofs.Calls.{answered, lifetimes, Says, says, stopped}

-- ---- the calls

-- calls that keep the contracts are ours
pub is_ours : (m : Streams) → Keeps m → m ≡ ours
is_ours m k =
    λ j. record {
      start = λ start. k.start start.direction start.set start.limit (lent start.key) (lent start.nonce) (lifetimes 2) j;
      ad = λ s piece. k.ad s (lent piece) (lifetimes 1) j;
      text = λ d s piece out. texts d s piece out j;
      finish = λ d s tag. finishes d s tag j;
    }
  where
    texts : (d : Direction) (s : Stream) (piece out : List ℕ) → m.text d s piece out ≡ text_call d s piece out
    texts Sealing s piece out = k.seal_piece s (lent piece) (lent_mut out) (lifetimes 2)
    texts Checking s piece out =
        let h = k.check s (lent piece) out in (λ j. called (h.0 (lifetimes 1) j) (h.1 j)) ∙ sym (check_is s piece out)
    texts Opening s piece out = k.open_piece s (lent piece) (lent_mut out) (lifetimes 2)

    finishes : (d : Direction) (s : Stream) (tag : List ℕ) → m.finish d s tag ≡ finish_call d s tag
    finishes Sealing s tag = k.finish_sealing s (lent_mut tag) (lifetimes 1)
    finishes Checking s tag =
        let h = k.finish_checking s (lent tag) in (λ j. called (h.0 (lifetimes 1) j) (h.1 j)) ∙ sym (finish_is Checking refl s tag)
    finishes Opening s tag =
        let h = k.finish_opening s (lent tag) in (λ j. called (h.0 (lifetimes 1) j) (h.1 j)) ∙ sym (finish_is Opening refl s tag)

-- and ours keep them
pub keeps : Keeps ours
keeps =
    record {
      start = λ d set limit key nonce κ. refl;
      ad = λ s piece κ. refl;
      seal_piece = λ s piece out κ. refl;
      check = λ s piece out. let e = check_is s piece.now out in (λ κ. ap (λ (c : Called). c.outcome) e, ap (λ (c : Called). c.lent) e);
      open_piece = λ s piece out κ. refl;
      finish_sealing = λ s tag κ. refl;
      finish_checking = λ s tag. (λ κ. refl, ap (λ (c : Called). c.lent) (finish_is Checking refl s tag.now));
      finish_opening = λ s tag. (λ κ. refl, ap (λ (c : Called). c.lent) (finish_is Opening refl s tag.now));
    }

-- each is answered
pub every_call : EveryCall
every_call =
    record {
      stream_ended = answered (λ M. stream.Stream.ended.Met.met) (λ κ a. tt) (λ κ a r e p. p);
      stream_rank = answered (λ M. stream.rank.Met.met) (λ κ a. tt) (λ κ a r e p. p);
      stream_start = answered (λ M. stream.Stream.start.Met.met) (λ κ a. tt) (λ κ a r e p. p);
      stream_ad = answered (λ M. stream.Stream.ad.Met.met) (λ κ a. tt) (λ κ a r e p. p);
      stream_seal = answered (λ M. stream.Stream.seal.Met.met) (λ κ a. tt) (λ κ a r e p. p);
      stream_check = answered (λ M. stream.Stream.check.Met.met) (λ κ a. tt) (λ κ a r e p. p);
      stream_open = answered (λ M. stream.Stream.«open».Met.met) (λ κ a. tt) (λ κ a r e p. p);
      stream_finish_sealing = answered (λ M. stream.Stream.finish_sealing.Met.met) (λ κ a. tt) (λ κ a r e p. p);
      stream_finish_checking = answered (λ M. stream.Stream.finish_checking.Met.met) (λ κ a. tt) (λ κ a r e p. p);
      stream_finish_opening = answered (λ M. stream.Stream.finish_opening.Met.met) (λ κ a. tt) (λ κ a r e p. p);
    }

-- ---- what they answer, and what a refusal leaves

-- a call that is lent no place, by the answer of its tests
decided_says : (answer : Answer) (before : Stream) (done : Outcome) → done.answer ≡ Done → let outcome = decided answer before done in
    Says outcome.answer answer ((outcome.next ≡ before) × (outcome.rounds ≡ 0))
decided_says answer before done e = go (is_done answer) refl
  where
    go : (b : Bool) → is_done answer ≡ b → let outcome = cond b done (refused answer before) in
        Says outcome.answer answer ((outcome.next ≡ before) × (outcome.rounds ≡ 0))
    go true f = record { is = e ∙ sym (done_is answer f); kept = λ r. absurd (r.0 e) }
    go false f = says _ _ (refl, refl)

-- a start
start_said : (start : Start) → let outcome = start_call start in
    Says outcome.answer (first Done (limited_start_faults start.set (length start.key) (length start.nonce) start.limit)) ((outcome.next ≡ ended) × (outcome.rounds ≡ 0))
unfolding start_call limited_start_test
start_said start = decided_says (first Done (limited_start_faults start.set (length start.key) (length start.nonce) start.limit)) ended _ refl

-- a piece of data
ad_said : (s : Stream) (piece : List ℕ) → let outcome = ad_call s piece in
    Says outcome.answer (first Done (piece_faults s (is_ad s.phase) (s.ad + length piece) ad_limit)) ((outcome.next ≡ s) × (outcome.rounds ≡ 0))
unfolding ad_call piece_test
ad_said s piece = decided_says (first Done (piece_faults s (is_ad s.phase) (s.ad + length piece) ad_limit)) s _ refl

-- a piece of text
text_said : (d : Direction) (s : Stream) (piece out : List ℕ) → let leaves = text_call d s piece out in
    Says leaves.outcome.answer (first Done (text_faults d s (length piece) (length out)))
    ((leaves.lent ≡ out) × (leaves.outcome.next ≡ s) × (leaves.outcome.rounds ≡ 0))
unfolding text_call text_test took_text
text_said d s piece out = go (is_done answer) refl _ _ refl
  where
    answer : Answer
    answer = first Done (text_faults d s (length piece) (length out))

    go : (b : Bool) → is_done answer ≡ b → (done : Outcome) (left : List ℕ) → done.answer ≡ Done
        → let leaves = cond b (called done left) (called (refused answer s) out) in
        Says leaves.outcome.answer answer ((leaves.lent ≡ out) × (leaves.outcome.next ≡ s) × (leaves.outcome.rounds ≡ 0))
    go true f done left e = record { is = e ∙ sym (done_is answer f); kept = λ r. absurd (r.0 e) }
    go false f done left e = says _ _ (refl, refl, refl)

-- the end of a stream: a refusal, or an end, which may be 9
record SaysEnd (leaves : Called) (listed : Answer) (s : Stream) (tag : List ℕ) : Type 0 where
  said : Says leaves.outcome.answer listed ((leaves.lent ≡ tag) × (leaves.outcome.next ≡ s) × (leaves.outcome.rounds ≡ 0))
  differs : leaves.outcome.answer ≡ TagDiffers → leaves.outcome.next ≡ ended

finish_said : (d : Direction) (s : Stream) (tag : List ℕ) → SaysEnd (finish_call d s tag) (first Done (finish_faults d s (length tag) ++ tag_faults d s tag)) s tag
unfolding finish_call finish_test
finish_said d s tag =
    subst (λ (listed : Answer). SaysEnd (finish_call d s tag) listed s tag) (sym (first_append (finish_faults d s (length tag)) (tag_faults d s tag) refl))
    (go (is_done (first Done (finish_faults d s (length tag)))) (first Done (finish_faults d s (length tag))) (first_most 8 (finish_faults d s (length tag)) refl)
    (not (gives_tag d) && not (same tag (own_tag s))) _)
  where
    go : (b : Bool) (answer : Answer) → number_of answer ≤ 8 → (nine : Bool) (left : List ℕ)
        → SaysEnd (cond b (called (finished_with (cond nine TagDiffers Done) s) left) (called (refused answer s) tag)) (cond b (cond nine TagDiffers Done) answer) s tag
    go true answer small true left = record { said = record { is = refl; kept = λ r. absurd (r.1 refl) }; differs = λ e. refl }
    go true answer small false left = record { said = record { is = refl; kept = λ r. absurd (r.0 refl) }; differs = λ e. refl }
    go false answer small nine left = record {
      said = says _ _ (refl, refl, refl);
      differs = λ e. absurd (let is-nine : number_of answer ≡ 9 = ap number_of e in omega (arith, is-nine, small));
    }

-- each answer is listed
pub listed : Listed ours
listed =
    record {
      start = λ start. (start_said start).is;
      ad = λ s piece. (ad_said s piece).is;
      text = λ d s piece out. (text_said d s piece out).is;
      finish = λ d s tag. (finish_said d s tag).said.is;
    }

-- each refusal changes nothing
pub unchanged : Unchanged ours
unchanged =
    record {
      start = λ start. (start_said start).kept;
      ad = λ s piece. (ad_said s piece).kept;
      text = λ d s piece out. (text_said d s piece out).kept;
      finish = λ d s tag. (finish_said d s tag).said.kept;
    }

-- save one
pub mismatch : Mismatch ours
mismatch = record { finish = λ d s tag. (finish_said d s tag).differs }

-- ---- what is done

-- a decision that answers done is what was to be done
decided_done : (answer : Answer) (s : Stream) (done : Outcome) → (decided answer s done).answer ≡ Done → decided answer s done ≡ done
decided_done answer s done e = go (is_done answer) refl e
  where
    go : (b : Bool) → is_done answer ≡ b → (cond b done (refused answer s)).answer ≡ Done → cond b done (refused answer s) ≡ done
    go true f e = refl
    go false f e = absurd (false≢true (sym f ∙ ap is_done e))

-- a start
start_reports : (start : Start) → let outcome = start_call start in
    outcome.answer ≡ Done → (outcome.rounds ≡ 12) × (outcome.next.phase ≡ Ad) × (outcome.next.limit ≡ start.limit)
unfolding start_call
start_reports start e =
    let begun : Outcome = record {
      answer = Done;
      rounds = 12;
      next = record {
        words = words_of_string (initialise (row_of start.set) start.key start.nonce);
        set = start.set;
        direction = start.direction;
        phase = Ad;
        key = start.key ++ zeros (16 - length start.key);
        ad = 0;
        text = 0;
        place = 0;
        limit = start.limit;
      };
    } in
    let done = decided_done (limited_start_test start.set (length start.key) (length start.nonce) start.limit) ended begun e in
    (ap (λ (x : Outcome). x.rounds) done, ap (λ (x : Outcome). x.next.phase) done, ap (λ (x : Outcome). x.next.limit) done)

-- a piece of data
ad_reports : (s : Stream) (piece : List ℕ) → let outcome = ad_call s piece in
    outcome.answer ≡ Done → (outcome.rounds ≡ filled_rounds (row_of s.set) s.ad (length piece)) × (outcome.next.limit ≡ s.limit)
unfolding ad_call
ad_reports s piece e =
    let done = decided_done (piece_test s (is_ad s.phase) s.ad (length piece) ad_limit) s (took_ad s piece) e in
    (ap (λ (x : Outcome). x.rounds) done, ap (λ (x : Outcome). x.next.limit) done)

-- what a done piece gives keeps the place's length and the bytes beyond
given_keeps : (d : Direction) (s : Stream) (piece out : List ℕ) → is_done (text_test d s (length piece) (length out)) ≡ true
    → (length (given_text d s piece out) ≡ length out) × (drop (length piece) (given_text d s piece out) ≡ drop (length piece) out)
unfolding given
given_keeps d s piece out e = go (gives_text d) refl
  where
    row : ParameterSet
    row = row_of s.set

    all : List ℕ
    all = given row (way_of d) (text_words s) s.text piece

    size : length all ≡ length piece
    size = length_outs row.block (p row.between) (keep_of (way_of d)) (front_of row (text_words s) s.text) piece

    go : (t : Bool) → gives_text d ≡ t → let left = cond t (all ++ drop (length piece) out) out in
        (length left ≡ length out) × (drop (length piece) left ≡ drop (length piece) out)
    go true f = (
      omega (arith, length-append all (drop (length piece) out), length-drop (length piece) out, size, (text_passed d s (length piece) (length out) e).room_fits f),
      drop_at all (drop (length piece) out) (length piece) size,
    )
    go false f = (refl, refl)

-- a piece of text
text_reports : (d : Direction) (s : Stream) (piece out : List ℕ) → let leaves = text_call d s piece out in
    leaves.outcome.answer ≡ Done
    → (leaves.outcome.rounds ≡ closing_rounds s + filled_rounds (row_of s.set) s.text (length piece))
    × (leaves.outcome.next.phase ≡ Text)
    × (leaves.outcome.next.limit ≡ s.limit)
    × (length leaves.lent ≡ length out)
    × (drop (length piece) leaves.lent ≡ drop (length piece) out)
unfolding text_call took_text
text_reports d s piece out = go (is_done (text_test d s (length piece) (length out))) refl
  where
    words : List ℕ
    words = absorbed (row_of s.set) (way_of d) (text_words s) s.text piece

    go : (b : Bool) → is_done (text_test d s (length piece) (length out)) ≡ b
        → let leaves = cond b (called (took_text s words (length piece)) (given_text d s piece out)) (called (refused (text_test d s (length piece) (length out)) s) out) in
        leaves.outcome.answer ≡ Done
        → (leaves.outcome.rounds ≡ closing_rounds s + filled_rounds (row_of s.set) s.text (length piece))
        × (leaves.outcome.next.phase ≡ Text)
        × (leaves.outcome.next.limit ≡ s.limit)
        × (length leaves.lent ≡ length out)
        × (drop (length piece) leaves.lent ≡ drop (length piece) out)
    go true f e = let kept-all = given_keeps d s piece out f in (refl, refl, refl, kept-all.0, kept-all.1)
    go false f e = absurd (false≢true (sym f ∙ ap is_done e))

-- the end of a stream
finish_reports : (d : Direction) (s : Stream) (tag : List ℕ) → let leaves = finish_call d s tag in
    Through leaves.outcome.answer
    → (leaves.outcome.rounds ≡ closing_rounds s + 12) × (leaves.outcome.next ≡ ended) × (leaves.lent ≡ cond (gives_tag d) (own_tag s) tag)
unfolding finish_call finish_test
finish_reports d s tag = go (is_done test) refl
  where
    test : Answer
    test = first Done (finish_faults d s (length tag))

    left : List ℕ
    left = cond (gives_tag d) (own_tag s) tag

    go : (b : Bool) → is_done test ≡ b → let leaves = cond b (called (finished_with (first Done (tag_faults d s tag)) s) left) (called (refused test s) tag) in
        Through leaves.outcome.answer → (leaves.outcome.rounds ≡ closing_rounds s + 12) × (leaves.outcome.next ≡ ended) × (leaves.lent ≡ left)
    go true f t = (refl, refl, refl)
    go false f t = absurd (stopped test f (first_most 8 (finish_faults d s (length tag)) refl) t)

-- what each reports and leaves
pub reported : Reported ours
reported = record { start = start_reports; ad = ad_reports; text = text_reports; finish = finish_reports }
