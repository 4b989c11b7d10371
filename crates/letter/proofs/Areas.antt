-- Streams in areas: what is said of their calls holds, by what is said of streams.
use mathlib.Core.Path.{◌≡◌, refl, sym, ap, ◌∙◌, subst}
use mathlib.Core.Bool.{Bool, true, false, cond, not, false≢true}
use mathlib.Core.List.{List, [], ◌∷◌, ◌++◌}
use mathlib.Core.Logic.{inl, inr}
use Prim.Native.Nat.{ℕ, ◌+◌, ◌/◌, ◌%◌}
use native.Mathlib.Omega.{arith}
use lib.Dec.{eqb}
use lib.ListN.{length, drop}
use borrow.Author.Tests.{eq-eqb, ne_eqb}
use Rattle.answers.specs.declared.Answer.{Answer}
use Rattle.answers.specs.declared.Answer.TheVariants.{Done, UnknownSet, KeyLength, NonceLength, TagLength, PastLimit, NoRoom, OutOfPhase, BrokenState, TagDiffers, BrokenRecord, ChipLost}
use Rattle.answers.specs.Numbers.{number_of}
use Rattle.answers.specs.Order.{Choice, ◌when◌, first}
use Rattle.answers.proofs.Numbers.{done_is}
use Rattle.permutation.specs.Strings.{Bytes}
use Rattle.ascon.specs.Sets.{row_of, ad_limit}
use Rattle.stream.specs.declared.Direction.{Direction}
use Rattle.stream.specs.declared.Direction.TheVariants.{Sealing, Checking, Opening}
use Rattle.stream.specs.declared.Stream.{Stream}
use Rattle.stream.specs.declared.Outcome.{Outcome}
use Rattle.stream.specs.State.{gives_tag, is_ad, ended}
use Rattle.stream.specs.Calls.{limited_start_faults, piece_faults, text_faults, finish_faults, tag_faults, filled_rounds, closing_rounds, Start, start_call, ad_call, Called, text_call, own_tag, finish_call}
use Rattle.stream.proofs.Lent.{check_is, finish_is}
use Rattle.gateway.specs.Word.{one_word}
use Rattle.gateway.specs.Spelling.{state_length, spelling, is_spelling, state_in}
use Rattle.gateway.specs.Calls.{Left, left, LeftLent, left_lent, unspelled, left_by, left_beside, start_on, ad_on, text_on, finish_on, end_on}
use Rattle.gateway.proofs.OneWord.{word_answer, word_rounds}
use Rattle.gateway.proofs.OneToOne.{one_to_one}
use Rattle.areas.specs.Areas.{Areas, ours}
use Rattle.gateway.proofs as gateway
use Rattle.letter.specs.Calls.{lent, lent_mut, Refused, Through}
use Rattle.letter.specs.Areas.{start_from, Keeps, EveryCall, Listed, RefusedWord, ThroughWord, Unchanged, Mismatch, Reported}
use Rattle.letter.proofs.Calls.{answered, lifetimes}
use Rattle.letter.proofs.Streams as streams

-- ---- the calls

-- a checking's piece leaves the place as it is
pub check_on_is : (area piece out : List ℕ) → text_on Checking area piece out ≡ left_lent (text_on Checking area piece []).word (text_on Checking area piece []).area out
unfolding text_on
check_on_is area piece out = go (is_spelling area)
  where
    s : Stream
    s = state_in area

    called_so : text_call Checking s piece out ≡ record { outcome = (text_call Checking s piece []).outcome; lent = out }
    called_so = check_is s piece out

    chosen : Bool → List ℕ → LeftLent
    chosen b place = let call = text_call Checking s piece place in cond b (left_beside (left_by call.outcome) call.lent) (left_beside (unspelled area) place)

    go : (b : Bool) → chosen b out ≡ left_lent (chosen b []).word (chosen b []).area out
    go true = ap (λ (call : Called). left_beside (left_by call.outcome) call.lent) called_so
    go false = refl

-- and so does a finish that is given a tag to compare
finish_kept : (d : Direction) → gives_tag d ≡ false → (area tag : List ℕ) → (finish_on d area tag).lent ≡ tag
unfolding finish_on
finish_kept d compares area tag = go (is_spelling area)
  where
    go : (b : Bool) → let call = finish_call d (state_in area) tag in (cond b (left_beside (left_by call.outcome) call.lent) (left_beside (unspelled area) tag)).lent ≡ tag
    go true = ap (λ (call : Called). call.lent) (finish_is d compares (state_in area) tag)
    go false = refl

-- calls that keep the contracts are ours
pub is_ours : (m : Areas) → Keeps m → m ≡ ours
is_ours m k =
    λ j. record {
      start = λ start area. starts start.direction start refl area j;
      ad = λ area piece. k.ad (lent_mut area) (lent piece) (lifetimes 2) j;
      text = λ d area piece out. texts d area piece out j;
      finish = λ d area tag. finishes d area tag j;
      ends = λ area. k.ends (lent_mut area) (lifetimes 1) j;
    }
  where
    -- a start, by its direction
    starts : (d : Direction) (start : Start) → start.direction ≡ d → (area : List ℕ) → m.start start area ≡ start_on start area
    starts Sealing start e area =
        subst (λ (d : Direction). m.start (start_from d start.set start.limit start.key start.nonce) area ≡ start_on (start_from d start.set start.limit start.key start.nonce) area) (sym e)
        (k.start_sealing start.set start.limit (lent start.key) (lent start.nonce) (lent_mut area) (lifetimes 3))
    starts Checking start e area =
        subst (λ (d : Direction). m.start (start_from d start.set start.limit start.key start.nonce) area ≡ start_on (start_from d start.set start.limit start.key start.nonce) area) (sym e)
        (k.start_checking start.set start.limit (lent start.key) (lent start.nonce) (lent_mut area) (lifetimes 3))
    starts Opening start e area =
        subst (λ (d : Direction). m.start (start_from d start.set start.limit start.key start.nonce) area ≡ start_on (start_from d start.set start.limit start.key start.nonce) area) (sym e)
        (k.start_opening start.set start.limit (lent start.key) (lent start.nonce) (lent_mut area) (lifetimes 3))

    texts : (d : Direction) (area piece out : List ℕ) → m.text d area piece out ≡ text_on d area piece out
    texts Sealing area piece out = k.seal_piece (lent_mut area) (lent piece) (lent_mut out) (lifetimes 3)
    texts Checking area piece out =
        let h = k.check (lent_mut area) (lent piece) out in
        let e = h.0 (lifetimes 2) in
        (λ j. left_lent (e j).word (e j).area (h.1 j)) ∙ sym (check_on_is area piece out)
    texts Opening area piece out = k.open_piece (lent_mut area) (lent piece) (lent_mut out) (lifetimes 3)

    finishes : (d : Direction) (area tag : List ℕ) → m.finish d area tag ≡ finish_on d area tag
    finishes Sealing area tag = k.finish_sealing (lent_mut area) (lent_mut tag) (lifetimes 2)
    finishes Checking area tag =
        let h = k.finish_checking (lent_mut area) (lent tag) in (λ j. left_lent (m.finish Checking area tag).word (m.finish Checking area tag).area (h.1 j)) ∙ h.0 (lifetimes 2)
    finishes Opening area tag =
        let h = k.finish_opening (lent_mut area) (lent tag) in (λ j. left_lent (m.finish Opening area tag).word (m.finish Opening area tag).area (h.1 j)) ∙ h.0 (lifetimes 2)

-- and ours keep them
pub keeps : Keeps ours
keeps =
    record {
      start_sealing = λ set limit key nonce state κ. refl;
      start_checking = λ set limit key nonce state κ. refl;
      start_opening = λ set limit key nonce state κ. refl;
      ad = λ state ad κ. refl;
      seal_piece = λ state text out κ. refl;
      check = λ state cipher out.
          let e = check_on_is state.now cipher.now out in
          let f = check_on_is state.now cipher.now [] in
          (λ κ. (λ j. left_lent (e j).word (e j).area []) ∙ sym f, ap (λ (r : LeftLent). r.lent) e);
      open_piece = λ state cipher out κ. refl;
      finish_sealing = λ state tag κ. refl;
      finish_checking = λ state tag. let e = finish_kept Checking refl state.now tag.now in (λ κ. λ j. left_lent (finish_on Checking state.now tag.now).word (finish_on Checking state.now tag.now).area (sym e j), e);
      finish_opening = λ state tag. let e = finish_kept Opening refl state.now tag.now in (λ κ. λ j. left_lent (finish_on Opening state.now tag.now).word (finish_on Opening state.now tag.now).area (sym e j), e);
      ends = λ state κ. refl;
    }

-- each is answered
pub every_call : EveryCall
every_call =
    record {
      gateway_kvistmaur_start_sealing = answered (λ M. gateway.kvistmaur_start_sealing.Met.met) (λ κ a. tt) (λ κ a r e p. p);
      gateway_kvistmaur_start_checking = answered (λ M. gateway.kvistmaur_start_checking.Met.met) (λ κ a. tt) (λ κ a r e p. p);
      gateway_kvistmaur_start_opening = answered (λ M. gateway.kvistmaur_start_opening.Met.met) (λ κ a. tt) (λ κ a r e p. p);
      gateway_kvistmaur_stream_data = answered (λ M. gateway.kvistmaur_stream_data.Met.met) (λ κ a. tt) (λ κ a r e p. p);
      gateway_kvistmaur_stream_seal = answered (λ M. gateway.kvistmaur_stream_seal.Met.met) (λ κ a. tt) (λ κ a r e p. p);
      gateway_kvistmaur_stream_check = answered (λ M. gateway.kvistmaur_stream_check.Met.met) (λ κ a. tt) (λ κ a r e p. ap (λ (x : LeftLent). left x.word x.area) p);
      gateway_kvistmaur_stream_open = answered (λ M. gateway.kvistmaur_stream_open.Met.met) (λ κ a. tt) (λ κ a r e p. p);
      gateway_kvistmaur_finish_sealing = answered (λ M. gateway.kvistmaur_finish_sealing.Met.met) (λ κ a. tt) (λ κ a r e p. p);
      gateway_kvistmaur_finish_checking = answered (λ M. gateway.kvistmaur_finish_checking.Met.met) (λ κ a. tt) (λ κ a r e p. ap (λ (x : LeftLent). left x.word x.area) p);
      gateway_kvistmaur_finish_opening = answered (λ M. gateway.kvistmaur_finish_opening.Met.met) (λ κ a. tt) (λ κ a r e p. ap (λ (x : LeftLent). left x.word x.area) p);
      gateway_kvistmaur_stream_end = answered (λ M. gateway.kvistmaur_stream_end.Met.met) (λ κ a. tt) (λ κ a r e p. p);
    }

-- ---- what they answer

-- the answer of a call on a state behind the test of the area
tested : (b : Bool) (o : Outcome) (area : List ℕ) (faults : List (Choice Answer)) → o.answer ≡ first Done faults
    → (cond b (left_by o) (unspelled area)).word % 16 ≡ number_of (first Done (BrokenState when not b ∷ faults))
tested true o area faults e = word_answer o.answer o.rounds ∙ ap number_of e
tested false o area faults e = word_answer BrokenState 0

-- the same of a call with a lent place
tested_lent : (b : Bool) (call : Called) (area place : List ℕ) (faults : List (Choice Answer)) → call.outcome.answer ≡ first Done faults
    → (cond b (left_beside (left_by call.outcome) call.lent) (left_beside (unspelled area) place)).word % 16 ≡ number_of (first Done (BrokenState when not b ∷ faults))
tested_lent true call area place faults e = word_answer call.outcome.answer call.outcome.rounds ∙ ap number_of e
tested_lent false call area place faults e = word_answer BrokenState 0

-- each answer is listed
pub listed : Listed ours
unfolding start_on ad_on text_on finish_on end_on
listed =
    record {
      start = λ start area. tested (eqb (length area) state_length) (start_call start) area (limited_start_faults start.set (length start.key) (length start.nonce) start.limit) ((streams.listed).start start);
      ad = λ area piece.
          let s = state_in area in
          tested (is_spelling area) (ad_call s piece) area (piece_faults s (is_ad s.phase) (s.ad + length piece) ad_limit) ((streams.listed).ad s piece);
      text = λ d area piece out.
          let s = state_in area in
          tested_lent (is_spelling area) (text_call d s piece out) area out (text_faults d s (length piece) (length out)) ((streams.listed).text d s piece out);
      finish = λ d area tag.
          let s = state_in area in
          tested_lent (is_spelling area) (finish_call d s tag) area tag (finish_faults d s (length tag) ++ tag_faults d s tag) ((streams.listed).finish d s tag);
      ends = λ area. ended_so (eqb (length area) state_length) area;
    }
  where
    ended_so : (b : Bool) (area : List ℕ) → (cond b (left (one_word Done 0) (spelling ended)) (unspelled area)).word % 16 ≡ number_of (first Done (BrokenState when not b ∷ []))
    ended_so true area = word_answer Done 0
    ended_so false area = word_answer BrokenState 0

-- ---- what they leave

-- a refused word is that of a refusal
word_refused : (o : Outcome) → RefusedWord (left_by o).word → Refused o.answer
word_refused o r = (λ e. r.0 (word_answer o.answer o.rounds ∙ ap number_of e), λ e. r.1 (word_answer o.answer o.rounds ∙ ap number_of e))

-- a word of 0 is that of done
word_done : (o : Outcome) → (left_by o).word % 16 ≡ 0 → o.answer ≡ Done
word_done o e = done_is o.answer (ap (λ (n : ℕ). eqb n 0) (sym (word_answer o.answer o.rounds) ∙ e))

-- the one answer whose number is 9
nine_is : (answer : Answer) → number_of answer ≡ 9 → answer ≡ TagDiffers
nine_is TagDiffers e = refl
nine_is Done e = absurd (omega (arith, e))
nine_is UnknownSet e = absurd (omega (arith, e))
nine_is KeyLength e = absurd (omega (arith, e))
nine_is NonceLength e = absurd (omega (arith, e))
nine_is TagLength e = absurd (omega (arith, e))
nine_is PastLimit e = absurd (omega (arith, e))
nine_is NoRoom e = absurd (omega (arith, e))
nine_is OutOfPhase e = absurd (omega (arith, e))
nine_is BrokenState e = absurd (omega (arith, e))
nine_is BrokenRecord e = absurd (omega (arith, e))
nine_is ChipLost e = absurd (omega (arith, e))

-- a word of 9 is that of 9
word_nine : (o : Outcome) → (left_by o).word % 16 ≡ 9 → o.answer ≡ TagDiffers
word_nine o e = nine_is o.answer (sym (word_answer o.answer o.rounds) ∙ e)

-- a word of 0 or 9
word_through : (o : Outcome) → ThroughWord (left_by o).word → Through o.answer
word_through o (inl e) = inl (word_done o e)
word_through o (inr e) = inr (word_nine o e)

-- what a call leaves of an area that it refuses
kept_area : (area : List ℕ) → Bytes area → is_spelling area ≡ true → (o : Outcome) → o.next ≡ state_in area → (left_by o).area ≡ area
kept_area area bytes spelt o e = ap spelling e ∙ (one_to_one.spells area bytes spelt).1

-- each refusal changes nothing, save a start's
pub unchanged : Unchanged ours
unfolding start_on ad_on text_on finish_on end_on
unchanged =
    record {
      start = λ start area e r. started start area (eqb (length area) state_length) (eq-eqb (length area) state_length e) r;
      start_length = λ start area no. other (eqb (length area) state_length) (ne_eqb (length area) state_length no) (left_by (start_call start)) area;
      ad = λ area piece bytes. datum area piece bytes (is_spelling area) refl;
      text = λ d area piece out bytes.
          placed area bytes (text_call d (state_in area) piece out) out ((streams.unchanged).text d (state_in area) piece out) (is_spelling area) refl;
      finish = λ d area tag bytes. placed area bytes (finish_call d (state_in area) tag) tag ((streams.unchanged).finish d (state_in area) tag) (is_spelling area) refl;
      ends = λ area no. other (eqb (length area) state_length) (ne_eqb (length area) state_length no) (left (one_word Done 0) (spelling ended)) area;
    }
  where
    started : (start : Start) (area : List ℕ) (b : Bool) → b ≡ true → let leaves = cond b (left_by (start_call start)) (unspelled area) in
        RefusedWord leaves.word → (leaves.area ≡ spelling ended) × (leaves.word / 16 ≡ 0)
    started start area true e r =
        let kept = (streams.unchanged).start start (word_refused (start_call start) r) in
        (ap spelling kept.0, word_rounds (start_call start).answer (start_call start).rounds ∙ kept.1)
    started start area false e r = absurd (false≢true e)

    other : (b : Bool) → b ≡ false → (all : Left) (area : List ℕ) → let leaves = cond b all (unspelled area) in (leaves.area ≡ area) × (leaves.word ≡ 8)
    other true e all area = absurd (false≢true (sym e))
    other false e all area = (refl, refl)

    datum : (area piece : List ℕ) → Bytes area → (b : Bool) → is_spelling area ≡ b → let leaves = cond b (left_by (ad_call (state_in area) piece)) (unspelled area) in
        RefusedWord leaves.word → (leaves.area ≡ area) × (leaves.word / 16 ≡ 0)
    datum area piece bytes true spelt r =
        let o = ad_call (state_in area) piece in
        let kept = (streams.unchanged).ad (state_in area) piece (word_refused o r) in
        (kept_area area bytes spelt o kept.0, word_rounds o.answer o.rounds ∙ kept.1)
    datum area piece bytes false spelt r = (refl, refl)

    placed : (area : List ℕ) → Bytes area → (call : Called) (place : List ℕ)
        → (Refused call.outcome.answer → (call.lent ≡ place) × (call.outcome.next ≡ state_in area) × (call.outcome.rounds ≡ 0))
        → (b : Bool) → is_spelling area ≡ b → let leaves = cond b (left_beside (left_by call.outcome) call.lent) (left_beside (unspelled area) place) in
        RefusedWord leaves.word → (leaves.area ≡ area) × (leaves.lent ≡ place) × (leaves.word / 16 ≡ 0)
    placed area bytes call place stays true spelt r =
        let o = call.outcome in
        let kept = stays (word_refused o r) in
        (kept_area area bytes spelt o kept.1, kept.0, word_rounds o.answer o.rounds ∙ kept.2)
    placed area bytes call place stays false spelt r = (refl, refl, refl)

-- 8 is not 0, and not 9
not_done : (unspelled []).word % 16 ≡ 0 → ⊥
not_done e = omega (arith, e)

not_nine : (unspelled []).word % 16 ≡ 9 → ⊥
not_nine e = omega (arith, e)

-- save one
pub mismatch : Mismatch ours
unfolding finish_on
mismatch = record { finish = λ d area tag. go d area tag (is_spelling area) }
  where
    go : (d : Direction) (area tag : List ℕ) (b : Bool) → let call = finish_call d (state_in area) tag in
        let leaves = cond b (left_beside (left_by call.outcome) call.lent) (left_beside (unspelled area) tag) in
        leaves.word % 16 ≡ 9 → leaves.area ≡ spelling ended
    go d area tag true e = ap spelling ((streams.mismatch).finish d (state_in area) tag (word_nine (finish_call d (state_in area) tag).outcome e))
    go d area tag false e = absurd (not_nine e)

-- what each reports and leaves
pub reported : Reported ours
unfolding start_on ad_on text_on finish_on end_on
reported =
    record {
      start = λ start area. starts start area (eqb (length area) state_length);
      ad = λ area piece. datum area piece (is_spelling area);
      text = λ d area piece out. texts d area piece out (is_spelling area);
      finish = λ d area tag. finishes d area tag (is_spelling area);
      ends = λ area e. ends_so area (eqb (length area) state_length) (eq-eqb (length area) state_length e);
    }
  where
    starts : (start : Start) (area : List ℕ) (b : Bool) → let word = (cond b (left_by (start_call start)) (unspelled area)).word in word % 16 ≡ 0 → word / 16 ≡ 12
    starts start area true e =
        let o = start_call start in word_rounds o.answer o.rounds ∙ ((streams.reported).start start (word_done o e)).0
    starts start area false e = absurd (not_done e)

    datum : (area piece : List ℕ) (b : Bool) → let s = state_in area in
        let word = (cond b (left_by (ad_call s piece)) (unspelled area)).word in
        word % 16 ≡ 0 → word / 16 ≡ filled_rounds (row_of s.set) s.ad (length piece)
    datum area piece true e =
        let o = ad_call (state_in area) piece in word_rounds o.answer o.rounds ∙ ((streams.reported).ad (state_in area) piece (word_done o e)).0
    datum area piece false e = absurd (not_done e)

    texts : (d : Direction) (area piece out : List ℕ) (b : Bool) → let s = state_in area in
        let call = text_call d s piece out in
        let leaves = cond b (left_beside (left_by call.outcome) call.lent) (left_beside (unspelled area) out) in
        leaves.word % 16 ≡ 0
        → (leaves.word / 16 ≡ closing_rounds s + filled_rounds (row_of s.set) s.text (length piece))
        × (length leaves.lent ≡ length out)
        × (drop (length piece) leaves.lent ≡ drop (length piece) out)
    texts d area piece out true e =
        let o = (text_call d (state_in area) piece out).outcome in
        let said = (streams.reported).text d (state_in area) piece out (word_done o e) in
        (word_rounds o.answer o.rounds ∙ said.0, said.3, said.4)
    texts d area piece out false e = absurd (not_done e)

    finishes : (d : Direction) (area tag : List ℕ) (b : Bool) → let s = state_in area in
        let call = finish_call d s tag in
        let leaves = cond b (left_beside (left_by call.outcome) call.lent) (left_beside (unspelled area) tag) in
        ThroughWord leaves.word
        → (leaves.word / 16 ≡ closing_rounds s + 12) × (leaves.area ≡ spelling ended) × (leaves.lent ≡ cond (gives_tag d) (own_tag s) tag)
    finishes d area tag true t =
        let o = (finish_call d (state_in area) tag).outcome in
        let said = (streams.reported).finish d (state_in area) tag (word_through o t) in
        (word_rounds o.answer o.rounds ∙ said.0, ap spelling said.1, said.2)
    finishes d area tag false (inl e) = absurd (not_done e)
    finishes d area tag false (inr e) = absurd (not_nine e)

    ends_so : (area : List ℕ) (b : Bool) → b ≡ true → let leaves = cond b (left (one_word Done 0) (spelling ended)) (unspelled area) in
        (leaves.word ≡ 0) × (leaves.area ≡ spelling ended)
    ends_so area true e = (refl, refl)
    ends_so area false e = absurd (false≢true e)
