-- Cutting a message does not matter, in any direction: from the history law and its other half.
use mathlib.Core.Path.{◌≡◌, refl, sym, ap, ap₂, ◌∙◌, subst}
use mathlib.Core.Bool.{Bool, true, false, cond, not, ◌&&◌}
use mathlib.Core.List.{List, [], ◌∷◌, ◌++◌, append-nil, append_assoc}
use Prim.Native.Nat.{ℕ, ◌+◌, ◌-◌, ◌≤◌}
use native.Mathlib.Omega.{arith}
use lib.Dec.{eqb}
use lib.ListN.{length, length-append}
use lib.Seq.{take_at}
use borrow.Author.Tests.{eqb-true}
use Rattle.answers.specs.declared.Answer.TheVariants.{Done, TagLength, PastLimit, TagDiffers}
use Rattle.answers.specs.Numbers.{is_done}
use Rattle.answers.specs.Order.{◌when◌, first}
use Rattle.permutation.specs.Runs.{constants, constants_of, rounds_of}
use Rattle.permutation.specs.Strings.{words_of_string, zeros, same}
use Rattle.ascon.specs.Sets.{ParameterSet, row_of, ad_limit}
use Rattle.ascon.specs.Mode.{Processed, before_text, sealed, finalise}
use Rattle.ascon.specs.Bytewise.{closed}
use Rattle.ascon.specs.Rounds.{message_rounds}
use Rattle.ascon.proofs.Sealing.{Fits, encrypt_decrypted}
use Rattle.sponge.specs.Sponge.{processed, tag_of}
use Rattle.sets.proofs.Rows.{row_sizes}
use Rattle.stream.specs.declared.Direction.{Direction}
use Rattle.stream.specs.declared.Direction.TheVariants.{Sealing, Checking, Opening}
use Rattle.stream.specs.declared.Phase.{Phase}
use Rattle.stream.specs.declared.Phase.TheVariants.{Ad, Text}
use Rattle.stream.specs.declared.Stream.{Stream}
use Rattle.stream.specs.declared.Outcome.{Outcome}
use Rattle.stream.specs.State.{is_direction, way_of, gives_text, gives_tag, is_ad, is_open, fits, is_sound}
use Rattle.stream.specs.Calls.{closing_rounds, text_test, finish_test, Start, text_words, took_text, own_tag, tag_faults, finished_with, finish_call}
use Rattle.stream.proofs.Tests.{own_direction}
use Rattle.history.specs.History.{ours, Call, give_ad, give_text, finish, reply, History, begun, next, after, BytesIn, Started, state_at, rounds_at, Fitting.ad_fits, Fitting.text_fits, NeverRefused, PastRefused}
use Rattle.history.specs.Cuts.{RefusedCall, TextCut, TextCut.text_end, TextCut.text_refusal, TextCut.text_piece, Cut, Cut.ad_end, Cut.ad_refusal, Cut.ad_piece, Message, plain_of, published_tag, finish_answer, Whole}
use Rattle.sponge.proofs.Fronts.{tag_is, l₁, b₁, processed_view}
use Rattle.history.proofs.Rounds.{rounds_whole}
use Rattle.history.proofs.Replies.{done_of, reply_refused, reply_done, tag_left, next_is, refused_next}
use Rattle.history.proofs.History.{Reached, Ready, ready, advance, reached, told, start_state, fit, key, stood_at}
use Rattle.history.proofs.Accepted.{fits_piece, fits_text, past_text, fits_finish, tag_refused, reached_sound}

-- ---- following a cutting

-- the text's end is open, after the data and the text
record Followed (h : History) (A T : List ℕ) : Type 0 where
  open_still : is_open h.stream.phase ≡ true
  ad_is : h.ad ≡ A
  text_is : h.text ≡ T

-- the state after a call
next_stream : (h : History) (call : Call) {s : Stream} → h.stream ≡ s → (next ours h call).stream ≡ (reply ours s call).next
unfolding next
next_stream h call e = ap (λ (x : Stream). (reply ours x call).next) e

-- ---- a piece that fits is taken

ad_reply : (s : Stream) (piece : List ℕ) → is_sound s ≡ true → s.phase ≡ Ad → s.ad + length piece ≤ ad_limit → reply ours s (give_ad piece) ≡ done_of s (give_ad piece)
ad_reply s piece sound e l = reply_done s (give_ad piece) (fits_piece s (is_ad s.phase) s.ad (length piece) ad_limit sound (ap is_ad e) l)

-- a call for the stream's own direction is in its place while the stream is open
fits_own : (d : Direction) (s : Stream) → is_open s.phase ≡ true → s.direction ≡ d → fits d s ≡ true
fits_own d s o e = ap₂ ◌&&◌ o (ap (is_direction d) e ∙ own_direction d)

text_reply : (d : Direction) (s : Stream) (piece out : List ℕ) → is_sound s ≡ true → is_open s.phase ≡ true → s.direction ≡ d
    → s.text + length piece ≤ s.limit → (gives_text d ≡ true → length piece ≤ length out)
    → reply ours s (give_text d piece out) ≡ done_of s (give_text d piece out)
text_reply d s piece out sound o e l m =
    reply_done s (give_text d piece out) (fits_text d s (length piece) (length out) sound (fits_own d s o e) l m)

-- the history after it
record Taken (h g : History) (ad text : List ℕ) (phase : Phase) : Type 0 where
  phase_is : g.stream.phase ≡ phase
  ad_is : g.ad ≡ h.ad ++ ad
  text_is : g.text ≡ h.text ++ text

ad_taken : (h : History) (piece : List ℕ) → is_sound h.stream ≡ true → h.stream.phase ≡ Ad → h.stream.ad + length piece ≤ ad_limit → Taken h (next ours h (give_ad piece)) piece [] Ad
ad_taken h piece sound e l =
    let to = next_is h (give_ad piece) (done_of h.stream (give_ad piece)) true (ad_reply h.stream piece sound e l) refl in
    record { phase_is = ap (λ (g : History). g.stream.phase) to ∙ e; ad_is = ap (λ (g : History). g.ad) to; text_is = ap (λ (g : History). g.text) to }

text_taken : (d : Direction) (h : History) (piece out : List ℕ) → is_sound h.stream ≡ true → is_open h.stream.phase ≡ true → h.stream.direction ≡ d
    → h.stream.text + length piece ≤ h.stream.limit → (gives_text d ≡ true → length piece ≤ length out) → Taken h (next ours h (give_text d piece out)) [] piece Text
unfolding took_text
text_taken d h piece out sound o e l m =
    let to = next_is h (give_text d piece out) (done_of h.stream (give_text d piece out)) true (text_reply d h.stream piece out sound o e l m) refl in
    record { phase_is = ap (λ (g : History). g.stream.phase) to; ad_is = ap (λ (g : History). g.ad) to; text_is = ap (λ (g : History). g.text) to }

pub never_refused : NeverRefused ours
unfolding took_text
never_refused start begins calls b o call (ad_fits piece e l) =
    let h : History = after ours (begun ours start) calls in
    let r : Reached start begins h = reached start begins calls b in
    let y : Ready start begins h = ready start begins h r o in
    ap (λ (x : Outcome). x.answer) (ad_reply h.stream piece (reached_sound start begins h r o) e (rw y.ad_is l))
never_refused start begins calls b o call (text_fits piece out l m) =
    let h : History = after ours (begun ours start) calls in
    let r : Reached start begins h = reached start begins calls b in
    let y : Ready start begins h = ready start begins h r o in
    ap (λ (x : Outcome). x.answer) (text_reply start.direction h.stream piece out (reached_sound start begins h r o) o y.direction_is (rw (y.text_is, y.limit_is) l) m)

-- one that would pass the limit is not
pub past_refused : PastRefused ours
past_refused start begins calls b o piece out past =
    let h : History = after ours (begun ours start) calls in
    let s : Stream = h.stream in
    let d : Direction = start.direction in
    let r : Reached start begins h = reached start begins calls b in
    let y : Ready start begins h = ready start begins h r o in
    let test : text_test d s (length piece) (length out) ≡ PastLimit =
    past_text d s (length piece) (length out) (reached_sound start begins h r o) (fits_own d s o y.direction_is) (rw (y.text_is, y.limit_is) past) in
    ap (λ (x : Outcome). x.answer) (reply_refused s (give_text d piece out) (ap is_done test)) ∙ test

-- the tag at the end of a text is that of its plaintext, in each direction
tag_published : (row : ParameterSet) → Fits row → (K : List ℕ) → length K ≡ row.key → (N A : List ℕ) (d : Direction) (T : List ℕ)
    → finalise row K (processed (way_of d) row K N A T).state ≡ (sealed row K N A (plain_of d row K N A T)).tag
unfolding sealed
tag_published row fits K size N A Sealing T = refl
tag_published row fits K size N A Checking T = ap (λ (w : Processed). finalise row K w.state) (sym (encrypt_decrypted row fits K size N A T))
tag_published row fits K size N A Opening T = ap (λ (w : Processed). finalise row K w.state) (sym (encrypt_decrypted row fits K size N A T))

module _ (start : Start) (begins : Started ours start) where
  abbrev d : Direction
  d = start.direction

  abbrev K : List ℕ
  K = start.key

  abbrev N : List ℕ
  N = start.nonce

  follow_text : {s : Stream} {T : List ℕ} {calls : List Call} → TextCut ours d s T calls → (h : History) → h.stream ≡ s → Reached start begins h
      → is_open h.stream.phase ≡ true → BytesIn calls → length h.text + length T ≤ start.limit → Followed (after ours h calls) h.ad (h.text ++ T)
  follow_text text_end h e r o b l = record { open_still = o; ad_is = refl; text_is = sym (append-nil h.text) }
  follow_text (text_refusal {T = T} {calls = calls} call f cut) h e r o b l =
      let same-h : next ours h call ≡ h = refused_next h call (subst (λ (x : Stream). RefusedCall ours x call) (sym e) f) in
      let g = follow_text cut (next ours h call) (ap (λ (x : History). x.stream) same-h ∙ e) (advance start begins h call b.0 b.1 r)
      (ap (λ (x : History). is_open x.stream.phase) same-h ∙ o) b.2 (subst (λ (x : History). length x.text + length T ≤ start.limit) (sym same-h) l) in
      record {
        open_still = g.open_still;
        ad_is = g.ad_is ∙ ap (λ (x : History). x.ad) same-h;
        text_is = g.text_is ∙ ap (λ (x : History). x.text ++ T) same-h;
      }
  follow_text (text_piece {T = T} {calls = calls} piece out m cut) h e r o b l =
      let call : Call = give_text d piece out in
      let y = ready start begins h r o in
      let lt : length (piece ++ T) ≡ length piece + length T = length-append piece T in
      let t = text_taken d h piece out (reached_sound start begins h r o) o y.direction_is (rw (y.text_is, y.limit_is) (omega arith)) m in
      let lh : length (next ours h call).text ≡ length h.text + length piece = ap length t.text_is ∙ length-append h.text piece in
      let g = follow_text cut (next ours h call) (next_stream h call e) (advance start begins h call b.0 b.1 r) (ap is_open t.phase_is) b.2 (omega arith) in
      record {
        open_still = g.open_still;
        ad_is = g.ad_is ∙ t.ad_is ∙ append-nil h.ad;
        text_is = g.text_is ∙ ap (λ (x : List ℕ). x ++ T) t.text_is ∙ append_assoc h.text piece T;
      }

  follow : {s : Stream} {A T : List ℕ} {calls : List Call} → Cut ours d s A T calls → (h : History) → h.stream ≡ s → Reached start begins h
      → h.stream.phase ≡ Ad → h.text ≡ [] → BytesIn calls → length h.ad + length A ≤ ad_limit → length T ≤ start.limit → Followed (after ours h calls) (h.ad ++ A) T
  follow (ad_end {T = T} {calls = calls} cut) h e r o z b l m =
      let g = follow_text cut h e r (ap is_open o) b (subst (λ (x : List ℕ). length x + length T ≤ start.limit) (sym z) (omega arith)) in
      record { open_still = g.open_still; ad_is = g.ad_is ∙ sym (append-nil h.ad); text_is = g.text_is ∙ ap (λ (x : List ℕ). x ++ T) z }
  follow (ad_refusal {A = A} {T = T} {calls = calls} call f cut) h e r o z b l m =
      let same-h : next ours h call ≡ h = refused_next h call (subst (λ (x : Stream). RefusedCall ours x call) (sym e) f) in
      let g = follow cut (next ours h call) (ap (λ (x : History). x.stream) same-h ∙ e) (advance start begins h call b.0 b.1 r)
      (ap (λ (x : History). x.stream.phase) same-h ∙ o) (ap (λ (x : History). x.text) same-h ∙ z) b.2
      (subst (λ (x : History). length x.ad + length A ≤ ad_limit) (sym same-h) l) m in
      record { open_still = g.open_still; ad_is = g.ad_is ∙ ap (λ (x : History). x.ad ++ A) same-h; text_is = g.text_is }
  follow (ad_piece {A = A} {T = T} {calls = calls} piece cut) h e r o z b l m =
      let call : Call = give_ad piece in
      let y = ready start begins h r (ap is_open o) in
      let lt : length (piece ++ A) ≡ length piece + length A = length-append piece A in
      let t = ad_taken h piece (reached_sound start begins h r (ap is_open o)) o (rw y.ad_is (omega arith)) in
      let lh : length (next ours h call).ad ≡ length h.ad + length piece = ap length t.ad_is ∙ length-append h.ad piece in
      let g = follow cut (next ours h call) (next_stream h call e) (advance start begins h call b.0 b.1 r) t.phase_is (t.text_is ∙ append-nil h.text ∙ z) b.2 (omega arith) m in
      record {
        open_still = g.open_still;
        ad_is = g.ad_is ∙ ap (λ (x : List ℕ). x ++ A) t.ad_is ∙ append_assoc h.ad piece A;
        text_is = g.text_is;
      }

  -- the whole cutting, from the start
  followed : (A T : List ℕ) (calls : List Call) → BytesIn calls → length A ≤ ad_limit → length T ≤ start.limit → Cut ours d (begun ours start).stream A T calls
      → Followed (after ours (begun ours start) calls) A T
  unfolding state_at
  followed A T calls b l m cut =
      follow cut (begun ours start) refl (reached start begins [] tt) (ap (λ (s : Stream). s.phase) (start_state start begins)) refl b (omega arith) m

  -- the stream's own tag is the published one
  own_tag_published : (h : History) → Ready start begins h → own_tag h.stream ≡ published_tag start h.ad h.text
  own_tag_published h y =
      let s : Stream = h.stream in
      let row = row_of start.set in
      let f = fit start begins in
      let k = key start begins in
      let kb = begins.key_bytes in
      let after = stood_at start begins h.ad h.text in
      ap (λ (n : ℕ). tag_of (row_of n) (text_words s) s.text s.key) y.set_is
      ∙ ap₂ (λ (w : List ℕ) (n : ℕ). tag_of row w n s.key) y.words_is y.text_is
      ∙ ap (λ (x : List ℕ). tag_of row (words_of_string after.state) (length h.text) x) y.key_is
      ∙ tag_is row f (way_of d) (before_text row K N h.ad) (l₁ row f K N k kb h.ad) (b₁ row f K N k kb h.ad) h.text (K ++ zeros (16 - length K)) y.text_bounded.bytes
      ∙ ap (λ (x : List ℕ). finalise row x (closed after)) (take_at K (zeros (16 - length K)) row.key k)
      ∙ ap (λ (w : Processed). finalise row K w.state) (processed_view row f K N k kb h.ad (way_of d) h.text)
      ∙ tag_published row f K k N h.ad d h.text

  -- all the rounds
  whole_rounds : (h : History) → Ready start begins h → h.rounds + (closing_rounds h.stream + 12) ≡ message_rounds (row_of start.set) (length h.ad) (length h.text)
  unfolding rounds_of constants_of constants
  whole_rounds h y =
      let so_far : h.rounds + closing_rounds h.stream ≡ rounds_at (row_of start.set) Text (length h.ad) (length h.text) = y.rounds_is in
      let all = rounds_whole (row_of start.set) (ap rounds_of (row_sizes start.set).ends) (length h.ad) (length h.text) in
      omega arith

-- ---- the end of what a stream took

module _ (start : Start) (begins : Started ours start) (h : History) (r : Reached start begins h) (o : is_open h.stream.phase ≡ true) where
  abbrev row : ParameterSet
  row = row_of start.set

  at_end : Ready start begins h
  at_end = ready start begins h r o

  -- with a tag of the set's length, the test of a finish is passed
  end_passed : (tag : List ℕ) → length tag ≡ row.key → is_done (finish_test start.direction h.stream (length tag)) ≡ true
  end_passed tag e =
      fits_finish start.direction h.stream (length tag) (reached_sound start begins h r o)
      (fits_own start.direction h.stream o at_end.direction_is) (e ∙ ap (λ (n : ℕ). (row_of n).key) (sym at_end.set_is))

  -- with one of another length it is refused
  end_refused : (tag : List ℕ) → eqb (length tag) row.key ≡ false → finish_test start.direction h.stream (length tag) ≡ TagLength
  end_refused tag e =
      tag_refused start.direction h.stream (length tag) (reached_sound start begins h r o)
      (fits_own start.direction h.stream o at_end.direction_is) (ap (λ (n : ℕ). eqb (length tag) (row_of n).key) at_end.set_is ∙ e)

  -- the stream's own tag
  end_tag : own_tag h.stream ≡ published_tag start h.ad h.text
  end_tag = own_tag_published start begins h at_end

  -- the answer of its finish
  end_answer : (tag : List ℕ) → (finish_call start.direction h.stream tag).outcome.answer ≡ finish_answer start.direction row (published_tag start h.ad h.text) tag
  end_answer tag = go (eqb (length tag) row.key) refl
    where
      call : Call
      call = finish start.direction tag

      go : (t : Bool) → eqb (length tag) row.key ≡ t
          → (finish_call start.direction h.stream tag).outcome.answer
          ≡ first Done (TagLength when not t ∷ TagDiffers when (not (gives_tag start.direction) && not (same tag (published_tag start h.ad h.text))) ∷ [])
      go true e =
          ap (λ (o : Outcome). o.answer) (reply_done h.stream call (end_passed tag (eqb-true (length tag) row.key e)))
          ∙ ap (λ (x : List ℕ). first Done (TagDiffers when (not (gives_tag start.direction) && not (same tag x)) ∷ [])) end_tag
      go false e = ap (λ (o : Outcome). o.answer) (reply_refused h.stream call (ap is_done (end_refused tag e))) ∙ end_refused tag e

  -- the demand in any direction, of what was taken by whatever calls
  pub whole_taken : (tag : List ℕ) → Whole ours start h.ad h.text h tag
  whole_taken tag =
      let s : Stream = h.stream in
      let d : Direction = start.direction in
      let fin : length tag ≡ row.key → (finish_call d s tag).outcome ≡ finished_with (first Done (tag_faults d s tag)) s = λ e. reply_done s (finish d tag) (end_passed tag e) in
      record {
        out = (told start begins h r).out o;
        answer = end_answer tag;
        lent = λ e. tag_left d s tag (end_passed tag e) ∙ ap (λ (x : List ℕ). cond (gives_tag d) x tag) end_tag;
        rounds = λ e. ap (λ (o : Outcome). h.rounds + o.rounds) (fin e) ∙ whole_rounds start begins h at_end;
        over = λ e. ap (λ (o : Outcome). o.next) (fin e);
      }

-- ---- the end of a cut message

-- it took the whole message
pub whole : (start : Start) (A T : List ℕ) (calls : List Call) → Message ours start A T calls → (tag : List ℕ) → Whole ours start A T (after ours (begun ours start) calls) tag
whole start A T calls m tag =
    let h = after ours (begun ours start) calls in
    let taken = followed start m.started A T calls m.bytes m.ad_within m.text_within m.cut in
    subst (λ (x : List ℕ). Whole ours start x T h tag) taken.ad_is
    (subst (λ (x : List ℕ). Whole ours start h.ad x h tag) taken.text_is
    (whole_taken start m.started h (reached start m.started calls m.bytes) taken.open_still tag))
