-- What a call answers where its test is passed, and where it is not, and the history after it.
use mathlib.Core.Path.{◌≡◌, refl, ap, ◌∙◌, subst}
use mathlib.Core.Bool.{Bool, true, false, cond, not, ◌&&◌, true≢false}
use mathlib.Core.List.{List, [], ◌∷◌, ◌++◌, append-nil}
use Prim.Native.Nat.{ℕ, ◌+◌, ◌≤◌}
use native.Mathlib.Nat.{add-zero}
use native.Mathlib.Omega.{arith}
use lib.Dec.{leb}
use lib.ListN.{length, take, drop}
use lib.Seq.{take_at}
use Rattle.answers.specs.declared.Answer.{Answer}
use Rattle.answers.specs.declared.Answer.TheVariants.{Done, TagDiffers, PastLimit, OutOfPhase, BrokenState}
use Rattle.answers.specs.Numbers.{number_of, is_done}
use Rattle.answers.specs.Order.{◌when◌, first}
use Rattle.permutation.specs.Strings.{same}
use Rattle.ascon.specs.Sets.{ParameterSet, row_of, ad_limit}
use Rattle.ascon.specs.Mode.{p}
use Rattle.ascon.proofs.Bytewise.{length_outs}
use Rattle.sponge.specs.Sponge.{keep_of, front_of, absorbed, given}
use Rattle.stream.specs.declared.Direction.{Direction}
use Rattle.stream.specs.declared.Phase.{Phase}
use Rattle.stream.specs.declared.Phase.TheVariants.{Ad, Text, Ended}
use Rattle.stream.specs.declared.Stream.{Stream}
use Rattle.stream.specs.declared.Outcome.{Outcome}
use Rattle.stream.specs.State.{way_of, gives_text, gives_tag, is_ad, is_open, is_sound}
use Rattle.stream.specs.Calls.{refused, decided, piece_test, text_test, finish_test, ad_call, took_ad, text_words, took_text, Called, given_text, text_call, own_tag, tag_faults, finished_with, finish_call}
use Rattle.history.specs.History.{ours, Call, give_ad, give_text, finish, reply, ad_of, text_of, out_of, History, next}
use Rattle.history.specs.Cuts.{RefusedCall}

-- ---- one call

-- the test of a call
abbrev pub test_of : Stream → Call → Answer
test_of s (give_ad piece) = piece_test s (is_ad s.phase) s.ad (length piece) ad_limit
test_of s (give_text d piece out) = text_test d s (length piece) (length out)
test_of s (finish d tag) = finish_test d s (length tag)

-- what it answers where the test is passed
abbrev pub done_of : Stream → Call → Outcome
done_of s (give_ad piece) = took_ad s piece
done_of s (give_text d piece out) = took_text s (absorbed (row_of s.set) (way_of d) (text_words s) s.text piece) (length piece)
done_of s (finish d tag) = finished_with (first Done (tag_faults d s tag)) s

-- the outcome of a choice between two
chosen : (t : Bool) (one other : Called) → (cond t one other).outcome ≡ cond t one.outcome other.outcome
chosen true one other = refl
chosen false one other = refl

reply_is : (s : Stream) (call : Call) → reply ours s call ≡ decided (test_of s call) s (done_of s call)
unfolding ad_call text_call finish_call
reply_is s (give_ad piece) = refl
reply_is s (give_text d piece out) = chosen (is_done (text_test d s (length piece) (length out))) _ _
reply_is s (finish d tag) = chosen (is_done (finish_test d s (length tag))) _ _

pub reply_refused : (s : Stream) (call : Call) → is_done (test_of s call) ≡ false → reply ours s call ≡ refused (test_of s call) s
reply_refused s call e = reply_is s call ∙ ap (λ (t : Bool). cond t (done_of s call) (refused (test_of s call) s)) e

pub reply_done : (s : Stream) (call : Call) → is_done (test_of s call) ≡ true → reply ours s call ≡ done_of s call
reply_done s call e = reply_is s call ∙ ap (λ (t : Bool). cond t (done_of s call) (refused (test_of s call) s)) e

-- the output of a done piece of text
pub out_given : (d : Direction) (s : Stream) (piece out : List ℕ) → is_done (text_test d s (length piece) (length out)) ≡ true
    → out_of ours s (give_text d piece out) ≡ cond (gives_text d) (given (row_of s.set) (way_of d) (text_words s) s.text piece) []
unfolding text_call given
out_given d s piece out e = go (gives_text d) refl
  where
    row : ParameterSet
    row = row_of s.set

    all : List ℕ
    all = given row (way_of d) (text_words s) s.text piece

    lent : (text_call d s piece out).lent ≡ given_text d s piece out
    lent = rw e

    go : (t : Bool) → gives_text d ≡ t → cond t (take (length piece) (text_call d s piece out).lent) [] ≡ cond t all []
    go false f = refl
    go true f =
        ap (λ (l : List ℕ). take (length piece) l) (lent ∙ ap (λ (u : Bool). cond u (all ++ drop (length piece) out) out) f)
        ∙ take_at all (drop (length piece) out) (length piece)
        (length_outs row.block (p row.between) (keep_of (way_of d)) (front_of row (text_words s) s.text) piece)

-- what a finish in a direction leaves in the place of the tag
pub tag_left : (d : Direction) (s : Stream) (tag : List ℕ) → is_done (finish_test d s (length tag)) ≡ true → (finish_call d s tag).lent ≡ cond (gives_tag d) (own_tag s) tag
unfolding finish_call
tag_left d s tag e = rw e

-- ---- a call that is refused

-- the history after a call, by what the call answers
pub next_is : (h : History) (call : Call) (r : Outcome) (b : Bool) → reply ours h.stream call ≡ r → is_done r.answer ≡ b
    → next ours h call
    ≡ record {
      stream = r.next;
      ad = h.ad ++ cond b (ad_of call) [];
      text = h.text ++ cond b (text_of call) [];
      out = h.out ++ cond b (out_of ours h.stream call) [];
      rounds = h.rounds + r.rounds;
    }
unfolding next
next_is h call r b e f = rw (e, f)

-- a failed test leaves the history as it was
pub next_refused : (h : History) (call : Call) → is_done (test_of h.stream call) ≡ false → next ours h call ≡ h
next_refused h call f =
    next_is h call (refused (test_of h.stream call) h.stream) false (reply_refused h.stream call f) f
    ∙ (λ j. record {
      stream = h.stream;
      ad = append-nil h.ad j;
      text = append-nil h.text j;
      out = append-nil h.out j;
      rounds = add-zero h.rounds j;
    })

-- a call whose test is passed answers 0 or 9
done_number : (s : Stream) (call : Call) → 4 ≤ number_of (done_of s call).answer → number_of (done_of s call).answer ≤ 8 → ⊥
unfolding took_text
done_number s (give_ad piece) l m = omega arith
done_number s (give_text d piece out) l m = omega arith
done_number s (finish d tag) l m = go (not (gives_tag d) && not (same tag (own_tag s))) l m
  where
    go : (nine : Bool) → 4 ≤ number_of (cond nine TagDiffers Done) → number_of (cond nine TagDiffers Done) ≤ 8 → ⊥
    go true l m = omega arith
    go false l m = omega arith

-- a refusal with 4 to 8 leaves the history as it was
pub refused_next : (h : History) (call : Call) → RefusedCall ours h.stream call → next ours h call ≡ h
refused_next h call r = go (is_done (test_of h.stream call)) refl
  where
    go : (t : Bool) → is_done (test_of h.stream call) ≡ t → next ours h call ≡ h
    go true e =
        let done = reply_done h.stream call e in
        absurd
        (done_number h.stream call (subst (λ (x : Outcome). 4 ≤ number_of x.answer) done r.least)
        (subst (λ (x : Outcome). number_of x.answer ≤ 8) done r.most))
    go false e = next_refused h call e

-- ---- a call that does not fit

pub unfit_piece : (s : Stream) (fit : Bool) (count n limit : ℕ) → fit ≡ false → is_done (piece_test s fit count n limit) ≡ false
unfolding piece_test
unfit_piece s fit count n limit e = go (is_sound s)
  where
    go : (t : Bool) → is_done (first Done (BrokenState when not t ∷ OutOfPhase when not fit ∷ PastLimit when not (leb (count + n) limit) ∷ [])) ≡ false
    go true = rw e
    go false = refl

pub shut_ad : (phase : Phase) → is_open phase ≡ false → is_ad phase ≡ false
shut_ad Ad e = absurd (true≢false e)
shut_ad Text e = refl
shut_ad Ended e = refl
