-- Versions that go wrong in an area are refuted.
use mathlib.Core.Path.{◌≡◌, refl, sym, ap, ◌∙◌, subst}
use mathlib.Core.Bool.{Bool, true, false, not, ◌&&◌, true≢false}
use mathlib.Core.Logic.{inl, inr}
use mathlib.Core.List.{List, [], ◌∷◌, ◌++◌}
use Prim.Native.Nat.{ℕ, ◌+◌, ◌%◌}
use native.Mathlib.Omega.{arith}
use lib.Dec.{eqb, leb}
use lib.ListN.{length, take}
use Rattle.answers.specs.declared.Answer.{Answer}
use Rattle.answers.specs.declared.Answer.TheVariants.{Done, TagLength, PastLimit, NoRoom, OutOfPhase, BrokenState}
use Rattle.answers.specs.Numbers.{number_of}
use Rattle.answers.specs.Order.{Choice, ◌when◌, first}
use Rattle.answers.proofs.Numbers.{done_is}
use Rattle.permutation.specs.Strings.{Bytes, zeros}
use Rattle.ascon.specs.Sets.{table, is_set, row_of, ad_limit}
use Rattle.stream.specs.declared.Direction.{Direction}
use Rattle.stream.specs.declared.Direction.TheVariants.{Sealing}
use Rattle.stream.specs.State.{gives_text, gives_tag, is_ad, all_zero, ended, is_sound}
use Rattle.stream.specs.Calls.{Start, piece_faults, text_faults, finish_faults, tag_faults}
use Rattle.history.specs.History.{Call, give_ad, give_text, finish, BytesIn}
use Rattle.history.specs.Cuts.{published_tag}
use Rattle.history.proofs.Directions.{yes_published}
use Rattle.gateway.specs.Spelling.{spelling, is_spelling, state_in}
use Rattle.gateway.proofs.OneToOne.{one_to_one}
use Rattle.areas.specs.Areas.{Areas, AreaHistory, reply_on, begun_on, after_on, StartedOn, is_open_in}
use Rattle.areas.specs.Cuts.{AreaCutting}
use Rattle.areas.proofs.Sizes.{ended_sized}
use Rattle.letter.specs.Areas as areas
use Rattle.letter.specs.Worthless.{TakesOld, TakesNoState, ChangesRefused, EndKeeps, FinishKeeps, CutShows, AgreesToTwoOn}

-- ---- the ended state's area

-- what it spells
ended_spelled : (is_spelling (spelling ended) ≡ true) × (state_in (spelling ended) ≡ ended)
ended_spelled = one_to_one.spelled ended ended_sized

-- no call goes through on it: the first answer is 8 or 7, whatever else could hold
shut : (word : ℕ) (sound : Bool) (more : List (Choice Answer)) → word % 16 ≡ number_of (first Done (BrokenState when not sound ∷ OutOfPhase when true ∷ more)) → areas.ThroughWord word → ⊥
shut word true more e (inl f) = omega (arith, e, f)
shut word true more e (inr f) = omega (arith, e, f)
shut word false more e (inl f) = omega (arith, e, f)
shut word false more e (inr f) = omega (arith, e, f)

-- each call
shut_call : (m : Areas) → areas.Listed m → (call : Call) → areas.ThroughWord (reply_on m (spelling ended) call).word → ⊥
shut_call m l (give_ad piece) =
    shut (m.ad (spelling ended) piece).word (is_sound ended) (PastLimit when not (leb (0 + length piece) ad_limit) ∷ [])
    (l.ad (spelling ended) piece
    ∙ (λ j. let s = ended_spelled.1 j in number_of (first Done (BrokenState when not (ended_spelled.0 j) ∷ piece_faults s (is_ad s.phase) (s.ad + length piece) ad_limit))))
shut_call m l (give_text d piece out) =
    shut (m.text d (spelling ended) piece out).word (is_sound ended)
    (PastLimit when not (leb (0 + length piece) 0) ∷ NoRoom when (gives_text d && not (leb (length piece) (length out))) ∷ [])
    (l.text d (spelling ended) piece out
    ∙ (λ j. number_of (first Done (BrokenState when not (ended_spelled.0 j) ∷ text_faults d (ended_spelled.1 j) (length piece) (length out)))))
shut_call m l (finish d tag) =
    shut (m.finish d (spelling ended) tag).word (is_sound ended) (TagLength when not (eqb (length tag) (row_of 1).key) ∷ tag_faults d ended tag)
    (l.finish d (spelling ended) tag
    ∙ (λ j. let s = ended_spelled.1 j in number_of (first Done (BrokenState when not (ended_spelled.0 j) ∷ finish_faults d s (length tag) ++ tag_faults d s tag))))

-- a refused start leaves no stream
pub takes_old : (m : Areas) (start : Start) (area : List ℕ) (call : Call) → TakesOld m start area call → areas.Listed m → areas.Unchanged m → ⊥
takes_old m start area call (size, refused, through) l u =
    shut_call m l call (subst (λ (x : List ℕ). areas.ThroughWord (reply_on m x call).word) (u.start start area size refused).0 through)

-- ---- what spells no state

no_state : (m : Areas) → areas.Listed m → (area : List ℕ) → is_spelling area ≡ false → (call : Call) → (reply_on m area call).word % 16 ≡ 8
no_state m l area none (give_ad piece) = l.ad area piece ∙ rw none
no_state m l area none (give_text d piece out) = l.text d area piece out ∙ rw none
no_state m l area none (finish d tag) = l.finish d area tag ∙ rw none

pub takes_no_state : (m : Areas) (area : List ℕ) (call : Call) → TakesNoState m area call → areas.Listed m → ⊥
takes_no_state m area call (none, inl e) l = let eight = no_state m l area none call in omega (arith, eight, e)
takes_no_state m area call (none, inr e) l = let eight = no_state m l area none call in omega (arith, eight, e)

-- ---- what a call leaves

-- a refused call leaves the area and the lent place
pub changes_refused : (m : Areas) (area : List ℕ) (call : Call) → Bytes area → ChangesRefused m area call → areas.Unchanged m → ⊥
changes_refused m area (give_ad piece) bytes (refused, changed) u = changed ((u.ad area piece bytes refused).0, refl)
changes_refused m area (give_text d piece out) bytes (refused, changed) u = let kept = u.text d area piece out bytes refused in changed (kept.0, kept.1)
changes_refused m area (finish d tag) bytes (refused, changed) u = let kept = u.finish d area tag bytes refused in changed (kept.0, kept.1)

-- the ended state has no words and no key
nothing_left : (area : List ℕ) → area ≡ spelling ended → all_zero (take 56 area) ≡ false → ⊥
nothing_left area over some = true≢false (ap (λ (x : List ℕ). all_zero (take 56 x)) (sym one_to_one.ended_is ∙ sym over) ∙ some)

pub end_keeps : (m : Areas) (area : List ℕ) → EndKeeps m area → areas.Reported m → ⊥
end_keeps m area (size, some) r = nothing_left (m.ends area).area (r.ends area size).1 some

pub finish_keeps : (m : Areas) (d : Direction) (area tag : List ℕ) → FinishKeeps m d area tag → areas.Reported m → ⊥
finish_keeps m d area tag (through, some) r = nothing_left (m.finish d area tag).area (r.finish d area tag through).1 some

-- ---- what a start answers

-- one that is done
pub refuses_areas : (m : Areas) → ((start : Start) (area : List ℕ) → (m.start start area).word % 16 ≡ 0 → ⊥) → areas.Listed m → ⊥
unfolding is_set row_of table
refuses_areas m never l =
    let start : Start = record { direction = Sealing; set = 1; limit = 0; key = zeros 16; nonce = zeros 16 } in never start (zeros 112) (l.start start (zeros 112))

-- ---- the third demand

-- the cut can't be seen
pub cut_shows : (m : Areas) (start : Start) (area area' : List ℕ) (calls other : List Call) → StartedOn m start area → StartedOn m start area'
    → BytesIn calls → BytesIn other → CutShows m start area area' calls other → AreaCutting m → ⊥
cut_shows m start area area' calls other on on' b c (phase, ad, text, differ) cutting = differ (cutting.areas start area area' on on' calls other b c phase ad text)

-- one tag alone is right
pub says_yes_on : (m : Areas) (start : Start) (area : List ℕ) (calls : List Call) (tag other : List ℕ) → gives_tag start.direction ≡ false → StartedOn m start area → BytesIn calls
    → is_open_in (after_on m (begun_on m start area) calls).area ≡ true → AgreesToTwoOn m start area calls tag other → AreaCutting m → ⊥
says_yes_on m start area calls tag other compares on b still (differ, one, two) cutting = differ (published tag one ∙ sym (published other two))
  where
    h : AreaHistory
    h = after_on m (begun_on m start area) calls

    -- a tag that is said yes to
    published : (tag : List ℕ) → (m.finish start.direction h.area tag).word % 16 ≡ 0 → tag ≡ published_tag start h.ad h.text
    published tag e =
        yes_published start.direction compares (row_of start.set) (published_tag start h.ad h.text) tag
        (done_is _ (ap (λ (n : ℕ). eqb n 0) (sym (cutting.taken start area on calls b tag still).answer ∙ e)))
