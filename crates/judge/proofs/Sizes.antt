-- A step takes no more than its window, and writes no more than its place.
use mathlib.Core.Path.{◌≡◌, refl, sym, ap}
use mathlib.Core.Bool.{Bool, true, false, not, ◌&&◌, ◌||◌, false≢true}
use mathlib.Core.List.{List, [], ◌∷◌, ◌++◌}
use mathlib.Core.Logic.{◌↔◌}
use Prim.Native.Nat.{ℕ, ◌≤◌, ◌<◌}
use native.Mathlib.Omega.{arith}
use lib.Dec.{eqb, leb}
use lib.ListN.{length, take, drop, length-append, length-drop}
use lib.Seq.{length-take-le}
use borrow.Author.Tests.{leb-true, eqb-true}
use Rattle.answers.specs.Numbers.{is_done}
use Rattle.answers.specs.Order.{◌when◌, first}
use Rattle.answers.proofs.Numbers.{done_is}
use Rattle.record.specs.declared.form.Form.TheVariants.{Two}
use Rattle.record.specs.Calls.{Reading, refused_at, read_any}
use Rattle.record.specs.Laws.{BegunAny}
use Rattle.record.specs.Text.{most_bytes}
use Rattle.record.proofs.Any.{any_inside, reads_any}
use Rattle.report.specs.Reports.{report_text}
use Rattle.judge.specs.declared.stepping.Step.{Step}
use Rattle.judge.specs.declared.stepping.Step.TheVariants.{Judged, Stopped, Wait, End, Short}
use Rattle.judge.specs.Steps.{verdict_read, is_final, StepLeaves, step_leaves, report_choices, step_by, step_call, taken_by, written_by}

-- a step in its window and its place
abbrev Inside : List ℕ → List ℕ → StepLeaves → Type 0
Inside window out leaves = (taken_by leaves.step ≤ length window) × (written_by leaves.step ≤ length out) × (length leaves.out ≡ length out)

-- a step whose report has room
inside : (window report out : List ℕ) (step : Step) → taken_by step ≤ length window → written_by step ≤ length report → written_by step ≤ length out
    → Inside window out (step_leaves step (take (written_by step) report ++ drop (written_by step) out))
inside window report out step taken all room =
    (taken, room, simp (length-append, length-drop, length-take-le (written_by step) report all) (omega arith))

-- any step
pub step_inside : (window : List ℕ) (ended : Bool) (number : ℕ) (out : List ℕ) → Inside window out (step_call window ended number out)
unfolding step_call step_by
step_inside window ended number out =
    go (eqb (length window) 0 && ended) (eqb (length window) 0 || not (is_final window ended)) (leb (length text) (length out)) (is_done (read_any window).answer) refl refl
  where
    text : List ℕ
    text = report_text number (verdict_read (read_any window))

    go : (e w t d : Bool) → leb (length text) (length out) ≡ t → is_done (read_any window).answer ≡ d
        → let step = first (Judged (verdict_read (read_any window)) (read_any window).taken (length text))
        (End when e ∷ Wait when w ∷ Short when not t ∷ Stopped (read_any window).line (read_any window).column (length text) when not d ∷ []) in
        Inside window out (step_leaves step (take (written_by step) text ++ drop (written_by step) out))
    go true w t d f g = (omega arith, omega arith, refl)
    go false true t d f g = (omega arith, omega arith, refl)
    go false false false d f g = (omega arith, omega arith, refl)
    go false false true true f g =
        inside window text out (Judged (verdict_read (read_any window)) (read_any window).taken (length text))
        (any_inside window (done_is (read_any window).answer g)).1 (omega arith) (leb-true (length text) (length out) f)
    go false false true false f g =
        inside window text out (Stopped (read_any window).line (read_any window).column (length text)) (omega arith) (omega arith) (leb-true (length text) (length out) f)

-- a window that wants more is empty, or ended too early
wants_more : (window : List ℕ) (ended : Bool) (number : ℕ) (out : List ℕ) → (step_call window ended number out).step ≡ Wait → ((read_any window).early ≡ true) × (ended ≡ false)
unfolding step_call step_by refused_at
wants_more window ended number out =
    go (eqb (length window) 0) ended (read_any window).early (is_done (read_any window).answer) (leb (length text) (length out)) refl refl
  where
    text : List ℕ
    text = report_text number (verdict_read (read_any window))

    empty : (x : List ℕ) → length x ≡ 0 → (read_any x).early ≡ true
    empty [] e = ap (λ (r : Reading). r.early) reads_any.nothing
    empty (c ∷ x) e = absurd (omega arith)

    go : (e s m d t : Bool) → eqb (length window) 0 ≡ e → (read_any window).early ≡ m
        → first (Judged (verdict_read (read_any window)) (read_any window).taken (length text))
        (End when (e && s) ∷ Wait when (e || not (s || not m)) ∷ Short when not t ∷ Stopped (read_any window).line (read_any window).column (length text) when not d ∷ [])
        ≡ Wait
        → ((read_any window).early ≡ true) × (s ≡ false)
    go true false m d t f g w = (empty window (eqb-true (length window) 0 f), refl)
    go false false true d t f g w = (g, refl)
    go true true m d t f g w = let z : ◌≡◌ {A = ℕ} 0 1 = cc in absurd (omega arith)
    go false true m true true f g w = let z : ◌≡◌ {A = ℕ} 0 1 = cc in absurd (omega arith)
    go false true m true false f g w = let z : ◌≡◌ {A = ℕ} 0 1 = cc in absurd (omega arith)
    go false true m false true f g w = let z : ◌≡◌ {A = ℕ} 0 1 = cc in absurd (omega arith)
    go false true m false false f g w = let z : ◌≡◌ {A = ℕ} 0 1 = cc in absurd (omega arith)
    go false false false true true f g w = let z : ◌≡◌ {A = ℕ} 0 1 = cc in absurd (omega arith)
    go false false false true false f g w = let z : ◌≡◌ {A = ℕ} 0 1 = cc in absurd (omega arith)
    go false false false false true f g w = let z : ◌≡◌ {A = ℕ} 0 1 = cc in absurd (omega arith)
    go false false false false false f g w = let z : ◌≡◌ {A = ℕ} 0 1 = cc in absurd (omega arith)

-- a step that waits has less than the most bytes of a record
pub short_window : (window : List ℕ) (ended : Bool) (number : ℕ) (out : List ℕ) → (step_call window ended number out).step ≡ Wait → length window < most_bytes Two
short_window window ended number out e = reads_any.short window (wants_more window ended number out e).0

-- a step waits exactly where the input has not ended and the window can still become a record
pub step_waits : (window : List ℕ) (ended : Bool) (number : ℕ) (out : List ℕ)
    → ((step_call window ended number out).step ≡ Wait) ↔ ((ended ≡ false) × (BegunAny window → ⊥) × ((more : List ℕ) × BegunAny (window ++ more)))
unfolding step_call step_by
step_waits window ended number out = (
  λ e.
      let w = wants_more window ended number out e in
      let can = (reads_any.early window).0 w.0 in
      (w.1, can.0, can.1),
  λ (open-yet, none, more). go (eqb (length window) 0) ended (read_any window).early open-yet ((reads_any.early window).1 (none, more)),
)
  where
    text : List ℕ
    text = report_text number (verdict_read (read_any window))

    go : (e s m : Bool) → s ≡ false → m ≡ true → first (Judged (verdict_read (read_any window)) (read_any window).taken (length text))
        (End when (e && s) ∷ Wait when (e || not (s || not m)) ∷ report_choices (read_any window) number (length out)) ≡ Wait
    go e true m f g = absurd (false≢true (sym f))
    go e false false f g = absurd (false≢true g)
    go true false true f g = refl
    go false false true f g = refl
