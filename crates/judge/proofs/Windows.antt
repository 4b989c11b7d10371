-- A final window tells what the whole input tells.
use mathlib.Core.Path.{◌≡◌, refl, sym, ap, ◌∙◌}
use mathlib.Core.Bool.{Bool, true, false, cond, not}
use mathlib.Core.List.{List, [], ◌∷◌, ◌++◌}
use Prim.Native.Nat.{ℕ, ◌≤◌}
use native.Mathlib.Omega.{arith}
use lib.ListN.{length, take, drop, take-append-drop}
use lib.Seq.{take_all, take-length}
use borrow.Author.Tests.{le-leb, ne_eqb, not-true}
use Rattle.answers.specs.Numbers.{is_done}
use Rattle.answers.specs.Order.{◌when◌, first}
use Rattle.record.specs.Calls.{read_any}
use Rattle.record.proofs.Any.{reads_any}
use Rattle.report.specs.Reports.{report_text}
use Rattle.judge.specs.declared.stepping.Step.{Step}
use Rattle.judge.specs.declared.stepping.Step.TheVariants.{Judged, Stopped}
use Rattle.judge.specs.Steps.{verdict_read, is_final, step_leaves, step_by, step_call, written_by}

-- a beginning of the input that is a final window is read as the input is
pub final_window : (text : List ℕ) (size : ℕ) (ended : Bool) → (ended ≡ true → length text ≤ size) → is_final (take size text) ended ≡ true
    → read_any (take size text) ≡ read_any text
final_window text size true all e = ap read_any (take_all size text (all refl))
final_window text size false all e =
    sym (reads_any.decided (take size text) (drop size text) (not-true _ e)) ∙ ap read_any (take-append-drop size text)

-- a step on a final window gives the report on what the whole input begins with
pub final_step : (text : List ℕ) (size : ℕ) (ended : Bool) (number : ℕ) (out : List ℕ) → (ended ≡ true → length text ≤ size) → 1 ≤ length (take size text)
    → is_final (take size text) ended ≡ true
    → let report = report_text number (verdict_read (read_any text)) in
    length report ≤ length out
    → step_call (take size text) ended number out
    ≡ step_leaves (cond (is_done (read_any text).answer) (Judged (verdict_read (read_any text)) (read_any text).taken (length report)) (Stopped (read_any text).line (read_any text).column (length report))) (report ++ drop (length report) out)
unfolding step_call step_by
final_step text size ended number out all some final room =
    rw (
      ne_eqb (length (take size text)) 0 (omega arith),
      final,
      final_window text size ended all final,
      le-leb (length (report_text number (verdict_read (read_any text)))) (length out) room,
    )
    (go (is_done (read_any text).answer))
  where
    report : List ℕ
    report = report_text number (verdict_read (read_any text))

    judged : Step
    judged = Judged (verdict_read (read_any text)) (read_any text).taken (length report)

    stopped : Step
    stopped = Stopped (read_any text).line (read_any text).column (length report)

    go : (done : Bool) → let step = first judged (stopped when not done ∷ []) in
        step_leaves step (take (written_by step) report ++ drop (written_by step) out) ≡ step_leaves (cond done judged stopped) (report ++ drop (length report) out)
    go true = rw take-length
    go false = rw take-length
