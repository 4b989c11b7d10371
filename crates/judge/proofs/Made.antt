-- The step that is made of a report.
use mathlib.Core.Path.{◌≡◌, refl, sym, ap, ◌∙◌}
use mathlib.Core.Bool.{Bool, true, false, cond, not}
use mathlib.Core.List.{List, [], ◌∷◌, ◌++◌}
use Prim.Native.Nat.{ℕ}
use lib.Dec.{leb}
use lib.ListN.{length, drop}
use lib.Seq.{take-length}
use Rattle.answers.specs.declared.Answer.TheVariants.{Done, NoRoom}
use Rattle.answers.specs.Numbers.{is_done}
use Rattle.answers.specs.Order.{◌when◌, first}
use Rattle.record.specs.Calls.{Reading}
use Rattle.report.specs.declared.Verdict.{Verdict}
use Rattle.report.specs.Reports.{report_text, ReportLeaves, report_leaves, report_call}
use Rattle.judge.specs.declared.stepping.Step.TheVariants.{Judged, Stopped, Short}
use Rattle.judge.specs.Steps.{verdict_read, StepLeaves, step_leaves, report_choices, step_by}

-- the step that the code makes of a report
abbrev pub made : Reading → ReportLeaves → StepLeaves
made reading leaves =
    let size = leaves.outcome.written in
    step_leaves
    (cond (is_done leaves.outcome.answer) (cond (is_done reading.answer) (Judged (verdict_read reading) reading.taken size) (Stopped reading.line reading.column size)) Short)
    leaves.out

-- it is the first choice that holds
made_first : (reading : Reading) (number : ℕ) (out : List ℕ)
    → step_by reading number out (report_choices reading number (length out)) ≡ made reading (report_call number (verdict_read reading) out)
unfolding step_by report_call
made_first reading number out = go (leb (length text) (length out)) (is_done reading.answer) refl
  where
    text : List ℕ
    text = report_text number (verdict_read reading)

    report : Bool → ReportLeaves
    report room =
        let answer = first Done (NoRoom when not room ∷ []) in
        cond (is_done answer) (report_leaves (record { answer = Done; written = length text }) (text ++ drop (length text) out))
        (report_leaves (record { answer = answer; written = 0 }) out)

    go : (room done : Bool) → is_done reading.answer ≡ done
        → step_by reading number out (Short when not room ∷ Stopped reading.line reading.column (length text) when not done ∷ []) ≡ made reading (report room)
    go true true e = rw (e, take-length)
    go true false e = rw (e, take-length)
    go false done e = refl

-- so is the step of a report on the verdict
pub by_report : (reading : Reading) (number : ℕ) (out : List ℕ) (verdict : Verdict) (leaves : ReportLeaves) → verdict ≡ verdict_read reading → leaves ≡ report_call number verdict out
    → step_by reading number out (report_choices reading number (length out)) ≡ made reading leaves
by_report reading number out verdict leaves v l = made_first reading number out ∙ ap (made reading) (sym (l ∙ ap (λ (v : Verdict). report_call number v out) v))
