-- One step of the program: from a window of the input to a report, and the whole output of an input.
use Rattle.std.specs.Prelude.{Bool, cond, not, ◌&&◌, ◌||◌, List, [], ◌∷◌, ◌++◌, ℕ, zero, suc, ◌+◌, eqb, leb, length, take, drop}
use Rattle.answers.specs.Numbers.{is_done}
use Rattle.answers.specs.Order.{Choice, ◌when◌, first}
use Rattle.record.specs.Calls.{Reading, read_any}
use Rattle.report.specs.declared.Verdict.{Verdict}
use Rattle.report.specs.declared.Verdict.TheVariants.{Unread}
use Rattle.report.specs.Reports.{report_text}
use Rattle.judge.specs.declared.stepping.Step.{Step}
use Rattle.judge.specs.declared.stepping.Step.TheVariants.{Judged, Stopped, Wait, End, Short}
use Rattle.judge.specs.Verdicts.{verdict_on}

-- the verdict on what was read
unfoldable pub verdict_read : Reading → Verdict
verdict_read reading = cond (is_done reading.answer) (verdict_on reading.content) (Unread reading.line reading.column)

-- ---- one step

-- what was read is final: the input has ended, or no more of it can make a record of what is broken
abbrev pub is_final_in : Reading → Bool → Bool
is_final_in reading ended = ended || not reading.early

-- what a window tells is final
abbrev pub is_final : List ℕ → Bool → Bool
is_final window ended = is_final_in (read_any window) ended

-- a step, and what the place of the report then holds
pub record StepLeaves : Type 0 where
  pub step : Step
  pub out : List ℕ

abbrev pub step_leaves : Step → List ℕ → StepLeaves
step_leaves step out = record { step = step; out = out }

-- how many bytes of the window a step takes
abbrev pub taken_by : Step → ℕ
taken_by (Judged verdict taken written) = taken
taken_by (Stopped line column written) = 0
taken_by Wait = 0
taken_by End = 0
taken_by Short = 0

-- how many bytes of the place its report has
abbrev pub written_by : Step → ℕ
written_by (Judged verdict taken written) = written
written_by (Stopped line column written) = written
written_by Wait = 0
written_by End = 0
written_by Short = 0

-- a report on what was read, and so much room: there is no room for it, or what stands there can not be read
abbrev pub report_choices : Reading → ℕ → ℕ → List (Choice Step)
report_choices reading number room =
    let size = length (report_text number (verdict_read reading)) in
    Short when not (leb size room) ∷ Stopped reading.line reading.column size when not (is_done reading.answer) ∷ []

-- the steps but a judged record, in their order, of what was read in so many bytes: the input has ended, more of it is wanted, then those of a report
abbrev pub step_choices : Reading → ℕ → Bool → ℕ → ℕ → List (Choice Step)
step_choices reading size ended number room =
    End when (eqb size 0 && ended) ∷ Wait when (eqb size 0 || not (is_final_in reading ended)) ∷ report_choices reading number room

-- the first choice that holds, and else a record was judged; the place then begins with as many bytes of the report as were written
unfoldable pub step_by : Reading → ℕ → List ℕ → List (Choice Step) → StepLeaves
step_by reading number out choices =
    let report = report_text number (verdict_read reading) in
    let step = first (Judged (verdict_read reading) reading.taken (length report)) choices in
    step_leaves step (take (written_by step) report ++ drop (written_by step) out)

-- a step on a window
unfoldable pub step_call : List ℕ → Bool → ℕ → List ℕ → StepLeaves
step_call window ended number out =
    let reading = read_any window in
    step_by reading number out (step_choices reading (length window) ended number (length out))

-- ---- the whole output

-- the verdicts on an input's records, in at most `steps` steps: the first record that can not be read is the last
abbrev pub verdicts_in : ℕ → List ℕ → List Verdict
verdicts_in zero text = []
verdicts_in (suc steps) text =
    cond (eqb (length text) 0) []
    (verdict_read (read_any text) ∷ cond (is_done (read_any text).answer) (verdicts_in steps (drop (read_any text).taken text)) [])

-- the verdicts on an input's records: no more steps than bytes
unfoldable pub verdicts_of : List ℕ → List Verdict
verdicts_of text = verdicts_in (length text) text

-- the reports on verdicts, counted up from a number
abbrev pub reports_from : ℕ → List Verdict → List ℕ
reports_from number [] = []
reports_from number (verdict ∷ verdicts) = report_text number verdict ++ reports_from (number + 1) verdicts

-- the output of the program
unfoldable pub output_from : ℕ → List ℕ → List ℕ
output_from number text = reports_from number (verdicts_of text)
