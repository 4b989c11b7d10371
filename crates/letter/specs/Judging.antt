-- The first difference of two texts, the verdict on a record, its report and the step of the bench: all that is said of their calls.
use Rattle.std.specs.Prelude.{◌≡◌, Bool, false, List, ◌++◌, ◌↔◌, ◌⊎◌, ℕ, length, drop, Option, Some, None}
use contract.Lifetimes.{Lfts}
use Rattle.answers.specs.declared.Answer.TheVariants.{Done}
use Rattle.answers.specs.Order.{first}
use Rattle.record.specs.declared.field.Field.{Field}
use Rattle.record.specs.declared.form.Record.{Record}
use Rattle.record.specs.Calls.{Reading}
use Rattle.record.specs.Form.{held}
use Rattle.report.specs.declared.Verdict.{Verdict}
use Rattle.report.specs.declared.Verdict.TheVariants.{Equal}
use Rattle.report.specs.Reports.{Reported as Reporting, reported_of, report_text, ReportLeaves, report_leaves, report_faults, report_call}
use Rattle.judge.specs.declared.stepping.Step.TheVariants.{Judged, Wait, End, Short}
use Rattle.judge.specs.declared.difference.Comparison.{Comparison}
use Rattle.judge.specs.Difference.{differ, difference_of, part_of, difference_part, comparison_of, comparison}
use Rattle.judge.specs.Laws.{Agrees, DiffersFirstAt}
use Rattle.judge.specs.Verdicts.{verdict_on, differences}
use Rattle.judge.specs.Steps.{verdict_read, StepLeaves, step_leaves, step_choices, step_call}
use Rattle.report.proofs as report-crate
use Rattle.judge.proofs as judge-crate
use Rattle.letter.specs.Calls.{Answered, Lent, LentMut, holding, Leaves, Gives, Seen, Tells, Refused}

-- ---- the calls

-- what each answers, and what it leaves in a lent place, on any input
pub record Model : Type 0 where
  pub difference : List ℕ → List ℕ → Option ℕ
  pub differ : Field → Field → Bool
  pub judge : Record → Verdict
  pub report : ℕ → Verdict → List ℕ → ReportLeaves
  pub step : List ℕ → Bool → ℕ → List ℕ → StepLeaves

-- our own, by the definitions that the contracts cite
abbrev pub ours : Model
ours = record { difference = difference_of; differ = λ wanted found. differ (held wanted) (held found); judge = verdict_on; report = report_call; step = step_call }

-- what a caller learns from the contract of `report`, of what a reporting is seen as
abbrev pub report_learnt : Lfts 1 → ℕ × (Verdict × (LentMut × Unit {0})) → Reporting → ℕ × (Verdict × (LentMut × Unit {0})) → Type 0
report_learnt = Seen reported_of report-crate.report.Reads.Learnt

-- each gives what the contract of the code allows
pub record Keeps (m : Model) : Type 0 where
  pub difference : (wanted found : Lent) → Gives judge-crate.first_difference.Reads.Learnt (wanted, (found, tt)) (m.difference wanted.now found.now)
  pub differ : (wanted found : Field) → Gives judge-crate.fields_differ.Reads.Learnt (wanted, (found, tt)) (m.differ wanted found)
  pub judge : (entry : Record) → Gives judge-crate.judge.Reads.Learnt (entry, tt) (m.judge entry)
  pub report : (number : ℕ) (verdict : Verdict) (out : LentMut) → let leaves = m.report number verdict out.now in
      Leaves report_learnt (number, (verdict, (out, tt))) leaves.outcome (number, (verdict, (holding out leaves.out, tt)))
  pub step : (window : Lent) (over : Bool) (number : ℕ) (out : LentMut) → let leaves = m.step window.now over number out.now in
      Leaves judge-crate.judge_window.Reads.Learnt (window, (over, (number, (out, tt)))) leaves.step (window, (over, (number, (holding out leaves.out, tt))))

-- what `compare` asks of its caller, and what a caller learns from its contract; its result is a struct that holds a reference
abbrev pub compare_asked : Lfts 2 → Lent × (Lent × Unit {0}) → Type 0
compare_asked = judge-crate.compare.Reads.Asked

abbrev pub compare_learnt : Lfts 2 → Lent × (Lent × Unit {0}) → Comparison → Lent × (Lent × Unit {0}) → Type 0
compare_learnt = judge-crate.compare.Reads.Learnt

-- each public call, and its one outcome
pub record EveryCall : Type 2 where
  pub report_report : Answered report-crate.report.Statement.statement report-crate.report.Reads.Asked report-crate.report.Reads.Learnt
      (λ r (number, (verdict, (out, _))). report_leaves (reported_of r) out.now) (λ (number, (verdict, (out, _))). report_call number verdict out.now)
  pub judge_first_difference : Answered judge-crate.first_difference.Statement.statement judge-crate.first_difference.Reads.Asked
      judge-crate.first_difference.Reads.Learnt (λ r e. r) (λ (wanted, (found, _)). difference_of wanted.now found.now)
  pub judge_difference_tail : Answered judge-crate.difference_tail.Statement.statement judge-crate.difference_tail.Reads.Asked judge-crate.difference_tail.Reads.Learnt
      (λ r e. part_of r) (λ (wanted, (found, _)). difference_part wanted.now found)
  pub judge_compare : Answered judge-crate.compare.Statement.statement compare_asked compare_learnt
      (λ r e. comparison_of r) (λ (wanted, (found, _)). comparison wanted.now found)
  -- what is read off the contract of `compare` is its equation, no more and no less
  pub judge_compare_read : (κs : Lfts 2) (wanted found : Lent) (r : Comparison) (e : Lent × (Lent × Unit {0}))
      → compare_learnt κs (wanted, (found, tt)) r e ≡ (comparison_of r ≡ comparison wanted.now found)
  pub judge_fields_differ : Answered judge-crate.fields_differ.Statement.statement judge-crate.fields_differ.Reads.Asked judge-crate.fields_differ.Reads.Learnt
      (λ r e. r) (λ (wanted, (found, _)). differ (held wanted) (held found))
  pub judge_judge : Answered judge-crate.judge.Statement.statement judge-crate.judge.Reads.Asked judge-crate.judge.Reads.Learnt (λ r e. r) (λ (entry, _). verdict_on entry)
  pub judge_judge_window : Answered judge-crate.judge_window.Statement.statement judge-crate.judge_window.Reads.Asked judge-crate.judge_window.Reads.Learnt
      (λ r (window, (over, (number, (out, _)))). step_leaves r out.now) (λ (window, (over, (number, (out, _)))). step_call window.now over number out.now)

-- what is seen of a reporting tells its result
pub record Told : Type 0 where
  pub report : Tells reported_of

-- ---- what they answer

-- each answer is the first whose condition holds, by what is read; `equal`, `same` and `at` are said without a list
pub record Listed (read : List ℕ → Reading) (m : Model) : Type 0 where
  pub judge : (r : Record) → m.judge r ≡ first Equal (differences r)
  -- equal exactly where the record is in form and rounds, cipher and tag are those of our own sealing
  pub equal : (r : Record) → (m.judge r ≡ Equal) ↔ Agrees r
  -- two texts have no first difference exactly where they are one list, and it is at a place exactly where they differ first there
  pub same : (wanted found : List ℕ) → (m.difference wanted found ≡ None) ↔ (wanted ≡ found)
  pub at : (wanted found : List ℕ) (place : ℕ) → (m.difference wanted found ≡ Some place) ↔ DiffersFirstAt wanted found place
  -- two fields do not differ exactly where they hold the same bytes, as many and each the same
  pub alike : (wanted found : Field) → (m.differ wanted found ≡ false) ↔ (held wanted ≡ held found)
  pub report : (number : ℕ) (verdict : Verdict) (out : List ℕ)
      → (m.report number verdict out).outcome.answer ≡ first Done (report_faults number verdict (length out))
  pub step : (window : List ℕ) (over : Bool) (number : ℕ) (out : List ℕ) → let reading = read window in
      let size = length (report_text number (verdict_read reading)) in
      (m.step window over number out).step
      ≡ first (Judged (verdict_read reading) reading.taken size) (step_choices reading (length window) over number (length out))

-- ---- what they leave

-- a refusal changes no lent byte, nor does a step without a report
pub record Unchanged (m : Model) : Type 0 where
  pub report : (number : ℕ) (verdict : Verdict) (out : List ℕ) → let leaves = m.report number verdict out in
      Refused leaves.outcome.answer → (leaves.out ≡ out) × (leaves.outcome.written ≡ 0)
  pub step : (window : List ℕ) (over : Bool) (number : ℕ) (out : List ℕ) → let leaves = m.step window over number out in
      (leaves.step ≡ End) ⊎ ((leaves.step ≡ Wait) ⊎ (leaves.step ≡ Short)) → leaves.out ≡ out

-- done: a report that is written stands at the beginning of its place, the bytes beyond it stay, and its length is told
pub record Reported (read : List ℕ → Reading) (m : Model) : Type 0 where
  pub report : (number : ℕ) (verdict : Verdict) (out : List ℕ) → let leaves = m.report number verdict out in
      let text = report_text number verdict in
      leaves.outcome.answer ≡ Done → (leaves.outcome.written ≡ length text) × (leaves.out ≡ text ++ drop (length text) out)
  -- so does the report of a step that has one; its length is in `Listed`
  pub step : (window : List ℕ) (over : Bool) (number : ℕ) (out : List ℕ) → let leaves = m.step window over number out in
      let text = report_text number (verdict_read (read window)) in
      ((leaves.step ≡ End) ⊎ ((leaves.step ≡ Wait) ⊎ (leaves.step ≡ Short)) → ⊥) → leaves.out ≡ text ++ drop (length text) out
