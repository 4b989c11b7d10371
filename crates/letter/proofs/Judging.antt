-- The verdict on a record, its report and the step of the bench: what is said of their calls holds.
use mathlib.Core.Path.{◌≡◌, refl, ap}
use mathlib.Core.Bool.{Bool, true, false, cond, not, ◌&&◌, ◌||◌}
use mathlib.Core.List.{List, [], ◌∷◌, ◌++◌}
use mathlib.Core.Logic.{◌⊎◌, inl, inr}
use Prim.Native.Nat.{ℕ}
use native.Mathlib.Omega.{arith}
use lib.ListN.{length, take, drop}
use lib.Seq.{take-length}
use lib.Dec.{eqb, leb}
use Rattle.answers.specs.declared.Answer.TheVariants.{Done, NoRoom}
use Rattle.answers.specs.Numbers.{number_of, is_done}
use Rattle.answers.specs.Order.{first, ◌when◌}
use Rattle.record.specs.declared.form.Record.{Record}
use Rattle.record.specs.Form.{held}
use Rattle.record.specs.Calls.{read_any}
use Rattle.report.specs.declared.Verdict.{Verdict}
use Rattle.report.specs.declared.Verdict.TheVariants.{Equal}
use Rattle.std.specs.Prelude.{Result, Ok, Err}
use Rattle.report.specs.declared.NoRoom.{NoRoom as Refusal}
use Rattle.report.specs.Reports.{Reported as Reporting, reported_of, report_text, ReportLeaves, report_leaves, report_faults, report_call}
use Rattle.judge.specs.declared.stepping.Step.{Step}
use Rattle.judge.specs.declared.stepping.Step.TheVariants.{Judged, Stopped, Wait, End, Short}
use Rattle.judge.specs.Verdicts.{differences, verdict_on}
use Rattle.judge.specs.Steps.{verdict_read, is_final, written_by, step_choices, step_by, step_call}
use Rattle.judge.proofs.Differences.{tells, told_same, told_at}
use Rattle.judge.proofs.Laws.{judges}
use Rattle.report.proofs as report
use Rattle.judge.proofs as judge
use Rattle.letter.specs.Calls.{lent, lent_mut}
use Rattle.letter.specs.Judging.{Model, ours, Keeps, EveryCall, Told, Listed, Unchanged, Reported}
use Rattle.letter.proofs.Calls as calls
use Rattle.letter.proofs.Calls.{answered, lifetimes, seen_as, Says, done_says, says}

-- ---- the calls

-- what reporting answers is seen of a result
report_shown : (number : ℕ) (verdict : Verdict) (out : List ℕ) → (r : Result ℕ Refusal) × (reported_of r ≡ (report_call number verdict out).outcome)
unfolding report_call
report_shown number verdict out = go (leb (length (report_text number verdict)) (length out))
  where
    go : (room : Bool) → let answer = first Done (NoRoom when not room ∷ []) in
        (r : Result ℕ Refusal)
        × (reported_of r
        ≡ (cond (is_done answer) (report_leaves (record { answer = Done; written = length (report_text number verdict) }) (report_text number verdict ++ drop (length (report_text number verdict)) out))
        (report_leaves (record { answer = answer; written = 0 }) out)).outcome)
    go true = (Ok (length (report_text number verdict)), refl)
    go false = (Err (record {}), refl)

-- calls that keep the contracts are ours
pub is_ours : (m : Model) → Keeps m → m ≡ ours
is_ours m k =
    λ j. record {
      difference = λ wanted found. k.difference (lent wanted) (lent found) (lifetimes 2) j;
      differ = λ wanted found. k.differ wanted found tt j;
      judge = λ entry. k.judge entry tt j;
      report = λ number verdict out. seen_as (λ w. report_leaves w (m.report number verdict out).out) (k.report number verdict (lent_mut out) (lifetimes 1)) j;
      step = λ window over number out. k.step (lent window) over number (lent_mut out) (lifetimes 2) j;
    }

-- and ours keep them
pub keeps : Keeps ours
keeps =
    record {
      difference = λ wanted found κ. refl;
      differ = λ wanted found κ. refl;
      judge = λ entry κ. refl;
      report = λ number verdict out κ. let s = report_shown number verdict out.now in (s.0, (s.1, ap (λ w. report_leaves w (report_call number verdict out.now).out) s.1));
      step = λ window over number out κ. refl;
    }

-- each is answered
pub every_call : EveryCall
every_call =
    record {
      report_report = answered (λ M. report.report.Met.met) (λ κ a. tt) (λ κ a r e p. p);
      judge_first_difference = answered (λ M. judge.first_difference.Met.met) (λ κ a. tt) (λ κ a r e p. p);
      judge_difference_tail = answered (λ M. judge.difference_tail.Met.met) (λ κ a. tt) (λ κ a r e p. p);
      judge_compare = answered (λ M. judge.compare.Met.met) (λ κ a. tt) (λ κ a r e p. p);
      judge_compare_read = λ κs wanted found r e. refl;
      judge_fields_differ = answered (λ M. judge.fields_differ.Met.met) (λ κ a. tt) (λ κ a r e p. p);
      judge_judge = answered (λ M. judge.judge.Met.met) (λ κ a. tt) (λ κ a r e p. p);
      judge_judge_window = answered (λ M. judge.judge_window.Met.met) (λ κ a. tt) (λ κ a r e p. p);
    }

-- what is seen tells the result
pub told : Told
told = record { report = calls.told (λ (q : Reporting). cond (is_done q.answer) (Ok q.written) (Err (record {}))) (elim [ Ok size ↦ refl | Err refusal ↦ refl ]) }

-- ---- what they answer, and what is left without a report

-- a report, by its one test
report_said : (number : ℕ) (verdict : Verdict) (out : List ℕ) → let leaves = report_call number verdict out in
    Says leaves.outcome.answer (first Done (report_faults number verdict (length out))) ((leaves.out ≡ out) × (leaves.outcome.written ≡ 0))
unfolding report_call
report_said number verdict out = go (leb (length (report_text number verdict)) (length out))
  where
    done : ReportLeaves
    done =
        let text = report_text number verdict in
        report_leaves (record { answer = Done; written = length text }) (text ++ drop (length text) out)

    go : (room : Bool) → let answer = first Done (NoRoom when not room ∷ []) in
        let leaves = cond (is_done answer) done (report_leaves (record { answer = answer; written = 0 }) out) in
        Says leaves.outcome.answer answer ((leaves.out ≡ out) × (leaves.outcome.written ≡ 0))
    go true = done_says _ _ refl
    go false = says _ _ (refl, refl)

-- a verdict
judge_said : (r : Record) → verdict_on r ≡ first Equal (differences r)
unfolding verdict_on
judge_said r = refl

-- a step
step_said : (window : List ℕ) (over : Bool) (number : ℕ) (out : List ℕ) → let reading = read_any window in
    let size = length (report_text number (verdict_read reading)) in
    (step_call window over number out).step ≡ first (Judged (verdict_read reading) reading.taken size) (step_choices reading (length window) over number (length out))
unfolding step_call step_by
step_said window over number out = refl

-- a step without a report keeps the place
step_kept : (window : List ℕ) (over : Bool) (number : ℕ) (out : List ℕ) → let leaves = step_call window over number out in
    (leaves.step ≡ End) ⊎ ((leaves.step ≡ Wait) ⊎ (leaves.step ≡ Short)) → leaves.out ≡ out
unfolding step_call step_by
step_kept window over number out = go
  where
    step : Step
    step = (step_call window over number out).step

    text : List ℕ
    text = report_text number (verdict_read (read_any window))

    go : (step ≡ End) ⊎ ((step ≡ Wait) ⊎ (step ≡ Short)) → take (written_by step) text ++ drop (written_by step) out ≡ out
    go (inl e) = ap (λ (s : Step). take (written_by s) text ++ drop (written_by s) out) e
    go (inr (inl e)) = ap (λ (s : Step). take (written_by s) text ++ drop (written_by s) out) e
    go (inr (inr e)) = ap (λ (s : Step). take (written_by s) text ++ drop (written_by s) out) e

-- each answer is listed
pub listed : Listed read_any ours
listed =
    record {
      judge = judge_said;
      equal = judges.equal;
      same = told_same;
      at = told_at;
      alike = λ wanted found. (tells (held wanted) (held found)).same;
      report = λ number verdict out. (report_said number verdict out).is;
      step = step_said;
    }

-- each refusal changes nothing
pub unchanged : Unchanged ours
unchanged =
    record {
      report = λ number verdict out. (report_said number verdict out).kept;
      step = step_kept;
    }

-- ---- what is written

-- a report written
report_reports : (number : ℕ) (verdict : Verdict) (out : List ℕ) → let leaves = report_call number verdict out in
    let text = report_text number verdict in
    leaves.outcome.answer ≡ Done → (leaves.outcome.written ≡ length text) × (leaves.out ≡ text ++ drop (length text) out)
unfolding report_call
report_reports number verdict out = go (leb (length text) (length out))
  where
    text : List ℕ
    text = report_text number verdict

    go : (room : Bool) → let answer = first Done (NoRoom when not room ∷ []) in
        let leaves = cond (is_done answer) (report_leaves (record { answer = Done; written = length text }) (text ++ drop (length text) out))
        (report_leaves (record { answer = answer; written = 0 }) out) in
        leaves.outcome.answer ≡ Done → (leaves.outcome.written ≡ length text) × (leaves.out ≡ text ++ drop (length text) out)
    go true e = (refl, refl)
    go false e = absurd (let z : ◌≡◌ {A = ℕ} 6 0 = ap number_of e in omega arith)

-- a step that has a report
step_reports : (window : List ℕ) (over : Bool) (number : ℕ) (out : List ℕ) → let leaves = step_call window over number out in
    let text = report_text number (verdict_read (read_any window)) in
    ((leaves.step ≡ End) ⊎ ((leaves.step ≡ Wait) ⊎ (leaves.step ≡ Short)) → ⊥) → leaves.out ≡ text ++ drop (length text) out
unfolding step_call step_by
step_reports window over number out =
    go (eqb (length window) 0 && over) (eqb (length window) 0 || not (is_final window over)) (leb (length text) (length out)) (is_done (read_any window).answer)
  where
    text : List ℕ
    text = report_text number (verdict_read (read_any window))

    go : (over more room done : Bool)
        → let step = first (Judged (verdict_read (read_any window)) (read_any window).taken (length text))
        (End when over ∷ Wait when more ∷ Short when not room ∷ Stopped (read_any window).line (read_any window).column (length text) when not done ∷ []) in
        ((step ≡ End) ⊎ ((step ≡ Wait) ⊎ (step ≡ Short)) → ⊥) → take (written_by step) text ++ drop (written_by step) out ≡ text ++ drop (length text) out
    go true more room done other = absurd (other (inl refl))
    go false true room done other = absurd (other (inr (inl refl)))
    go false false false done other = absurd (other (inr (inr refl)))
    go false false true true other = rw take-length
    go false false true false other = rw take-length

-- what each reports and leaves
pub reported : Reported read_any ours
reported =
    record {
      report = report_reports;
      step = step_reports;
    }
