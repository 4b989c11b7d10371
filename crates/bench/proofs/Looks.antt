-- What a step on the window makes of the places is what the program's run makes of its window.
use mathlib.Core.Path.{◌≡◌, refl, sym, ap, subst⁻¹, ◌∙◌}
use mathlib.Core.Bool.{Bool, true, false, cond}
use mathlib.Core.List.{List, ◌++◌}
use Prim.Native.Nat.{ℕ, ◌+◌, ◌-◌, ◌≤◌, ◌<◌}
use native.Mathlib.Omega.{arith}
use lib.Dec.{eqb, leb}
use lib.ListN.{length, take, drop, length-append, length-drop}
use lib.Seq.{length-take-le, take-length, take-append_seam}
use borrow.Author.Tests.{eq-eqb, ne_eqb, le-leb}
use Rattle.record.specs.declared.form.Form.TheVariants.{Two}
use Rattle.record.specs.Text.{most_bytes}
use Rattle.answers.specs.Numbers.{is_done}
use Rattle.answers.proofs.Numbers.{done_is}
use Rattle.record.specs.Calls.{read_any}
use Rattle.record.proofs.Any.{any_refused, any_inside}
use Rattle.report.specs.declared.Verdict.{Verdict}
use Rattle.report.specs.declared.Verdict.TheVariants.{Unread}
use Rattle.report.specs.Reports.{report_text}
use Rattle.judge.specs.declared.stepping.Step.{Step}
use Rattle.judge.specs.declared.stepping.Step.TheVariants.{Judged, Stopped, Wait, End}
use Rattle.judge.specs.Steps.{verdict_read, is_final, StepLeaves, step_leaves, step_by, step_call, taken_by}
use Rattle.judge.proofs.Laws.{judges}
use Rattle.turns.specs.declared.Ending.TheVariants.{TooMany}
use Rattle.bench.specs.declared.progress.Progress.{Progress}
use Rattle.turns.specs.declared.Stage.{Stage}
use Rattle.turns.specs.declared.Stage.TheVariants.{Close, Read, Over}
use Rattle.turns.specs.Tallies.{counted_with, records_of, largest}
use Rattle.turns.specs.Run.{next, with_report, looked}
use Rattle.bench.specs.Progress.{doing, reporting, stepped, Takes, Sound, view}
use Rattle.turns.proofs.Tallies.{counted_more}
use Rattle.bench.proofs.Views.{drop_part, less}

-- what a step makes of the places: it takes no more than it may, it is what the run makes of its window, and the places stay within their bounds
pub record Looked (p : Progress) (buffer text : List ℕ) (step : Step) (after : List ℕ) : Type 0 where
  pub takes : Takes p step
  pub is : view (stepped p step) buffer after ≡ looked (view p buffer text)
  pub sound : Sound (stepped p step) buffer after

-- the places where only the stage changes
sound_doing : (p : Progress) (buffer text : List ℕ) → Sound p buffer text → (stage : Stage) → (stage ≡ Read → p.filled - p.start < most_bytes Two) → Sound (doing stage p) buffer text
sound_doing p buffer text sound stage reads =
    record {
      begins = sound.begins;
      inside = sound.inside;
      wide = sound.wide;
      room = reads;
      from_size = sound.from_size;
      size_text = sound.size_text;
      long = sound.long;
      few = sound.few;
    }

-- a record that can not be read was the last
pub closes : (p : Progress) (buffer text : List ℕ) → Sound p buffer text → (p.tally.unread ≡ 0 → ⊥)
    → Sound (doing Close p) buffer text × (view (doing Close p) buffer text ≡ looked (view p buffer text))
unfolding looked
closes p buffer text sound unread = (
  sound_doing p buffer text sound Close (λ e. let z : ◌≡◌ {A = ℕ} 0 1 = cc in absurd (omega arith)),
  rw (ne_eqb p.tally.unread 0 unread),
)

-- the next record has no number
pub gives_up : (p : Progress) (buffer text : List ℕ) → Sound p buffer text → p.tally.unread ≡ 0 → records_of p.tally + 1 ≡ largest
    → Sound (doing (Over TooMany) p) buffer text × (view (doing (Over TooMany) p) buffer text ≡ looked (view p buffer text))
unfolding looked
gives_up p buffer text sound unread numbers = (
  sound_doing p buffer text sound (Over TooMany) (λ e. let z : ◌≡◌ {A = ℕ} 0 1 = cc in absurd (omega arith)),
  rw (eq-eqb p.tally.unread 0 unread, eq-eqb (records_of p.tally + 1) largest numbers),
)

module _ (p : Progress) (buffer text : List ℕ) (sound : Sound p buffer text) (unread : p.tally.unread ≡ 0) (numbers : records_of p.tally + 1 ≡ largest → ⊥) where
  window : List ℕ
  window = take (p.filled - p.start) (drop p.start buffer)

  length_window : length window ≡ p.filled - p.start
  unfolding window
  length_window = length-take-le (p.filled - p.start) (drop p.start buffer) (omega (arith, length-drop p.start buffer, sound.begins, sound.inside))

  number : ℕ
  number = records_of p.tally + 1

  report : List ℕ
  report = report_text number (verdict_read (read_any window))

  -- the report has room
  room : length report ≤ 70
  unfolding report number
  room = judges.short window (records_of p.tally + 1) (omega (arith, sound.few))

  -- what the run makes of its window
  run_looks : looked (view p buffer text)
      ≡ cond (eqb (length window) 0) (next (cond p.ended Close Read) (view p buffer text))
      (cond (is_final window p.ended) (with_report (view p buffer text)) (next Read (view p buffer text)))
  unfolding looked window
  run_looks = rw (eq-eqb p.tally.unread 0 unread, ne_eqb (records_of p.tally + 1) largest numbers)

  -- the places behind a record
  sound_reporting : (verdict : Verdict) (taken written : ℕ) (after : List ℕ) → p.start + taken ≤ p.filled → written ≤ 70 → length after ≡ length text
      → Sound (reporting p verdict taken written) buffer after
  sound_reporting verdict taken written after h k same =
      record {
        begins = h;
        inside = sound.inside;
        wide = sound.wide;
        room = λ e. let z : ◌≡◌ {A = ℕ} 0 1 = cc in absurd (omega arith);
        from_size = omega arith;
        size_text = omega (arith, sound.long);
        long = omega (arith, sound.long);
        few = omega (arith, counted_more p.tally verdict, sound.few, numbers);
      }

  -- nothing is taken
  takes_none : (step : Step) → taken_by step ≡ 0 → Takes p step
  takes_none step e = record { inside = omega (arith, sound.begins); few = sound.few }

  -- no byte, and the input has ended
  ends : eqb (length window) 0 ≡ true → p.ended ≡ true → Looked p buffer text End text
  ends empty ended =
      record {
        takes = takes_none End refl;
        is = sym (run_looks ∙ rw (empty, ended));
        sound = sound_doing p buffer text sound Close (λ e. let z : ◌≡◌ {A = ℕ} 0 1 = cc in absurd (omega arith));
      }

  -- more is wanted
  waits : looked (view p buffer text) ≡ next Read (view p buffer text) → p.filled - p.start < most_bytes Two → Looked p buffer text Wait text
  waits e h = record { takes = takes_none Wait refl; is = sym e; sound = sound_doing p buffer text sound Read (λ z. h) }

  -- a report stands in the text
  reports : (taken : ℕ) (verdict : Verdict) → eqb (length window) 0 ≡ false → is_final window p.ended ≡ true → (read_any window).taken ≡ taken
      → counted_with p.tally (verdict_read (read_any window)) ≡ counted_with p.tally verdict → taken ≤ length window
      → (view (reporting p verdict taken (length report)) buffer (report ++ drop (length report) text) ≡ looked (view p buffer text))
      × Sound (reporting p verdict taken (length report)) buffer (report ++ drop (length report) text)
  unfolding window report number with_report
  reports taken verdict some final takes counts inside = (
    rw (
      less (length report),
      take-append_seam report (drop (length report) text),
      run_looks,
      some,
      final,
      counts,
      takes,
      drop_part taken p.filled p.start buffer (omega (arith, length_window)),
    ),
    sound_reporting verdict taken (length report) _ (omega (arith, length_window, sound.begins)) room
        (length-append report (drop (length report) text) ∙ omega (arith, length-drop (length report) text, room, sound.long)),
  )

  -- any step on the window
  pub looks : (step : Step) (after : List ℕ) → step_leaves step after ≡ step_call (take (p.filled - p.start) (drop p.start buffer)) p.ended (records_of p.tally + 1) text
      → Looked p buffer text step after
  unfolding window report number step_call step_by
  looks step after h = go (eqb (length window) 0) p.ended (is_final window p.ended) (is_done (read_any window).answer) refl refl refl refl
    where
      by_step : (s : Step) (l : List ℕ) → step_leaves step after ≡ step_leaves s l → Looked p buffer text s l → Looked p buffer text step after
      by_step s l e = subst⁻¹ (λ (leaves : StepLeaves). Looked p buffer text leaves.step leaves.out) e

      fits : leb (length report) (length text) ≡ true
      fits = le-leb (length report) (length text) (omega (arith, room, sound.long))

      waiting : step_leaves step after ≡ step_leaves Wait text → p.filled - p.start < most_bytes Two
      waiting e = omega (arith, length_window, judges.short_window window p.ended number text (sym (ap (λ (l : StepLeaves). l.step) h) ∙ ap (λ (l : StepLeaves). l.step) e))

      go : (e t f d : Bool) → eqb (length window) 0 ≡ e → p.ended ≡ t → is_final window p.ended ≡ f → is_done (read_any window).answer ≡ d → Looked p buffer text step after
      go true true f d ee et ef ed = by_step End text (h ∙ rw (ee, et)) (ends ee et)
      go true false f d ee et ef ed =
          let e : step_leaves step after ≡ step_leaves Wait text = h ∙ rw (ee, et) in
          by_step Wait text e (waits (run_looks ∙ rw (ee, et)) (waiting e))
      go false t false d ee et ef ed =
          let e : step_leaves step after ≡ step_leaves Wait text = h ∙ rw (ee, ef) in
          by_step Wait text e (waits (run_looks ∙ rw (ee, ef)) (waiting e))
      go false t true true ee et ef ed =
          let taken = (any_inside window (done_is (read_any window).answer ed)).1 in
          let both = reports (read_any window).taken (verdict_read (read_any window)) ee ef refl refl taken in
          by_step (Judged (verdict_read (read_any window)) (read_any window).taken (length report)) (report ++ drop (length report) text) (h ∙ rw (ee, ef, fits, ed, take-length))
          (record { takes = record { inside = both.1.begins; few = sound.few }; is = both.0; sound = both.1 })
      go false t true false ee et ef ed =
          let unread = ap (counted_with p.tally) (judges.unread window ed) in
          let both = reports 0 (Unread (read_any window).line (read_any window).column) ee ef (any_refused window ed) unread (omega arith) in
          by_step (Stopped (read_any window).line (read_any window).column (length report)) (report ++ drop (length report) text) (h ∙ rw (ee, ef, fits, ed, take-length))
          (record { takes = record { inside = both.1.begins; few = sound.few }; is = both.0; sound = both.1 })
