use Rattle.std.proofs.Common.{arith, ◌≡◌, sym, ap, ◌∙◌, Bool, List, [], ℕ, suc, ◌+◌, ◌≤◌, ◌<◌, length, drop, add-zero, Ok, Err}
use Rattle.std.proofs.Math.ListN.{drop_of_length-le}
use Rattle.std.proofs.Math.Seq.{drop-drop}
use Rattle.std.proofs.lemmas.List.{length-drop}
use Rattle.stream.specs.declared.Stream.{Stream}
use Rattle.replay.specs.declared.window.Agreed.{Agreed}
use Rattle.replay.specs.declared.window.Stretch.{Stretch}
use Rattle.replay.specs.declared.window.Verdict.{Verdict}
use Rattle.replay.specs.Replays.{SteppedAs, step_of, at_end, stopped, further, stretch_of}
use Rattle.replay.proofs.Stretches.{onto, step_inside, stretch_step}
use Rattle.replay.proofs.window.stretch_at.Invariants.{Left}
use Rattle.replay.proofs.window.stretch_at.Goals as goal

-- a stretch with nothing behind it
onto_none : (r : Stretch) (verdict : Verdict) → onto r (stopped r.stream verdict) ≡ record { entries = r.entries; taken = r.taken; stream = r.stream; verdict = verdict }
onto_none r verdict = λ j. record { entries = add-zero r.entries j; taken = add-zero r.taken j; stream = r.stream; verdict = verdict }

-- where an entry does not agree, the stretch stops there
stops : {log : List ℕ} {over : Bool} {s : Stream} {r : Stretch} (verdict : Verdict) → Left log over s r → r.taken < length log
    → SteppedAs (Err verdict) (step_of over r.stream (drop r.taken log))
    → record { entries = r.entries; taken = r.taken; stream = r.stream; verdict = verdict } ≡ stretch_of over s log
stops {log} {over} {r = r} verdict l h is =
    let here = rw (is.0, is.1) at (stretch_step over r.stream (drop r.taken log) (omega (arith, length-drop r.taken log))) in
    sym (onto_none r verdict) ∙ ap (onto r) (sym here) ∙ l.rest

-- one that agrees lies in the log
lies : {log : List ℕ} {over : Bool} {s : Stream} {r : Stretch} (agreed : Agreed) → Left log over s r → r.taken < length log
    → SteppedAs (Ok agreed) (step_of over r.stream (drop r.taken log)) → (1 ≤ agreed.taken) × (r.taken + agreed.taken ≤ length log)
lies {log} {over} {r = r} agreed l h is =
    let inside = rw is at (step_inside over r.stream (drop r.taken log) (rw is)) in
    (inside.0, omega (arith, inside.1, length-drop r.taken log))

-- and goes on behind itself
goes : {log : List ℕ} {over : Bool} {s : Stream} {r : Stretch} (agreed : Agreed) → Left log over s r → r.taken < length log
    → SteppedAs (Ok agreed) (step_of over r.stream (drop r.taken log))
    → Left log over s (record { entries = r.entries + 1; taken = r.taken + agreed.taken; stream = agreed.next; verdict = r.verdict })
goes {log} {over} {r = r} agreed l h is =
    let left : Stretch = stretch_of over agreed.next (drop (r.taken + agreed.taken) log) in
    let count : r.entries + 1 + left.entries ≡ r.entries + suc left.entries = omega arith in
    let sum : r.taken + agreed.taken + left.taken ≡ r.taken + (agreed.taken + left.taken) = omega arith in
    let here =
    rw is at (stretch_step over r.stream (drop r.taken log) (omega (arith, length-drop r.taken log)))
    ∙ ap (λ (y : List ℕ). further agreed.taken (stretch_of over agreed.next y)) (drop-drop agreed.taken r.taken log) in
    record {
      few = omega (arith, l.few, (lies agreed l h is).0);
      inside = (lies agreed l h is).1;
      verdict = l.verdict;
      rest = (λ j. record { entries = count j; taken = sum j; stream = left.stream; verdict = left.verdict }) ∙ ap (onto r) (sym here) ∙ l.rest;
    }

-- where no byte is left, the stretch is whole
ends : {log : List ℕ} {over : Bool} {s : Stream} {r : Stretch} → Left log over s r → length log ≤ r.taken → r ≡ stretch_of over s log
unfolding stretch_of
ends {log} {over} {r = r} l h =
    let none : drop r.taken log ≡ [] = drop_of_length-le log {i = r.taken} h in
    (λ j. record { entries = r.entries; taken = r.taken; stream = r.stream; verdict = l.verdict j })
    ∙ sym (onto_none r (at_end over))
    ∙ ap (λ (x : List ℕ). onto r (stretch_of over r.stream x)) (sym none)
    ∙ l.rest

pub returns-in-Err : goal.returns-in-Err
returns-in-Err c =
    stops c.in-Err.verdict c.loop-stretch.invariant c.loop-stretch-test.true (rw (← c.left.ensures) c.in-Err.ensures)
    ∙ ap (stretch_of c.args.ended c.args.stream) c.left-log.ensures

pub overflow_add-stretch-in-Ok : goal.overflow_add-stretch-in-Ok
overflow_add-stretch-in-Ok c =
    record { fits = omega (arith, (lies c.in-Ok.agreed c.loop-stretch.invariant c.loop-stretch-test.true (rw (← c.left.ensures) c.in-Ok.ensures)).1) }

pub loop-stretch-smaller : goal.loop-stretch-smaller
loop-stretch-smaller c =
    let h = lies c.in-Ok.agreed c.loop-stretch.invariant c.loop-stretch-test.true (rw (← c.left.ensures) c.in-Ok.ensures) in
    omega (arith, h.0, h.1)

pub loop-stretch-preserved : goal.loop-stretch-preserved
loop-stretch-preserved c = goes c.in-Ok.agreed c.loop-stretch.invariant c.loop-stretch-test.true (rw (← c.left.ensures) c.in-Ok.ensures)

pub returns : goal.returns
returns c = ends c.loop-stretch.invariant c.loop-stretch-test.false ∙ ap (stretch_of c.args.ended c.args.stream) c.left-log.ensures
