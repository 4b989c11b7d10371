-- `bench::judging::Judging::look` meets its contract.
use mathlib.Core.Path.{◌≡◌, sym, ap, subst, ◌∙◌}
use mathlib.Core.List.{List}
use Prim.Native.Nat.{ℕ, ◌+◌}
use Rattle.turns.specs.declared.Stage.TheVariants.{Judge}
use Rattle.turns.specs.Tallies.{records_of, largest}
use Rattle.turns.specs.Run.{Standing, is_judging, looked, judged}
use Rattle.bench.specs.declared.progress.Progress.{Progress}
use Rattle.bench.specs.Progress.{Sound, view}
use Rattle.bench.proofs.Looks.{Looked, closes, gives_up, looks}
use Rattle.bench.proofs.judging.Judging.look.Goals as goal
use Rattle.bench.proofs.judging.Judging.look.Goals.{After-judge_window-step}

-- what is made of the standing is what judging makes of it
judging : (p : Progress) (buffer text : List ℕ) {now after : Standing} → p.stage ≡ Judge → view p buffer text ≡ now → after ≡ looked (view p buffer text) → after ≡ judged now
judging p buffer text {after} stage is e = subst (λ (s : Standing). after ≡ judged s) is (rw (ap is_judging stage) e)

-- the step on the window
by_window : (c : After-judge_window-step) → Looked c.self.inside.p c.self.inside.buffer c.self.inside.text c.judge_window-step.result c.judge_window-step.new.out
by_window c =
    let number = c.records-number.ensures in
    looks c.self.inside.p c.self.inside.buffer c.self.inside.text c.self.invariant c.if-self-ne0.false
    (λ (e : records_of c.self.inside.p.tally + 1 ≡ largest). c.if-number.false (ap (λ (n : ℕ). n + 1) number ∙ e))
    _
    _
    (rw number at c.judge_window-step.ensures)

pub returns-then-self-ne0 : goal.returns-then-self-ne0
returns-then-self-ne0 c =
    judging c.self.inside.p c.self.inside.buffer c.self.inside.text c.in-Judge.is c.self.view_is (closes c.self.inside.p _ _ c.self.invariant c.if-self-ne0.true).1

pub returns-then-number : goal.returns-then-number
returns-then-number c =
    let numbers = ap (λ (n : ℕ). n + 1) (sym c.records-number.ensures) ∙ c.if-number.true in
    judging c.self.inside.p c.self.inside.buffer c.self.inside.text c.in-Judge.is c.self.view_is
    (gives_up c.self.inside.p _ _ c.self.invariant c.if-self-ne0.false numbers).1

pub after_step-self-inside-requires : goal.after_step-self-inside-requires
after_step-self-inside-requires c = (by_window (goal.at.after_step-self-inside-requires c).After-judge_window-step).takes

pub invariant_of-self-2 : goal.invariant_of-self-2
invariant_of-self-2 c =
    subst (λ (p : Progress). Sound p c.self.inside.buffer c.judge_window-step.new.out) (sym c.after_step-self-inside.ensures) (by_window (goal.at.invariant_of-self-2 c).After-judge_window-step).sound

pub returns : goal.returns
returns c =
    judging c.self.inside.p c.self.inside.buffer c.self.inside.text c.in-Judge.is c.self.view_is
    (ap (λ (p : Progress). view p c.self.inside.buffer c.judge_window-step.new.out) c.after_step-self-inside.ensures ∙ (by_window (goal.at.returns c).After-judge_window-step).is)
