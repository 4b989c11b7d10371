-- `lines::walk::read` meets its contract.
use mathlib.Core.Path.{◌≡◌, sym, ap, ◌∙◌}
use mathlib.Core.List.{List}
use Prim.Native.Nat.{ℕ, ◌-◌}
use native.Mathlib.Omega.{arith}
use Rattle.lines.specs.declared.kinds.Kind.{Kind}
use Rattle.lines.specs.declared.step.State.{State}
use Rattle.lines.specs.Steps.{stop, walk, step_of, begin, found_at, read_of}
use Rattle.lines.proofs.Walks.{walk_off, walk_end}
use Rattle.lines.proofs.walk.read.Goals as goal
use Rattle.lines.proofs.walk.read.Goals.{else-digits-test, then-digits-test+in-None}

-- where a walk stopped, the line is found there
found_there : (kind : Kind) (text : List ℕ) (at : ℕ) (s : State) → walk (step_of kind) begin text ≡ stop (at - 0) s → found_at (stop at s) ≡ read_of kind text
unfolding read_of
found_there kind text at s e = let all : at - 0 ≡ at = omega arith in sym (ap found_at (rw all at e))

pub returns : goal.returns
returns c =
    let l = c.digits in
    let there : walk (step_of c.args.kind) begin c.args.text.now ≡ stop (l.at - 0) l.state =
    elim c.digits-test.branch [
      | else-digits-test w ↦ walk_end _ _ 0 l.state l.at w.digits-test.false l.invariant.1
      | then-digits-test+in-None w ↦ walk_off _ _ 0 l.state l.at w.digits-test.true (sym w.advance.ensures ∙ w.in-None.is) l.invariant.1
    ] in
    c.found.ensures ∙ rw l.invariant.0 (found_there _ _ _ _ there)
