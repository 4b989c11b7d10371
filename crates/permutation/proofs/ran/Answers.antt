use mathlib.Core.Path.{◌≡◌, sym, ap, ◌∙◌}
use Rattle.std.proofs.Common.{arith}
use Rattle.permutation.specs.Runs.{rounds}
use Rattle.permutation.proofs.Runs.{rounds_next, rounds_done}
use Rattle.permutation.proofs.ran.Goals as goal

pub loop-i-preserved : goal.loop-i-preserved
loop-i-preserved c =
    ap (rounds _) c.rounded-t.ensures ∙ sym (rounds_next c.loop-i.i c.args.end c.loop-i.t (omega arith) (omega arith)) ∙ c.loop-i.invariant

pub returns : goal.returns
returns c =
    let e : c.loop-i.i ≡ c.args.end = omega arith in
    sym (rounds_done c.args.end c.loop-i.t) ∙ rw e at c.loop-i.invariant
