use mathlib.Core.List.{[], ◌∷◌, ◌++◌}
use native.Mathlib.Omega.{arith}
use lib.ListN.{length-append}
use Rattle.turns.proofs.Turns.{ran_more}
use Rattle.bench.proofs.judging.run.Goals as goal

pub loop-preserved : goal.loop-preserved
loop-preserved c =
    let inv = c.loop.invariant in
    let turned = c.turn.ensures in
    record {
      replies = inv.replies ++ turned.reply ∷ [];
      is = ran_more _ _ inv.replies inv.is turned;
      count = omega (arith, inv.count, length-append inv.replies (turned.reply ∷ []));
    }
