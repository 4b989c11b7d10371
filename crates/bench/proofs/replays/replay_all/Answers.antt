use mathlib.Core.Path.{sym, ap, ◌∙◌}
use mathlib.Core.List.{[], ◌∷◌, ◌++◌}
use native.Mathlib.Omega.{arith}
use lib.ListN.{length-append}
use Rattle.bench.specs.Replays.{Going, begun, further}
use Rattle.bench.proofs.Replayed.{replayed_more}
use Rattle.bench.proofs.replays.replay_all.Goals as goal

pub loop-preserved : goal.loop-preserved
loop-preserved c =
    let g = c.loop.invariant in
    let o = c.replay_more.ensures in
    record {
      replies = g.replies ++ o.reply ∷ [];
      is = o.is ∙ ap (λ (v : Going). further v o.reply) g.is ∙ sym (replayed_more begun g.replies o.reply);
      count = omega (arith, g.count, length-append g.replies (o.reply ∷ []));
    }
