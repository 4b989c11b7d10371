-- `bench::replays::LogReplay::replay_more` meets its contract.
use mathlib.Core.Path.{◌≡◌, sym, ap, ◌∙◌}
use mathlib.Core.Bool.{Bool, true, cond}
use mathlib.Core.List.{◌++◌}
use Prim.Native.Nat.{◌-◌}
use native.Mathlib.Omega.{arith}
use lib.ListN.{take, drop}
use Rattle.replay.specs.Laws.{SoFar}
use Rattle.bench.specs.Replays.{Going, goes_on, heard_by, further, so_far, shown, reply_of}
use Rattle.bench.proofs.Answers.{kept_front}
use Rattle.bench.proofs.replays.LogReplay.replay_more.Goals as goal

pub returns : goal.returns
returns c =
    let r = c.self.inside.state in
    let buffer = c.self.inside.buffer in
    let goes : goes_on (shown r buffer) ≡ true = ap goes_on c.self.view_is ∙ c.requires in
    let brought = take r.left buffer ++ (c.read-heard.new.room ++ drop (65536 - r.left) (drop r.left buffer)) in
    let kept = kept_front buffer c.read-heard.new.room r.left (65536 - r.left) (omega (arith, c.self.invariant.ready.room goes, c.self.invariant.wide)) c.read-heard.auto.room in
    let same : so_far r brought ≡ so_far r buffer = λ j. record { left = kept.front j; entries = r.entries; stream = r.stream; verdict = r.verdict } in
    let reply = reply_of r.left brought c.read-heard.result in
    record {
      reply = reply;
      is =
          c.after_read-self-inside.ensures.is
          ∙ ap (λ (f : SoFar). heard_by f reply) same
          ∙ sym (ap (λ (t : Bool). cond t (heard_by (so_far r buffer) reply) (shown r buffer)) goes)
          ∙ ap (λ (g : Going). further g reply) c.self.view_is;
    }
