-- `gateway::streams::kvistmaur_stream_data` meets its contract.
use mathlib.Core.Path.{◌≡◌, sym, ap, ◌∙◌, subst}
use Prim.Native.Nat.{◌≤◌}
use borrow.Author.Rules.{rules}
use Rattle.stream.specs.declared.Outcome.{Outcome}
use Rattle.stream.specs.Calls.{ad_call}
use Rattle.stream.proofs.Bounds.{ad_few}
use Rattle.gateway.specs.Spelling.{state_in}
use Rattle.gateway.specs.Calls.{Left, LeftLent, left, left_by}
use Rattle.gateway.proofs.Calls.{ad_met}
use Rattle.gateway.proofs.streams.kvistmaur_stream_data.Goals as goal

pub with_state-requires-clause-rounds_bound : goal.with_state-requires-clause-rounds_bound
with_state-requires-clause-rounds_bound c = λ s x o y post.
    let gave : o ≡ ad_call s c.args.ad.now = search rules in
    subst (λ (o : Outcome). o.rounds ≤ 8_912_928) (sym gave) (ad_few _ _)

-- without the place that was lent
abbrev own : LeftLent → Left
own all = left all.word all.area

pub returns : goal.returns
returns c =
    let a = c.args in
    ad_met a.state.now a.ad.now _
    (λ is.
    let met = c.with_state.ensures.spelled is in
    let gave : met.1 ≡ ad_call (state_in a.state.now) a.ad.now = search rules in
    ap own met.5 ∙ ap left_by gave)
    (λ isn. ap own (c.with_state.ensures.not_spelled isn))
