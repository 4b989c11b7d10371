-- `gateway::streams::kvistmaur_finish_sealing` meets its contract.
use mathlib.Core.Path.{◌≡◌, sym, ap, ◌∙◌, subst}
use Prim.Native.Nat.{◌≤◌}
use borrow.Author.Rules.{rules}
use Rattle.stream.specs.declared.Direction.TheVariants.{Sealing}
use Rattle.stream.specs.Calls.{Called, called, finish_call}
use Rattle.stream.proofs.Bounds.{finish_few}
use Rattle.gateway.specs.Spelling.{state_in}
use Rattle.gateway.proofs.Calls.{left_called, finish_met}
use Rattle.gateway.proofs.streams.kvistmaur_finish_sealing.Goals as goal

pub with_state-requires-clause-rounds_bound : goal.with_state-requires-clause-rounds_bound
with_state-requires-clause-rounds_bound c = λ s x o y post.
    let gave : called o y.now ≡ finish_call Sealing s x.now = search rules in
    subst (λ (call : Called). call.outcome.rounds ≤ 8_912_928) (sym gave) (finish_few Sealing _ _)

pub returns : goal.returns
returns c =
    let a = c.args in
    finish_met a.state.now Sealing a.tag.now _
    (λ is.
    let met = c.with_state.ensures.spelled is in
    let gave : called met.1 met.2.now ≡ finish_call Sealing (state_in a.state.now) met.0.now = search rules in
    met.5 ∙ ap left_called (gave ∙ ap (finish_call Sealing (state_in a.state.now)) met.4))
    c.with_state.ensures.not_spelled
