-- `gateway::streams::kvistmaur_stream_seal` meets its contract.
use mathlib.Core.Path.{◌≡◌, sym, ap, ◌∙◌, subst}
use Prim.Native.Nat.{◌≤◌}
use borrow.Author.Rules.{rules}
use Rattle.stream.specs.declared.Direction.TheVariants.{Sealing}
use Rattle.stream.specs.Calls.{Called, called, text_call}
use Rattle.stream.proofs.Bounds.{text_few}
use Rattle.gateway.specs.Spelling.{state_in}
use Rattle.gateway.proofs.Calls.{left_called, text_met}
use Rattle.gateway.proofs.streams.kvistmaur_stream_seal.Goals as goal

pub with_state-requires-clause-rounds_bound : goal.with_state-requires-clause-rounds_bound
with_state-requires-clause-rounds_bound c = λ s x o y post.
    let gave : called o y.now ≡ text_call Sealing s c.args.text.now x.now = search rules in
    subst (λ (call : Called). call.outcome.rounds ≤ 8_912_928) (sym gave) (text_few Sealing _ _ _)

pub returns : goal.returns
returns c =
    let a = c.args in
    text_met a.state.now Sealing a.text.now a.out.now _
    (λ is.
    let met = c.with_state.ensures.spelled is in
    let gave : called met.1 met.2.now ≡ text_call Sealing (state_in a.state.now) a.text.now met.0.now = search rules in
    met.5 ∙ ap left_called (gave ∙ ap (text_call Sealing (state_in a.state.now) a.text.now) met.4))
    c.with_state.ensures.not_spelled
