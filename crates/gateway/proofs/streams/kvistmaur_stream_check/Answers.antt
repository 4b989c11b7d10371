-- `gateway::streams::kvistmaur_stream_check` meets its contract.
use mathlib.Core.Path.{◌≡◌, sym, ap, ◌∙◌, subst}
use mathlib.Core.List.{[]}
use Prim.Native.Nat.{◌≤◌}
use borrow.Author.Rules.{rules}
use Rattle.stream.specs.declared.Direction.TheVariants.{Checking}
use Rattle.stream.specs.declared.Outcome.{Outcome}
use Rattle.stream.specs.Calls.{text_call}
use Rattle.stream.proofs.Bounds.{text_few}
use Rattle.stream.proofs.Lent.{check_is}
use Rattle.gateway.specs.Spelling.{state_in}
use Rattle.gateway.specs.Calls.{LeftLent, left_lent, left_by, left_beside}
use Rattle.gateway.proofs.Calls.{left_called, text_met}
use Rattle.gateway.proofs.streams.kvistmaur_stream_check.Goals as goal

pub with_state-requires-clause-rounds_bound : goal.with_state-requires-clause-rounds_bound
with_state-requires-clause-rounds_bound c = λ s x o y post.
    let gave : o ≡ (text_call Checking s c.args.cipher.now []).outcome = search rules in
    subst (λ (o : Outcome). o.rounds ≤ 8_912_928) (sym gave) (text_few Checking _ _ [])

pub returns : goal.returns
returns c =
    let a = c.args in
    text_met a.state.now Checking a.cipher.now [] _
    (λ is.
    let met = c.with_state.ensures.spelled is in
    let gave : met.1 ≡ (text_call Checking (state_in a.state.now) a.cipher.now []).outcome = search rules in
    ap (λ (all : LeftLent). left_lent all.word all.area []) met.5
    ∙ ap (λ (o : Outcome). left_beside (left_by o) []) gave
    ∙ ap left_called (sym (check_is (state_in a.state.now) a.cipher.now [])))
    (λ isn. ap (λ (all : LeftLent). left_lent all.word all.area []) (c.with_state.ensures.not_spelled isn))
