-- `gateway::streams::kvistmaur_finish_checking` meets its contract.
use mathlib.Core.Path.{◌≡◌, refl, sym, ap, ◌∙◌, subst}
use Prim.Native.Nat.{◌≤◌}
use borrow.Author.Rules.{rules}
use Rattle.stream.specs.declared.Direction.TheVariants.{Checking}
use Rattle.stream.specs.declared.Outcome.{Outcome}
use Rattle.stream.specs.Calls.{finish_call}
use Rattle.stream.proofs.Bounds.{finish_few}
use Rattle.stream.proofs.Lent.{finish_is}
use Rattle.gateway.specs.Spelling.{state_in}
use Rattle.gateway.specs.Calls.{LeftLent, left_lent, left_by, left_beside}
use Rattle.gateway.proofs.Calls.{left_called, finish_met}
use Rattle.gateway.proofs.streams.kvistmaur_finish_checking.Goals as goal

pub with_state-requires-clause-rounds_bound : goal.with_state-requires-clause-rounds_bound
with_state-requires-clause-rounds_bound c = λ s x o y post.
    let gave : o ≡ (finish_call Checking s c.args.tag.now).outcome = search rules in
    subst (λ (o : Outcome). o.rounds ≤ 8_912_928) (sym gave) (finish_few Checking _ _)

pub returns : goal.returns
returns c =
    let a = c.args in
    finish_met a.state.now Checking a.tag.now _
    (λ is.
    let met = c.with_state.ensures.spelled is in
    let gave : met.1 ≡ (finish_call Checking (state_in a.state.now) a.tag.now).outcome = search rules in
    ap (λ (all : LeftLent). left_lent all.word all.area a.tag.now) met.5
    ∙ ap (λ (o : Outcome). left_beside (left_by o) a.tag.now) gave
    ∙ ap left_called (sym (finish_is Checking refl (state_in a.state.now) a.tag.now)))
    (λ isn. ap (λ (all : LeftLent). left_lent all.word all.area a.tag.now) (c.with_state.ensures.not_spelled isn))
