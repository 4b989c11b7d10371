-- `gateway::streams::start` meets its contract.
use mathlib.Core.Path.{◌≡◌, sym, ap, ◌∙◌, subst}
use Prim.Native.Nat.{◌≤◌}
use mathlib.Core.Logic.{◌≢◌}
use lib.ListN.{length}
use borrow.Author.Rules.{rules}
use borrow.Author.Tests.{eq-eqb, ne_eqb}
use Rattle.stream.specs.declared.Outcome.{Outcome}
use Rattle.stream.proofs.Bounds.{start_few}
use Rattle.gateway.specs.Spelling.{state_length}
use Rattle.gateway.specs.Calls.{left, left_by, start_on}
use Rattle.gateway.proofs.streams.start.Goals as goal

pub leave-requires : goal.leave-requires
leave-requires c = subst (λ (o : Outcome). o.rounds ≤ 8_912_928) (sym c.start.ensures) (start_few _)

pub returns-in-Some : goal.returns-in-Some
unfolding start_on
returns-in-Some c =
    let whole : length c.args.state.now ≡ state_length = search rules in
    rw (eq-eqb _ _ whole) (c.leave.ensures ∙ ap left_by c.start.ensures)

pub returns-in-None : goal.returns-in-None
unfolding start_on
returns-in-None c =
    let other : length c.args.state.now ≢ state_length = search rules in
    rw (ne_eqb _ _ other) (λ j. left (c.unspelled.ensures j) c.args.state.now)
