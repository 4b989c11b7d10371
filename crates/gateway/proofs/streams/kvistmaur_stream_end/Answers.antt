-- `gateway::streams::kvistmaur_stream_end` meets its contract.
use mathlib.Core.Path.{◌≡◌, ap, ◌∙◌}
use mathlib.Core.Logic.{◌≢◌}
use lib.ListN.{length}
use borrow.Author.Rules.{rules}
use borrow.Author.Tests.{eq-eqb, ne_eqb}
use Rattle.gateway.specs.Spelling.{state_length, spelling}
use Rattle.gateway.specs.Calls.{left, end_on}
use Rattle.gateway.proofs.streams.kvistmaur_stream_end.Goals as goal

pub returns-in-Some : goal.returns-in-Some
unfolding end_on
returns-in-Some c =
    let whole : length c.args.state.now ≡ state_length = search rules in
    let put = c.spelling.ensures ∙ ap spelling c.ended.ensures in
    rw (eq-eqb _ _ whole) (λ j. left (c.word.ensures j) (put j))

pub returns-in-None : goal.returns-in-None
unfolding end_on
returns-in-None c =
    let other : length c.args.state.now ≢ state_length = search rules in
    rw (ne_eqb _ _ other) (λ j. left (c.unspelled.ensures j) c.args.state.now)
