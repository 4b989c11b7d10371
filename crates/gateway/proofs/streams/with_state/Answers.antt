-- `gateway::streams::with_state` meets its contract.
use mathlib.Core.Path.{◌≡◌}
use lib.ListN.{length}
use borrow.Author.Rules.{rules}
use Rattle.gateway.specs.Spelling.{state_length}
use Rattle.gateway.proofs.Spelling.{spelling_length}
use Rattle.gateway.proofs.streams.with_state.Goals as goal

pub returns-in_default-clause-spelled : goal.returns-in_default-clause-spelled
returns-in_default-clause-spelled g c = λ is.
    let whole : length c.args.state.now ≡ state_length = spelling_length _ is in
    absurd (search rules)
