-- `entry::reading::with_rounds` meets its contract.
use Rattle.entry.specs.Calls.{rounded}
use Rattle.entry.proofs.reading.with_rounds.Goals as goal

pub returns : goal.returns
unfolding rounded
returns c = rw c.message_rounds.ensures
