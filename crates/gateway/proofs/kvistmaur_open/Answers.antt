-- `gateway::kvistmaur_open` meets its contract.
use mathlib.Core.Path.{ap}
use Rattle.message.specs.Message.{OpenLeaves}
use Rattle.message.proofs.Bounds.{open_rounds}
use Rattle.gateway.proofs.kvistmaur_open.Goals as goal

pub word-requires : goal.word-requires
word-requires c = rw (ap (λ (s : OpenLeaves). s.outcome) c.open-outcome.ensures) (open_rounds _ _ _ _ _ _ _)
