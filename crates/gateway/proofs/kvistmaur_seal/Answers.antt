-- `gateway::kvistmaur_seal` meets its contract.
use mathlib.Core.Path.{ap}
use Rattle.message.specs.Message.{SealLeaves}
use Rattle.message.proofs.Bounds.{seal_rounds}
use Rattle.gateway.proofs.kvistmaur_seal.Goals as goal

pub word-requires : goal.word-requires
word-requires c = rw (ap (λ (s : SealLeaves). s.outcome) c.seal-outcome.ensures) (seal_rounds _ _ _ _ _ _ _)
