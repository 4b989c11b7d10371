-- `replay::window::step_at` meets its contract.
use Rattle.std.proofs.Common.{sym, ap, ◌∙◌}
use Rattle.chip_log.specs.Calls.{reading_of}
use Rattle.replay.proofs.Stretches.{read_in_form}
use Rattle.replay.proofs.window.step_at.Goals as goal

pub step_on-requires : goal.step_on-requires
step_on-requires c = let read = c.in-Ok.read in read_in_form _ read.taken read.content (ap reading_of (sym c.in-Ok.is) ∙ c.read.ensures)
