-- `gateway::area::phase_of` meets its contract.
use Rattle.gateway.specs.Spelling.{phase_of}
use Rattle.gateway.proofs.area.phase_of.Goals as goal

pub returns-in-0 : goal.returns-in-0
unfolding phase_of
returns-in-0 c = rw c.in-0.is

pub returns-in-1 : goal.returns-in-1
unfolding phase_of
returns-in-1 c = rw c.in-1.is

pub returns-in-2 : goal.returns-in-2
unfolding phase_of
returns-in-2 c = rw c.in-2.is
