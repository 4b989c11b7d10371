-- `gateway::area::direction_of` meets its contract.
use Rattle.gateway.specs.Spelling.{direction_of}
use Rattle.gateway.proofs.area.direction_of.Goals as goal

pub returns-in-0 : goal.returns-in-0
unfolding direction_of
returns-in-0 c = rw c.in-0.is

pub returns-in-1 : goal.returns-in-1
unfolding direction_of
returns-in-1 c = rw c.in-1.is

pub returns-in-2 : goal.returns-in-2
unfolding direction_of
returns-in-2 c = rw c.in-2.is
