-- `lines::walk::read` meets its contract. The digits' invariant: each character before this one was passed, and the walk from here ends where the whole does.
use Rattle.std.proofs.Common.{◌≡◌}
use Rattle.lines.proofs.Walks.{Walking}
use Rattle.lines.proofs.walk.read.Given as goal

abbrev pub invariant-digits : goal.invariant-digits
invariant-digits l = (l.passed ≡ l.at) × Walking l.kind l.text 0 l.state l.at
