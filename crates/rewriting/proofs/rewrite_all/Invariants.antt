-- `rewriting::rewrite_all` is safe and ends: the measure is the number of bytes left.
use Rattle.std.proofs.Common.{length}
use Rattle.rewriting.proofs.rewrite_all.Given as goal

abbrev pub decreases-loop-rest : goal.decreases-loop-rest
decreases-loop-rest l = length l.rest
