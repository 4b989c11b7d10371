-- The loop's invariant: the rounds that are left take the state to what all of them make of the first one.
use mathlib.Core.Path.{◌≡◌}
use Rattle.std.proofs.Math.Seq.{slice}
use Rattle.permutation.specs.Runs.{constants, rounds}
use Rattle.permutation.proofs.ran.Given as goal

abbrev pub invariant-loop-i : goal.invariant-loop-i
invariant-loop-i l = rounds (slice l.i l.fn.end constants) l.t ≡ rounds (slice l.fn.first l.fn.end constants) l.initial.t
