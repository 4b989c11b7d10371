-- `replay::window::stretch_at` meets its contract. The loop's invariant: what is left of the log decides, behind the entries that agreed. The measure is the bytes left.
use Rattle.std.proofs.Common.{◌≡◌, Bool, List, ℕ, ◌-◌, ◌≤◌, length, drop}
use Rattle.stream.specs.declared.Stream.{Stream}
use Rattle.replay.specs.declared.window.Stretch.{Stretch}
use Rattle.replay.specs.Replays.{at_end, stretch_of}
use Rattle.replay.proofs.Stretches.{onto}
use Rattle.replay.proofs.window.stretch_at.Given as goal

-- what holds before an entry is looked at
pub record Left (log : List ℕ) (over : Bool) (s : Stream) (r : Stretch) : Type 0 where
  pub few : r.entries ≤ r.taken
  pub inside : r.taken ≤ length log
  pub verdict : r.verdict ≡ at_end over
  pub rest : onto r (stretch_of over r.stream (drop r.taken log)) ≡ stretch_of over s log

abbrev pub invariant-loop-stretch : goal.invariant-loop-stretch
invariant-loop-stretch l = Left l.log l.ended l.fn.stream l.stretch

abbrev pub decreases-loop-stretch : goal.decreases-loop-stretch
decreases-loop-stretch l = length l.log - l.stretch.taken
