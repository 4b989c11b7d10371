-- What replaying a log promises.
use Rattle.replay.specs.Laws.{Replays}
use Rattle.replay.proofs.Stretches.{stretch_inside, stretch_waits, never_open, never_agrees}
use Rattle.replay.proofs.Windows.{window_tells, all_windows}
use Rattle.replay.proofs.Agrees.{nothing_told, agrees_exactly, first_exactly, nothing_behind}

-- replaying promises it all
pub replays : Replays
replays =
    record {
      agrees = agrees_exactly;
      first = first_exactly;
      nothing = nothing_told;
      decided = never_open;
      at_end = never_agrees;
      behind = nothing_behind;
      windows = all_windows;
      window = window_tells;
      waits = stretch_waits;
      inside = stretch_inside;
    }
