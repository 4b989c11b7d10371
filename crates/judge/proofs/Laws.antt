-- What the verdicts and the steps promise.
use Rattle.judge.specs.Laws.{Judges}
use Rattle.judge.proofs.Differences.{tells, behind_common}
use Rattle.judge.proofs.Verdicts.{equal_agrees, agrees_equal, other_cipher, read_verdict, unread_verdict, report_short, no_chip}
use Rattle.judge.proofs.Windows.{final_window, final_step}
use Rattle.judge.proofs.Sizes.{step_inside, short_window, step_waits}
use Rattle.judge.proofs.Outputs.{no_output, goes_on, stops, in_a_row, wrong_verdict}

-- judging promises it all
pub judges : Judges
judges =
    record {
      equal = λ r. (equal_agrees r, agrees_equal r);
      cipher = other_cipher;
      difference = tells;
      behind = behind_common;
      window = final_window;
      step = final_step;
      inside = step_inside;
      waits = step_waits;
      short_window = short_window;
      read = read_verdict;
      unread = unread_verdict;
      short = report_short;
      nothing = no_output;
      goes_on = goes_on;
      stops = stops;
      in_a_row = in_a_row;
      chip = no_chip;
      wrong_at = wrong_verdict;
    }
