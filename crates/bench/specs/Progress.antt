-- How far the code is: its places in the buffer and in the text, what each function makes of them, and how they show the program's run.
use Rattle.std.specs.Prelude.{Bool, false, cond, Result, Ok, Err, List, ◌≡◌, ℕ, ◌+◌, ◌-◌, ◌≤◌, ◌<◌, eqb, ℤ, pos, negsuc, length, take, drop}
use Rattle.record.specs.declared.form.Form.TheVariants.{Two}
use Rattle.record.specs.Text.{most_bytes}
use Rattle.report.specs.declared.Verdict.{Verdict}
use Rattle.report.specs.declared.Verdict.TheVariants.{Unread}
use Rattle.judge.specs.declared.stepping.Step.{Step}
use Rattle.judge.specs.declared.stepping.Step.TheVariants.{Judged, Stopped, Wait, End, Short}
use Rattle.judge.specs.Steps.{taken_by}
use Rattle.bench.specs.declared.progress.Unmoved.{Unmoved}
use Rattle.bench.specs.declared.progress.Unmoved.TheVariants.{Again, Failed}
use Rattle.bench.specs.declared.system.Sink.{Sink}
use Rattle.bench.specs.declared.system.Sink.TheVariants.{Output, Messages}
use Rattle.turns.specs.declared.Ending.TheVariants.{TooMany}
use Rattle.turns.specs.declared.Stage.{Stage}
use Rattle.turns.specs.declared.Stage.TheVariants.{Judge, Close, Read, Write, Say, Over}
use Rattle.bench.specs.declared.progress.Progress.{Progress}
use Rattle.turns.specs.Tallies.{none, counted_with, records_of, largest}
use Rattle.turns.specs.Run.{Standing, closed, behind, failed}

-- standard error for the last words, standard output else
abbrev pub sink_of : Stage → Sink
sink_of Judge = Output
sink_of Close = Output
sink_of Read = Output
sink_of Write = Output
sink_of Say = Messages
sink_of (Over ending) = Output

-- nothing is read, and nothing is judged
abbrev pub fresh : Progress
fresh = record { start = 0; filled = 0; ended = false; tally = none; from = 0; size = 0; stage = Read }

-- the same, and this is next
abbrev pub doing : Stage → Progress → Progress
doing stage p = record { start = p.start; filled = p.filled; ended = p.ended; tally = p.tally; from = p.from; size = p.size; stage = stage }

-- the call that was next failed
abbrev pub failing : Progress → Progress
failing p = doing (failed p.stage) p

-- the window at the front
abbrev pub front : Progress → Progress
front p = record { start = 0; filled = p.filled - p.start; ended = p.ended; tally = p.tally; from = p.from; size = p.size; stage = p.stage }

-- behind a record of the window, with its report to write
abbrev pub reporting : Progress → Verdict → ℕ → ℕ → Progress
reporting p verdict taken written =
    record { start = p.start + taken; filled = p.filled; ended = p.ended; tally = counted_with p.tally verdict; from = 0; size = written; stage = Write }

-- with the last words to say
abbrev pub ending : Progress → ℕ → Progress
ending p size = record { start = p.start; filled = p.filled; ended = p.ended; tally = p.tally; from = 0; size = size; stage = Say }

-- after a step on the window
abbrev pub stepped : Progress → Step → Progress
stepped p (Judged verdict taken written) = reporting p verdict taken written
stepped p (Stopped line column written) = reporting p (Unread line column) 0 written
stepped p Wait = doing Read p
stepped p End = doing Close p
stepped p Short = doing (Over TooMany) p

-- the number of the error by which a call says that a signal came first
abbrev pub is_signal : ℤ → Bool
is_signal (pos error) = eqb error 4
is_signal (negsuc error) = false

-- what the answer of a call says: how many bytes it moved, or why it moved none
abbrev pub Heard : Type 0
Heard = Result ℕ Unmoved

-- what its raw answer says, which has the number of an error
abbrev pub heard_of : Result ℕ ℤ → Heard
heard_of (Ok count) = Ok count
heard_of (Err error) = Err (cond (is_signal error) Again Failed)

-- after a read
abbrev pub read_more : Progress → Heard → Progress
read_more p (Ok count) =
    record { start = p.start; filled = p.filled + count; ended = eqb count 0; tally = p.tally; from = p.from; size = p.size; stage = Judge }
read_more p (Err Again) = p
read_more p (Err Failed) = failing p

-- after a write that took so many bytes
unfoldable pub wrote : Progress → ℕ → Progress
wrote p count =
    cond (eqb count 0) (failing p)
    (record {
      start = p.start;
      filled = p.filled;
      ended = p.ended;
      tally = p.tally;
      from = p.from + count;
      size = p.size;
      stage = cond (eqb (p.from + count) p.size) (behind p.stage) p.stage;
    })

-- after a write
abbrev pub wrote_more : Progress → Heard → Progress
wrote_more p (Ok count) = wrote p count
wrote_more p (Err Again) = p
wrote_more p (Err Failed) = failing p

-- ---- within bounds

-- a step takes no more than the window, and what it judges can be counted
pub record Takes (p : Progress) (step : Step) : Type 0 where
  pub inside : p.start + taken_by step ≤ p.filled
  pub few : records_of p.tally < largest

-- how many bytes an answer moved
abbrev pub moved_by : Heard → ℕ
moved_by (Ok count) = count
moved_by (Err why) = 0

-- the window lies in the buffer, which has room for more than the most bytes of a record; where a read is next, the window is shorter than that; what is left to write
-- lies in the text, which has room for a report and for the last words; the next verdict can be counted
pub record Sound (p : Progress) (buffer text : List ℕ) : Type 0 where
  pub begins : p.start ≤ p.filled
  pub inside : p.filled ≤ length buffer
  pub wide : most_bytes Two < length buffer
  pub room : p.stage ≡ Read → p.filled - p.start < most_bytes Two
  pub from_size : p.from ≤ p.size
  pub size_text : p.size ≤ length text
  pub long : 256 ≤ length text
  pub few : records_of p.tally < largest

-- ---- as the program's run

-- the window, what is left to write, and the rest as it is
abbrev pub view : Progress → List ℕ → List ℕ → Standing
view p buffer text =
    record {
      window = take (p.filled - p.start) (drop p.start buffer);
      ended = p.ended;
      tally = p.tally;
      left = take (p.size - p.from) (drop p.from text);
      stage = p.stage;
    }

-- after a read: the window stands at the front as it was, and what came, within the buffer, stands behind it
pub record More (p : Progress) (before : List ℕ) (q : Progress) (after : List ℕ) : Type 0 where
  pub heard : Heard
  pub is : q ≡ read_more (front p) heard
  pub kept : take (p.filled - p.start) after ≡ take (p.filled - p.start) (drop p.start before)
  pub fits : p.filled - p.start + moved_by heard ≤ length after

-- after a write: no more was taken than was left
pub record Less (p q : Progress) : Type 0 where
  pub heard : Heard
  pub is : q ≡ wrote_more p heard
  pub fits : p.from + moved_by heard ≤ p.size

-- after closing: the last words are to be said, where that was next; nothing else changes
pub record Closed (p : Progress) (before : List ℕ) (q : Progress) (after : List ℕ) : Type 0 where
  pub is : (buffer : List ℕ) → view q buffer after ≡ closed (view p buffer before)
  pub sound : (buffer : List ℕ) → Sound p buffer before → Sound q buffer after
