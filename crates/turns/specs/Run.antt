-- The program's run over what the operating system answers: what it asks next, what it makes of each answer, and what it has read, written and said by then.
use Rattle.std.specs.Prelude.{Bool, true, false, cond, ◌||◌, List, [], ◌∷◌, ◌++◌, ℕ, suc, ◌+◌, eqb, length, take, drop}
use Rattle.record.specs.Calls.{read_any}
use Rattle.report.specs.Reports.{report_text}
use Rattle.judge.specs.Steps.{verdict_read, is_final}
use Rattle.turns.specs.declared.Ending.TheVariants.{Said, ReadFailed, WriteFailed, SayFailed, TooMany}
use Rattle.turns.specs.declared.Stage.{Stage}
use Rattle.turns.specs.declared.Stage.TheVariants.{Judge, Close, Read, Write, Say, Over}
use Rattle.turns.specs.declared.Tally.{Tally}
use Rattle.turns.specs.Tallies.{none, counted_with, records_of, largest, last_words}

-- ---- where the program stands

-- what was delivered and is not judged yet; whether the input has ended behind it; the verdicts so far, counted; what is left to write; what is next
pub record Standing : Type 0 where
  pub window : List ℕ
  pub ended : Bool
  pub tally : Tally
  pub left : List ℕ
  pub stage : Stage

-- nothing is delivered, and nothing is judged
abbrev pub begun : Standing
begun = record { window = []; ended = false; tally = none; left = []; stage = Read }

-- the same, and this is next
abbrev pub next : Stage → Standing → Standing
next stage r = record { window = r.window; ended = r.ended; tally = r.tally; left = r.left; stage = stage }

-- ---- what is next

-- judging is next
abbrev pub is_judging : Stage → Bool
is_judging Judge = true
is_judging Close = false
is_judging Read = false
is_judging Write = false
is_judging Say = false
is_judging (Over ending) = false

-- the last words are to be put next
abbrev pub is_closing : Stage → Bool
is_closing Judge = false
is_closing Close = true
is_closing Read = false
is_closing Write = false
is_closing Say = false
is_closing (Over ending) = false

-- a read is next
abbrev pub is_reading : Stage → Bool
is_reading Judge = false
is_reading Close = false
is_reading Read = true
is_reading Write = false
is_reading Say = false
is_reading (Over ending) = false

-- a write is next, to standard output or to standard error
abbrev pub is_writing : Stage → Bool
is_writing Judge = false
is_writing Close = false
is_writing Read = false
is_writing Write = true
is_writing Say = true
is_writing (Over ending) = false

-- nothing is next
abbrev pub is_over : Stage → Bool
is_over Judge = false
is_over Close = false
is_over Read = false
is_over Write = false
is_over Say = false
is_over (Over ending) = true

-- a call to the operating system is next
abbrev pub asks : Stage → Bool
asks stage = is_reading stage || is_writing stage

-- ---- judging

-- the record that the window begins with is counted, and its report is next
unfoldable pub with_report : Standing → Standing
with_report r =
    let reading = read_any r.window in
    let verdict = verdict_read reading in
    record {
      window = drop reading.taken r.window;
      ended = r.ended;
      tally = counted_with r.tally verdict;
      left = report_text (records_of r.tally + 1) verdict;
      stage = Write;
    }

-- after an unread record nothing is judged; where no number is left the run is over; an empty window is the end if the input has ended, and else wants more; a final
-- window gives a report, any other wants more
unfoldable pub looked : Standing → Standing
looked r =
    cond (eqb r.tally.unread 0)
    (cond (eqb (records_of r.tally + 1) largest) (next (Over TooMany) r)
    (cond (eqb (length r.window) 0) (next (cond r.ended Close Read) r) (cond (is_final r.window r.ended) (with_report r) (next Read r))))
    (next Close r)

-- judging, where that is next
abbrev pub judged : Standing → Standing
judged r = cond (is_judging r.stage) (looked r) r

-- the last words are to be said, where that is next
abbrev pub closed : Standing → Standing
closed r = cond (is_closing r.stage) (record { window = r.window; ended = r.ended; tally = r.tally; left = last_words r.tally; stage = Say }) r

-- ---- one answer

-- what the operating system answers a call: a read delivered these bytes, none where the input has ended; a write took so many; a signal came first; it failed
pub data Reply : Type 0 where
  Came : List ℕ → Reply
  Took : ℕ → Reply
  Again : Reply
  Failed : Reply

-- what follows when all of a text is written
abbrev pub behind : Stage → Stage
behind Judge = Judge
behind Close = Close
behind Read = Read
behind Write = Judge
behind Say = Over Said
behind (Over ending) = Over ending

-- what follows when a call failed
abbrev pub failed : Stage → Stage
failed Judge = Judge
failed Close = Close
failed Read = Over ReadFailed
failed Write = Over WriteFailed
failed Say = Over SayFailed
failed (Over ending) = Over ending

-- bytes join the window, and none is the end of the input
unfoldable pub came : List ℕ → Standing → Standing
came bytes r = record { window = r.window ++ bytes; ended = eqb (length bytes) 0; tally = r.tally; left = r.left; stage = Judge }

-- what was taken is written, and none taken is a failure
unfoldable pub took : ℕ → Standing → Standing
took n r =
    cond (eqb n 0) (next (failed r.stage) r)
    (record {
      window = r.window;
      ended = r.ended;
      tally = r.tally;
      left = drop n r.left;
      stage = cond (eqb (length (drop n r.left)) 0) (behind r.stage) r.stage;
    })

-- an answer to a call that was not made changes nothing
abbrev pub heard : Standing → Reply → Standing
heard r (Came bytes) = cond (is_reading r.stage) (came bytes r) r
heard r (Took n) = cond (is_writing r.stage) (took n r) r
heard r Again = r
heard r Failed = next (failed r.stage) r

-- one turn
unfoldable pub turned : Standing → Reply → Standing
turned r reply = closed (judged (heard r reply))

-- ---- the whole run

-- turn after turn, from a place
abbrev pub ran_from : Standing → List Reply → Standing
ran_from r [] = r
ran_from r (reply ∷ replies) = ran_from (turned r reply) replies

-- what is moved turn by turn, joined
abbrev pub joined : (Standing → Reply → List ℕ) → Standing → List Reply → List ℕ
joined moved r [] = []
joined moved r (reply ∷ replies) = moved r reply ++ joined moved (turned r reply) replies

-- the bytes that an answer delivers from standard input
abbrev pub from_input : Standing → Reply → List ℕ
from_input r (Came bytes) = cond (is_reading r.stage) bytes []
from_input r (Took n) = []
from_input r Again = []
from_input r Failed = []

-- the bytes that an answer takes of what is left
abbrev pub taken : Standing → Reply → List ℕ
taken r (Came bytes) = []
taken r (Took n) = take n r.left
taken r Again = []
taken r Failed = []

-- those that go to standard output, in the stage that writes reports
abbrev pub output_at : Stage → List ℕ → List ℕ
output_at Judge bytes = []
output_at Close bytes = []
output_at Read bytes = []
output_at Write bytes = bytes
output_at Say bytes = []
output_at (Over ending) bytes = []

abbrev pub to_output : Standing → Reply → List ℕ
to_output r reply = output_at r.stage (taken r reply)

-- those that go to standard error, in the stage that says the last words
abbrev pub error_at : Stage → List ℕ → List ℕ
error_at Judge bytes = []
error_at Close bytes = []
error_at Read bytes = []
error_at Write bytes = []
error_at Say bytes = bytes
error_at (Over ending) bytes = []

abbrev pub to_error : Standing → Reply → List ℕ
to_error r reply = error_at r.stage (taken r reply)

-- the program after these answers, and all that was delivered, written and said by then
abbrev pub ran : List Reply → Standing
ran replies = ran_from begun replies

abbrev pub delivered : List Reply → List ℕ
delivered replies = joined from_input begun replies

abbrev pub written : List Reply → List ℕ
written replies = joined to_output begun replies

abbrev pub said : List Reply → List ℕ
said replies = joined to_error begun replies

-- ---- an operating system that has an input

-- what it does with a call: `Moves n` moves n + 1 bytes, or all that there are; a signal comes first; it fails
pub data Choice : Type 0 where
  Moves : ℕ → Choice
  Interrupts : Choice
  Breaks : Choice

-- its answer, with this input left
abbrev pub reply_to : Standing → List ℕ → Choice → Reply
reply_to r input (Moves n) = cond (is_reading r.stage) (Came (take (suc n) input)) (Took (suc n))
reply_to r input Interrupts = Again
reply_to r input Breaks = Failed

-- its answers to the program's calls, one after another
abbrev pub played_from : Standing → List ℕ → List Choice → List Reply
played_from r input [] = []
played_from r input (choice ∷ choices) =
    let reply = reply_to r input choice in
    reply ∷ played_from (turned r reply) (drop (length (from_input r reply)) input) choices

abbrev pub played : List ℕ → List Choice → List Reply
played input choices = played_from begun input choices

-- how many calls it moves bytes in, and how many it lets fail
abbrev pub moves : List Choice → ℕ
moves [] = 0
moves (Moves n ∷ choices) = suc (moves choices)
moves (Interrupts ∷ choices) = moves choices
moves (Breaks ∷ choices) = moves choices

abbrev pub breaks : List Choice → ℕ
breaks [] = 0
breaks (Moves n ∷ choices) = breaks choices
breaks (Interrupts ∷ choices) = breaks choices
breaks (Breaks ∷ choices) = suc (breaks choices)
