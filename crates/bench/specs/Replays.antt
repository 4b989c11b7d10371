-- The replay of the log on standard input, by what the operating system answers call by call, and what the program says of it.
use Rattle.std.specs.Prelude.{Option, Some, None, Ok, Err, Bool, true, false, cond, ◌&&◌, ◌||◌, List, [], ◌∷◌, ◌++◌, ◌⊎◌, ◌≡◌, ℕ, ◌+◌, ◌-◌, ◌<◌, eqb, ltb, length, take, drop}
use Rattle.digits.specs.Ascii.{ascii}
use Rattle.chip_log.specs.Laws.{most_bytes}
use Rattle.replay.specs.declared.window.Stretch.{Stretch}
use Rattle.replay.specs.declared.window.Verdict.{Verdict}
use Rattle.replay.specs.declared.window.Verdict.TheVariants.{Agrees, Answer, Out, Rounds, Unread, Open}
use Rattle.replay.specs.Replays.{told, replay_of}
use Rattle.replay.specs.Laws.{SoFar, is_open, onward}
use Rattle.replay.specs.Laws as laws
use Rattle.turns.specs.Run as run
use Rattle.turns.specs.Run.{Reply}
use Rattle.turns.specs.Tallies.{largest, numbered, fault_line}
use Rattle.bench.specs.declared.progress.Unmoved.TheVariants.{Again, Failed}
use Rattle.bench.specs.declared.replays.Fault.{Fault}
use Rattle.bench.specs.declared.replays.Fault.TheVariants as fault
use Rattle.bench.specs.declared.replays.Replaying.{Replaying}
use Rattle.bench.specs.Progress.{Heard}

-- ---- the run

-- a replay so far, and what keeps it from its verdict
pub record Going : Type 0 where
  pub so_far : SoFar
  pub fault : Option Fault

abbrev pub going : SoFar → Option Fault → Going
going so_far fault = record { so_far = so_far; fault = fault }

-- before the first read
abbrev pub begun : Going
begun = going laws.begun None

abbrev pub is_none : Option Fault → Bool
is_none None = true
is_none (Some why) = false

-- it goes on: no verdict is told, and nothing keeps it from one
abbrev pub goes_on : Going → Bool
goes_on g = is_none g.fault && is_open g.so_far.verdict

-- the number of an entry has 64 bits
abbrev pub counted : SoFar → SoFar → Going
counted before after = cond (ltb after.entries largest) (going after None) (going before (Some fault.TooMany))

-- what an answer to a read makes of it: bytes are a window more, and none is the end of the log; a signal changes nothing; a failure is no end. An answer to a write, which
-- no read gets, changes nothing either
abbrev pub heard_by : SoFar → Reply → Going
heard_by f (run.Came bytes) = counted f (onward (eqb (length bytes) 0) f bytes)
heard_by f (run.Took n) = going f None
heard_by f run.Again = going f None
heard_by f run.Failed = going f (Some fault.Reading)

-- one answer more; a replay that is over stays as it is
abbrev pub further : Going → Reply → Going
further g reply = cond (goes_on g) (heard_by g.so_far reply) g

-- answer after answer
abbrev pub replayed_on : Going → List Reply → Going
replayed_on g [] = g
replayed_on g (reply ∷ replies) = replayed_on (further g reply) replies

-- ---- the log behind the answers

-- the bytes that an answer brings, and whether it is the end of the log
abbrev pub bytes_in : Reply → List ℕ
bytes_in (run.Came bytes) = bytes
bytes_in (run.Took n) = []
bytes_in run.Again = []
bytes_in run.Failed = []

abbrev pub is_end : Reply → Bool
is_end (run.Came bytes) = eqb (length bytes) 0
is_end (run.Took n) = false
is_end run.Again = false
is_end run.Failed = false

-- the bytes that were delivered as long as the replay went on
abbrev pub delivered : Going → List Reply → List ℕ
delivered g [] = []
delivered g (reply ∷ replies) = cond (goes_on g) (bytes_in reply ++ delivered (further g reply) replies) []

-- the end of the log was told
abbrev pub end_told : Going → List Reply → Bool
end_told g [] = false
end_told g (reply ∷ replies) = goes_on g && (is_end reply || end_told (further g reply) replies)

-- a log that these answers can come from: it begins with what was delivered, and has no more where its end was told
pub record LogOf (replies : List Reply) (log : List ℕ) : Type 0 where
  pub rest : List ℕ
  pub begins : log ≡ delivered begun replies ++ rest
  pub whole : end_told begun replies ≡ true → rest ≡ []

-- ---- what the program says

-- the verdict and its field
abbrev pub verdict_words : Verdict → List ℕ
verdict_words Agrees = ascii "\nverdict=agrees\nfield=none\n"
verdict_words Answer = ascii "\nverdict=differs\nfield=answer\n"
verdict_words Out = ascii "\nverdict=differs\nfield=out\n"
verdict_words Rounds = ascii "\nverdict=differs\nfield=rounds\n"
verdict_words (Unread line column) = numbered (ascii "\nverdict=unread\nfield=") line ++ ascii "\n"
verdict_words Open = ascii "\n"

-- the three lines on standard output
unfoldable pub report_words : ℕ → Verdict → List ℕ
report_words entry verdict = numbered (ascii "entry=") entry ++ verdict_words verdict

-- the line that ends a replay
unfoldable pub end_line : ℕ → List ℕ
end_line entry = numbered (ascii "bench: done: entries=") entry ++ ascii "\n"

-- what a replay says at its end: where an unread entry broke, and that line
abbrev pub last_words : ℕ → Verdict → List ℕ
last_words entry Agrees = end_line entry
last_words entry Answer = end_line entry
last_words entry Out = end_line entry
last_words entry Rounds = end_line entry
last_words entry (Unread line column) = fault_line (ascii "bench: entry ") entry line column ++ end_line entry
last_words entry Open = end_line entry

-- ---- what the code's functions promise

-- the code's replay goes on
abbrev pub is_running : Replaying → Bool
is_running r = is_none r.fault && is_open r.verdict

-- the code's replay, kept from its verdict
abbrev pub with_fault : Replaying → Fault → Replaying
with_fault r fault = record { left = r.left; entries = r.entries; stream = r.stream; verdict = r.verdict; fault = Some fault }

-- and behind a stretch of so many bytes
abbrev pub stretched : Replaying → ℕ → Stretch → Replaying
stretched r filled stretch =
    record { left = filled - stretch.taken; entries = r.entries + stretch.entries; stream = stretch.stream; verdict = stretch.verdict; fault = None }

-- what the buffer shows of a replay
abbrev pub so_far : Replaying → List ℕ → SoFar
so_far r buffer = record { left = take r.left buffer; entries = r.entries; stream = r.stream; verdict = r.verdict }

abbrev pub shown : Replaying → List ℕ → Going
shown r buffer = going (so_far r buffer) r.fault

-- where the replay goes on, what is left is shorter than the most bytes of an entry; the entries can be counted
pub record Ready (r : Replaying) : Type 0 where
  pub room : is_running r ≡ true → r.left < most_bytes
  pub number : r.entries < largest

-- in a buffer that has room for more than those bytes
pub record ReadyIn (buffer : List ℕ) (r : Replaying) : Type 0 where
  pub wide : most_bytes < length buffer
  pub ready : Ready r

-- so many bytes behind what is left were replayed
pub record HeardBytes (r : Replaying) (before : List ℕ) (count : ℕ) (s : Replaying) (after : List ℕ) : Type 0 where
  pub is : shown s after ≡ heard_by (so_far r before) (run.Came (take count (drop r.left before)))
  pub ready : Ready s

-- what the answer to a read says, of a buffer that it came into behind what is left
abbrev pub reply_of : ℕ → List ℕ → Heard → Reply
reply_of left buffer (Ok count) = run.Came (take count (drop left buffer))
reply_of left buffer (Err Again) = run.Again
reply_of left buffer (Err Failed) = run.Failed

-- this answer
pub record HeardAs (r : Replaying) (before : List ℕ) (heard : Heard) (s : Replaying) (after : List ℕ) : Type 0 where
  pub is : shown s after ≡ heard_by (so_far r before) (reply_of r.left before heard)
  pub ready : Ready s

-- some answer
pub record HeardOne (g h : Going) : Type 0 where
  pub reply : Reply
  pub is : h ≡ further g reply

-- some answers, one after another from the beginning on, led to this; the replay goes on until it is over, or until the turns are used up
pub record ReplayedAll (g : Going) : Type 0 where
  pub replies : List Reply
  pub is : g ≡ replayed_on begun replies
  pub over : (goes_on g ≡ false) ⊎ (length replies ≡ largest)

-- ---- what is promised of it

pub record ReplaysInput : Type 0 where
  -- a verdict that is told is that of the whole log that the answers come from, and so is the number of its entry
  pub verdict : (replies : List Reply) (log : List ℕ) → LogOf replies log → let g = replayed_on begun replies in
      g.fault ≡ None → is_open g.so_far.verdict ≡ false → told g.so_far.entries g.so_far.verdict ≡ replay_of log
  -- at the end of the log it does not go on: a verdict is told, or something keeps it from one
  pub ends : (replies : List Reply) → end_told begun replies ≡ true → goes_on (replayed_on begun replies) ≡ false
  -- all agree is told only where the end of the log was
  pub at_end : (replies : List Reply) → (replayed_on begun replies).so_far.verdict ≡ Agrees → end_told begun replies ≡ true
  -- a read that fails before a verdict is told leaves none
  pub failure : (before after : List Reply) → goes_on (replayed_on begun before) ≡ true → (replayed_on begun (before ++ run.Failed ∷ after)).fault ≡ Some fault.Reading
  -- the words, spelled out: all agree, an empty log, each difference, an entry that is unread
  pub agreed : report_words 3 Agrees ≡ ascii "entry=3\nverdict=agrees\nfield=none\n"
  pub empty : report_words 0 Agrees ≡ ascii "entry=0\nverdict=agrees\nfield=none\n"
  pub other_answer : report_words 1 Answer ≡ ascii "entry=1\nverdict=differs\nfield=answer\n"
  pub other_rounds : report_words 4 Rounds ≡ ascii "entry=4\nverdict=differs\nfield=rounds\n"
  pub other_out : report_words 2 Out ≡ ascii "entry=2\nverdict=differs\nfield=out\n"
  pub unread : report_words 3 (Unread 2 9) ≡ ascii "entry=3\nverdict=unread\nfield=2\n"
  pub fault : last_words 3 (Unread 2 9) ≡ ascii "bench: entry 3: line 2, column 9\nbench: done: entries=3\n"
  pub done : last_words 3 Agrees ≡ ascii "bench: done: entries=3\n"
