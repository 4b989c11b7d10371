-- A chip's log, read and replayed: all that is said of its calls.
use Rattle.std.specs.Prelude.{◌≡◌, Bool, true, false, cond, List, [], ◌++◌, ◌↔◌, ◌⊎◌, ℕ, ◌≤◌, ◌<◌, length, take, drop, Result}
use contract.Lifetimes.{Lfts}
use Rattle.answers.specs.declared.Answer as answers
use Rattle.answers.specs.declared.Answer.TheVariants.{Done, BrokenRecord}
use Rattle.lines.specs.declared.table.Read.{Read}
use Rattle.lines.specs.declared.table.Unread as broken
use Rattle.chip_log.specs.declared.form.Entry.{Entry}
use Rattle.chip_log.specs.Form.{entry_text, blank}
use Rattle.chip_log.specs.Calls.{Reading, reading_of, read_entry}
use Rattle.chip_log.specs.Laws.{InForm, BegunEntry, WrongEntry, most_bytes}
use Rattle.stream.specs.declared.Stream.{Stream}
use Rattle.stream.specs.State.{ended}
use Rattle.replay.specs.declared.cursor.Log.{Log}
use Rattle.replay.specs.declared.whole.Conclusion.{Conclusion}
use Rattle.replay.specs.declared.window.Stretch.{Stretch}
use Rattle.replay.specs.declared.window.Verdict.{Verdict}
use Rattle.replay.specs.declared.window.Verdict.TheVariants.{Agrees, Answer, Out, Rounds, Unread, Open}
use Rattle.replay.specs.Cursor.{log_at}
use Rattle.replay.specs.Replays.{is_agreed, at_end, stopped, further, step_by, stretch_of, told, replay_of}
use Rattle.replay.specs.Laws.{Ours, FirstWrong}
use Rattle.chip_log.proofs as chip_log
use Rattle.replay.proofs as replay-crate
use Rattle.letter.specs.Calls.{Answered, Lent, Gives, Seen, Tells, Refused}

-- ---- the calls

-- what each answers, on any input
pub record Model : Type 0 where
  pub read : List ℕ → Reading
  pub opened : Lent → Log
  pub moved : Log → ℕ → Log
  pub entry : Log → Reading
  pub window : List ℕ → Bool → Stream → Stretch
  pub replay : List ℕ → Conclusion

-- our own, by the definitions that the contracts cite
abbrev pub ours : Model
ours =
    record {
      read = read_entry;
      opened = λ bytes. log_at bytes 0;
      moved = λ log place. log_at log.bytes place;
      entry = λ log. read_entry (drop log.place log.bytes.now);
      window = λ window over s. stretch_of over s window;
      replay = replay_of;
    }

-- what `open`, `moved` and `entry` ask of their caller, and what a caller learns from their contracts; an argument or the result is a struct that holds a reference
abbrev pub open_asked : Lfts 1 → Lent × Unit {0} → Type 0
open_asked = replay-crate.«open».Reads.Asked

abbrev pub open_learnt : Lfts 1 → Lent × Unit {0} → Log → Lent × Unit {0} → Type 0
open_learnt = replay-crate.«open».Reads.Learnt

abbrev pub moved_asked : Lfts 1 → Log × (ℕ × Unit {0}) → Type 0
moved_asked = replay-crate.moved.Reads.Asked

abbrev pub moved_learnt : Lfts 1 → Log × (ℕ × Unit {0}) → Log → Log × (ℕ × Unit {0}) → Type 0
moved_learnt = replay-crate.moved.Reads.Learnt

abbrev pub entry_asked : Lfts 1 → Log × Unit {0} → Type 0
entry_asked = replay-crate.entry.Reads.Asked

abbrev pub entry_learnt : Lfts 1 → Log × Unit {0} → Result (Read Entry) broken.Unread → Log × Unit {0} → Type 0
entry_learnt = replay-crate.entry.Reads.Learnt

-- and of what a reading is seen as
abbrev pub entry_seen : Lfts 1 → Log × Unit {0} → Reading → Log × Unit {0} → Type 0
entry_seen = Seen reading_of entry_learnt

abbrev pub read_learnt : Lfts 1 → Lent × Unit {0} → Reading → Lent × Unit {0} → Type 0
read_learnt = Seen reading_of chip_log.read.Reads.Learnt

-- each gives what the contract of the code allows
pub record Keeps (m : Model) : Type 0 where
  pub read : (text : Lent) → Gives read_learnt (text, tt) (m.read text.now)
  pub opened : (bytes : Lent) → Gives open_learnt (bytes, tt) (m.opened bytes)
  pub moved : (log : Log) (place : ℕ) → Gives moved_learnt (log, (place, tt)) (m.moved log place)
  pub entry : (log : Log) → Gives entry_seen (log, tt) (m.entry log)
  pub window : (window : Lent) (over : Bool) (s : Stream) → Gives replay-crate.replay_window.Reads.Learnt (window, (over, (s, tt))) (m.window window.now over s)
  pub replay : (log : Lent) → Gives replay-crate.replay.Reads.Learnt (log, tt) (m.replay log.now)

-- each public call, and its one outcome
pub record EveryCall : Type 2 where
  pub log_read : Answered chip_log.read.Statement.statement chip_log.read.Reads.Asked chip_log.read.Reads.Learnt
      (λ r e. reading_of r) (λ (text, _). read_entry text.now)
  pub replay_open : Answered replay-crate.«open».Statement.statement open_asked open_learnt (λ r e. r) (λ (bytes, _). log_at bytes 0)
  pub replay_moved : Answered replay-crate.moved.Statement.statement moved_asked moved_learnt (λ r e. r) (λ (log, (place, _)). log_at log.bytes place)
  pub replay_entry : Answered replay-crate.entry.Statement.statement entry_asked entry_learnt (λ r e. reading_of r) (λ (log, _). read_entry (drop log.place log.bytes.now))
  -- what is read off these three contracts is their equations, no more and no less
  pub replay_open_read : (κs : Lfts 1) (bytes : Lent) (r : Log) (e : Lent × Unit {0}) → open_learnt κs (bytes, tt) r e ≡ (r ≡ log_at bytes 0)
  pub replay_moved_read : (κs : Lfts 1) (log : Log) (place : ℕ) (r : Log) (e : Log × (ℕ × Unit {0}))
      → moved_learnt κs (log, (place, tt)) r e ≡ (r ≡ log_at log.bytes place)
  pub replay_entry_read : (κs : Lfts 1) (log : Log) (r : Result (Read Entry) broken.Unread) (e : Log × Unit {0})
      → entry_learnt κs (log, tt) r e ≡ (reading_of r ≡ read_entry (drop log.place log.bytes.now))
  pub replay_replay_window : Answered replay-crate.replay_window.Statement.statement replay-crate.replay_window.Reads.Asked replay-crate.replay_window.Reads.Learnt
      (λ r e. r) (λ (window, (over, (s, _))). stretch_of over s window.now)
  pub replay_replay : Answered replay-crate.replay.Statement.statement replay-crate.replay.Reads.Asked replay-crate.replay.Reads.Learnt
      (λ r e. r) (λ (log, _). replay_of log.now)

-- what is seen of a reading tells its result
pub record Told : Type 0 where
  pub reading : Tells reading_of

-- ---- what they answer

-- a text that is read: it begins with an entry in form; what was taken is that entry
pub record IsRead (text : List ℕ) (reading : Reading) : Type 0 where
  pub done : reading.answer ≡ Done
  pub no_line : reading.line ≡ 0
  pub no_column : reading.column ≡ 0
  pub not_early : reading.early ≡ false
  pub begun : BegunEntry text
  pub inside : reading.taken ≤ length text
  pub spelled : take reading.taken text ≡ entry_text reading.content
  pub in_form : InForm reading.content

-- the answer of a replay that tells a verdict, in paper 01's list, and the line and column that go with it: an unread entry is 10; any other verdict means that the replay was done, 0
abbrev pub answer_of : Verdict → answers.Answer
answer_of Agrees = Done
answer_of Answer = Done
answer_of Out = Done
answer_of Rounds = Done
answer_of (Unread line column) = BrokenRecord
answer_of Open = Done

abbrev pub line_of : Verdict → ℕ
line_of Agrees = 0
line_of Answer = 0
line_of Out = 0
line_of Rounds = 0
line_of (Unread line column) = line
line_of Open = 0

abbrev pub column_of : Verdict → ℕ
column_of Agrees = 0
column_of Answer = 0
column_of Out = 0
column_of Rounds = 0
column_of (Unread line column) = column
column_of Open = 0

-- the reading of an entry of a log
pub record ReadSo (read : List ℕ → Reading) : Type 0 where
  -- a text is read, or it is 10
  pub answer : (text : List ℕ) → IsRead text (read text) ⊎ ((read text).answer ≡ BrokenRecord)
  -- it is 10 with a line and column exactly where the lines before are right and behind them the text leaves the right lines at that column
  pub place : (text : List ℕ) (line column : ℕ) → let reading = read text in
      ((reading.answer ≡ BrokenRecord) × (reading.line ≡ line) × (reading.column ≡ column)) ↔ WrongEntry text line column
  -- a text ended too early exactly where it does not begin with an entry, and some more of it makes it begin with one; nothing behind any other matters
  pub early : (text : List ℕ) → ((read text).early ≡ true) ↔ ((BegunEntry text → ⊥) × ((more : List ℕ) × BegunEntry (text ++ more)))
  pub decided : (text more : List ℕ) → (read text).early ≡ false → read (text ++ more) ≡ read text

-- the replay of a whole log
pub record ReplayedSo (replay : List ℕ → Conclusion) : Type 0 where
  -- all agree, so many entries, exactly where the log is ours
  pub agrees : (log : List ℕ) (entries : ℕ) → (replay log ≡ told entries Agrees) ↔ Ours log entries
  -- an entry is named with another verdict exactly where it is the first that is wrong, and wrong in this way
  pub first : (log : List ℕ) (entry : ℕ) (verdict : Verdict) → is_agreed verdict ≡ false
      → (replay log ≡ record { entry = entry; verdict = verdict }) ↔ FirstWrong log entry verdict
  -- it is 10 with the entry's number, line and column exactly where that entry is the first that is wrong, and broken there
  pub broken : (log : List ℕ) (entry line column : ℕ) → let verdict = (replay log).verdict in
      ((answer_of verdict ≡ BrokenRecord) × ((replay log).entry ≡ entry) × (line_of verdict ≡ line) × (column_of verdict ≡ column)) ↔ FirstWrong log entry (Unread line column)
  -- more of the log is never wanted
  pub decided : (log : List ℕ) → (replay log).verdict ≡ Open → ⊥

-- each answer, and what goes with it
pub record Listed (m : Model) : Type 0 where
  pub read : ReadSo m.read
  -- a log is opened at its beginning, and moved to the place that is asked for; its bytes are those that were lent
  pub opened : (bytes : Lent) → m.opened bytes ≡ log_at bytes 0
  pub moved : (log : Log) (place : ℕ) → m.moved log place ≡ log_at log.bytes place
  -- the entry at a log's place is read as the text from there on; past the end that is the empty text
  pub entry : (log : Log) → m.entry log ≡ m.read (drop log.place log.bytes.now)
  -- a window without a byte has no entry; any other has the verdict on its first, and, where that agrees, goes on behind it from the state that the entry left
  pub window_empty : (over : Bool) (s : Stream) → m.window [] over s ≡ stopped s (at_end over)
  pub window : (text : List ℕ) (over : Bool) (s : Stream) → 1 ≤ length text → let step = step_by over s (m.read text) in
      m.window text over s
      ≡ cond (is_agreed step.verdict) (further step.taken (m.window (drop step.taken text) over step.next)) (stopped s step.verdict)
  -- a window is left open only where the log goes on, what was not replayed is no entry, and some more of the log makes it one
  pub window_open : (text : List ℕ) (over : Bool) (s : Stream) → (m.window text over s).verdict ≡ Open → let left = drop (m.window text over s).taken text in
      (over ≡ false) × (BegunEntry left → ⊥) × ((more : List ℕ) × BegunEntry (left ++ more)) × (length left < most_bytes)
  pub replay : ReplayedSo m.replay
  -- a whole log is a window with nothing behind it, from the ended state
  pub whole : (log : List ℕ) → let r = m.window log true ended in m.replay log ≡ told r.entries r.verdict

-- ---- what they leave

-- nothing is lent to be written; a refused reading takes nothing, and hands back the entry with nothing in it
abbrev pub HandsBackNothing : Reading → Type 0
HandsBackNothing reading = Refused reading.answer → (reading.taken ≡ 0) × (reading.content ≡ blank)

pub record Unchanged (m : Model) : Type 0 where
  pub read : (text : List ℕ) → HandsBackNothing (m.read text)
  pub entry : (log : Log) → HandsBackNothing (m.entry log)
