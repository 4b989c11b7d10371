-- Wrong versions of the program's functions, each told by one input: what its contracts do not allow.
use Rattle.std.specs.Prelude.{Option, Some, None, Result, Ok, Err, true, List, [], ◌∷◌, ◌≡◌, ◌≤◌, ℕ, ℤ, pos}
use Rattle.digits.specs.Ascii.{ascii}
use Rattle.moving.specs.declared.route.Route.{Route}
use Rattle.moving.specs.declared.route.Route.TheVariants.{Import, Export}
use Rattle.replay.specs.declared.window.Verdict as replay
use Rattle.replay.specs.declared.window.Verdict.TheVariants.{Agrees, Answer, Open}
use Rattle.report.specs.declared.Verdict.{Verdict}
use Rattle.report.specs.declared.Verdict.TheVariants.{Tag, Unread}
use Rattle.stream.specs.State.{ended}
use Rattle.turns.specs.declared.Stage.TheVariants.{Close}
use Rattle.turns.specs.declared.Tally.{Tally}
use Rattle.turns.specs.Tallies.{none}
use Rattle.bench.specs.declared.progress.Unmoved.TheVariants.{Again, Failed}
use Rattle.bench.specs.declared.progress.Progress.{Progress}
use Rattle.bench.specs.declared.replays.Replaying.{Replaying}
use Rattle.bench.specs.declared.whole.Unread as whole
use Rattle.bench.specs.declared.whole.Unwritten.{Unwritten}
use Rattle.bench.specs.declared.Task.{Task}
use Rattle.bench.specs.declared.Task.TheVariants.{Judge, Move, Replay}
use Rattle.bench.specs.Progress.{Heard, fresh}

-- a replay before its first read
abbrev pub beginning : Replaying
beginning = record { left = 0; entries = 0; stream = ended; verdict = Open; fault = None }

-- of the results that contracts allow: of hearing a raw answer, of an answer to a read, of counting a verdict; where all of the input is read first, of an answer to a
-- read and to a write; of reading a decimal, and of the program's words; of the number of a log's entry, and of an answer to a read of a log
pub record RuledOut
    (hears : Result ℕ ℤ → Heard → Type 0) (reads : Progress → Heard → Progress → Type 0) (counts : Tally → Verdict → Tally → Type 0)
    (inputs : ℕ → Heard → Result (Option ℕ) whole.Unread → Type 0) (outputs : ℕ → Heard → Result ℕ Unwritten → Type 0)
    (decimals : List ℕ → Option ℕ → Type 0) (tasks : ℕ → List ℕ → List ℕ → Option Task → Type 0)
    (numbers : ℕ → replay.Verdict → ℕ → Type 0) (replays : Replaying → List ℕ → Heard → Replaying → List ℕ → Type 0)
    : Type 0 where
  -- a call that failed with another error than a signal's is not tried again
  pub signal : hears (Err (pos 5)) (Err Again) → ⊥
  -- a read that moved a byte is not the end of the input
  pub end : (p : Progress) → reads fresh (Ok 1) p → p.ended ≡ true → ⊥
  -- nor is one that failed
  pub failure : (p : Progress) → reads fresh (Err Failed) p → p.stage ≡ Close → ⊥
  -- a record whose tag differs is not counted as equal
  pub tag : (t : Tally) → counts none Tag t → t.equal ≡ 1 → ⊥
  -- a tally of an unread record does not forget its column
  pub column : (t : Tally) → counts none (Unread 4 17) t → t.column ≡ 0 → ⊥
  -- a failed read is not the end of an input that is to be moved, nor is one that delivered a byte
  pub input_failure : (filled : ℕ) → inputs filled (Err Failed) (Ok None) → ⊥
  pub input_end : (filled : ℕ) → inputs filled (Ok 1) (Ok None) → ⊥
  -- a write that took no byte is not tried again
  pub output_nothing : (from : ℕ) → outputs from (Ok 0) (Ok from) → ⊥
  -- an empty word is no number, nor is one with a sign, nor one with more than 64 bits
  pub decimal_empty : (n : ℕ) → decimals [] (Some n) → ⊥
  pub decimal_sign : (n : ℕ) → decimals (ascii "+1") (Some n) → ⊥
  pub decimal_large : (n : ℕ) → decimals (ascii "18446744073709551616") (Some n) → ⊥
  -- but the largest of 64 bits is one, also behind needless zeros
  pub decimal_largest : decimals (ascii "18446744073709551615") None → ⊥
  pub decimal_zeros : decimals (ascii "00018446744073709551615") None → ⊥
  -- its digits are not read from right to left
  pub decimal_order : decimals (ascii "12") (Some 21) → ⊥
  -- a set is not taken for another, nor one way for the other
  pub task_set : tasks 3 (ascii "import") (ascii "1") (Some (Move (Import 2))) → ⊥
  pub task_way : tasks 3 (ascii "import") (ascii "1") (Some (Move Export)) → ⊥
  -- without a set, with one that is too large, or with another word behind the set, nothing is moved
  pub task_alone : (route : Route) → tasks 2 (ascii "import") [] (Some (Move route)) → ⊥
  pub task_large : (route : Route) → tasks 3 (ascii "import") (ascii "18446744073709551616") (Some (Move route)) → ⊥
  pub task_more : (route : Route) → tasks 4 (ascii "import") (ascii "1") (Some (Move route)) → ⊥
  -- nor with a set behind another word
  pub task_other : (route : Route) → tasks 3 (ascii "export") (ascii "1") (Some (Move route)) → ⊥
  -- a set that is not known is one for the moving to refuse, and no unknown word
  pub task_unknown : tasks 3 (ascii "import") (ascii "5") None → ⊥
  -- a word that is not known is not judging
  pub task_judge : tasks 2 (ascii "imports") [] (Some Judge) → ⊥
  -- replaying is no other task, and takes no word behind it
  pub task_replay : tasks 2 (ascii "replay") [] None → ⊥
  pub task_replay_judge : tasks 2 (ascii "replay") [] (Some Judge) → ⊥
  pub task_replay_more : tasks 3 (ascii "replay") (ascii "1") (Some Replay) → ⊥
  -- the entries of a log are not counted from 0; where all agree, there is none more
  pub entry_zero : numbers 0 Answer 0 → ⊥
  pub entry_agreed : numbers 2 Agrees 3 → ⊥
  -- a failed read of a log is not its end, nor is one that brought a byte
  pub log_failure : (r : Replaying) (after : List ℕ) → replays beginning [] (Err Failed) r after → r.verdict ≡ Agrees → ⊥
  pub log_end : (r : Replaying) (after : List ℕ) → replays beginning (0x63 ∷ []) (Ok 1) r after → r.verdict ≡ Agrees → ⊥

-- of the places that a read of more input may leave, whatever the system answers
pub record RuledOutReads (reads : Progress → List ℕ → Progress → List ℕ → Type 0) : Type 0 where
  -- a window that did not begin at the front of the buffer is not left where it was: without room behind it, no more could be read
  pub window_left : (p : Progress) (before after : List ℕ) → 1 ≤ p.start → reads p before p after → ⊥
