-- What is promised of the program's run.
use Rattle.std.specs.Prelude.{true, false, List, [], ◌∷◌, ◌++◌, ◌⊎◌, ◌≡◌, ℕ, ◌+◌, ◌≤◌, ◌<◌, length}
use Rattle.digits.specs.Ascii.{ascii}
use Rattle.record.specs.Calls.{form_of}
use Rattle.record.specs.Laws.{BegunAny, WrongAt}
use Rattle.report.specs.declared.Verdict.TheVariants.{Equal, Rounds, Cipher, Tag, Unread}
use Rattle.judge.specs.Laws.{Entry, AllInForm, texts_of}
use Rattle.judge.specs.Steps.{verdicts_of, output_from}
use Rattle.turns.specs.declared.Ending.TheVariants.{Said}
use Rattle.turns.specs.declared.Stage.TheVariants.{Read, Over}
use Rattle.turns.specs.declared.Tally.{Tally}
use Rattle.turns.specs.Tallies.{none, counted_all, largest, end_line, fault_line, last_words}
use Rattle.turns.specs.Run.{Standing, Reply, Took, Failed, is_writing, is_over, asks, turned, heard, ran, delivered, written, said, Choice, played, moves, breaks}

-- an input that these answers can come from: it begins with what was delivered, and has no more where its end was told
pub record Of (replies : List Reply) (input : List ℕ) : Type 0 where
  pub rest : List ℕ
  pub begins : input ≡ delivered replies ++ rest
  pub whole : (ran replies).ended ≡ true → rest ≡ []

-- the last words of a run on this input
unfoldable pub words_on : List ℕ → List ℕ
words_on input = last_words (counted_all none (verdicts_of input))

-- how many calls that move bytes are enough for this input: one for each byte read, written and said, and one for the end of the input
unfoldable pub enough : List ℕ → ℕ
enough input = length input + 1 + length (output_from 1 input) + length (words_on input)

pub record WholeReports : Type 0 where
  -- the line that ends a run, spelled out for 6,000 records and for none; each verdict is counted under its own word, and where an unread one broke is kept
  pub line : end_line (record { equal = 5_990; differ = 9; unread = 1; line = 4; column = 17 }) ≡ ascii "bench: 6000 records: 5990 equal, 9 differ, 1 unread\n"
  pub no_line : end_line none ≡ ascii "bench: 0 records: 0 equal, 0 differ, 0 unread\n"
  pub counts : counted_all none (Equal ∷ Rounds ∷ Cipher ∷ Tag ∷ Unread 3 5 ∷ []) ≡ record { equal = 1; differ = 3; unread = 1; line = 3; column = 5 }
  -- the last words, spelled out where the third record is unread; without an unread record they are the line alone
  pub fault : last_words (record { equal = 1; differ = 1; unread = 1; line = 4; column = 17 })
      ≡ ascii "bench: record 3: line 4, column 17\nbench: 3 records: 1 equal, 1 differ, 1 unread\n"
  pub no_fault : (t : Tally) → t.unread ≡ 0 → last_words t ≡ end_line t
  -- behind records in form, of either form, a text that is wrong at a line and column: the last words begin with its number, that line and that column
  pub place : (entries : List Entry) (text : List ℕ) (line column : ℕ) → AllInForm entries → 1 ≤ length text → WrongAt (form_of text) text line column
      → let input = texts_of entries ++ text in
      words_on input ≡ fault_line (ascii "bench: record ") (length entries + 1) line column ++ end_line (counted_all none (verdicts_of input))
  -- more is read only while the input has not ended and what is not judged yet is no record, but some more makes it one: what no input can mend is reported before
  -- anything more is read
  pub at_once : (replies : List Reply) → let r = ran replies in
      r.stage ≡ Read → (r.ended ≡ false) × (BegunAny r.window → ⊥) × ((more : List ℕ) × BegunAny (r.window ++ more))
  -- whatever the operating system answers, what is written is the beginning of the output
  pub begins : (replies : List Reply) (input : List ℕ) → Of replies input → (more : List ℕ) × (output_from 1 input ≡ written replies ++ more)
  -- where the end is said, all of the output is written, and the last words are those on its verdicts
  pub whole : (replies : List Reply) (input : List ℕ) → Of replies input → (ran replies).stage ≡ Over Said
      → (written replies ≡ output_from 1 input) × (said replies ≡ words_on input)
  -- where it is not, the last words lack their last byte at the least
  pub unsaid : (replies : List Reply) → ((ran replies).stage ≡ Over Said → ⊥)
      → (more : List ℕ) × (last_words (ran replies).tally ≡ said replies ++ more) × (1 ≤ length more)
  -- after a call that failed the end is never said, and a write that takes no byte is one
  pub fails : (before after : List Reply) → asks (ran before).stage ≡ true → (ran (before ++ Failed ∷ after)).stage ≡ Over Said → ⊥
  pub no_byte : (before after : List Reply) → is_writing (ran before).stage ≡ true → (ran (before ++ Took 0 ∷ after)).stage ≡ Over Said → ⊥
  -- an operating system that has an input gives answers that can come from it, however it cuts it
  pub answers : (input : List ℕ) (choices : List Choice) → Of (played input choices) input
  -- and where it lets no call fail, the end is said after enough calls, unless there are 2^64 - 2 records or more
  pub ends : (input : List ℕ) (choices : List Choice) → length (verdicts_of input) + 1 < largest → breaks choices ≡ 0 → enough input ≤ moves choices
      → (ran (played input choices)).stage ≡ Over Said

-- ---- what the code's functions promise

-- one answer heard
pub record OneAnswer (r s : Standing) : Type 0 where
  pub reply : Reply
  pub is : s ≡ heard r reply

-- one turn
pub record Turned (r s : Standing) : Type 0 where
  pub reply : Reply
  pub is : s ≡ turned r reply

-- where some answers lead to, one a turn; it is left only when nothing is next, or after the largest number of turns
pub record Ran (s : Standing) : Type 0 where
  pub replies : List Reply
  pub is : s ≡ ran replies
  pub over : (is_over s.stage ≡ true) ⊎ (length replies ≡ largest)
