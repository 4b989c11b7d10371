-- The entries of published test files: all that is said of their calls.
use contract.Lifetimes.{Lfts}
use Rattle.std.specs.Prelude.{◌≡◌, true, false, List, ◌++◌, ◌↔◌, ◌⊎◌, ℕ, ◌≤◌, length, take, drop}
use Rattle.answers.specs.declared.Answer.TheVariants.{Done, UnknownSet, BrokenRecord}
use Rattle.answers.specs.Order.{first}
use Rattle.ascon.specs.Sets.{is_set}
use Rattle.record.specs.declared.form.Form.TheVariants.{One}
use Rattle.record.specs.declared.form.Record.{Record}
use Rattle.record.specs.Form.{broken}
use Rattle.record.specs.Calls.{Reading, Writing, writing_of, WriteLeaves, write_leaves, write_faults}
use Rattle.entry.specs.Form.{largest_number, entry_text}
use Rattle.entry.specs.Calls.{reading_of, read_entry, write_entry}
use Rattle.entry.specs.Laws as entry-laws
use Rattle.entry.specs.Laws.{Begun, WrongAt}
use Rattle.entry.proofs as entry-crate
use Rattle.letter.specs.Calls.{Answered, Lent, LentMut, holding, Leaves, Gives, Seen, Tells, Refused}
use Rattle.letter.specs.Records.{HandsBackNothing}

-- ---- the calls

-- what each answers, and what it leaves in a lent place, on any input
pub record Model : Type 0 where
  pub read : ℕ → ℕ → List ℕ → Reading
  pub write : ℕ → Record → List ℕ → WriteLeaves

-- our own, by the definitions that the contracts cite
abbrev pub ours : Model
ours = record { read = read_entry; write = write_entry }

-- what a caller learns from the contracts of the code, of what a reading or a writing is seen as
abbrev pub read_learnt : Lfts 1 → ℕ × (ℕ × (Lent × Unit {0})) → Reading → ℕ × (ℕ × (Lent × Unit {0})) → Type 0
read_learnt = Seen reading_of entry-crate.read.Reads.Learnt

abbrev pub write_learnt : Lfts 1 → ℕ × (Record × (LentMut × Unit {0})) → Writing → ℕ × (Record × (LentMut × Unit {0})) → Type 0
write_learnt = Seen writing_of entry-crate.write.Reads.Learnt

-- each gives what the contract of the code allows
pub record Keeps (m : Model) : Type 0 where
  pub read : (set number : ℕ) (text : Lent) → Gives read_learnt (set, (number, (text, tt))) (m.read set number text.now)
  pub write : (number : ℕ) (entry : Record) (out : LentMut) → let leaves = m.write number entry out.now in
      Leaves write_learnt (number, (entry, (out, tt))) leaves.outcome (number, (entry, (holding out leaves.out, tt)))

-- each public call, and its one outcome
pub record EveryCall : Type 2 where
  pub entry_read : Answered entry-crate.read.Statement.statement entry-crate.read.Reads.Asked entry-crate.read.Reads.Learnt
      (λ r e. reading_of r) (λ (set, (number, (text, _))). read_entry set number text.now)
  pub entry_write : Answered entry-crate.write.Statement.statement entry-crate.write.Reads.Asked entry-crate.write.Reads.Learnt
      (λ r (number, (entry, (out, _))). write_leaves (writing_of r) out.now) (λ (number, (entry, (out, _))). write_entry number entry out.now)

-- what is seen of a reading tells its result, as that of a writing does
pub record Told : Type 0 where
  pub reading : Tells reading_of

-- ---- what they answer

-- a text that is read: it begins with the entry of a record of the set, in form and with the round count of the formula; what was taken is that entry
pub record IsRead (set number : ℕ) (text : List ℕ) (reading : Reading) : Type 0 where
  pub done : reading.answer ≡ Done
  pub no_line : reading.line ≡ 0
  pub no_column : reading.column ≡ 0
  pub not_early : reading.early ≡ false
  pub begun : Begun set number text
  pub inside : reading.taken ≤ length text
  pub spelled : take reading.taken text ≡ entry_text number reading.content
  pub portable : entry-laws.Portable set reading.content

-- the reading of entries of a known set, by a number of 64 bits
pub record ReadSo (set number : ℕ) (read : List ℕ → Reading) : Type 0 where
  -- a text is read, or it is 10
  pub answer : (text : List ℕ) → IsRead set number text (read text) ⊎ ((read text).answer ≡ BrokenRecord)
  -- it is 10 with a line and column exactly where the lines before are right and behind them the text leaves the right lines at that column
  pub place : (text : List ℕ) (line column : ℕ) → let reading = read text in
      ((reading.answer ≡ BrokenRecord) × (reading.line ≡ line) × (reading.column ≡ column)) ↔ WrongAt set number text line column
  -- a text ended too early exactly where it does not begin with an entry, and some more of it makes it begin with one; nothing behind any other matters
  pub early : (text : List ℕ) → ((read text).early ≡ true) ↔ ((Begun set number text → ⊥) × ((more : List ℕ) × Begun set number (text ++ more)))
  pub decided : (text more : List ℕ) → (read text).early ≡ false → read (text ++ more) ≡ read text

-- each answer, and the line and column that it names
pub record Listed (m : Model) : Type 0 where
  -- 1 where the set is unknown, and then no line and column, and nothing to wait for
  pub unknown : (set number : ℕ) (text : List ℕ) → is_set set ≡ false → let reading = m.read set number text in
      (reading.answer ≡ UnknownSet) × (reading.line ≡ 0) × (reading.column ≡ 0) × (reading.early ≡ false)
  pub read : (set number : ℕ) → is_set set ≡ true → number ≤ largest_number → ReadSo set number (m.read set number)
  pub write : (number : ℕ) (r : Record) (out : List ℕ)
      → (m.write number r out).outcome.answer ≡ first Done (write_faults One r (length (entry_text number r)) (length out))
  pub write_line : (number : ℕ) (r : Record) (out : List ℕ) → (m.write number r out).outcome.line ≡ broken One r
  pub write_column : (number : ℕ) (r : Record) (out : List ℕ) → (m.write number r out).outcome.column ≡ 0

-- ---- what they leave

-- a refusal changes no lent byte
pub record Unchanged (m : Model) : Type 0 where
  pub read : (set number : ℕ) (text : List ℕ) → number ≤ largest_number → HandsBackNothing (m.read set number text)
  pub write : (number : ℕ) (r : Record) (out : List ℕ) → let leaves = m.write number r out in
      Refused leaves.outcome.answer → (leaves.out ≡ out) × (leaves.outcome.written ≡ 0)

-- done: the entry stands at the beginning of its place, the bytes beyond it stay, and its length is told; what is read is in `Listed`
pub record Reported (m : Model) : Type 0 where
  pub write : (number : ℕ) (r : Record) (out : List ℕ) → let leaves = m.write number r out in
      leaves.outcome.answer ≡ Done
      → (leaves.outcome.written ≡ length (entry_text number r)) × (leaves.out ≡ entry_text number r ++ drop (length (entry_text number r)) out)
