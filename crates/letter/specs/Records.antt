-- Records, their lines and digits: all that is said of their calls.
use contract.Lifetimes.{Lfts}
use denote.RattleType.{RattleType}
use denote.Param.Laws.{Laws, IsCopy}
use mir.Syntax.{Dict}
use Rattle.std.specs.Prelude.{◌≡◌, true, false, List, [], ◌++◌, ◌↔◌, ◌⊎◌, ℕ, ◌≤◌, length, drop, take}
use Rattle.answers.specs.declared.Answer.TheVariants.{Done, BrokenRecord}
use Rattle.answers.specs.Order.{first}
use Rattle.digits.specs.Hex.{digit_in, digit_of, is_value, pair_of, from_hex_in, hex_in}
use Rattle.digits.specs.Numbers as decimals
use Rattle.digits.specs.Room.{line_of, laid, put}
use Rattle.std.specs.declared.clone.Clone as clone
use Rattle.lines.specs.declared.table.Table as table
use Rattle.lines.specs.Right.{named, value_in}
use Rattle.lines.specs.Steps.{begin, step_of, read_of, either_of}
use Rattle.lines.specs.Tables.{lines_from, outcome_of}
use Rattle.record.specs.declared.form.Form.{Form}
use Rattle.record.specs.declared.form.Record.{Record}
use Rattle.record.specs.Calls.{Reading, Writing, reading_of, writing_of, line_found}
use Rattle.record.specs.Form.{broken, blank}
use Rattle.record.specs.Calls.{fitted, read_call, form_of, read_any, write_leaves, write_call, WriteLeaves, write_faults}
use Rattle.record.specs.Laws.{BegunWhole, BegunAny, WrongAt, Spellable}
use Rattle.record.specs.Text.{text_of}
use Rattle.digits.proofs as digits
use Rattle.lines.proofs as lines
use Rattle.record.proofs as record-crate
use Rattle.letter.specs.Calls.{Answered, Lent, LentMut, holding, Leaves, Gives, Seen, Tells, Refused}

-- ---- the calls

-- what each answers, and what it leaves in a lent place, on any input
pub record Model : Type 0 where
  pub read : Form → List ℕ → Reading
  pub read_any : List ℕ → Reading
  pub write : Form → Record → List ℕ → WriteLeaves

-- our own, by the definitions that the contracts cite
abbrev pub ours : Model
ours = record { read = read_call; read_any = read_any; write = write_call }

-- what a caller learns from the contracts of the code, of what a reading or a writing is seen as
abbrev pub read_learnt : Lfts 1 → Form × (Lent × Unit {0}) → Reading → Form × (Lent × Unit {0}) → Type 0
read_learnt = Seen reading_of record-crate.read.Reads.Learnt

abbrev pub read_any_learnt : Lfts 1 → Lent × Unit {0} → Reading → Lent × Unit {0} → Type 0
read_any_learnt = Seen reading_of record-crate.read_any.Reads.Learnt

abbrev pub write_learnt : Lfts 1 → Form × (Record × (LentMut × Unit {0})) → Writing → Form × (Record × (LentMut × Unit {0})) → Type 0
write_learnt = Seen writing_of record-crate.write.Reads.Learnt

-- each gives what the contract of the code allows
pub record Keeps (m : Model) : Type 0 where
  pub read : (form : Form) (text : Lent) → Gives read_learnt (form, (text, tt)) (m.read form text.now)
  pub read_any : (text : Lent) → Gives read_any_learnt (text, tt) (m.read_any text.now)
  pub write : (form : Form) (entry : Record) (out : LentMut) → let leaves = m.write form entry out.now in
      Leaves write_learnt (form, (entry, (out, tt))) leaves.outcome (form, (entry, (holding out leaves.out, tt)))

-- each public call, and its one outcome; those of digits and lines first
pub record EveryCall : Type 2 where
  -- ---- digits
  pub digits_read_digit : Answered digits.read_digit.Statement.statement digits.read_digit.Reads.Asked digits.read_digit.Reads.Learnt (λ r e. r) (λ (character, _). digit_of character)
  pub digits_is_digit : Answered digits.is_digit.Statement.statement digits.is_digit.Reads.Asked digits.is_digit.Reads.Learnt
      (λ r e. r) (λ (case, (character, _)). is_value (digit_in case character))
  pub digits_read_pair : Answered digits.read_pair.Statement.statement digits.read_pair.Reads.Asked digits.read_pair.Reads.Learnt
      (λ r e. r) (λ (case, (high, (low, _))). pair_of (digit_in case high) (digit_in case low))
  pub digits_put_bytes : Answered digits.put_bytes.Statement.statement digits.put_bytes.Reads.Asked digits.put_bytes.Reads.Learnt
      (λ r (case, (bytes, (out, _))). laid r out.now) (λ (case, (bytes, (out, _))). put (hex_in case bytes.now) out.now)
  pub digits_put_text : Answered digits.put_text.Statement.statement digits.put_text.Reads.Asked digits.put_text.Reads.Learnt
      (λ r (text, (out, _)). laid r out.now) (λ (text, (out, _)). put text.now out.now)
  pub digits_put_line : Answered digits.put_line.Statement.statement digits.put_line.Reads.Asked digits.put_line.Reads.Learnt
      (λ r (name, (value, (out, _))). laid r out.now) (λ (name, (value, (out, _))). put (line_of name.now value.now) out.now)
  pub digits_number_length : Answered digits.number_length.Statement.statement digits.number_length.Reads.Asked digits.number_length.Reads.Learnt (λ r e. r) (λ (n, _). decimals.places n)
  pub digits_put_number : Answered digits.put_number.Statement.statement digits.put_number.Reads.Asked digits.put_number.Reads.Learnt
      (λ r (n, (out, _)). laid r out.now) (λ (n, (out, _)). put (decimals.numeral n) out.now)
  -- ---- lines
  pub lines_named : Answered lines.named.Statement.statement lines.named.Reads.Asked lines.named.Reads.Learnt (λ r e. r) (λ (text, _). named text.now)
  pub lines_begun : Answered lines.begun.Statement.statement lines.begun.Reads.Asked lines.begun.Reads.Learnt (λ r e. r) (λ _. begin)
  pub lines_advance : Answered lines.advance.Statement.statement lines.advance.Reads.Asked lines.advance.Reads.Learnt
      (λ r e. r) (λ (kind, (state, (character, _))). step_of kind state character)
  pub lines_read : Answered lines.read.Statement.statement lines.read.Reads.Asked lines.read.Reads.Learnt (λ r e. r) (λ (kind, (text, _)). read_of kind text.now)
  pub lines_either : Answered lines.either.Statement.statement lines.either.Reads.Asked lines.either.Reads.Learnt (λ r e. r) (λ (one, (other, _)). either_of one other)
  pub lines_value_in : Answered lines.value_in.Statement.statement lines.value_in.Reads.Asked lines.value_in.Reads.Learnt
      (λ r e. r.now) (λ (kind, (line, _)). value_in kind line.now)
  -- of every table: its type and that of what its lines give, as the kit has a type parameter, and the ghost members that its bounds bring. The kit counts among what is asked
  -- that borrows inside these types still last, which no caller checks; so it is types without any of which it is said that nothing is asked
  pub lines_read_table : (Self Content : RattleType) (laws : Laws Self) (content_laws : Laws Content) (copy : IsCopy Content)
      (members : table.Ghosts Self.Denot Content.Denot) (dict : Dict) (clones : clone.Ghosts Content.Denot) (clone_dict : Dict)
      → Answered lines.read_table.Statement.statement
      (λ κ a. Self.lives ≡ [] → Content.lives ≡ [] → lines.read_table.Reads.Asked Self Content laws content_laws copy members dict clones clone_dict κ a)
      (lines.read_table.Reads.Learnt Self Content laws content_laws copy members dict clones clone_dict)
      (λ r e. outcome_of r)
      (λ (table, (text, _)). lines_from (members.read_at table.now) (members.given table.now) (members.count table.now) 1 0 (members.first table.now) text.now)
  -- ---- record
  pub record_read_field : Answered record-crate.read_field.Statement.statement record-crate.read_field.Reads.Asked record-crate.read_field.Reads.Learnt
      (λ r e. r) (λ (case, (text, _)). fitted (from_hex_in case text.now))
  pub record_first_broken : Answered record-crate.first_broken.Statement.statement record-crate.first_broken.Reads.Asked record-crate.first_broken.Reads.Learnt
      (λ r e. r) (λ (form, (entry, _)). line_found (broken form entry))
  pub record_read : Answered record-crate.read.Statement.statement record-crate.read.Reads.Asked record-crate.read.Reads.Learnt
      (λ r e. reading_of r) (λ (form, (text, _)). read_call form text.now)
  pub record_read_any : Answered record-crate.read_any.Statement.statement record-crate.read_any.Reads.Asked record-crate.read_any.Reads.Learnt
      (λ r e. reading_of r) (λ (text, _). read_any text.now)
  pub record_write : Answered record-crate.write.Statement.statement record-crate.write.Reads.Asked record-crate.write.Reads.Learnt
      (λ r (form, (entry, (out, _))). write_leaves (writing_of r) out.now) (λ (form, (entry, (out, _))). write_call form entry out.now)

-- what is seen of a reading or a writing tells its result; of the reading of a table too, whatever its lines give
pub record Told : Type 1 where
  pub lines : (E : Type 0) → Tells (outcome_of {E = E})
  pub reading : Tells reading_of
  pub writing : Tells writing_of

-- ---- what they answer

-- a text that is read in a form: it begins with the lines of a record in form; what was taken is the text of that record, which is handed back
pub record IsRead (form : Form) (text : List ℕ) (reading : Reading) : Type 0 where
  pub done : reading.answer ≡ Done
  pub no_line : reading.line ≡ 0
  pub no_column : reading.column ≡ 0
  pub not_early : reading.early ≡ false
  pub begun : BegunWhole form text
  pub inside : reading.taken ≤ length text
  pub spelled : take reading.taken text ≡ text_of form reading.content
  pub spellable : Spellable form reading.content

-- a reading of texts, each in a form, where a text begins with a record or not
pub record ReadSo (formed : List ℕ → Form) (Starts : List ℕ → Type 0) (read : List ℕ → Reading) : Type 0 where
  -- a text is read, or it is 10
  pub answer : (text : List ℕ) → IsRead (formed text) text (read text) ⊎ ((read text).answer ≡ BrokenRecord)
  -- it is 10 with a line and column exactly where the lines before are right and behind them the text leaves the right lines at that column
  pub place : (text : List ℕ) (line column : ℕ) → let reading = read text in
      ((reading.answer ≡ BrokenRecord) × (reading.line ≡ line) × (reading.column ≡ column)) ↔ WrongAt (formed text) text line column
  -- a text ended too early exactly where it does not begin with a record, and some more of it makes it begin with one; nothing behind any other matters
  pub early : (text : List ℕ) → ((read text).early ≡ true) ↔ ((Starts text → ⊥) × ((more : List ℕ) × Starts (text ++ more)))
  pub decided : (text more : List ℕ) → (read text).early ≡ false → read (text ++ more) ≡ read text

-- each answer, and the line and column that it names
pub record Listed (m : Model) : Type 0 where
  -- in a form that the caller names, and in the form that the text's first line is of
  pub read : (form : Form) → ReadSo (λ text. form) (BegunWhole form) (m.read form)
  pub read_any : ReadSo form_of BegunAny m.read_any
  pub write : (form : Form) (r : Record) (out : List ℕ)
      → (m.write form r out).outcome.answer ≡ first Done (write_faults form r (length (text_of form r)) (length out))
  pub write_line : (form : Form) (r : Record) (out : List ℕ) → (m.write form r out).outcome.line ≡ broken form r
  pub write_column : (form : Form) (r : Record) (out : List ℕ) → (m.write form r out).outcome.column ≡ 0

-- ---- what they leave

-- a refused reading takes nothing, and hands back the record of zeros
abbrev pub HandsBackNothing : Reading → Type 0
HandsBackNothing reading = Refused reading.answer → (reading.taken ≡ 0) × (reading.content ≡ blank)

-- a refusal changes no lent byte
pub record Unchanged (m : Model) : Type 0 where
  pub read : (form : Form) (text : List ℕ) → HandsBackNothing (m.read form text)
  pub read_any : (text : List ℕ) → HandsBackNothing (m.read_any text)
  pub write : (form : Form) (r : Record) (out : List ℕ) → let leaves = m.write form r out in
      Refused leaves.outcome.answer → (leaves.out ≡ out) × (leaves.outcome.written ≡ 0)

-- done: what is written, and the bytes of a lent place beyond it; what is read is in `Listed`
pub record Reported (m : Model) : Type 0 where
  -- a record that is written stands at the beginning of its place, the bytes beyond it stay, and its length is told
  pub write : (form : Form) (r : Record) (out : List ℕ) → let leaves = m.write form r out in
      leaves.outcome.answer ≡ Done → (leaves.outcome.written ≡ length (text_of form r)) × (leaves.out ≡ text_of form r ++ drop (length (text_of form r)) out)
