-- What reading and writing an entry promise.
use Rattle.std.specs.Prelude.{true, false, List, ◌++◌, ◌↔◌, ◌⊎◌, ◌≡◌, ℕ, ◌+◌, ◌≤◌, length, take, drop}
use Rattle.answers.specs.declared.Answer.TheVariants.{Done, BrokenRecord}
use Rattle.ascon.specs.Sets.{is_set}
use Rattle.lines.specs.Column.{line_at}
use Rattle.lines.specs.Texts as texts
use Rattle.record.specs.declared.form.Form.TheVariants.{One}
use Rattle.record.specs.declared.form.Record.{Record}
use Rattle.record.specs.Calls.{refused_at, read_as, write_leaves}
use Rattle.record.specs.Laws.{Typed, Spellable}
use Rattle.entry.specs.Form.{largest_number, line_text, entry_text, right_rounds}
use Rattle.entry.specs.Calls.{rounded, unknown, read_entry, write_entry}

-- a record that an entry can stand for: in form 1, of the set, with the round count of the formula
pub record Portable (set : ℕ) (r : Record) : Type 0 where
  pub spellable : Spellable One r
  pub of_set : r.set ≡ set
  pub right_rounds : r.rounds ≡ right_rounds r

-- a text begins with the entry of such a record
abbrev pub Begun : ℕ → ℕ → List ℕ → Type 0
Begun set number text = texts.Begun (Portable set) (entry_text number) text

-- a text is wrong at a line and column of the entry of such a record
abbrev pub WrongAt : ℕ → ℕ → List ℕ → ℕ → ℕ → Type 0
WrongAt set number text line column = texts.WrongAt (Portable set) (line_text number) 7 text line column

-- the most bytes of an entry, whose number has 64 bits
abbrev pub most_bytes : ℕ
most_bytes = 1_696

-- of a known set, and a number of 64 bits
pub record ReadsEntries (set number : ℕ) : Type 0 where
  -- a text is read, or refused with its line and column, nothing taken and the record of zeros
  pub answered : (text : List ℕ) → let reading = read_entry set number text in
      (reading ≡ read_as reading.taken reading.content) ⊎ (reading ≡ refused_at reading.line reading.column reading.early)
  -- it is read exactly where it begins with the entry of a record
  pub exactly : (text : List ℕ) → ((read_entry set number text).answer ≡ Done) ↔ Begun set number text
  -- it is refused at a line and column exactly where it is wrong there
  pub refused : (text : List ℕ) (line column : ℕ) → let reading = read_entry set number text in
      ((reading.answer ≡ BrokenRecord) × (reading.line ≡ line) × (reading.column ≡ column)) ↔ WrongAt set number text line column
  -- there is one such line and column, and the column is at most one past the line's last character
  pub one_place : (text : List ℕ) (line column line' column' : ℕ) → WrongAt set number text line column → WrongAt set number text line' column'
      → (line ≡ line') × (column ≡ column')
  pub in_line : (text : List ℕ) (line column : ℕ) → (w : WrongAt set number text line column) → column ≤ length (line_at w.rest) + 1
  -- the bytes taken are the entry of the record that is read
  pub spelled : (text : List ℕ) → (read_entry set number text).answer ≡ Done → take (read_entry set number text).taken text ≡ entry_text number (read_entry set number text).content
  -- which is in form, of the set, and has the right round count
  pub portable : (text : List ℕ) → (read_entry set number text).answer ≡ Done → Portable set (read_entry set number text).content
  -- the entry of such a record is read as this record, whatever stands behind it
  pub text_read : (r : Record) (rest : List ℕ) → Portable set r → read_entry set number (entry_text number r ++ rest) ≡ read_as (length (entry_text number r)) r
  -- a text ended too early exactly where it does not begin with an entry, and some more of it makes it begin with one; any other is decided: nothing behind it matters
  pub early : (text : List ℕ) → ((read_entry set number text).early ≡ true) ↔ ((Begun set number text → ⊥) × ((more : List ℕ) × Begun set number (text ++ more)))
  pub decided : (text more : List ℕ) → (read_entry set number text).early ≡ false → read_entry set number (text ++ more) ≡ read_entry set number text
  -- no entry has more than 1,696 bytes
  pub longest : (text : List ℕ) → (read_entry set number text).taken ≤ most_bytes

pub record Entries : Type 0 where
  pub reads : (set number : ℕ) → is_set set ≡ true → number ≤ largest_number → ReadsEntries set number
  -- an unknown set is refused before anything of the text is looked at
  pub unknown_set : (set number : ℕ) (text : List ℕ) → is_set set ≡ false → read_entry set number text ≡ unknown
  -- what was written is read as the same record, but for its rounds, which an entry does not say: they are those of the formula; and all of it is taken
  pub write_read : (number : ℕ) (r : Record) (out : List ℕ) → number ≤ largest_number → Typed r → (write_entry number r out).outcome.answer ≡ Done
      → read_entry r.set number (write_entry number r out).out ≡ read_as (write_entry number r out).outcome.written (rounded r)
  -- what was read is written as the same bytes
  pub read_write : (set number : ℕ) (text out : List ℕ) → is_set set ≡ true → number ≤ largest_number → (read_entry set number text).answer ≡ Done
      → (read_entry set number text).taken ≤ length out
      → let n = (read_entry set number text).taken in
      write_entry number (read_entry set number text).content out ≡ write_leaves (record { answer = Done; line = 0; column = 0; written = n }) (take n text ++ drop n out)
