-- What reading an entry of a log promises.
use Rattle.std.specs.Prelude.{true, false, List, [], ◌++◌, ◌↔◌, ◌⊎◌, ◌≡◌, ℕ, ◌+◌, ◌≤◌, ◌<◌, length, take}
use Rattle.answers.specs.declared.Answer.TheVariants.{Done, BrokenRecord}
use Rattle.digits.specs.declared.hex.Case.TheVariants.{Lower}
use Rattle.lines.specs.declared.kinds.Value.TheVariants.{Bytes}
use Rattle.lines.specs.Column.{line_at}
use Rattle.lines.specs.Texts.{Begun, WrongAt}
use Rattle.record.specs.Form.{allows}
use Rattle.record.specs.Laws.{Whole}
use Rattle.chip_log.specs.declared.form.Entry.{Entry}
use Rattle.chip_log.specs.Form.{data_kind, line_text, entry_text}
use Rattle.chip_log.specs.Calls.{refused_at, read_as, read_entry}

-- an entry in form: data that its call may have, at most 256 bytes of out, numbers of at most seven digits
pub record InForm (e : Entry) : Type 0 where
  pub input : allows (data_kind e.call) 0 e.input ≡ true
  pub answer : e.answer ≤ 9_999_999
  pub out : allows (Bytes 0 256 Lower) 0 e.out ≡ true
  pub rounds : e.rounds ≤ 9_999_999
  pub input_bytes : Whole e.input
  pub out_bytes : Whole e.out

-- a text begins with such an entry
abbrev pub BegunEntry : List ℕ → Type 0
BegunEntry text = Begun InForm entry_text text

-- a text is wrong at a line and column of such an entry
abbrev pub WrongEntry : List ℕ → ℕ → ℕ → Type 0
WrongEntry text line column = WrongAt InForm line_text 5 text line column

-- the most bytes of an entry
abbrev pub most_bytes : ℕ
most_bytes = 1_075

pub record ReadsLog : Type 0 where
  -- a text is read, or refused with its line and column, nothing taken and the entry with nothing in it
  pub answered : (text : List ℕ) → let reading = read_entry text in
      (reading ≡ read_as reading.taken reading.content) ⊎ (reading ≡ refused_at reading.line reading.column reading.early)
  -- it is read exactly where it begins with an entry in form
  pub exactly : (text : List ℕ) → ((read_entry text).answer ≡ Done) ↔ BegunEntry text
  -- it is refused at a line and column exactly where it is wrong there
  pub refused : (text : List ℕ) (line column : ℕ) → let reading = read_entry text in
      ((reading.answer ≡ BrokenRecord) × (reading.line ≡ line) × (reading.column ≡ column)) ↔ WrongEntry text line column
  -- there is one such line and column, and the column is at most one past the line's last character
  pub one_place : (text : List ℕ) (line column line' column' : ℕ) → WrongEntry text line column → WrongEntry text line' column' → (line ≡ line') × (column ≡ column')
  pub in_line : (text : List ℕ) (line column : ℕ) → (w : WrongEntry text line column) → column ≤ length (line_at w.rest) + 1
  -- the empty text is refused at line 1, column 1, and can still go on
  pub nothing : read_entry [] ≡ refused_at 1 1 true
  -- the bytes taken are the text of the entry that is read
  pub spelled : (text : List ℕ) → (read_entry text).answer ≡ Done → take (read_entry text).taken text ≡ entry_text (read_entry text).content
  -- which is in form
  pub in_form : (text : List ℕ) → (read_entry text).answer ≡ Done → InForm (read_entry text).content
  -- the text of an entry in form is read as this entry, whatever stands behind it
  pub text_read : (e : Entry) (rest : List ℕ) → InForm e → read_entry (entry_text e ++ rest) ≡ read_as (length (entry_text e)) e
  -- a text ended too early exactly where it does not begin with an entry, and some more of it makes it begin with one
  pub early : (text : List ℕ) → ((read_entry text).early ≡ true) ↔ ((BegunEntry text → ⊥) × ((more : List ℕ) × BegunEntry (text ++ more)))
  -- such a text has less than the most bytes of an entry; any other is decided: nothing behind it matters
  pub short : (text : List ℕ) → (read_entry text).early ≡ true → length text < most_bytes
  pub decided : (text more : List ℕ) → (read_entry text).early ≡ false → read_entry (text ++ more) ≡ read_entry text
  -- an entry has at least 37 bytes and at most 1,075
  pub shortest : (text : List ℕ) → (read_entry text).answer ≡ Done → 37 ≤ (read_entry text).taken
  pub longest : (text : List ℕ) → (read_entry text).taken ≤ most_bytes
