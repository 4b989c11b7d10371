-- Which lines are right, at which line and column a text is wrong, and what reading and writing promise, in each form and of a text of either.
use Rattle.std.specs.Prelude.{true, false, List, [], ◌++◌, ◌↔◌, ◌⊎◌, ◌≡◌, ℕ, ◌+◌, ◌-◌, ◌≤◌, ◌<◌, length, take, drop}
use Rattle.std.proofs.Math.Pow.{are_bytes}
use Rattle.answers.specs.declared.Answer.TheVariants.{Done, BrokenRecord}
use Rattle.digits.specs.Ascii.{ascii}
use Rattle.lines.specs.Column.{LeavesAt, line_at}
use Rattle.record.specs.declared.field.Field.{Field}
use Rattle.record.specs.declared.form.Form.{Form}
use Rattle.record.specs.declared.form.Form.TheVariants.{One, Two}
use Rattle.record.specs.declared.form.Record.{Record}
use Rattle.record.specs.Form.{lines_in, keeps, broken_from, broken, loses_chip}
use Rattle.record.specs.Text.{text_from, text_of, most_bytes}
use Rattle.record.specs.Calls.{refused_at, read_as, read_call, form_of, inside_mark, read_any, write_leaves, write_call}

-- what a field's type says: 256 places, that hold bytes
pub record Whole (f : Field) : Type 0 where
  pub bytes : are_bytes f.bytes ≡ true
  pub places : length f.bytes ≡ 256

-- what a record's type says
pub record Typed (r : Record) : Type 0 where
  pub key : Whole r.key
  pub nonce : Whole r.nonce
  pub ad : Whole r.ad
  pub text : Whole r.text
  pub cipher : Whole r.cipher
  pub tag : Whole r.tag

-- a text is the first lines, `count` of them, of a record in which they keep their rules
pub record FirstLines (form : Form) (count : ℕ) (text : List ℕ) : Type 0 where
  pub entry : Record
  pub typed : Typed entry
  pub in_form : broken_from form count 1 entry ≡ 0
  pub lines : text_from form count 1 entry ≡ text

-- a text begins with such lines
pub record Begun (form : Form) (count : ℕ) (text : List ℕ) : Type 0 where
  pub lines : List ℕ
  pub rest : List ℕ
  pub parts : lines ++ rest ≡ text
  pub right : FirstLines form count lines

-- a text begins with a record of a form
abbrev pub BegunWhole : Form → List ℕ → Type 0
BegunWhole form text = Begun form (lines_in form) text

-- a text is wrong at a line and column: the lines before it are right, and behind them the text leaves the right lines at the column. A line is right there where it
-- and the lines before it are the first lines of some record, in which they keep their rules
pub record WrongAt (form : Form) (text : List ℕ) (line column : ℕ) : Type 0 where
  pub first : 1 ≤ line
  pub last : line ≤ lines_in form
  pub before : Begun form (line - 1) text
  pub wrong : LeavesAt (λ next. FirstLines form line (before.lines ++ next)) before.rest column

-- a record that a form can spell: in form, with no chip that would be lost, and of bytes
pub record Spellable (form : Form) (r : Record) : Type 0 where
  pub in_form : broken form r ≡ 0
  pub kept : loses_chip form r ≡ false
  pub typed : Typed r

-- ---- one form

pub record ReadsAndWrites (form : Form) : Type 0 where
  -- a text is read, or refused with its line and column, nothing taken and the record of zeros
  pub answered : (text : List ℕ) → let reading = read_call form text in
      (reading ≡ read_as reading.taken reading.content) ⊎ (reading ≡ refused_at reading.line reading.column reading.early)
  -- it is read exactly where it begins with the lines of a record in form
  pub exactly : (text : List ℕ) → ((read_call form text).answer ≡ Done) ↔ BegunWhole form text
  -- it is refused at a line and column exactly where it is wrong there
  pub refused : (text : List ℕ) (line column : ℕ) → let reading = read_call form text in
      ((reading.answer ≡ BrokenRecord) × (reading.line ≡ line) × (reading.column ≡ column)) ↔ WrongAt form text line column
  -- there is one such line and column, and the column is at most one past the line's last character
  pub one_place : (text : List ℕ) (line column line' column' : ℕ) → WrongAt form text line column → WrongAt form text line' column'
      → (line ≡ line') × (column ≡ column')
  pub in_line : (text : List ℕ) (line column : ℕ) → (w : WrongAt form text line column) → column ≤ length (line_at w.before.rest) + 1
  -- the empty text is refused at line 1, column 1, and can still go on
  pub nothing : read_call form [] ≡ refused_at 1 1 true
  -- the bytes taken are the record's text
  pub spelled : (text : List ℕ) → (read_call form text).answer ≡ Done → take (read_call form text).taken text ≡ text_of form (read_call form text).content
  -- the text of a record that the form can spell is read as this record, whatever stands behind it
  pub text_read : (r : Record) (rest : List ℕ) → Spellable form r → read_call form (text_of form r ++ rest) ≡ read_as (length (text_of form r)) r
  -- so what was written is read as the same record, and all of it is taken
  pub write_read : (r : Record) (out : List ℕ) → Typed r → (write_call form r out).outcome.answer ≡ Done
      → read_call form (write_call form r out).out ≡ read_as (write_call form r out).outcome.written r
  -- what was read is written as the same bytes
  pub read_write : (text out : List ℕ) → (read_call form text).answer ≡ Done → (read_call form text).taken ≤ length out
      → let n = (read_call form text).taken in
      write_call form (read_call form text).content out ≡ write_leaves (record { answer = Done; line = 0; column = 0; written = n }) (take n text ++ drop n out)
  -- a record that is read is one that the form can spell
  pub read_in_form : (text : List ℕ) → (read_call form text).answer ≡ Done → Spellable form (read_call form text).content
  -- a text ended too early exactly where it does not begin with a record, and some more of it makes it begin with one
  pub early : (text : List ℕ) → ((read_call form text).early ≡ true) ↔ ((BegunWhole form text → ⊥) × ((more : List ℕ) × BegunWhole form (text ++ more)))
  -- such a text has less than the most bytes of a record; any other is decided: nothing behind it matters
  pub short : (text : List ℕ) → (read_call form text).early ≡ true → length text < most_bytes form
  pub decided : (text more : List ℕ) → (read_call form text).early ≡ false → read_call form (text ++ more) ≡ read_call form text
  -- no record has more than 1,688 bytes in form 1 or 1,706 in form 2, and no byte behind them matters
  pub longest : (text : List ℕ) → (read_call form text).taken ≤ most_bytes form
  pub window : (text : List ℕ) → read_call form (take (most_bytes form) text) ≡ read_call form text

-- ---- the two forms

pub record TwoForms : Type 0 where
  -- a record that is in form 2 is in form 1, and one that is in form 1 is in form 2 but for its chip; so the chip decides nothing else
  pub two_one : (r : Record) → broken Two r ≡ 0 → broken One r ≡ 0
  pub one_two : (r : Record) → broken One r ≡ 0 → r.chip ≤ 65_535 → broken Two r ≡ 0
  -- a chip over 65,535 is a fault of line 3, behind a known set, whatever the lines behind it hold
  pub chip : (r : Record) → keeps 2 r ≡ true → 65_535 < r.chip → broken Two r ≡ 3
  -- what is read in form 1 has chip 0
  pub no_chip : (text : List ℕ) → (read_call One text).content.chip ≡ 0

-- ---- a text of either form

-- a text begins with a record of one of the forms
abbrev pub BegunAny : List ℕ → Type 0
BegunAny text = (form : Form) × BegunWhole form text

pub record ReadsAny : Type 0 where
  -- a text is of form 2 exactly where it begins with the characters `form=`
  pub marked : (text : List ℕ) → (form_of text ≡ Two) ↔ ((rest : List ℕ) × (text ≡ ascii "form=" ++ rest))
  -- a text that begins with a record of a form is of this form, so of no text both forms read a record
  pub one_form : (form : Form) (text : List ℕ) → BegunWhole form text → form_of text ≡ form
  -- a text is read as its own form reads it, but for one that ends inside the mark: it is wrong at line 1, column 1, as form 1 has it, and can still go on
  pub by_form : (text : List ℕ) → inside_mark text ≡ false → read_any text ≡ read_call (form_of text) text
  pub inside : (text : List ℕ) → inside_mark text ≡ true → (read_any text ≡ refused_at 1 1 true) × WrongAt One text 1 1
  -- a text is read, or refused with its line and column, nothing taken and the record of zeros
  pub answered : (text : List ℕ) → let reading = read_any text in
      (reading ≡ read_as reading.taken reading.content) ⊎ (reading ≡ refused_at reading.line reading.column reading.early)
  -- it is read exactly where it begins with a record of one of the forms
  pub exactly : (text : List ℕ) → ((read_any text).answer ≡ Done) ↔ BegunAny text
  -- it is refused at a line and column exactly where it is wrong there in its form
  pub refused : (text : List ℕ) (line column : ℕ) → let reading = read_any text in
      ((reading.answer ≡ BrokenRecord) × (reading.line ≡ line) × (reading.column ≡ column)) ↔ WrongAt (form_of text) text line column
  -- the empty text is refused at line 1, column 1, and can still go on
  pub nothing : read_any [] ≡ refused_at 1 1 true
  -- a record that is read is one that its form can spell
  pub read_in_form : (text : List ℕ) → (read_any text).answer ≡ Done → Spellable (form_of text) (read_any text).content
  -- the text of a record in a form that can spell it is read as this record, whatever stands behind it
  pub text_read : (form : Form) (r : Record) (rest : List ℕ) → Spellable form r → read_any (text_of form r ++ rest) ≡ read_as (length (text_of form r)) r
  -- a text ended too early exactly where it does not begin with a record, and some more of it makes it begin with one of either form
  pub early : (text : List ℕ) → ((read_any text).early ≡ true) ↔ ((BegunAny text → ⊥) × ((more : List ℕ) × BegunAny (text ++ more)))
  -- such a text has less than the most bytes of the longest form; any other is decided: nothing behind it matters
  pub short : (text : List ℕ) → (read_any text).early ≡ true → length text < most_bytes Two
  pub decided : (text more : List ℕ) → (read_any text).early ≡ false → read_any (text ++ more) ≡ read_any text
  -- no record has more than 1,706 bytes, and no byte behind them matters
  pub longest : (text : List ℕ) → (read_any text).taken ≤ most_bytes Two
  pub window : (text : List ℕ) → read_any (take (most_bytes Two) text) ≡ read_any text
