-- What reading and writing a record answer, in either form.
use mathlib.Core.Option as option
use Rattle.std.specs.Prelude.{Bool, true, false, cond, not, ◌&&◌, List, [], ◌∷◌, ◌++◌, ℕ, zero, suc, eqb, leb, ltb, length, drop, Option, Some, None, Result, Ok, Err}
use Rattle.answers.specs.declared.Answer.{Answer}
use Rattle.answers.specs.declared.Answer.TheVariants.{Done, NoRoom, BrokenRecord, ChipLost}
use Rattle.answers.specs.Numbers.{is_done}
use Rattle.answers.specs.Order.{Choice, ◌when◌, first}
use Rattle.digits.specs.Ascii.{ascii}
use Rattle.digits.specs.Hex.{from_hex_in}
use Rattle.lines.specs.declared.kinds.Value.{Value}
use Rattle.lines.specs.declared.kinds.Value.TheVariants.{Fixed, Number, Bytes}
use Rattle.lines.specs.declared.table.Read.{Read}
use Rattle.lines.specs.declared.table.Unread.{Unread}
use Rattle.lines.specs.Right.{value_in}
use Rattle.lines.specs.Steps.{Found, read_of}
use Rattle.lines.specs.Tables.{Outcome, whole, broken_at, lines_from}
use Rattle.record.specs.declared.field.Field.{Field}
use Rattle.record.specs.declared.form.Form.{Form}
use Rattle.record.specs.declared.form.Form.TheVariants.{One, Two}
use Rattle.record.specs.declared.form.Record.{Record}
use Rattle.record.specs.declared.writing.Unwritten as unwritten
use Rattle.record.specs.declared.writing.Unwritten.{Unwritten}
use Rattle.record.specs.Form.{field_of, part_at, lines_in, with_number, with_field, blank, value_kind, broken, loses_chip}
use Rattle.record.specs.Text.{kind_of, text_of}

-- ---- reading

-- what reading answers: the answer; the line and column at which a text is wrong, and whether it only ended too early, so that more of it can make a record; how many
-- bytes were taken; and the record
pub record Reading : Type 0 where
  pub answer : Answer
  pub line : ℕ
  pub column : ℕ
  pub early : Bool
  pub taken : ℕ
  pub content : Record

-- bytes as a field, where they are at most 256; else the empty field
abbrev pub fitted : option.Option (List ℕ) → Field
fitted (option.some x) = cond (leb (length x) 256) (field_of x) (field_of [])
fitted option.none = field_of []

-- the record with what a line says in a part: nothing, the number, or the bytes of the digits
abbrev pub with_said : Value → ℕ → Record → ℕ → List ℕ → Record
with_said (Fixed own) part r says digits = r
with_said (Number least most) part r says digits = with_number part says r
with_said (Bytes least most case) part r says digits = with_field part (fitted (from_hex_in case digits)) r

unfoldable pub with_value : ℕ → Record → ℕ → List ℕ → Record
with_value part r says digits = with_said (value_kind part r.set) part r says digits

-- the table: how a line of a form is read behind the lines that gave a record, and the record that they give with it
abbrev pub read_at : Form → ℕ → Record → List ℕ → Found
read_at form line r text = read_of (kind_of (part_at form line) r.set) text

unfoldable pub given : Form → ℕ → Record → ℕ → List ℕ → Record
given form line r says text = with_value (part_at form line) r says (value_in (kind_of (part_at form line) r.set) text)

-- the first lines of a text
abbrev pub lines_of : Form → ℕ → List ℕ → Outcome Record
lines_of form count text = lines_from (read_at form) (given form) count 1 0 blank text

-- refused at a line and column, by a text that ended too early or not: the record of zeros, and nothing taken
unfoldable pub refused_at : ℕ → ℕ → Bool → Reading
refused_at line column early = record { answer = BrokenRecord; line = line; column = column; early = early; taken = 0; content = blank }

-- a record that was read
unfoldable pub read_as : ℕ → Record → Reading
read_as taken r = record { answer = Done; line = 0; column = 0; early = false; taken = taken; content = r }

abbrev pub answered : Outcome Record → Reading
answered (whole taken r) = read_as taken r
answered (broken_at line column early) = refused_at line column early

-- the record of a form that a text begins with
unfoldable pub read_call : Form → List ℕ → Reading
read_call form text = answered (lines_of form (lines_in form) text)

-- the answer of a reading that gives the record and how many bytes it took, or where the text is wrong
abbrev pub reading_of : Result (Read Record) Unread → Reading
reading_of (Ok read) = read_as read.taken read.content
reading_of (Err wrong) = refused_at wrong.line wrong.column wrong.early

-- ---- reading either form

-- a first line that begins so is form 2's
abbrev pub mark : List ℕ
mark = ascii "form="

-- how many characters of a word a text begins with
abbrev pub shared : List ℕ → List ℕ → ℕ
shared [] text = 0
shared (c ∷ word) [] = 0
shared (c ∷ word) (d ∷ text) = cond (eqb c d) (suc (shared word text)) 0

-- the form that a text's first line is of
unfoldable pub form_of : List ℕ → Form
form_of text = cond (eqb (shared mark text) 5) Two One

-- a text that ends inside the mark, and can still go on to form 2
unfoldable pub inside_mark : List ℕ → Bool
inside_mark text = ltb (length text) 5 && eqb (shared mark text) (length text)

-- the record of either form that a text begins with
unfoldable pub read_any : List ℕ → Reading
read_any text = cond (inside_mark text) (refused_at 1 1 true) (read_call (form_of text) text)

-- ---- writing

-- what writing answers: the answer, the line of a broken record, the column 0, since a record that is handed over has none, and how many bytes were written
pub record Writing : Type 0 where
  pub answer : Answer
  pub line : ℕ
  pub column : ℕ
  pub written : ℕ

-- a line that was found by its number; 0 where none was
abbrev pub line_found : ℕ → Option ℕ
line_found zero = None
line_found (suc line) = Some (suc line)

-- an answer, and what the place of the text then holds
pub record WriteLeaves : Type 0 where
  pub outcome : Writing
  pub out : List ℕ

abbrev pub write_leaves : Writing → List ℕ → WriteLeaves
write_leaves outcome out = record { outcome = outcome; out = out }

-- a refusal: nothing is written
unfoldable pub refused_with : Answer → ℕ → Writing
refused_with answer line = record { answer = answer; line = line; column = 0; written = 0 }

-- the answer of a writing that gives how many bytes it wrote, or why it wrote none
abbrev pub writing_of : Result ℕ Unwritten → Writing
writing_of (Ok size) = record { answer = Done; line = 0; column = 0; written = size }
writing_of (Err (unwritten.TheVariants.Broken line)) = refused_with BrokenRecord line
writing_of (Err unwritten.TheVariants.ChipLost) = refused_with ChipLost 0
writing_of (Err unwritten.TheVariants.NoRoom) = refused_with NoRoom 0

-- 10, 11, 6: by the record, and by how long its text and the room are
abbrev pub write_faults : Form → Record → ℕ → ℕ → List (Choice Answer)
write_faults form r size room = BrokenRecord when not (eqb (broken form r) 0) ∷ ChipLost when loses_chip form r ∷ NoRoom when not (leb size room) ∷ []

-- writing a record as a text: 10 has the first broken line, and no column; a refusal changes nothing
abbrev pub write_as : Form → Record → List ℕ → List ℕ → WriteLeaves
write_as form r text out =
    let answer = first Done (write_faults form r (length text) (length out)) in
    cond (is_done answer) (write_leaves (record { answer = Done; line = 0; column = 0; written = length text }) (text ++ drop (length text) out))
    (write_leaves (refused_with answer (broken form r)) out)

-- as its own text in the form
unfoldable pub write_call : Form → Record → List ℕ → WriteLeaves
write_call form r out = write_as form r (text_of form r) out
