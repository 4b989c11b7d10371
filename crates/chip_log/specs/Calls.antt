-- What reading an entry of a log answers.
use Rattle.std.specs.Prelude.{Bool, false, cond, List, ℕ, eqb, Result, Ok, Err}
use Rattle.answers.specs.declared.Answer.{Answer}
use Rattle.answers.specs.declared.Answer.TheVariants.{Done, BrokenRecord}
use Rattle.digits.specs.declared.hex.Case.TheVariants.{Lower}
use Rattle.digits.specs.Hex.{from_hex_in}
use Rattle.lines.specs.declared.kinds.Kind.{Kind}
use Rattle.lines.specs.declared.table.Read.{Read}
use Rattle.lines.specs.declared.table.Unread.{Unread}
use Rattle.lines.specs.Right.{value_in}
use Rattle.lines.specs.Steps.{Found, read_of, either_of}
use Rattle.lines.specs.Tables.{Outcome, whole, broken_at, lines_from}
use Rattle.record.specs.declared.field.Field.{Field}
use Rattle.record.specs.Calls.{fitted}
use Rattle.chip_log.specs.declared.form.Call.{Call}
use Rattle.chip_log.specs.declared.form.Call.TheVariants.{Start1, Start2, Ad, Text, Finish}
use Rattle.chip_log.specs.declared.form.Entry.{Entry}
use Rattle.chip_log.specs.Form.{kind_at, call_kind, blank}

-- the call that the number of a first line tells
abbrev pub call_of : ℕ → Call
call_of n = cond (eqb n 2) Start2 (cond (eqb n 3) Ad (cond (eqb n 4) Text (cond (eqb n 5) Finish Start1)))

-- a first line: that of any call
unfoldable pub read_call : List ℕ → Found
read_call text =
    either_of (either_of (either_of (either_of (read_of (call_kind Start1) text) (read_of (call_kind Start2) text)) (read_of (call_kind Ad) text)) (read_of (call_kind Text) text))
    (read_of (call_kind Finish) text)

-- a line, where the first told this call
unfoldable pub read_line : Call → ℕ → List ℕ → Found
read_line call line text = cond (eqb line 1) (read_call text) (read_of (kind_at call line) text)

-- the field of a line's digits
unfoldable pub field_in : Kind → List ℕ → Field
field_in kind line = fitted (from_hex_in Lower (value_in kind line))

-- the table: how a line is read, and the entry that the lines give with it
abbrev pub read_at : ℕ → Entry → List ℕ → Found
read_at line e text = read_line e.call line text

unfoldable pub given : ℕ → Entry → ℕ → List ℕ → Entry
given line e says text =
    record {
      call = cond (eqb line 1) (call_of says) e.call;
      input = cond (eqb line 2) (field_in (kind_at e.call 2) text) e.input;
      answer = cond (eqb line 3) says e.answer;
      out = cond (eqb line 4) (field_in (kind_at e.call 4) text) e.out;
      rounds = cond (eqb line 5) says e.rounds;
    }

-- the first lines of a text
abbrev pub lines_of : ℕ → List ℕ → Outcome Entry
lines_of count text = lines_from read_at given count 1 0 blank text

-- what reading answers: the answer; the line and column at which a text is wrong, and whether it only ended too early, so that more of it can make an entry; how many
-- bytes were taken; and the entry
pub record Reading : Type 0 where
  pub answer : Answer
  pub line : ℕ
  pub column : ℕ
  pub early : Bool
  pub taken : ℕ
  pub content : Entry

-- refused at a line and column, by a text that ended too early or not: nothing taken
unfoldable pub refused_at : ℕ → ℕ → Bool → Reading
refused_at line column early = record { answer = BrokenRecord; line = line; column = column; early = early; taken = 0; content = blank }

-- an entry that was read
unfoldable pub read_as : ℕ → Entry → Reading
read_as taken e = record { answer = Done; line = 0; column = 0; early = false; taken = taken; content = e }

abbrev pub answered : Outcome Entry → Reading
answered (whole taken e) = read_as taken e
answered (broken_at line column early) = refused_at line column early

-- the entry that a text begins with
unfoldable pub read_entry : List ℕ → Reading
read_entry text = answered (lines_of 5 text)

-- what is answered by a reading that gives the entry and how many bytes it took, or where the text is wrong
abbrev pub reading_of : Result (Read Entry) Unread → Reading
reading_of (Ok read) = read_as read.taken read.content
reading_of (Err wrong) = refused_at wrong.line wrong.column wrong.early
