-- What reading and writing an entry answer.
use Rattle.std.specs.Prelude.{Bool, false, cond, List, [], ℕ, ◌-◌, ◌*◌, eqb, length, take, drop, Result, Ok, Err}
use Rattle.answers.specs.declared.Answer.{Answer}
use Rattle.answers.specs.declared.Answer.TheVariants.{UnknownSet}
use Rattle.ascon.specs.Sets.{is_set, row_of}
use Rattle.digits.specs.declared.hex.Case.TheVariants.{Upper}
use Rattle.digits.specs.Hex.{from_hex_in}
use Rattle.lines.specs.Right.{value_in}
use Rattle.lines.specs.Steps.{Found, read_of}
use Rattle.lines.specs.Tables.{Outcome, whole, broken_at, lines_from}
use Rattle.record.specs.declared.field.Field.{Field}
use Rattle.record.specs.declared.form.Form.TheVariants.{One}
use Rattle.record.specs.declared.form.Record.{Record}
use Rattle.record.specs.Form.{field_of, blank}
use Rattle.lines.specs.declared.table.Read.{Read}
use Rattle.record.specs.Calls.{Reading, fitted, refused_at, read_as, WriteLeaves, write_as}
use Rattle.entry.specs.declared.reading.Unread.{Unread}
use Rattle.entry.specs.declared.reading.Unread.TheVariants as unread
use Rattle.entry.specs.Form.{kind_at, entry_text, right_rounds}

-- ---- reading

-- the field of digits
abbrev pub field_in : List ℕ → Field
field_in digits = fitted (from_hex_in Upper digits)

-- the record with the bytes of a line's digits; of CT's, the last are the tag's, two for each byte of a key
unfoldable pub with_line : ℕ → Record → List ℕ → Record
with_line line r digits =
    let cut = length digits - 2 * (row_of r.set).key in
    record {
      set = r.set;
      chip = r.chip;
      key = cond (eqb line 2) (field_in digits) r.key;
      nonce = cond (eqb line 3) (field_in digits) r.nonce;
      ad = cond (eqb line 5) (field_in digits) r.ad;
      text = cond (eqb line 4) (field_in digits) r.text;
      cipher = cond (eqb line 6) (field_in (take cut digits)) r.cipher;
      tag = cond (eqb line 6) (field_in (drop cut digits)) r.tag;
      rounds = r.rounds;
    }

-- a record of a set, before its lines
unfoldable pub begun : ℕ → Record
begun set =
    let none = field_of [] in
    record { set = set; chip = 0; key = none; nonce = none; ad = none; text = none; cipher = none; tag = none; rounds = 0 }

-- and behind them, with its rounds
unfoldable pub rounded : Record → Record
rounded r =
    record {
      set = r.set;
      chip = r.chip;
      key = r.key;
      nonce = r.nonce;
      ad = r.ad;
      text = r.text;
      cipher = r.cipher;
      tag = r.tag;
      rounds = right_rounds r;
    }

-- the table: how a line is read, and the record that the lines give with it
abbrev pub read_at : ℕ → ℕ → ℕ → Record → List ℕ → Found
read_at set number line r text = read_of (kind_at set number line) text

unfoldable pub given : ℕ → ℕ → ℕ → Record → ℕ → List ℕ → Record
given set number line r says text = with_line line r (value_in (kind_at set number line) text)

-- the first lines of a text
abbrev pub lines_of : ℕ → ℕ → ℕ → List ℕ → Outcome Record
lines_of set number count text = lines_from (read_at set number) (given set number) count 1 0 (begun set) text

abbrev pub answered : Outcome Record → Reading
answered (whole taken r) = read_as taken (rounded r)
answered (broken_at line column early) = refused_at line column early

-- refused: the record of zeros, and nothing taken
abbrev pub refused_for : Answer → ℕ → ℕ → Bool → Reading
refused_for answer line column early = record { answer = answer; line = line; column = column; early = early; taken = 0; content = blank }

-- for its set: no line and column
abbrev pub unknown : Reading
unknown = refused_for UnknownSet 0 0 false

-- the answer of a reading that gives the record and how many bytes it took, or why nothing is read
abbrev pub reading_of : Result (Read Record) Unread → Reading
reading_of (Ok read) = read_as read.taken read.content
reading_of (Err unread.UnknownSet) = unknown
reading_of (Err (unread.Broken wrong)) = refused_at wrong.line wrong.column wrong.early

-- the entry of a set and a number that a text begins with
unfoldable pub read_entry : ℕ → ℕ → List ℕ → Reading
read_entry set number text = cond (is_set set) (answered (lines_of set number 7 text)) unknown

-- ---- writing

-- what writing the record in form 1 answers, of its entry: 10, 11, 6
unfoldable pub write_entry : ℕ → Record → List ℕ → WriteLeaves
write_entry number r out = write_as One r (entry_text number r) out
