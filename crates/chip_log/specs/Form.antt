-- The entry of a chip's log, line by line: call, data, answer, out, rounds.
use Rattle.std.specs.Prelude.{cond, List, [], ◌++◌, ℕ, ◌*◌, eqb}
use Rattle.ascon.specs.Sets.{row_of}
use Rattle.digits.specs.declared.hex.Case.TheVariants.{Lower}
use Rattle.digits.specs.Ascii.{ascii}
use Rattle.digits.specs.Hex.{hex_in}
use Rattle.digits.specs.Numbers.{numeral}
use Rattle.digits.specs.Room.{line_of}
use Rattle.lines.specs.declared.kinds.Kind.{Kind}
use Rattle.lines.specs.declared.kinds.Value.{Value}
use Rattle.lines.specs.declared.kinds.Value.TheVariants.{Fixed, Number, Bytes}
use Rattle.lines.specs.Right.{named}
use Rattle.lines.specs.Texts.{text_from}
use Rattle.record.specs.Form.{field_of, held}
use Rattle.chip_log.specs.declared.form.Call.{Call}
use Rattle.chip_log.specs.declared.form.Call.TheVariants.{Start1, Start2, Ad, Text, Finish}
use Rattle.chip_log.specs.declared.form.Entry.{Entry}
use Rattle.chip_log.specs.declared.form.Part.{Part}
use Rattle.chip_log.specs.declared.form.Part.TheVariants as part

-- ---- the calls

-- the word of a call
abbrev pub word_of : Call → List ℕ
word_of Start1 = ascii "start1"
word_of Start2 = ascii "start2"
word_of Ad = ascii "ad"
word_of Text = ascii "text"
word_of Finish = ascii "finish"

-- the data of a start in a set: its key and its nonce
abbrev pub start_data : ℕ → Value
start_data set = Bytes (2 * (row_of set).key) (2 * (row_of set).key) Lower

-- what the data of a call may be: that, at most 256 bytes, or nothing
abbrev pub data_kind : Call → Value
data_kind Start1 = start_data 1
data_kind Start2 = start_data 2
data_kind Ad = Bytes 0 256 Lower
data_kind Text = Bytes 0 256 Lower
data_kind Finish = Bytes 0 0 Lower

-- ---- the table

-- the number of the line in which a part of the code's stands
abbrev pub number_of : Part → ℕ
number_of part.Call = 1
number_of part.Data = 2
number_of part.Answer = 3
number_of part.Out = 4
number_of part.Rounds = 5

-- what a line behind the first begins with
abbrev pub name : ℕ → List ℕ
name line = cond (eqb line 2) (ascii "data=") (cond (eqb line 3) (ascii "answer=") (cond (eqb line 4) (ascii "out=") (ascii "rounds=")))

-- what may stand behind it, in an entry of this call: its data; at most 256 bytes; a number of at most seven digits
abbrev pub value_kind : Call → ℕ → Value
value_kind call line = cond (eqb line 2) (data_kind call) (cond (eqb line 4) (Bytes 0 256 Lower) (Number 0 9_999_999))

-- the kind of such a line
unfoldable pub kind_at : Call → ℕ → Kind
kind_at call line = record { name = named (name line); value = value_kind call line }

-- the first line is one of five words; the number tells which
abbrev pub rank_of : Call → ℕ
rank_of Start1 = 1
rank_of Start2 = 2
rank_of Ad = 3
rank_of Text = 4
rank_of Finish = 5

unfoldable pub call_kind : Call → Kind
call_kind call = record { name = named (ascii "call=" ++ word_of call); value = Fixed (rank_of call) }

-- ---- the text

-- what stands on each line of an entry
abbrev pub value_text : ℕ → Entry → List ℕ
value_text line e =
    cond (eqb line 2) (hex_in Lower (held e.input))
    (cond (eqb line 3) (numeral e.answer) (cond (eqb line 4) (hex_in Lower (held e.out)) (numeral e.rounds)))

-- a line, with its line feed
unfoldable pub line_text : ℕ → Entry → List ℕ
line_text line e = cond (eqb line 1) (line_of (ascii "call=") (word_of e.call)) (line_of (name line) (value_text line e))

-- an entry: its five lines, each straight after the one before
unfoldable pub entry_text : Entry → List ℕ
entry_text e = text_from line_text 5 1 e

-- what a refusal hands back: the entry of a start with nothing in it
unfoldable pub blank : Entry
blank = record { call = Start1; input = field_of []; answer = 0; out = field_of []; rounds = 0 }
