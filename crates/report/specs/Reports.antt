-- The three lines of a report.
use Rattle.std.specs.Prelude.{cond, not, List, [], ◌∷◌, ◌++◌, ℕ, leb, length, drop, Result, Ok, Err}
use Rattle.answers.specs.declared.Answer.{Answer}
use Rattle.answers.specs.declared.Answer.TheVariants.{Done, NoRoom}
use Rattle.answers.specs.Numbers.{is_done}
use Rattle.answers.specs.Order.{Choice, ◌when◌, first}
use Rattle.digits.specs.Ascii.{ascii}
use Rattle.digits.specs.Numbers.{numeral}
use Rattle.digits.specs.Room.{line_of}
use Rattle.report.specs.declared.Verdict.{Verdict}
use Rattle.report.specs.declared.Verdict.TheVariants.{Equal, Rounds, Cipher, Tag, Unread}
use Rattle.report.specs.declared.NoRoom.{NoRoom as Refusal}

-- `equal`, `differs` or `unread`
abbrev pub word : Verdict → List ℕ
word Equal = ascii "equal"
word Rounds = ascii "differs"
word Cipher = ascii "differs"
word Tag = ascii "differs"
word (Unread line column) = ascii "unread"

-- `none`; the first differing field, `rounds`, `cipher` or `tag`; the number of the broken line
abbrev pub part : Verdict → List ℕ
part Equal = ascii "none"
part Rounds = ascii "rounds"
part Cipher = ascii "cipher"
part Tag = ascii "tag"
part (Unread line column) = numeral line

-- `record=` and the record's number
unfoldable pub record_line : ℕ → List ℕ
record_line number = line_of (ascii "record=") (numeral number)

-- `verdict=` and the word
unfoldable pub verdict_line : Verdict → List ℕ
verdict_line verdict = line_of (ascii "verdict=") (word verdict)

-- `field=` and the field or the line
unfoldable pub field_line : Verdict → List ℕ
field_line verdict = line_of (ascii "field=") (part verdict)

-- the report on a record
unfoldable pub report_text : ℕ → Verdict → List ℕ
report_text number verdict = record_line number ++ (verdict_line verdict ++ field_line verdict)

-- ---- into lent room

-- an answer, and how many bytes were written
pub record Reported : Type 0 where
  pub answer : Answer
  pub written : ℕ

-- of what the code gives
abbrev pub reported_of : Result ℕ Refusal → Reported
reported_of (Ok size) = record { answer = Done; written = size }
reported_of (Err refusal) = record { answer = NoRoom; written = 0 }

-- an answer, and what the place of the report then holds
pub record ReportLeaves : Type 0 where
  pub outcome : Reported
  pub out : List ℕ

abbrev pub report_leaves : Reported → List ℕ → ReportLeaves
report_leaves outcome out = record { outcome = outcome; out = out }

-- 6
abbrev pub report_faults : ℕ → Verdict → ℕ → List (Choice Answer)
report_faults number verdict room = NoRoom when not (leb (length (report_text number verdict)) room) ∷ []

-- the whole report; a refusal changes nothing
unfoldable pub report_call : ℕ → Verdict → List ℕ → ReportLeaves
report_call number verdict out =
    let text = report_text number verdict in
    let answer = first Done (report_faults number verdict (length out)) in
    cond (is_done answer) (report_leaves (record { answer = Done; written = length text }) (text ++ drop (length text) out))
    (report_leaves (record { answer = answer; written = 0 }) out)
