-- What the first difference, the verdicts and the steps promise.
use Rattle.std.specs.Prelude.{Bool, true, false, cond, List, [], ◌∷◌, ◌++◌, map, ◌↔◌, ◌≡◌, ℕ, ◌+◌, ◌^◌, ◌≤◌, ◌<◌, length, take, drop}
use Rattle.std.proofs.Math.ListN.{get_elem?}
use Rattle.answers.specs.declared.Answer.TheVariants.{Done, BrokenRecord}
use Rattle.answers.specs.Numbers.{is_done}
use Rattle.record.specs.declared.form.Form.{Form}
use Rattle.record.specs.declared.form.Form.TheVariants.{One, Two}
use Rattle.record.specs.declared.form.Record.{Record}
use Rattle.record.specs.Form.{held, with_number, broken}
use Rattle.record.specs.Calls.{form_of, read_any}
use Rattle.record.specs.Laws.{BegunAny, WrongAt, Spellable}
use Rattle.record.specs.Text.{text_of, most_bytes}
use Rattle.report.specs.declared.Verdict.{Verdict}
use Rattle.report.specs.declared.Verdict.TheVariants.{Equal, Cipher, Unread}
use Rattle.report.specs.Reports.{report_text}
use Rattle.judge.specs.declared.stepping.Step.TheVariants.{Judged, Stopped, Wait}
use Rattle.judge.specs.Difference.{FirstDifference, first_difference}
use Rattle.judge.specs.Verdicts.{our_sealing, our_rounds, verdict_on}
use Rattle.judge.specs.Steps.{verdict_read, is_final, step_leaves, step_call, taken_by, written_by, verdicts_of, output_from}

-- a record's rounds, cipher and tag are those of our own sealing
pub record Agrees (r : Record) : Type 0 where
  pub in_form : broken One r ≡ 0
  pub rounds : r.rounds ≡ our_rounds r
  pub cipher : held r.cipher ≡ (our_sealing r).cipher
  pub tag : held r.tag ≡ (our_sealing r).tag

-- two texts differ first at a place: before it they have the same bytes, and at it they do not; a text that has ended has none, and two that have are the same there
pub record DiffersFirstAt (wanted found : List ℕ) (place : ℕ) : Type 0 where
  pub before : (i : ℕ) → i < place → get_elem? wanted i ≡ get_elem? found i
  pub there : get_elem? wanted place ≡ get_elem? found place → ⊥

-- what the first difference of two texts tells
pub record Tells (wanted found : List ℕ) (d : FirstDifference) : Type 0 where
  -- texts that do not differ are one list, and one list does not differ from itself
  pub same : (d.differs ≡ false) ↔ (wanted ≡ found)
  -- where they differ, they differ first at the place
  pub first : d.differs ≡ true → DiffersFirstAt wanted found d.place
  -- and at no other
  pub only : (place : ℕ) → DiffersFirstAt wanted found place → (d.differs ≡ true) × (d.place ≡ place)
  -- the place is at most either length
  pub inside : (d.place ≤ length wanted) × (d.place ≤ length found)
  -- the part is the found text from the place on
  pub part : d.part ≡ drop d.place found

-- the first difference of texts that begin alike, by what stands behind that beginning
pub record BehindCommon (common : List ℕ) : Type 0 where
  -- nothing: they are the same, the place is their length, and the part is empty
  pub same : first_difference common common ≡ record { differs = false; place = length common; part = [] }
  -- a byte in both, and they differ: part and place begin there
  pub bytes : (a b : ℕ) (wanted found : List ℕ) → (a ≡ b → ⊥)
      → first_difference (common ++ a ∷ wanted) (common ++ b ∷ found) ≡ record { differs = true; place = length common; part = b ∷ found }
  -- the found text ended first: the place is its length, and the part is empty
  pub found_ended : (a : ℕ) (wanted : List ℕ) → first_difference (common ++ a ∷ wanted) common ≡ record { differs = true; place = length common; part = [] }
  -- the wanted text ended first: part and place begin where it ends
  pub wanted_ended : (b : ℕ) (found : List ℕ) → first_difference common (common ++ b ∷ found) ≡ record { differs = true; place = length common; part = b ∷ found }

-- a record, and the form of its text
pub record Entry : Type 0 where
  pub form : Form
  pub content : Record

-- records that their forms can spell
abbrev pub AllInForm : List Entry → Type 0
AllInForm [] = Unit {0}
AllInForm (e ∷ entries) = Spellable e.form e.content × AllInForm entries

-- their texts, one straight after another
abbrev pub texts_of : List Entry → List ℕ
texts_of [] = []
texts_of (e ∷ entries) = text_of e.form e.content ++ texts_of entries

-- their verdicts: the form and the chip take no part
abbrev pub verdicts_on : List Entry → List Verdict
verdicts_on entries = map (λ e. verdict_on e.content) entries

pub record Judges : Type 0 where
  -- the verdict is equal exactly where rounds, cipher and tag are ours, in length and in every byte
  pub equal : (r : Record) → (verdict_on r ≡ Equal) ↔ Agrees r
  -- it is cipher where the rounds are ours and the cipher is not, be it cut off, too long or other bytes
  pub cipher : (r : Record) → broken One r ≡ 0 → r.rounds ≡ our_rounds r → (held r.cipher ≡ (our_sealing r).cipher → ⊥) → verdict_on r ≡ Cipher
  -- what the first difference of two texts tells, and what it is where they begin alike
  pub difference : (wanted found : List ℕ) → Tells wanted found (first_difference wanted found)
  pub behind : (common : List ℕ) → BehindCommon common
  -- a final window tells what the whole input tells, where it is the input's beginning, and all of it if the input has ended
  pub window : (text : List ℕ) (size : ℕ) (ended : Bool) → (ended ≡ true → length text ≤ size) → is_final (take size text) ended ≡ true
      → read_any (take size text) ≡ read_any text
  -- and a step on it gives the report on the record that the whole input begins with
  pub step : (text : List ℕ) (size : ℕ) (ended : Bool) (number : ℕ) (out : List ℕ) → (ended ≡ true → length text ≤ size) → 1 ≤ length (take size text)
      → is_final (take size text) ended ≡ true
      → let report = report_text number (verdict_read (read_any text)) in
      length report ≤ length out
      → step_call (take size text) ended number out
      ≡ step_leaves (cond (is_done (read_any text).answer) (Judged (verdict_read (read_any text)) (read_any text).taken (length report)) (Stopped (read_any text).line (read_any text).column (length report))) (report ++ drop (length report) out)
  -- a step takes no more than its window, writes no more than its place, and the place keeps its length
  pub inside : (window : List ℕ) (ended : Bool) (number : ℕ) (out : List ℕ) → let leaves = step_call window ended number out in
      (taken_by leaves.step ≤ length window) × (written_by leaves.step ≤ length out) × (length leaves.out ≡ length out)
  -- a step waits exactly where the input has not ended, the window does not begin with a record, and some more input makes it begin with one: what no input can mend is
  -- reported at once
  pub waits : (window : List ℕ) (ended : Bool) (number : ℕ) (out : List ℕ)
      → ((step_call window ended number out).step ≡ Wait) ↔ ((ended ≡ false) × (BegunAny window → ⊥) × ((more : List ℕ) × BegunAny (window ++ more)))
  -- and such a window has less than the most bytes of a record
  pub short_window : (window : List ℕ) (ended : Bool) (number : ℕ) (out : List ℕ) → (step_call window ended number out).step ≡ Wait → length window < most_bytes Two
  -- a text that is read is never unread, and one that is not is unread at its line and column
  pub read : (text : List ℕ) (line column : ℕ) → (read_any text).answer ≡ Done → verdict_read (read_any text) ≡ Unread line column → ⊥
  pub unread : (text : List ℕ) → is_done (read_any text).answer ≡ false → verdict_read (read_any text) ≡ Unread (read_any text).line (read_any text).column
  -- a report has at most 70 bytes, where its number has 64 bits
  pub short : (text : List ℕ) (number : ℕ) → number < 2 ^ 64 → length (report_text number (verdict_read (read_any text))) ≤ 70
  -- the output of no input is nothing
  pub nothing : (number : ℕ) → output_from number [] ≡ []
  -- a record that is read gives its report, and then what is left gives its own
  pub goes_on : (number : ℕ) (text : List ℕ) → (read_any text).answer ≡ Done
      → output_from number text ≡ report_text number (verdict_read (read_any text)) ++ output_from (number + 1) (drop (read_any text).taken text)
  -- a record that can not be read is the last
  pub stops : (number : ℕ) (text : List ℕ) → 1 ≤ length text → (read_any text).answer ≡ BrokenRecord
      → output_from number text ≡ report_text number (verdict_read (read_any text))
  -- the verdicts on records in form one after another, of either form, and on what stands behind them
  pub in_a_row : (entries : List Entry) (text : List ℕ) → AllInForm entries → verdicts_of (texts_of entries ++ text) ≡ verdicts_on entries ++ verdicts_of text
  -- the chip, part 3 of a record, takes no part in its verdict
  pub chip : (r : Record) (chip : ℕ) → verdict_on (with_number 3 chip r) ≡ verdict_on r
  -- a text that is wrong at a line and column has one verdict, which says so
  pub wrong_at : (text : List ℕ) (line column : ℕ) → 1 ≤ length text → WrongAt (form_of text) text line column → verdicts_of text ≡ Unread line column ∷ []
