-- The verdicts on an input and their reports, record by record.
use mathlib.Core.Path.{◌≡◌, refl, ap, ◌∙◌}
use mathlib.Core.Bool.{Bool, true, false, cond}
use mathlib.Core.List.{List, [], ◌∷◌, ◌++◌, append-nil, append_assoc}
use Prim.Native.Nat.{ℕ, zero, suc, ◌+◌, ◌≤◌}
use native.Mathlib.Omega.{arith}
use lib.Dec.{eqb}
use lib.ListN.{length, drop, length-drop}
use lib.Seq.{drop-append_seam}
use borrow.Author.Tests.{eq-eqb, ne_eqb}
use Rattle.answers.specs.declared.Answer.TheVariants.{Done, BrokenRecord}
use Rattle.answers.specs.Numbers.{is_done}
use Rattle.answers.proofs.Numbers.{done_is}
use Rattle.record.specs.declared.form.Record.{Record}
use Rattle.record.specs.Calls.{Reading}
use Rattle.record.specs.Text.{text_of}
use Rattle.record.specs.Calls.{form_of, read_as, read_any}
use Rattle.record.specs.Laws.{WrongAt}
use Rattle.record.proofs.Any.{any_inside, reads_any}
use Rattle.report.specs.declared.Verdict.{Verdict}
use Rattle.report.specs.declared.Verdict.TheVariants.{Unread}
use Rattle.report.specs.Reports.{report_text}
use Rattle.judge.specs.Verdicts.{verdict_on}
use Rattle.judge.specs.Laws.{Entry, AllInForm, texts_of, verdicts_on}
use Rattle.judge.proofs.Verdicts.{unread_verdict}
use Rattle.judge.specs.Steps.{verdict_read, verdicts_in, verdicts_of, reports_from, output_from}

-- no input has no verdicts
pub no_verdicts : verdicts_of [] ≡ []
unfolding verdicts_of
no_verdicts = refl

-- more steps than bytes change nothing
enough_steps : (m n : ℕ) (text : List ℕ) → length text ≤ m → length text ≤ n → verdicts_in m text ≡ verdicts_in n text
enough_steps zero zero text h k = refl
enough_steps zero (suc n) text h k = rw (eq-eqb (length text) 0 (omega arith))
enough_steps (suc m) zero text h k = rw (eq-eqb (length text) 0 (omega arith))
enough_steps (suc m) (suc n) text h k =
    ap (λ (rest : List Verdict). cond (eqb (length text) 0) [] (verdict_read (read_any text) ∷ rest))
    (go (is_done (read_any text).answer) refl (enough_steps m n (drop (read_any text).taken text)))
  where
    go : (t : Bool) → is_done (read_any text).answer ≡ t
        → (length (drop (read_any text).taken text) ≤ m → length (drop (read_any text).taken text) ≤ n
        → verdicts_in m (drop (read_any text).taken text) ≡ verdicts_in n (drop (read_any text).taken text))
        → cond t (verdicts_in m (drop (read_any text).taken text)) [] ≡ cond t (verdicts_in n (drop (read_any text).taken text)) []
    go true e rest =
        let b = any_inside text (done_is _ e) in
        let l = length-drop (read_any text).taken text in
        rest (omega arith) (omega arith)
    go false e rest = refl

-- an input has the verdict on its first record and then, where that is read, the verdicts on what is left
pub verdicts_step : (text : List ℕ) → 1 ≤ length text
    → verdicts_of text ≡ verdict_read (read_any text) ∷ cond (is_done (read_any text).answer) (verdicts_of (drop (read_any text).taken text)) []
unfolding verdicts_of
verdicts_step text h =
    let left : List ℕ = drop (read_any text).taken text in
    let l : length left ≤ length text = omega (arith, length-drop (read_any text).taken text) in
    enough_steps (length text) (suc (length text)) text (omega arith) (omega arith)
    ∙ rw (ne_eqb (length text) 0 (λ e. omega arith), enough_steps (length text) (length left) left l (omega arith))

-- the reports on verdicts, and then on others
pub reports_append : (number : ℕ) (vs ws : List Verdict) → reports_from number (vs ++ ws) ≡ reports_from number vs ++ reports_from (number + length vs) ws
reports_append number [] ws = ap (λ (n : ℕ). reports_from n ws) (omega arith)
reports_append number (v ∷ vs) ws =
    let next : number + 1 + length vs ≡ number + suc (length vs) = omega arith in
    ap (λ (rest : List ℕ). report_text number v ++ rest) (reports_append (number + 1) vs ws ∙ ap (λ (n : ℕ). reports_from (number + 1) vs ++ reports_from n ws) next)
    ∙ rw append_assoc

-- the output of no input is nothing
pub no_output : (number : ℕ) → output_from number [] ≡ []
unfolding output_from
no_output number = rw no_verdicts

-- a record that is read gives its report, and then what is left gives its own
pub goes_on : (number : ℕ) (text : List ℕ) → (read_any text).answer ≡ Done
    → output_from number text ≡ report_text number (verdict_read (read_any text)) ++ output_from (number + 1) (drop (read_any text).taken text)
unfolding output_from
goes_on number text d =
    let b = any_inside text d in
    rw (verdicts_step text (omega arith), d)

-- a record that can not be read is the last
pub stops : (number : ℕ) (text : List ℕ) → 1 ≤ length text → (read_any text).answer ≡ BrokenRecord
    → output_from number text ≡ report_text number (verdict_read (read_any text))
unfolding output_from
stops number text h d = rw (verdicts_step text h, d) (append-nil _)

-- ---- records one after another

-- the verdicts on records in form one after another, and on what stands behind them
pub in_a_row : (entries : List Entry) (text : List ℕ) → AllInForm entries → verdicts_of (texts_of entries ++ text) ≡ verdicts_on entries ++ verdicts_of text
unfolding verdict_read read_as
in_a_row [] text sound = refl
in_a_row (e ∷ entries) text (sound, rest) =
    let r : Record = e.content in
    let own : List ℕ = text_of e.form r in
    let more : List ℕ = texts_of entries ++ text in
    let reading = reads_any.text_read e.form r more sound in
    let b = any_inside (own ++ more) (ap (λ (q : Reading). q.answer) reading) in
    ap verdicts_of (append_assoc own (texts_of entries) text)
    ∙ verdicts_step (own ++ more) (omega arith)
    ∙ ap (λ (q : Reading). verdict_read q ∷ cond (is_done q.answer) (verdicts_of (drop q.taken (own ++ more))) []) reading
    ∙ ap (λ (x : List ℕ). verdict_on r ∷ verdicts_of x) (drop-append_seam own more)
    ∙ ap (λ (vs : List Verdict). verdict_on r ∷ vs) (in_a_row entries text rest)

-- a text that is wrong at a line and column has one verdict, which says so
pub wrong_verdict : (text : List ℕ) (line column : ℕ) → 1 ≤ length text → WrongAt (form_of text) text line column → verdicts_of text ≡ Unread line column ∷ []
wrong_verdict text line column some w =
    let r = (reads_any.refused text line column).1 w in
    verdicts_step text some
    ∙ rw (unread_verdict text (ap is_done r.0), r.0, r.1, r.2)
