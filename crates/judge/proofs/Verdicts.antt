-- The verdict is equal exactly where rounds, cipher and tag are ours, and unread exactly where a text can not be read.
use mathlib.Core.Path.{◌≡◌, refl, sym, ap}
use mathlib.Core.Bool.{Bool, true, false, not}
use mathlib.Core.List.{List, [], ◌∷◌}
use mathlib.Core.Logic.{◌⊎◌, inl, inr}
use Prim.Native.Nat.{ℕ, ◌≤◌, ◌<◌, ◌^◌}
use native.Mathlib.Omega.{arith}
use lib.Dec.{eqb}
use lib.ListN.{length}
use borrow.Author.Tests.{eqb-true, eq-eqb}
use Rattle.answers.specs.declared.Answer.TheVariants.{Done, BrokenRecord}
use Rattle.answers.specs.Numbers.{is_done}
use Rattle.answers.specs.Order.{◌when◌, first}
use Rattle.record.specs.declared.form.Form.TheVariants.{One}
use Rattle.record.specs.declared.form.Record.{Record}
use Rattle.record.specs.Calls.{Reading, form_of, refused_at, read_as, read_any}
use Rattle.record.proofs.Any.{reads_any}
use Rattle.record.proofs.Places.{few_lines}
use Rattle.record.proofs.TwoForms.{in_one}
use Rattle.record.specs.Form.{held, with_number, value_kind, keeps, broken}
use Rattle.report.specs.declared.Verdict.TheVariants.{Equal, Rounds, Cipher, Tag, Unread}
use Rattle.report.specs.Reports.{report_text}
use Rattle.report.proofs.Lengths.{report_most}
use Rattle.judge.specs.Difference.{differ}
use Rattle.judge.specs.Verdicts.{our_sealing, our_rounds, verdict_on}
use Rattle.judge.specs.Steps.{verdict_read}
use Rattle.judge.specs.Laws.{Agrees}
use Rattle.judge.proofs.Differences.{same_texts, other_texts, self_same}

-- where the verdict is equal, rounds, cipher and tag are ours
pub equal_agrees : (r : Record) → verdict_on r ≡ Equal → Agrees r
unfolding verdict_on
equal_agrees r =
    go (eqb (broken One r) 0) (eqb r.rounds (our_rounds r)) (differ (our_sealing r).cipher (held r.cipher)) (differ (our_sealing r).tag (held r.tag)) refl refl refl refl
  where
    go : (s t u v : Bool) → eqb (broken One r) 0 ≡ s → eqb r.rounds (our_rounds r) ≡ t
        → differ (our_sealing r).cipher (held r.cipher) ≡ u → differ (our_sealing r).tag (held r.tag) ≡ v
        → first Equal (Unread (broken One r) 0 when not s ∷ Rounds when not t ∷ Cipher when u ∷ Tag when v ∷ []) ≡ Equal → Agrees r
    go true true false false f g h k e =
        record {
          in_form = eqb-true (broken One r) 0 f;
          rounds = eqb-true r.rounds (our_rounds r) g;
          cipher = sym (same_texts (our_sealing r).cipher (held r.cipher) h);
          tag = sym (same_texts (our_sealing r).tag (held r.tag) k);
        }
    go true true false true f g h k e = let z : ◌≡◌ {A = ℕ} 0 1 = cc in absurd (omega arith)
    go true true true v f g h k e = let z : ◌≡◌ {A = ℕ} 0 1 = cc in absurd (omega arith)
    go true false u v f g h k e = let z : ◌≡◌ {A = ℕ} 0 1 = cc in absurd (omega arith)
    go false t u v f g h k e = let z : ◌≡◌ {A = ℕ} 0 1 = cc in absurd (omega arith)

-- where they are, the verdict is equal
pub agrees_equal : (r : Record) → Agrees r → verdict_on r ≡ Equal
unfolding verdict_on
agrees_equal r a = rw (a.in_form, eq-eqb r.rounds (our_rounds r) a.rounds, a.cipher, a.tag, self_same (our_sealing r).cipher, self_same (our_sealing r).tag)

-- where the rounds are ours and the cipher is not, the verdict is cipher
pub other_cipher : (r : Record) → broken One r ≡ 0 → r.rounds ≡ our_rounds r → (held r.cipher ≡ (our_sealing r).cipher → ⊥) → verdict_on r ≡ Cipher
unfolding verdict_on
other_cipher r sound rounds other = rw (sound, eq-eqb r.rounds (our_rounds r) rounds, other_texts (our_sealing r).cipher (held r.cipher) (λ e. other (sym e)))

-- a record in form is not unread
in_form_read : (r : Record) (line column : ℕ) → broken One r ≡ 0 → verdict_on r ≡ Unread line column → ⊥
unfolding verdict_on
in_form_read r line column sound e =
    go (eqb r.rounds (our_rounds r)) (differ (our_sealing r).cipher (held r.cipher)) (differ (our_sealing r).tag (held r.tag)) (rw sound at e)
  where
    go : (t u v : Bool) → first Equal (Rounds when not t ∷ Cipher when u ∷ Tag when v ∷ []) ≡ Unread line column → ⊥
    go true false false e = let z : ◌≡◌ {A = ℕ} 0 1 = cc in omega arith
    go true false true e = let z : ◌≡◌ {A = ℕ} 0 1 = cc in omega arith
    go true true v e = let z : ◌≡◌ {A = ℕ} 0 1 = cc in omega arith
    go false u v e = let z : ◌≡◌ {A = ℕ} 0 1 = cc in omega arith

-- a text that is read is not unread
pub read_verdict : (text : List ℕ) (line column : ℕ) → (read_any text).answer ≡ Done → verdict_read (read_any text) ≡ Unread line column → ⊥
unfolding verdict_read
read_verdict text line column d e = in_form_read (read_any text).content line column (in_one (form_of text) _ (reads_any.read_in_form text d).in_form) (rw d at e)

-- a text that is not is unread at its line and column
pub unread_verdict : (text : List ℕ) → is_done (read_any text).answer ≡ false → verdict_read (read_any text) ≡ Unread (read_any text).line (read_any text).column
unfolding verdict_read
unread_verdict text d = rw d

-- a report has at most 70 bytes
pub report_short : (text : List ℕ) (number : ℕ) → number < 2 ^ 64 → length (report_text number (verdict_read (read_any text))) ≤ 70
unfolding refused_at read_as
report_short text number h = report_most number (verdict_read (read_any text)) h (λ line column e. small line column e (reads_any.answered text))
  where
    small : (line column : ℕ) → verdict_read (read_any text) ≡ Unread line column → let r = read_any text in
        (r ≡ read_as r.taken r.content) ⊎ (r ≡ refused_at r.line r.column r.early) → line < 2 ^ 64
    small line column e (inl d) = absurd (read_verdict text line column (ap (λ (q : Reading). q.answer) d) e)
    small line column e (inr r) =
        let refused : (read_any text).answer ≡ BrokenRecord = ap (λ (q : Reading). q.answer) r in
        let most = ((reads_any.refused text _ _).0 (refused, refl, refl)).last in
        let few = few_lines (form_of text) in
        let unread = unread_verdict text (ap is_done refused) in
        let same : line ≡ (read_any text).line = cc in
        omega arith

-- the chip takes no part in a verdict
pub no_chip : (r : Record) (chip : ℕ) → verdict_on (with_number 3 chip r) ≡ verdict_on r
unfolding verdict_on our_sealing our_rounds broken keeps value_kind with_number
no_chip r chip = refl
