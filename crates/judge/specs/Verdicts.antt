-- The verdict on a record: our own sealing against what the record says.
use Rattle.std.specs.Prelude.{not, List, [], ◌∷◌, ℕ, eqb, length}
use Rattle.answers.specs.Order.{Choice, ◌when◌, first}
use Rattle.ascon.specs.Sets.{row_of}
use Rattle.ascon.specs.Mode.{Sealed, sealed}
use Rattle.ascon.specs.Rounds.{message_rounds}
use Rattle.record.specs.declared.form.Form.TheVariants.{One}
use Rattle.record.specs.declared.form.Record.{Record}
use Rattle.record.specs.Form.{field_of, held, broken}
use Rattle.report.specs.declared.Verdict.{Verdict}
use Rattle.report.specs.declared.Verdict.TheVariants.{Equal, Rounds, Cipher, Tag, Unread}
use Rattle.judge.specs.declared.verdict.Ours.{Ours}
use Rattle.judge.specs.Difference.{differ}

-- the published sealing of a record's text under its set, key, nonce and data
unfoldable pub our_sealing : Record → Sealed
our_sealing r = sealed (row_of r.set) (held r.key) (held r.nonce) (held r.ad) (held r.text)

-- the rounds of that sealing
unfoldable pub our_rounds : Record → ℕ
our_rounds r = message_rounds (row_of r.set) (length (held r.ad)) (length (held r.text))

-- the verdicts but equal, in their order: out of form by form 1's rules and line numbers, which leave the chip aside, without a column, since no text was read; rounds; cipher; tag
abbrev pub differences : Record → List (Choice Verdict)
differences r =
    Unread (broken One r) 0 when not (eqb (broken One r) 0)
    ∷ Rounds when not (eqb r.rounds (our_rounds r))
    ∷ Cipher when differ (our_sealing r).cipher (held r.cipher)
    ∷ Tag when differ (our_sealing r).tag (held r.tag)
    ∷ []

-- the first that holds
unfoldable pub verdict_on : Record → Verdict
verdict_on r = first Equal (differences r)

-- ---- inside: our sealing in the code's struct

-- of a set, key, nonce, data and text
unfoldable pub ours_by : ℕ → List ℕ → List ℕ → List ℕ → List ℕ → Ours
ours_by set K N A P =
    let message = sealed (row_of set) K N A P in
    record { rounds = message_rounds (row_of set) (length A) (length P); cipher = field_of message.cipher; tag = field_of message.tag }

-- of a record
unfoldable pub ours_of : Record → Ours
ours_of r = ours_by r.set (held r.key) (held r.nonce) (held r.ad) (held r.text)
