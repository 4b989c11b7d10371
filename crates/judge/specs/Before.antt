-- The rule by which texts were called equal before, the verdict by it, and where those of now part from them. No code follows the old ones.
use Rattle.std.specs.Prelude.{Bool, true, false, cond, not, List, [], ◌∷◌, ◌++◌, ◌↔◌, ◌⊎◌, ◌≡◌, ℕ, ◌≤◌, eqb, length}
use Rattle.answers.specs.Order.{◌when◌, first}
use Rattle.record.specs.declared.form.Form.TheVariants.{One}
use Rattle.record.specs.declared.form.Record.{Record}
use Rattle.record.specs.Form.{held, broken}
use Rattle.report.specs.declared.Verdict.{Verdict}
use Rattle.report.specs.declared.Verdict.TheVariants.{Equal, Rounds, Cipher, Tag, Unread}
use Rattle.judge.specs.Difference.{first_difference, differ}
use Rattle.judge.specs.Verdicts.{our_sealing, our_rounds, verdict_on}

-- the rest of the found text from the first place where both have a byte and the bytes differ; nothing where there is no such place
abbrev pub tail_before : List ℕ → List ℕ → List ℕ
tail_before [] found = []
tail_before (a ∷ wanted) [] = []
tail_before (a ∷ wanted) (b ∷ found) = cond (eqb a b) (tail_before wanted found) (b ∷ found)

-- two texts were called equal where that was empty
abbrev pub equal_before : List ℕ → List ℕ → Bool
equal_before wanted found = eqb (length (tail_before wanted found)) 0

-- the verdict on a record, by that rule
abbrev pub verdict_before : Record → Verdict
verdict_before r =
    first
    Equal
    (Unread (broken One r) 0 when not (eqb (broken One r) 0)
    ∷ Rounds when not (eqb r.rounds (our_rounds r))
    ∷ Cipher when not (equal_before (our_sealing r).cipher (held r.cipher))
    ∷ Tag when not (equal_before (our_sealing r).tag (held r.tag))
    ∷ [])

-- ---- where they part

-- a text is the beginning of a longer one
pub record ProperBeginning (text longer : List ℕ) : Type 0 where
  pub rest : List ℕ
  pub more : 1 ≤ length rest
  pub goes_on : text ++ rest ≡ longer

-- of two texts
pub record TwoRules (wanted found : List ℕ) : Type 0 where
  -- the rules part exactly where one text is a proper beginning of the other: such texts were called equal, and differ
  pub parted : ((equal_before wanted found ≡ true) × (differ wanted found ≡ true)) ↔ (ProperBeginning wanted found ⊎ ProperBeginning found wanted)
  -- texts that were not called equal differ, and the part is the tail that it was
  pub kept : equal_before wanted found ≡ false → (differ wanted found ≡ true) × ((first_difference wanted found).part ≡ tail_before wanted found)
  -- the part is another than the tail was exactly where the wanted text is a proper beginning of the found one
  pub other_part : ((first_difference wanted found).part ≡ tail_before wanted found → ⊥) ↔ ProperBeginning wanted found

-- of a record
pub record TwoVerdicts (r : Record) : Type 0 where
  -- a record whose cipher and tag are as long as ours has the verdict that it had
  pub kept : length (our_sealing r).cipher ≡ length (held r.cipher) → length (our_sealing r).tag ≡ length (held r.tag) → verdict_on r ≡ verdict_before r
  -- no record is equal that was not
  pub no_new : verdict_on r ≡ Equal → verdict_before r ≡ Equal
