-- Where the rule and the verdict part from those of before: exactly where one text is a proper beginning of the other.
use mathlib.Core.Path.{◌≡◌, refl, sym, ap, subst, ◌∙◌}
use mathlib.Core.Bool.{Bool, true, false, cond, not, true≢false}
use mathlib.Core.List.{List, [], ◌∷◌, ◌++◌}
use mathlib.Core.Logic.{◌⊎◌, inl, inr, ⊎_elim}
use Prim.Native.Nat.{ℕ, suc, ◌≤◌}
use native.Mathlib.Omega.{arith}
use lib.Dec.{eqb}
use lib.ListN.{length}
use borrow.Author.Tests.{eqb-true, eq-eqb, ne_eqb}
use Rattle.record.specs.declared.form.Record.{Record}
use Rattle.record.specs.Form.{held}
use Rattle.report.specs.declared.Verdict.TheVariants.{Equal}
use Rattle.judge.specs.Difference.{FirstDifference, here, further, first_difference, differ}
use Rattle.judge.specs.Verdicts.{our_sealing, verdict_on}
use Rattle.judge.specs.Before.{tail_before, equal_before, verdict_before, ProperBeginning, TwoRules, TwoVerdicts}
use Rattle.judge.proofs.Differences.{same_texts, self_same, behind_common}
use Rattle.judge.proofs.Verdicts.{equal_agrees}

-- a byte before a proper beginning
longer : (a b : ℕ) (text other : List ℕ) → a ≡ b → ProperBeginning text other → ProperBeginning (a ∷ text) (b ∷ other)
longer a b text other same p = record { rest = p.rest; more = p.more; goes_on = λ j. same j ∷ p.goes_on j }

-- texts that were called equal and differ are such
was_equal : (wanted found : List ℕ) → equal_before wanted found ≡ true → differ wanted found ≡ true → ProperBeginning wanted found ⊎ ProperBeginning found wanted
was_equal [] [] e d = absurd (true≢false (sym d))
was_equal [] (b ∷ found) e d = inl (record { rest = b ∷ found; more = omega arith; goes_on = refl })
was_equal (a ∷ wanted) [] e d = inr (record { rest = a ∷ wanted; more = omega arith; goes_on = refl })
was_equal (a ∷ wanted) (b ∷ found) e d = go (eqb a b) refl (was_equal wanted found) e d
  where
    go : (t : Bool) → eqb a b ≡ t → (equal_before wanted found ≡ true → differ wanted found ≡ true → ProperBeginning wanted found ⊎ ProperBeginning found wanted)
        → eqb (length (cond t (tail_before wanted found) (b ∷ found))) 0 ≡ true → (cond t (further (first_difference wanted found)) (here true (b ∷ found))).differs ≡ true
        → ProperBeginning (a ∷ wanted) (b ∷ found) ⊎ ProperBeginning (b ∷ found) (a ∷ wanted)
    go true same later h k =
        let first = eqb-true a b same in
        ⊎_elim (λ p. inl (longer a b wanted found first p)) (λ p. inr (longer b a found wanted (sym first) p)) (later h k)
    go false other later h k = let none = eqb-true (suc (length found)) 0 h in absurd (omega arith)

-- there was no tail where the found text goes on
no_tail_behind : (text rest : List ℕ) → tail_before text (text ++ rest) ≡ []
no_tail_behind [] rest = refl
no_tail_behind (a ∷ text) rest = rw (eq-eqb a a refl, no_tail_behind text rest)

-- nor where the wanted text goes on
no_tail_before : (text rest : List ℕ) → tail_before (text ++ rest) text ≡ []
no_tail_before [] [] = refl
no_tail_before [] (a ∷ rest) = refl
no_tail_before (a ∷ text) rest = rw (eq-eqb a a refl, no_tail_before text rest)

-- a wanted text that is a proper beginning was called equal, and differs
found_is_longer : (wanted found : List ℕ) → ProperBeginning wanted found → (equal_before wanted found ≡ true) × (differ wanted found ≡ true)
found_is_longer wanted found p = subst (λ (x : List ℕ). (equal_before wanted x ≡ true) × (differ wanted x ≡ true)) p.goes_on (go p.rest p.more)
  where
    go : (rest : List ℕ) → 1 ≤ length rest → (equal_before wanted (wanted ++ rest) ≡ true) × (differ wanted (wanted ++ rest) ≡ true)
    go [] more = absurd (omega arith)
    go (b ∷ rest) more = (rw (no_tail_behind wanted (b ∷ rest)), ap (λ (d : FirstDifference). d.differs) ((behind_common wanted).wanted_ended b rest))

-- so was a found text that is one, and it differs
wanted_is_longer : (wanted found : List ℕ) → ProperBeginning found wanted → (equal_before wanted found ≡ true) × (differ wanted found ≡ true)
wanted_is_longer wanted found p = subst (λ (x : List ℕ). (equal_before x found ≡ true) × (differ x found ≡ true)) p.goes_on (go p.rest p.more)
  where
    go : (rest : List ℕ) → 1 ≤ length rest → (equal_before (found ++ rest) found ≡ true) × (differ (found ++ rest) found ≡ true)
    go [] more = absurd (omega arith)
    go (a ∷ rest) more = (rw (no_tail_before found (a ∷ rest)), ap (λ (d : FirstDifference). d.differs) ((behind_common found).found_ended a rest))

-- texts that were not called equal differ, from the same place on
was_other : (wanted found : List ℕ) → equal_before wanted found ≡ false → (differ wanted found ≡ true) × ((first_difference wanted found).part ≡ tail_before wanted found)
was_other [] found e = absurd (true≢false e)
was_other (a ∷ wanted) [] e = absurd (true≢false e)
was_other (a ∷ wanted) (b ∷ found) e = go (eqb a b) (was_other wanted found) e
  where
    go : (t : Bool) → (equal_before wanted found ≡ false → (differ wanted found ≡ true) × ((first_difference wanted found).part ≡ tail_before wanted found))
        → eqb (length (cond t (tail_before wanted found) (b ∷ found))) 0 ≡ false
        → let d = cond t (further (first_difference wanted found)) (here true (b ∷ found)) in
        (d.differs ≡ true) × (d.part ≡ cond t (tail_before wanted found) (b ∷ found))
    go true later h = later h
    go false later h = (refl, refl)

-- ---- the part

-- of texts that were called equal there was no tail
no_tail : (wanted found : List ℕ) → equal_before wanted found ≡ true → tail_before wanted found ≡ []
no_tail wanted found e = go (tail_before wanted found) (eqb-true (length (tail_before wanted found)) 0 e)
  where
    go : (tail : List ℕ) → length tail ≡ 0 → tail ≡ []
    go [] none = refl
    go (b ∷ tail) none = absurd (omega arith)

-- a found text that is a proper beginning has an empty part
cut_part : (wanted found : List ℕ) → ProperBeginning found wanted → (first_difference wanted found).part ≡ []
cut_part wanted found p = subst (λ (x : List ℕ). (first_difference x found).part ≡ []) p.goes_on (go p.rest p.more)
  where
    go : (rest : List ℕ) → 1 ≤ length rest → (first_difference (found ++ rest) found).part ≡ []
    go [] more = absurd (omega arith)
    go (a ∷ rest) more = ap (λ (d : FirstDifference). d.part) ((behind_common found).found_ended a rest)

-- a wanted text that is one leaves the rest of the found text
rest_part : (wanted found : List ℕ) (p : ProperBeginning wanted found) → (first_difference wanted found).part ≡ p.rest
rest_part wanted found p = subst (λ (x : List ℕ). (first_difference wanted x).part ≡ p.rest) p.goes_on (go p.rest p.more)
  where
    go : (rest : List ℕ) → 1 ≤ length rest → (first_difference wanted (wanted ++ rest)).part ≡ rest
    go [] more = absurd (omega arith)
    go (b ∷ rest) more = ap (λ (d : FirstDifference). d.part) ((behind_common wanted).wanted_ended b rest)

-- where the part is another than the tail was, the wanted text is a proper beginning of the found one
new_part : (wanted found : List ℕ) → ((first_difference wanted found).part ≡ tail_before wanted found → ⊥) → ProperBeginning wanted found
new_part wanted found other = go (equal_before wanted found) refl (differ wanted found) refl
  where
    empty : equal_before wanted found ≡ true → (first_difference wanted found).part ≡ [] → ⊥
    empty e none = other (none ∙ sym (no_tail wanted found e))

    go : (t : Bool) → equal_before wanted found ≡ t → (u : Bool) → differ wanted found ≡ u → ProperBeginning wanted found
    go false e u d = absurd (other (was_other wanted found e).1)
    go true e false d =
        let one = same_texts wanted found d in
        absurd (empty e (subst (λ (x : List ℕ). (first_difference wanted x).part ≡ []) one (ap (λ (x : FirstDifference). x.part) (self_same wanted))))
    go true e true d = ⊎_elim (λ p. p) (λ p. absurd (empty e (cut_part wanted found p))) (was_equal wanted found e d)

-- and where it is one, the part is another
new_rest : (wanted found : List ℕ) → ProperBeginning wanted found → (first_difference wanted found).part ≡ tail_before wanted found → ⊥
new_rest wanted found p e =
    let none : p.rest ≡ [] = sym (rest_part wanted found p) ∙ e ∙ no_tail wanted found (found_is_longer wanted found p).0 in
    let size : length p.rest ≡ 0 = ap length none in
    omega (arith, size, p.more)

-- ---- both rules, side by side

pub two_rules : (wanted found : List ℕ) → TwoRules wanted found
two_rules wanted found =
    record {
      parted = (λ h. was_equal wanted found h.0 h.1, ⊎_elim (found_is_longer wanted found) (wanted_is_longer wanted found));
      kept = was_other wanted found;
      other_part = (new_part wanted found, new_rest wanted found);
    }

-- ---- both verdicts

-- texts of one length differ exactly where they were not called equal
one_length : (wanted found : List ℕ) → length wanted ≡ length found → differ wanted found ≡ not (equal_before wanted found)
one_length [] [] size = refl
one_length [] (b ∷ found) size = absurd (omega arith)
one_length (a ∷ wanted) [] size = absurd (omega arith)
one_length (a ∷ wanted) (b ∷ found) size = go (eqb a b) (one_length wanted found (omega arith))
  where
    go : (t : Bool) → differ wanted found ≡ not (equal_before wanted found)
        → (cond t (further (first_difference wanted found)) (here true (b ∷ found))).differs ≡ not (eqb (length (cond t (tail_before wanted found) (b ∷ found))) 0)
    go true later = later
    go false later = rw (ne_eqb (length (b ∷ found)) 0 (λ none. omega arith))

-- so the verdict stays where cipher and tag are as long as ours
kept_verdict : (r : Record) → length (our_sealing r).cipher ≡ length (held r.cipher) → length (our_sealing r).tag ≡ length (held r.tag)
    → verdict_on r ≡ verdict_before r
unfolding verdict_on
kept_verdict r cipher tag = rw (one_length (our_sealing r).cipher (held r.cipher) cipher, one_length (our_sealing r).tag (held r.tag) tag)

-- a record that is equal has these lengths, so it was equal
no_new_equal : (r : Record) → verdict_on r ≡ Equal → verdict_before r ≡ Equal
no_new_equal r e =
    let same = equal_agrees r e in
    sym (kept_verdict r (ap length (sym same.cipher)) (ap length (sym same.tag))) ∙ e

-- a record, by both rules
pub two_verdicts : (r : Record) → TwoVerdicts r
two_verdicts r = record { kept = kept_verdict r; no_new = no_new_equal r }
