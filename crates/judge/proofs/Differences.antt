-- The first difference of two texts: what it tells, and what it is where they begin alike.
use mathlib.Core.Path.{◌≡◌, refl, sym, ap, subst, ◌∙◌}
use mathlib.Core.Bool.{Bool, true, false, cond, not, ◌&&◌, true≢false}
use mathlib.Core.List.{List, [], ◌∷◌, ◌++◌}
use mathlib.Core.Logic.{◌↔◌}
use mathlib.Core.Option.{Option, none, some, some-injective, none-ne-some}
use Prim.Native.Nat.{ℕ, zero, suc, ◌≤◌, ◌<◌, max}
use native.Mathlib.Omega.{arith}
use lib.Dec.{eqb, leb}
use lib.Pointwise.{pointwise}
use lib.ListN.{length, get_elem?, drop}
use borrow.Author.Tests.{eqb-true, eqb-false, eq-eqb, ne_eqb, leb-true, leb-false}
use Rattle.std.specs.Prelude.{Some, None, is_some}
use Rattle.judge.specs.Difference.{FirstDifference, here, further, first_difference, differ, difference_of}
use Rattle.judge.specs.Laws.{DiffersFirstAt, Tells, BehindCommon}

-- what holds behind two bytes that are the same, and what holds at two that are not, holds of the texts that begin with them
by_bytes : (P : FirstDifference → Type 0) (a b : ℕ) (wanted found : List ℕ) → (a ≡ b → P (further (first_difference wanted found)))
    → ((a ≡ b → ⊥) → P (here true (b ∷ found))) → P (first_difference (a ∷ wanted) (b ∷ found))
by_bytes P a b wanted found same other = go (eqb a b) refl
  where
    go : (t : Bool) → eqb a b ≡ t → P (cond t (further (first_difference wanted found)) (here true (b ∷ found)))
    go true e = same (eqb-true a b e)
    go false e = other (eqb-false a b e)

-- ---- what it tells

-- texts that do not differ are one list
pub same_texts : (wanted found : List ℕ) → differ wanted found ≡ false → wanted ≡ found
same_texts [] [] e = refl
same_texts [] (b ∷ found) e = absurd (true≢false e)
same_texts (a ∷ wanted) [] e = absurd (true≢false e)
same_texts (a ∷ wanted) (b ∷ found) e =
    by_bytes (λ d. d.differs ≡ false → a ∷ wanted ≡ b ∷ found) a b wanted found
    (λ first later j. first j ∷ same_texts wanted found later j)
    (λ other ends. absurd (true≢false ends))
    e

-- texts that are not one list differ
pub other_texts : (wanted found : List ℕ) → (wanted ≡ found → ⊥) → differ wanted found ≡ true
other_texts wanted found other = go (differ wanted found) refl
  where
    go : (t : Bool) → differ wanted found ≡ t → t ≡ true
    go true e = refl
    go false e = absurd (other (same_texts wanted found e))

-- a text does not differ from itself
pub self_same : (text : List ℕ) → first_difference text text ≡ record { differs = false; place = length text; part = [] }
self_same [] = refl
self_same (a ∷ text) = rw (eq-eqb a a refl, self_same text)

-- the place of one list is its length
same_place : (wanted found : List ℕ) → wanted ≡ found → (first_difference wanted found).place ≡ length wanted
same_place wanted found e =
    subst (λ (x : List ℕ). (first_difference wanted x).place ≡ length wanted) e (ap (λ (d : FirstDifference). d.place) (self_same wanted))

-- a text that has ended has no byte
behind_end : (text : List ℕ) (i : ℕ) → length text ≤ i → get_elem? text i ≡ none
behind_end [] i h = refl
behind_end (a ∷ text) zero h = absurd (omega arith)
behind_end (a ∷ text) (suc i) h = behind_end text i (omega arith)

-- where texts differ, they differ first at the place
differ_first : (wanted found : List ℕ) → differ wanted found ≡ true → DiffersFirstAt wanted found (first_difference wanted found).place
differ_first [] [] e = absurd (true≢false (sym e))
differ_first [] (b ∷ found) e = record { before = λ i h. absurd (omega arith); there = none-ne-some b }
differ_first (a ∷ wanted) [] e = record { before = λ i h. absurd (omega arith); there = λ s. none-ne-some a (sym s) }
differ_first (a ∷ wanted) (b ∷ found) e =
    by_bytes (λ d. d.differs ≡ true → DiffersFirstAt (a ∷ wanted) (b ∷ found) d.place) a b wanted found
    (λ first h. later first (differ_first wanted found h))
    (λ other h. record { before = λ i h. absurd (omega arith); there = λ s. other (some-injective a b s) })
    e
  where
    later : {n : ℕ} → a ≡ b → DiffersFirstAt wanted found n → DiffersFirstAt (a ∷ wanted) (b ∷ found) (suc n)
    later {n} first f = record { before = before; there = f.there }
      where
        before : (i : ℕ) → i < suc n → get_elem? (a ∷ wanted) i ≡ get_elem? (b ∷ found) i
        before zero h = ap {B = Option ℕ} some first
        before (suc i) h = f.before i (omega arith)

-- there is one such place
one_place : (wanted found : List ℕ) (m n : ℕ) → DiffersFirstAt wanted found m → DiffersFirstAt wanted found n → m ≡ n
one_place wanted found m n f g = go (leb m n) refl (leb n m) refl
  where
    go : (s : Bool) → leb m n ≡ s → (t : Bool) → leb n m ≡ t → m ≡ n
    go true h true k = let below = leb-true m n h in let above = leb-true n m k in omega arith
    go true h false k = absurd (f.there (g.before m (leb-false n m k)))
    go false h t k = absurd (g.there (f.before n (leb-false m n h)))

-- it is at most either length
pub inside : (wanted found : List ℕ) → let place = (first_difference wanted found).place in (place ≤ length wanted) × (place ≤ length found)
inside [] [] = (omega arith, omega arith)
inside [] (b ∷ found) = (omega arith, omega arith)
inside (a ∷ wanted) [] = (omega arith, omega arith)
inside (a ∷ wanted) (b ∷ found) =
    by_bytes (λ d. (d.place ≤ suc (length wanted)) × (d.place ≤ suc (length found))) a b wanted found
    (λ first. let h = inside wanted found in (omega (arith, h.0), omega (arith, h.1)))
    (λ other. (omega arith, omega arith))

-- the part is the found text from the place on
pub part_from : (wanted found : List ℕ) → let d = first_difference wanted found in d.part ≡ drop d.place found
part_from [] [] = refl
part_from [] (b ∷ found) = refl
part_from (a ∷ wanted) [] = refl
part_from (a ∷ wanted) (b ∷ found) = by_bytes (λ d. d.part ≡ drop d.place (b ∷ found)) a b wanted found (λ first. part_from wanted found) (λ other. refl)

-- texts differ where they are not the same byte by byte
pub not_same : (wanted found : List ℕ) → not (pointwise eqb wanted found) ≡ differ wanted found
not_same [] [] = refl
not_same [] (b ∷ found) = refl
not_same (a ∷ wanted) [] = refl
not_same (a ∷ wanted) (b ∷ found) = go (eqb a b) (not_same wanted found)
  where
    go : (t : Bool) → not (pointwise eqb wanted found) ≡ differ wanted found
        → not (t && pointwise eqb wanted found) ≡ (cond t (further (first_difference wanted found)) (here true (b ∷ found))).differs
    go true e = e
    go false e = refl

-- texts of which one goes on behind the place differ
pub goes_on : (wanted found : List ℕ) → (first_difference wanted found).place < max (length wanted) (length found) → differ wanted found ≡ true
goes_on wanted found h = other_texts wanted found (λ e. let ends = same_place wanted found e in let size = ap length e in omega (arith, ends, size, h))

-- texts that both end there do not differ
pub both_end : (wanted found : List ℕ) → max (length wanted) (length found) ≤ (first_difference wanted found).place → differ wanted found ≡ false
both_end wanted found h = go (differ wanted found) refl
  where
    go : (t : Bool) → differ wanted found ≡ t → t ≡ false
    go true e = absurd ((differ_first wanted found e).there (behind_end wanted _ (omega arith) ∙ sym (behind_end found _ (omega arith))))
    go false e = refl

-- all of it
pub tells : (wanted found : List ℕ) → Tells wanted found (first_difference wanted found)
tells wanted found =
    record {
      same = (same_texts wanted found, same_not);
      first = differ_first wanted found;
      only = λ place f. let differs = not_same f in (differs, one_place wanted found _ place (differ_first wanted found differs) f);
      inside = inside wanted found;
      part = part_from wanted found;
    }
  where
    same_not : wanted ≡ found → differ wanted found ≡ false
    same_not e = subst (λ (x : List ℕ). differ wanted x ≡ false) e (ap (λ (d : FirstDifference). d.differs) (self_same wanted))

    not_same : {place : ℕ} → DiffersFirstAt wanted found place → differ wanted found ≡ true
    not_same {place} f = other_texts wanted found (λ e. f.there (ap (λ (x : List ℕ). get_elem? x place) e))

-- ---- what it is where texts begin alike

-- bytes that differ behind a common beginning
bytes_differ : (common : List ℕ) (a b : ℕ) (wanted found : List ℕ) → (a ≡ b → ⊥)
    → first_difference (common ++ a ∷ wanted) (common ++ b ∷ found) ≡ record { differs = true; place = length common; part = b ∷ found }
bytes_differ [] a b wanted found other = rw (ne_eqb a b other)
bytes_differ (c ∷ common) a b wanted found other = rw (eq-eqb c c refl, bytes_differ common a b wanted found other)

-- a found text that is a proper beginning of the wanted one
found_ended : (common : List ℕ) (a : ℕ) (wanted : List ℕ) → first_difference (common ++ a ∷ wanted) common ≡ record { differs = true; place = length common; part = [] }
found_ended [] a wanted = refl
found_ended (c ∷ common) a wanted = rw (eq-eqb c c refl, found_ended common a wanted)

-- a wanted text that is a proper beginning of the found one
wanted_ended : (common : List ℕ) (b : ℕ) (found : List ℕ) → first_difference common (common ++ b ∷ found) ≡ record { differs = true; place = length common; part = b ∷ found }
wanted_ended [] b found = refl
wanted_ended (c ∷ common) b found = rw (eq-eqb c c refl, wanted_ended common b found)

-- all four
pub behind_common : (common : List ℕ) → BehindCommon common
behind_common common = record { same = self_same common; bytes = bytes_differ common; found_ended = found_ended common; wanted_ended = wanted_ended common }

-- ---- the answer of the code

-- it tells a difference exactly where the texts differ
pub told : (wanted found : List ℕ) → is_some (difference_of wanted found) ≡ differ wanted found
told wanted found = go (differ wanted found)
  where
    go : (t : Bool) → is_some (cond t (Some (first_difference wanted found).place) None) ≡ t
    go true = refl
    go false = refl

-- it is none exactly of one list
pub told_same : (wanted found : List ℕ) → (difference_of wanted found ≡ None) ↔ (wanted ≡ found)
told_same wanted found =
    (λ e. same_texts wanted found (sym (told wanted found) ∙ ap is_some e), λ e. rw ((tells wanted found).same.1 e))

-- and some place exactly where the texts differ first at it
pub told_at : (wanted found : List ℕ) (place : ℕ) → (difference_of wanted found ≡ Some place) ↔ DiffersFirstAt wanted found place
told_at wanted found place = (there, λ f. let only = (tells wanted found).only place f in rw (only.0, only.1))
  where
    there : difference_of wanted found ≡ Some place → DiffersFirstAt wanted found place
    there e =
        let differs = sym (told wanted found) ∙ ap is_some e in
        let same : Some (first_difference wanted found).place ≡ Some place = rw differs at e in
        subst (DiffersFirstAt wanted found) (cc same) ((tells wanted found).first differs)
