-- The first difference of a wanted and a found text: the first place at which their bytes differ, or one of them has ended and the other has not.
use Rattle.std.specs.Prelude.{Bool, true, false, cond, List, [], ◌∷◌, ℕ, suc, ◌+◌, eqb, Option, Some, None}
use Rattle.std.specs.Borrow.{Bor}
use Rattle.judge.specs.declared.difference.Comparison.{Comparison}

-- whether two texts differ, at which place first, and the part of the found text from there
pub record FirstDifference : Type 0 where
  pub differs : Bool
  pub place : ℕ
  pub part : List ℕ

-- the walk ends here, and the part is what is left of the found text
abbrev pub here : Bool → List ℕ → FirstDifference
here differs found = record { differs = differs; place = 0; part = found }

-- it goes on behind a byte that both have
abbrev pub further : FirstDifference → FirstDifference
further d = record { differs = d.differs; place = suc d.place; part = d.part }

-- both have ended; the wanted text has, and the found one has not; the other way round; both have a byte
abbrev pub first_difference : List ℕ → List ℕ → FirstDifference
first_difference [] [] = here false []
first_difference [] (b ∷ found) = here true (b ∷ found)
first_difference (a ∷ wanted) [] = here true []
first_difference (a ∷ wanted) (b ∷ found) = cond (eqb a b) (further (first_difference wanted found)) (here true (b ∷ found))

-- whether two texts differ
abbrev pub differ : List ℕ → List ℕ → Bool
differ wanted found = (first_difference wanted found).differs

-- the place at which they differ first, if they differ
abbrev pub difference_of : List ℕ → List ℕ → Option ℕ
difference_of wanted found = let d = first_difference wanted found in cond d.differs (Some d.place) None

-- ---- the found text's own part

-- a part of a text: its bytes, and where it begins in memory
pub record Part : Type 0 where
  pub bytes : List ℕ
  pub block : ℕ
  pub offset : ℕ

-- of a slice
abbrev pub part_of : Bor (List ℕ) → Part
part_of x = record { bytes = x.now; block = x.ref_ptr.0; offset = x.ref_ptr.1 }

-- the found text from its first difference on, where it lies
abbrev pub difference_part : List ℕ → Bor (List ℕ) → Part
difference_part wanted found =
    let d = first_difference wanted found.now in
    record { bytes = d.part; block = found.ref_ptr.0; offset = found.ref_ptr.1 + d.place }

-- ---- both

-- whether and where two texts differ first, and the part of the found text from there on
pub record Compared : Type 0 where
  pub difference : Option ℕ
  pub part : Part

-- of what the code gives
abbrev pub comparison_of : Comparison → Compared
comparison_of c = record { difference = c.difference; part = part_of c.part }

-- of two texts
abbrev pub comparison : List ℕ → Bor (List ℕ) → Compared
comparison wanted found = record { difference = difference_of wanted found.now; part = difference_part wanted found }
