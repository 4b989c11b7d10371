-- The first demand: an answer to anything.
use Rattle.letter.specs.Model.{Model, Keeps, EveryCall, Told, Listed, Unchanged, Mismatch}

pub record First : Type 2 where
  -- every public call answers on any input, and asks no one to have checked it
  pub answers : EveryCall
  -- and where an outcome is named by a view of what the code gives, the view leaves nothing out
  pub told : Told
  -- what is bad gets its listed number
  pub listed : (m : Model) → Keeps m → Listed m
  -- a refusal changes nothing, but that a start which is refused with 1, 2, 3 or 5 leaves the ended state in its area (`start` of `Areas.Unchanged`)
  pub unchanged : (m : Model) → Keeps m → Unchanged m
  -- nor is a tag mismatch without a trace
  pub mismatch : (m : Model) → Keeps m → Mismatch m
