-- How far the writing of a text is.
use Rattle.std.specs.Prelude.{ℕ}

-- so many of its bytes were taken; all were; it failed
pub data Output : Type 0 where
  Part : ℕ → Output
  Whole : Output
  Failed : Output
