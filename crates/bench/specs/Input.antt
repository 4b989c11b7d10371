-- How far the reading of all of the input is.
use Rattle.std.specs.Prelude.{ℕ}

-- so many bytes stand in the place, and there may be more; they are all; they fill the place, which is too many; it failed
pub data Input : Type 0 where
  Part : ℕ → Input
  Whole : ℕ → Input
  TooLong : Input
  Failed : Input
