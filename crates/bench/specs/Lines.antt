-- Text put piece by piece.
use Rattle.std.specs.Prelude.{List, ◌++◌, ◌≡◌, ℕ, ◌+◌, length, take}

-- a piece straight behind the first bytes of a place: where it ends, and what stands there up to its end; the place keeps its length
pub record Follows (at : ℕ) (piece : List ℕ) (end : ℕ) (before after : List ℕ) : Type 0 where
  pub ends : end ≡ at + length piece
  pub stands : take end after ≡ take at before ++ piece
  pub same_length : length after ≡ length before
