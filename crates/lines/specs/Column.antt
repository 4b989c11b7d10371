-- The column at which a text leaves a set of right lines. Nothing here knows a reader, or which lines are right.
use Rattle.std.specs.Prelude.{cond, List, [], ◌∷◌, ◌++◌, ℕ, ◌+◌, ◌-◌, ◌≤◌, eqb, length, take}

-- a text is the beginning of some right line
pub record Viable (right : List ℕ → Type 0) (text : List ℕ) : Type 0 where
  pub rest : List ℕ
  pub goes_on : right (text ++ rest)

-- a text begins with a right line of so many characters
pub record Begins (right : List ℕ → Type 0) (text : List ℕ) (size : ℕ) : Type 0 where
  pub inside : size ≤ length text
  pub whole : right (take size text)

-- a text begins with no right line, and this column, counted from 1, is the first with which none goes on: the characters before it are the beginning of some right
-- line, and with the one at it they are not, or the text has ended there
pub record LeavesAt (right : List ℕ → Type 0) (text : List ℕ) (column : ℕ) : Type 0 where
  pub none : (size : ℕ) → Begins right text size → ⊥
  pub first : 1 ≤ column
  pub inside : column ≤ length text + 1
  pub before : Viable right (take (column - 1) text)
  pub at : column ≤ length text → Viable right (take column text) → ⊥

-- the characters of a text's first line, without its line feed
abbrev pub line_at : List ℕ → List ℕ
line_at [] = []
line_at (character ∷ text) = cond (eqb character 0x0a) [] (character ∷ line_at text)
