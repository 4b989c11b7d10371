-- Lines one after another by a table: how each is read, from what those before it gave.
use Rattle.std.specs.Prelude.{Bool, List, ℕ, zero, suc, ◌+◌, ◌≤◌, ltb, length, take, drop, Result, Ok, Err}
use Rattle.lines.specs.declared.table.Read.{Read}
use Rattle.lines.specs.declared.table.Unread.{Unread}
use Rattle.lines.specs.Steps.{Found}

-- all lines, how many characters they have and what they gave; or the first that is wrong, by its number and column, and whether the text ended there
pub data Outcome (E : Type 0) : Type 0 where
  whole : ℕ → E → Outcome E
  broken_at : ℕ → ℕ → Bool → Outcome E

-- a line that was read goes on; another is the broken one
abbrev pub go_on : {E : Type 0} → ℕ → List ℕ → Found → (ℕ → ℕ → Outcome E) → Outcome E
go_on line text (Ok read) next = next read.size read.number
go_on line text (Err stopped) next = broken_at line stopped.column (ltb (length text) stopped.column)

-- a table: how a line is read, by its place among the lines and from what those before it gave; and what they give with it, by what it says and by its text
module _ {E : Type 0} (read_at : ℕ → E → List ℕ → Found) (given : ℕ → E → ℕ → List ℕ → E) where
  -- so many lines, from one on, behind the characters that were taken
  abbrev pub lines_from : ℕ → ℕ → ℕ → E → List ℕ → Outcome E
  lines_from zero line taken e text = whole taken e
  lines_from (suc count) line taken e text =
      go_on line (drop taken text) (read_at line e (drop taken text))
      (λ size says. lines_from count (line + 1) (taken + size) (given line e says (take size (drop taken text))) text)

-- a line that was found lies in its text
abbrev pub Inside : List ℕ → Found → Type 0
Inside text (Ok line) = line.size ≤ length text
Inside text (Err stopped) = Unit {0}

-- the outcome of a reading that gives what the lines gave and how many characters they have, or where the text is wrong
abbrev pub outcome_of : {E : Type 0} → Result (Read E) Unread → Outcome E
outcome_of (Ok read) = whole read.taken read.content
outcome_of (Err wrong) = broken_at wrong.line wrong.column wrong.early
