-- What reading a line promises.
use Rattle.std.specs.Prelude.{◌≡◌, Bool, true, not, ◌&&◌, List, [], ◌∷◌, ◌++◌, ◌⊎◌, ℕ, ◌+◌, ◌*◌, ◌≤◌, ◌<◌, eqb, leb, length, take, Ok, Err}
use Rattle.std.proofs.Math.Pow.{are_bytes}
use Rattle.digits.specs.declared.hex.Case.{Case}
use Rattle.digits.specs.declared.hex.BadDigit.TheVariants.{First, Second}
use Rattle.digits.specs.Hex.{digit_in, pair_of, hex_in}
use Rattle.lines.specs.declared.kinds.Value.{Value}
use Rattle.lines.specs.declared.kinds.Value.TheVariants.{Fixed, Number, Bytes}
use Rattle.lines.specs.declared.kinds.Kind.{Kind}
use Rattle.lines.specs.Column.{LeavesAt, line_at}
use Rattle.lines.specs.Right.{name_of, Right, Lines}
use Rattle.lines.specs.Steps.{Found, no_line, read_of, either_of}

-- a value that the laws speak of: a number from 0 or 1 on, up to no less than that; bytes, at most no fewer than at least
abbrev pub fits : Value → Bool
fits (Fixed own) = true
fits (Number least most) = leb least 1 && leb least most
fits (Bytes least most case) = leb least most

-- no line feed
abbrev pub plain : List ℕ → Bool
plain [] = true
plain (character ∷ text) = not (eqb character 0x0a) && plain text

-- a kind that the laws speak of: its name lies in its places and has no line feed, and its value fits
pub record Fit (kind : Kind) : Type 0 where
  pub named : kind.name.size ≤ length kind.name.bytes
  pub plainly : plain (name_of kind) ≡ true
  pub valued : fits kind.value ≡ true

-- what a reading says of a text is so: it begins with a right line, of this size and with this number; or it leaves the right lines at this column
abbrev pub FoundIn : (List ℕ → ℕ → Type 0) → List ℕ → Found → Type 0
FoundIn right text (Ok line) = (line.size ≤ length text) × right (take line.size text) line.number
FoundIn right text (Err stopped) = LeavesAt (Lines right) text stopped.column

-- the lines of two sets
abbrev pub Either : (List ℕ → ℕ → Type 0) → (List ℕ → ℕ → Type 0) → List ℕ → ℕ → Type 0
Either left right line says = left line says ⊎ right line says

-- a set of lines that end with their one line feed
abbrev pub OneFeed : (List ℕ → Type 0) → Type 0
OneFeed right = (a b : List ℕ) → right (a ++ 0x0a ∷ b) → b ≡ []

-- behind a name and the digits of bytes, the digit that a pair blames is the wrong character
pub record Blamed (kind : Kind) (case : Case) (x rest : List ℕ) (a b : ℕ) : Type 0 where
  pub first : pair_of (digit_in case a) (digit_in case b) ≡ Err First
      → read_of kind (name_of kind ++ (hex_in case x ++ a ∷ b ∷ rest)) ≡ no_line (length (name_of kind) + 2 * length x + 1)
  pub second : pair_of (digit_in case a) (digit_in case b) ≡ Err Second
      → read_of kind (name_of kind ++ (hex_in case x ++ a ∷ b ∷ rest)) ≡ no_line (length (name_of kind) + 2 * length x + 2)

pub record ReadsLines : Type 1 where
  -- what a reading of a line says is so
  pub told : (kind : Kind) (text : List ℕ) → Fit kind → FoundIn (Right kind) text (read_of kind text)
  -- and so is what the better of two readings says, of lines that are of one kind or of the other
  pub either : (left right : List ℕ → ℕ → Type 0) (text : List ℕ) (f g : Found) → FoundIn left text f → FoundIn right text g
      → FoundIn (Either left right) text (either_of f g)
  -- no other reading says what is so: a text has one right line at its beginning and one number of it, or one column
  pub only : (kind : Kind) (text : List ℕ) (f : Found) → Fit kind → FoundIn (Right kind) text f → read_of kind text ≡ f
  -- any set of lines is left at one column at most
  pub one : (right : List ℕ → Type 0) (text : List ℕ) (c d : ℕ) → LeavesAt right text c → LeavesAt right text d → c ≡ d
  -- a right line of a kind ends with its one line feed
  pub one_feed : (kind : Kind) → Fit kind → OneFeed (Lines (Right kind))
  -- any set of such lines is left at a column at most one past the last character of the text's first line
  pub in_line : (right : List ℕ → Type 0) (text : List ℕ) (c : ℕ) → OneFeed right → LeavesAt right text c → c ≤ length (line_at text) + 1
  -- the characters up to it decide it: a text that goes on otherwise behind it has the same column
  pub early : (right : List ℕ → Type 0) (text other : List ℕ) (c : ℕ) → c ≤ length text → take c other ≡ take c text
      → LeavesAt right text c → LeavesAt right other c
  -- in a line of bytes, in either case, where one more byte may come and its first character is no line feed, a pair of digits blames the wrong character
  pub pair : (kind : Kind) (least most : ℕ) (case : Case) → Fit kind → kind.value ≡ Bytes least most case → (x rest : List ℕ) (a b : ℕ) → are_bytes x ≡ true
      → length x < most → (a ≡ 0x0a → ⊥) → Blamed kind case x rest a b
