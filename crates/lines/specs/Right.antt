-- Which lines are right, for each kind of line.
use Rattle.std.specs.Prelude.{◌≡◌, true, cond, List, [], ◌++◌, ℕ, ◌-◌, ◌≤◌, leb, length, take, drop}
use Rattle.std.proofs.Math.Pow.{are_bytes}
use Rattle.permutation.specs.Strings.{zeros}
use Rattle.digits.specs.Hex.{hex_in}
use Rattle.digits.specs.Numbers.{numeral}
use Rattle.digits.specs.Room.{line_of}
use Rattle.lines.specs.declared.kinds.Name.{Name}
use Rattle.lines.specs.declared.kinds.Value.{Value}
use Rattle.lines.specs.declared.kinds.Value.TheVariants.{Fixed, Number, Bytes}
use Rattle.lines.specs.declared.kinds.Kind.{Kind}

-- a text of at most 32 bytes as a name, with zeros behind it
unfoldable pub named : List ℕ → Name
named x = cond (leb (length x) 32) (record { bytes = x ++ zeros (32 - length x); size = length x }) (record { bytes = zeros 32; size = 0 })

-- the name of a kind
abbrev pub name_of : Kind → List ℕ
name_of kind = take kind.name.size kind.name.bytes

-- a text spells a value: nothing, where the name is the whole line and its own number tells which word it is; the numeral of a number between two, which the line says;
-- the digits of bytes, at least and at most so many
abbrev pub Spells : Value → ℕ → List ℕ → Type 0
Spells (Fixed own) says text = (says ≡ own) × (text ≡ [])
Spells (Number least most) says text = (least ≤ says) × (says ≤ most) × (text ≡ numeral says)
Spells (Bytes least most case) says text =
    (says ≡ 0) × (x : List ℕ) × (are_bytes x ≡ true) × (least ≤ length x) × (length x ≤ most) × (text ≡ hex_in case x)

-- a right line of a kind: its name, a value, a line feed; and the number that it says
pub record Right (kind : Kind) (line : List ℕ) (says : ℕ) : Type 0 where
  pub value : List ℕ
  pub spelled : Spells kind.value says value
  pub whole : line ≡ line_of (name_of kind) value

-- the lines of a set, whatever number they say
abbrev pub Lines : (List ℕ → ℕ → Type 0) → List ℕ → Type 0
Lines right line = (says : ℕ) × right line says

-- what stands between the name and the line feed of a line
abbrev pub value_in : Kind → List ℕ → List ℕ
value_in kind line = take (length line - 1 - kind.name.size) (drop kind.name.size line)
