-- The value of a line, and a line that was written: what the readers of records, test files and logs take from a line.
use mathlib.Core.Path.{◌≡◌, refl, sym, ap, ◌∙◌}
use mathlib.Core.Bool.{true}
use mathlib.Core.List.{List, [], ◌∷◌, ◌++◌}
use Prim.Native.Nat.{ℕ, ◌-◌, ◌≤◌}
use native.Mathlib.Omega.{arith}
use lib.ListN.{length, take, drop, length-append}
use lib.Seq.{drop_at, take_at, take-append_seam}
use lib.Pow.{are_bytes}
use Rattle.digits.specs.declared.hex.Case.{Case}
use Rattle.digits.specs.Hex.{hex_in}
use Rattle.digits.specs.Room.{line_of}
use Rattle.digits.proofs.Room.{length_line}
use Rattle.lines.specs.declared.kinds.Kind.{Kind}
use Rattle.lines.specs.declared.kinds.Value.TheVariants.{Bytes}
use Rattle.lines.specs.Right.{Spells, name_of, Right, value_in}
use Rattle.lines.specs.Steps.{a_line, read_of}
use Rattle.lines.specs.Laws.{Fit}
use Rattle.lines.proofs.Grammar.{name_size}
use Rattle.lines.proofs.Laws.{reads_lines}

-- what stands between the name and the line feed of a right line is its value
pub value_in_lem : (kind : Kind) (line : List ℕ) (says : ℕ) → Fit kind → (r : Right kind line says) → value_in kind line ≡ r.value
unfolding line_of
value_in_lem kind line says fit r =
    let n : ℕ = kind.name.size in
    let size : length line - 1 - n ≡ length r.value = omega (arith, ap length r.whole, length_line (name_of kind) r.value, name_size kind fit.named) in
    let behind : drop n line ≡ r.value ++ 0x0a ∷ [] = ap (drop n) r.whole ∙ drop_at (name_of kind) (r.value ++ 0x0a ∷ []) n (name_size kind fit.named) in
    ap (take (length line - 1 - n)) behind ∙ take_at r.value (0x0a ∷ []) (length line - 1 - n) (sym size)

-- a right line that was written is read, whatever stands behind it
pub written_read : (kind : Kind) (value more : List ℕ) (says : ℕ) → Fit kind → Spells kind.value says value
    → read_of kind (line_of (name_of kind) value ++ more) ≡ a_line (length (line_of (name_of kind) value)) says
written_read kind value more says fit s =
    let line : List ℕ = line_of (name_of kind) value in
    reads_lines.only kind (line ++ more) (a_line (length line) says) fit
    (omega (arith, length-append line more), rw (take-append_seam line more) (record { value = value; spelled = s; whole = refl }))

-- ---- a line of bytes

-- behind a name the digits of bytes, at least and at most so many
pub record BytesLine (name : List ℕ) (least most : ℕ) (case : Case) (x : List ℕ) : Type 0 where
  pub bytes : List ℕ
  pub are : are_bytes bytes ≡ true
  pub at_least : least ≤ length bytes
  pub at_most : length bytes ≤ most
  pub whole : x ≡ line_of name (hex_in case bytes)

-- a right line of a kind of bytes is one
pub bytes_line_lem : (kind : Kind) (name : List ℕ) (least most : ℕ) (case : Case) → name_of kind ≡ name → kind.value ≡ Bytes least most case → {x : List ℕ} {says : ℕ}
    → Right kind x says → BytesLine name least most case x
bytes_line_lem kind name least most case n e {x} {says} right =
    let s : Spells (Bytes least most case) says right.value = rw e at right.spelled in
    record { bytes = s.1; are = s.2; at_least = s.3; at_most = s.4; whole = right.whole ∙ (λ j. line_of (n j) (s.5 j)) }
