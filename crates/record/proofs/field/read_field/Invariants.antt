-- `record::field::read_field` meets its contract. The loop's invariant: the bytes read, and those of the digits left, are all.
use mathlib.Core.Path.{◌≡◌, refl, sym, ap}
use mathlib.Core.List.{List, [], ◌∷◌, ◌++◌, append_assoc}
use mathlib.Core.Option.{Option, some, none}
use Prim.Native.Nat.{ℕ, ◌-◌, ◌*◌}
use lib.ListN.{length, drop}
use Rattle.std.specs.Prelude.{Ok}
use Rattle.digits.specs.declared.hex.Case.{Case}
use Rattle.digits.specs.Hex.{and_then, from_hex_in}
use Rattle.permutation.specs.Strings.{zeros}
use Rattle.record.proofs.field.read_field.Given as goal

-- bytes with more behind them
abbrev pub behind : List ℕ → Option (List ℕ) → Option (List ℕ)
behind x (some y) = some (x ++ y)
behind x none = none

-- what holds before the digits of a byte are read
pub record Left (case : Case) (text bytes : List ℕ) (i : ℕ) : Type 0 where
  pub done : List ℕ
  pub sized : length done ≡ i
  pub holds : bytes ≡ done ++ zeros (256 - i)
  pub rest : from_hex_in case text ≡ behind done (from_hex_in case (drop (2 * i) text))

-- a byte more
pub more : (done : List ℕ) (b : ℕ) (r : Option (List ℕ)) → behind done (and_then (Ok b) r) ≡ behind (done ++ b ∷ []) r
more done b (some y) = ap some (sym (append_assoc done (b ∷ []) y))
more done b none = refl

abbrev pub invariant-loop-i : goal.invariant-loop-i
invariant-loop-i l = Left l.case l.text l.bytes l.i
