-- `digits::hex::read_pair` meets its contract.
use mathlib.Core.Path.{◌≡◌, sym, ◌∙◌}
use Prim.Native.Nat.{ℕ, ◌<◌}
use native.Mathlib.Omega.{arith}
use Rattle.std.specs.Prelude.{Option, Some}
use Rattle.digits.specs.declared.hex.Case.{Case}
use Rattle.digits.specs.Hex.{digit_in}
use Rattle.digits.proofs.Spelling.{digit_spells}
use Rattle.digits.proofs.hex.read_pair.Goals as goal

-- a value that was read is below 16
below : (case : Case) (c v : ℕ) (d : Option ℕ) → d ≡ digit_in case c → d ≡ Some v → v < 16
below case c v d e f = (digit_spells case c v (sym e ∙ f)).0

pub overflow_mul-result : goal.overflow_mul-result
overflow_mul-result c = record { fits = omega (arith, below _ _ _ _ c.digit_in.ensures c.in_ok-first.ensures.ok_part) }

pub overflow_add-result : goal.overflow_add-result
overflow_add-result c =
    record { fits = omega (arith, below _ _ _ _ c.digit_in.ensures c.in_ok-first.ensures.ok_part, below _ _ _ _ c.digit_in-2.ensures c.in_ok-second.ensures.ok_part) }
