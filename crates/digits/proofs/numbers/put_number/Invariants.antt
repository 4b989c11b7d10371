-- `digits::numbers::put_number` meets its contract. The loop's invariant: the digits left of the rest, and what stands behind them, are the whole.
use mathlib.Core.Path.{◌≡◌}
use mathlib.Core.List.{◌++◌}
use lib.ListN.{drop}
use Rattle.digits.specs.Numbers.{decimals}
use Rattle.digits.proofs.numbers.put_number.Given as goal

abbrev pub invariant-loop-i : goal.invariant-loop-i
invariant-loop-i l = decimals l.i l.rest ++ drop l.i l.out ≡ decimals l.count l.n ++ drop l.count l.initial.out
