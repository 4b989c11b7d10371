-- `sets::row_of` meets its contract.
use mathlib.Core.Path.{ap, ◌∙◌}
use native.Mathlib.Omega.{arith}
use Rattle.permutation.specs.Runs.{constants, constants_of, rounds_of}
use Rattle.permutation.specs.Strings.{value_of}
use Rattle.ascon.specs.Sets.{ascon128, table}
use Rattle.sets.specs.Rows.{in_code}
use Rattle.sets.proofs.Rows.{held_row}
use Rattle.sets.proofs.row_of.Goals as goal

pub offset_bounds-index_of : goal.offset_bounds-index_of
unfolding table
offset_bounds-index_of c = record { fits = omega (arith, c.index_of.ensures.upper_bound) }

pub bounds-index_of-index_of : goal.bounds-index_of-index_of
unfolding table
bounds-index_of-index_of c = c.index_of.ensures.upper_bound

-- the code's table is the definition's, row by row
pub returns : goal.returns
unfolding table rounds_of constants_of constants value_of
returns c = held_row table c.index_of.result _ ascon128 c.index_of.ensures.upper_bound ∙ ap in_code c.index_of.ensures.ascon128_value
