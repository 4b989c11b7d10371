-- The first demand: an answer to anything.
use Rattle.letter.specs.Model.{Listed, Unchanged, Mismatch}
use Rattle.letter.specs.First.{First}
use Rattle.letter.proofs.Model.{of_kept, every_call, told, listed, unchanged, mismatch}

-- the first demand
pub first_demand : First
first_demand = record { answers = every_call; told = told; listed = of_kept Listed listed; unchanged = of_kept Unchanged unchanged; mismatch = of_kept Mismatch mismatch }
