-- A row of the table as the code holds it.
use Rattle.permutation.specs.Runs.{rounds_of}
use Rattle.permutation.specs.Strings.{value_of}
use Rattle.ascon.specs.Sets.{ParameterSet}
use Rattle.sets.specs.declared.Row.{Row}

-- the lengths, the run between with its rounds, and the first word as a number
abbrev pub in_code : ParameterSet → Row
in_code row = record { key = row.key; block = row.block; between = row.between; rounds = rounds_of row.between; word = value_of row.word }
