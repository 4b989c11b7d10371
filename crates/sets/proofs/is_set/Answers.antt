-- `sets::is_set` meets its contract.
use Rattle.std.proofs.Common.{◌∙◌, arith}
use Rattle.std.proofs.lemmas.Bool.Decides.{nat_tests}
use Rattle.ascon.specs.Sets.{table, is_set}
use Rattle.sets.proofs.is_set.Goals as goal

pub returns : goal.returns
unfolding is_set table
returns c = c.contains.ensures.value ∙ rw (c.new.ensures.start, c.new.ensures.end, c.new.ensures.exhausted) (grind (arith, nat_tests))
