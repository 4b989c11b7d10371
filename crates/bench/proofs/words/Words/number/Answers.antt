-- `bench::words::Words::number` meets its contract.
use native.Mathlib.Omega.{arith}
use Rattle.digits.specs.Numbers.{numeral}
use Rattle.report.proofs.Lengths.{numeral_most}
use Rattle.bench.proofs.Behind.{Behind, behind}
use Rattle.bench.proofs.words.Words.number.Goals as goal
use Rattle.bench.proofs.words.Words.number.Given.{Over}
use Rattle.bench.proofs.words.Words.number.Goals.{After-put_number}

-- the number stands behind the words
put_behind : (g : Over) (c : After-put_number g)
    → Behind g.row.N c.self.inside.size c.self.inside.place c.args.self.now c.self.told c.self.invariant c.self.view_is (numeral c.args.number) c.put_number.new.out c.put_number.result
put_behind g c =
    behind _ _ _ _ c.self.told c.self.invariant c.self.view_is _ _ _ (omega (arith, c.requires, numeral_most c.args.number c.ranges.number.fits)) c.put_number.ensures

pub overflow_add-self : goal.overflow_add-self
overflow_add-self g c = let b = put_behind g (goal.at.overflow_add-self g c).After-put_number in record { fits = omega (arith, b.fits, g.N.fits) }

pub invariant_of-self : goal.invariant_of-self
invariant_of-self g c = (put_behind g (goal.at.invariant_of-self g c).After-put_number).fits

pub returns : goal.returns
returns g c = (put_behind g (goal.at.returns g c).After-put_number).stands
