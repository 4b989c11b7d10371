-- `bench::words::Words::text` meets its contract.
use native.Mathlib.Omega.{arith}
use Rattle.bench.proofs.Behind.{Behind, behind}
use Rattle.bench.proofs.words.Words.text.Goals as goal
use Rattle.bench.proofs.words.Words.text.Given.{Over}
use Rattle.bench.proofs.words.Words.text.Goals.{After-put_text}

-- the text stands behind the words
put_behind : (g : Over) (c : After-put_text g) → Behind g.row.N c.self.inside.size c.self.inside.place c.args.self.now c.self.told c.self.invariant c.self.view_is c.args.text.now c.put_text.new.out c.put_text.result
put_behind g c = behind _ _ _ _ c.self.told c.self.invariant c.self.view_is _ _ _ c.requires c.put_text.ensures

pub overflow_add-self : goal.overflow_add-self
overflow_add-self g c = let b = put_behind g (goal.at.overflow_add-self g c).After-put_text in record { fits = omega (arith, b.fits, g.N.fits) }

pub invariant_of-self : goal.invariant_of-self
invariant_of-self g c = (put_behind g (goal.at.invariant_of-self g c).After-put_text).fits

pub returns : goal.returns
returns g c = (put_behind g (goal.at.returns g c).After-put_text).stands
