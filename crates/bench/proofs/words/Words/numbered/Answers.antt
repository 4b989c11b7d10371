-- `bench::words::Words::numbered` meets its contract.
use mathlib.Core.Path.{ap}
use native.Mathlib.Omega.{arith}
use lib.ListN.{length, length-append}
use Rattle.digits.specs.Numbers.{numeral}
use Rattle.report.proofs.Lengths.{numeral_most}
use Rattle.bench.proofs.words.Words.numbered.Goals as goal

pub returns-clause-room : goal.returns-clause-room
returns-clause-room g c =
    omega (
      arith,
      ap length c.number.ensures,
      ap length c.text.ensures,
      length-append c.text.new.self (numeral c.args.number),
      length-append c.args.self.now c.args.text.now,
      numeral_most c.args.number c.ranges.number.fits,
    )
