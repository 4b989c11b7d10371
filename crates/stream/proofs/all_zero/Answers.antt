-- `stream::all_zero` meets its contract.
use Rattle.std.proofs.Common.{rules}
use Rattle.stream.proofs.Tests.{all_zero_is}
use Rattle.stream.proofs.all_zero.Goals as goal

pub returns : goal.returns
returns c = all_zero_is c.args.bytes.now c.all.result (search rules)
