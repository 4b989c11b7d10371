-- The S-box, bit-sliced.
use Rattle.permutation.proofs.Slice.{slices}
use Rattle.permutation.proofs.substituted.Goals as goal

pub returns : goal.returns
returns c = slices c.args.s (search) (search) (search) (search) (search)
