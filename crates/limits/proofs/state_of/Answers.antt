-- `limits::state_of` is safe: a block has some bytes.
use Rattle.sets.proofs.Rows.{row_sizes}
use Rattle.limits.proofs.state_of.Goals as goal

pub nonzero_rem-place : goal.nonzero_rem-place
nonzero_rem-place c = rw c.block_length.ensures (row_sizes c.args.set).some_block
