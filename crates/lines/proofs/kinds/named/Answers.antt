-- `lines::kinds::named` meets its contract.
use mathlib.Core.List.{◌++◌}
use lib.ListN.{length}
use borrow.Author.Tests.{le-leb}
use Rattle.permutation.proofs.Strings.{drop_zeros}
use Rattle.lines.specs.Right.{named}
use Rattle.lines.proofs.kinds.named.Goals as goal

pub returns : goal.returns
unfolding named
returns c =
    let x = c.args.text.now in
    rw (le-leb (length x) 32 c.if-text-gt32.false, c.copy_from_slice.ensures.after)
    (λ j. record { bytes = x ++ drop_zeros (length x) 32 j; size = length x })
