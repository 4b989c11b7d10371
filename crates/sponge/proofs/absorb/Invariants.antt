-- `sponge::absorb` meets its contract. The loop's invariant: the words are five, the place is in the front, and the steps that are left take the state to what
-- all of them make of the first one.
use mathlib.Core.Path.{◌≡◌}
use Prim.Native.Nat.{◌<◌}
use lib.ListN.{drop}
use Rattle.permutation.specs.Strings.{string_of_words}
use Rattle.ascon.specs.Sets.{row_of}
use Rattle.ascon.specs.Mode.{p}
use Rattle.ascon.specs.Bytewise.{at, steps}
use Rattle.sponge.specs.Sponge.{keep_of}
use Rattle.sponge.proofs.Words.{Five}
use Rattle.sponge.proofs.absorb.Given as goal

abbrev pub invariant-loop-came : goal.invariant-loop-came
invariant-loop-came l =
    let row = row_of l.set in
    record {
      place : l.place < row.block;
      five : Five l.w;
      left : steps row.block (p row.between) (keep_of l.way) (at (string_of_words l.w) l.place) (drop l.came-index l.piece)
          ≡ steps row.block (p row.between) (keep_of l.way) (at (string_of_words l.initial.w) l.initial.place) l.piece;
    }
