-- `sponge::crypt` meets its contract. The loop's invariant: the words are five, the place is in the front, and the steps that are left take the state, and the
-- lent output, to what all of them make of the first ones.
use mathlib.Core.Path.{◌≡◌}
use Prim.Native.Nat.{◌<◌}
use lib.ListN.{drop}
use Rattle.permutation.specs.Strings.{string_of_words}
use Rattle.ascon.specs.Sets.{row_of}
use Rattle.ascon.specs.Mode.{p}
use Rattle.ascon.specs.Bytewise.{at, steps}
use Rattle.ascon.proofs.Bytewise.{out_left}
use Rattle.sponge.specs.Sponge.{keep_of}
use Rattle.sponge.proofs.Words.{Five}
use Rattle.sponge.proofs.crypt.Given as goal

abbrev pub invariant-loop-i : goal.invariant-loop-i
invariant-loop-i l =
    let row = row_of l.set in
    record {
      place : l.place < row.block;
      five : Five l.w;
      left : steps row.block (p row.between) (keep_of l.way) (at (string_of_words l.w) l.place) (drop l.i l.piece)
          ≡ steps row.block (p row.between) (keep_of l.way) (at (string_of_words l.initial.w) l.initial.place) l.piece;
      out : out_left row.block (p row.between) (keep_of l.way) (at (string_of_words l.w) l.place) l.i l.piece l.out
          ≡ out_left row.block (p row.between) (keep_of l.way) (at (string_of_words l.initial.w) l.initial.place) 0 l.piece l.initial.out;
    }
