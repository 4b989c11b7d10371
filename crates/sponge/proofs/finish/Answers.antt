-- `sponge::finish` meets its contract.
use mathlib.Core.Path.{ap, ◌∙◌}
use mathlib.Core.List.{List}
use Prim.Native.Nat.{ℕ}
use lib.ListN.{take}
use borrow.Author.Rules.{rules}
use Rattle.permutation.specs.declared.Run.TheVariants.{Twelve}
use Rattle.permutation.specs.Runs.{permute_words}
use Rattle.ascon.specs.Sets.{row_of}
use Rattle.sponge.specs.Words.{with_bytes, masked_end}
use Rattle.sets.proofs.Rows.{row_sizes, row_fits}
use Rattle.sponge.proofs.Words.{Five}
use Rattle.sponge.proofs.Ends.{Sixteen, finish_view, tag_length}
use Rattle.sponge.proofs.finish.Goals as goal

pub returns : goal.returns
returns c =
    let a = c.args in
    let row = row_of a.set in
    let n = c.key_length-n.result in
    let five : Five a.words = record { five = search rules; small = λ i. search rules } in
    let sixteen : Sixteen a.key = record { size = search rules; bytes = record { at = λ i. search rules } } in
    record {
      value = c.masked_end.ensures
          ∙ ap (λ (w : List ℕ). masked_end w a.key n)
          (c.permute_words.ensures
          ∙ ap (permute_words Twelve)
          (c.put_key.ensures ∙ ap (λ (w : List ℕ). with_bytes w c.block_length-block.result (take n a.key)) c.put_byte.ensures))
          ∙ rw (c.key_length-n.ensures, c.block_length-block.ensures) (finish_view row (row_sizes a.set) a.words a.key a.count five sixteen);
      key_len = tag_length row (row_sizes a.set) (row_fits a.set) a.words a.key a.count sixteen.size;
    }
