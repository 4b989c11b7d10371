-- `sponge::close_ad` meets its contract.
use mathlib.Core.Path.{sym, ap, ap₂, ◌∙◌}
use mathlib.Core.List.{List}
use Prim.Native.Nat.{ℕ, ◌%◌}
use native.Mathlib.Omega.{arith}
use borrow.Author.Rules.{rules}
use Rattle.permutation.specs.declared.Run.{Run}
use Rattle.permutation.specs.Runs.{permute_words}
use Rattle.ascon.specs.Sets.{row_of}
use Rattle.sponge.specs.Sponge.{ad_closed}
use Rattle.sponge.specs.Words.{with_byte}
use Rattle.sponge.proofs.Words.{Five}
use Rattle.sponge.proofs.Ends.{closed_none, closed_some}
use Rattle.sponge.proofs.close_ad.Goals as goal
use Rattle.sponge.proofs.close_ad.Goals.{then-count-gt0, else-count-gt0}

pub returns : goal.returns
returns c =
    let a = c.args in
    let row = row_of a.set in
    let five : Five a.words = record { five = search rules; small = λ i. search rules } in
    c.put_byte-2.ensures
    ∙ elim c.if-count-gt0.branch [
      | then-count-gt0 w ↦
          ap (λ (v : List ℕ). with_byte v 39 1)
          (w.w-is
          ∙ w.permute_words.ensures
          ∙ ap₂ (λ (run : Run) (v : List ℕ). permute_words run v) w.between.ensures
          (w.put_byte.ensures ∙ ap (λ (n : ℕ). with_byte a.words (a.count % n) 0x80) w.block_length.ensures))
          ∙ sym (closed_some row a.words a.count (omega arith) five)
      | else-count-gt0 w ↦
          ap (λ (v : List ℕ). with_byte v 39 1) w.w-is
          ∙ sym (closed_none row a.words five)
          ∙ ap (λ (n : ℕ). ad_closed row a.words n) (omega arith)
    ]
