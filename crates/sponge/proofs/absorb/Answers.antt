use mathlib.Core.Path.{◌≡◌, refl, sym, ap, ap₂, ◌∙◌}
use Prim.Native.Nat.{ℕ, ◌+◌, ◌%◌}
use native.Mathlib.Nat.{mod-lt}
use native.Mathlib.Omega.{arith}
use lib.ListN.{length, get_or, drop}
use lib.Seq.{drop-length}
use borrow.Author.Rules.{rules}
use Rattle.permutation.specs.declared.Run.{Run}
use Rattle.permutation.specs.Strings.{string_of_words, words_of_string}
use Rattle.ascon.specs.Sets.{row_of}
use Rattle.ascon.specs.Mode.{p}
use Rattle.ascon.specs.Bytewise.{At, at, steps}
use Rattle.ascon.proofs.Bytewise.{steps_left}
use Rattle.sponge.specs.Sponge.{keep_of, absorbed}
use Rattle.sponge.specs.Words.{stepped}
use Rattle.sets.proofs.Rows.{row_sizes}
use Rattle.sponge.proofs.Words.{words_view, turn}
use Rattle.sponge.proofs.absorb.Goals as goal

pub loop-came-init : goal.loop-came-init
loop-came-init c = record {
  place = rw c.block_length-block.ensures (mod-lt c.args.count (row_sizes c.args.set).some_block);
  five = record { five = search rules; small = λ i. search rules };
  left = refl;
}

pub loop-came-preserved : goal.loop-came-preserved
loop-came-preserved c =
    let l = c.loop-came in
    let a = c.args in
    let row = row_of a.set in
    let i = l.came-index in
    let x = get_or a.piece.now i 0 in
    let v = turn row a.way (at l.w l.place) _ x l.invariant.five l.invariant.place (search rules)
    (c.step.ensures.place_after ∙ ap₂ (λ (n : ℕ) (run : Run). stepped n run a.way (at l.w l.place) x) c.block_length-block.ensures c.between-run.ensures) in
    record {
      place = v.place;
      five = v.five;
      left =
          ap (λ (s : At). steps row.block (p row.between) (keep_of a.way) s (drop (i + 1) a.piece.now)) v.is
          ∙ steps_left row.block (p row.between) (keep_of a.way) (at (string_of_words l.w) l.place) i a.piece.now (omega arith)
          ∙ l.invariant.left;
    }

pub returns : goal.returns
unfolding absorbed
returns c =
    let a = c.args in
    let l = c.loop-came in
    let piece = a.piece.now in
    let end : l.came-index ≡ length piece = omega arith in
    let all = rw (end, drop-length piece) at l.invariant.left in
    sym (words_view l.w l.invariant.five)
    ∙ ap (λ (s : At). words_of_string s.state) all
    ∙ ap (λ (n : ℕ). words_of_string (steps (row_of a.set).block (p (row_of a.set).between) (keep_of a.way) (at (string_of_words a.words) (a.count % n)) piece).state) c.block_length-block.ensures
