use mathlib.Core.Path.{◌≡◌, refl, sym, ap, ap₂, ◌∙◌}
use Prim.Native.Nat.{ℕ, ◌+◌, ◌≤◌, ◌<◌}
use native.Mathlib.Nat.{mod-lt}
use native.Mathlib.Omega.{arith}
use lib.ListN.{length, get_or, set, drop, take-append-drop}
use lib.Seq.{drop-length}
use borrow.Author.Rules.{rules}
use borrow.Author.Tests.{lt-leb, le-leb}
use Rattle.permutation.specs.declared.Run.{Run}
use Rattle.permutation.specs.Strings.{string_of_words, words_of_string}
use Rattle.ascon.specs.Sets.{row_of}
use Rattle.ascon.specs.Mode.{p}
use Rattle.ascon.specs.Bytewise.{At, at, steps}
use Rattle.ascon.proofs.Bytewise.{steps_left, out_left, out_left_lem}
use Rattle.sponge.specs.Sponge.{keep_of, absorbed, given, crypted, crypted_of}
use Rattle.sponge.specs.Words.{stepped}
use Rattle.sets.proofs.Rows.{row_sizes}
use Rattle.sponge.proofs.Words.{words_view, gone_view, turn}
use Rattle.sponge.proofs.crypt.Goals as goal

pub loop-i-init : goal.loop-i-init
loop-i-init c = record {
  place = rw c.block_length-block.ensures (mod-lt c.args.count (row_sizes c.args.set).some_block);
  five = record { five = search rules; small = λ i. search rules };
  left = refl;
  out = refl;
}

pub loop-i-preserved : goal.loop-i-preserved
loop-i-preserved c =
    let l = c.loop-i in
    let a = c.args in
    let row = row_of a.set in
    let piece = a.piece.now in
    let here = at (string_of_words l.w) l.place in
    let x = get_or piece l.i 0 in
    let h : l.i < length piece = omega arith in
    let k : length piece ≤ length l.out = omega arith in
    let v = turn row a.way (at l.w l.place) _ x l.invariant.five l.invariant.place (search rules)
    (c.step.ensures.place_after ∙ ap₂ (λ (n : ℕ) (run : Run). stepped n run a.way (at l.w l.place) x) c.block_length-block.ensures c.between-run.ensures) in
    record {
      place = v.place;
      five = v.five;
      left =
          ap (λ (s : At). steps row.block (p row.between) (keep_of a.way) s (drop (l.i + 1) piece)) v.is
          ∙ steps_left row.block (p row.between) (keep_of a.way) here l.i piece h
          ∙ l.invariant.left;
      out =
          ap₂ (λ (s : At) (y : ℕ). out_left row.block (p row.between) (keep_of a.way) s (l.i + 1) piece (set l.out l.i y))
          v.is (c.step.ensures.gone_value ∙ gone_view l.w l.place x)
          ∙ out_left_lem row.block (p row.between) (keep_of a.way) here l.i piece l.out h k
          ∙ l.invariant.out;
    }

pub returns-then-out-piece : goal.returns-then-out-piece
unfolding crypted_of
returns-then-out-piece c = rw (lt-leb _ _ c.if-out-piece.true)

pub returns : goal.returns
unfolding crypted_of absorbed given
returns c =
    let l = c.loop-i in
    let piece = c.args.piece.now in
    let end : l.i ≡ length piece = omega arith in
    let words = rw (end, drop-length piece, c.block_length-block.ensures) at l.invariant.left in
    let out = rw (end, drop-length piece, take-append-drop, c.block_length-block.ensures) at l.invariant.out in
    rw (le-leb _ _ c.if-out-piece.false)
    (λ j. crypted ((sym (words_view l.w l.invariant.five) ∙ ap (λ (s : At). words_of_string s.state) words) j) (out j))
