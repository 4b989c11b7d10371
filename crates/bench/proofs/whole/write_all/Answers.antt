use mathlib.Core.Path.{◌≡◌, refl, sym, ap, ◌∙◌}
use mathlib.Core.Bool.{Bool, true, false, cond}
use mathlib.Core.List.{List, [], ◌∷◌, ◌++◌}
use mathlib.Core.Logic.{inl}
use Prim.Native.Nat.{ℕ, ◌+◌, ◌-◌, ◌≤◌}
use native.Mathlib.Omega.{arith}
use lib.Dec.{eqb}
use lib.ListN.{length, drop, length-take, length-drop, length-append}
use borrow.Author.Tests.{eq-eqb, ne_eqb}
use Rattle.std.proofs.Common.{Result, Ok, Err}
use Rattle.std.proofs.lemmas.Result.{err_from_is_err_and}
use Rattle.bench.specs.declared.progress.Unmoved.TheVariants.{Again, Failed}
use Rattle.bench.specs.declared.whole.Unwritten.{Unwritten}
use Rattle.bench.specs.declared.whole.Unwritten.TheVariants as unwritten
use Rattle.bench.specs.Output.{Output}
use Rattle.bench.specs.Output as output
use Rattle.bench.specs.Progress.{Heard, moved_by}
use Rattle.bench.specs.Whole.{wrote_by, output_by, part_written, written_on}
use Rattle.bench.proofs.Answers.{written_more}
use Rattle.bench.proofs.whole.write_all.Invariants.{Going}
use Rattle.bench.proofs.whole.write_all.Goals as goal

module _ (text : List ℕ) (from turn : ℕ) (g : Going text from turn) (heard : Heard) where
  -- one answer more
  more : (next : Output) → next ≡ part_written (length text) (output.Part from) heard → next ≡ written_on (length text) (output.Part 0) (g.answers ++ heard ∷ [])
  more next e = e ∙ ap (λ (o : Output). part_written (length text) o heard) g.is ∙ sym (written_more (length text) (output.Part 0) g.answers heard)

  -- where something is left to write
  goes_on : (step : Result ℕ Unwritten) → step ≡ wrote_by from heard → (from ≡ length text → ⊥)
      → output_by step ≡ written_on (length text) (output.Part 0) (g.answers ++ heard ∷ [])
  goes_on step e left = more (output_by step) (ap output_by e ∙ sym (rw (ne_eqb from (length text) left) refl))

-- no more bytes are taken than were before and an answer moved
inside : (from next : ℕ) (heard : Heard) → Ok next ≡ wrote_by from heard → next ≤ from + moved_by heard
inside from next (Ok count) e = go (eqb count 0) e
  where
    go : (b : Bool) → Ok next ≡ cond b (Err unwritten.Failed) (Ok (from + count)) → next ≤ from + count
    go true e = absurd (cc)
    go false e = let same : next ≡ from + count = cc in omega arith
inside from next (Err Again) e = let same : next ≡ from = cc in omega arith
inside from next (Err Failed) e = absurd (cc)

-- an answer that ends the writing is a failure
fails : (from : ℕ) (why : Unwritten) (heard : Heard) → Err why ≡ wrote_by from heard → why ≡ unwritten.Failed
fails from why (Ok count) e = go (eqb count 0) e
  where
    go : (b : Bool) → Err why ≡ cond b (Err unwritten.Failed) (Ok (from + count)) → why ≡ unwritten.Failed
    go true e = cc
    go false e = absurd (cc)
fails from why (Err Again) e = absurd (cc)
fails from why (Err Failed) e = cc

pub returns-then-from-text : goal.returns-then-from-text
returns-then-from-text c =
    let g = c.loop.invariant in
    let text = c.args.text.now in
    record {
      answers = g.answers ++ Err Again ∷ [];
      so_far = output.Whole;
      is = more text c.loop.from c.loop.counter g (Err Again) output.Whole (sym (rw (eq-eqb c.loop.from (length text) c.if-from-text.true) refl));
      ended = refl;
      over = inl refl;
    }

pub returns-in_err-from : goal.returns-in_err-from
returns-in_err-from c =
    let g = c.loop.invariant in
    let heard = c.write.result in
    let failed = fails c.loop.from _ heard c.in_err-from.ensures in
    let p = err_from_is_err_and c.from_residual.result c.from_residual.ensures.1 in
    record {
      answers = g.answers ++ heard ∷ [];
      so_far = output.Failed;
      is = goes_on c.args.text.now c.loop.from c.loop.counter g heard _ c.in_err-from.ensures c.if-from-text.false;
      ended = p.1 ∙ ap (λ (why : Unwritten). Err why) (p.2 ∙ failed);
      over = inl refl;
    }

pub loop-preserved : goal.loop-preserved
loop-preserved c =
    let g = c.loop.invariant in
    let heard = c.write.result in
    record {
      answers = g.answers ++ heard ∷ [];
      is = goes_on c.args.text.now c.loop.from c.loop.counter g heard _ c.in_ok-from.ensures c.if-from-text.false;
      inside = omega (arith, inside c.loop.from c.in_ok-from.from heard c.in_ok-from.ensures, c.write.ensures, g.inside, length-drop c.loop.from c.args.text.now, length-take (length c.args.text.now - c.loop.from) (drop c.loop.from c.args.text.now));
      count = omega (arith, g.count, length-append g.answers (heard ∷ []));
    }
