use mathlib.Core.Path.{◌≡◌, refl, sym, ap, ◌∙◌}
use mathlib.Core.Bool.{Bool, true, false, cond}
use mathlib.Core.List.{List, [], ◌∷◌, ◌++◌}
use mathlib.Core.Logic.{inl}
use Prim.Native.Nat.{ℕ, ◌+◌, ◌≤◌}
use native.Mathlib.Omega.{arith}
use lib.Dec.{eqb}
use lib.ListN.{length, take, length-append}
use borrow.Author.Tests.{eq-eqb}
use Rattle.std.proofs.Common.{Option, Some, None, Result, Ok, Err}
use Rattle.std.proofs.lemmas.Result.{err_from_is_err_and}
use Rattle.turns.specs.Run as run
use Rattle.turns.specs.Run.{Reply}
use Rattle.bench.specs.declared.progress.Unmoved.TheVariants.{Again, Failed}
use Rattle.bench.specs.declared.whole.Unread.{Unread}
use Rattle.bench.specs.declared.whole.Unread.TheVariants as unread
use Rattle.bench.specs.Input.{Input}
use Rattle.bench.specs.Input as input
use Rattle.bench.specs.Progress.{Heard}
use Rattle.bench.specs.Whole.{Got, nothing, further, read_on, read_by, size_of, shown}
use Rattle.bench.proofs.Answers.{read_more_lem, input_by, Answered, answered}
use Rattle.bench.proofs.whole.read_all.Invariants.{Going}
use Rattle.bench.proofs.whole.read_all.Goals as goal

module _ (place₀ place : List ℕ) (filled turn : ℕ) (g : Going place₀ place filled turn) (same : length place ≡ length place₀) where
  -- one answer more
  more : (next : Input) (after : List ℕ) (reply : Reply) → shown next after ≡ further (length place) (take filled place) (input.Part filled) reply
      → shown next after ≡ read_on (length place₀) nothing (g.replies ++ reply ∷ [])
  more next after reply is =
      is
      ∙ ap (λ (n : ℕ). further n (take filled place) (input.Part filled) reply) same
      ∙ ap (λ (v : Got). further (length place₀) v.content v.input reply) g.is
      ∙ sym (read_more_lem (length place₀) nothing g.replies reply)

  -- where there was room
  module _ (after : List ℕ) (heard : Heard) (a : Answered place after filled heard) (step : Result (Option ℕ) Unread) (e : step ≡ read_by filled heard) where
    goes_on : shown (input_by filled step) after ≡ read_on (length place₀) nothing (g.replies ++ a.reply ∷ [])
    goes_on = more (input_by filled step) after a.reply (ap (λ (s : Result (Option ℕ) Unread). shown (input_by filled s) after) e ∙ a.is)

    inside : size_of (input_by filled step) ≤ length place₀
    inside = omega (arith, ap (λ (s : Result (Option ℕ) Unread). size_of (input_by filled s)) e, a.inside, same)

-- an answer that ends the reading otherwise than by the end of the input is a failure
fails : (filled : ℕ) (why : Unread) (heard : Heard) → Err why ≡ read_by filled heard → why ≡ unread.Failed
fails filled why (Ok count) e = go (eqb count 0) e
  where
    go : (b : Bool) → Err why ≡ cond b (Ok None) (Ok (Some (filled + count))) → why ≡ unread.Failed
    go true e = absurd (cc)
    go false e = absurd (cc)
fails filled why (Err Again) e = absurd (cc)
fails filled why (Err Failed) e = cc

pub returns-then-filled-place : goal.returns-then-filled-place
returns-then-filled-place c =
    let g = c.loop.invariant in
    let place = c.loop.place in
    record {
      replies = g.replies ++ run.Again ∷ [];
      so_far = input.TooLong;
      is = more c.args.place.now place c.loop.filled c.loop.counter g c.loop.auto.place input.TooLong place run.Again (sym (rw (eq-eqb c.loop.filled (length place) c.if-filled-place.true) refl));
      inside = omega arith;
      ended = refl;
      over = inl refl;
    }

pub returns-in_err-more : goal.returns-in_err-more
returns-in_err-more c =
    let g = c.loop.invariant in
    let heard = c.read-heard.result in
    let a = answered c.loop.place c.read-heard.new.room c.loop.filled heard (omega (arith, g.inside, c.loop.auto.place)) c.if-filled-place.false c.read-heard.auto.room c.read-heard.ensures in
    let failed = fails c.loop.filled _ heard c.in_err-more.ensures in
    let p = err_from_is_err_and c.from_residual.result c.from_residual.ensures.1 in
    record {
      replies = g.replies ++ a.reply ∷ [];
      so_far = input.Failed;
      is = goes_on c.args.place.now c.loop.place c.loop.filled c.loop.counter g c.loop.auto.place _ heard a _ c.in_err-more.ensures;
      inside = omega arith;
      ended = p.1 ∙ ap (λ (why : Unread). Err why) (p.2 ∙ failed);
      over = inl refl;
    }

pub returns-in-None : goal.returns-in-None
returns-in-None c =
    let g = c.loop.invariant in
    let heard = c.read-heard.result in
    let a = answered c.loop.place c.read-heard.new.room c.loop.filled heard (omega (arith, g.inside, c.loop.auto.place)) c.if-filled-place.false c.read-heard.auto.room c.read-heard.ensures in
    record {
      replies = g.replies ++ a.reply ∷ [];
      so_far = input.Whole c.loop.filled;
      is = goes_on c.args.place.now c.loop.place c.loop.filled c.loop.counter g c.loop.auto.place _ heard a (Ok None) (rw c.in-None.is at c.in_ok-more.ensures);
      inside = g.inside;
      ended = refl;
      over = inl refl;
    }

pub loop-preserved : goal.loop-preserved
loop-preserved c =
    let g = c.loop.invariant in
    let heard = c.read-heard.result in
    let a = answered c.loop.place c.read-heard.new.room c.loop.filled heard (omega (arith, g.inside, c.loop.auto.place)) c.if-filled-place.false c.read-heard.auto.room c.read-heard.ensures in
    let step : Ok (Some c.in-Some.more) ≡ read_by c.loop.filled heard = rw c.in-Some.is at c.in_ok-more.ensures in
    record {
      replies = g.replies ++ a.reply ∷ [];
      is = goes_on c.args.place.now c.loop.place c.loop.filled c.loop.counter g c.loop.auto.place _ heard a _ step;
      inside = inside c.args.place.now c.loop.place c.loop.filled c.loop.counter g c.loop.auto.place _ heard a _ step;
      count = omega (arith, g.count, length-append g.replies (a.reply ∷ []));
    }
