-- More is read only while it can make a record.
use mathlib.Core.Path.{◌≡◌, refl, sym, ap, ◌∙◌}
use mathlib.Core.Bool.{Bool, true, false, cond, not, ◌||◌, false≢true}
use mathlib.Core.List.{List, [], ◌∷◌, ◌++◌}
use Prim.Native.Nat.{ℕ, ◌+◌}
use native.Mathlib.Omega.{arith}
use lib.Dec.{eqb}
use lib.ListN.{length, drop}
use borrow.Author.Tests.{eqb-true}
use Rattle.record.specs.Calls.{Reading, refused_at, read_any}
use Rattle.record.specs.Laws.{BegunAny}
use Rattle.record.proofs.Any.{reads_any}
use Rattle.judge.specs.Steps.{is_final}
use Rattle.turns.specs.declared.Ending.TheVariants.{TooMany}
use Rattle.turns.specs.declared.Stage.{Stage}
use Rattle.turns.specs.declared.Stage.TheVariants.{Judge, Close, Read, Write, Say, Over}
use Rattle.turns.specs.Tallies.{records_of, largest, last_words}
use Rattle.turns.specs.Run.{Standing, Reply, Came, Took, Again, Failed, begun, next, is_judging, is_closing, is_reading, is_writing, behind, failed, with_report, looked, judged, closed, came, took, heard, turned, ran_from, ran}

-- where a read is next, the input has not ended, and what is not judged yet ended too early
abbrev Waits : Standing → Type 0
Waits r = r.stage ≡ Read → (r.ended ≡ false) × ((read_any r.window).early ≡ true)

-- ---- stages behind which no read is next

-- a stage whose call failed
failed_over : (s : Stage) → failed s ≡ Read → ⊥
failed_over Judge e = let z : ◌≡◌ {A = ℕ} 0 1 = cc in omega arith
failed_over Close e = let z : ◌≡◌ {A = ℕ} 0 1 = cc in omega arith
failed_over Read e = let z : ◌≡◌ {A = ℕ} 0 1 = cc in omega arith
failed_over Write e = let z : ◌≡◌ {A = ℕ} 0 1 = cc in omega arith
failed_over Say e = let z : ◌≡◌ {A = ℕ} 0 1 = cc in omega arith
failed_over (Over ending) e = let z : ◌≡◌ {A = ℕ} 0 1 = cc in omega arith

-- a stage that writes, whatever the write took
writes_over : (s : Stage) (none all : Bool) → is_writing s ≡ true → cond none (failed s) (cond all (behind s) s) ≡ Read → ⊥
writes_over s true all h e = failed_over s e
writes_over Write false true h e = let z : ◌≡◌ {A = ℕ} 0 1 = cc in omega arith
writes_over Write false false h e = let z : ◌≡◌ {A = ℕ} 0 1 = cc in omega arith
writes_over Say false true h e = let z : ◌≡◌ {A = ℕ} 0 1 = cc in omega arith
writes_over Say false false h e = let z : ◌≡◌ {A = ℕ} 0 1 = cc in omega arith
writes_over Judge false all h e = false≢true h
writes_over Close false all h e = false≢true h
writes_over Read false all h e = false≢true h
writes_over (Over ending) false all h e = false≢true h

-- ---- each part of a turn

-- after an answer
waits_heard : (r : Standing) (reply : Reply) → Waits r → Waits (heard r reply)
unfolding came took
waits_heard r Again k = k
waits_heard r Failed k = λ e. absurd (failed_over r.stage e)
waits_heard r (Came bytes) k = go (is_reading r.stage)
  where
    go : (b : Bool) → Waits (cond b (came bytes r) r)
    go true e = let z : ◌≡◌ {A = ℕ} 0 1 = cc in absurd (omega arith)
    go false e = k e
waits_heard r (Took n) k = go (is_writing r.stage) refl
  where
    stage : (none : Bool) → eqb n 0 ≡ none → (took n r).stage ≡ cond none (failed r.stage) (cond (eqb (length (drop n r.left)) 0) (behind r.stage) r.stage)
    stage true e = rw e
    stage false e = rw e

    go : (b : Bool) → is_writing r.stage ≡ b → Waits (cond b (took n r) r)
    go true h e = absurd (writes_over r.stage (eqb n 0) (eqb (length (drop n r.left)) 0) h (sym (stage (eqb n 0) refl) ∙ e))
    go false h e = k e

-- of an empty window
empty_early : (x : List ℕ) → length x ≡ 0 → (read_any x).early ≡ true
unfolding refused_at
empty_early [] e = ap (λ (r : Reading). r.early) reads_any.nothing
empty_early (c ∷ x) e = absurd (omega arith)

-- after judging
waits_looked : (r : Standing) → Waits (looked r)
unfolding looked with_report
waits_looked r = go (eqb r.tally.unread 0) (eqb (records_of r.tally + 1) largest) (eqb (length r.window) 0) (is_final r.window r.ended) refl refl
  where
    empty : (b : Bool) → r.ended ≡ b → length r.window ≡ 0 → cond b Close Read ≡ Read → (r.ended ≡ false) × ((read_any r.window).early ≡ true)
    empty true f h e = let z : ◌≡◌ {A = ℕ} 0 1 = cc in absurd (omega arith)
    empty false f h e = (f, empty_early r.window h)

    more : (b m : Bool) → (b || not m) ≡ false → (b ≡ false) × (m ≡ true)
    more true m f = absurd (false≢true (sym f))
    more false true f = (refl, refl)
    more false false f = absurd (false≢true (sym f))

    go : (u m w f : Bool) → eqb (length r.window) 0 ≡ w → is_final r.window r.ended ≡ f
        → Waits (cond u (cond m (next (Over TooMany) r) (cond w (next (cond r.ended Close Read) r) (cond f (with_report r) (next Read r)))) (next Close r))
    go true true w f g h e = let z : ◌≡◌ {A = ℕ} 0 1 = cc in absurd (omega arith)
    go true false true f g h e = empty r.ended refl (eqb-true (length r.window) 0 g) e
    go true false false true g h e = let z : ◌≡◌ {A = ℕ} 0 1 = cc in absurd (omega arith)
    go true false false false g h e = more r.ended (read_any r.window).early h
    go false m w f g h e = let z : ◌≡◌ {A = ℕ} 0 1 = cc in absurd (omega arith)

waits_judged : (r : Standing) → Waits r → Waits (judged r)
waits_judged r k = go (is_judging r.stage)
  where
    go : (b : Bool) → Waits (cond b (looked r) r)
    go true = waits_looked r
    go false = k

-- after closing
waits_closed : (r : Standing) → Waits r → Waits (closed r)
waits_closed r k = go (is_closing r.stage)
  where
    go : (b : Bool) → Waits (cond b (record { window = r.window; ended = r.ended; tally = r.tally; left = last_words r.tally; stage = Say }) r)
    go true e = let z : ◌≡◌ {A = ℕ} 0 1 = cc in absurd (omega arith)
    go false e = k e

-- ---- the run

-- turn after turn
waits_ran : (replies : List Reply) (r : Standing) → Waits r → Waits (ran_from r replies)
unfolding turned
waits_ran [] r k = k
waits_ran (reply ∷ replies) r k = waits_ran replies (turned r reply) (waits_closed (judged (heard r reply)) (waits_judged (heard r reply) (waits_heard r reply k)))

-- more is read only while it can make a record
pub at_once : (replies : List Reply) → let r = ran replies in
    r.stage ≡ Read → (r.ended ≡ false) × (BegunAny r.window → ⊥) × ((more : List ℕ) × BegunAny (r.window ++ more))
at_once replies e =
    let w = waits_ran replies begun (λ f. (refl, empty_early [] refl)) e in
    let can = (reads_any.early (ran replies).window).0 w.1 in
    (w.0, can.0, can.1)
