-- What the code's functions make of its places, seen as the program's run.
use mathlib.Core.Path.{◌≡◌, refl, sym, ap, subst, ◌∙◌}
use mathlib.Core.Bool.{Bool, true, false, cond, false≢true}
use mathlib.Core.List.{List, [], ◌∷◌, ◌++◌}
use Prim.Native.Nat.{ℕ, zero, suc, ◌+◌, ◌-◌, ◌≤◌}
use native.Mathlib.Omega.{arith}
use lib.Dec.{eqb}
use lib.ListN.{length, take, drop, length-take, length-drop}
use lib.Seq.{take-nil, take-add, drop-drop, length-take-le}
use borrow.Author.Tests.{eqb-true, eqb-false, eq-eqb, ne_eqb}
use Rattle.std.proofs.Common.{Ok, Err}
use Rattle.bench.specs.declared.progress.Unmoved.TheVariants.{Again, Failed}
use Rattle.turns.specs.declared.Stage.{Stage}
use Rattle.turns.specs.declared.Stage.TheVariants.{Judge, Close, Read, Write, Say, Over}
use Rattle.bench.specs.declared.progress.Progress.{Progress}
use Rattle.turns.specs.Run.{next, is_closing, is_reading, is_writing, behind, failed, came, took, heard, Came, Took}
use Rattle.turns.specs.Run as run
use Rattle.turns.specs.Tallies.{last_words}
use Rattle.bench.specs.Lines.{Follows}
use Rattle.turns.specs.Laws.{OneAnswer}
use Rattle.bench.specs.Progress.{Heard, failing, ending, front, read_more, wrote, wrote_more, moved_by, Sound, view, More, Less, Closed}

-- ---- parts of lists

pub drop-take : (n k : ℕ) (l : List ℕ) → n ≤ k → drop n (take k l) ≡ take (k - n) (drop n l)
drop-take zero k l h = let same : k ≡ k - 0 = omega arith in ap (λ (m : ℕ). take m l) same
drop-take (suc n) zero l h = absurd (omega arith)
drop-take (suc n) (suc k) [] h = sym (take-nil (suc k - suc n))
drop-take (suc n) (suc k) (x ∷ l) h =
    let same : k - n ≡ suc k - suc n = omega arith in
    drop-take n k l (omega arith) ∙ ap (λ (m : ℕ). take m (drop n l)) same

-- what is left of a part behind its first bytes
pub drop_part : (n size from : ℕ) (l : List ℕ) → n ≤ size - from → drop n (take (size - from) (drop from l)) ≡ take (size - (from + n)) (drop (from + n) l)
drop_part n size from l h =
    let same : size - from - n ≡ size - (from + n) = omega arith in
    drop-take n (size - from) (drop from l) h ∙ ap (λ (m : ℕ). take m (drop n (drop from l))) same ∙ ap (take (size - (from + n))) (drop-drop n from l)

-- nothing less
pub less : (k : ℕ) → k - 0 ≡ k
less k = omega arith

-- ---- a stage that failed or is behind is not reading

failed_asks : (s : Stage) → failed s ≡ Read → ⊥
failed_asks Judge e = let z : ◌≡◌ {A = ℕ} 0 1 = cc in omega arith
failed_asks Close e = let z : ◌≡◌ {A = ℕ} 0 1 = cc in omega arith
failed_asks Read e = let z : ◌≡◌ {A = ℕ} 0 1 = cc in omega arith
failed_asks Write e = let z : ◌≡◌ {A = ℕ} 0 1 = cc in omega arith
failed_asks Say e = let z : ◌≡◌ {A = ℕ} 0 1 = cc in omega arith
failed_asks (Over ending) e = let z : ◌≡◌ {A = ℕ} 0 1 = cc in omega arith

-- ---- a read

-- the answer to a read, as the run hears it
pub answered_read : (p q : Progress) (before after text : List ℕ) → is_reading p.stage ≡ true → More p before q after
    → OneAnswer (view p before text) (view q after text)
unfolding came
answered_read p q before after text reading m = subst (λ (r : Progress). OneAnswer (view p before text) (view r after text)) (sym m.is) (go m.heard m.fits)
  where
    go : (h : Heard) → p.filled - p.start + moved_by h ≤ length after → OneAnswer (view p before text) (view (read_more (front p) h) after text)
    go (Ok n) fits =
        let size = p.filled - p.start in
        let room : length (take n (drop size after)) ≡ n = length-take-le n (drop size after) (omega (arith, length-drop size after)) in
        let all : take (size + n - 0) after ≡ take size (drop p.start before) ++ take n (drop size after) =
        ap (λ (k : ℕ). take k after) (less (size + n)) ∙ take-add size n after ∙ ap (λ (l : List ℕ). l ++ take n (drop size after)) m.kept in
        record { reply = Came (take n (drop size after)); is = rw (reading, room, all) }
    go (Err Again) fits = record { reply = run.Again; is = rw (ap (λ (k : ℕ). take k after) (less (p.filled - p.start)) ∙ m.kept) }
    go (Err Failed) fits = record { reply = run.Failed; is = rw (ap (λ (k : ℕ). take k after) (less (p.filled - p.start)) ∙ m.kept) }

-- the places stay within their bounds
pub sound_read : (p q : Progress) (before after text : List ℕ) → length after ≡ length before → More p before q after → Sound p before text → Sound q after text
sound_read p q before after text same m s = subst (λ (r : Progress). Sound r after text) (sym m.is) (go m.heard m.fits)
  where
    go : (h : Heard) → p.filled - p.start + moved_by h ≤ length after → Sound (read_more (front p) h) after text
    go (Ok n) fits =
        record {
          begins = omega arith;
          inside = fits;
          wide = omega (arith, s.wide);
          room = λ e. let z : ◌≡◌ {A = ℕ} 0 1 = cc in absurd (omega arith);
          from_size = s.from_size;
          size_text = s.size_text;
          long = s.long;
          few = s.few;
        }
    go (Err Again) fits =
        record {
          begins = omega arith;
          inside = omega (arith, s.inside);
          wide = omega (arith, s.wide);
          room = λ e. omega (arith, s.room e);
          from_size = s.from_size;
          size_text = s.size_text;
          long = s.long;
          few = s.few;
        }
    go (Err Failed) fits =
        record {
          begins = omega arith;
          inside = omega (arith, s.inside);
          wide = omega (arith, s.wide);
          room = λ e. absurd (failed_asks p.stage e);
          from_size = s.from_size;
          size_text = s.size_text;
          long = s.long;
          few = s.few;
        }

-- ---- a write

-- a stage that writes does not read, and no read follows it
writing_reads : (s : Stage) → is_writing s ≡ true → (s ≡ Read → ⊥) × (behind s ≡ Read → ⊥)
writing_reads Judge h = absurd (false≢true h)
writing_reads Close h = absurd (false≢true h)
writing_reads Read h = absurd (false≢true h)
writing_reads Write h = (λ e. let z : ◌≡◌ {A = ℕ} 0 1 = cc in omega arith, λ e. let z : ◌≡◌ {A = ℕ} 0 1 = cc in omega arith)
writing_reads Say h = (λ e. let z : ◌≡◌ {A = ℕ} 0 1 = cc in omega arith, λ e. let z : ◌≡◌ {A = ℕ} 0 1 = cc in omega arith)
writing_reads (Over ending) h = absurd (false≢true h)

-- nothing is left exactly where all is taken
none_left : (n size from : ℕ) (l : List ℕ) → from + n ≤ size → size ≤ length l → eqb (from + n) size ≡ eqb (length (take (size - (from + n)) (drop (from + n) l))) 0
none_left n size from l h k = go (eqb (from + n) size) refl
  where
    left : length (take (size - (from + n)) (drop (from + n) l)) ≡ size - (from + n)
    left = length-take-le (size - (from + n)) (drop (from + n) l) (omega (arith, length-drop (from + n) l))

    go : (t : Bool) → eqb (from + n) size ≡ t → t ≡ eqb (length (take (size - (from + n)) (drop (from + n) l))) 0
    go true e = let end : length (take (size - (from + n)) (drop (from + n) l)) ≡ 0 = omega (arith, left, eqb-true (from + n) size e) in sym (eq-eqb _ 0 end)
    go false e = let apart = eqb-false (from + n) size e in sym (ne_eqb _ 0 (λ (z : length (take (size - (from + n)) (drop (from + n) l)) ≡ 0). apart (omega (arith, left))))

-- the answer to a write, as the run hears it
pub answered_write : (p q : Progress) (buffer text : List ℕ) → is_writing p.stage ≡ true → Sound p buffer text → Less p q
    → OneAnswer (view p buffer text) (view q buffer text)
unfolding took wrote
answered_write p q buffer text writing s l = subst (λ (r : Progress). OneAnswer (view p buffer text) (view r buffer text)) (sym l.is) (go l.heard l.fits)
  where
    by_count : (n : ℕ) → p.from + n ≤ p.size → (t : Bool)
        → view
        (cond t (failing p)
        (record {
          start = p.start;
          filled = p.filled;
          ended = p.ended;
          tally = p.tally;
          from = p.from + n;
          size = p.size;
          stage = cond (eqb (p.from + n) p.size) (behind p.stage) p.stage;
        }))
        buffer
        text
        ≡ cond t (next (failed p.stage) (view p buffer text))
        (let left = drop n (take (p.size - p.from) (drop p.from text)) in
        record {
          window = take (p.filled - p.start) (drop p.start buffer);
          ended = p.ended;
          tally = p.tally;
          left = left;
          stage = cond (eqb (length left) 0) (behind p.stage) p.stage;
        })
    by_count n fits true = refl
    by_count n fits false = rw (drop_part n p.size p.from text (omega arith), none_left n p.size p.from text fits s.size_text)

    go : (h : Heard) → p.from + moved_by h ≤ p.size → OneAnswer (view p buffer text) (view (wrote_more p h) buffer text)
    go (Ok n) fits = record { reply = Took n; is = rw writing (by_count n fits (eqb n 0)) }
    go (Err Again) fits = record { reply = run.Again; is = refl }
    go (Err Failed) fits = record { reply = run.Failed; is = refl }

-- the places stay within their bounds
pub sound_write : (p q : Progress) (buffer text : List ℕ) → is_writing p.stage ≡ true → Less p q → Sound p buffer text → Sound q buffer text
unfolding wrote
sound_write p q buffer text writing l s = subst (λ (r : Progress). Sound r buffer text) (sym l.is) (go l.heard l.fits)
  where
    within : (from : ℕ) (stage : Stage) → from ≤ p.size → (stage ≡ Read → ⊥)
        → Sound (record { start = p.start; filled = p.filled; ended = p.ended; tally = p.tally; from = from; size = p.size; stage = stage }) buffer text
    within from stage h reads =
        record {
          begins = s.begins;
          inside = s.inside;
          wide = s.wide;
          room = λ e. absurd (reads e);
          from_size = h;
          size_text = s.size_text;
          long = s.long;
          few = s.few;
        }

    next_reads : (t : Bool) → cond t (behind p.stage) p.stage ≡ Read → ⊥
    next_reads true = (writing_reads p.stage writing).1
    next_reads false = (writing_reads p.stage writing).0

    taken : (t : Bool) (n : ℕ) → p.from + n ≤ p.size
        → Sound
        (cond t (failing p)
        (record {
          start = p.start;
          filled = p.filled;
          ended = p.ended;
          tally = p.tally;
          from = p.from + n;
          size = p.size;
          stage = cond (eqb (p.from + n) p.size) (behind p.stage) p.stage;
        }))
        buffer
        text
    taken true n fits = within p.from (failed p.stage) s.from_size (failed_asks p.stage)
    taken false n fits = within (p.from + n) (cond (eqb (p.from + n) p.size) (behind p.stage) p.stage) fits (next_reads (eqb (p.from + n) p.size))

    go : (h : Heard) → p.from + moved_by h ≤ p.size → Sound (wrote_more p h) buffer text
    go (Ok n) fits = taken (eqb n 0) n fits
    go (Err Again) fits = s
    go (Err Failed) fits = within p.from (failed p.stage) s.from_size (failed_asks p.stage)

-- ---- the end

-- the last words stand in the text
pub closed_says : (p : Progress) (before after : List ℕ) (size : ℕ) → is_closing p.stage ≡ true → Follows 0 (last_words p.tally) size before after
    → Closed p before (ending p size) after
closed_says p before after size closing f =
    record {
      is = λ buffer. rw (closing, ap (λ (k : ℕ). take k after) (less size) ∙ f.stands);
      sound = λ buffer s.
          let inside = ap length f.stands in
          record {
            begins = s.begins;
            inside = s.inside;
            wide = s.wide;
            room = λ e. let z : ◌≡◌ {A = ℕ} 0 1 = cc in absurd (omega arith);
            from_size = omega arith;
            size_text = omega (arith, inside, f.ends, f.same_length, length-take size after);
            long = omega (arith, f.same_length, s.long);
            few = s.few;
          };
    }

-- nothing else changes
pub closed_stays : (p : Progress) (text : List ℕ) → is_closing p.stage ≡ false → Closed p text p text
closed_stays p text closing = record { is = λ buffer. rw closing; sound = λ buffer s. s }
