-- The replay of a log, answer by answer: what the buffer shows of it, and that a verdict which is told is that of the whole log.
use mathlib.Core.Path.{◌≡◌, refl, sym, ap, ◌∙◌, subst}
use mathlib.Core.Bool.{Bool, true, false, cond, ◌&&◌, ◌||◌, true≢false, false≢true, and-eq-true_iff}
use mathlib.Core.List.{List, [], ◌∷◌, ◌++◌, append-nil, append_assoc}
use mathlib.Core.Logic.{◌⊎◌, inl, inr}
use Prim.Native.Nat.{ℕ, ◌+◌, ◌-◌, ◌≤◌, ◌<◌}
use native.Mathlib.Omega.{arith}
use lib.Dec.{eqb, ltb}
use lib.ListN.{length, take, drop, length-drop}
use lib.Seq.{length-take-le, take-add}
use borrow.Author.Tests.{eqb-true, lt-ltb, le-ltb}
use Rattle.chip_log.specs.Laws.{most_bytes}
use Rattle.replay.specs.declared.window.Stretch.{Stretch}
use Rattle.replay.specs.declared.window.Verdict.{Verdict}
use Rattle.replay.specs.declared.window.Verdict.TheVariants.{Agrees, Answer, Out, Rounds, Unread, Open}
use Rattle.replay.specs.Replays.{stretch_of, told, replay_of}
use Rattle.replay.specs.Laws.{SoFar, is_open, replayed, onward, over_windows, concluded, joined}
use Rattle.replay.specs.Laws as laws
use Rattle.replay.proofs.Laws.{replays}
use Rattle.turns.specs.Run as run
use Rattle.turns.specs.Run.{Reply}
use Rattle.digits.specs.Numbers.{places, numeral}
use Rattle.turns.specs.Tallies.{largest, numbered, fault_line}
use Rattle.bench.specs.declared.replays.Fault.{Fault}
use Rattle.bench.specs.declared.replays.Fault.TheVariants as fault
use Rattle.std.proofs.Common.{Option, Some, None}
use Rattle.bench.specs.declared.replays.Replaying.{Replaying}
use Rattle.bench.specs.Replays.{Going, going, begun, is_none, goes_on, counted, heard_by, further, replayed_on, bytes_in, is_end, delivered, end_told, LogOf, report_words, end_line, ReplaysInput, is_running, with_fault, stretched, so_far, Ready, HeardBytes}
use Rattle.bench.proofs.Views.{drop-take}

-- ---- one read

module _ (r : Replaying) (before : List ℕ) (count : ℕ) (inside : r.left + count ≤ length before) (running : is_running r ≡ true) where
  -- the bytes that it brought
  abbrev bytes : List ℕ
  bytes = take count (drop r.left before)

  -- all that is replayed
  abbrev text : List ℕ
  text = take (r.left + count) before

  -- the stretch of it
  abbrev stretch : Stretch
  stretch = stretch_of (eqb count 0) r.stream text

  -- no other verdict was told
  still_open : r.verdict ≡ Open
  still_open = go r.verdict ((and-eq-true_iff (is_none r.fault) (is_open r.verdict)).0 running).1
    where
      go : (v : Verdict) → is_open v ≡ true → v ≡ Open
      go Agrees e = absurd (false≢true e)
      go Answer e = absurd (false≢true e)
      go Out e = absurd (false≢true e)
      go Rounds e = absurd (false≢true e)
      go (Unread line column) e = absurd (false≢true e)
      go Open e = refl

  -- the replay behind it
  abbrev later : Going
  later = going (record { left = drop stretch.taken text; entries = r.entries + stretch.entries; stream = stretch.stream; verdict = stretch.verdict }) None

  -- what the answer makes of the replay, by whether its entries can still be counted
  heard_is : heard_by (so_far r before) (run.Came bytes) ≡ cond (ltb (r.entries + stretch.entries) largest) later (going (so_far r before) (Some fault.TooMany))
  unfolding replayed
  heard_is =
      let size : length bytes ≡ count = length-take-le count (drop r.left before) (omega (arith, length-drop r.left before)) in
      let whole : take r.left before ++ bytes ≡ text = sym (take-add r.left count before) in
      let stays : is_open r.verdict ≡ true = ap is_open still_open in
      rw (stays, size, whole)

  -- a stretch whose entries can be counted, with what is left moved to the front
  pub bytes_heard : (after : List ℕ) → r.entries + stretch.entries < largest
      → take (r.left + count - stretch.taken) after ≡ take (r.left + count - stretch.taken) (drop stretch.taken before)
      → HeardBytes r before count (stretched r (r.left + count) stretch) after
  bytes_heard after few moved =
      let taken = (replays.inside (eqb count 0) r.stream text).1 in
      let size : length text ≡ r.left + count = length-take-le (r.left + count) before inside in
      let left : take (r.left + count - stretch.taken) after ≡ drop stretch.taken text =
      moved ∙ sym (drop-take stretch.taken (r.left + count) before (omega (arith, taken, size))) in
      record {
        is =
            (λ j. going (record { left = left j; entries = r.entries + stretch.entries; stream = stretch.stream; verdict = stretch.verdict }) None)
            ∙ sym (heard_is ∙ ap (λ (t : Bool). cond t later (going (so_far r before) (Some fault.TooMany))) (lt-ltb (r.entries + stretch.entries) largest few));
        ready = record { room = λ e. room stretch.verdict refl e taken size; number = few };
      }
    where
      room : (v : Verdict) → stretch.verdict ≡ v → is_open v ≡ true → stretch.taken ≤ length text → length text ≡ r.left + count → r.left + count - stretch.taken < most_bytes
      room Agrees is e taken size = absurd (false≢true e)
      room Answer is e taken size = absurd (false≢true e)
      room Out is e taken size = absurd (false≢true e)
      room Rounds is e taken size = absurd (false≢true e)
      room (Unread line column) is e taken size = absurd (false≢true e)
      room Open is e taken size = let w = replays.waits (eqb count 0) r.stream text is in omega (arith, w.3, length-drop stretch.taken text, size)

  -- one whose entries can't
  pub bytes_many : Ready r → largest ≤ r.entries + stretch.entries → HeardBytes r before count (with_fault r fault.TooMany) before
  bytes_many ready many =
      record {
        is = sym (heard_is ∙ ap (λ (t : Bool). cond t later (going (so_far r before) (Some fault.TooMany))) (le-ltb (r.entries + stretch.entries) largest many));
        ready = record { room = λ e. absurd (false≢true e); number = ready.number };
      }

-- ---- answer after answer

-- answers, and then one more
pub replayed_more : (g : Going) (replies : List Reply) (reply : Reply) → replayed_on g (replies ++ reply ∷ []) ≡ further (replayed_on g replies) reply
replayed_more g [] reply = refl
replayed_more g (a ∷ replies) reply = replayed_more (further g a) replies reply

-- ---- the whole log

-- a replay that is over stays as it is
stays : (g : Going) (replies : List Reply) → goes_on g ≡ false → replayed_on g replies ≡ g
stays g [] e = refl
stays g (reply ∷ replies) e =
    let same : further g reply ≡ g = ap (λ (t : Bool). cond t (heard_by g.so_far reply) g) e in
    ap (λ (h : Going). replayed_on h replies) same ∙ stays g replies e

-- one window more
over_more : (f : SoFar) (windows : List (List ℕ)) (window : List ℕ) → over_windows f (windows ++ window ∷ []) ≡ onward false (over_windows f windows) window
over_more f [] window = refl
over_more f (w ∷ windows) window = over_more (onward false f w) windows window

joined_more : (windows : List (List ℕ)) (window : List ℕ) → joined (windows ++ window ∷ []) ≡ joined windows ++ window
joined_more [] window = append-nil window
joined_more (w ∷ windows) window = ap (λ (x : List ℕ). w ++ x) (joined_more windows window) ∙ sym (append_assoc w (joined windows) window)

-- what the windows of a log led to
record Reached (f : SoFar) (log : List ℕ) : Type 0 where
  windows : List (List ℕ)
  is : f ≡ over_windows laws.begun windows
  are : log ≡ joined windows

-- before the first
reached_begun : Reached laws.begun []
reached_begun = record { windows = []; is = refl; are = refl }

-- and with one more
reached_more : (f : SoFar) (log window : List ℕ) → Reached f log → Reached (onward false f window) (log ++ window)
reached_more f log window r =
    record {
      windows = r.windows ++ window ∷ [];
      is = ap (λ (g : SoFar). onward false g window) r.is ∙ sym (over_more laws.begun r.windows window);
      are = ap (λ (x : List ℕ). x ++ window) r.are ∙ sym (joined_more r.windows window);
    }

-- at the end of the log, its verdict is told
reached_end : (f : SoFar) (log : List ℕ) → Reached f log → concluded f ≡ replay_of log
reached_end f log r = ap concluded r.is ∙ replays.windows r.windows ∙ ap replay_of (sym r.are)

-- a verdict that was told before is that of the log, whatever stands behind
reached_told : (f : SoFar) (log rest : List ℕ) → Reached f log → is_open f.verdict ≡ false → told f.entries f.verdict ≡ replay_of (log ++ rest)
reached_told f log rest r e =
    let same : onward false f rest ≡ f = ap (λ (t : Bool). cond t (replayed false f rest) f) e in
    let over : concluded f ≡ told f.entries f.verdict = ap (λ (t : Bool). let g = cond t (replayed true f []) f in told g.entries g.verdict) e in
    sym over ∙ ap concluded (sym same) ∙ reached_end (onward false f rest) (log ++ rest) (reached_more f log rest r)

-- at the end of a log no verdict is open
end_told_lem : (f : SoFar) → is_open f.verdict ≡ true → is_open (onward true f []).verdict ≡ false
unfolding replayed
end_told_lem f e = rw e (go (stretch_of true f.stream (f.left ++ [])).verdict refl)
  where
    go : (v : Verdict) → (stretch_of true f.stream (f.left ++ [])).verdict ≡ v → is_open v ≡ false
    go Agrees is = refl
    go Answer is = refl
    go Out is = refl
    go Rounds is = refl
    go (Unread line column) is = refl
    go Open is = absurd (true≢false (replays.waits true f.stream (f.left ++ []) is).0)

-- a text of no bytes is the empty one
no_bytes : (x : List ℕ) → eqb (length x) 0 ≡ true → x ≡ []
no_bytes [] e = refl
no_bytes (b ∷ x) e = absurd (omega (arith, eqb-true (length (b ∷ x)) 0 e))

-- a replay that is over takes nothing more
delivers_none : (g : Going) (replies : List Reply) → goes_on g ≡ false → delivered g replies ≡ []
delivers_none g [] e = refl
delivers_none g (reply ∷ replies) e = ap (λ (t : Bool). cond t (bytes_in reply ++ delivered (further g reply) replies) []) e

-- a verdict that answers lead to is that of the log: these bytes, what is delivered, and a rest, of which there is none where the end is told
abbrev Tells : Going → List Reply → List ℕ → List ℕ → Type 0
Tells g replies log rest =
    (end_told g replies ≡ true → rest ≡ []) → let h = replayed_on g replies in h.fault ≡ None → is_open h.so_far.verdict ≡ false
    → told h.so_far.entries h.so_far.verdict ≡ replay_of (log ++ (delivered g replies ++ rest))

-- what keeps a replay from its verdict is something
at_fault : (f : SoFar) (why : Option Fault) (replies : List Reply) → is_none why ≡ false → (replayed_on (going f why) replies).fault ≡ None → ⊥
at_fault f why replies e none =
    let same : why ≡ None = ap (λ (g : Going). g.fault) (sym (stays (going f why) replies (ap (λ (t : Bool). t && is_open f.verdict) e))) ∙ none in
    false≢true (sym e ∙ ap is_none same)

-- one answer, where the answers behind it tell so from any replay that windows led to
module _ (replies : List Reply) (rest : List ℕ) (behind : (f : SoFar) (log : List ℕ) → Reached f log → Tells (going f None) replies log rest)
    (f : SoFar) (log : List ℕ) (r : Reached f log) (open_still : is_open f.verdict ≡ true) where
  -- what it makes of the replay tells so
  abbrev HeardTells : Reply → Going → Type 0
  HeardTells reply h =
      ((is_end reply || end_told h replies) ≡ true → rest ≡ []) → (replayed_on h replies).fault ≡ None → is_open (replayed_on h replies).so_far.verdict ≡ false
      → told (replayed_on h replies).so_far.entries (replayed_on h replies).so_far.verdict ≡ replay_of (log ++ ((bytes_in reply ++ delivered h replies) ++ rest))

  -- the end of the log
  end_tells : HeardTells (run.Came []) (going (onward true f []) None)
  end_tells end none told-so =
      let g : Going = going (onward true f []) None in
      let over : goes_on g ≡ false = end_told_lem f open_still in
      let nothing : delivered g replies ≡ [] = delivers_none g replies over in
      ap (λ (h : Going). told h.so_far.entries h.so_far.verdict) (stays g replies over)
      ∙ reached_end f log r
      ∙ ap replay_of (sym (append-nil log) ∙ ap (λ (x : List ℕ). log ++ x) (λ j. sym nothing j ++ sym (end refl) j))

  -- a window more
  window_tells : (bytes : List ℕ) → eqb (length bytes) 0 ≡ false → HeardTells (run.Came bytes) (going (onward false f bytes) None)
  window_tells bytes some end none told-so =
      let g : Going = going (onward false f bytes) None in
      let later : end_told g replies ≡ true → rest ≡ [] = λ e. end (ap (λ (t : Bool). t || end_told g replies) some ∙ e) in
      behind (onward false f bytes) (log ++ bytes) (reached_more f log bytes r) later none told-so
      ∙ ap replay_of (append_assoc log bytes (delivered g replies ++ rest) ∙ ap (λ (x : List ℕ). log ++ x) (sym (append_assoc bytes (delivered g replies) rest)))

  -- bytes, or none
  came_tells : (bytes : List ℕ) → HeardTells (run.Came bytes) (heard_by f (run.Came bytes))
  came_tells bytes = by_size (eqb (length bytes) 0) refl
    where
      by_count : (over : Bool) → HeardTells (run.Came bytes) (going (onward over f bytes) None)
          → HeardTells (run.Came bytes) (counted f (onward over f bytes))
      by_count over tells = go (ltb (onward over f bytes).entries largest)
        where
          go : (t : Bool) → HeardTells (run.Came bytes) (cond t (going (onward over f bytes) None) (going f (Some fault.TooMany)))
          go true = tells
          go false = λ end none told-so. absurd (at_fault f (Some fault.TooMany) replies refl none)

      by_size : (t : Bool) → eqb (length bytes) 0 ≡ t → HeardTells (run.Came bytes) (counted f (onward (eqb (length bytes) 0) f bytes))
      by_size true e =
          subst (λ (t : Bool). HeardTells (run.Came bytes) (counted f (onward t f bytes))) (sym e)
          (by_count true (subst (λ (x : List ℕ). HeardTells (run.Came x) (going (onward true f x) None)) (sym (no_bytes bytes e)) end_tells))
      by_size false e = subst (λ (t : Bool). HeardTells (run.Came bytes) (counted f (onward t f bytes))) (sym e) (by_count false (window_tells bytes e))

  -- any answer
  heard_tells : (reply : Reply) → HeardTells reply (heard_by f reply)
  heard_tells (run.Came bytes) = came_tells bytes
  heard_tells (run.Took n) = behind f log r
  heard_tells run.Again = behind f log r
  heard_tells run.Failed = λ end none told-so. absurd (at_fault f (Some fault.Reading) replies refl none)

-- one answer more, whether the replay goes on or not
tells_more : (reply : Reply) (replies : List Reply) (rest : List ℕ) → ((f : SoFar) (log : List ℕ) → Reached f log → Tells (going f None) replies log rest)
    → (f : SoFar) (log : List ℕ) → Reached f log → Tells (going f None) (reply ∷ replies) log rest
tells_more reply replies rest behind f log r = by_open (is_open f.verdict) refl
  where
    g : Going
    g = going f None

    by_open : (t : Bool) → is_open f.verdict ≡ t → Tells g (reply ∷ replies) log rest
    by_open true e = λ end none told-so.
        let same : further g reply ≡ heard_by f reply = ap (λ (t : Bool). cond t (heard_by f reply) g) e in
        let here = subst (λ (h : Going). HeardTells replies rest behind f log r e reply h) (sym same) (heard_tells replies rest behind f log r e reply) in
        here (λ t. end (ap (λ (b : Bool). b && (is_end reply || end_told (further g reply) replies)) e ∙ t)) none told-so
        ∙ ap (λ (b : Bool). replay_of (log ++ (cond b (bytes_in reply ++ delivered (further g reply) replies) [] ++ rest))) (sym e)
    by_open false e = λ end none told-so.
        ap (λ (h : Going). told h.so_far.entries h.so_far.verdict) (stays g (reply ∷ replies) e)
        ∙ reached_told f log rest r e
        ∙ ap (λ (b : Bool). replay_of (log ++ (cond b (bytes_in reply ++ delivered (further g reply) replies) [] ++ rest))) (sym e)

-- a verdict that is told is that of the log that the answers come from
verdict_from : (replies : List Reply) (rest : List ℕ) (f : SoFar) (log : List ℕ) → Reached f log → Tells (going f None) replies log rest
verdict_from [] rest f log r = λ end none told-so. reached_told f log rest r told-so
verdict_from (reply ∷ replies) rest f log r = tells_more reply replies rest (verdict_from replies rest) f log r

-- from the beginning
verdict_whole : (replies : List Reply) (log : List ℕ) → LogOf replies log → let g = replayed_on begun replies in
    g.fault ≡ None → is_open g.so_far.verdict ≡ false → told g.so_far.entries g.so_far.verdict ≡ replay_of log
verdict_whole replies log l none told-so = verdict_from replies l.rest laws.begun [] reached_begun l.whole none told-so ∙ ap replay_of (sym l.begins)

-- ---- the end, and a failed read

-- an answer that is the end of the log leaves nothing to go on
end_heard : (f : SoFar) (reply : Reply) → is_open f.verdict ≡ true → is_end reply ≡ true → goes_on (heard_by f reply) ≡ false
end_heard f (run.Came bytes) still is =
    subst (λ (t : Bool). goes_on (counted f (onward t f bytes)) ≡ false) (sym is)
    (subst (λ (x : List ℕ). goes_on (counted f (onward true f x)) ≡ false) (sym (no_bytes bytes is)) (by_count (ltb (onward true f []).entries largest)))
  where
    by_count : (t : Bool) → goes_on (cond t (going (onward true f []) None) (going f (Some fault.TooMany))) ≡ false
    by_count true = end_told_lem f still
    by_count false = refl
end_heard f (run.Took n) still is = absurd (false≢true is)
end_heard f run.Again still is = absurd (false≢true is)
end_heard f run.Failed still is = absurd (false≢true is)

-- at the end of the log the replay is over
end_over : (replies : List Reply) (g : Going) → end_told g replies ≡ true → goes_on (replayed_on g replies) ≡ false
end_over [] g e = absurd (false≢true e)
end_over (reply ∷ replies) g e = by_goes (goes_on g) refl (end_over replies)
  where
    by_goes : (t : Bool) → goes_on g ≡ t → ((h : Going) → end_told h replies ≡ true → goes_on (replayed_on h replies) ≡ false) → goes_on (replayed_on g (reply ∷ replies)) ≡ false
    by_goes true on behind = by_end (is_end reply) refl
      where
        same : further g reply ≡ heard_by g.so_far reply
        same = ap (λ (t : Bool). cond t (heard_by g.so_far reply) g) on

        by_end : (t : Bool) → is_end reply ≡ t → goes_on (replayed_on g (reply ∷ replies)) ≡ false
        by_end true is =
            let over : goes_on (further g reply) ≡ false = ap goes_on same ∙ end_heard g.so_far reply ((and-eq-true_iff (is_none g.fault) (is_open g.so_far.verdict)).0 on).1 is in
            ap goes_on (stays (further g reply) replies over) ∙ over
        by_end false is =
            let later : Bool = end_told (further g reply) replies in
            behind (further g reply) (sym (ap (λ (b : Bool). b || later) is) ∙ sym (ap (λ (b : Bool). b && (is_end reply || later)) on) ∙ e)
    by_goes false off behind = ap goes_on (stays g (reply ∷ replies) off) ∙ off

-- a window of a log that goes on never agrees
window_other : (f : SoFar) (window : List ℕ) → (f.verdict ≡ Agrees → ⊥) → (onward false f window).verdict ≡ Agrees → ⊥
unfolding replayed
window_other f window other = go (is_open f.verdict)
  where
    go : (t : Bool) → (cond t (replayed false f window) f).verdict ≡ Agrees → ⊥
    go true = replays.at_end f.stream (f.left ++ window)
    go false = other

-- so an answer that leads to agreement is the end of the log
pub heard_end : (f : SoFar) (reply : Reply) → (f.verdict ≡ Agrees → ⊥) → (is_end reply ≡ true) ⊎ ((heard_by f reply).so_far.verdict ≡ Agrees → ⊥)
heard_end f (run.Came bytes) other = by_size (eqb (length bytes) 0) refl
  where
    by_count : (t : Bool) → (cond t (going (onward false f bytes) None) (going f (Some fault.TooMany))).so_far.verdict ≡ Agrees → ⊥
    by_count true = window_other f bytes other
    by_count false = other

    by_size : (t : Bool) → eqb (length bytes) 0 ≡ t → (t ≡ true) ⊎ ((counted f (onward t f bytes)).so_far.verdict ≡ Agrees → ⊥)
    by_size true e = inl refl
    by_size false e = inr (by_count (ltb (onward false f bytes).entries largest))
heard_end f (run.Took n) other = inr other
heard_end f run.Again other = inr other
heard_end f run.Failed other = inr other

-- one answer more, where the answers behind it tell agreement only at the end
end_more : (reply : Reply) (replies : List Reply) (g : Going) → (g.so_far.verdict ≡ Agrees → ⊥)
    → ((h : Going) → (h.so_far.verdict ≡ Agrees → ⊥) → (replayed_on h replies).so_far.verdict ≡ Agrees → end_told h replies ≡ true)
    → (replayed_on g (reply ∷ replies)).so_far.verdict ≡ Agrees → end_told g (reply ∷ replies) ≡ true
end_more reply replies g other behind agrees = by_goes (goes_on g) refl
  where
    or_true : (b : Bool) → (b || true) ≡ true
    or_true true = refl
    or_true false = refl

    by_goes : (t : Bool) → goes_on g ≡ t → end_told g (reply ∷ replies) ≡ true
    by_goes true e = by_end (heard_end g.so_far reply other)
      where
        same : heard_by g.so_far reply ≡ further g reply
        same = sym (ap (λ (t : Bool). cond t (heard_by g.so_far reply) g) e)

        by_end : (is_end reply ≡ true) ⊎ ((heard_by g.so_far reply).so_far.verdict ≡ Agrees → ⊥) → end_told g (reply ∷ replies) ≡ true
        by_end (inl is) = rw (e, is)
        by_end (inr not) =
            let later = behind (further g reply) (subst (λ (h : Going). h.so_far.verdict ≡ Agrees → ⊥) same not) agrees in
            ap (λ (b : Bool). b && (is_end reply || end_told (further g reply) replies)) e ∙ ap (λ (b : Bool). is_end reply || b) later ∙ or_true (is_end reply)
    by_goes false e = absurd (other (ap (λ (h : Going). h.so_far.verdict) (sym (stays g (reply ∷ replies) e)) ∙ agrees))

-- agreement is told only where the end of the log was
agreed_end : (replies : List Reply) (g : Going) → (g.so_far.verdict ≡ Agrees → ⊥) → (replayed_on g replies).so_far.verdict ≡ Agrees → end_told g replies ≡ true
agreed_end [] g other agrees = absurd (other agrees)
agreed_end (reply ∷ replies) g other agrees = end_more reply replies g other (agreed_end replies) agrees

-- answers, and then others
replayed_append : (g : Going) (before after : List Reply) → replayed_on g (before ++ after) ≡ replayed_on (replayed_on g before) after
replayed_append g [] after = refl
replayed_append g (reply ∷ before) after = replayed_append (further g reply) before after

-- a read that fails before a verdict is told leaves none
failed_read : (before after : List Reply) → goes_on (replayed_on begun before) ≡ true → (replayed_on begun (before ++ run.Failed ∷ after)).fault ≡ Some fault.Reading
failed_read before after e =
    let g : Going = replayed_on begun before in
    let failed : further g run.Failed ≡ going g.so_far (Some fault.Reading) = ap (λ (t : Bool). cond t (going g.so_far (Some fault.Reading)) g) e in
    ap (λ (h : Going). h.fault)
    (replayed_append begun before (run.Failed ∷ after)
    ∙ ap (λ (h : Going). replayed_on h after) failed
    ∙ stays (going g.so_far (Some fault.Reading)) after refl)

-- an open verdict is no agreement
pub open_other : Open ≡ Agrees → ⊥
open_other e = true≢false (ap is_open e)

-- all of it
pub replays_input : ReplaysInput
unfolding report_words end_line fault_line numbered numeral places
replays_input =
    record {
      verdict = verdict_whole;
      ends = λ replies. end_over replies begun;
      at_end = λ replies. agreed_end replies begun open_other;
      failure = failed_read;
      agreed = refl;
      empty = refl;
      other_answer = refl;
      other_rounds = refl;
      other_out = refl;
      unread = refl;
      fault = refl;
      done = refl;
    }
