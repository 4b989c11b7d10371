-- Windows of a log, however it is cut, are replayed as the whole log.
use mathlib.Core.Path.{◌≡◌, refl, sym, ap, ◌∙◌}
use mathlib.Core.Bool.{Bool, true, false, cond}
use mathlib.Core.List.{List, [], ◌∷◌, ◌++◌, append_assoc}
use Prim.Native.Nat.{ℕ, suc, ◌+◌, ◌≤◌}
use native.Mathlib.Nat.{zero-add}
use native.Mathlib.Omega.{arith}
use lib.ListN.{length, drop, length-append}
use lib.Seq.{drop-drop, drop-append-le}
use Rattle.stream.specs.declared.Stream.{Stream}
use Rattle.stream.specs.State.{ended}
use Rattle.replay.specs.declared.whole.Conclusion.{Conclusion}
use Rattle.replay.specs.declared.window.Stretch.{Stretch}
use Rattle.replay.specs.declared.window.Verdict.{Verdict}
use Rattle.replay.specs.declared.window.Verdict.TheVariants.{Open}
use Rattle.replay.specs.Replays.{Step, step_of, is_agreed, stopped, further, stretch_of, told, replay_of}
use Rattle.replay.specs.Laws.{is_open, SoFar, begun, replayed, onward, over_windows, concluded, joined}
use Rattle.replay.proofs.Stretches.{onto, agreed_read, step_inside, by_entries, stretch_step, step_same, step_told}

-- a verdict that is told ends a stretch; what was left open goes on with what is left
abbrev goes_on : Stretch → Stretch → Stretch
goes_on r q = cond (is_open r.verdict) (onto r q) r

-- nothing before a stretch
onto_none : (s : Stream) (verdict : Verdict) (q : Stretch) → onto (stopped s verdict) q ≡ q
onto_none s verdict q = λ j. record { entries = zero-add q.entries j; taken = zero-add q.taken j; stream = q.stream; verdict = q.verdict }

-- an entry more before a stretch
goes_further : (n : ℕ) (r q : Stretch) → further n (goes_on r q) ≡ goes_on (further n r) q
goes_further n r q = go (is_open r.verdict)
  where
    onto_further : further n (onto r q) ≡ onto (further n r) q
    onto_further =
        let entries : suc (r.entries + q.entries) ≡ suc r.entries + q.entries = omega arith in
        let taken : n + (r.taken + q.taken) ≡ n + r.taken + q.taken = omega arith in
        λ j. record { entries = entries j; taken = taken j; stream = q.stream; verdict = q.verdict }

    go : (t : Bool) → further n (cond t (onto r q) r) ≡ cond t (onto (further n r) q) (further n r)
    go true = onto_further
    go false = refl

-- what is told of a log where the replay is so far
abbrev of_so_far : SoFar → Conclusion
of_so_far f = told f.entries f.verdict

-- and at the end of the log, with more of it behind what was replayed
abbrev ending : SoFar → List ℕ → Conclusion
ending f more = of_so_far (onward true f more)

-- a text with more behind it has the stretch of the text and, where that is left open, of what is left with more behind it
stretch_more : (over : Bool) (more : List ℕ) (s : Stream) (text : List ℕ) → let r = stretch_of false s text in
    stretch_of over s (text ++ more) ≡ goes_on r (stretch_of over r.stream (drop r.taken text ++ more))
stretch_more over more = by_entries false More none stops goes
  where
    More : Stream → List ℕ → Stretch → Type 0
    More s text r = stretch_of over s (text ++ more) ≡ goes_on r (stretch_of over r.stream (drop r.taken text ++ more))

    none : (s : Stream) → More s [] (stopped s Open)
    none s = sym (onto_none s Open (stretch_of over s more))

    stops : (s : Stream) (text : List ℕ) → 1 ≤ length text → is_agreed (step_of false s text).verdict ≡ false → More s text (stopped s (step_of false s text).verdict)
    stops s text some stop = go (is_open (step_of false s text).verdict) refl
      where
        all : List ℕ
        all = text ++ more

        go : (t : Bool) → is_open (step_of false s text).verdict ≡ t
            → stretch_of over s all ≡ cond t (onto (stopped s (step_of false s text).verdict) (stretch_of over s all)) (stopped s (step_of false s text).verdict)
        go true e = sym (onto_none s (step_of false s text).verdict (stretch_of over s all))
        go false e =
            let l = length-append text more in
            stretch_step over s all (omega arith)
            ∙ rw (step_told over s text more e, stop)

    goes : (s : Stream) (text : List ℕ) (r : Stretch) → let step = step_of false s text in is_agreed step.verdict ≡ true
        → More step.next (drop step.taken text) r → More s text (further step.taken r)
    goes s text r agreed later =
        let step : Step = step_of false s text in
        let inside = step_inside false s text agreed in
        let l = length-append text more in
        let same = step_same false over s text more (agreed_read false s text agreed) in
        let q : List ℕ → Stretch = λ left. stretch_of over r.stream (left ++ more) in
        stretch_step over s (text ++ more) (omega arith)
        ∙ rw (same, agreed, drop-append-le step.taken text more inside.1)
        (ap (further step.taken) later
        ∙ goes_further step.taken r (q (drop r.taken (drop step.taken text)))
        ∙ ap (λ (left : List ℕ). goes_on (further step.taken r) (q left)) (drop-drop r.taken step.taken text))

-- a window that tells a verdict tells it whatever stands behind it
pub window_tells : (over : Bool) (s : Stream) (text more : List ℕ) → is_open (stretch_of false s text).verdict ≡ false
    → stretch_of over s (text ++ more) ≡ stretch_of false s text
window_tells over s text more e = stretch_more over more s text ∙ rw e

-- a window replayed before what stands behind it changes nothing
window_before : (f : SoFar) (window more : List ℕ) → ending (replayed false f window) more ≡ of_so_far (replayed true f (window ++ more))
unfolding replayed
window_before f window more =
    go (is_open r.verdict)
    ∙ ap (λ (whole : Stretch). told (f.entries + whole.entries) whole.verdict)
    (sym (ap (stretch_of true f.stream) (sym (append_assoc f.left window more)) ∙ stretch_more true more f.stream text))
  where
    text : List ℕ
    text = f.left ++ window

    r : Stretch
    r = stretch_of false f.stream text

    q : Stretch
    q = stretch_of true r.stream (drop r.taken text ++ more)

    sums : f.entries + r.entries + q.entries ≡ f.entries + (r.entries + q.entries)
    sums = omega arith

    go : (t : Bool) → let whole = cond t (onto r q) r in
        of_so_far (cond t (replayed true (replayed false f window) more) (replayed false f window)) ≡ told (f.entries + whole.entries) whole.verdict
    go true = ap (λ (n : ℕ). told n q.verdict) sums
    go false = refl

-- nor does a window where the verdict was told before it
one_window : (f : SoFar) (window more : List ℕ) → ending (onward false f window) more ≡ ending f (window ++ more)
one_window f window more = go (is_open f.verdict) refl
  where
    go : (t : Bool) → is_open f.verdict ≡ t → ending (cond t (replayed false f window) f) more ≡ of_so_far (cond t (replayed true f (window ++ more)) f)
    go true e = window_before f window more
    go false e = rw e

-- windows one after another, and then the end of the log
in_windows : (windows : List (List ℕ)) (f : SoFar) → concluded (over_windows f windows) ≡ ending f (joined windows)
in_windows [] f = refl
in_windows (window ∷ windows) f = in_windows windows (onward false f window) ∙ one_window f window (joined windows)

-- windows of a log, from its beginning
pub all_windows : (windows : List (List ℕ)) → concluded (over_windows begun windows) ≡ replay_of (joined windows)
unfolding replay_of replayed
all_windows windows =
    let r : Stretch = stretch_of true ended (joined windows) in
    in_windows windows begun ∙ ap (λ (n : ℕ). told n r.verdict) (zero-add r.entries)
