-- Stretches of a log, entry by entry: what they take, where one is left open, and what more of the log changes.
use mathlib.Core.Path.{◌≡◌, refl, sym, ap, ◌∙◌, subst}
use mathlib.Core.Bool.{Bool, true, false, cond, not, ◌&&◌, true≢false, false≢true}
use mathlib.Core.List.{List, [], ◌∷◌, ◌++◌}
use Prim.Native.Nat.{ℕ, zero, suc, ◌+◌, ◌≤◌, ◌<◌}
use native.Mathlib.Omega.{arith}
use lib.Dec.{eqb}
use lib.ListN.{length, drop, length-append, length-drop}
use lib.Seq.{drop-drop}
use borrow.Author.Tests.{ne_eqb}
use Rattle.answers.specs.declared.Answer.TheVariants.{Done}
use Rattle.answers.specs.Numbers.{is_done, number_of}
use Rattle.answers.proofs.Numbers.{done_is}
use Rattle.judge.specs.Difference.{differ}
use Rattle.chip_log.specs.declared.form.Entry.{Entry}
use Rattle.chip_log.specs.Calls.{Reading}
use Rattle.chip_log.specs.Form.{entry_text}
use Rattle.chip_log.specs.Calls.{read_as, refused_at, read_entry}
use Rattle.chip_log.specs.Laws.{InForm, BegunEntry, most_bytes}
use Rattle.chip_log.proofs.Laws.{reads_log}
use Rattle.record.specs.Form.{held}
use Rattle.stream.specs.declared.Stream.{Stream}
use Rattle.stream.specs.State.{ended}
use Rattle.replay.specs.declared.window.Stretch.{Stretch}
use Rattle.replay.specs.declared.window.Verdict.TheVariants.{Agrees, Answer, Out, Rounds, Unread, Open}
use Rattle.replay.specs.Feeding.{Gives}
use Rattle.replay.specs.Replays.{Step, compared, step_on, unread_of, step_of, is_agreed, at_end, stopped, further, stretch_in, stretch_of, replay_of, step_by}
use Rattle.replay.specs.Laws.{is_open}

-- ---- one entry

-- what was read is in form
pub read_in_form : (text : List ℕ) (taken : ℕ) (e : Entry) → read_as taken e ≡ read_entry text → InForm e
unfolding read_as
read_in_form text taken e is =
    let done : (read_entry text).answer ≡ Done = ap (λ (r : Reading). r.answer) (sym is) in
    subst (λ (r : Reading). InForm r.content) (sym is) (reads_log.in_form text done)

-- the step of a text that is no entry
abbrev pub unread_step : Bool → Stream → List ℕ → Step
unread_step over s text = record { verdict = unread_of over (read_entry text); taken = 0; next = s }

-- what holds of an entry that is read and of a text that is none holds of a step
pub by_reading : (over : Bool) (s : Stream) (text : List ℕ) (P : Step → Type 0)
    → ((read_entry text).answer ≡ Done → P (step_on s (read_entry text).content (read_entry text).taken))
    → (is_done (read_entry text).answer ≡ false → P (unread_step over s text))
    → P (step_of over s text)
unfolding step_by
by_reading over s text P read unread = go (is_done (read_entry text).answer) refl
  where
    go : (t : Bool) → is_done (read_entry text).answer ≡ t → P (cond t (step_on s (read_entry text).content (read_entry text).taken) (unread_step over s text))
    go true e = read (done_is _ e)
    go false e = unread e

-- an entry that is read is fed to the stream
pub step_read : (over : Bool) (s : Stream) (text : List ℕ) → (read_entry text).answer ≡ Done
    → step_of over s text ≡ step_on s (read_entry text).content (read_entry text).taken
step_read over s text d =
    by_reading over s text (λ step. step ≡ step_on s (read_entry text).content (read_entry text).taken) (λ e. refl) (λ e. absurd (true≢false (sym (ap is_done d) ∙ e)))

-- a text that is no entry does not agree
unread_other : (over : Bool) (reading : Reading) → is_agreed (unread_of over reading) ≡ false
unread_other over reading = go (not over && reading.early)
  where
    go : (t : Bool) → is_agreed (cond t Open (Unread reading.line reading.column)) ≡ false
    go true = refl
    go false = refl

-- so what agrees was read
pub agreed_read : (over : Bool) (s : Stream) (text : List ℕ) → is_agreed (step_of over s text).verdict ≡ true → (read_entry text).answer ≡ Done
agreed_read over s text =
    by_reading over s text (λ step. is_agreed step.verdict ≡ true → (read_entry text).answer ≡ Done)
    (λ d agreed. d)
    (λ e agreed. absurd (false≢true (sym (unread_other over (read_entry text)) ∙ agreed)))

-- an entry that is read is not left open
compared_told : (g : Gives) (e : Entry) → is_open (compared g e) ≡ false
unfolding compared
compared_told g e = go (not (eqb e.answer (number_of g.answer))) (differ g.out (held e.out)) (not (eqb e.rounds g.rounds))
  where
    go : (a b c : Bool) → is_open (cond a Answer (cond b Out (cond c Rounds Agrees))) ≡ false
    go true b c = refl
    go false true c = refl
    go false false true = refl
    go false false false = refl

-- a text is left open only where the log goes on and it ended too early
step_open : (over : Bool) (s : Stream) (text : List ℕ) → is_open (step_of over s text).verdict ≡ true → (over ≡ false) × ((read_entry text).early ≡ true)
unfolding step_on
step_open over s text =
    by_reading over s text (λ step. is_open step.verdict ≡ true → (over ≡ false) × ((read_entry text).early ≡ true))
    (λ d stays. absurd (false≢true (sym (compared_told _ (read_entry text).content) ∙ stays)))
    (λ e stays. go over (read_entry text).early refl stays)
  where
    go : (over early : Bool) → (read_entry text).early ≡ early
        → is_open (cond (not over && early) Open (Unread (read_entry text).line (read_entry text).column)) ≡ true
        → (over ≡ false) × ((read_entry text).early ≡ true)
    go true early e stays = absurd (false≢true stays)
    go false true e stays = (refl, e)
    go false false e stays = absurd (false≢true stays)

-- ---- entry after entry

-- an entry that is read has some bytes, all of them in its text
pub read_inside : (text : List ℕ) → (read_entry text).answer ≡ Done → (1 ≤ (read_entry text).taken) × ((read_entry text).taken ≤ length text)
unfolding read_as
read_inside text d =
    let b = (reads_log.exactly text).0 d in
    let own : List ℕ = entry_text b.content in
    let taken : (read_entry text).taken ≡ length own =
    ap (λ (r : Reading). r.taken) (ap read_entry b.parts ∙ reads_log.text_read b.content b.rest b.in_form) in
    let size : length text ≡ length own + length b.rest = ap length b.parts ∙ length-append own b.rest in
    (omega (arith, reads_log.shortest text d), omega arith)

-- so has an entry that agrees
pub step_inside : (over : Bool) (s : Stream) (text : List ℕ) → is_agreed (step_of over s text).verdict ≡ true
    → let taken = (step_of over s text).taken in (1 ≤ taken) × (taken ≤ length text)
unfolding step_on
step_inside over s text e =
    let d = agreed_read over s text e in
    rw (step_read over s text d) (read_inside text d)

-- a statement that holds of no text, of a text whose first entry stops, and, where it holds of what is left, of a text whose first entry agrees
module _ (over : Bool) (P : Stream → List ℕ → Stretch → Type 0) (none : (s : Stream) → P s [] (stopped s (at_end over)))
    (stops : (s : Stream) (text : List ℕ) → 1 ≤ length text → is_agreed (step_of over s text).verdict ≡ false → P s text (stopped s (step_of over s text).verdict))
    (goes : (s : Stream) (text : List ℕ) (r : Stretch) → let step = step_of over s text in is_agreed step.verdict ≡ true
    → P step.next (drop step.taken text) r → P s text (further step.taken r)) where
  -- holds of a text in as many steps as it has bytes, or more
  by_steps : (n : ℕ) (s : Stream) (text : List ℕ) → length text ≤ n → P s text (stretch_in n over s text)
  by_steps zero s [] h = none s
  by_steps (suc n) s [] h = none s
  by_steps zero s (b ∷ rest) h = absurd (omega arith)
  by_steps (suc n) s (b ∷ rest) h =
      rw (ne_eqb (length (b ∷ rest)) 0 (λ e. omega arith))
      (go (is_agreed (step_of over s (b ∷ rest)).verdict) refl (by_steps n (step_of over s (b ∷ rest)).next (drop (step_of over s (b ∷ rest)).taken (b ∷ rest))))
    where
      step : Step
      step = step_of over s (b ∷ rest)

      left : List ℕ
      left = drop step.taken (b ∷ rest)

      go : (t : Bool) → is_agreed step.verdict ≡ t → (length left ≤ n → P step.next left (stretch_in n over step.next left))
          → P s (b ∷ rest) (cond t (further step.taken (stretch_in n over step.next left)) (stopped s step.verdict))
      go true e later =
          let inside = step_inside over s (b ∷ rest) e in
          goes s (b ∷ rest) _ e (later (omega (arith, length-drop step.taken (b ∷ rest))))
      go false e later = stops s (b ∷ rest) (omega arith) e

  -- so it holds of each text and its stretch
  pub by_entries : (s : Stream) (text : List ℕ) → P s text (stretch_of over s text)
  unfolding stretch_of
  by_entries s text = by_steps (length text) s text (omega arith)

-- more steps than bytes change nothing
enough_steps : (over : Bool) (s : Stream) (text : List ℕ) (n : ℕ) → length text ≤ n → stretch_in n over s text ≡ stretch_of over s text
enough_steps over = by_entries over Enough none stops goes
  where
    Enough : Stream → List ℕ → Stretch → Type 0
    Enough s text r = (n : ℕ) → length text ≤ n → stretch_in n over s text ≡ r

    none : (s : Stream) → Enough s [] (stopped s (at_end over))
    none s zero h = refl
    none s (suc n) h = refl

    stops : (s : Stream) (text : List ℕ) → 1 ≤ length text → is_agreed (step_of over s text).verdict ≡ false → Enough s text (stopped s (step_of over s text).verdict)
    stops s text some stop zero h = absurd (omega arith)
    stops s text some stop (suc n) h = rw (ne_eqb (length text) 0 (λ e. omega arith), stop)

    goes : (s : Stream) (text : List ℕ) (r : Stretch) → let step = step_of over s text in is_agreed step.verdict ≡ true
        → Enough step.next (drop step.taken text) r → Enough s text (further step.taken r)
    goes s text r agreed later zero h = let inside = step_inside over s text agreed in absurd (omega arith)
    goes s text r agreed later (suc n) h =
        let inside = step_inside over s text agreed in
        let l = length-drop (step_of over s text).taken text in
        rw (ne_eqb (length text) 0 (λ e. omega arith), agreed) (ap (further (step_of over s text).taken) (later n (omega arith)))

-- a text has the stretch of its first entry, and then, where that agrees, of what is left
pub stretch_step : (over : Bool) (s : Stream) (text : List ℕ) → 1 ≤ length text → let step = step_of over s text in
    stretch_of over s text
    ≡ cond (is_agreed step.verdict) (further step.taken (stretch_of over step.next (drop step.taken text))) (stopped s step.verdict)
stretch_step over s text h =
    let left : List ℕ = drop (step_of over s text).taken text in
    let l : length left ≤ length text = omega (arith, length-drop (step_of over s text).taken text) in
    sym (enough_steps over s text (suc (length text)) (omega arith))
    ∙ rw (ne_eqb (length text) 0 (λ e. omega arith), enough_steps over (step_of over s text).next left (length text) l)

-- a stretch, and then another one
abbrev pub onto : Stretch → Stretch → Stretch
onto r q = record { entries = r.entries + q.entries; taken = r.taken + q.taken; stream = q.stream; verdict = q.verdict }

-- a replay takes no more than its text, and counts no more entries than bytes
pub stretch_inside : (over : Bool) (s : Stream) (text : List ℕ) → let r = stretch_of over s text in (r.entries ≤ r.taken) × (r.taken ≤ length text)
stretch_inside over =
    by_entries over (λ s text r. (r.entries ≤ r.taken) × (r.taken ≤ length text)) (λ s. (omega arith, omega arith))
    (λ s text some stop. (omega arith, omega arith))
    goes
  where
    goes : (s : Stream) (text : List ℕ) (r : Stretch) → let step = step_of over s text in is_agreed step.verdict ≡ true
        → (r.entries ≤ r.taken) × (r.taken ≤ length (drop step.taken text))
        → (suc r.entries ≤ step.taken + r.taken) × (step.taken + r.taken ≤ length text)
    goes s text r agreed later =
        let inside = step_inside over s text agreed in
        let l = length-drop (step_of over s text).taken text in
        (omega arith, omega arith)

-- a text of no bytes ended too early
nothing_early : (read_entry []).early ≡ true
unfolding refused_at
nothing_early = ap (λ (r : Reading). r.early) reads_log.nothing

-- a stretch is left open only where the log goes on and what is left ended too early
stretch_open : (over : Bool) (s : Stream) (text : List ℕ) → let r = stretch_of over s text in
    is_open r.verdict ≡ true → (over ≡ false) × ((read_entry (drop r.taken text)).early ≡ true)
stretch_open over = by_entries over Early none (λ s text some stop stays. step_open over s text stays) goes
  where
    Early : Stream → List ℕ → Stretch → Type 0
    Early s text r = is_open r.verdict ≡ true → (over ≡ false) × ((read_entry (drop r.taken text)).early ≡ true)

    none : (s : Stream) → Early s [] (stopped s (at_end over))
    none s = go over
      where
        go : (over : Bool) → is_open (at_end over) ≡ true → (over ≡ false) × ((read_entry []).early ≡ true)
        go true stays = absurd (false≢true stays)
        go false stays = (refl, nothing_early)

    goes : (s : Stream) (text : List ℕ) (r : Stretch) → let step = step_of over s text in is_agreed step.verdict ≡ true
        → Early step.next (drop step.taken text) r → Early s text (further step.taken r)
    goes s text r agreed later stays = rw (← drop-drop r.taken (step_of over s text).taken text) (later stays)

-- so what is left is no entry, and some more of the log makes it one
pub stretch_waits : (over : Bool) (s : Stream) (text : List ℕ) → (stretch_of over s text).verdict ≡ Open
    → let left = drop (stretch_of over s text).taken text in
    (over ≡ false) × (BegunEntry left → ⊥) × ((more : List ℕ) × BegunEntry (left ++ more)) × (length left < most_bytes)
stretch_waits over s text e =
    let left : List ℕ = drop (stretch_of over s text).taken text in
    let stays = stretch_open over s text (ap is_open e) in
    let early = (reads_log.early left).0 stays.1 in
    (stays.0, early.0, early.1, reads_log.short left stays.1)

-- a whole log is never left open
pub never_open : (log : List ℕ) → (replay_of log).verdict ≡ Open → ⊥
unfolding replay_of
never_open log e = true≢false (stretch_open true ended log (ap is_open e)).0

-- ---- more of the log

-- a text that is read did not end too early
read_decided : (text : List ℕ) → (read_entry text).answer ≡ Done → (read_entry text).early ≡ false
read_decided text d = go (read_entry text).early refl
  where
    go : (t : Bool) → (read_entry text).early ≡ t → t ≡ false
    go true e = absurd (((reads_log.early text).0 e).0 ((reads_log.exactly text).0 d))
    go false e = refl

-- a text that did not end too early, and is no entry, is unread whether the log goes on or not
unread_decided : (over : Bool) (reading : Reading) → reading.early ≡ false → unread_of over reading ≡ Unread reading.line reading.column
unread_decided true reading e = refl
unread_decided false reading e = rw e

-- the step of a text that did not end too early is the same with more behind it
step_decided : (over later : Bool) (s : Stream) (text more : List ℕ) → (read_entry text).early ≡ false → step_of later s (text ++ more) ≡ step_of over s text
unfolding step_by
step_decided over later s text more e =
    rw (reads_log.decided text more e, unread_decided later (read_entry text) e, unread_decided over (read_entry text) e)

-- so is that of a text that is read
pub step_same : (over later : Bool) (s : Stream) (text more : List ℕ) → (read_entry text).answer ≡ Done → step_of later s (text ++ more) ≡ step_of over s text
step_same over later s text more d = step_decided over later s text more (read_decided text d)

-- and that of a text that is told where the log goes on
pub step_told : (later : Bool) (s : Stream) (text more : List ℕ) → is_open (step_of false s text).verdict ≡ false
    → step_of later s (text ++ more) ≡ step_of false s text
step_told later s text more h = step_decided false later s text more (go (read_entry text).early refl)
  where
    waits : (read_entry text).early ≡ true → is_open (step_of false s text).verdict ≡ true
    waits e =
        by_reading false s text (λ step. is_open step.verdict ≡ true) (λ d. absurd (true≢false (sym e ∙ read_decided text d))) (λ d. rw e)

    go : (t : Bool) → (read_entry text).early ≡ t → t ≡ false
    go true e = absurd (true≢false (sym (waits e) ∙ h))
    go false e = refl

-- a stretch that the log goes on behind never agrees
pub never_agrees : (s : Stream) (text : List ℕ) → (stretch_of false s text).verdict ≡ Agrees → ⊥
never_agrees s text e =
    let other = by_entries false (λ s text r. is_agreed r.verdict ≡ false) (λ s. refl) (λ s text some stop. stop) (λ s text r agreed later. later) s text in
    true≢false (sym (ap is_agreed e) ∙ other)
