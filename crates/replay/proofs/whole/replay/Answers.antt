-- `replay::whole::replay` meets its contract.
use Rattle.std.proofs.Common.{arith, ◌≡◌, sym, ap, ◌∙◌, true, false, true≢false, List, ℕ, ◌<◌, length}
use Rattle.std.proofs.lemmas.List.{length-drop}
use Rattle.stream.specs.declared.Stream.{Stream}
use Rattle.stream.specs.State.{ended}
use Rattle.replay.specs.declared.window.Stretch.{Stretch}
use Rattle.replay.specs.Replays.{step_of, is_agreed, stretch_of, replay_of}
use Rattle.replay.proofs.Stretches.{step_inside, by_entries}
use Rattle.replay.proofs.whole.replay.Goals as goal

-- where not all agree, an entry is left, so fewer agreed than the log has bytes
fewer : (s : Stream) (text : List ℕ) → is_agreed (stretch_of true s text).verdict ≡ false → (stretch_of true s text).entries < length text
fewer =
    by_entries true (λ s text r. is_agreed r.verdict ≡ false → r.entries < length text)
    (λ s e. absurd (true≢false e))
    (λ s text some stop e. omega arith)
    (λ s text r agreed later e. let inside = step_inside true s text agreed in omega (arith, later e, length-drop (step_of true s text).taken text))

pub returns-then-is_agreed : goal.returns-then-is_agreed
unfolding replay_of
returns-then-is_agreed c = rw (← c.ended.ensures, ← c.replay_window-stretch.ensures, sym c.is_agreed.ensures ∙ c.if-is_agreed.true)

pub returns-else-is_agreed : goal.returns-else-is_agreed
unfolding replay_of
returns-else-is_agreed c = rw (← c.ended.ensures, ← c.replay_window-stretch.ensures, sym c.is_agreed.ensures ∙ c.if-is_agreed.false)

pub overflow_add-result : goal.overflow_add-result
overflow_add-result c =
    let is = c.replay_window-stretch.ensures ∙ ap (λ (s : Stream). stretch_of true s c.args.log.now) c.ended.ensures in
    let other = ap (λ (r : Stretch). is_agreed r.verdict) (sym is) ∙ sym c.is_agreed.ensures ∙ c.if-is_agreed.false in
    record { fits = omega (arith, ap (λ (r : Stretch). r.entries) is, fewer ended c.args.log.now other, c.well_formed.0.0) }
