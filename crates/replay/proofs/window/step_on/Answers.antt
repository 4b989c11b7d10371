-- `replay::window::step_on` meets its contract.
use Rattle.std.proofs.Common.{◌≡◌, sym, ap, ◌∙◌, List, ℕ}
use Rattle.std.proofs.lemmas.Result.{err_from_is_err_and}
use Rattle.chip_log.specs.declared.form.Entry.{Entry}
use Rattle.record.specs.Form.{held}
use Rattle.record.proofs.Fields.{held_field}
use Rattle.replay.specs.declared.feeding.Given.{Given}
use Rattle.replay.specs.Feeding.{Gives, fed, in_places, as_given}
use Rattle.replay.specs.Replays.{compared, step_on}
use Rattle.replay.proofs.window.step_on.Goals as goal

-- what our stream gives is compared as the code holds it
as_held : (given : Given) (g : Gives) (e : Entry) → given ≡ in_places g → compared g e ≡ compared (as_given given) e
as_held given g e is =
    ap (λ (x : List ℕ). compared (record { answer = g.answer; out = x; rounds = g.rounds; next = g.next }) e) (sym (held_field g.out))
    ∙ ap (λ (k : Given). compared (as_given k) e) (sym is)

pub returns-in_err-compare : goal.returns-in_err-compare
unfolding step_on
returns-in_err-compare c =
    let s = c.args in
    let p = err_from_is_err_and c.from_residual.result c.from_residual.ensures.1 in
    let told = c.in_err-compare.ensures in
    rw (p.1, p.2) (as_held c.feed-given.result (fed s.stream s.entry.call (held s.entry.input)) s.entry c.feed-given.ensures ∙ told.0, told.1)

pub returns : goal.returns
unfolding step_on
returns c =
    let s = c.args in
    let is = c.feed-given.ensures in
    let verdict = as_held c.feed-given.result (fed s.stream s.entry.call (held s.entry.input)) s.entry is ∙ c.in_ok-compare.ensures in
    λ j. record { verdict = verdict j; taken = s.taken; next = (sym is j).next }
