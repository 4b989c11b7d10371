-- `moving::all::move_all` meets its contract.
use mathlib.Core.Path.{◌≡◌, sym, ap, ◌∙◌}
use mathlib.Core.Bool.{true}
use mathlib.Core.List.{List}
use Prim.Native.Nat.{ℕ}
use native.Mathlib.Omega.{arith}
use Rattle.std.proofs.Common.{Ok, Err}
use Rattle.std.proofs.lemmas.Result.{err_from_is_err_and}
use lib.ListN.{length}
use Rattle.answers.specs.Numbers.{is_done}
use Rattle.moving.specs.declared.route.Route.{Route}
use Rattle.moving.specs.declared.all.MovedAll.{MovedAll}
use Rattle.moving.specs.declared.all.UnmovedAll.{UnmovedAll}
use Rattle.moving.specs.Moves.{MovingAll, moving_all_of, moved_all, text_in, is_whole, all_by, all_leaves, summary, move_all_call}
use Rattle.moving.proofs.Places.{refuses, all_stops, all_whole, all_refused, all_short, whole_length}
use Rattle.moving.proofs.all.move_all.Goals as goal

-- what is measured, where a record is refused
refused : (route : Route) (text out : List ℕ) (why : UnmovedAll) → moving_all_of (Err why) ≡ summary (moved_all route text)
    → all_leaves (moving_all_of (Err why)) out ≡ all_by (moved_all route text) out
refused route text out why e = ap (λ (m : MovingAll). all_leaves m out) e ∙ all_refused (moved_all route text) out (sym (all_whole (moved_all route text) (all_stops route text)) ∙ sym (ap (λ (m : MovingAll). is_done m.answer) e) ∙ refuses why)

-- and where none is: how many bytes are written
none_refused : (route : Route) (text : List ℕ) (m : MovedAll) → moving_all_of (Ok m) ≡ summary (moved_all route text)
    → (is_whole (moved_all route text) ≡ true) × (m.written ≡ length (text_in (moved_all route text)))
none_refused route text m e =
    let all = sym (ap (λ (m : MovingAll). is_done m.answer) e ∙ all_whole (moved_all route text) (all_stops route text)) in
    (all, ap (λ (m : MovingAll). m.written) e ∙ whole_length (moved_all route text) all)

pub returns-in_err-moved : goal.returns-in_err-moved
unfolding move_all_call
returns-in_err-moved c =
    let a = c.args in
    let p = err_from_is_err_and c.from_residual.result c.from_residual.ensures.1 in
    rw (p.1, p.2) (refused a.route a.text.now a.out.now _ c.in_err-moved.ensures)

pub returns-then-out-moved : goal.returns-then-out-moved
unfolding move_all_call
returns-then-out-moved c =
    let a = c.args in
    let none = none_refused a.route a.text.now _ c.in_ok-moved.ensures in
    all_short (moved_all a.route a.text.now) a.out.now none.0 (omega (arith, c.if-out-moved.true, none.1))

pub put_all-requires-clause-text_value : goal.put_all-requires-clause-text_value
put_all-requires-clause-text_value c = (none_refused c.args.route c.args.text.now _ c.in_ok-moved.ensures).0
