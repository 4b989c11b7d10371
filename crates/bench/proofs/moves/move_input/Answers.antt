-- `bench::moves::move_input` meets its contract.
use mathlib.Core.Path.{◌≡◌, ap}
use mathlib.Core.List.{List}
use Prim.Native.Nat.{ℕ, ◌≤◌}
use native.Mathlib.Omega.{arith}
use lib.ListN.{length, take, length-take}
use Rattle.std.proofs.Common.{Err}
use Rattle.std.proofs.lemmas.Result.{err_from_is_err_and}
use Rattle.moving.specs.declared.route.Route.{Route}
use Rattle.moving.specs.declared.route.Route.TheVariants.{Forward, Back, Import, Export}
use Rattle.moving.specs.Laws.{Counts}
use Rattle.moving.specs.Moves.{MovingAll, AllLeaves, all_leaves, move_all_call}
use Rattle.moving.proofs.Numbered.{numbered}
use Rattle.moving.proofs.Places.{written_inside}
use Rattle.bench.proofs.moves.move_input.Goals as goal

-- no more than the output is written
inside : (route : Route) (text out new : List ℕ) (r : MovingAll) → all_leaves r new ≡ move_all_call route text out → length new ≡ length out → r.written ≤ length new
inside route text out new r leaves same = omega (arith, ap (λ (l : AllLeaves). l.outcome.written) leaves, written_inside route text out)

-- a text in memory has few enough bytes for its records to be counted
counts : (route : Route) (n : ℕ) → n ≤ 18_446_744_073_709_551_615 → Counts route n
counts Forward n h = tt
counts Back n h = tt
counts (Import set) n h = h
counts Export n h = h

pub returns-clause-result_in_bounds : goal.returns-clause-result_in_bounds
returns-clause-result_in_bounds c = inside c.args.route _ c.args.out.now _ _ (rw c.in_ok-moved.was at c.move_all.ensures) c.move_all.auto.out

pub returns-in_err-moved-clause-result_in_bounds : goal.returns-in_err-moved-clause-result_in_bounds
returns-in_err-moved-clause-result_in_bounds c =
    let p = err_from_is_err_and c.from_residual-in_err-moved.result c.from_residual-in_err-moved.ensures.1 in
    rw (p.1, p.2) (inside c.args.route _ c.args.out.now _ _ c.in_err-moved.ensures c.move_all.auto.out)

pub returns-in_err-moved-clause-numbered : goal.returns-in_err-moved-clause-numbered
returns-in_err-moved-clause-numbered c =
    let text = take c.in_ok-size.size c.read_all.new.place in
    let fits = counts c.args.route (length text) (omega (arith, length-take c.in_ok-size.size c.read_all.new.place)) in
    let p = err_from_is_err_and c.from_residual-in_err-moved.result c.from_residual-in_err-moved.ensures.1 in
    rw (p.1, p.2) (numbered c.args.route text c.args.out.now (Err c.in_err-moved.field-0.0) (ap (λ (l : AllLeaves). l.outcome) c.in_err-moved.ensures) fits)
