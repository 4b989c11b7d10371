use mathlib.Core.Path.{◌≡◌, ap, ◌∙◌}
use mathlib.Core.List.{List, ◌++◌}
use Prim.Native.Nat.{ℕ, ◌+◌, ◌-◌, ◌≤◌, ◌<◌}
use native.Mathlib.Omega.{arith}
use Rattle.std.proofs.Common.{Err}
use lib.ListN.{length, take, drop, length-take, length-drop, length-append}
use Rattle.digits.proofs.Room.{put_inside, put_count}
use Rattle.entry.specs.Form.{largest_number}
use Rattle.moving.specs.declared.route.Route.{Route}
use Rattle.moving.specs.declared.all.UnmovedAll.{UnmovedAll}
use Rattle.moving.specs.Moves.{moved_as, move_leaves, move_call, moving_all_of}
use Rattle.moving.proofs.Routes.{wide}
use Rattle.moving.proofs.Turns.{some_left, rest_on, turn_done, turn_refused}
use Rattle.moving.proofs.all.measure.Invariants.{Measured}
use Rattle.moving.proofs.all.measure.Goals as goal

-- one more record is measured, which took at least one byte of the text
one_more : {route : Route} {text scratch rest : List ℕ} {records sum : ℕ} (after : List ℕ) (taken written : ℕ) → Measured route text scratch rest records sum
    → length text ≤ largest_number → 1 ≤ length rest → move_leaves (moved_as taken written) after ≡ move_call route (records + 1) rest scratch
    → (1 ≤ taken) × (taken ≤ length rest) × Measured route text after (take (length rest - taken) (drop taken rest)) (records + 1) (sum + written)
one_more {route} {text} {scratch} {rest} {records} after taken written p bound some call =
    let size = ap length p.rest_is ∙ length-drop p.at text in
    let t = turn_done route text (wide route _ bound) p.known p.at records p.before scratch after p.left (omega (arith, some, size)) taken written (rw p.rest_is at call) in
    let placed = (put_count _ _ _ _ t.placed t.room).0 in (
      t.some,
      omega (arith, t.left_over.inside, size, p.left.inside),
      record {
        at = p.at + taken;
        before = p.before ++ t.next;
        places = (put_inside _ _ _ _ t.placed).1 ∙ p.places;
        sum = omega (arith, length-append p.before t.next, p.sum, placed);
        known = p.known;
        left = t.left_over;
        rest_is = rest_on text rest p.at taken p.rest_is;
      },
    )

pub returns-in-Err : goal.returns-in-Err
returns-in-Err c =
    let a = c.args in
    let l = c.loop-rest in
    let i = l.invariant in
    let counts = wide a.route (length a.text.now) (omega (arith, c.well_formed.1.0.0)) in
    let inside : i.at < length a.text.now = omega (arith, some_left _ c.loop-rest-test.ensures, ap length i.rest_is, length-drop i.at a.text.now) in
    ap (λ (w : UnmovedAll). moving_all_of (Err w)) c.of_record.ensures
    ∙ turn_refused a.route a.text.now counts i.known i.at l.records i.before l.scratch _ i.left inside c.in-Err.refused (rw i.rest_is at c.in-Err.ensures) (omega (arith, i.places))

pub overflow_add-written : goal.overflow_add-written
overflow_add-written c =
    let m = c.in-Ok.moved in
    let one = one_more c.move_record.new.out m.taken m.written c.loop-rest.invariant (omega (arith, c.well_formed.1.0.0)) (some_left _ c.loop-rest-test.ensures) c.in-Ok.ensures in
    record { fits = omega (arith, one.2.sum, one.2.left.double, one.2.left.inside, c.well_formed.1.0.1) }

pub slice_bounds-rest-count : goal.slice_bounds-rest-count
slice_bounds-rest-count c =
    let m = c.in-Ok.moved in
    let one = one_more c.move_record.new.out m.taken m.written c.loop-rest.invariant (omega (arith, c.well_formed.1.0.0)) (some_left _ c.loop-rest-test.ensures) c.in-Ok.ensures in
    one.1

pub slice_bounds-rest-start : goal.slice_bounds-rest-start
slice_bounds-rest-start c =
    let m = c.in-Ok.moved in
    let one = one_more c.move_record.new.out m.taken m.written c.loop-rest.invariant (omega (arith, c.well_formed.1.0.0)) (some_left _ c.loop-rest-test.ensures) c.in-Ok.ensures in
    one.1

pub loop-rest-smaller : goal.loop-rest-smaller
loop-rest-smaller c =
    let m = c.in-Ok.moved in
    let one = one_more c.move_record.new.out m.taken m.written c.loop-rest.invariant (omega (arith, c.well_formed.1.0.0)) (some_left _ c.loop-rest-test.ensures) c.in-Ok.ensures in
    omega (arith, one.0, one.1, length-take (length c.loop-rest.rest.now - m.taken) (drop m.taken c.loop-rest.rest.now), length-drop m.taken c.loop-rest.rest.now)

pub loop-rest-preserved : goal.loop-rest-preserved
loop-rest-preserved c =
    let m = c.in-Ok.moved in
    let one = one_more c.move_record.new.out m.taken m.written c.loop-rest.invariant (omega (arith, c.well_formed.1.0.0)) (some_left _ c.loop-rest-test.ensures) c.in-Ok.ensures in
    one.2
