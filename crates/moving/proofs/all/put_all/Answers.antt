use mathlib.Core.Path.{◌≡◌, refl, sym, ap, ◌∙◌}
use mathlib.Core.Bool.{true}
use mathlib.Core.List.{List, [], ◌++◌}
use Prim.Native.Nat.{ℕ, ◌+◌, ◌-◌, ◌≤◌, ◌<◌}
use native.Mathlib.Omega.{arith}
use Rattle.std.proofs.Common.{Result, Ok, Err}
use Rattle.std.specs.Result.{IsOk}
use borrow.Author.Tests.{eqb-true}
use lib.ListN.{length, take, drop, length-take, length-drop, length-append}
use Rattle.digits.proofs.Room.{put_fits, put_inside, put_count, behind, put_after}
use Rattle.entry.specs.Form.{largest_number}
use Rattle.moving.specs.declared.route.Route.{Route}
use Rattle.moving.specs.declared.one.Moved.{Moved}
use Rattle.moving.specs.declared.one.Unmoved.{Unmoved}
use Rattle.moving.specs.Moves.{moving_of, Whole, text_in, is_whole, moved_all, move_leaves, move_call}
use Rattle.moving.proofs.Routes.{wide}
use Rattle.moving.proofs.Places.{whole_route}
use Rattle.moving.proofs.Steps.{left_all, left_none}
use Rattle.moving.proofs.Turns.{some_left, rest_on, turn_done, turn_whole}
use Rattle.moving.proofs.all.put_all.Invariants.{Placed}
use Rattle.moving.proofs.all.put_all.Goals as goal

-- there is room behind those before
place : {route : Route} {text before out rest : List ℕ} {end number : ℕ} (p : Placed route text before out rest end number)
    → length p.earlier + length (take (length out - end) (drop end out)) ≡ length before
place {out = out} {end = end} p =
    let there = put_inside _ _ _ _ p.done in
    omega (arith, (put_count _ _ _ _ p.done p.room).0, there.0, there.1, length-take (length out - end) (drop end out), length-drop end out)

-- the next record has a byte at its place
inside : {route : Route} {text before out rest : List ℕ} {end number : ℕ} (p : Placed route text before out rest end number) → 1 ≤ length rest → p.at < length text
inside {text = text} p some = omega (arith, some, ap length p.rest_is, length-drop p.at text)

-- it is not refused
is_moved : {route : Route} {text before out rest : List ℕ} {end number : ℕ} (after : List ℕ) (r : Result Moved Unmoved) → Placed route text before out rest end number
    → length text ≤ largest_number → 1 ≤ length rest → is_whole (moved_all route text) ≡ true → length (text_in (moved_all route text)) ≤ length before
    → move_leaves (moving_of r) after ≡ move_call route (number + 1) rest (take (length out - end) (drop end out)) → IsOk r
is_moved after (Ok moved) p bound some whole fits call = refl
is_moved {route} {text} {before} {out} {end = end} {number} after (Err why) p bound some whole fits call =
    absurd (turn_whole route text (wide route _ bound) (whole_route route text whole) p.at number p.earlier (take (length out - end) (drop end out)) after p.left (inside p some) why whole
    (omega (arith, fits, place p)) (rw p.rest_is at call))

-- so it is put, and took at least one byte of the text
one_more : {route : Route} {text before out rest : List ℕ} {end number : ℕ} (after : List ℕ) (r : Result Moved Unmoved) (moved : Moved) → Placed route text before out rest end number
    → length text ≤ largest_number → 1 ≤ length rest → is_whole (moved_all route text) ≡ true
    → move_leaves (moving_of r) after ≡ move_call route (number + 1) rest (take (length out - end) (drop end out)) → r ≡ Ok moved
    → (1 ≤ moved.taken) × (moved.taken ≤ length rest)
    × Placed route text before (behind end out after) (take (length rest - moved.taken) (drop moved.taken rest)) (end + moved.written) (number + 1)
one_more {route} {text} {before} {out} {rest} {end} {number} after r moved p bound some whole call is =
    let out' = take (length out - end) (drop end out) in
    let t = turn_done route text (wide route _ bound) (whole_route route text whole) p.at number p.earlier out' after p.left (inside p some) moved.taken moved.written
    (rw (is, p.rest_is) at call) in
    let room : length (p.earlier ++ t.next) ≤ length before = omega (arith, length-append p.earlier t.next, t.room, place p) in (
      t.some,
      omega (arith, t.left_over.inside, ap length p.rest_is, length-drop p.at text, p.left.inside),
      record {
        at = p.at + moved.taken;
        earlier = p.earlier ++ t.next;
        room = room;
        left = t.left_over;
        done = put_after p.earlier t.next before out _ end _ p.done room t.placed;
        rest_is = rest_on text rest p.at moved.taken p.rest_is;
      },
    )

pub loop-rest-init : goal.loop-rest-init
loop-rest-init c =
    let a = c.args in
    record {
      at = 0;
      earlier = [];
      room = omega arith;
      left = left_all a.route a.text.now (wide a.route _ (omega (arith, c.well_formed.1.0.0))) (whole_route a.route a.text.now c.requires.text_value);
      done = sym (put_fits [] a.out.now (omega arith));
      rest_is = refl;
    }

pub slice_bounds-move_record-count : goal.slice_bounds-move_record-count
slice_bounds-move_record-count c = (put_inside _ _ _ _ c.loop-rest.invariant.done).0

pub slice_bounds-move_record-start : goal.slice_bounds-move_record-start
slice_bounds-move_record-start c = (put_inside _ _ _ _ c.loop-rest.invariant.done).0

pub unwrap-moved-requires : goal.unwrap-moved-requires
unwrap-moved-requires c =
    is_moved c.move_record.new.out c.move_record.result c.loop-rest.invariant (omega (arith, c.well_formed.1.0.0)) (some_left _ c.loop-rest-test.ensures) c.requires.text_value
    c.requires.text_in_bounds c.move_record.ensures

pub slice_bounds-rest-count : goal.slice_bounds-rest-count
slice_bounds-rest-count c =
    let u = c.unwrap-moved in
    let one = one_more c.move_record.new.out c.move_record.result u.result c.loop-rest.invariant (omega (arith, c.well_formed.1.0.0)) (some_left _ c.loop-rest-test.ensures)
    c.requires.text_value c.move_record.ensures u.ensures in
    one.1

pub slice_bounds-rest-start : goal.slice_bounds-rest-start
slice_bounds-rest-start c =
    let u = c.unwrap-moved in
    let one = one_more c.move_record.new.out c.move_record.result u.result c.loop-rest.invariant (omega (arith, c.well_formed.1.0.0)) (some_left _ c.loop-rest-test.ensures)
    c.requires.text_value c.move_record.ensures u.ensures in
    one.1

pub overflow_add-end : goal.overflow_add-end
overflow_add-end c =
    let u = c.unwrap-moved in
    let one = one_more c.move_record.new.out c.move_record.result u.result c.loop-rest.invariant (omega (arith, c.well_formed.1.0.0)) (some_left _ c.loop-rest-test.ensures)
    c.requires.text_value c.move_record.ensures u.ensures in
    let there = put_inside _ _ _ _ one.2.done in
    record { fits = omega (arith, there.0, there.1, c.well_formed.1.1.0.0) }

pub loop-rest-smaller : goal.loop-rest-smaller
loop-rest-smaller c =
    let u = c.unwrap-moved in
    let one = one_more c.move_record.new.out c.move_record.result u.result c.loop-rest.invariant (omega (arith, c.well_formed.1.0.0)) (some_left _ c.loop-rest-test.ensures)
    c.requires.text_value c.move_record.ensures u.ensures in
    let m = u.result in
    omega (arith, one.0, one.1, length-take (length c.loop-rest.rest.now - m.taken) (drop m.taken c.loop-rest.rest.now), length-drop m.taken c.loop-rest.rest.now)

pub loop-rest-preserved : goal.loop-rest-preserved
loop-rest-preserved c =
    let u = c.unwrap-moved in
    let one = one_more c.move_record.new.out c.move_record.result u.result c.loop-rest.invariant (omega (arith, c.well_formed.1.0.0)) (some_left _ c.loop-rest-test.ensures)
    c.requires.text_value c.move_record.ensures u.ensures in
    one.2

pub returns : goal.returns
returns c =
    let a = c.args in
    let l = c.loop-rest in
    let i = l.invariant in
    let none = eqb-true (length l.rest.now) 0 (sym c.loop-rest-test.ensures) in
    let end : length a.text.now ≤ i.at = omega (arith, none, ap length i.rest_is, length-drop i.at a.text.now) in
    let all = left_none a.route a.text.now (wide a.route _ (omega (arith, c.well_formed.1.0.0))) i.at l.number i.earlier i.left end in
    (put_count _ _ _ _ i.done i.room).1 ∙ ap (λ (w : Whole). text_in w ++ drop (length (text_in w)) a.out.now) (sym all)
