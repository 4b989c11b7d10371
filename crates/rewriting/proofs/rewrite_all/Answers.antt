-- `rewriting::rewrite_all` is safe and ends.
use Rattle.std.proofs.Common.{◌≤◌, length, sym, ap, ◌∙◌, arith}
use Rattle.record.specs.Calls.{Reading, reading_of, read_as}
use Rattle.record.proofs.Any.{any_inside}
use Rattle.rewriting.proofs.rewrite_all.Goals as goal
use Rattle.rewriting.proofs.rewrite_all.Goals.{In-Ok}

-- a record that is read takes a byte or more, and no more than there are
taken : (c : In-Ok) → (1 ≤ c.in-Ok.reading.taken) × (c.in-Ok.reading.taken ≤ length c.loop-rest.rest.now)
unfolding read_as
taken c =
    let read = sym c.read_any.ensures ∙ ap reading_of c.in-Ok.is in
    let inside = any_inside c.loop-rest.rest.now (ap (λ (r : Reading). r.answer) read) in
    let size = ap (λ (r : Reading). r.taken) read in
    (omega (arith, inside.0, size), omega (arith, inside.1, size))

pub slice_bounds-rest-count : goal.slice_bounds-rest-count
slice_bounds-rest-count c = (taken (goal.at.slice_bounds-rest-count c).In-Ok).1

pub slice_bounds-rest-start : goal.slice_bounds-rest-start
slice_bounds-rest-start c = omega (arith, (taken (goal.at.slice_bounds-rest-start c).In-Ok).1)

pub loop-rest-smaller : goal.loop-rest-smaller
loop-rest-smaller c = let t = taken (goal.at.loop-rest-smaller c).In-Ok in omega (arith, t.0, t.1)
