-- `entry::form::put_count` meets its contract.
use mathlib.Core.Path.{◌≡◌}
use Prim.Native.Nat.{◌+◌}
use mathlib.Core.List.{◌++◌}
use native.Mathlib.Omega.{arith}
use lib.ListN.{length-append}
use borrow.Author.Rules.{rules}
use Rattle.digits.specs.Ascii.{ascii}
use Rattle.digits.specs.Numbers.{numeral}
use Rattle.digits.specs.Room.{laid, put}
use Rattle.digits.proofs.Room.{put_inside, put_after, behind}
use Rattle.entry.proofs.Table.{few_digits}
use Rattle.entry.proofs.form.put_count.Goals as goal

pub slice_bounds-put_number-count : goal.slice_bounds-put_number-count
slice_bounds-put_number-count c = (put_inside _ _ _ _ c.put_text-count.ensures).0

pub slice_bounds-put_number-start : goal.slice_bounds-put_number-start
slice_bounds-put_number-start c = (put_inside _ _ _ _ c.put_text-count.ensures).0

pub overflow_add-result : goal.overflow_add-result
overflow_add-result c =
    let both-put : (let n = c.put_text-count in
    let a = c.args in
    laid (n.result + c.put_number.result) (behind n.result n.new.out c.put_number.new.out) ≡ put (ascii "Count = " ++ numeral a.number) a.out.now) = let s = c in
    let a = s.args in
    put_after (ascii "Count = ") (numeral a.number) a.out.now _ _ _ _ c.put_text-count.ensures
    (omega (arith, length-append (ascii "Count = ") (numeral a.number), few_digits a.number (search rules), s.requires)) c.put_number.ensures in
    let p = c in
    let h = put_inside _ _ _ _ both-put in
    record { fits = omega (arith, h.0, h.1, p.well_formed.1.0.0) }

pub returns : goal.returns
returns c =
    let both-put : (let n = c.put_text-count in
    let a = c.args in
    laid (n.result + c.put_number.result) (behind n.result n.new.out c.put_number.new.out) ≡ put (ascii "Count = " ++ numeral a.number) a.out.now) = let s = c in
    let a = s.args in
    put_after (ascii "Count = ") (numeral a.number) a.out.now _ _ _ _ c.put_text-count.ensures
    (omega (arith, length-append (ascii "Count = ") (numeral a.number), few_digits a.number (search rules), s.requires)) c.put_number.ensures in
    both-put
