-- `entry::form::count_name` meets its contract.
use mathlib.Core.Path.{sym, ap, ap₂, ◌∙◌}
use mathlib.Core.List.{◌++◌}
use native.Mathlib.Omega.{arith}
use lib.ListN.{take, length-append}
use lib.Seq.{length-take-le, take-append_seam}
use borrow.Author.Rules.{rules}
use Rattle.digits.specs.Ascii.{ascii}
use Rattle.digits.specs.Numbers.{numeral}
use Rattle.digits.proofs.Room as room
use Rattle.lines.specs.Right.{named}
use Rattle.entry.proofs.Table.{few_digits}
use Rattle.entry.proofs.form.count_name.Goals as goal

pub slice_bounds-text-end : goal.slice_bounds-text-end
slice_bounds-text-end c = (room.put_inside _ _ _ _ c.put_count-size.ensures).0

pub slice_bounds-named-end : goal.slice_bounds-named-end
slice_bounds-named-end c =
    let p = c.put_count-size in
    sym (length-take-le p.result p.new.out (room.put_inside _ _ _ _ p.ensures).0)

pub returns : goal.returns
returns c =
    let p = c in
    let number = p.args.number in
    let text = ascii "Count = " ++ numeral number in
    let whole = room.put_count text _ _ _ p.put_count-size.ensures (omega (arith, length-append (ascii "Count = ") (numeral number), few_digits number (search rules))) in
    c.named.ensures ∙ ap named (ap₂ take whole.0 whole.1 ∙ take-append_seam text _)
