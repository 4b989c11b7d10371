-- `record::kept::Kept::put_line` meets its contract.
use mathlib.Core.Path.{◌≡◌, sym, ap₂, ◌∙◌}
use mathlib.Core.List.{List}
use native.Mathlib.Omega.{arith}
use lib.ListN.{take}
use lib.Seq.{length-take-le, take-append_seam}
use Rattle.digits.specs.Room.{line_of, put}
use Rattle.digits.proofs.Room.{put_inside, put_count}
use Rattle.record.specs.Form.{number_of}
use Rattle.record.specs.Text.{value_text, line_text}
use Rattle.record.proofs.Names.{name_sizes, held_name}
use Rattle.record.proofs.Bounds.{value_most}
use Rattle.record.proofs.kept.Kept.put_line.Goals as goal

pub shared_ref_as_front-put_line : goal.shared_ref_as_front-put_line
shared_ref_as_front-put_line c = omega (arith, (held_name _ _ c.name-name.ensures).size_is, (name_sizes (number_of c.args.self.now.part)).1)

pub slice_bounds-value-end : goal.slice_bounds-value-end
slice_bounds-value-end c = (put_inside _ _ _ _ c.put_value-count.ensures).0

pub slice_bounds-put_line-end-2 : goal.slice_bounds-put_line-end-2
slice_bounds-put_line-end-2 c =
    let v = c.put_value-count in sym (length-take-le v.result v.new.out (put_inside _ _ _ _ v.ensures).0)

pub returns : goal.returns
unfolding line_text
returns c =
    let p = c.args.self.now in
    let value : List _ = value_text (number_of p.part) p.entry.now in
    let whole = put_count value _ _ _ c.put_value-count.ensures (value_most (number_of p.part) p.entry.now p.keeps) in
    let there : take c.put_value-count.result c.put_value-count.new.out ≡ value = ap₂ take whole.0 whole.1 ∙ take-append_seam value _ in
    c.put_line.ensures
    ∙ ap₂ (λ (x y : List _). put (line_of x y) c.args.out.now) (held_name (number_of p.part) c.name-name.result c.name-name.ensures).text_is there
