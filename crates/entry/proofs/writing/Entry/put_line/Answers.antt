-- `entry::writing::Entry::put_line` meets its contract.
use mathlib.Core.Path.{◌≡◌, sym, ap₂, ◌∙◌}
use mathlib.Core.List.{List}
use Prim.Native.Nat.{ℕ, ◌≤◌}
use native.Mathlib.Omega.{arith}
use borrow.Author.Rules.{rules}
use lib.ListN.{take}
use lib.Seq.{length-take-le, take-append_seam}
use Rattle.digits.specs.declared.hex.Case.TheVariants.{Upper}
use Rattle.digits.specs.Hex.{hex_in}
use Rattle.digits.specs.Room.{line_of, put}
use Rattle.digits.proofs.Room.{put_inside, put_count}
use Rattle.lines.specs.declared.kinds.Name.{Name}
use Rattle.lines.specs.Right.{named}
use Rattle.lines.proofs.Names.{Holds, named_holds}
use Rattle.entry.specs.Form.{number_of, largest_number, name, bytes_at, line_text}
use Rattle.entry.proofs.Table.{name_few}
use Rattle.entry.proofs.Bounds.{digits_few}
use Rattle.entry.proofs.writing.Entry.put_line.Goals as goal

-- the name is the line's
held_name : (number line : ℕ) (n : Name) → number ≤ largest_number → n ≡ named (name number line) → Holds (name number line) n
held_name number line n h e = named_holds (name number line) (omega (arith, name_few number h line)) n e

pub shared_ref_as_front-put_line : goal.shared_ref_as_front-put_line
shared_ref_as_front-put_line c =
    let a = c.args in
    let h : a.self.now.number ≤ largest_number = search rules in
    omega (arith, (held_name a.self.now.number (number_of a.part) _ h c.name-name.ensures).size_is, name_few a.self.now.number h (number_of a.part))

pub slice_bounds-value-end : goal.slice_bounds-value-end
slice_bounds-value-end c = (put_inside _ _ _ _ c.put_value-count.ensures).0

pub slice_bounds-put_line-end-2 : goal.slice_bounds-put_line-end-2
slice_bounds-put_line-end-2 c =
    let v = c.put_value-count in sym (length-take-le v.result v.new.out (put_inside _ _ _ _ v.ensures).0)

pub returns : goal.returns
unfolding line_text
returns c =
    let a = c.args in
    let held = held_name a.self.now.number (number_of a.part) _ (search rules) c.name-name.ensures in
    let value = hex_in Upper (bytes_at (number_of a.part) a.self.now.content) in
    let whole = put_count value _ _ _ c.put_value-count.ensures (digits_few a.self.now.content a.self.now.in_form (number_of a.part)) in
    c.put_line.ensures ∙ ap₂ (λ (x y : List ℕ). put (line_of x y) a.out.now) held.text_is (ap₂ take whole.0 whole.1 ∙ take-append_seam value _)
