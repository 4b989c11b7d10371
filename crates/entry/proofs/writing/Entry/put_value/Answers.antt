-- `entry::writing::Entry::put_value` meets its contract.
use mathlib.Core.Path.{◌≡◌, sym, ap, ap₂, ◌∙◌}
use mathlib.Core.List.{List, ◌++◌}
use Prim.Native.Nat.{ℕ, ◌+◌, ◌-◌, ◌≤◌}
use native.Mathlib.Omega.{arith}
use lib.ListN.{length, take, drop}
use Rattle.digits.specs.declared.hex.Case.TheVariants.{Upper}
use Rattle.digits.specs.Hex.{hex_in}
use Rattle.digits.specs.Room.{laid, put}
use Rattle.digits.proofs.Room.{put_inside, behind, put_after}
use Rattle.digits.proofs.Spelling.{hex_append}
use Rattle.record.specs.declared.field.Field.{Field}
use Rattle.record.specs.declared.form.Form.TheVariants.{One}
use Rattle.record.specs.declared.form.Record.{Record}
use Rattle.record.specs.Form.{held, broken}
use Rattle.entry.specs.Form.{number_of, bytes_at}
use Rattle.entry.proofs.Bounds.{first_at, second_at, bytes_two, first_few, second_few, digits_few}
use Rattle.entry.proofs.writing.Entry.put_value.Goals as goal

-- the digits of the line are put
both-put : (line : ℕ) (r : Record) (out between after : List ℕ) (m n : ℕ) (first second : Field) → broken One r ≡ 0 → 544 ≤ length out
    → first ≡ first_at line r → second ≡ second_at line r → laid m between ≡ put (hex_in Upper (held first)) out
    → laid n after ≡ put (hex_in Upper (held second)) (take (length between - m) (drop m between))
    → laid (m + n) (behind m between after) ≡ put (hex_in Upper (bytes_at line r)) out
both-put line r out between after m n first second in_form room is-first is-second put-first put-second =
    let x = hex_in Upper (held first) in
    let y = hex_in Upper (held second) in
    let parts : x ++ y ≡ hex_in Upper (bytes_at line r) =
    sym (hex_append Upper (held first) (held second))
    ∙ ap (hex_in Upper) (ap₂ (λ (f s : Field). held f ++ held s) is-first is-second ∙ sym (bytes_two line r)) in
    put_after x y out between after m n put-first (omega (arith, ap length parts, digits_few r in_form line, room)) put-second
    ∙ ap (λ (z : List ℕ). put z out) parts

pub put_field-first-requires : goal.put_field-first-requires
put_field-first-requires c =
    omega (arith, ap (λ (x : Field). x.size) c.first_field.ensures, first_few c.args.self.now.content c.args.self.now.in_form (number_of c.args.part))

pub slice_bounds-put_field-count : goal.slice_bounds-put_field-count
slice_bounds-put_field-count c = (put_inside _ _ _ _ c.put_field-first.ensures).0

pub slice_bounds-put_field-start : goal.slice_bounds-put_field-start
slice_bounds-put_field-start c = (put_inside _ _ _ _ c.put_field-first.ensures).0

pub put_field-requires : goal.put_field-requires
put_field-requires c =
    omega (arith, ap (λ (x : Field). x.size) c.second_field.ensures, second_few c.args.self.now.content c.args.self.now.in_form (number_of c.args.part))

pub returns : goal.returns
returns c =
    let a = c.args in
    both-put (number_of a.part) a.self.now.content a.out.now _ _ _ _ _ _ a.self.now.in_form c.requires c.first_field.ensures c.second_field.ensures c.put_field-first.ensures c.put_field.ensures

pub overflow_add-result : goal.overflow_add-result
overflow_add-result c =
    let a = c.args in
    let done = both-put (number_of a.part) a.self.now.content a.out.now _ _ _ _ _ _ a.self.now.in_form c.requires c.first_field.ensures c.second_field.ensures c.put_field-first.ensures c.put_field.ensures in
    let h = put_inside _ _ _ _ done in
    record { fits = omega (arith, h.0, h.1, c.well_formed.1.1.0.0) }
