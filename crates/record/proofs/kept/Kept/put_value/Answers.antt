-- `record::kept::Kept::put_value` meets its contract.
use mathlib.Core.Path.{sym, ap, ◌∙◌}
use mathlib.Core.List.{List, []}
use Prim.Native.Nat.{ℕ}
use native.Mathlib.Omega.{arith}
use Rattle.digits.specs.Hex.{hex_in}
use Rattle.digits.specs.Numbers.{numeral}
use Rattle.digits.specs.Room.{put}
use Rattle.digits.proofs.Room.{put_fits}
use Rattle.record.specs.Form.{number_of, held, is_field}
use Rattle.record.specs.Text.{value_text}
use Rattle.record.proofs.Fields.{field_most}
use Rattle.record.proofs.Rules.{bytes_field}
use Rattle.record.proofs.kept.Kept.put_value.Goals as goal

pub held-requires : goal.held-requires
held-requires c =
    let p = c.args.self.now in
    let kind = sym c.value.ensures ∙ c.in-Bytes.is in
    field_most _ (ap is_field c.field_at.ensures ∙ bytes_field (number_of p.part) p.entry.now _ _ _ kind p.keeps)

pub returns-in-Fixed : goal.returns-in-Fixed
unfolding value_text
returns-in-Fixed c = rw (sym c.value.ensures ∙ c.in-Fixed.is) (sym (put_fits [] c.args.out.now (omega arith)))

pub returns-in-Number : goal.returns-in-Number
unfolding value_text
returns-in-Number c =
    rw (sym c.value.ensures ∙ c.in-Number.is) (c.put_number.ensures ∙ ap (λ (n : ℕ). put (numeral n) c.args.out.now) c.number_at.ensures)

pub returns-in-Bytes : goal.returns-in-Bytes
unfolding value_text
returns-in-Bytes c =
    let bytes = c.held.ensures ∙ ap held c.field_at.ensures in
    rw (sym c.value.ensures ∙ c.in-Bytes.is) (c.put_bytes.ensures ∙ ap (λ (x : List ℕ). put (hex_in c.in-Bytes.case x) c.args.out.now) bytes)
