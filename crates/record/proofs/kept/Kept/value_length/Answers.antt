-- `record::kept::Kept::value_length` meets its contract.
use mathlib.Core.Bool.{true}
use mathlib.Core.Path.{◌≡◌, sym, ap, ◌∙◌}
use native.Mathlib.Omega.{arith}
use lib.ListN.{length}
use Rattle.digits.specs.Numbers.{places}
use Rattle.digits.proofs.Spelling.{length_hex}
use Rattle.digits.proofs.Numerals.{length_numeral}
use Rattle.record.specs.Form.{number_of, held, is_field, number_at, field_at}
use Rattle.record.specs.Text.{value_text}
use Rattle.record.proofs.Fields.{field_most}
use Rattle.record.proofs.Rules.{bytes_field}
use Rattle.record.proofs.kept.Kept.value_length.Goals as goal
use Rattle.record.proofs.kept.Kept.value_length.Goals.{After-field_at}

-- the field of a part of bytes is in form
in-form : (c : After-field_at) → is_field c.field_at.result.now ≡ true
in-form c =
    let p = c.args.self.now in
    ap is_field c.field_at.ensures ∙ bytes_field (number_of p.part) p.entry.now _ _ _ (sym c.value.ensures ∙ c.in-Bytes.is) p.keeps

pub held-requires : goal.held-requires
held-requires c = field_most _ (in-form (goal.at.held-requires c).After-field_at)

pub returns-in-Fixed : goal.returns-in-Fixed
unfolding value_text
returns-in-Fixed c = rw (sym c.value.ensures ∙ c.in-Fixed.is)

pub returns-in-Number : goal.returns-in-Number
unfolding value_text
returns-in-Number c =
    let p = c.args.self.now in
    let size = c.number_length.ensures ∙ ap places c.number_at.ensures in
    rw (sym c.value.ensures ∙ c.in-Number.is) (size ∙ sym (length_numeral (number_at (number_of p.part) p.entry.now)))

pub returns-in-Bytes : goal.returns-in-Bytes
unfolding value_text
returns-in-Bytes c =
    let bytes = c.held.ensures ∙ ap held c.field_at.ensures in
    rw (sym c.value.ensures ∙ c.in-Bytes.is) (omega (arith, ap length bytes, length_hex c.in-Bytes.field-2 (held (field_at (number_of c.args.self.now.part) c.args.self.now.entry.now))))
