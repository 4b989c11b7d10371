-- `record::writing::text_length` meets its contract.
use mathlib.Core.Path.{◌≡◌, ap, ◌∙◌}
use Prim.Native.Nat.{ℕ, ◌+◌, ◌≤◌}
use native.Mathlib.Omega.{arith}
use lib.ListN.{length}
use Rattle.record.specs.declared.form.Form.{Form}
use Rattle.record.specs.declared.form.Record.{Record}
use Rattle.record.specs.Form.{lines_in, keeps, broken}
use Rattle.record.specs.Text.{line_text, text_of}
use Rattle.record.proofs.Chains.{text_left, text_all, text_more, in_form_rule}
use Rattle.record.proofs.Bounds.{text_most, few_bytes}
use Rattle.record.proofs.writing.text_length.Goals as goal
use Rattle.record.proofs.writing.text_length.Goals.{After-line_length-size}

-- a record in form has at most 1,706 bytes
few : (form : Form) (r : Record) → broken form r ≡ 0 → length (text_of form r) ≤ 1_706
unfolding text_of
few form r e = omega (arith, text_most form (lines_in form) (omega arith) r (in_form_rule form r e), few_bytes form)

-- a line has its bytes, and those behind it theirs
counted : (c : After-line_length-size) → let a = c.args in
    c.loop-line.size + c.line_length-size.result + length (text_left a.form (c.loop-line.line + 1) a.entry.now) ≡ length (text_of a.form a.entry.now)
counted c =
    let a = c.args in
    omega (
      arith,
      c.line_length-size.ensures ∙ ap (λ (part : ℕ). length (line_text part a.entry.now)) c.part_at.ensures,
      text_more a.form a.entry.now c.loop-line.line (omega (arith, c.lines-line-end.ensures)),
      c.loop-line.invariant,
    )

pub loop-line-init : goal.loop-line-init
loop-line-init c = omega (arith, ap length (text_all c.args.form c.args.entry.now))

pub invariant_of-kept : goal.invariant_of-kept
invariant_of-kept c =
    let a = c.args in
    let rule = in_form_rule a.form a.entry.now c.requires c.loop-line.line (omega arith) (omega (arith, c.lines-line-end.ensures)) in
    record { keeps = ap (λ (part : ℕ). keeps part a.entry.now) c.part_at.ensures ∙ rule }

pub overflow_add-size : goal.overflow_add-size
overflow_add-size c = record { fits = omega (arith, counted (goal.at.overflow_add-size c).After-line_length-size, few c.args.form c.args.entry.now c.requires) }

pub loop-line-preserved : goal.loop-line-preserved
loop-line-preserved c = counted (goal.at.loop-line-preserved c).After-line_length-size
