-- `record::kept::Kept::line_length` meets its contract.
use mathlib.Core.Path.{◌≡◌}
use Prim.Native.Nat.{◌+◌, ◌≤◌}
use native.Mathlib.Omega.{arith}
use lib.ListN.{length}
use Rattle.record.specs.Form.{number_of}
use Rattle.record.specs.Text.{line_text}
use Rattle.record.proofs.Names.{name_sizes, held_name}
use Rattle.record.proofs.Lines.{line_length}
use Rattle.record.proofs.Bounds.{value_most}
use Rattle.record.proofs.kept.Kept.line_length.Goals as goal
use Rattle.record.proofs.kept.Kept.line_length.Goals.{After-value_length}

-- the name, the value and the line feed are the line, and few
pieces : (c : After-value_length) → let p = c.args.self.now in
    (c.name.result.size + c.value_length.result + 1 ≡ length (line_text (number_of p.part) p.entry.now)) × (c.name.result.size + c.value_length.result + 1 ≤ 521)
pieces c =
    let p = c.args.self.now in
    let name = (held_name (number_of p.part) c.name.result c.name.ensures).size_is in
    let value = c.value_length.ensures in
    (omega (arith, name, value, line_length (number_of p.part) p.entry.now), omega (arith, name, value, (name_sizes (number_of p.part)).1, value_most (number_of p.part) p.entry.now p.keeps))

pub overflow_add-result : goal.overflow_add-result
overflow_add-result c = record { fits = omega (arith, pieces (goal.at.overflow_add-result c).After-value_length) }

pub overflow_add-result-2 : goal.overflow_add-result-2
overflow_add-result-2 c = record { fits = omega (arith, pieces (goal.at.overflow_add-result-2 c).After-value_length) }

pub returns : goal.returns
returns c = omega (arith, pieces (goal.at.returns c).After-value_length)
