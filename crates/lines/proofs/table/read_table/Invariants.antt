-- `lines::table::read_table` meets its contract. The loop's invariant: the lines left decide. Its measure is their number.
use Rattle.std.proofs.Common.{◌≡◌, ◌+◌, ◌-◌, ◌≤◌, length}
use Rattle.lines.specs.Tables.{lines_from}
use Rattle.lines.proofs.table.read_table.Given as goal

abbrev pub invariant-loop-line : goal.invariant-loop-line
invariant-loop-line g l =
    let m = g.T.Table in
    let from = lines_from (m.read_at l.table) (m.given l.table) in
    let count = m.count l.table in
    (l.line ≤ count) × (l.taken ≤ length l.text) × (from (count - l.line) (l.line + 1) l.taken l.content l.text ≡ from count 1 0 (m.first l.table) l.text)

abbrev pub decreases-loop-line : goal.decreases-loop-line
decreases-loop-line g l = g.T.Table.count l.table - l.line
