-- `entry::writing::Entry::put_lines` meets its contract. The loop's invariant: the lines before stand in the place, and with those left they are the entry.
use mathlib.Core.Path.{◌≡◌}
use mathlib.Core.List.{List, ◌++◌}
use Prim.Native.Nat.{ℕ, ◌+◌, ◌-◌}
use Rattle.digits.specs.Room.{laid, put}
use Rattle.lines.specs.Texts.{text_from}
use Rattle.record.specs.declared.form.Record.{Record}
use Rattle.entry.specs.Form.{line_text, entry_text}
use Rattle.entry.proofs.writing.Entry.put_lines.Given as goal

-- what holds before a line is put
pub record Left (number : ℕ) (r : Record) (before out : List ℕ) (at line : ℕ) : Type 0 where
  pub earlier : List ℕ
  pub whole : earlier ++ text_from (line_text number) (8 - line) line r ≡ entry_text number r
  pub done : laid at out ≡ put earlier before

abbrev pub invariant-loop-part : goal.invariant-loop-part
invariant-loop-part l = Left l.self.number l.self.content l.initial.out l.out l.at (l.part-index + 1)
