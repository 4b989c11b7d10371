-- `bench::decimal::read` meets its contract. The loop's invariant: what was read, and from there the characters left, is what all of them say.
use mathlib.Core.Path.{◌≡◌}
use lib.ListN.{drop}
use Rattle.std.proofs.Common.{Some}
use Rattle.bench.specs.Decimal.{read_from}
use Rattle.bench.proofs.decimal.read.Given as goal

abbrev pub invariant-loop-character : goal.invariant-loop-character
invariant-loop-character l = read_from (Some l.number) (drop l.character-index l.text) ≡ read_from (Some 0) l.text
