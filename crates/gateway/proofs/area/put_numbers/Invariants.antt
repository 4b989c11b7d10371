-- `gateway::area::put_numbers` meets its contract. The loop's invariant: the numbers that are left make of the area what all of them make of the first one.
use mathlib.Core.Path.{◌≡◌}
use Prim.Native.Nat.{◌+◌, ◌*◌}
use lib.ListN.{drop}
use Rattle.permutation.specs.Strings.{string_of_words}
use Rattle.gateway.specs.Laying.{laid}
use Rattle.gateway.proofs.area.put_numbers.Given as goal

abbrev pub invariant-loop-i : goal.invariant-loop-i
invariant-loop-i l = laid l.area (l.at + 8 * l.i) (string_of_words (drop l.i l.numbers)) ≡ laid l.initial.area l.at (string_of_words l.numbers)
