-- `sponge::masked_end` meets its contract. The loop's invariant: the first i bytes are the masked end's, and zeros follow.
use mathlib.Core.Path.{◌≡◌}
use mathlib.Core.List.{List, ◌++◌}
use Prim.Native.Nat.{ℕ, ◌-◌}
use lib.ListN.{take, drop}
use Rattle.permutation.specs.Strings.{string_of_words, zeros}
use Rattle.ascon.specs.Mode.{◌⊕◌}
use Rattle.sponge.proofs.masked_end.Given as goal

-- the masked end
abbrev pub end : List ℕ → List ℕ → ℕ → List ℕ
end w key n = drop (40 - n) (string_of_words w) ⊕ take n key

abbrev pub invariant-loop-i : goal.invariant-loop-i
invariant-loop-i l = l.tag ≡ take l.i (end l.w l.key l.n) ++ zeros (16 - l.i)
