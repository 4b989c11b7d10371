-- `sponge::put_key` meets its contract. The loop's invariant: the bytes that are left take the words to what all of them make of the first ones.
use Rattle.std.proofs.Common.{◌≡◌, ◌+◌, drop, take}
use Rattle.sponge.specs.Words.{with_bytes}
use Rattle.sponge.proofs.put_key.Given as goal

abbrev pub invariant-loop-i : goal.invariant-loop-i
invariant-loop-i l = with_bytes l.w (l.place + l.i) (drop l.i (take l.n l.fn.key)) ≡ with_bytes l.initial.w l.place (take l.n l.fn.key)
