-- `gateway::area::put` meets its contract.
use mathlib.Core.Path.{sym, ap, ◌∙◌}
use mathlib.Core.List.{List, ◌++◌}
use Prim.Native.Nat.{ℕ, ◌+◌, ◌-◌}
use native.Mathlib.Omega.{arith}
use lib.ListN.{length, take}
use borrow.Rule.Slice.PartMut.{put_mid, Post-is}
use Rattle.gateway.proofs.Laying.{laid_is}
use Rattle.gateway.proofs.area.put.Goals as goal

pub returns : goal.returns
returns c =
    let a = c.args in
    ap (put_mid a.at (a.at + length a.bytes.now - a.at) a.area.now) c.copy_from_slice.ensures.after
    ∙ ap (λ (x : List ℕ). take a.at a.area.now ++ (a.bytes.now ++ x)) (Post-is a.at (a.at + length a.bytes.now) a.area.now (omega arith))
    ∙ sym (laid_is a.area.now a.at a.bytes.now (omega arith))
