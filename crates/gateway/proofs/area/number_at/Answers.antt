-- `gateway::area::number_at` meets its contract.
use mathlib.Core.Path.{◌≡◌, sym, ap, ◌∙◌, subst}
use mathlib.Core.List.{List}
use Prim.Native.Nat.{ℕ, ◌<◌}
use lib.ListN.{length, get_or}
use borrow.Author.Rules.{rules}
use Rattle.std.proofs.lemmas.Nat.{be_bytes_8}
use Rattle.permutation.specs.Strings.{value_of}
use Rattle.permutation.proofs.Strings.{bytes_take, bytes_drop, number_bytes}
use Rattle.gateway.proofs.Numbers.{bytes_eight}
use Rattle.gateway.proofs.area.number_at.Goals as goal

pub returns : goal.returns
returns c =
    let n = c.from_be_bytes.result in
    let long : length c.part.result ≡ 8 = search rules in
    let small = (bytes_take 8 (bytes_drop c.args.at (record { at = c.fits-area }))).at in
    let each = subst (λ (x : List ℕ). (i : ℕ) → get_or x i 0 < 256) (sym c.part.ensures) small in
    let written = be_bytes_8 c.part.result n long each c.from_be_bytes.ensures in
    sym (number_bytes 8 n c.from_be_bytes.type_inv) ∙ ap value_of (sym (bytes_eight n) ∙ written ∙ c.part.ensures)
