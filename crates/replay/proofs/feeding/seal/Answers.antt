-- `replay::feeding::seal` meets its contract.
use mathlib.Core.Path.{ap, ◌∙◌}
use Prim.Native.Nat.{◌≤◌}
use lib.ListN.{length}
use Rattle.stream.specs.declared.Direction.TheVariants.{Sealing}
use Rattle.stream.specs.Calls.{text_call}
use Rattle.std.proofs.lemmas.List.{take-replicate}
use Rattle.replay.specs.Feeding.{sealed_piece}
use Rattle.replay.proofs.Places.{written_places, text_fills}
use Rattle.replay.proofs.feeding.seal.Goals as goal

pub returns : goal.returns
unfolding sealed_piece
returns c =
    let x = c.args.input.now in
    let few : length x ≤ 256 = c.requires in
    c.with_out.ensures
    ∙ written_places c.seal-outcome.result _ _ (length x) few (text_fills c.args.stream x) (c.seal-outcome.ensures ∙ ap (text_call Sealing c.args.stream x) (take-replicate (length x) 256 0 few))
