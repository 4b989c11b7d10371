-- `replay::feeding::finish` meets its contract.
use mathlib.Core.Path.{sym, ap, ◌∙◌, subst}
use Prim.Native.Nat.{ℕ, ◌≤◌}
use native.Mathlib.Omega.{arith}
use lib.Seq.{length-take-le}
use Rattle.sets.proofs.Rows.{row_sizes}
use Rattle.permutation.specs.Strings.{zeros}
use Rattle.stream.specs.declared.Direction.TheVariants.{Sealing}
use Rattle.stream.specs.Calls.{finish_call}
use Rattle.std.proofs.lemmas.List.{take-replicate}
use Rattle.replay.specs.Feeding.{written, finished, in_places}
use Rattle.replay.proofs.Places.{Fills, written_places, finish_fills}
use Rattle.replay.proofs.feeding.finish.Goals as goal

pub slice_bounds-tag-end : goal.slice_bounds-tag-end
slice_bounds-tag-end c = omega (arith, c.key_length-size.ensures, (row_sizes c.args.stream.set).key)

pub slice_bounds-finish_sealing-end : goal.slice_bounds-finish_sealing-end
slice_bounds-finish_sealing-end c = sym (length-take-le c.key_length-size.result (zeros 256) (omega (arith, c.key_length-size.ensures, (row_sizes c.args.stream.set).key)))

pub returns : goal.returns
unfolding finished
returns c =
    let state = c.args.stream in
    let key = c.key_length-size.ensures in
    let n = c.key_length-size.result in
    let few : c.key_length-size.result ≤ 256 = omega (arith, key, (row_sizes state.set).key) in
    c.with_out.ensures
    ∙ written_places c.finish_sealing-outcome.result _ _ n few
    (subst (λ (k : ℕ). Fills (finish_call Sealing state (zeros k)) k) (sym key) (finish_fills state c.well_formed.0.1.1.1.1.1.1.0.1.0.1))
    (c.finish_sealing-outcome.ensures ∙ ap (finish_call Sealing state) (take-replicate n 256 0 few))
    ∙ ap (λ (k : ℕ). in_places (written (finish_call Sealing state (zeros k)))) key
