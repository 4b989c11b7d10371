-- `sponge::start` meets its contract.
use mathlib.Core.Path.{ap, ◌∙◌}
use mathlib.Core.List.{List, [], ◌∷◌}
use Prim.Native.Nat.{ℕ, ◌-◌, ◌*◌}
use lib.ListN.{take}
use borrow.Author.Rules.{rules}
use Rattle.permutation.specs.declared.Run.TheVariants.{Twelve}
use Rattle.permutation.specs.Runs.{permute_words}
use Rattle.ascon.specs.Sets.{row_of}
use Rattle.sponge.specs.Words.{with_bytes}
use Rattle.sets.proofs.Rows.{row_fits, row_sizes}
use Rattle.sponge.proofs.Ends.{Sixteen, start_view}
use Rattle.sponge.proofs.start.Goals as goal

pub returns : goal.returns
returns c =
    let a = c.args in
    let row = row_of a.set in
    let n = c.key_length-n.result in
    let key : Sixteen a.key = record { size = search rules; bytes = record { at = λ i. search rules } } in
    let nonce : Sixteen a.nonce = record { size = search rules; bytes = record { at = λ i. search rules } } in
    c.put_key-3.ensures
    ∙ ap (λ (w : List ℕ). with_bytes w (40 - n) (take n a.key))
    (c.permute_words.ensures
    ∙ ap (permute_words Twelve)
    (c.put_key-2.ensures
    ∙ ap (λ (w : List ℕ). with_bytes w (40 - n) (take n a.nonce))
    (c.put_key.ensures
    ∙ ap (λ (x : ℕ). with_bytes (x ∷ 0 ∷ 0 ∷ 0 ∷ 0 ∷ []) (40 - 2 * n) (take n a.key)) c.first_word.ensures)))
    ∙ rw c.key_length-n.ensures (start_view row (row_sizes a.set) (row_fits a.set) a.key a.nonce key nonce)
