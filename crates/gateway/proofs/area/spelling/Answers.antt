-- `gateway::area::spelling` meets its contract.
use mathlib.Core.Path.{◌≡◌, ap, ap₂, ◌∙◌}
use mathlib.Core.List.{List}
use Prim.Native.Nat.{ℕ}
use lib.ListN.{length}
use borrow.Author.Rules.{rules}
use Rattle.permutation.specs.Strings.{string_of_words}
use Rattle.gateway.specs.Laying.{laid}
use Rattle.gateway.proofs.Spelling.{laid_spelling}
use Rattle.gateway.proofs.area.spelling.Goals as goal

pub returns : goal.returns
returns c =
    let state = c.args.state in
    let words_length : (length state.words ≡ 5) = search rules in
    let key_length : (length state.key ≡ 16) = search rules in
    c.put_numbers-2.ensures
    ∙ ap₂ (λ (x n : List ℕ). laid x 56 (string_of_words n))
    (c.put.ensures ∙ ap (λ (x : List ℕ). laid x 40 state.key) c.put_numbers.ensures)
    c.numbers_of.ensures
    ∙ laid_spelling state words_length key_length _ (search rules)
