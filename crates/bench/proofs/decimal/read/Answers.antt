use Rattle.std.proofs.Common.{◌≡◌, Some, None, Option, ℕ, ◌+◌, ◌<◌, arith, length, List, [], ◌∷◌, drop, get_or, refl, sym, ap, ◌∙◌}
use Rattle.std.proofs.lemmas.List.{at_drop_more}
use Rattle.bench.specs.Decimal.{with_digit, read_from, decimal_of}
use Rattle.bench.proofs.decimal.read.Goals as goal

-- none stays none
stays : (text : List ℕ) → read_from None text ≡ None
stays [] = refl
stays (character ∷ text) = stays text

-- where one character makes a number none, the text has none
none_at : (text : List ℕ) (number i : ℕ) → read_from (Some number) (drop i text) ≡ read_from (Some 0) text → i < length text
    → with_digit (Some number) (get_or text i 0) ≡ None → None ≡ decimal_of text
none_at [] number i is below none = absurd (omega arith)
none_at (character ∷ text) number i is below none =
    let left = drop (i + 1) (character ∷ text) in
    sym (sym is ∙ at_drop_more (read_from (Some number)) (character ∷ text) i 0 below ∙ ap (λ (value : Option ℕ). read_from value left) none ∙ stays left)

pub returns-in_err-number : goal.returns-in_err-number
returns-in_err-number c = rw c.from_residual.ensures (none_at c.args.text.now c.loop-character.number c.loop-character.character-index c.loop-character.invariant (omega arith) (sym c.in_err-number.ensures))
