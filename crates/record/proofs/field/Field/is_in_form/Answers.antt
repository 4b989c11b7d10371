-- `record::field::Field::is_in_form` meets its contract.
use Rattle.std.proofs.Common.{rules, ◌≡◌, Bool, ℕ, ◌-◌, List, length, drop, refl, ap, ◌∙◌, eqb, arith, length-drop, le-leb}
use Rattle.std.specs.Prelude.{All}
use Rattle.std.specs.Bool.{Decides}
use Rattle.std.proofs.lemmas.Bool.Decides.{same_from_decides, Decides-eqb, Decides-by_and}
use lib.Seq.{take_all}
use Rattle.permutation.specs.Strings.{zeros, same}
use Rattle.record.specs.Form.{is_field}
use Rattle.record.proofs.field.Field.is_in_form.Goals as goal

-- bytes of which each is 0 are zeros
only_zeros : (x : List ℕ) (r : Bool) → Decides r (All (λ b. b ≡ 0) x) → r ≡ same x (zeros (length x))
only_zeros x r h = same_from_decides r _ h (Decides-by_and (λ b. eqb b 0) (λ b. b ≡ 0) (λ y. same y (zeros (length y))) (λ b. Decides-eqb b 0) refl (λ _ _. refl) x)

pub returns-then-self-le256 : goal.returns-then-self-le256
unfolding is_field
returns-then-self-le256 c =
    let f = c.args.self.now in
    let rest : List ℕ = drop f.size f.bytes in
    let all : Decides c.all.result (All (λ b. b ≡ 0) c.iter.result.rest.now) = search rules in
    let from : c.iter.result.rest.now ≡ rest = c.iter.ensures.rest ∙ take_all (256 - f.size) rest (omega (arith, length-drop f.size f.bytes)) in
    let size : length rest ≡ 256 - f.size = omega (arith, length-drop f.size f.bytes) in
    rw (le-leb f.size 256 c.if-self-le256.true)
    (only_zeros _ _ all ∙ ap (λ (x : List ℕ). same x (zeros (length x))) from ∙ ap (λ (n : ℕ). same rest (zeros n)) size)
