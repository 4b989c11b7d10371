-- `lines::step::bytes_step` meets its contract.
use Rattle.std.proofs.Common.{arith, ◌≡◌, true, sym, ◌∙◌, ◌/◌}
use Rattle.std.specs.Prelude.{ltb}
use Rattle.std.proofs.lemmas.Bool.{lt-ltb}
use Rattle.digits.specs.Hex.{digit_in, is_value}
use Rattle.lines.specs.Steps.{value_step}
use Rattle.lines.proofs.step.bytes_step.Goals as goal

pub returns : goal.returns
unfolding value_step
returns c =
    let a = c.args in
    let digit : is_value (digit_in a.case a.character) ≡ true = sym c.is_digit.ensures ∙ c.if-not-is_digit.false in
    let few : ltb (a.state.digits / 2) a.most ≡ true = lt-ltb (a.state.digits / 2) a.most (omega (arith, c.if-from-state.false, c.from.ensures)) in
    rw (digit, few)
