-- `gateway::area::state_in` meets its contract.
use mathlib.Core.Path.{◌≡◌, ap}
use mathlib.Core.Bool.{true}
use native.Mathlib.Omega.{arith}
use Rattle.std.proofs.Common.{Some}
use Rattle.std.proofs.lemmas.Bool.Decides.{nat_tests}
use Rattle.gateway.specs.Spelling.{number_at, direction_of, phase_of, is_spelling, state_in}
use Rattle.gateway.proofs.area.state_in.Goals as goal

pub returns-in_err-direction : goal.returns-in_err-direction
unfolding is_spelling
returns-in_err-direction c = grind (arith, nat_tests)

pub returns-in_err-phase : goal.returns-in_err-phase
unfolding is_spelling
returns-in_err-phase c = grind (arith, nat_tests)

spelled : (c : goal.After-number_at-7) → (is_spelling c.args.area.now ≡ true) × (c.in_ok-direction.direction ≡ direction_of (number_at c.args.area.now 64)) × (c.in_ok-phase.phase ≡ phase_of (number_at c.args.area.now 72))
unfolding is_spelling
spelled c = grind (arith, nat_tests)

pub returns : goal.returns
unfolding state_in
returns c =
    let is = spelled c in
    rw is.0
    (ap Some (λ j. record {
      words = c.words_in.ensures j;
      set = c.number_at-3.ensures j;
      direction = is.1 j;
      phase = is.2 j;
      key = c.part.ensures j;
      ad = c.number_at-4.ensures j;
      text = c.number_at-5.ensures j;
      place = c.number_at-6.ensures j;
      limit = c.number_at-7.ensures j;
    }))
