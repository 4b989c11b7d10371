-- `stream::Stream::finish_sealing` meets its contract.
use mathlib.Core.Path.{◌≡◌, ap, ◌∙◌}
use mathlib.Core.Bool.{true}
use Prim.Native.Nat.{ℕ, ◌+◌}
use native.Mathlib.Omega.{arith}
use lib.ListN.{length, take}
use Rattle.answers.specs.Numbers.{is_done}
use Rattle.answers.specs.declared.Answer.{Answer}
use Rattle.answers.specs.declared.Answer.TheVariants.{Done}
use Rattle.tags.proofs.Compared.{given_is}
use Rattle.sets.proofs.Rows.{row_sizes}
use Rattle.sets.proofs.Start.{ok_done, err_chosen}
use Rattle.stream.specs.declared.Direction.TheVariants.{Sealing}
use Rattle.stream.specs.declared.Outcome.{Outcome}
use Rattle.stream.specs.Calls.{refused, finish_test, own_tag, called, finish_call}
use Rattle.stream.proofs.Tests.{closing_bound, finish_passed}
use Rattle.stream.proofs.Stream.finish_sealing.Goals as goal

pub returns-in-Err : goal.returns-in-Err
unfolding finish_call
returns-in-Err c =
    let s = c.args.self in
    let tag = c.args.tag.now in
    ap (λ (r : Outcome). called r tag) c.refusal.ensures
    ∙ err_chosen (finish_test Sealing s (length tag)) (λ (given : Answer). called (refused given s) tag) _ c.in-Err.is c.finish_test.ensures

pub overflow_add-result : goal.overflow_add-result
overflow_add-result c = omega (arith, closing_bound c.args.self)

pub returns : goal.returns
unfolding finish_call
returns c =
    let s = c.args.self in
    let place = c.args.tag.now in
    let done : is_done (finish_test Sealing s (length place)) ≡ true = ok_done _ c.in_default.is c.finish_test.ensures in
    let h = finish_passed Sealing s (length place) done in
    let tag : c.give_tag.new.tag ≡ own_tag s =
    c.give_tag.ensures
    ∙ given_is _ place (omega (arith, h.tag_fits, (row_sizes s.set).key))
    ∙ ap (λ (n : ℕ). take n c.tag16.result) h.tag_fits
    ∙ c.tag16.ensures in
    rw done (λ j. called (record { answer = Done; rounds = c.closing_rounds.ensures j + 12; next = c.ended.ensures j }) (tag j))
