-- `stream::Stream::compare` meets its contract.
use mathlib.Core.Path.{◌≡◌, sym, ap, ◌∙◌}
use mathlib.Core.Bool.{true, cond, not}
use mathlib.Core.List.{List}
use Prim.Native.Nat.{ℕ, ◌+◌}
use native.Mathlib.Omega.{arith}
use lib.ListN.{length, take}
use lib.Seq.{length-take-le}
use Rattle.answers.specs.Numbers.{is_done}
use Rattle.answers.specs.declared.Answer.{Answer}
use Rattle.answers.specs.declared.Answer.TheVariants.{Done, TagDiffers}
use Rattle.permutation.specs.Strings.{same}
use Rattle.sets.proofs.Rows.{row_sizes}
use Rattle.sets.proofs.Start.{ok_done, err_chosen}
use Rattle.stream.specs.Calls.{refused, finish_test, Called, called, own_tag, finish_call}
use Rattle.stream.proofs.Tests.{closing_bound}
use Rattle.stream.proofs.Stream.compare.Goals as goal
use Rattle.stream.proofs.Stream.compare.Goals.{then-same, else-same}

pub returns-in-Err : goal.returns-in-Err
unfolding finish_call
returns-in-Err c =
    let a = c.args in
    let tag = a.tag.now in
    c.refusal.ensures
    ∙ ap (λ (x : Called). x.outcome)
    (err_chosen (finish_test a.wanted a.self (length tag)) (λ (given : Answer). called (refused given a.self) tag) _ c.in-Err.is c.finish_test.ensures)

pub overflow_add-result : goal.overflow_add-result
overflow_add-result c = omega (arith, closing_bound c.args.self)

pub slice_bounds-same_tag-end : goal.slice_bounds-same_tag-end
slice_bounds-same_tag-end c = sym (length-take-le _ _ (omega (arith, c.key_length.ensures, (row_sizes c.args.self.set).key)))

pub returns : goal.returns
unfolding finish_call
returns c =
    let s = c.args.self in
    let tag = c.args.tag.now in
    let done : is_done (finish_test c.args.wanted s (length tag)) ≡ true = ok_done _ c.in_default.is c.finish_test.ensures in
    let compared : same tag (own_tag s) ≡ c.same_tag-same.result =
    ap (λ (x : List ℕ). same tag x) (sym c.tag16-ours.ensures ∙ ap (λ (n : ℕ). take n c.tag16-ours.result) (sym c.key_length.ensures))
    ∙ sym c.same_tag-same.ensures in
    let answer : c.if-same.result ≡ cond (not (same tag (own_tag s))) TagDiffers Done =
    elim c.if-same.branch [
      | then-same w ↦ w.result-is ∙ rw (compared, w.if-same.true)
      | else-same w ↦ w.result-is ∙ rw (compared, w.if-same.false)
    ] in
    rw (done, c.requires) (λ j. record { answer = answer j; rounds = c.closing_rounds.ensures j + 12; next = c.ended.ensures j })
