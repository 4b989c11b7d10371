-- `stream::Stream::check` meets its contract.
use mathlib.Core.Path.{ap, ◌∙◌}
use mathlib.Core.List.{List, []}
use Prim.Native.Nat.{ℕ}
use lib.ListN.{length}
use Rattle.answers.specs.declared.Answer.{Answer}
use Rattle.ascon.specs.Sets.{row_of}
use Rattle.sponge.specs.declared.Way.TheVariants.{Open}
use Rattle.sponge.specs.Sponge.{absorbed}
use Rattle.sets.proofs.Start.{ok_done, ok_chosen, err_chosen}
use Rattle.stream.specs.declared.Direction.TheVariants.{Checking}
use Rattle.stream.specs.Calls.{refused, text_test, took_text, Called, called, text_words, text_call}
use Rattle.stream.proofs.Tests.{text_passed, within_largest}
use Rattle.stream.proofs.Stream.check.Goals as goal

pub returns-in-Err : goal.returns-in-Err
unfolding text_call
returns-in-Err c =
    let s = c.args.self in
    let n = length c.args.piece.now in
    c.refusal.ensures
    ∙ ap (λ (x : Called). x.outcome)
    (err_chosen (text_test Checking s n 0) (λ (a : Answer). called (refused a s) []) _ c.in-Err.is c.text_test.ensures)

pub took_text-requires : goal.took_text-requires
took_text-requires c =
    let n = length c.args.piece.now in
    within_largest Checking c.args.self n 0 (text_passed Checking c.args.self n 0 (ok_done _ c.in_default.is c.text_test.ensures))

pub returns : goal.returns
unfolding text_call
returns c =
    let s = c.args.self in
    let piece = c.args.piece.now in
    c.took_text.ensures
    ∙ ap (λ (w : List ℕ). took_text s w (length piece))
    (c.absorb-words.ensures ∙ ap (λ (w : List ℕ). absorbed (row_of s.set) Open w s.text piece) c.text_words.ensures)
    ∙ ap (λ (x : Called). x.outcome)
    (ok_chosen (text_test Checking s (length piece) 0) (called (took_text s (absorbed (row_of s.set) Open (text_words s) s.text piece) (length piece)) []) _ c.in_default.is c.text_test.ensures)
