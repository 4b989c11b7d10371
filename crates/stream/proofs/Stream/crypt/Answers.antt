-- `stream::Stream::crypt` meets its contract.
use mathlib.Core.Path.{◌≡◌, ap, ap₂, ◌∙◌}
use mathlib.Core.Bool.{true}
use mathlib.Core.List.{List, ◌++◌}
use Prim.Native.Nat.{ℕ}
use lib.Dec.{leb}
use lib.ListN.{length, drop}
use borrow.Author.Tests.{le-leb}
use Rattle.answers.specs.declared.Answer.{Answer}
use Rattle.answers.specs.Numbers.{is_done}
use Rattle.ascon.specs.Sets.{row_of}
use Rattle.sponge.specs.declared.Way.{Way}
use Rattle.sponge.specs.Sponge.{absorbed, given, Crypted, crypted, crypted_of}
use Rattle.sets.proofs.Start.{ok_done, err_chosen}
use Rattle.stream.specs.declared.Outcome.{Outcome}
use Rattle.stream.specs.State.{way_of}
use Rattle.stream.specs.Calls.{refused, text_test, text_words, took_text, called, text_call}
use Rattle.stream.proofs.Tests.{text_passed, within_largest}
use Rattle.stream.proofs.Stream.crypt.Goals as goal

pub returns-in-Err : goal.returns-in-Err
unfolding text_call
returns-in-Err c =
    let a = c.args in
    let out = a.out.now in
    ap (λ (r : Outcome). called r out) c.refusal.ensures
    ∙ err_chosen (text_test a.wanted a.self (length a.piece.now) (length out)) (λ (given : Answer). called (refused given a.self) out) _ c.in-Err.is c.text_test.ensures

pub took_text-requires : goal.took_text-requires
took_text-requires c =
    let a = c.args in
    within_largest _ _ _ _ (text_passed a.wanted a.self (length a.piece.now) (length a.out.now) (ok_done _ c.in_default.is c.text_test.ensures))

pub returns : goal.returns
unfolding text_call crypted_of
returns c =
    let a = c.args in
    let s = a.self in
    let row = row_of s.set in
    let toward = way_of a.wanted in
    let piece = a.piece.now in
    let out = a.out.now in
    let done : is_done (text_test a.wanted s (length piece) (length out)) ≡ true = ok_done _ c.in_default.is c.text_test.ensures in
    let room : leb (length piece) (length out) ≡ true = le-leb _ _ ((text_passed a.wanted s (length piece) (length out) done).room_fits c.requires) in
    let made : crypted c.crypt-words.result c.crypt-words.new.out
    ≡ crypted (absorbed row toward (text_words s) s.text piece) (given row toward (text_words s) s.text piece ++ drop (length piece) out) =
    c.crypt-words.ensures
    ∙ ap₂ (λ (y : Way) (w : List ℕ). crypted_of row y w s.text piece out) c.way.ensures c.text_words.ensures
    ∙ rw room in
    rw (done, c.requires) (λ j. called ((c.took_text.ensures ∙ ap (λ (x : Crypted). took_text s x.words (length piece)) made) j) (made j).out)
