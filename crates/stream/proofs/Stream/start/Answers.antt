-- `stream::Stream::start` meets its contract.
use mathlib.Core.Path.{◌≡◌, ap, ap₂, ◌∙◌}
use mathlib.Core.Bool.{true}
use mathlib.Core.List.{List, ◌++◌}
use Prim.Native.Nat.{ℕ, ◌-◌}
use native.Mathlib.Omega.{arith}
use lib.ListN.{length, take}
use lib.Seq.{take_at}
use Rattle.answers.specs.declared.Answer.{Answer}
use Rattle.answers.specs.declared.Answer.TheVariants.{Done}
use Rattle.answers.specs.Numbers.{is_done}
use Rattle.permutation.specs.Strings.{words_of_string, zeros}
use Rattle.ascon.specs.Sets.{row_of}
use Rattle.ascon.specs.Mode.{initialise}
use Rattle.sponge.specs.Sponge.{started}
use Rattle.tags.proofs.Compared.{sixteen_is}
use Rattle.sets.proofs.Rows.{row_sizes}
use Rattle.sets.proofs.Start.{ok_done, err_chosen}
use Rattle.stream.specs.declared.Phase.TheVariants.{Ad}
use Rattle.stream.specs.State.{ended}
use Rattle.stream.specs.Calls.{limited_start_test, refused, start_call}
use Rattle.stream.proofs.Tests.{limited_start_passed}
use Rattle.stream.proofs.Stream.start.Goals as goal

pub returns-in-Err : goal.returns-in-Err
unfolding start_call
returns-in-Err c =
    let a = c.args in
    c.refusal.ensures
    ∙ ap (refused c.in-Err.answer) c.ended.ensures
    ∙ err_chosen (limited_start_test a.set (length a.key.now) (length a.nonce.now) a.limit) (λ (given : Answer). refused given ended) _ c.in-Err.is c.limited_start_test.ensures

pub returns : goal.returns
unfolding start_call started
returns c =
    let a = c.args in
    let row = row_of a.set in
    let key = a.key.now in
    let nonce = a.nonce.now in
    let done : is_done (limited_start_test a.set (length key) (length nonce) a.limit) ≡ true = ok_done _ c.in_default.is c.limited_start_test.ensures in
    let h = (limited_start_passed a.set (length key) (length nonce) a.limit done).start in
    let k : c.sixteen-key16.result ≡ key ++ zeros (16 - length key) =
    c.sixteen-key16.ensures ∙ sixteen_is key (omega (arith, h.key_fits, (row_sizes a.set).key)) in
    let n : c.sixteen.result ≡ nonce ++ zeros (16 - length nonce) =
    c.sixteen.ensures ∙ sixteen_is nonce (omega (arith, h.nonce_fits, (row_sizes a.set).key)) in
    let words : c.start-words.result ≡ words_of_string (initialise row key nonce) =
    c.start-words.ensures
    ∙ ap₂ (λ (x y : List ℕ). words_of_string (initialise row x y))
    (ap (λ (x : List ℕ). take row.key x) k ∙ take_at key (zeros (16 - length key)) row.key h.key_fits)
    (ap (λ (x : List ℕ). take row.key x) n ∙ take_at nonce (zeros (16 - length nonce)) row.key h.nonce_fits) in
    rw done (λ j. record {
      answer = Done;
      rounds = 12;
      next = record { words = words j; set = a.set; direction = a.direction; phase = Ad; key = k j; ad = 0; text = 0; place = 0; limit = a.limit };
    })
