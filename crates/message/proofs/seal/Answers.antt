-- `message::seal` meets its contract.
use mathlib.Core.Path.{◌≡◌, sym, ap, ◌∙◌}
use mathlib.Core.Bool.{true}
use mathlib.Core.List.{List}
use Prim.Native.Nat.{ℕ, ◌-◌}
use native.Mathlib.Omega.{arith}
use lib.ListN.{length, take}
use lib.Seq.{take_at}
use Rattle.answers.specs.declared.Answer.{Answer}
use Rattle.answers.specs.Numbers.{is_done}
use Rattle.answers.specs.declared.Answer.TheVariants.{Done}
use Rattle.ascon.specs.Sets.{row_of}
use Rattle.permutation.specs.Strings.{zeros}
use Rattle.ascon.specs.Mode.{encrypted, sealed, finalise}
use Rattle.ascon.proofs.Sealing.{length_tag}
use Rattle.sets.proofs.Rows.{row_fits, row_sizes}
use Rattle.sets.proofs.Start.{ok_done, err_chosen}
use Rattle.tags.proofs.Compared.{given_is}
use Rattle.message.specs.Message.{message_test, seal_leaves, seal_call}
use Rattle.message.proofs.Tests.{message_passed}
use Rattle.message.proofs.seal.Goals as goal

pub returns-in-Err : goal.returns-in-Err
unfolding seal_call
returns-in-Err c =
    let a = c.args in
    err_chosen (message_test a.set (length a.key.now) (length a.nonce.now) (length a.tag.now) (length a.ad.now) (length a.text.now) (length a.out.now))
    (λ (answer : Answer). seal_leaves (record { answer = answer; rounds = 0 }) a.out.now a.tag.now) _ c.in-Err.is c.test.ensures

pub process-ours-requires : goal.process-ours-requires
process-ours-requires c =
    let h = message_passed _ _ _ _ _ _ _ (ok_done _ c.in_default.is c.test.ensures) in
    record {
      bytes = (
        record { at = λ i. omega (arith, c.type_inv.key i) },
        (record { at = λ i. omega (arith, c.type_inv.ad i) }, record { at = λ i. omega (arith, c.type_inv.text i) }),
      );
      key_len = h.key_fits;
      nonce_len = h.nonce_fits;
      text_in_bounds = h.room;
    }

pub rounds-requires : goal.rounds-requires
rounds-requires c =
    let h = message_passed _ _ _ _ _ _ _ (ok_done _ c.in_default.is c.test.ensures) in
    record { ad_within = h.ad_within; text_within = h.text_within }

pub returns : goal.returns
unfolding seal_call sealed
returns c =
    let a = c.args in
    let done : is_done (message_test a.set (length a.key.now) (length a.nonce.now) (length a.tag.now) (length a.ad.now) (length a.text.now) (length a.out.now)) ≡ true =
    ok_done _ c.in_default.is c.test.ensures in
    let h = message_passed _ _ _ _ _ _ _ done in
    let ours = c.process-ours in
    let row = row_of a.set in
    let K = a.key.now in
    let tag = a.tag.now in
    let state = (encrypted row K a.nonce.now a.ad.now a.text.now).state in
    let whole = length_tag row (row_fits a.set) K h.key_fits state in
    let given =
    c.give_tag.ensures
    ∙ given_is _ tag (omega (arith, h.tag_fits, (row_sizes a.set).key))
    ∙ ap (λ (t : List ℕ). take (length tag) t) ours.ensures.value
    ∙ take_at (finalise row K state) (zeros (16 - row.key)) (length tag) (whole ∙ sym h.tag_fits) in
    rw done (λ j. seal_leaves (record { answer = Done; rounds = c.rounds.ensures j }) (ours.ensures.out_after j) (given j))
