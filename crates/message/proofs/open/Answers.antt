-- `message::open` meets its contract.
use mathlib.Core.Path.{◌≡◌, sym, ap, ap₂, ◌∙◌}
use mathlib.Core.Bool.{Bool, true}
use mathlib.Core.List.{List, ◌++◌}
use Prim.Native.Nat.{ℕ, ◌-◌, ◌≤◌}
use Rattle.std.proofs.lemmas.Grind.{common_steps}
use native.Mathlib.Omega.{arith}
use lib.ListN.{length, take, drop}
use lib.Seq.{take_at, drop_at, length-take-le}
use Rattle.answers.specs.declared.Answer.{Answer}
use Rattle.answers.specs.Numbers.{is_done}
use Rattle.answers.specs.declared.Answer.TheVariants.{Done, TagDiffers}
use Rattle.ascon.specs.Sets.{row_of}
use Rattle.permutation.specs.Strings.{zeros, same}
use Rattle.ascon.specs.Mode.{decrypted, opened, finalise}
use Rattle.ascon.proofs.Sealing.{length_tag, length_decrypted}
use Rattle.sets.proofs.Rows.{row_fits, row_sizes}
use Rattle.sets.proofs.Start.{ok_done, err_chosen}
use Rattle.message.specs.Message.{message_test, open_leaves, open_call}
use Rattle.message.proofs.Tests.{message_passed}
use Rattle.message.proofs.open.Goals as goal

-- the comparison with the tag that the code made is the published one
compared : (set : ℕ) (K N A C tag ours : List ℕ) (n : ℕ) (equal : Bool) → length K ≡ (row_of set).key → n ≡ (row_of set).key
    → let state = (decrypted (row_of set) K N A C).state in
    ours ≡ finalise (row_of set) K state ++ zeros (16 - (row_of set).key) → equal ≡ same tag (take n ours) → same tag (finalise (row_of set) K state) ≡ equal
compared set K N A C tag ours n equal key size value e =
    let row = row_of set in
    let state = (decrypted row K N A C).state in
    ap (λ (t : List ℕ). same tag t)
    (sym (take_at (finalise row K state) (zeros (16 - row.key)) row.key (length_tag row (row_fits set) K key state)) ∙ ap₂ (λ (n : ℕ) (t : List ℕ). take n t) (sym size) (sym value))
    ∙ sym e

pub returns-in-Err : goal.returns-in-Err
unfolding open_call
returns-in-Err c =
    let a = c.args in
    err_chosen (message_test a.set (length a.key.now) (length a.nonce.now) (length a.tag.now) (length a.ad.now) (length a.cipher.now) (length a.out.now))
    (λ (answer : Answer). open_leaves (record { answer = answer; rounds = 0 }) a.out.now) _ c.in-Err.is c.test.ensures

pub process-ours-requires : goal.process-ours-requires
process-ours-requires c =
    let h = message_passed _ _ _ _ _ _ _ (ok_done _ c.in_default.is c.test.ensures) in
    record {
      bytes = (
        record { at = λ i. omega (arith, c.type_inv.key i) },
        (record { at = λ i. omega (arith, c.type_inv.ad i) }, record { at = λ i. omega (arith, c.type_inv.cipher i) }),
      );
      key_len = h.key_fits;
      nonce_len = h.nonce_fits;
      text_in_bounds = h.room;
    }

pub rounds-rounds-requires : goal.rounds-rounds-requires
rounds-rounds-requires c =
    let h = message_passed _ _ _ _ _ _ _ (ok_done _ c.in_default.is c.test.ensures) in
    record { ad_within = h.ad_within; text_within = h.text_within }

pub slice_bounds-ours-end : goal.slice_bounds-ours-end
slice_bounds-ours-end c = omega (arith, c.key_length.ensures, (row_sizes c.args.set).key)

pub slice_bounds-same_tag-end : goal.slice_bounds-same_tag-end
slice_bounds-same_tag-end c = sym (length-take-le _ _ (omega (arith, c.key_length.ensures, (row_sizes c.args.set).key)))

pub returns-then-same_tag : goal.returns-then-same_tag
unfolding open_call opened
returns-then-same_tag c =
    let a = c.args in
    let done : is_done (message_test a.set (length a.key.now) (length a.nonce.now) (length a.tag.now) (length a.ad.now) (length a.cipher.now) (length a.out.now)) ≡ true =
    ok_done _ c.in_default.is c.test.ensures in
    let h = message_passed _ _ _ _ _ _ _ done in
    let ours = c.process-ours in
    rw (
      done,
      compared a.set a.key.now a.nonce.now a.ad.now a.cipher.now a.tag.now _ _ _ h.key_fits c.key_length.ensures ours.ensures.value c.same_tag.ensures ∙ c.if-same_tag.true,
    )
    (λ j. open_leaves (record { answer = Done; rounds = c.rounds-rounds.ensures j }) (ours.ensures.out_after j))

pub slice_bounds-fill-end : goal.slice_bounds-fill-end
slice_bounds-fill-end c =
    let h = message_passed _ _ _ _ _ _ _ (ok_done _ c.in_default.is c.test.ensures) in
    omega (arith, h.room)

pub slice_bounds-fill-end-2 : goal.slice_bounds-fill-end-2
slice_bounds-fill-end-2 c =
    let h = message_passed _ _ _ _ _ _ _ (ok_done _ c.in_default.is c.test.ensures) in
    let room : length c.args.cipher.now ≤ length c.process-ours.new.out = omega (arith, h.room) in
    grind (arith, common_steps)

pub returns : goal.returns
unfolding open_call opened
returns c =
    let a = c.args in
    let done : is_done (message_test a.set (length a.key.now) (length a.nonce.now) (length a.tag.now) (length a.ad.now) (length a.cipher.now) (length a.out.now)) ≡ true =
    ok_done _ c.in_default.is c.test.ensures in
    let h = message_passed _ _ _ _ _ _ _ done in
    let ours = c.process-ours in
    let n = length a.cipher.now in
    let text = (decrypted (row_of a.set) a.key.now a.nonce.now a.ad.now a.cipher.now).out in
    let size : length text ≡ n = length_decrypted (row_of a.set) (row_fits a.set) a.key.now h.key_fits a.nonce.now a.ad.now a.cipher.now in
    let rest = ap (λ (x : List ℕ). drop n x) ours.ensures.out_after ∙ drop_at text (drop n a.out.now) n size in
    let whole : length c.process-ours.new.out ≡ length a.out.now = omega arith in
    let cleared : c.fill.new.self ≡ zeros n =
    c.fill.ensures.after (λ y e. e) ∙ ap zeros (length-take-le n c.process-ours.new.out (omega (arith, h.room))) in
    rw (
      done,
      compared a.set a.key.now a.nonce.now a.ad.now a.cipher.now a.tag.now _ _ _ h.key_fits c.key_length.ensures ours.ensures.value c.same_tag.ensures ∙ c.if-same_tag.false,
    )
    (λ j. open_leaves (record { answer = TagDiffers; rounds = c.rounds-rounds.ensures j }) (cleared j ++ rest j))
