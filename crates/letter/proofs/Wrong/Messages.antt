-- The contracts rule out the wrong answers of the calls of whole messages: each is computed in the checker.
use mathlib.Core.Path.{◌≡◌, ap, ◌∙◌}
use Prim.Native.Nat.{ℕ}
use native.Mathlib.Omega.{arith}
use lib.ListN.{get_or}
use Rattle.answers.specs.declared.Answer.TheVariants.{Done, TagLength, PastLimit, NoRoom, TagDiffers}
use Rattle.permutation.specs.Round.{◌⋙◌, add_constant, s_box, bit, from_bits, column, substituted, substitute, Σ₀, Σ₁, Σ₂, Σ₃, Σ₄, diffuse, round}
use Rattle.permutation.specs.Runs.{constants, constants_of, rounds_of, rounds, permute}
use Rattle.permutation.specs.Strings.{bytes_of, value_of, string_of, state_of}
use Rattle.ascon.specs.Sets.{table, is_set, row_of}
use Rattle.ascon.specs.Mode.{p, before_key, initialise, separate, count, pad, before_text, encrypted, decrypted, finalise, sealed, opened}
use Rattle.ascon.specs.Rounds.{ad_blocks, text_blocks, message_rounds}
use Rattle.sets.specs.Start.{start_test}
use Rattle.message.specs.Message.{message_test, SealLeaves, seal_call, OpenLeaves, open_call}
use Rattle.letter.specs.Wrong.Messages.{Wrong}
use Rattle.letter.proofs.Calls.{off, no_set}

pub wrong : Wrong
unfolding decrypted finalise opened sealed encrypted pad count before_text is_set row_of table rounds_of constants_of constants separate initialise before_key p permute rounds round diffuse Σ₀ Σ₁ Σ₂ Σ₃ Σ₄ ◌⋙◌ substitute substituted column from_bits bit s_box add_constant string_of state_of bytes_of value_of start_test message_test seal_call open_call message_rounds ad_blocks text_blocks
wrong = record {
  start_test_set = λ set key nonce none other differs κ e p. differs (p ∙ rw (no_set set none));
  seal_set = λ set K N A P out tag none o differs κ e p. differs (ap (λ (x : SealLeaves). x.outcome.answer) p ∙ rw (no_set set none));
  open_set = λ set K N A C tag out none o differs κ e p. differs (ap (λ (x : OpenLeaves). x.outcome.answer) p ∙ rw (no_set set none));
  seal_one = λ o out left differs κ p. differs (ap (λ (x : SealLeaves). x.out) p, ap (λ (x : SealLeaves). x.tag) p);
  seal_three = λ o out left differs κ p. differs (ap (λ (x : SealLeaves). x.out) p, ap (λ (x : SealLeaves). x.tag) p);
  seal_four = λ o out left differs κ p. differs (ap (λ (x : SealLeaves). x.out) p, ap (λ (x : SealLeaves). x.tag) p);
  start_test_key = λ κ e p. off (cc p);
  open_three = λ o differs κ e p. differs (ap (λ (x : OpenLeaves). x.outcome.answer) p);
  open_four = λ o differs κ e p. differs (ap (λ (x : OpenLeaves). x.outcome.answer) p);
  seal_refused = λ set none o κ p. let byte : ◌≡◌ {A = ℕ} 1 0 = ap (λ (x : SealLeaves). get_or x.out 0 0) p ∙ rw (no_set set none) in absurd (omega arith);
  seal_beyond = λ κ p. let byte : ◌≡◌ {A = ℕ} 1 0 = ap (λ (x : SealLeaves). get_or x.out 0 0) p in absurd (omega arith);
  seal_run_after = λ κ p. let byte : ◌≡◌ {A = ℕ} 0xe6 0x7b = ap (λ (x : SealLeaves). get_or x.tag 0 0) p in absurd (omega arith);
  seal_limit = λ κ e p. let answer : PastLimit ≡ NoRoom = ap (λ (x : SealLeaves). x.outcome.answer) p in off (cc answer);
  seal_room = λ κ e p. let answer : NoRoom ≡ PastLimit = ap (λ (x : SealLeaves). x.outcome.answer) p in off (cc answer);
  seal_tag_long = λ κ e p. let answer : Done ≡ TagLength = ap (λ (x : SealLeaves). x.outcome.answer) p in off (cc answer);
  open_plaintext = λ κ e p. let answer : TagDiffers ≡ Done = ap (λ (x : OpenLeaves). x.outcome.answer) p in off (cc answer);
  open_first_byte = λ κ p. let byte : ◌≡◌ {A = ℕ} 0x27 0 = ap (λ (x : OpenLeaves). get_or x.out 0 0) p in absurd (omega arith);
  open_refused = λ set none o κ p. let byte : ◌≡◌ {A = ℕ} 1 0 = ap (λ (x : OpenLeaves). get_or x.out 0 0) p ∙ rw (no_set set none) in absurd (omega arith);
  kvistmaur_seal_set = λ set K N A P out tag none other differs κ e p. differs (p.0 ∙ rw (no_set set none));
  kvistmaur_open_set = λ set K N A C tag out none other differs κ e p. differs (p.0 ∙ rw (no_set set none));
  kvistmaur_seal_four = λ other differs κ e p. differs p.0;
  kvistmaur_open_three = λ other differs κ e p. differs p.0;
  kvistmaur_open_four = λ other differs κ e p. differs p.0;
  kvistmaur_open_nine = (λ n x differs κ p. differs p, λ n x differs κ p. differs p, λ n x differs κ p. differs p, λ n x differs κ p. differs p);
  kvistmaur_open_key = λ κ e p. off (cc p.0);
}
