-- The contracts rule out the wrong answers of the calls below the families: each is computed in the checker.
use mathlib.Core.Path.{◌≡◌, sym, ap, ◌∙◌}
use mathlib.Core.Bool.{true≢false}
use Prim.Native.Nat.{ℕ}
use native.Mathlib.Omega.{arith}
use lib.ListN.{get_or}
use borrow.Author.Tests.{le-leb}
use Rattle.permutation.specs.declared.State.{State}
use Rattle.permutation.specs.Round.{◌⋙◌, add_constant, s_box, bit, from_bits, column, substituted, substitute, Σ₀, Σ₁, Σ₂, Σ₃, Σ₄, diffuse, round}
use Rattle.permutation.specs.Runs.{constants, constants_of, rounds_of, rounds, permute, permute_words}
use Rattle.permutation.specs.Strings.{bytes_of, value_of, string_of, state_of}
use Rattle.digits.specs.Hex.{digit_in}
use Rattle.timing.specs.Call.{Called, permute_call}
use Rattle.ascon.specs.Sets.{table, is_set, row_of}
use Rattle.ascon.specs.Rounds.{ad_blocks, text_blocks, message_rounds}
use Rattle.ascon.specs.Mode.{p, before_key, initialise, separate, finalise}
use Rattle.sponge.specs.Sponge.{Crypted, started, absorbed, given, crypted_of, ad_closed, tag_of}
use Rattle.tags.specs.Tags.{sixteen_of, given_tag}
use Rattle.letter.specs.Wrong.Engine.{Wrong}
use Rattle.letter.proofs.Calls.{off, no_set}

pub wrong : Wrong
unfolding permute_words finalise absorbed given crypted_of tag_of is_set row_of table rounds_of constants_of constants permute_call digit_in ad_closed separate started initialise before_key p permute rounds round diffuse Σ₀ Σ₁ Σ₂ Σ₃ Σ₄ ◌⋙◌ substitute substituted column from_bits bit s_box add_constant string_of state_of bytes_of value_of sixteen_of given_tag message_rounds ad_blocks text_blocks
wrong = record {
  number_done = λ κ e p. off (cc p);
  is_done_differs = λ κ e p. off (cc p);
  is_done_done = λ κ e p. off (cc p);
  rounded_complement = λ κ e p. let x2 : ◌≡◌ {A = ℕ} 0 0xffffffffffffffff = ap (λ (s : State). s.x2) p in absurd (omega arith);
  rounded_turn_x0 = λ x1 x2 x3 x4 κ e p. let word : ◌≡◌ {A = ℕ} 0x0000401000000001 0x0000201000000001 = ap (λ (s : State). s.x0) p in absurd (omega arith);
  rounded_turn_x1 = λ x0 x2 x3 x4 κ e p. let word : ◌≡◌ {A = ℕ} 0x0000000002000011 0x0000000002000009 = ap (λ (s : State). s.x1) p in absurd (omega arith);
  rounded_turn_x2 = λ x0 x1 x3 x4 κ e p. let word : ◌≡◌ {A = ℕ} 0xbbfffffffffffffe 0x7bfffffffffffffe = ap (λ (s : State). s.x2) p in absurd (omega arith);
  rounded_turn_x3 = λ x0 x1 x2 x4 κ e p. let word : ◌≡◌ {A = ℕ} 0x0020800000000001 0x0040800000000001 = ap (λ (s : State). s.x3) p in absurd (omega arith);
  rounded_turn_x4 = λ x0 x1 x2 x3 κ e p. let word : ◌≡◌ {A = ℕ} 0x0100000000800001 0x0200000000800001 = ap (λ (s : State). s.x4) p in absurd (omega arith);
  permuted_last_six = λ κ e p. let x0 : ◌≡◌ {A = ℕ} 0x160c84f20faad4f1 0x202caaa308f6e2b0 = ap (λ (s : State). s.x0) p in absurd (omega arith);
  permuted_first_eight = λ κ e p. let x0 : ◌≡◌ {A = ℕ} 0x28023e518b813540 0x1418f8af721aa830 = ap (λ (s : State). s.x0) p in absurd (omega arith);
  permuted_first_six = λ κ e p. let x0 : ◌≡◌ {A = ℕ} 0x202caaa308f6e2b0 0x160c84f20faad4f1 = ap (λ (s : State). s.x0) p in absurd (omega arith);
  permuted_last_eight = λ κ e p. let x0 : ◌≡◌ {A = ℕ} 0x1418f8af721aa830 0x28023e518b813540 = ap (λ (s : State). s.x0) p in absurd (omega arith);
  permute_words_swapped = λ κ p. let x0 : ◌≡◌ {A = ℕ} 0xffe8b912453958f1 0x202caaa308f6e2b0 = ap (λ w. get_or w 0 0) p in absurd (omega arith);
  permute_words_constant = λ κ p. let x0 : ◌≡◌ {A = ℕ} 0x533b0f1f0feb161b 0x202caaa308f6e2b0 = ap (λ w. get_or w 0 0) p in absurd (omega arith);
  permute_seven = λ κ e p. off (cc (ap (λ (x : Called). x.answer) p));
  read_digits_past = λ κ e p. off (cc (ap (λ (x : Called). x.answer) p));
  read_digits_kept = λ κ p. let value : ◌≡◌ {A = ℕ} 0x31 1 = ap (λ (x : Called). get_or x.left 0 0) p in absurd (omega arith);
  is_set_none = λ set none κ e p. true≢false (p ∙ no_set set none);
  is_set_each = λ set some few κ e p. true≢false (sym (rw (le-leb 1 set some, le-leb set 4 few)) ∙ sym p);
  key_lengths = (λ other differs κ e p. differs p, (λ other differs κ e p. differs p, (λ other differs κ e p. differs p, (λ other differs κ e p. differs p, tt))));
  block_lengths = (λ other differs κ e p. differs p, (λ other differs κ e p. differs p, (λ other differs κ e p. differs p, (λ other differs κ e p. differs p, tt))));
  runs_between = (λ other differs κ e p. differs p, (λ other differs κ e p. differs p, (λ other differs κ e p. differs p, (λ other differs κ e p. differs p, tt))));
  rounds_between = (λ other differs κ e p. differs p, (λ other differs κ e p. differs p, (λ other differs κ e p. differs p, (λ other differs κ e p. differs p, tt))));
  first_words = (λ other differs κ e p. differs p, (λ other differs κ e p. differs p, (λ other differs κ e p. differs p, (λ other differs κ e p. differs p, tt))));
  message_rounds_none = λ κ e p. let rounds : ◌≡◌ {A = ℕ} 0 24 = p in absurd (omega arith);
  message_rounds_block = λ κ e p. let rounds : ◌≡◌ {A = ℕ} 30 36 = p in absurd (omega arith);
  message_rounds_text = λ κ e p. let rounds : ◌≡◌ {A = ℕ} 30 36 = p in absurd (omega arith);
  message_rounds_two = λ κ e p. let rounds : ◌≡◌ {A = ℕ} 36 40 = p in absurd (omega arith);
  message_rounds_three = λ other differs κ e p. differs p;
  message_rounds_four = λ other differs κ e p. differs p;
  start_zeros = λ κ e p. off (cc p);
  start_other_word = λ κ e p. let x0 : ◌≡◌ {A = ℕ} 0x0bd5c797efcdd5ae 0x76da0f6a16b926b1 = ap (λ w. get_or w 0 0) p in absurd (omega arith);
  start_three = λ other differs κ e p. differs p;
  start_four = λ other differs κ e p. differs p;
  absorb_one = λ other differs κ e p. differs p;
  absorb_three = λ other differs κ e p. differs p;
  absorb_four = λ other differs κ e p. differs p;
  absorb_four_full = λ other differs κ e p. differs p;
  absorb_next_block = λ κ e p. let x1 : ◌≡◌ {A = ℕ} 0xfee8b912453958f1 0xffe8b912453958f1 = ap (λ w. get_or w 1 0) p in absurd (omega arith);
  absorb_old_bit = λ κ e p. let x0 : ◌≡◌ {A = ℕ} 0x8000000000000000 0 = ap (λ w. get_or w 0 0) p in absurd (omega arith);
  crypt_next_block = λ κ p. let byte : ◌≡◌ {A = ℕ} 0xff 0x20 = ap (λ (x : Crypted). get_or x.out 8 0) p in absurd (omega arith);
  crypt_later_copied = λ κ p. let byte : ◌≡◌ {A = ℕ} 0 1 = ap (λ (x : Crypted). get_or x.out 0 0) p in absurd (omega arith);
  close_no_flip = λ κ e p. let x4 : ◌≡◌ {A = ℕ} 0 1 = ap (λ w. get_or w 4 0) p in absurd (omega arith);
  close_other_end = λ κ e p. off (cc p);
  finish_key_at_eight = λ κ e p. let byte : ◌≡◌ {A = ℕ} 0xa4 0xee = ap (λ tag. get_or tag 0 0) p.0 in absurd (omega arith);
  finish_three = λ other differs κ e p. differs p.0;
  finish_four = λ other differs κ e p. differs p.0;
  sixteen_short = λ κ e p. off (cc p);
  sixteen_long = λ κ e p. off (cc p);
  give_tag_nothing = λ κ p. off (cc p);
  give_tag_long = λ κ p. off (cc p);
  same_tag_short = λ κ e p. off (cc p);
  same_tag_empty = λ κ e p. off (cc p);
  same_tag_long = λ κ e p. off (cc p);
  same_tag_last = λ κ e p. off (cc p);
}
