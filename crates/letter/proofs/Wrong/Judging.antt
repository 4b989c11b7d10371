-- The contracts rule out the wrong answers of the calls of first differences, verdicts, reports and steps: each is computed in the checker, or follows from a law.
use mathlib.Core.Path.{◌≡◌, sym, ap, ◌∙◌}
use Prim.Native.Nat.{ℕ, suc}
use Rattle.std.specs.Prelude.{Some, None}
use native.Mathlib.Omega.{arith}
use lib.ListN.{get_or}
use Rattle.permutation.specs.Round.{◌⋙◌, add_constant, s_box, bit, from_bits, column, substituted, substitute, Σ₀, Σ₁, Σ₂, Σ₃, Σ₄, diffuse, round}
use Rattle.permutation.specs.Runs.{constants, constants_of, rounds_of, rounds, permute}
use Rattle.permutation.specs.Strings.{bytes_of, value_of, string_of, state_of}
use Rattle.ascon.specs.Sets.{table, is_set, row_of}
use Rattle.ascon.specs.Mode.{p, before_key, initialise, separate, count, pad, before_text, encrypted, finalise, sealed}
use Rattle.ascon.specs.Rounds.{ad_blocks, text_blocks, message_rounds}
use Rattle.digits.specs.Numbers.{places, numeral}
use Rattle.digits.specs.Room.{line_of}
use Rattle.digits.specs.Hex.{digit_in}
use Rattle.lines.specs.Right.{named}
use Rattle.lines.specs.Steps.{name_step, feed_step, value_step, step_of, read_of}
use Rattle.record.specs.Form.{field_of, with_number, with_field, is_field, value_kind, keeps, broken, blank}
use Rattle.record.specs.Text.{names, name, kind_of}
use Rattle.record.specs.Calls.{with_value, given, refused_at, read_call, form_of, inside_mark, read_any}
use Rattle.report.specs.declared.Verdict.TheVariants.{Rounds, Cipher, Tag, Unread}
use Rattle.report.specs.Reports.{report_leaves, record_line, verdict_line, field_line, report_text, ReportLeaves, report_call}
use Rattle.judge.specs.declared.stepping.Step.TheVariants.{Stopped, Wait, End}
use Rattle.judge.specs.Difference.{Part, Compared}
use Rattle.judge.specs.Verdicts.{our_sealing, verdict_on}
use Rattle.judge.specs.Verdicts as verdicts
use Rattle.judge.specs.Steps.{verdict_read, StepLeaves, step_call, step_by}
use Rattle.judge.proofs.Laws.{judges}
use Rattle.letter.specs.Wrong.Judging.{Wrong}
use Rattle.letter.proofs.Calls.{off, no_set, seen_as}

pub wrong : Wrong
unfolding finalise ad_blocks text_blocks message_rounds our_sealing verdict_on verdicts.our_rounds verdict_read step_by step_call read_any form_of inside_mark read_call read_of step_of name_step feed_step value_step kind_of named value_kind with_value given refused_at name names keeps broken is_field field_of with_number with_field blank digit_in sealed encrypted pad count before_text is_set row_of table rounds_of constants_of constants separate initialise before_key p permute rounds round diffuse Σ₀ Σ₁ Σ₂ Σ₃ Σ₄ ◌⋙◌ substitute substituted column from_bits bit s_box add_constant string_of state_of bytes_of value_of places numeral line_of record_line verdict_line field_line report_text report_call
wrong = record {
  difference_cut = λ κ e p. let told : None ≡ Some 1 = p in off (cc told);
  difference_longer = λ κ e p. let told : None ≡ Some 1 = p in off (cc told);
  difference_byte = λ κ e p. let told : None ≡ Some 0 = p in off (cc told);
  difference_far = λ κ e p. let told : Some 2 ≡ Some 1 = p in off (cc told);
  difference_last = λ κ e p. let told : Some 1 ≡ Some 0 = p in off (cc told);
  difference_end = λ κ e p. let told : Some 1 ≡ None = p in off (cc told);
  tail_longer = λ part none κ e p. off (cc (sym none ∙ ap (λ (x : Part). x.bytes) p));
  tail_far = λ part none κ e p. off (cc (sym none ∙ ap (λ (x : Part). x.bytes) p));
  tail_last = λ part four κ e p. off (cc (sym four ∙ ap (λ (x : Part). x.bytes) p));
  tail_wanted = λ part two κ e p. off (cc (sym two ∙ ap (λ (x : Part). x.bytes) p));
  tail_elsewhere = λ wanted found part other κ e p. other (ap (λ (x : Part). x.block) p);
  tail_begin = λ part begin κ e p. off (sym begin ∙ ap (λ (x : Part). x.offset) p);
  compare_cut = λ r same κ e p. let told : None ≡ Some 1 = sym same ∙ ap (λ (x : Compared). x.difference) p in off (cc told);
  compare_part = λ r begin κ e p. off (sym begin ∙ ap (λ (x : Compared). x.part.offset) p);
  fields_begun = λ κ e p. off (cc p);
  fields_longer = λ κ e p. off (cc p);
  fields_behind = λ κ e p. off (cc p);
  fields_size = λ κ e p. off (cc p);
  judge_cipher = λ r other κ e p. other ((judges.equal r).0 (sym p)).cipher;
  judge_cut_off = λ κ e p. let verdict : Tag ≡ Cipher = p in off (cc verdict);
  judge_rounds = λ κ e p. let verdict : Tag ≡ Rounds = p in off (cc verdict);
  judge_tag = λ r other κ e p. other ((judges.equal r).0 (sym p)).tag;
  judge_three = λ other differs κ e p. differs p;
  judge_four = λ other differs κ e p. differs p;
  judge_set = λ set none other differs κ e p. differs (p ∙ rw (no_set set none));
  judge_chip = λ κ e p. let verdict : Unread 3 0 ≡ Rounds = p in off (cc verdict);
  judge_column = λ line column κ e p. let verdict : Unread line (suc column) ≡ Unread 1 0 = p in let none : suc column ≡ 0 = cc in absurd (omega arith);
  judge_line = λ κ e p. let verdict : Unread 0 0 ≡ Unread 1 0 = p in off (cc verdict);
  step_end = λ κ e p. let step : Wait ≡ End = ap (λ (x : StepLeaves). x.step) p in off (cc step);
  step_column = λ written κ e p. let step : Stopped 1 2 written ≡ Stopped 1 1 32 = ap (λ (x : StepLeaves). x.step) p in let column : ◌≡◌ {A = ℕ} 2 1 = cc in absurd (omega arith);
  step_at_once = λ κ e p. let step : Wait ≡ Stopped 1 1 32 = ap (λ (x : StepLeaves). x.step) p in off (cc step);
  step_early = λ line column written κ e p. let step : Stopped line column written ≡ Wait = ap (λ (x : StepLeaves). x.step) p in off (cc step);
  step_inside = λ line column written κ e p. let step : Stopped line column written ≡ Wait = ap (λ (x : StepLeaves). x.step) p in off (cc step);
  step_inside_end = λ written κ e p. let step : Stopped 1 5 written ≡ Stopped 1 1 32 = ap (λ (x : StepLeaves). x.step) p in let column : ◌≡◌ {A = ℕ} 5 1 = cc in absurd (omega arith);
  report_room = λ κ e q. let p = seen_as (λ w. report_leaves w e.1.1.0.now) q in off (cc (ap (λ (x : ReportLeaves). x.outcome.answer) p));
  report_column = λ κ q. let p = q.1.1 in let digit : ◌≡◌ {A = ℕ} 0x37 0x34 = ap (λ (x : ReportLeaves). get_or x.out 30 0) p in absurd (omega arith);
}
