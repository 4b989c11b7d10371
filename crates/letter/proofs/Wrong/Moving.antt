-- The contracts rule out the wrong answers of the calls that move records: each is computed in the checker, but for one that is a law.
use mathlib.Core.Path.{◌≡◌, sym, ap, ◌∙◌}
use mathlib.Core.List.{List, [], ◌∷◌}
use Prim.Native.Nat.{ℕ}
use native.Mathlib.Omega.{arith}
use lib.ListN.{get_or}
use Rattle.answers.specs.declared.Answer.TheVariants.{Done, NoRoom, BrokenRecord, ChipLost}
use Rattle.permutation.specs.Runs.{rounds_of, constants_of, constants}
use Rattle.ascon.specs.Sets.{table, is_set, row_of}
use Rattle.ascon.specs.Rounds.{ad_blocks, text_blocks, message_rounds}
use Rattle.digits.specs.Hex.{digit_in, hex_digit_in}
use Rattle.digits.specs.Numbers.{places, numeral}
use Rattle.digits.specs.Room.{line_of}
use Rattle.lines.specs.Right.{named}
use Rattle.lines.specs.Steps.{name_step, feed_step, value_step, step_of, read_of}
use Rattle.record.specs.Form.{field_of, with_number, with_field, blank, value_kind}
use Rattle.record.specs.Text.{names, name, kind_of, value_text, line_text, text_of}
use Rattle.record.specs.Calls.{with_value, given, refused_at, read_as, read_call}
use Rattle.entry.specs.Form as entry
use Rattle.entry.specs.Form.{kind_at, bytes_at, entry_text}
use Rattle.entry.specs.Calls as entry-calls
use Rattle.entry.specs.Calls.{with_line, begun, rounded, read_entry}
use Rattle.moving.specs.declared.route.Route.TheVariants.{Forward, Back}
use Rattle.moving.specs.Moves.{move_leaves, all_leaves, MoveLeaves, refused_move, moved_as, move_call, moved_all, AllLeaves, refused_all, move_all_call}
use Rattle.moving.specs.Known.{long_record}
use Rattle.moving.proofs.Laws.{moves}
use Rattle.letter.specs.Wrong.Moving.{Wrong}
use Rattle.letter.proofs.Calls.{off, no_set, seen_as}

-- no route is another
forward_kept : Forward ≡ Back → ⊥
forward_kept e = off (cc e)

-- the first digit of the rounds stands behind the lines before it
first_digit : (rounds : List ℕ) → get_or (long_record rounds) 160 0 ≡ 0x32 → get_or rounds 0 0 ≡ 0x32
first_digit [] e = let feed : ◌≡◌ {A = ℕ} 0x0a 0x32 = e in absurd (omega arith)
first_digit (d ∷ rounds) e = e

pub wrong : Wrong
unfolding move_call move_all_call moved_all refused_move moved_as refused_all read_call read_of step_of name_step feed_step value_step kind_of named value_kind with_value given refused_at read_as name names with_number with_field blank field_of row_of table is_set digit_in hex_digit_in text_of line_text value_text line_of places numeral kind_at entry.name entry.value_kind entry.line_text bytes_at entry_text with_line begun rounded entry-calls.given read_entry message_rounds ad_blocks text_blocks rounds_of constants_of constants
wrong = record {
  back_drops = λ taken written κ e q. let p = seen_as (λ w. move_leaves w e.1.1.1.0.now) q in let answer : Done ≡ ChipLost = ap (λ (x : MoveLeaves). x.outcome.answer) p in off (cc answer);
  back_room = λ κ e q. let p = seen_as (λ w. move_leaves w e.1.1.1.0.now) q in let answer : NoRoom ≡ ChipLost = ap (λ (x : MoveLeaves). x.outcome.answer) p in off (cc answer);
  back_broken = λ line column κ e q. let p = seen_as (λ w. move_leaves w e.1.1.1.0.now) q in let answer : ChipLost ≡ BrokenRecord = ap (λ (x : MoveLeaves). x.outcome.answer) p in off (cc answer);
  back_broken_room = λ line column κ e q. let p = seen_as (λ w. move_leaves w e.1.1.1.0.now) q in let answer : NoRoom ≡ BrokenRecord = ap (λ (x : MoveLeaves). x.outcome.answer) p in off (cc answer);
  back_line = λ column κ e q. let p = seen_as (λ w. move_leaves w e.1.1.1.0.now) q in let line : ◌≡◌ {A = ℕ} 3 0 = ap (λ (x : MoveLeaves). x.outcome.line) p in absurd (omega arith);
  back_touched = λ κ q. let p = q.1.1 in let byte : ◌≡◌ {A = ℕ} 1 0 = ap (λ (x : MoveLeaves). get_or x.out 0 0) p in absurd (omega arith);
  back_taken = λ κ e q. let p = seen_as (λ w. move_leaves w e.1.1.1.0.now) q in let taken : ◌≡◌ {A = ℕ} 161 0 = ap (λ (x : MoveLeaves). x.outcome.taken) p in absurd (omega arith);
  forward_chip = λ number text out r lost κ e q. let p = seen_as (λ w. move_leaves w e.1.1.1.0.now) q in forward_kept (((moves Forward).chip number tt text out).0 (sym (ap (λ (x : MoveLeaves). x.outcome.answer) p) ∙ lost)).0;
  forward_again = λ taken written κ e q. let p = seen_as (λ w. move_leaves w e.1.1.1.0.now) q in let answer : Done ≡ BrokenRecord = ap (λ (x : MoveLeaves). x.outcome.answer) p in off (cc answer);
  back_again = λ taken written κ e q. let p = seen_as (λ w. move_leaves w e.1.1.1.0.now) q in let answer : Done ≡ BrokenRecord = ap (λ (x : MoveLeaves). x.outcome.answer) p in off (cc answer);
  all_first = λ line column κ e q. let p = seen_as (λ w. all_leaves w e.1.1.0.now) q in let answer : BrokenRecord ≡ ChipLost = ap (λ (x : AllLeaves). x.outcome.answer) p in off (cc answer);
  all_number = λ κ e q. let p = seen_as (λ w. all_leaves w e.1.1.0.now) q in let number : ◌≡◌ {A = ℕ} 0 1 = ap (λ (x : AllLeaves). x.outcome.records) p in absurd (omega arith);
  all_part = λ records written κ e q. let p = seen_as (λ w. all_leaves w e.1.1.0.now) q in let answer : Done ≡ BrokenRecord = ap (λ (x : AllLeaves). x.outcome.answer) p in off (cc answer);
  all_nothing = λ line column κ e q. let p = seen_as (λ w. all_leaves w e.1.1.0.now) q in let answer : BrokenRecord ≡ Done = ap (λ (x : AllLeaves). x.outcome.answer) p in off (cc answer);
  all_room = λ records written κ e q. let p = seen_as (λ w. all_leaves w e.1.1.0.now) q in let answer : Done ≡ NoRoom = ap (λ (x : AllLeaves). x.outcome.answer) p in off (cc answer);
  import_skip = λ records written κ e q. let p = seen_as (λ w. all_leaves w e.1.1.0.now) q in let answer : Done ≡ BrokenRecord = ap (λ (x : AllLeaves). x.outcome.answer) p in off (cc answer);
  import_again = λ records written κ e q. let p = seen_as (λ w. all_leaves w e.1.1.0.now) q in let answer : Done ≡ BrokenRecord = ap (λ (x : AllLeaves). x.outcome.answer) p in off (cc answer);
  import_nought = λ taken written κ e q. let p = seen_as (λ w. move_leaves w e.1.1.1.0.now) q in let answer : Done ≡ BrokenRecord = ap (λ (x : MoveLeaves). x.outcome.answer) p in off (cc answer);
  import_lower = λ records written κ e q. let p = seen_as (λ w. all_leaves w e.1.1.0.now) q in let answer : Done ≡ BrokenRecord = ap (λ (x : AllLeaves). x.outcome.answer) p in off (cc answer);
  import_blank = λ records written κ e q. let p = seen_as (λ w. all_leaves w e.1.1.0.now) q in let answer : Done ≡ BrokenRecord = ap (λ (x : AllLeaves). x.outcome.answer) p in off (cc answer);
  import_tag = λ κ q. let p = q.1.1 in let byte : ◌≡◌ {A = ℕ} 0x32 0x31 = ap (λ (x : AllLeaves). get_or x.out 87 0) p in absurd (omega arith);
  import_rounds = λ rounds written other κ q. let p = q.1.1 in other (first_digit rounds (ap (λ (x : AllLeaves). get_or x.out 160 0) p));
  import_part = λ κ q. let p = q.1.1 in let byte : ◌≡◌ {A = ℕ} 0x73 0 = ap (λ (x : AllLeaves). get_or x.out 0 0) p in absurd (omega arith);
  import_room = λ number line column κ e q. let p = seen_as (λ w. all_leaves w e.1.1.0.now) q in let answer : NoRoom ≡ BrokenRecord = ap (λ (x : AllLeaves). x.outcome.answer) p in off (cc answer);
  import_end = λ records written κ e q. let p = seen_as (λ w. all_leaves w e.1.1.0.now) q in let answer : Done ≡ BrokenRecord = ap (λ (x : AllLeaves). x.outcome.answer) p in off (cc answer);
  import_set = λ set text out r none differs κ e q. let p = seen_as (λ w. all_leaves w e.1.1.0.now) q in differs (ap (λ (x : AllLeaves). x.outcome.answer) p ∙ rw (no_set set none));
  import_set_one = λ set number text out r none differs κ e q. let p = seen_as (λ w. move_leaves w e.1.1.1.0.now) q in differs (ap (λ (x : MoveLeaves). x.outcome.answer) p ∙ rw (no_set set none));
  import_three = λ r differs κ e q. let p = seen_as (λ w. all_leaves w e.1.1.0.now) q in differs (ap (λ (x : AllLeaves). x.outcome.answer) p);
  import_four = λ r differs κ e q. let p = seen_as (λ w. all_leaves w e.1.1.0.now) q in differs (ap (λ (x : AllLeaves). x.outcome.answer) p);
  import_other_key = λ records written κ e q. let p = seen_as (λ w. all_leaves w e.1.1.0.now) q in let answer : Done ≡ BrokenRecord = ap (λ (x : AllLeaves). x.outcome.answer) p in off (cc answer);
  export_nought = λ κ q. let p = q.1.1 in let byte : ◌≡◌ {A = ℕ} 0x30 0x31 = ap (λ (x : AllLeaves). get_or x.out 8 0) p in absurd (omega arith);
  export_lower = λ κ q. let p = q.1.1 in let byte : ◌≡◌ {A = ℕ} 0x61 0x41 = ap (λ (x : AllLeaves). get_or x.out 37 0) p in absurd (omega arith);
  export_rounds = λ number line column κ e q. let p = seen_as (λ w. all_leaves w e.1.1.0.now) q in let answer : BrokenRecord ≡ Done = ap (λ (x : AllLeaves). x.outcome.answer) p in off (cc answer);
  export_chip = λ records written κ e q. let p = seen_as (λ w. all_leaves w e.1.1.0.now) q in let answer : Done ≡ BrokenRecord = ap (λ (x : AllLeaves). x.outcome.answer) p in off (cc answer);
}
