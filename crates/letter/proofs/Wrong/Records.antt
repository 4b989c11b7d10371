-- The contracts rule out the wrong answers of the calls of records, lines and digits: each is computed in the checker, but for four that are laws.
use mathlib.Core.Path.{◌≡◌, sym, ap, ◌∙◌}
use mathlib.Core.List.{List}
use Prim.Native.Nat.{ℕ, suc, ◌<◌}
use Rattle.std.specs.Prelude.{Option, Some, None, Result, Ok, Err}
use native.Mathlib.Omega.{arith}
use lib.ListN.{get_or}
use Rattle.answers.specs.declared.Answer.TheVariants.{Done, NoRoom, BrokenRecord, ChipLost}
use Rattle.ascon.specs.Sets.{table, is_set, row_of}
use Rattle.digits.specs.declared.hex.Case.TheVariants.{Lower}
use Rattle.digits.specs.Hex.{digit_in, digit_of, hex_digit_in}
use Rattle.digits.specs.Numbers.{places, numeral}
use Rattle.digits.specs.Room.{line_of, Laid, put}
use Rattle.digits.proofs.Spelling.{digit_spells, spelled_digit}
use Rattle.lines.specs.declared.kinds.Name.{Name}
use Rattle.lines.specs.declared.step.State.{State}
use Rattle.lines.specs.declared.walk.Line.{Line}
use Rattle.lines.specs.declared.walk.Stopped.{Stopped}
use Rattle.lines.specs.Right.{named}
use Rattle.lines.specs.Steps.{name_step, feed_step, value_step, step_of, read_of}
use Rattle.record.specs.declared.field.Field.{Field}
use Rattle.record.specs.declared.form.Form.{Form}
use Rattle.record.specs.Form.{field_of, is_field, blank, with_number, with_field, value_kind, keeps, broken}
use Rattle.record.specs.Text.{names, name, kind_of}
use Rattle.record.specs.Calls.{Reading, with_value, given, refused_at, read_as, read_call, form_of, inside_mark, read_any, WriteLeaves, write_leaves, refused_with, write_call}
use Rattle.record.specs.Laws.{WrongAt}
use Rattle.record.proofs.Laws.{reads_and_writes}
use Rattle.letter.specs.Wrong.Records.{Wrong}
use Rattle.letter.proofs.Calls.{off, no_set, seen_as}

-- a character that is read as a value is its digit
other : (c v : ℕ) → (v < 16 → hex_digit_in Lower v ≡ c → ⊥) → Some v ≡ digit_of c → ⊥
other c v none p = let spells = digit_spells Lower c v (sym p) in none spells.0 spells.1

-- a digit is read as its value
digit : (v : ℕ) → v < 16 → None ≡ digit_of (hex_digit_in Lower v) → ⊥
digit v h p = let taken : None ≡ Some v = p ∙ spelled_digit Lower v h in off cc

-- a text that is refused has a line and a column
place : (form : Form) (text : List ℕ) (r : Reading) → r.answer ≡ BrokenRecord → r ≡ read_call form text → WrongAt form text r.line r.column
place form text r refused p =
    ((reads_and_writes form).refused text r.line r.column).0
    (sym (ap (λ (q : Reading). q.answer) p) ∙ refused, sym (ap (λ (q : Reading). q.line) p), sym (ap (λ (q : Reading). q.column) p))

-- the column at which a reading of a line stopped, and the line that was found
abbrev column : Result Line Stopped → ℕ
column (Ok line) = 0
column (Err stopped) = stopped.column

abbrev found : Option ℕ → ℕ
found None = 0
found (Some line) = line

pub wrong : Wrong
unfolding write_call refused_with read_as read_any form_of inside_mark blank with_field read_call read_of step_of name_step feed_step value_step kind_of named value_kind with_value given refused_at name names with_number keeps broken is_field field_of row_of table is_set digit_in hex_digit_in places numeral line_of put
wrong = record {
  read_digit_other = λ c v none κ e p. other c v none p;
  read_digit_none = λ v h κ e p. digit v h p;
  is_digit_upper = λ κ e p. off (cc p);
  is_digit_lower = λ κ e p. off (cc p);
  is_digit_f = λ κ e p. off (cc p);
  is-digit-F = λ κ e p. off (cc p);
  read_pair_low = λ κ e p. off (cc p);
  read_pair_half = λ κ e p. off (cc p);
  read_pair_first = λ κ e p. off (cc p);
  read_pair_second = λ κ e p. off (cc p);
  read_pair_neither = λ κ e p. off (cc p);
  read_pair_upper = λ κ e p. off (cc p);
  read_pair_lower = λ κ e p. off (cc p);
  read_pair_lower_first = λ κ e p. off (cc p);
  put_bytes_low = λ κ p. let first : ◌≡◌ {A = ℕ} 0x66 0x31 = ap (λ (x : Laid). get_or x.out 0 0) p in absurd (omega arith);
  put_bytes_case = λ κ p. let second : ◌≡◌ {A = ℕ} 0x66 0x46 = ap (λ (x : Laid). get_or x.out 1 0) p in absurd (omega arith);
  put_bytes_room = λ κ e p. off (cc (ap (λ (x : Laid). x.count) p));
  put_text_room = λ κ e p. off (cc (ap (λ (x : Laid). x.count) p));
  put_text_beyond = λ κ p. off (cc (ap (λ (x : Laid). x.out) p));
  put_line_feed = λ κ e p. off (cc (ap (λ (x : Laid). x.count) p));
  put_line_room = λ κ e p. off (cc (ap (λ (x : Laid). x.count) p));
  number_length_ten = λ κ e p. off (cc p);
  number_length_nought = λ κ e p. off (cc p);
  put_number_ten = λ κ p. let first : ◌≡◌ {A = ℕ} 0x30 0x31 = ap (λ (x : Laid). get_or x.out 0 0) p in absurd (omega arith);
  put_number_room = λ κ e p. off (cc (ap (λ (x : Laid). x.count) p));
  put_number_high = λ κ p. let first : ◌≡◌ {A = ℕ} 0x32 0x31 = ap (λ (x : Laid). get_or x.out 0 0) p in absurd (omega arith);
  named_long = λ κ e p. let size : ◌≡◌ {A = ℕ} 33 0 = ap (λ (x : Name). x.size) p in absurd (omega arith);
  named_size = λ κ e p. let size : ◌≡◌ {A = ℕ} 32 2 = ap (λ (x : Name). x.size) p in absurd (omega arith);
  begun_ended = λ place count number κ e p. off (cc (ap (λ (x : State). x.ended) p));
  begun_digit = λ place number κ e p. let count : ◌≡◌ {A = ℕ} 1 0 = ap (λ (x : State). x.digits) p in absurd (omega arith);
  advance_name = λ κ e p. off (cc p);
  advance_behind = λ κ e p. off (cc p);
  line_zero = λ κ e p. let column : ◌≡◌ {A = ℕ} 3 4 = ap column p in absurd (omega arith);
  line_zero_end = λ κ e p. let column : ◌≡◌ {A = ℕ} 5 4 = ap column p in absurd (omega arith);
  line_nought = λ κ e p. off (cc p);
  line_bound = λ κ e p. let column : ◌≡◌ {A = ℕ} 8 7 = ap column p in absurd (omega arith);
  line_bound_early = λ κ e p. let column : ◌≡◌ {A = ℕ} 6 7 = ap column p in absurd (omega arith);
  line_empty = λ κ e p. off (cc p);
  line_from_nought = λ κ e p. let column : ◌≡◌ {A = ℕ} 0 1 = ap column p in absurd (omega arith);
  line_first_digit = λ κ e p. let column : ◌≡◌ {A = ℕ} 6 5 = ap column p in absurd (omega arith);
  line_second_digit = λ κ e p. let column : ◌≡◌ {A = ℕ} 5 6 = ap column p in absurd (omega arith);
  line_odd = λ κ e p. let column : ◌≡◌ {A = ℕ} 3 4 = ap column p in absurd (omega arith);
  line_byte_too_many = λ κ e p. let column : ◌≡◌ {A = ℕ} 6 5 = ap column p in absurd (omega arith);
  line_byte_too_few = λ κ e p. off (cc p);
  either_later = λ κ e p. let column : ◌≡◌ {A = ℕ} 3 5 = ap column p in absurd (omega arith);
  either_line = λ κ e p. off (cc p);
  read_field_case = λ κ e p. let size : ◌≡◌ {A = ℕ} 1 0 = ap (λ (x : Field). x.size) p in absurd (omega arith);
  read_field_odd = λ κ e p. let size : ◌≡◌ {A = ℕ} 1 0 = ap (λ (x : Field). x.size) p in absurd (omega arith);
  read_nothing = λ column early κ e q. let p = seen_as (λ x. x) q in let line : ◌≡◌ {A = ℕ} 8 1 = ap (λ (x : Reading). x.line) p in absurd (omega arith);
  read_line_nought = λ form text r refused none κ e q. let p = seen_as (λ x. x) q in absurd (omega (arith, (place form text r refused p).first));
  read_column_nought = λ form text r refused none κ e q. let p = seen_as (λ x. x) q in absurd (omega (arith, (place form text r refused p).wrong.first));
  read_taken = λ line column early κ e q. let p = seen_as (λ x. x) q in let taken : ◌≡◌ {A = ℕ} 1 0 = ap (λ (x : Reading). x.taken) p in absurd (omega arith);
  read_odd = λ column early κ e q. let p = seen_as (λ x. x) q in let line : ◌≡◌ {A = ℕ} 3 2 = ap (λ (x : Reading). x.line) p in absurd (omega arith);
  read_feed = λ column early κ e q. let p = seen_as (λ x. x) q in let line : ◌≡◌ {A = ℕ} 2 1 = ap (λ (x : Reading). x.line) p in absurd (omega arith);
  read_decided = λ κ e q. let p = seen_as (λ x. x) q in off (cc (ap (λ (x : Reading). x.early) p));
  read_mended = λ κ e q. let p = seen_as (λ x. x) q in off (cc (ap (λ (x : Reading). x.early) p));
  read_three = λ column early κ e q. let p = seen_as (λ x. x) q in let line : ◌≡◌ {A = ℕ} 1 2 = ap (λ (x : Reading). x.line) p in absurd (omega arith);
  read_four = λ column early κ e q. let p = seen_as (λ x. x) q in let line : ◌≡◌ {A = ℕ} 2 3 = ap (λ (x : Reading). x.line) p in absurd (omega arith);
  read_name = λ column early κ e q. let p = seen_as (λ x. x) q in let line : ◌≡◌ {A = ℕ} 4 3 = ap (λ (x : Reading). x.line) p in absurd (omega arith);
  read_end = λ early κ e q. let p = seen_as (λ x. x) q in let column : ◌≡◌ {A = ℕ} 39 4 = ap (λ (x : Reading). x.column) p in absurd (omega arith);
  read_key_end = λ early κ e q. let p = seen_as (λ x. x) q in let column : ◌≡◌ {A = ℕ} 37 29 = ap (λ (x : Reading). x.column) p in absurd (omega arith);
  read_key_in_record = λ early κ e q. let p = seen_as (λ x. x) q in let column : ◌≡◌ {A = ℕ} 35 29 = ap (λ (x : Reading). x.column) p in absurd (omega arith);
  read_first_digit = λ early κ e q. let p = seen_as (λ x. x) q in let column : ◌≡◌ {A = ℕ} 6 5 = ap (λ (x : Reading). x.column) p in absurd (omega arith);
  read_zero = λ early κ e q. let p = seen_as (λ x. x) q in let column : ◌≡◌ {A = ℕ} 8 9 = ap (λ (x : Reading). x.column) p in absurd (omega arith);
  write_no_line = λ column κ e q. let p = seen_as (λ w. write_leaves w e.1.1.0.now) q in let line : ◌≡◌ {A = ℕ} 0 1 = ap (λ (x : WriteLeaves). x.outcome.line) p in absurd (omega arith);
  write_column = λ line column κ e q. let p = seen_as (λ w. write_leaves w e.1.1.0.now) q in let none : suc column ≡ 0 = ap (λ (x : WriteLeaves). x.outcome.column) p in absurd (omega arith);
  write_touched = λ κ q. let p = q.1.1 in let byte : ◌≡◌ {A = ℕ} 1 0 = ap (λ (x : WriteLeaves). get_or x.out 0 0) p in absurd (omega arith);
  write_room = λ line column κ e q. let p = seen_as (λ w. write_leaves w e.1.1.0.now) q in let answer : NoRoom ≡ BrokenRecord = ap (λ (x : WriteLeaves). x.outcome.answer) p in off (cc answer);
  first_broken_text = λ κ e p. let line : ◌≡◌ {A = ℕ} 6 5 = ap found p in absurd (omega arith);
  first_broken_long = λ κ e p. off (cc p);
  first_broken_key = λ κ e p. off (cc p);
  first_broken_three = λ other differs κ e p. differs p;
  first_broken_four = λ other differs κ e p. differs p;
  first_broken_set = λ set none other differs κ e p. differs (p ∙ rw (no_set set none));
  two_set = λ set none other differs κ e p. differs (p ∙ rw (no_set set none));
  first_broken_rounds = λ κ e p. off (cc p);
  first_broken_past = λ κ e p. off (cc p);
  two_chip_past = λ column early κ e q. let p = seen_as (λ x. x) q in let line : ◌≡◌ {A = ℕ} 4 3 = ap (λ (x : Reading). x.line) p in absurd (omega arith);
  two_chip_zeros = λ column early κ e q. let p = seen_as (λ x. x) q in let line : ◌≡◌ {A = ℕ} 4 3 = ap (λ (x : Reading). x.line) p in absurd (omega arith);
  two_chip_line = λ column early κ e q. let p = seen_as (λ x. x) q in let line : ◌≡◌ {A = ℕ} 2 3 = ap (λ (x : Reading). x.line) p in absurd (omega arith);
  two_numbered = λ column early κ e q. let p = seen_as (λ x. x) q in let line : ◌≡◌ {A = ℕ} 8 10 = ap (λ (x : Reading). x.line) p in absurd (omega arith);
  two_chip_dropped = λ κ e q. let p = seen_as (λ x. x) q in let chip : ◌≡◌ {A = ℕ} 0 7 = ap (λ (x : Reading). x.content.chip) p in absurd (omega arith);
  any_form_one = λ early κ e q. let p = seen_as (λ x. x) q in let column : ◌≡◌ {A = ℕ} 1 6 = ap (λ (x : Reading). x.column) p in absurd (omega arith);
  any_inside = λ κ e q. let p = seen_as (λ x. x) q in off (cc (ap (λ (x : Reading). x.early) p));
  any_two = λ taken r few κ e q. let p = seen_as (λ x. x) q in let all : taken ≡ 161 = ap (λ (x : Reading). x.taken) p in absurd (omega arith);
  first_broken_chip = λ κ e p. off (cc p);
  first_broken_chip_line = λ κ e p. let line : ◌≡◌ {A = ℕ} 2 3 = ap found p in absurd (omega arith);
  write_chip = λ line column written κ e q. let p = seen_as (λ w. write_leaves w e.1.1.0.now) q in let answer : Done ≡ ChipLost = ap (λ (x : WriteLeaves). x.outcome.answer) p in off (cc answer);
  write_chip_room = λ line column κ e q. let p = seen_as (λ w. write_leaves w e.1.1.0.now) q in let answer : NoRoom ≡ ChipLost = ap (λ (x : WriteLeaves). x.outcome.answer) p in off (cc answer);
}
