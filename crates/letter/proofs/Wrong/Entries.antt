-- The contracts rule out the wrong answers of the calls of entries: each is computed in the checker, but for one that is a law.
use mathlib.Core.Path.{◌≡◌, refl, sym, ap, ◌∙◌}
use mathlib.Core.List.{List}
use Prim.Native.Nat.{ℕ}
use native.Mathlib.Omega.{arith}
use lib.ListN.{get_or}
use Rattle.answers.specs.declared.Answer.TheVariants.{Done, NoRoom, BrokenRecord, ChipLost}
use Rattle.permutation.specs.Runs.{rounds_of, constants_of, constants}
use Rattle.ascon.specs.Sets.{table, is_set, row_of}
use Rattle.ascon.specs.Rounds.{ad_blocks, text_blocks, message_rounds}
use Rattle.digits.specs.Hex.{digit_in, hex_digit_in}
use Rattle.digits.specs.Numbers.{places, numeral}
use Rattle.digits.specs.Room.{line_of}
use Rattle.lines.specs.Right.{named}
use Rattle.lines.specs.Steps.{name_step, feed_step, value_step, step_of, read_of}
use Rattle.record.specs.Form.{field_of, is_field, with_number, with_field, blank, value_kind, keeps, broken}
use Rattle.record.specs.Calls.{Reading, write_leaves, refused_at, read_as, WriteLeaves, refused_with}
use Rattle.entry.specs.Form as entry
use Rattle.entry.specs.Form.{kind_at, bytes_at, line_text, entry_text}
use Rattle.entry.specs.Calls.{with_line, begun, rounded, given, read_entry, write_entry}
use Rattle.entry.specs.Laws.{WrongAt}
use Rattle.entry.proofs.Laws.{entries}
use Rattle.letter.specs.Wrong.Entries.{Wrong}
use Rattle.letter.proofs.Calls.{off, no_set, seen_as}

-- a text that is refused is wrong at a line and column
place : (text : List ℕ) (r : Reading) → r.answer ≡ BrokenRecord → r ≡ read_entry 1 1 text → WrongAt 1 1 text r.line r.column
unfolding is_set table
place text r refused p =
    ((entries.reads 1 1 refl (omega arith)).refused text r.line r.column).0
    (sym (ap (λ (q : Reading). q.answer) p) ∙ refused, sym (ap (λ (q : Reading). q.line) p), sym (ap (λ (q : Reading). q.column) p))

pub wrong : Wrong
unfolding read_entry write_entry refused_with refused_at read_as read_of step_of name_step feed_step value_step kind_at named entry.name entry.value_kind with_line begun rounded given bytes_at line_text entry_text line_of blank field_of is_field with_number with_field value_kind keeps broken row_of table is_set digit_in hex_digit_in places numeral message_rounds ad_blocks text_blocks rounds_of constants_of constants
wrong = record {
  read_nothing = λ column early κ e q. let p = seen_as (λ x. x) q in let line : ◌≡◌ {A = ℕ} 7 1 = ap (λ (x : Reading). x.line) p in absurd (omega arith);
  read_line_nought = λ text r refused none κ e q. let p = seen_as (λ x. x) q in absurd (omega (arith, (place text r refused p).first));
  read_column_nought = λ text r refused none κ e q. let p = seen_as (λ x. x) q in absurd (omega (arith, (place text r refused p).wrong.first));
  read_count_longer = λ early κ e q. let p = seen_as (λ x. x) q in let column : ◌≡◌ {A = ℕ} 9 10 = ap (λ (x : Reading). x.column) p in absurd (omega arith);
  read_count_zero = λ early κ e q. let p = seen_as (λ x. x) q in let column : ◌≡◌ {A = ℕ} 10 9 = ap (λ (x : Reading). x.column) p in absurd (omega arith);
  read_inside = λ κ e q. let p = seen_as (λ x. x) q in off (cc (ap (λ (x : Reading). x.early) p));
  read_rounds = λ taken rounds other κ e q. let p = seen_as (λ x. x) q in other (ap (λ (x : Reading). x.content.rounds) p);
  read_set = λ set number text r none differs κ e q. let p = seen_as (λ x. x) q in differs (ap (λ (x : Reading). x.answer) p ∙ rw (no_set set none));
  write_broken = λ line column κ e q. let p = seen_as (λ w. write_leaves w e.1.1.0.now) q in let answer : NoRoom ≡ BrokenRecord = ap (λ (x : WriteLeaves). x.outcome.answer) p in off (cc answer);
  write_line = λ κ e q. let p = seen_as (λ w. write_leaves w e.1.1.0.now) q in let line : ◌≡◌ {A = ℕ} 4 5 = ap (λ (x : WriteLeaves). x.outcome.line) p in absurd (omega arith);
  write_chip = λ line column written κ e q. let p = seen_as (λ w. write_leaves w e.1.1.0.now) q in let answer : Done ≡ ChipLost = ap (λ (x : WriteLeaves). x.outcome.answer) p in off (cc answer);
  write_touched = λ κ q. let p = q.1.1 in let byte : ◌≡◌ {A = ℕ} 1 0 = ap (λ (x : WriteLeaves). get_or x.out 0 0) p in absurd (omega arith);
  write_room = λ line column written κ e q. let p = seen_as (λ w. write_leaves w e.1.1.0.now) q in let answer : Done ≡ NoRoom = ap (λ (x : WriteLeaves). x.outcome.answer) p in off (cc answer);
}
