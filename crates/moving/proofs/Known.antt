-- The definitions give the known answers, by computation.
use mathlib.Core.Path.{refl}
use Rattle.ascon.specs.Sets.{table, is_set, row_of}
use Rattle.ascon.specs.Rounds.{ad_blocks, text_blocks, message_rounds}
use Rattle.permutation.specs.Runs.{rounds_of, constants_of, constants}
use Rattle.digits.specs.Hex.{digit_in, hex_digit_in}
use Rattle.digits.specs.Numbers.{places, numeral}
use Rattle.digits.specs.Room.{line_of}
use Rattle.lines.specs.Right.{named}
use Rattle.lines.specs.Steps.{name_step, feed_step, value_step, step_of, read_of}
use Rattle.record.specs.Form.{field_of, with_number, with_field, blank, value_kind}
use Rattle.record.specs.Text.{names, name, kind_of, value_text, line_text, text_of}
use Rattle.record.specs.Calls.{with_value, given, refused_at, read_as, read_call}
use Rattle.entry.specs.Form as entry
use Rattle.entry.specs.Form.{kind_at, bytes_at, entry_text}
use Rattle.entry.specs.Calls as entry-calls
use Rattle.entry.specs.Calls.{with_line, begun, rounded, read_entry}
use Rattle.moving.specs.Moves.{refused_move, moved_as, move_call, moved_all, refused_all, move_all_call}
use Rattle.moving.specs.Known.{Known}

pub known : Known
unfolding move_call move_all_call moved_all refused_move moved_as refused_all read_call read_of step_of name_step feed_step value_step kind_of named value_kind with_value given refused_at read_as name names with_number with_field blank field_of row_of table is_set digit_in hex_digit_in text_of line_text value_text line_of places numeral kind_at entry.name entry.value_kind entry.line_text bytes_at entry_text with_line begun rounded entry-calls.given read_entry message_rounds ad_blocks text_blocks rounds_of constants_of constants
known = record {
  forward = refl;
  back = refl;
  short = refl;
  chip = refl;
  back_again = refl;
  forward_again = refl;
  all_forward = refl;
  all_broken = refl;
  all_chip = refl;
  import_bytes = refl;
  export_bytes = refl;
  import_three = refl;
  import_four = refl;
  export_three = refl;
  export_four = refl;
  import_two = refl;
  export_two = refl;
  import_lengths = refl;
  export_rounds = refl;
  import_set = refl;
  import_none = refl;
  import_skip = refl;
  import_again = refl;
  import_blank = refl;
  import_lower = refl;
  import_text_long = refl;
  import_data_long = refl;
  import_cipher_long = refl;
  import_cipher_short = refl;
  import_end = refl;
  import_broken_room = refl;
  import_room = refl;
  export_line = refl;
  export_two_form = refl;
}
