-- The definitions give the known answers, by computation.
use mathlib.Core.Path.{refl}
use Rattle.ascon.specs.Sets.{table, row_of}
use Rattle.digits.specs.Hex.{digit_in}
use Rattle.lines.specs.Right.{named}
use Rattle.lines.specs.Steps.{name_step, feed_step, value_step, step_of, read_of}
use Rattle.record.specs.Form.{field_of, with_number, with_field, blank, value_kind}
use Rattle.record.specs.Text.{names, name, kind_of}
use Rattle.record.specs.Calls.{with_value, given, refused_at, read_as, read_call, form_of, inside_mark, read_any}
use Rattle.record.specs.Known.{Known}

pub known : Known
unfolding read_call read_any form_of inside_mark read_of step_of name_step feed_step value_step kind_of named value_kind with_value given refused_at read_as name names with_number with_field blank field_of row_of table digit_in
known = record {
  whole_case_lem = refl;
  set_three = refl;
  set_four = refl;
  name = refl;
  name_first = refl;
  set_five = refl;
  set_zero = refl;
  set_twelve = refl;
  set_nought = refl;
  first_digit = refl;
  second_digit = refl;
  both_digits = refl;
  odd = refl;
  other_key = refl;
  short_key = refl;
  too_few = refl;
  carriage_return = refl;
  needless_zero = refl;
  eight_digits = refl;
  no_digit = refl;
  cut_name = refl;
  cut_feed = refl;
  missing = refl;
  last_missing = refl;
  whole_two = refl;
  two_missing = refl;
  two_cut = refl;
  two_wrong = refl;
  form_one = refl;
  form_long = refl;
  form_nought = refl;
  chip_largest = refl;
  chip_digits = refl;
  chip_past = refl;
  chip_far = refl;
  chip_zeros = refl;
  chip_none = refl;
  two_of_one = refl;
  one_of_two = refl;
  any_two = refl;
  any_one = refl;
  any_form_one = refl;
  any_nothing = refl;
  any_inside = refl;
  any_mark = refl;
  any_off = refl;
  any_set = refl;
}
