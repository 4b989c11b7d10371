-- Known answers of the definitions, written down from the papers: what is read, and the line and column of each kind of fault.
use Rattle.std.specs.Prelude.{◌≡◌, true, false, List, [], ◌∷◌, ◌++◌, ℕ, replicate, drop}
use Rattle.permutation.specs.Strings.{zeros}
use Rattle.digits.specs.Ascii.{ascii}
use Rattle.record.specs.declared.form.Form.TheVariants.{One, Two}
use Rattle.record.specs.declared.form.Record.{Record}
use Rattle.record.specs.Form.{field_of}
use Rattle.record.specs.Calls.{refused_at, read_as, read_call, read_any}

-- the first seven lines of the rules' whole case: set 1, key, nonce and tag of zeros, all else empty
abbrev pub seven_lines : List ℕ
seven_lines =
    ascii "set=1\nkey=00000000000000000000000000000000\nnonce=00000000000000000000000000000000\nad=\ntext=\ncipher=\ntag=00000000000000000000000000000000\n"

-- that case in a set whose keys are of 16 bytes, with 25 rounds, and a chip
abbrev pub whole_case : ℕ → ℕ → Record
whole_case set chip =
    let sixteen = field_of (zeros 16) in
    let none = field_of [] in
    record { set = set; chip = chip; key = sixteen; nonce = sixteen; ad = none; text = none; cipher = none; tag = sixteen; rounds = 25 }

-- the first two lines of a record of set 2, with a key of 16 bytes
abbrev pub other_key : List ℕ
other_key = ascii "set=2\nkey=" ++ (replicate 32 0x30 ++ (0x0a ∷ []))

-- the first nine lines of the rules' whole case in form 2, with chip 7
abbrev pub nine_lines : List ℕ
nine_lines =
    ascii "form=2\nset=1\nchip=7\nkey=00000000000000000000000000000000\nnonce=00000000000000000000000000000000\nad=\ntext=\ncipher=\ntag=00000000000000000000000000000000\n"

pub record Known : Type 0 where
  -- the rules' whole case is read, with a further byte behind it
  pub whole_case_lem : read_call One (seven_lines ++ ascii "rounds=25\nx") ≡ read_as 147 (whole_case 1 0)
  -- and in sets 3 and 4
  pub set_three : read_call One (ascii "set=3\n" ++ (drop 6 seven_lines ++ ascii "rounds=25\n")) ≡ read_as 147 (whole_case 3 0)
  pub set_four : read_call One (ascii "set=4\n" ++ (drop 6 seven_lines ++ ascii "rounds=25\n")) ≡ read_as 147 (whole_case 4 0)
  -- a wrong character in a name, and at the beginning of one
  pub name : read_call One (ascii "set=1\nkex=") ≡ refused_at 2 3 false
  pub name_first : read_call One (ascii "x") ≡ refused_at 1 1 false
  -- an unknown set, past the last one and before the first, a second digit, and a needless zero before it
  pub set_five : read_call One (ascii "set=5\n") ≡ refused_at 1 5 false
  pub set_zero : read_call One (ascii "set=0\n") ≡ refused_at 1 5 false
  pub set_twelve : read_call One (ascii "set=12\n") ≡ refused_at 1 6 false
  pub set_nought : read_call One (ascii "set=01\n") ≡ refused_at 1 5 false
  -- a wrong digit of a pair: the first, the second, both
  pub first_digit : read_call One (ascii "set=1\nkey=g0") ≡ refused_at 2 5 false
  pub second_digit : read_call One (ascii "set=1\nkey=0g") ≡ refused_at 2 6 false
  pub both_digits : read_call One (ascii "set=1\nkey=00GG") ≡ refused_at 2 7 false
  -- an odd number of digits: the line feed comes too early
  pub odd : read_call One (ascii "set=1\nkey=0\n") ≡ refused_at 2 6 false
  -- a key of 16 bytes in set 2: its 25th digit
  pub other_key : read_call One other_key ≡ refused_at 2 29 false
  -- a key of 12 bytes in set 4: the line feed comes too early
  pub short_key : read_call One (ascii "set=4\nkey=000000000000000000000000\n") ≡ refused_at 2 29 false
  -- too few bytes, and a carriage return
  pub too_few : read_call One (ascii "set=2\nkey=00\n") ≡ refused_at 2 7 false
  pub carriage_return : read_call One (ascii "set=1\r\n") ≡ refused_at 1 6 false
  -- rounds: a needless zero, an eighth digit, no digit
  pub needless_zero : read_call One (seven_lines ++ ascii "rounds=024\n") ≡ refused_at 8 9 false
  pub eight_digits : read_call One (seven_lines ++ ascii "rounds=12345678\n") ≡ refused_at 8 15 false
  pub no_digit : read_call One (seven_lines ++ ascii "rounds=\n") ≡ refused_at 8 8 false
  -- a text that ends: in a name, before a line feed, before a line
  pub cut_name : read_call One (ascii "se") ≡ refused_at 1 3 true
  pub cut_feed : read_call One (ascii "set=1") ≡ refused_at 1 6 true
  pub missing : read_call One (ascii "set=1\n") ≡ refused_at 2 1 true
  pub last_missing : read_call One seven_lines ≡ refused_at 8 1 true
  -- the same in form 2, with its chip; and its last line missing, cut and wrong, by form 2's numbers
  pub whole_two : read_call Two (nine_lines ++ ascii "rounds=25\nx") ≡ read_as 161 (whole_case 1 7)
  pub two_missing : read_call Two nine_lines ≡ refused_at 10 1 true
  pub two_cut : read_call Two (nine_lines ++ ascii "rounds=2") ≡ refused_at 10 9 true
  pub two_wrong : read_call Two (nine_lines ++ ascii "rounds=025\n") ≡ refused_at 10 9 false
  -- the form's line has one right spelling
  pub form_one : read_call Two (ascii "form=1\n") ≡ refused_at 1 6 false
  pub form_long : read_call Two (ascii "form=22\n") ≡ refused_at 1 7 false
  pub form_nought : read_call Two (ascii "form=02\n") ≡ refused_at 1 6 false
  -- chips: the largest and one digit more, one past the largest, far past it, a needless zero, none
  pub chip_largest : read_call Two (ascii "form=2\nset=1\nchip=65535\n") ≡ refused_at 4 1 true
  pub chip_digits : read_call Two (ascii "form=2\nset=1\nchip=655350\n") ≡ refused_at 3 11 false
  pub chip_past : read_call Two (ascii "form=2\nset=1\nchip=65536\n") ≡ refused_at 3 10 false
  pub chip_far : read_call Two (ascii "form=2\nset=1\nchip=70000\n") ≡ refused_at 3 10 false
  pub chip_zeros : read_call Two (ascii "form=2\nset=1\nchip=00\n") ≡ refused_at 3 7 false
  pub chip_none : read_call Two (ascii "form=2\nset=1\nchip=\n") ≡ refused_at 3 6 false
  -- a record of the other form
  pub two_of_one : read_call Two (ascii "set=1\n") ≡ refused_at 1 1 false
  pub one_of_two : read_call One (ascii "form=2\n") ≡ refused_at 1 1 false
  -- of either form: what begins `form=` is of form 2, all else of form 1; inside that word it can still go on
  pub any_two : read_any (nine_lines ++ ascii "rounds=25\nx") ≡ read_as 161 (whole_case 1 7)
  pub any_one : read_any (seven_lines ++ ascii "rounds=25\nx") ≡ read_as 147 (whole_case 1 0)
  pub any_form_one : read_any (ascii "form=1\n") ≡ refused_at 1 6 false
  pub any_nothing : read_any [] ≡ refused_at 1 1 true
  pub any_inside : read_any (ascii "form") ≡ refused_at 1 1 true
  pub any_mark : read_any (ascii "form=") ≡ refused_at 1 6 true
  pub any_off : read_any (ascii "fork") ≡ refused_at 1 1 false
  pub any_set : read_any (ascii "se") ≡ refused_at 1 3 true
