-- The lines of an entry in form are rows of the table, and give the entry.
use mathlib.Core.Path.{◌≡◌, refl, sym, ap, ◌∙◌}
use mathlib.Core.Bool.{true, cond}
use mathlib.Core.List.{List, []}
use Prim.Native.Nat.{ℕ, zero, suc, ◌≤◌, ◌<◌}
use native.Mathlib.Omega.{arith}
use lib.Dec.{leb}
use Rattle.digits.specs.declared.hex.Case.TheVariants.{Lower}
use Rattle.digits.specs.Ascii.{ascii}
use Rattle.digits.specs.Hex.{from_hex_in, hex_in}
use Rattle.digits.specs.Numbers.{numeral}
use Rattle.digits.specs.Room.{line_of}
use Rattle.digits.proofs.Spelling.{and_both}
use Rattle.lines.specs.declared.kinds.Value.TheVariants.{Bytes}
use Rattle.lines.specs.Right.{Spells, Right}
use Rattle.lines.specs.Texts.{text_from}
use Rattle.lines.proofs.Texts.{Next, lines_rows}
use Rattle.lines.proofs.Values.{value_in_lem}
use Rattle.record.specs.declared.field.Field.{Field}
use Rattle.record.specs.Form.{field_of, held, is_field, allows}
use Rattle.record.specs.Calls.{fitted}
use Rattle.record.specs.Laws.{Whole}
use Rattle.record.proofs.Lines.{field_spells, field_read}
use Rattle.chip_log.specs.declared.form.Call.{Call}
use Rattle.chip_log.specs.declared.form.Call.TheVariants.{Start1, Start2, Ad, Text, Finish}
use Rattle.chip_log.specs.declared.form.Entry.{Entry}
use Rattle.chip_log.specs.Form.{word_of, data_kind, name, value_kind, kind_at, rank_of, call_kind, line_text, blank}
use Rattle.chip_log.specs.Calls.{call_of, field_in, given}
use Rattle.chip_log.specs.Laws.{InForm}
use Rattle.chip_log.proofs.Table.{right_at, EntryRows, call_first, data_bytes, data_field, name_is, fit_kind, call_is}

-- ---- a line

-- a number tells its call
pub call_told : (call : Call) → call_of (rank_of call) ≡ call
call_told Start1 = refl
call_told Start2 = refl
call_told Ad = refl
call_told Text = refl
call_told Finish = refl

-- a first line is right for its call
first_right : (call : Call) → Right (call_kind call) (line_of (ascii "call=") (word_of call)) (rank_of call)
unfolding call_kind line_of
first_right call = record { value = []; spelled = (refl, refl); whole = ap (λ (x : List ℕ). line_of x []) (sym (call_is call)) }

-- a line behind it is right where it spells what it may hold
line_right : (call : Call) (line : ℕ) (value : List ℕ) (says : ℕ) → Spells (value_kind call line) says value
    → Right (kind_at call line) (line_of (name line) value) says
unfolding kind_at
line_right call line value says s = record { value = value; spelled = s; whole = ap (λ (x : List ℕ). line_of x value) (sym (name_is call line)) }

-- data that its call may have are bytes in form, and are spelled
data_spells : (call : Call) (f : Field) → Whole f → allows (data_kind call) 0 f ≡ true → (is_field f ≡ true) × Spells (data_kind call) 0 (hex_in Lower (held f))
data_spells call f w k =
    let d = data_bytes call in
    let allowed : allows (Bytes d.least d.most Lower) 0 f ≡ true = rw d.is at k in
    (data_field call f k, rw d.is (field_spells Lower f d.least d.most w allowed))

-- the field of a line's digits is the field that was spelled
field_back : (call : Call) (line : ℕ) (f : Field) → is_field f ≡ true → Whole f → Spells (value_kind call line) 0 (hex_in Lower (held f))
    → field_in (kind_at call line) (line_of (name line) (hex_in Lower (held f))) ≡ f
unfolding field_in line_right
field_back call line f k w s =
    let right = line_right call line (hex_in Lower (held f)) 0 s in
    ap (λ (x : List ℕ). fitted (from_hex_in Lower x)) (value_in_lem (kind_at call line) _ 0 (fit_kind call line) right) ∙ field_read Lower f true (rw k) w

-- ---- the lines of an entry

-- what the first k lines give
abbrev pub filled : Entry → ℕ → Entry
filled e k =
    record {
      call = cond (leb 1 k) e.call Start1;
      input = cond (leb 2 k) e.input (field_of []);
      answer = cond (leb 3 k) e.answer 0;
      out = cond (leb 4 k) e.out (field_of []);
      rounds = cond (leb 5 k) e.rounds 0;
    }

module _ (e : Entry) (f : InForm e) where
  -- a line behind the first k
  abbrev NextLine : ℕ → Type 0
  NextLine = Next right_at given blank line_text e (filled e)

  -- the call
  first : NextLine 0
  unfolding line_text given
  first =
      record {
        says = rank_of e.call;
        right = call_first e.call _ _ (first_right e.call);
        gives = λ j. record { call = sym (call_told e.call) j; input = field_of []; answer = 0; out = field_of []; rounds = 0 };
      }

  -- the data
  second : NextLine 1
  unfolding line_text given
  second =
      let s = data_spells e.call e.input f.input_bytes f.input in
      let back = field_back e.call 2 e.input s.0 f.input_bytes s.1 in
      record {
        says = 0;
        right = line_right e.call 2 (hex_in Lower (held e.input)) 0 s.1;
        gives = λ j. record { call = e.call; input = sym back j; answer = 0; out = field_of []; rounds = 0 };
      }

  -- the answer
  third : NextLine 2
  unfolding line_text given
  third =
      record {
        says = e.answer;
        right = line_right e.call 3 (numeral e.answer) e.answer (omega arith, f.answer, refl);
        gives = refl;
      }

  -- the output
  fourth : NextLine 3
  unfolding line_text given
  fourth =
      let s : Spells (value_kind e.call 4) 0 (hex_in Lower (held e.out)) = field_spells Lower e.out 0 256 f.out_bytes f.out in
      let back = field_back e.call 4 e.out (and_both (is_field e.out) _ f.out).0 f.out_bytes s in
      record {
        says = 0;
        right = line_right e.call 4 (hex_in Lower (held e.out)) 0 s;
        gives = λ j. record { call = e.call; input = e.input; answer = e.answer; out = sym back j; rounds = 0 };
      }

  -- the rounds
  fifth : NextLine 4
  unfolding line_text given
  fifth =
      record {
        says = e.rounds;
        right = line_right e.call 5 (numeral e.rounds) e.rounds (omega arith, f.rounds, refl);
        gives = refl;
      }

  -- so is each of the five
  next : (k : ℕ) → k < 5 → NextLine k
  next zero h = first
  next (suc zero) h = second
  next (suc (suc zero)) h = third
  next (suc (suc (suc zero))) h = fourth
  next (suc (suc (suc (suc zero)))) h = fifth
  next (suc (suc (suc (suc (suc k))))) h = absurd (omega arith)

-- the first k lines of an entry in form are right, and give what they say
pub rows_text : (e : Entry) → InForm e → (k : ℕ) → k ≤ 5 → EntryRows k (text_from line_text k 1 e) (filled e k)
unfolding blank
rows_text e f = lines_rows right_at given blank line_text e 5 (filled e) refl (next e f)
