-- What a bench record holds, part by part, the rule of each part, and which lines each of the two forms has.
use Rattle.std.specs.Prelude.{Bool, true, false, cond, not, ◌&&◌, ◌||◌, List, [], ◌∷◌, ◌++◌, ℕ, zero, suc, ◌+◌, ◌-◌, eqb, leb, length, get_or, take, drop}
use Rattle.ascon.specs.Sets.{table, row_of}
use Rattle.digits.specs.declared.hex.Case.TheVariants.{Lower}
use Rattle.lines.specs.declared.kinds.Value.{Value}
use Rattle.lines.specs.declared.kinds.Value.TheVariants.{Fixed, Number, Bytes}
use Rattle.permutation.specs.Strings.{zeros, same}
use Rattle.record.specs.declared.field.Field.{Field}
use Rattle.record.specs.declared.form.Form.{Form}
use Rattle.record.specs.declared.form.Form.TheVariants.{One, Two}
use Rattle.record.specs.declared.form.Record.{Record}
use Rattle.record.specs.declared.part.Part.{Part}
use Rattle.record.specs.declared.part.Part.TheVariants as part

-- ---- fields

-- bytes, with zeros behind them in 256 places
unfoldable pub field_of : List ℕ → Field
field_of x = record { bytes = x ++ zeros (256 - length x); size = length x }

-- the bytes that a field holds
abbrev pub held : Field → List ℕ
held f = take f.size f.bytes

-- at most 256 bytes, and zero in every place past them
unfoldable pub is_field : Field → Bool
is_field f = leb f.size 256 && same (drop f.size f.bytes) (zeros (256 - f.size))

-- ---- the parts of a record: 1 form, 2 set, 3 chip, 4 key, 5 nonce, 6 ad, 7 text, 8 cipher, 9 tag, 10 rounds; no other number comes up

-- the number of a part of the code's
abbrev pub number_of : Part → ℕ
number_of part.Form = 1
number_of part.Set = 2
number_of part.Chip = 3
number_of part.Key = 4
number_of part.Nonce = 5
number_of part.Ad = 6
number_of part.Text = 7
number_of part.Cipher = 8
number_of part.Tag = 9
number_of part.Rounds = 10

-- form 2 has a line for each part, in this order; form 1 has none for the form and for the chip
abbrev pub part_at : Form → ℕ → ℕ
part_at One line = cond (eqb line 1) 2 (line + 2)
part_at Two line = line

-- how many lines a form has
abbrev pub lines_in : Form → ℕ
lines_in One = 8
lines_in Two = 10

-- key, nonce and tag have the length of the set's key
abbrev pub is_keyed : ℕ → Bool
is_keyed part = eqb part 4 || (eqb part 5 || eqb part 9)

-- the number of a part
abbrev pub number_at : ℕ → Record → ℕ
number_at part r = cond (eqb part 2) r.set (cond (eqb part 3) r.chip r.rounds)

-- the bytes of a part
abbrev pub field_at : ℕ → Record → Field
field_at part r = get_or (r.key ∷ r.nonce ∷ r.ad ∷ r.text ∷ r.cipher ∷ r.tag ∷ []) (part - 4) r.key

-- the record with another number in a part
unfoldable pub with_number : ℕ → ℕ → Record → Record
with_number part n r =
    record {
      set = cond (eqb part 2) n r.set;
      chip = cond (eqb part 3) n r.chip;
      key = r.key;
      nonce = r.nonce;
      ad = r.ad;
      text = r.text;
      cipher = r.cipher;
      tag = r.tag;
      rounds = cond (eqb part 10) n r.rounds;
    }

-- the record with other bytes in a part
unfoldable pub with_field : ℕ → Field → Record → Record
with_field part f r =
    record {
      set = r.set;
      chip = r.chip;
      key = cond (eqb part 4) f r.key;
      nonce = cond (eqb part 5) f r.nonce;
      ad = cond (eqb part 6) f r.ad;
      text = cond (eqb part 7) f r.text;
      cipher = cond (eqb part 8) f r.cipher;
      tag = cond (eqb part 9) f r.tag;
      rounds = r.rounds;
    }

-- the record of zeros
unfoldable pub blank : Record
blank =
    let none = field_of [] in
    record { set = 0; chip = 0; key = none; nonce = none; ad = none; text = none; cipher = none; tag = none; rounds = 0 }

-- ---- rules

-- what a part may hold, where the set is this: nothing, since the name of the form's line is all of it; the number of a known set; a number of 16 bits; a number of at most seven
-- digits; as many bytes as the set's key has, or at most 256
unfoldable pub value_kind : ℕ → ℕ → Value
value_kind part set =
    cond (eqb part 1) (Fixed 2)
    (cond (eqb part 2) (Number 1 (length table))
    (cond (eqb part 3) (Number 0 65_535)
    (cond (eqb part 10) (Number 0 9_999_999) (cond (is_keyed part) (Bytes (row_of set).key (row_of set).key Lower) (Bytes 0 256 Lower)))))

-- a number or a field is what may be held: between two numbers; bytes, at least and at most so many, with zeros behind them
abbrev pub allows : Value → ℕ → Field → Bool
allows (Fixed own) n f = true
allows (Number least most) n f = leb least n && leb n most
allows (Bytes least most case) n f = is_field f && (leb least f.size && leb f.size most)

-- a part holds what it may
unfoldable pub keeps : ℕ → Record → Bool
keeps part r = allows (value_kind part r.set) (number_at part r) (field_at part r)

-- of `count` lines of a form, from a line on, the first that breaks its rule; 0 where none does
abbrev pub broken_from : Form → ℕ → ℕ → Record → ℕ
broken_from form zero line r = 0
broken_from form (suc count) line r = cond (keeps (part_at form line) r) (broken_from form count (line + 1) r) line

-- the first line of a record in a form that breaks its rule; 0 where the record is in form
unfoldable pub broken : Form → Record → ℕ
broken form r = broken_from form (lines_in form) 1 r

-- form 1 has no line for the chip, so a chip other than 0 would be lost in it
abbrev pub loses_chip : Form → Record → Bool
loses_chip One r = not (eqb r.chip 0)
loses_chip Two r = false
