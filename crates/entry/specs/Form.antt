-- The entry of a published test file, line by line: Count, Key, Nonce, PT, AD, CT, and an empty line.
use Rattle.std.specs.Prelude.{List, [], ◌∷◌, ◌++◌, ℕ, ◌+◌, ◌-◌, get_or}
use Rattle.ascon.specs.Sets.{row_of}
use Rattle.ascon.specs.Rounds.{message_rounds}
use Rattle.digits.specs.declared.hex.Case.TheVariants.{Upper}
use Rattle.digits.specs.Ascii.{ascii}
use Rattle.digits.specs.Hex.{hex_in}
use Rattle.digits.specs.Numbers.{numeral}
use Rattle.digits.specs.Room.{line_of}
use Rattle.lines.specs.declared.kinds.Kind.{Kind}
use Rattle.lines.specs.declared.kinds.Value.{Value}
use Rattle.lines.specs.declared.kinds.Value.TheVariants.{Fixed, Bytes}
use Rattle.lines.specs.Right.{named}
use Rattle.lines.specs.Texts.{text_from}
use Rattle.record.specs.declared.form.Record.{Record}
use Rattle.record.specs.Form.{held}
use Rattle.entry.specs.declared.form.Part.{Part}
use Rattle.entry.specs.declared.form.Part.TheVariants as part

-- the largest number of an entry: that of 64 bits
abbrev pub largest_number : ℕ
largest_number = 18_446_744_073_709_551_615

-- ---- the table

-- the number of the line in which a part of the code's stands
abbrev pub number_of : Part → ℕ
number_of part.Count = 1
number_of part.Key = 2
number_of part.Nonce = 3
number_of part.Pt = 4
number_of part.Ad = 5
number_of part.Ct = 6
number_of part.End = 7

-- what each line begins with, in the entry of this number; the first line is no more than that, and the last is empty
unfoldable pub name : ℕ → ℕ → List ℕ
name number line =
    get_or ((ascii "Count = " ++ numeral number) ∷ ascii "Key = " ∷ ascii "Nonce = " ∷ ascii "PT = " ∷ ascii "AD = " ∷ ascii "CT = " ∷ []) (line - 1) []

-- what may stand behind it, where a key has so many bytes: as many; at most 256; the ciphertext, of at most 256, and the tag
unfoldable pub value_kind : ℕ → ℕ → Value
value_kind key line =
    get_or (Fixed 0 ∷ Bytes key key Upper ∷ Bytes key key Upper ∷ Bytes 0 256 Upper ∷ Bytes 0 256 Upper ∷ Bytes key (key + 256) Upper ∷ []) (line - 1) (Fixed 0)

-- the kind of a line, in an entry of this set and number
unfoldable pub kind_at : ℕ → ℕ → ℕ → Kind
kind_at set number line = record { name = named (name number line); value = value_kind (row_of set).key line }

-- ---- the text

-- the bytes of a record that each line has; the tag is the end of CT
unfoldable pub bytes_at : ℕ → Record → List ℕ
bytes_at line r = get_or ([] ∷ held r.key ∷ held r.nonce ∷ held r.text ∷ held r.ad ∷ (held r.cipher ++ held r.tag) ∷ []) (line - 1) []

-- a line of a record's entry, with its line feed
unfoldable pub line_text : ℕ → ℕ → Record → List ℕ
line_text number line r = line_of (name number line) (hex_in Upper (bytes_at line r))

-- the entry of a record, by its number: seven lines, each straight after the one before
unfoldable pub entry_text : ℕ → Record → List ℕ
entry_text number r = text_from (line_text number) 7 1 r

-- ---- the rounds

-- those of the formula, for a record's set and the lengths of its data and its text
abbrev pub right_rounds : Record → ℕ
right_rounds r = message_rounds (row_of r.set) r.ad.size r.text.size
