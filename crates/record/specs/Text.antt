-- A bench record as text, in either form.
use Rattle.std.specs.Prelude.{List, [], ◌∷◌, ℕ, ◌-◌, get_or}
use Rattle.digits.specs.Ascii.{ascii}
use Rattle.digits.specs.Hex.{hex_in}
use Rattle.digits.specs.Numbers.{numeral}
use Rattle.digits.specs.Room.{line_of}
use Rattle.lines.specs.declared.kinds.Kind.{Kind}
use Rattle.lines.specs.declared.kinds.Value.{Value}
use Rattle.lines.specs.declared.kinds.Value.TheVariants.{Fixed, Number, Bytes}
use Rattle.lines.specs.Right.{named}
use Rattle.lines.specs.Texts as texts
use Rattle.record.specs.declared.field.Field.{Field}
use Rattle.record.specs.declared.form.Form.{Form}
use Rattle.record.specs.declared.form.Form.TheVariants.{One, Two}
use Rattle.record.specs.declared.form.Record.{Record}
use Rattle.record.specs.Form.{held, part_at, lines_in, number_at, field_at, value_kind}

-- the names of the parts; the form's is its whole line
unfoldable pub names : List (List ℕ)
names =
    ascii "form=2"
    ∷ ascii "set="
    ∷ ascii "chip="
    ∷ ascii "key="
    ∷ ascii "nonce="
    ∷ ascii "ad="
    ∷ ascii "text="
    ∷ ascii "cipher="
    ∷ ascii "tag="
    ∷ ascii "rounds="
    ∷ []

-- the name of a part
unfoldable pub name : ℕ → List ℕ
name part = get_or names (part - 1) (get_or names 0 [])

-- the kind of a part's line, where the set is this
unfoldable pub kind_of : ℕ → ℕ → Kind
kind_of part set = record { name = named (name part); value = value_kind part set }

-- what stands behind the name: nothing, a number in decimals, or bytes in hex
abbrev pub spelled_as : Value → ℕ → Field → List ℕ
spelled_as (Fixed own) n f = []
spelled_as (Number least most) n f = numeral n
spelled_as (Bytes least most case) n f = hex_in case (held f)

-- of a part
unfoldable pub value_text : ℕ → Record → List ℕ
value_text part r = spelled_as (value_kind part r.set) (number_at part r) (field_at part r)

-- the line of a part, with its line feed
unfoldable pub line_text : ℕ → Record → List ℕ
line_text part r = line_of (name part) (value_text part r)

-- a line of a form
abbrev pub form_line : Form → ℕ → Record → List ℕ
form_line form line r = line_text (part_at form line) r

-- `count` lines of a form, from a line on, each straight after the one before
abbrev pub text_from : Form → ℕ → ℕ → Record → List ℕ
text_from form count line r = texts.text_from (form_line form) count line r

-- the text of a record in a form
unfoldable pub text_of : Form → Record → List ℕ
text_of form r = text_from form (lines_in form) 1 r

-- the most bytes that a record in form can have
abbrev pub most_bytes : Form → ℕ
most_bytes One = 1_688
most_bytes Two = 1_706
