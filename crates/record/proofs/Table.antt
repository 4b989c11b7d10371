-- The tables of the two forms: the kind of each line fits, so that the reader's law holds of it.
use mathlib.Core.Path.{◌≡◌, refl}
use mathlib.Core.List.{List}
use Prim.Native.Nat.{ℕ}
use native.Mathlib.Omega.{arith}
use Rattle.lines.specs.Right.{name_of, Right}
use Rattle.lines.specs.Steps.{Found}
use Rattle.lines.specs.Laws.{Fit, FoundIn}
use Rattle.lines.proofs.Laws.{reads_lines, some_line}
use Rattle.lines.proofs.Names.{named_fit}
use Rattle.record.specs.declared.form.Form.{Form}
use Rattle.record.specs.declared.form.Record.{Record}
use Rattle.record.specs.Form.{part_at, value_kind}
use Rattle.record.specs.Text.{name, kind_of}
use Rattle.record.specs.Calls.{read_at}
use Rattle.record.proofs.Names.{name_sizes, name_plain, held_name}
use Rattle.record.proofs.Rules.{kind_tests}

-- the name of a part's kind is the part's
pub name_is : (part set : ℕ) → name_of (kind_of part set) ≡ name part
unfolding kind_of
name_is part set = (held_name part _ refl).text_is

-- the kind of each part fits
pub fit_kind : (part set : ℕ) → Fit (kind_of part set)
unfolding kind_of
fit_kind part set = named_fit (name part) (omega (arith, (name_sizes part).1)) (value_kind part set) (name_plain part) (kind_tests part set).0

-- ---- a form's readings

-- the right lines of a form
abbrev pub right_at : Form → ℕ → Record → List ℕ → ℕ → Type 0
right_at form line r = Right (kind_of (part_at form line) r.set)

-- they say what is so
pub told : (form : Form) (line : ℕ) (r : Record) (text : List ℕ) → FoundIn (right_at form line r) text (read_at form line r text)
told form line r text = reads_lines.told (kind_of (part_at form line) r.set) text (fit_kind (part_at form line) r.set)

-- and nothing else is
pub only : (form : Form) (line : ℕ) (r : Record) (text : List ℕ) (f : Found) → FoundIn (right_at form line r) text f → read_at form line r text ≡ f
only form line r text f = reads_lines.only (kind_of (part_at form line) r.set) text f (fit_kind (part_at form line) r.set)

-- each line can be right
pub some : (form : Form) (line : ℕ) (r : Record) → (text : List ℕ) × (says : ℕ) × right_at form line r text says
some form line r = some_line (kind_of (part_at form line) r.set) (fit_kind (part_at form line) r.set)
