-- `entry::reading::read` meets its contract.
use Rattle.std.proofs.Common.{arith, rules, ◌≡◌, refl, sym, ap, ◌∙◌, Bool, true, false, cond, List, [], ℕ, ◌≤◌, length}
use Rattle.std.specs.Prelude.{eqb, leb, Ok}
use Rattle.std.proofs.lemmas.Bool.{leb-true}
use mathlib.Core.Option.{Option, some, none}
use Rattle.digits.specs.declared.hex.Case.TheVariants.{Upper}
use Rattle.digits.specs.Hex.{from_hex_in}
use Rattle.lines.specs.Tables.{whole, outcome_of}
use Rattle.lines.proofs.Tables.{kept}
use Rattle.record.specs.declared.field.Field.{Field}
use Rattle.record.specs.declared.form.Record.{Record}
use Rattle.record.specs.Form.{field_of}
use Rattle.record.specs.Calls.{fitted}
use Rattle.entry.specs.Calls.{field_in, with_line, begun, read_at, given, lines_of}
use Rattle.entry.proofs.reading.read.Goals as goal

-- data and text have at most 256 bytes
record Few (r : Record) : Type 0 where
  ad : r.ad.size ≤ 256
  text : r.text.size ≤ 256

-- the field of digits has at most 256 bytes
field-few : (x : Option (List ℕ)) → (fitted x).size ≤ 256
unfolding field_of
field-few none = omega arith
field-few (some x) = go (leb (length x) 256) refl
  where
    go : (t : Bool) → leb (length x) 256 ≡ t → (cond t (field_of x) (field_of [])).size ≤ 256
    go true e = leb-true (length x) 256 e
    go false e = omega arith

-- so a field that may be put in has no more, where the one before had not
either-few : (t : Bool) (digits : List ℕ) (f : Field) → f.size ≤ 256 → (cond t (field_in digits) f).size ≤ 256
either-few true digits f h = field-few (from_hex_in Upper digits)
either-few false digits f h = h

few-begun : (set : ℕ) → Few (begun set)
unfolding begun field_of
few-begun set = record { ad = omega arith; text = omega arith }

few-given : (set number line : ℕ) (r : Record) (says : ℕ) (text : List ℕ) → Few r → Few (given set number line r says text)
unfolding given with_line
few-given set number line r says text f = record { ad = either-few (eqb line 5) _ r.ad f.ad; text = either-few (eqb line 4) _ r.text f.text }

-- so have those of an entry whose lines were read
few-read : (set number : ℕ) (text : List ℕ) (taken : ℕ) (r : Record) → whole taken r ≡ lines_of set number 7 text → Few r
few-read set number text taken r is =
    kept (read_at set number) (given set number) Few (few-given set number) 7 1 0 (begun set) text taken r (few-begun set) (sym is)

pub with_rounds-requires-clause-size_bound : goal.with_rounds-requires-clause-size_bound
with_rounds-requires-clause-size_bound c =
    let read : c.read_table.result ≡ Ok c.in_ok-read.read = search rules in
    (few-read c.args.set c.args.number c.args.text.now _ _ (ap outcome_of (sym read) ∙ c.read_table.ensures)).ad

pub with_rounds-requires-clause-size_bound_2 : goal.with_rounds-requires-clause-size_bound_2
with_rounds-requires-clause-size_bound_2 c =
    let read : c.read_table.result ≡ Ok c.in_ok-read.read = search rules in
    (few-read c.args.set c.args.number c.args.text.now _ _ (ap outcome_of (sym read) ∙ c.read_table.ensures)).text
