-- A line: what was written is read, and what was read is written.
use mathlib.Core.Path.{◌≡◌, refl, sym, ap, ◌∙◌}
use mathlib.Core.Bool.{Bool, true, ◌&&◌}
use mathlib.Core.List.{List, ◌++◌}
use Prim.Native.Nat.{ℕ, ◌+◌, ◌-◌, ◌≤◌, ◌<◌}
use native.Mathlib.Omega.{arith}
use lib.Dec.{leb}
use lib.ListN.{length, take, drop, take-append-drop}
use lib.Seq.{drop-append_seam, length-take-le}
use borrow.Author.Tests.{leb-true, le-leb}
use Rattle.permutation.specs.Strings.{zeros}
use Rattle.permutation.proofs.Strings.{same_refl}
use Rattle.sets.proofs.Rows.{row_sizes}
use Rattle.digits.specs.declared.hex.Case.{Case}
use Rattle.digits.specs.declared.hex.Case.TheVariants.{Lower}
use Rattle.digits.specs.Hex.{from_hex_in, hex_in}
use Rattle.digits.specs.Numbers.{numeral}
use Rattle.digits.specs.Room.{line_of}
use Rattle.digits.proofs.Spelling.{and_both, bytes_hex}
use Rattle.digits.proofs.Room.{length_line}
use Rattle.lines.specs.declared.kinds.Value.{Value}
use Rattle.lines.specs.declared.kinds.Value.TheVariants.{Fixed, Number, Bytes}
use Rattle.lines.specs.Right.{Spells, Right, value_in}
use Rattle.lines.specs.Steps.{a_line}
use Rattle.lines.specs.Laws.{FoundIn}
use Rattle.lines.proofs.Values.{value_in_lem, written_read}
use Rattle.record.specs.declared.field.Field.{Field}
use Rattle.record.specs.declared.form.Form.{Form}
use Rattle.record.specs.declared.form.Record.{Record}
use Rattle.record.specs.Form.{field_of, held, is_field, part_at, lines_in, number_at, field_at, with_number, with_field, value_kind, keeps}
use Rattle.record.specs.Text.{name, kind_of, value_text, line_text}
use Rattle.record.specs.Calls.{fitted, with_value, given, read_at}
use Rattle.record.specs.Laws.{Whole, Typed}
use Rattle.record.proofs.Fields.{bytes_take, whole_field, held_field, held_most, held_length, field_held}
use Rattle.record.proofs.Places.{each_part, part_is, part_order, Alike, number_before, field_before, typed_number, typed_field}
use Rattle.record.proofs.Rules.{copied_part}
use Rattle.record.proofs.Table.{name_is, fit_kind, right_at, told}

-- a line has its name's bytes, its value's, and one more
pub line_length : (part : ℕ) (r : Record) → length (line_text part r) ≡ length (name part) + length (value_text part r) + 1
unfolding line_text
line_length part r = length_line (name part) (value_text part r)

-- the number that a part of a record says in its line
abbrev said_by : Value → ℕ → ℕ
said_by (Fixed own) n = own
said_by (Number least most) n = n
said_by (Bytes least most case) n = 0

abbrev pub said_at : ℕ → Record → ℕ
said_at part r = said_by (value_kind part r.set) (number_at part r)

-- ---- what was written is read

-- a field of bytes, at least and at most so many, spells them
pub field_spells : (case : Case) (f : Field) (least most : ℕ) → Whole f → (is_field f && (leb least f.size && leb f.size most)) ≡ true
    → Spells (Bytes least most case) 0 (hex_in case (held f))
field_spells case f least most w e =
    let b = and_both (is_field f) _ e in
    let c = and_both (leb least f.size) _ b.1 in
    let l = (held_length f b.0 w.places).0 in (
      refl,
      held f,
      bytes_take f.size f.bytes w.bytes,
      omega (arith, leb-true least f.size c.0),
      omega (arith, leb-true f.size most c.1),
      refl,
    )

-- a part that keeps its rule where it is copied to spells a value of its kind
value_spells : (part : ℕ) → 1 ≤ part → part ≤ 10 → (r s : Record) → Whole (field_at part r) → keeps part (copied_part part r s) ≡ true
    → Spells (value_kind part s.set) (said_at part r) (value_text part r)
unfolding value_kind value_text keeps copied_part with_number with_field
value_spells =
    each_part
    (λ (part : ℕ). (r s : Record) → Whole (field_at part r) → keeps part (copied_part part r s) ≡ true → Spells (value_kind part s.set) (said_at part r) (value_text part r))
    (λ r s w k. (refl, refl))
    (λ r s w k. let b = and_both (leb 1 r.set) _ k in (leb-true _ _ b.0, leb-true _ _ b.1, refl))
    (λ r s w k. let b = and_both (leb 0 r.chip) _ k in (leb-true _ _ b.0, leb-true _ _ b.1, refl))
    (λ r s w k. field_spells Lower r.key _ _ w k)
    (λ r s w k. field_spells Lower r.nonce _ _ w k)
    (λ r s w k. field_spells Lower r.ad _ _ w k)
    (λ r s w k. field_spells Lower r.text _ _ w k)
    (λ r s w k. field_spells Lower r.cipher _ _ w k)
    (λ r s w k. field_spells Lower r.tag _ _ w k)
    (λ r s w k. let b = and_both (leb 0 r.rounds) _ k in (leb-true _ _ b.0, leb-true _ _ b.1, refl))

-- bytes that a field in form holds are read as this field
pub field_read : (case : Case) (f : Field) (t : Bool) → (is_field f && t) ≡ true → Whole f → fitted (from_hex_in case (hex_in case (held f))) ≡ f
field_read case f t k w =
    let e = (and_both (is_field f) t k).0 in
    rw (bytes_hex case (held f) (bytes_take f.size f.bytes w.bytes), le-leb (length (held f)) 256 (held_most f e)) (field_held f e w)

-- the value of a part, put into a record, is the part copied
value_copied : (part : ℕ) → 1 ≤ part → part ≤ 10 → (r s : Record) → Whole (field_at part r) → keeps part r ≡ true
    → with_value part s (said_at part r) (value_text part r) ≡ copied_part part r s
unfolding with_value copied_part value_text value_kind keeps
value_copied =
    each_part
    (λ (part : ℕ). (r s : Record) → Whole (field_at part r) → keeps part r ≡ true → with_value part s (said_at part r) (value_text part r) ≡ copied_part part r s)
    (λ r s w k. refl)
    (λ r s w k. refl)
    (λ r s w k. refl)
    (λ r s w k. ap (λ (f : Field). with_field 4 f s) (field_read Lower r.key _ k w))
    (λ r s w k. ap (λ (f : Field). with_field 5 f s) (field_read Lower r.nonce _ k w))
    (λ r s w k. ap (λ (f : Field). with_field 6 f s) (field_read Lower r.ad _ k w))
    (λ r s w k. ap (λ (f : Field). with_field 7 f s) (field_read Lower r.text _ k w))
    (λ r s w k. ap (λ (f : Field). with_field 8 f s) (field_read Lower r.cipher _ k w))
    (λ r s w k. ap (λ (f : Field). with_field 9 f s) (field_read Lower r.tag _ k w))
    (λ r s w k. refl)

-- a line of a form that keeps its rule is read, and gives the part copied
pub record Spelled (form : Form) (line : ℕ) (r s : Record) (rest : List ℕ) : Type 0 where
  pub read : read_at form line s (line_text (part_at form line) r ++ rest) ≡ a_line (length (line_text (part_at form line) r)) (said_at (part_at form line) r)
  pub gives : given form line s (said_at (part_at form line) r) (line_text (part_at form line) r) ≡ copied_part (part_at form line) r s

pub line_spelled : (form : Form) (line : ℕ) → 1 ≤ line → line ≤ lines_in form → (r s : Record) → Whole (field_at (part_at form line) r) → keeps (part_at form line) r ≡ true
    → keeps (part_at form line) (copied_part (part_at form line) r s) ≡ true → (rest : List ℕ) → Spelled form line r s rest
unfolding line_text kind_of given
line_spelled form line l m r s w k c rest =
    let part : ℕ = part_at form line in
    let is = part_is form line l m in
    let value : List ℕ = value_text part r in
    let spells = value_spells part is.0 is.1 r s w c in
    let right : Right (kind_of part s.set) (line_of (name part) value) (said_at part r) =
    record { value = value; spelled = spells; whole = ap (λ (x : List ℕ). line_of x value) (sym (name_is part s.set)) } in
    record {
      read = rw (name_is part s.set) at (written_read (kind_of part s.set) value rest (said_at part r) (fit_kind part s.set) spells);
      gives =
          ap (with_value part s (said_at part r)) (value_in_lem (kind_of part s.set) (line_of (name part) value) (said_at part r) (fit_kind part s.set) right)
          ∙ value_copied part is.0 is.1 r s w k;
    }

-- ---- what was read is written

-- the field of bytes, at least and at most so many, is in form, and has as many
pub field_allowed : (x : List ℕ) (least most : ℕ) → most ≤ 256 → least ≤ length x → length x ≤ most
    → (is_field (field_of x) && (leb least (field_of x).size && leb (field_of x).size most)) ≡ true
unfolding is_field field_of
field_allowed x least most few l m =
    let short : length x ≤ 256 = omega arith in
    rw (
      le-leb (length x) 256 short,
      drop-append_seam x (zeros (256 - length x)),
      same_refl (zeros (256 - length x)),
      le-leb least (length x) l,
      le-leb (length x) most m,
    )

-- digits that were read are the value of the record then: its part keeps its rule, and those before it stay
pub record Follows (part : ℕ) (digits : List ℕ) (r s : Record) : Type 0 where
  pub spelled : value_text part s ≡ digits
  pub rule : keeps part s ≡ true
  pub typed : Typed r → Typed s
  pub before : (m : ℕ) → 1 ≤ m → m < part → Alike m s r

-- a number between two follows from its digits
number_follows : (part : ℕ) → part ≤ 10 → (least most : ℕ) (r : Record) (says : ℕ) (digits : List ℕ) → Spells (Number least most) says digits
    → value_text part (with_number part says r) ≡ numeral says → keeps part (with_number part says r) ≡ (leb least says && leb says most)
    → Follows part digits r (with_number part says r)
number_follows part h least most r says digits s spelled rule =
    record {
      spelled = spelled ∙ sym s.2;
      rule = rule ∙ rw (le-leb least says s.0, le-leb says most s.1);
      typed = λ y. typed_number part says r y;
      before = λ i l j. number_before i l (omega arith) part says r j;
    }

-- so do bytes, at least and at most so many
bytes_follow : (part : ℕ) → part ≤ 10 → (least most : ℕ) → most ≤ 256 → (r : Record) (says : ℕ) (digits : List ℕ) → Spells (Bytes least most Lower) says digits
    → ((f : Field) → value_text part (with_field part f r) ≡ hex_in Lower (held f))
    → ((f : Field) → keeps part (with_field part f r) ≡ (is_field f && (leb least f.size && leb f.size most)))
    → Follows part digits r (with_field part (fitted (from_hex_in Lower digits)) r)
bytes_follow part h least most few r says digits s spelled rule =
    let x : List ℕ = s.1 in
    let short : length x ≤ 256 = omega (arith, s.4) in
    let read : fitted (from_hex_in Lower digits) ≡ field_of x =
    ap (λ (y : List ℕ). fitted (from_hex_in Lower y)) s.5 ∙ rw (bytes_hex Lower x s.2, le-leb (length x) 256 short) in
    rw read (record {
      spelled = spelled (field_of x) ∙ ap (hex_in Lower) (held_field x) ∙ sym s.5;
      rule = rule (field_of x) ∙ field_allowed x least most few s.3 s.4;
      typed = λ y. typed_field part (field_of x) r (whole_field x short s.2) y;
      before = λ i l j. field_before i l (omega arith) part (field_of x) r j;
    })

-- a value that was read follows from its digits
value_follows : (part : ℕ) → 1 ≤ part → part ≤ 10 → (r : Record) (says : ℕ) (digits : List ℕ) → Spells (value_kind part r.set) says digits
    → Follows part digits r (with_value part r says digits)
unfolding with_value value_text value_kind keeps with_number with_field
value_follows =
    each_part
    (λ (part : ℕ). (r : Record) (says : ℕ) (digits : List ℕ) → Spells (value_kind part r.set) says digits → Follows part digits r (with_value part r says digits))
    (λ r says digits s. record { spelled = sym s.1; rule = refl; typed = λ y. y; before = λ i l j. absurd (omega arith) })
    (λ r says digits s. number_follows 2 (omega arith) _ _ r says digits s refl refl)
    (λ r says digits s. number_follows 3 (omega arith) _ _ r says digits s refl refl)
    (λ r says digits s. bytes_follow 4 (omega arith) _ _ (omega (arith, (row_sizes r.set).key)) r says digits s (λ f. refl) (λ f. refl))
    (λ r says digits s. bytes_follow 5 (omega arith) _ _ (omega (arith, (row_sizes r.set).key)) r says digits s (λ f. refl) (λ f. refl))
    (λ r says digits s. bytes_follow 6 (omega arith) 0 256 (omega arith) r says digits s (λ f. refl) (λ f. refl))
    (λ r says digits s. bytes_follow 7 (omega arith) 0 256 (omega arith) r says digits s (λ f. refl) (λ f. refl))
    (λ r says digits s. bytes_follow 8 (omega arith) 0 256 (omega arith) r says digits s (λ f. refl) (λ f. refl))
    (λ r says digits s. bytes_follow 9 (omega arith) _ _ (omega (arith, (row_sizes r.set).key)) r says digits s (λ f. refl) (λ f. refl))
    (λ r says digits s. number_follows 10 (omega arith) _ _ r says digits s refl refl)

-- a right line spells what its part may hold
kind_spells : (form : Form) (line : ℕ) (r : Record) (x : List ℕ) (says : ℕ) → (t : right_at form line r x says) → Spells (value_kind (part_at form line) r.set) says t.value
unfolding kind_of
kind_spells form line r x says t = t.spelled

-- a line that a text begins with was read into a record
pub record Passed (form : Form) (line : ℕ) (r : Record) (text : List ℕ) (size : ℕ) (next : Record) : Type 0 where
  pub rule : keeps (part_at form line) next ≡ true
  pub typed : Typed r → Typed next
  pub before : (m : ℕ) → 1 ≤ m → m < line → Alike (part_at form m) next r
  pub size_is : size ≡ length (line_text (part_at form line) next)
  pub there : text ≡ line_text (part_at form line) next ++ drop size text

-- a line that is read was written so
pub line_passed : (form : Form) (line : ℕ) → 1 ≤ line → line ≤ lines_in form → (r : Record) (text : List ℕ) (size says : ℕ) → read_at form line r text ≡ a_line size says
    → Passed form line r text size (given form line r says (take size text))
unfolding line_text given
line_passed form line h m r text size says e =
    let part : ℕ = part_at form line in
    let is-part = part_is form line h m in
    let t : FoundIn (right_at form line r) text (a_line size says) = rw e at (told form line r text) in
    let kind = kind_of part r.set in
    let value : List ℕ = value_in kind (take size text) in
    let is : value ≡ t.1.value = value_in_lem kind (take size text) says (fit_kind part r.set) t.1 in
    let f = value_follows part is-part.0 is-part.1 r says value (rw is (kind_spells form line r (take size text) says t.1)) in
    let whole : take size text ≡ line_of (name part) (value_text part (with_value part r says value)) =
    t.1.whole ∙ ap (λ (x : List ℕ). line_of x t.1.value) (name_is part r.set) ∙ ap (line_of (name part)) (sym (f.spelled ∙ is)) in
    record {
      rule = f.rule;
      typed = f.typed;
      before = λ i l j. f.before (part_at form i) (part_is form i l (omega arith)).0 (part_order form i line l j);
      size_is = sym (length-take-le size text t.0) ∙ ap length whole;
      there = sym (take-append-drop size text) ∙ ap (λ (x : List ℕ). x ++ drop size text) whole;
    }
