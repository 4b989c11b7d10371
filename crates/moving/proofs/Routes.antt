-- What each route reads and writes: one fact of each kind over all routes.
use mathlib.Core.Path.{◌≡◌, refl, sym, ap, ◌∙◌, subst}
use mathlib.Core.Bool.{Bool, true, false, true≢false}
use mathlib.Core.List.{List, ◌++◌}
use mathlib.Core.Logic.{◌↔◌, ◌⊎◌}
use Prim.Native.Nat.{ℕ, ◌≤◌}
use native.Mathlib.Omega.{arith}
use lib.Dec.{eqb}
use lib.ListN.{length, take, length-take}
use lib.Seq.{length-take-le}
use borrow.Author.Tests.{eqb-true, not-false}
use Rattle.answers.specs.declared.Answer.TheVariants.{Done, UnknownSet, BrokenRecord}
use Rattle.answers.specs.Numbers.{number_of}
use Rattle.record.specs.declared.form.Form.{Form}
use Rattle.record.specs.declared.form.Form.TheVariants.{One, Two}
use Rattle.record.specs.declared.form.Record.{Record}
use Rattle.record.specs.Calls.{Reading}
use Rattle.record.specs.Form.{broken, loses_chip}
use Rattle.record.specs.Text.{text_of}
use Rattle.record.specs.Calls.{refused_at, read_as, read_call}
use Rattle.record.proofs.Laws.{reads_and_writes, taken_inside}
use Rattle.record.proofs.TwoForms.{two_forms}
use Rattle.entry.specs.Form.{largest_number, entry_text}
use Rattle.entry.specs.Calls.{unknown, read_entry}
use Rattle.entry.proofs.Laws.{entries, size_is}
use Rattle.entry.proofs.Bounds.{entry_length}
use Rattle.moving.specs.declared.route.Route.{Route}
use Rattle.moving.specs.declared.route.Route.TheVariants.{Forward, Back, Import, Export}
use Rattle.moving.specs.Moves.{is_known, read_by, form_by, text_by}
use Rattle.moving.specs.Laws.{source_by, SpelledBy, WrongBy, Counts, Movable, Returns}

-- ---- numbers

-- smaller numbers can be had, too
pub fewer : (route : Route) (m n : ℕ) → m ≤ n → Counts route n → Counts route m
fewer Forward m n h c = tt
fewer Back m n h c = tt
fewer (Import set) m n h c = omega arith
fewer Export m n h c = omega arith

-- those of 64 bits can be had
pub wide : (route : Route) (n : ℕ) → n ≤ largest_number → Counts route n
wide Forward n h = tt
wide Back n h = tt
wide (Import set) n h = h
wide Export n h = h

-- ---- what is read

-- a text is read, or refused with its line and column
pub answered : (route : Route) (number : ℕ) → Counts route number → is_known route ≡ true → (text : List ℕ) → let reading = read_by route number text in
    (reading ≡ read_as reading.taken reading.content) ⊎ (reading ≡ refused_at reading.line reading.column reading.early)
answered Forward number c k text = (reads_and_writes One).answered text
answered Back number c k text = (reads_and_writes Two).answered text
answered (Import set) number c k text = (entries.reads set number k c).answered text
answered Export number c k text = (reads_and_writes One).answered text

-- it is refused at a line and column exactly where it is wrong there
pub refused : (route : Route) (number : ℕ) → Counts route number → is_known route ≡ true → (text : List ℕ) (line column : ℕ) → let reading = read_by route number text in
    ((reading.answer ≡ BrokenRecord) × (reading.line ≡ line) × (reading.column ≡ column)) ↔ WrongBy route number text line column
refused Forward number c k text line column = (reads_and_writes One).refused text line column
refused Back number c k text line column = (reads_and_writes Two).refused text line column
refused (Import set) number c k text line column = (entries.reads set number k c).refused text line column
refused Export number c k text line column = (reads_and_writes One).refused text line column

-- nothing behind a text that is decided matters
pub decided : (route : Route) (number : ℕ) → Counts route number → is_known route ≡ true → (text more : List ℕ) → (read_by route number text).early ≡ false
    → read_by route number (text ++ more) ≡ read_by route number text
decided Forward number c k text more e = (reads_and_writes One).decided text more e
decided Back number c k text more e = (reads_and_writes Two).decided text more e
decided (Import set) number c k text more e = (entries.reads set number k c).decided text more e
decided Export number c k text more e = (reads_and_writes One).decided text more e

-- the text of a record that it can be of is read as this record, whatever stands behind it
pub text_read : (route : Route) (number : ℕ) → Counts route number → is_known route ≡ true → (r : Record) (rest : List ℕ) → SpelledBy route r
    → read_by route number (source_by route number r ++ rest) ≡ read_as (length (source_by route number r)) r
text_read Forward number c k r rest s = (reads_and_writes One).text_read r rest s
text_read Back number c k r rest s = (reads_and_writes Two).text_read r rest s
text_read (Import set) number c k r rest s = (entries.reads set number k c).text_read r rest s
text_read Export number c k r rest s = (reads_and_writes One).text_read r rest s

-- where the set is unknown, so the reading says
pub unknown_read : (route : Route) (number : ℕ) (text : List ℕ) → is_known route ≡ false → read_by route number text ≡ unknown
unknown_read Forward number text e = absurd (true≢false e)
unknown_read Back number text e = absurd (true≢false e)
unknown_read (Import set) number text e = entries.unknown_set set number text e
unknown_read Export number text e = absurd (true≢false e)

-- so a text that is read is of a known one
pub read_route : (route : Route) (number : ℕ) (text : List ℕ) → (read_by route number text).answer ≡ Done → is_known route ≡ true
read_route route number text d = go (is_known route) refl
  where
    go : (b : Bool) → is_known route ≡ b → is_known route ≡ true
    go true e = e
    go false e =
        let z : number_of UnknownSet ≡ number_of Done = ap number_of (sym (ap (λ (q : Reading). q.answer) (unknown_read route number text e)) ∙ d) in
        absurd (omega arith)

-- what is known of a text that is read: it begins with the text of the record
pub record Read (route : Route) (number : ℕ) (text : List ℕ) : Type 0 where
  pub spells : SpelledBy route (read_by route number text).content
  pub some : 1 ≤ (read_by route number text).taken
  pub inside : (read_by route number text).taken ≤ length text
  pub size_is : length (source_by route number (read_by route number text).content) ≡ (read_by route number text).taken
  pub there : take (read_by route number text).taken text ≡ source_by route number (read_by route number text).content

-- so it is for a form
form_read : (form : Form) (text : List ℕ) → (read_call form text).answer ≡ Done
    → (1 ≤ (read_call form text).taken) × ((read_call form text).taken ≤ length text) × (length (text_of form (read_call form text).content) ≡ (read_call form text).taken)
form_read form text d =
    let b = taken_inside form text d in
    (b.0, b.1, sym (ap length ((reads_and_writes form).spelled text d)) ∙ length-take-le (read_call form text).taken text b.1)

-- and for the entries of a set
entry_read : (set number : ℕ) → number ≤ largest_number → (text : List ℕ) → (read_entry set number text).answer ≡ Done
    → (1 ≤ (read_entry set number text).taken) × ((read_entry set number text).taken ≤ length text)
    × (length (entry_text number (read_entry set number text).content) ≡ (read_entry set number text).taken)
entry_read set number c text d =
    let r = read_entry set number text in
    let k = read_route (Import set) number text d in
    let size = size_is set number k c text d in
    let all = ap length ((entries.reads set number k c).spelled text d) in
    (omega (arith, entry_length number r.content), omega (arith, length-take r.taken text), size)

pub read_is : (route : Route) (number : ℕ) → Counts route number → (text : List ℕ) → (read_by route number text).answer ≡ Done → Read route number text
read_is Forward number c text d =
    let f = form_read One text d in
    record { spells = (reads_and_writes One).read_in_form text d; some = f.0; inside = f.1; size_is = f.2; there = (reads_and_writes One).spelled text d }
read_is Back number c text d =
    let f = form_read Two text d in
    record { spells = (reads_and_writes Two).read_in_form text d; some = f.0; inside = f.1; size_is = f.2; there = (reads_and_writes Two).spelled text d }
read_is (Import set) number c text d =
    let e = entries.reads set number (read_route (Import set) number text d) c in
    let f = entry_read set number c text d in
    record { spells = e.portable text d; some = f.0; inside = f.1; size_is = f.2; there = e.spelled text d }
read_is Export number c text d =
    let f = form_read One text d in
    record { spells = (reads_and_writes One).read_in_form text d; some = f.0; inside = f.1; size_is = f.2; there = (reads_and_writes One).spelled text d }

-- ---- what is written

-- a record that form 1 can spell has chip 0
no_chip : (r : Record) → loses_chip One r ≡ false → r.chip ≡ 0
no_chip r e = eqb-true r.chip 0 (not-false (eqb r.chip 0) e)

-- a record that a text can be of is in the form that it is written by
pub in_form : (route : Route) (r : Record) → SpelledBy route r → broken (form_by route) r ≡ 0
in_form Forward r s = two_forms.one_two r s.in_form (omega (arith, no_chip r s.kept))
in_form Back r s = two_forms.two_one r s.in_form
in_form (Import set) r s = s.spellable.in_form
in_form Export r s = s.in_form

-- ---- the way back

-- a record that is moved can come back: the way back is a route that can move it, from its new text to its old
pub record ComesBack (there back : Route) (number : ℕ) (r : Record) : Type 0 where
  pub route : is_known back ≡ true
  pub counts : Counts back number
  pub movable : Movable back r
  pub source : source_by back number r ≡ text_by there number r
  pub again : text_by back number r ≡ source_by there number r

pub comes_back : (there back : Route) → Returns there back → (number : ℕ) → Counts there number → (r : Record) → Movable there r → ComesBack there back number r
comes_back Forward back e number c r (s, k) =
    subst (λ (b : Route). ComesBack Forward b number r) (sym e)
    (record { route = refl; counts = tt; movable = (record { in_form = in_form Forward r s; kept = refl; typed = s.typed }, s.kept); source = refl; again = refl })
comes_back Back back e number c r (s, k) =
    subst (λ (b : Route). ComesBack Back b number r) (sym e)
    (record { route = refl; counts = tt; movable = (record { in_form = in_form Back r s; kept = k; typed = s.typed }, refl); source = refl; again = refl })
comes_back (Import set) back e number c r (s, k) =
    subst (λ (b : Route). ComesBack (Import set) b number r) (sym e)
    (record { route = refl; counts = c; movable = (s.spellable, s.spellable.kept); source = refl; again = refl })
comes_back Export back e number c r m = absurd e
