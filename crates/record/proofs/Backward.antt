-- Lines that are read stand in the record after them as they were written.
use mathlib.Core.Path.{◌≡◌, refl, sym, ap, ◌∙◌, subst₂}
use mathlib.Core.Bool.{Bool, true, false}
use mathlib.Core.List.{List, ◌++◌, append_assoc}
use Prim.Native.Nat.{ℕ, zero, suc, ◌+◌, ◌≤◌, ◌<◌}
use native.Mathlib.Omega.{arith}
use lib.Dec.{ltb}
use lib.ListN.{length, drop, length-append}
use lib.Seq.{drop-drop}
use borrow.Author.Tests.{ltb-true, ltb-false}
use Rattle.lines.specs.Tables.{whole}
use Rattle.lines.proofs.Tables.{last_line}
use Rattle.lines.proofs.Texts.{text_snoc}
use Rattle.record.specs.declared.form.Form.{Form}
use Rattle.record.specs.declared.form.Record.{Record}
use Rattle.record.specs.Form.{part_at, lines_in, blank, keeps}
use Rattle.record.specs.Text.{line_text, form_line, text_from}
use Rattle.record.specs.Calls.{read_at, given, lines_of}
use Rattle.record.specs.Laws.{Typed}
use Rattle.record.proofs.Places.{typed_blank}
use Rattle.record.proofs.Lines.{Passed, line_passed}
use Rattle.record.proofs.Chains.{text_alike, Sound}

-- the first k lines of a text, of so many bytes, are those of the record that they were read into
pub record Far (form : Form) (k : ℕ) (text : List ℕ) (size : ℕ) (r : Record) : Type 0 where
  pub typed : Typed r
  pub rule : Sound form k 1 r
  pub size_is : size ≡ length (text_from form k 1 r)
  pub there : text ≡ text_from form k 1 r ++ drop size text

-- and with one line more
far_more : (form : Form) (k : ℕ) (text : List ℕ) (at size : ℕ) (r next : Record) → Far form k text at r → Passed form (1 + k) r (drop at text) size next → Far form (suc k) text (at + size) next
far_more form k text at size r next f p =
    let old : text_from form k 1 next ≡ text_from form k 1 r = text_alike form k 1 next r (λ m a b. p.before m a (omega arith)) in
    let new : text_from form (suc k) 1 next ≡ text_from form k 1 r ++ line_text (part_at form (1 + k)) next = text_snoc (form_line form) k 1 (1 + k) next refl ∙ rw old in
    record {
      typed = p.typed f.typed;
      rule = λ m a b. one m a b (ltb m (1 + k)) refl;
      size_is = rw (new, length-append) (omega (arith, f.size_is, p.size_is));
      there =
          f.there
          ∙ ap (λ (t : List ℕ). text_from form k 1 r ++ t) (p.there ∙ ap (λ (t : List ℕ). line_text (part_at form (1 + k)) next ++ t) (drop-drop size at text))
          ∙ rw (new, append_assoc);
    }
  where
    one : (m : ℕ) → 1 ≤ m → m < 1 + suc k → (t : Bool) → ltb m (1 + k) ≡ t → keeps (part_at form m) next ≡ true
    one m a b true e = let c : m < 1 + k = ltb-true m (1 + k) e in (p.before m a c).rule ∙ f.rule m a (omega arith)
    one m a b false e = let c : m ≡ 1 + k = omega (arith, ltb-false m (1 + k) e) in rw c p.rule

-- lines that are read were written so
pub read_far : (form : Form) (k : ℕ) → k ≤ lines_in form → (text : List ℕ) (size : ℕ) (r : Record) → lines_of form k text ≡ whole size r → Far form k text size r
read_far form zero h text size r e =
    let a : 0 ≡ size = cc in
    let b : blank ≡ r = cc in
    rw (← a, ← b) (record { typed = typed_blank; rule = λ m a b. absurd (omega arith); size_is = refl; there = refl })
read_far form (suc k) h text size r e =
    let m = last_line (read_at form) (given form) 1 blank k size r text e in
    subst₂ (Far form (suc k) text) (sym m.ends) (sym m.gives)
    (far_more form k text m.at m.size m.earlier _ (read_far form k (omega arith) text m.at m.earlier m.read)
    (line_passed form (1 + k) (omega arith) (omega arith) m.earlier (drop m.at text) m.size m.says m.found))
