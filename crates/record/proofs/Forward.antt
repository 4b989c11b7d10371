-- The first lines of a record in form are read as they were written.
use mathlib.Core.Path.{◌≡◌, refl, sym, ap, ◌∙◌}
use mathlib.Core.Bool.{Bool, true, false}
use mathlib.Core.List.{List, ◌++◌, append_assoc}
use Prim.Native.Nat.{ℕ, zero, suc, ◌+◌, ◌≤◌}
use native.Mathlib.Omega.{arith}
use lib.Dec.{eqb}
use lib.ListN.{length, take, length-append}
use lib.Seq.{drop-append_seam, take-append_seam}
use borrow.Author.Tests.{eqb-true, eqb-false, ne_eqb}
use Rattle.lines.specs.Tables.{whole}
use Rattle.lines.proofs.Tables.{read_more_lem}
use Rattle.lines.proofs.Texts.{text_snoc}
use Rattle.record.specs.declared.form.Form.{Form}
use Rattle.record.specs.declared.form.Form.TheVariants.{One, Two}
use Rattle.record.specs.declared.form.Record.{Record}
use Rattle.record.specs.Form.{part_at, lines_in, with_number, blank, value_kind, keeps}
use Rattle.record.specs.Text.{line_text, form_line, text_from}
use Rattle.record.specs.Calls.{read_at, given, lines_of}
use Rattle.record.specs.Laws.{Typed}
use Rattle.record.proofs.Places.{part_is, typed_at}
use Rattle.record.proofs.Rules.{copied_part, rule_copied, set_copied}
use Rattle.record.proofs.Lines.{said_at, Spelled, line_spelled}
use Rattle.record.proofs.Chains.{Sound}

-- the record of zeros with the first k lines of another
abbrev pub copied : Form → ℕ → Record → Record
copied form zero r = blank
copied form (suc k) r = copied_part (part_at form (1 + k)) r (copied form k r)

-- the set's own part has the set
set_own : (r s : Record) → (copied_part 2 r s).set ≡ r.set
unfolding copied_part value_kind with_number
set_own r s = refl

-- the part before one behind the set's is behind it too, or the set's own
later : (form : Form) (k : ℕ) → 3 ≤ part_at form (1 + suc k) → (part_at form (1 + k) ≡ 2 → ⊥) → 3 ≤ part_at form (1 + k)
later One zero l n = absurd (n refl)
later One (suc k) l n = rw (ne_eqb (1 + suc k) 1 (omega arith)) (omega arith)
later Two k l n = omega arith

-- behind the set's line a copy has the other's set
pub copied_set : (form : Form) (k : ℕ) → k ≤ lines_in form → (r : Record) → 3 ≤ part_at form (1 + k) → (copied form k r).set ≡ r.set
copied_set One zero h r l = absurd (omega arith)
copied_set Two zero h r l = absurd (omega arith)
copied_set form (suc k) h r l = go (eqb (part_at form (1 + k)) 2) refl (copied_set form k (omega arith) r)
  where
    is : (1 ≤ part_at form (1 + k)) × (part_at form (1 + k) ≤ 10)
    is = part_is form (1 + k) (omega arith) (omega arith)

    go : (b : Bool) → eqb (part_at form (1 + k)) 2 ≡ b → (3 ≤ part_at form (1 + k) → (copied form k r).set ≡ r.set)
        → (copied_part (part_at form (1 + k)) r (copied form k r)).set ≡ r.set
    go true e rest = let p : part_at form (1 + k) ≡ 2 = eqb-true _ _ e in rw p (set_own r (copied form k r))
    go false e rest =
        set_copied (part_at form (1 + k)) is.0 is.1 r (copied form k r) (eqb-false _ _ e) ∙ rest (later form k l (eqb-false _ _ e))

-- the first lines of a record, that keep their rules, are read, whatever stands behind them
pub read_copied : (form : Form) (k : ℕ) → k ≤ lines_in form → (r : Record) → Typed r → Sound form k 1 r → (rest : List ℕ)
    → lines_of form k (text_from form k 1 r ++ rest) ≡ whole (length (text_from form k 1 r)) (copied form k r)
read_copied form zero h r t e rest = refl
read_copied form (suc k) h r t e rest =
    let part : ℕ = part_at form (1 + k) in
    let is = part_is form (1 + k) (omega arith) (omega arith) in
    let x : List ℕ = text_from form k 1 r in
    let y : List ℕ = line_text part r in
    let s : Record = copied form k r in
    let p : text_from form (suc k) 1 r ≡ x ++ y = text_snoc (form_line form) k 1 (1 + k) r refl in
    let rule : keeps part r ≡ true = e (1 + k) (omega arith) (omega arith) in
    let l : Spelled form (1 + k) r s rest =
    line_spelled form (1 + k) (omega arith) (omega arith) r s (typed_at r t part is.0 is.1) rule
    (rule_copied part is.0 is.1 r s (copied_set form k (omega arith) r) rule) rest in
    let before : lines_of form k (x ++ (y ++ rest)) ≡ whole (length x) s = read_copied form k (omega arith) r t (λ m a b. e m a (omega arith)) (y ++ rest) in
    let here = drop-append_seam x (y ++ rest) in
    let more = read_more_lem (read_at form) (given form) 1 blank k (length x) s (x ++ (y ++ rest)) (length y) (said_at part r) before (rw here l.read) in
    rw (p, append_assoc x y rest)
    (more
    ∙ ap (λ (z : List ℕ). whole (length x + length y) (given form (1 + k) s (said_at part r) z)) (ap (take (length y)) here ∙ take-append_seam y rest)
    ∙ (λ j. whole (sym (length-append x y) j) (l.gives j)))
