-- The right lines behind those that were read, and where a text leaves them.
use mathlib.Core.Path.{◌≡◌, sym, ap, ◌∙◌, subst, subst₂}
use mathlib.Core.Bool.{Bool}
use mathlib.Core.List.{List, [], ◌++◌, append-nil}
use mathlib.Core.Logic.{◌↔◌}
use Prim.Native.Nat.{ℕ, suc, ◌+◌, ◌-◌, ◌≤◌, ◌<◌}
use native.Mathlib.Omega.{arith}
use lib.Dec.{ltb}
use lib.ListN.{length, take, drop, take-append-drop, length-append}
use lib.Seq.{take_all, take_at, take-length, drop-append_seam}
use Rattle.lines.specs.Column.{LeavesAt}
use Rattle.lines.specs.Right.{Lines}
use Rattle.lines.specs.Steps.{a_line, no_line}
use Rattle.lines.specs.Laws.{FoundIn}
use Rattle.lines.specs.Tables.{whole, broken_at}
use Rattle.lines.proofs.Columns.{same_lines}
use Rattle.lines.proofs.Tables.{Stop, read_more_lem, read_no_more, last_line, stays_broken}
use Rattle.record.specs.declared.form.Form.{Form}
use Rattle.record.specs.declared.form.Record.{Record}
use Rattle.record.specs.Form.{lines_in, blank}
use Rattle.record.specs.Text.{text_from}
use Rattle.record.specs.Calls.{read_at, given, lines_of}
use Rattle.record.specs.Laws.{FirstLines, Begun, WrongAt}
use Rattle.record.proofs.Chains.{rule_broken, broken_rule}
use Rattle.record.proofs.Forward.{copied, read_copied}
use Rattle.record.proofs.Backward.{read_far}
use Rattle.record.proofs.Table.{right_at, told, only}

-- ---- first lines are those that are read

-- the first lines of a record in form are read, whatever stands behind them
pub first_read : (form : Form) (k : ℕ) → k ≤ lines_in form → (x more : List ℕ) → (f : FirstLines form k x) → lines_of form k (x ++ more) ≡ whole (length x) (copied form k f.entry)
first_read form k h x more f =
    ap (λ (y : List ℕ). lines_of form k (y ++ more)) (sym f.lines)
    ∙ read_copied form k h f.entry f.typed (broken_rule form k 1 f.entry (omega arith) f.in_form) more
    ∙ ap (λ (y : List ℕ). whole (length y) (copied form k f.entry)) f.lines

-- lines that are read are the first lines of a record in form
pub read_first : (form : Form) (k : ℕ) → k ≤ lines_in form → (text : List ℕ) (size : ℕ) (r : Record) → lines_of form k text ≡ whole size r → FirstLines form k (take size text)
read_first form k h text size r e =
    let f = read_far form k h text size r e in
    record {
      entry = r;
      typed = f.typed;
      in_form = rule_broken form k 1 r f.rule;
      lines = sym (ap (take size) f.there ∙ take_at (text_from form k 1 r) (drop size text) size (sym f.size_is));
    }

-- so a text that they are read from begins with them
pub read_begun : (form : Form) (k : ℕ) → k ≤ lines_in form → (text : List ℕ) (size : ℕ) (r : Record) → lines_of form k text ≡ whole size r → Begun form k text
read_begun form k h text size r e = record { lines = take size text; rest = drop size text; parts = take-append-drop size text; right = read_first form k h text size r e }

-- and from a text that begins with such lines they are read
pub begun_read : (form : Form) (k : ℕ) → k ≤ lines_in form → (text : List ℕ) → (b : Begun form k text) → lines_of form k text ≡ whole (length b.lines) (copied form k b.right.entry)
begun_read form k h text b = ap (lines_of form k) (sym b.parts) ∙ first_read form k h b.lines b.rest b.right

-- so what they give is their own copy
pub read_again : (form : Form) (k : ℕ) → k ≤ lines_in form → (text : List ℕ) (size : ℕ) (r : Record) → lines_of form k text ≡ whole size r → r ≡ copied form k r
unfolding read_begun read_first
read_again form k h text size r e =
    let same : whole size r ≡ whole (length (take size text)) (copied form k r) = sym e ∙ begun_read form k h text (read_begun form k h text size r e) in
    cc

-- ---- the line behind them

module _ (form : Form) (k : ℕ) (few : k < lines_in form) (x : List ℕ) (f : FirstLines form k x) where
  -- the record that the lines before it give
  abbrev before : Record
  before = copied form k f.entry

  -- a line is right by the table exactly where it and the lines before it are the first lines of a record in form
  pub right_is : (next : List ℕ) → Lines (right_at form (1 + k) before) next ↔ FirstLines form (1 + k) (x ++ next)
  right_is next = (forth, back)
    where
      one : 1 + k ≡ suc k
      one = omega arith

      read : lines_of form k (x ++ next) ≡ whole (length x) before
      read = first_read form k (omega arith) x next f

      behind : drop (length x) (x ++ next) ≡ next
      behind = drop-append_seam x next

      forth : Lines (right_at form (1 + k) before) next → FirstLines form (1 + k) (x ++ next)
      forth l =
          let found : read_at form (1 + k) before next ≡ a_line (length next) l.0 =
          only form (1 + k) before next (a_line (length next) l.0) (omega arith, rw (take-length next) l.1) in
          let all = read_more_lem (read_at form) (given form) 1 blank k (length x) before (x ++ next) (length next) l.0 read (rw behind found) in
          let size : ℕ = length x + length next in
          let first = read_first form (suc k) (omega arith) (x ++ next) size _ all in
          rw one (subst (FirstLines form (suc k)) (take_all size (x ++ next) (omega (arith, length-append x next))) first)

      back : FirstLines form (1 + k) (x ++ next) → Lines (right_at form (1 + k) before) next
      back g =
          let all = first_read form (1 + k) (omega arith) (x ++ next) [] g in
          let m = last_line (read_at form) (given form) 1 blank k _ _ (x ++ next) (ap (lines_of form (suc k)) (sym (append-nil (x ++ next))) ∙ (rw one at all)) in
          let here : whole m.at m.earlier ≡ whole (length x) before = sym m.read ∙ read in
          let at : m.at ≡ length x = cc in
          let earlier : m.earlier ≡ before = cc in
          let size : m.size ≡ length next = omega (arith, m.ends, length-append x next) in
          let found : read_at form (1 + k) before next ≡ a_line m.size m.says =
          (λ j. read_at form (1 + k) (sym earlier j) ((sym behind ∙ ap (λ (n : ℕ). drop n (x ++ next)) (sym at)) j)) ∙ m.found in
          let t : FoundIn (right_at form (1 + k) before) next (a_line m.size m.says) = rw found at (told form (1 + k) before next) in
          (m.says, rw (take_all m.size next (omega arith)) at t.1)

-- ---- where a text leaves them

-- a stopped reading is wrong at its line and column
pub stop_wrong : (form : Form) (text : List ℕ) (bad column : ℕ) (early : Bool) → Stop (read_at form) (given form) 1 blank (lines_in form) text bad column early → WrongAt form text bad column
unfolding read_begun
stop_wrong form text bad column early s =
    let k : ℕ = s.before in
    let few : k < lines_in form = s.fewer in
    let number : bad - 1 ≡ k = omega (arith, s.number) in
    let b = read_begun form k (omega arith) text s.end s.last s.read in
    let same : whole s.end s.last ≡ whole (length b.lines) (copied form k b.right.entry) = sym s.read ∙ begun_read form k (omega arith) text b in
    let last : s.last ≡ copied form k b.right.entry = cc in
    let t : FoundIn (right_at form bad s.last) (drop s.end text) (no_line column) = rw s.stopped at (told form bad s.last (drop s.end text)) in
    let wrong : LeavesAt (Lines (right_at form (1 + k) (copied form k b.right.entry))) (drop s.end text) column =
    subst₂ (λ (n : ℕ) (r : Record). LeavesAt (Lines (right_at form n r)) (drop s.end text) column) s.number last t in
    record {
      first = omega (arith, s.number);
      last = omega (arith, s.number);
      before = record { lines = b.lines; rest = b.rest; parts = b.parts; right = subst (λ (n : ℕ). FirstLines form n b.lines) (sym number) b.right };
      wrong =
          subst (λ (n : ℕ). LeavesAt (λ next. FirstLines form n (b.lines ++ next)) b.rest column) (sym s.number)
          (same_lines (drop s.end text) column (right_is form k few b.lines b.right) wrong);
    }

-- what is wrong at a line and column is so by the table
pub record ByTable (form : Form) (text : List ℕ) (line column : ℕ) (w : WrongAt form text line column) : Type 0 where
  pub last : Record
  pub read : lines_of form (line - 1) text ≡ whole (length w.before.lines) last
  pub wrong : LeavesAt (Lines (right_at form line last)) w.before.rest column

pub by_table : (form : Form) (text : List ℕ) (line column : ℕ) → (w : WrongAt form text line column) → ByTable form text line column w
by_table form text line column w =
    let k : ℕ = line - 1 in
    let few : k < lines_in form = omega (arith, w.first, w.last) in
    let number : 1 + k ≡ line = omega (arith, w.first) in
    let f = w.before.right in
    let same : (next : List ℕ) → FirstLines form line (w.before.lines ++ next) ↔ Lines (right_at form line (copied form k f.entry)) next =
    subst (λ (n : ℕ). (next : List ℕ) → FirstLines form n (w.before.lines ++ next) ↔ Lines (right_at form n (copied form k f.entry)) next) number
    (λ next. let r = right_is form k few w.before.lines f next in (r.1, r.0)) in
    record {
      last = copied form k f.entry;
      read = begun_read form k (omega arith) text w.before;
      wrong = same_lines w.before.rest column same w.wrong;
    }

-- so the reading stops there
pub wrong_stop : (form : Form) (text : List ℕ) (line column : ℕ) → WrongAt form text line column → (early : Bool) × (lines_of form (lines_in form) text ≡ broken_at line column early)
wrong_stop form text line column w =
    let k : ℕ = line - 1 in
    let x : List ℕ = w.before.lines in
    let b = by_table form text line column w in
    let number : 1 + k ≡ line = omega (arith, w.first) in
    let behind : drop (length x) text ≡ w.before.rest = ap (drop (length x)) (sym w.before.parts) ∙ drop-append_seam x w.before.rest in
    let stopped : read_at form line b.last (drop (length x) text) ≡ no_line column = rw behind (only form line b.last w.before.rest (no_line column) b.wrong) in
    let early : Bool = ltb (length (drop (length x) text)) column in
    let here : lines_of form (suc k) text ≡ broken_at line column early =
    rw number at (read_no_more (read_at form) (given form) 1 blank k (length x) b.last text column b.read (rw number stopped)) in
    let count : lines_in form - suc k + suc k ≡ lines_in form = omega (arith, w.first, w.last) in
    (early, rw count at (stays_broken (read_at form) (given form) 1 blank (lines_in form - suc k) (suc k) text line column early here))
