-- Texts of things by a table: where the table's rows are the lines of things in form, a reading is whole exactly where a text begins with one, and stops where a text leaves
-- their lines.
use mathlib.Core.Path.{◌≡◌, refl, sym, ap, ap₂, ◌∙◌, subst}
use mathlib.Core.Bool.{Bool, true, false}
use mathlib.Core.List.{List, ◌++◌, append-nil, append_assoc}
use mathlib.Core.Logic.{◌↔◌}
use Prim.Native.Nat.{ℕ, zero, suc, ◌+◌, ◌-◌, ◌≤◌, ◌<◌}
use native.Mathlib.Omega.{arith}
use lib.Dec.{leb}
use lib.ListN.{length, take, drop, take-append-drop}
use lib.Seq.{take-append_seam, take-append-le}
use borrow.Author.Tests.{leb-true, leb-false}
use Rattle.lines.specs.Column.{LeavesAt, line_at}
use Rattle.lines.specs.Right.{Lines}
use Rattle.lines.specs.Laws.{FoundIn, OneFeed}
use Rattle.lines.specs.Steps.{Found}
use Rattle.lines.specs.Tables.{Outcome, whole, broken_at}
use Rattle.lines.specs.Texts.{text_from, Begun, FirstLines, WrongAt}
use Rattle.lines.proofs.Columns.{same_lines}
use Rattle.lines.proofs.Laws.{reads_lines}
use Rattle.lines.proofs.Rows as rows
use Rattle.lines.proofs.Rows.{Rows, WrongIn, rows_more, one_way, next_right}
use Rattle.lines.proofs.Tables.{up_to, stopped_at, read_before, broken_before, mended}

-- ---- the lines of a thing

module _ {C : Type 0} (line_text : ℕ → C → List ℕ) where
  -- more lines stand behind the others
  text_append : (k more line n : ℕ) (c : C) → line + k ≡ n → text_from line_text (k + more) line c ≡ text_from line_text k line c ++ text_from line_text more n c
  text_append zero more line n c e =
      let here : line ≡ n = omega arith in
      let none : 0 + more ≡ more = omega arith in
      rw (none, here)
  text_append (suc k) more line n c e =
      let next : suc k + more ≡ suc (k + more) = omega arith in
      rw next
      (ap (λ (t : List ℕ). line_text line c ++ t) (text_append k more (line + 1) n c (omega arith))
      ∙ sym (append_assoc (line_text line c) (text_from line_text k (line + 1) c) (text_from line_text more n c)))

  -- one line more does
  pub text_snoc : (k line n : ℕ) (c : C) → line + k ≡ n → text_from line_text (suc k) line c ≡ text_from line_text k line c ++ line_text n c
  text_snoc k line n c e =
      let one : suc k ≡ k + 1 = omega arith in
      ap (λ (m : ℕ). text_from line_text m line c) one
      ∙ text_append k 1 line n c e
      ∙ ap (λ (t : List ℕ). text_from line_text k line c ++ t) (append-nil (line_text n c))

-- a text that begins with a thing only with more behind it has less than the thing's bytes
pub not_yet : {C : Type 0} (InForm : C → Type 0) (text_of : C → List ℕ) (text more : List ℕ) → (Begun InForm text_of text → ⊥)
    → (b : Begun InForm text_of (text ++ more)) → length text < length (text_of b.content)
not_yet InForm text_of text more none b = go (leb n (length text)) refl
  where
    n : ℕ
    n = length (text_of b.content)

    go : (t : Bool) → leb n (length text) ≡ t → length text < n
    go false f = omega (arith, leb-false n (length text) f)
    go true f =
        let same : take n text ≡ text_of b.content =
        sym (take-append-le n text more (leb-true n (length text) f)) ∙ ap (take n) b.parts ∙ take-append_seam (text_of b.content) b.rest in
        absurd (none (record {
          content = b.content;
          in_form = b.in_form;
          rest = drop n text;
          parts = sym (take-append-drop n text) ∙ ap (λ (x : List ℕ). x ++ drop n text) same;
        }))

-- ---- rows of a thing's lines

module _ {E C : Type 0} (right_at : ℕ → E → List ℕ → ℕ → Type 0) (given : ℕ → E → ℕ → List ℕ → E) (nothing : E) (line_text : ℕ → C → List ℕ) (c : C) where
  -- behind the first k lines of a thing, which gave something, the next is right, and they give what they are to give with it
  pub record Next (filled : ℕ → E) (k : ℕ) : Type 0 where
    pub says : ℕ
    pub right : right_at (1 + k) (filled k) (line_text (1 + k) c) says
    pub gives : filled (suc k) ≡ given (1 + k) (filled k) says (line_text (1 + k) c)

  -- so the first lines are rows
  pub lines_rows : (last : ℕ) (filled : ℕ → E) → filled 0 ≡ nothing → ((k : ℕ) → k < last → Next filled k)
      → (k : ℕ) → k ≤ last → Rows right_at given nothing k (text_from line_text k 1 c) (filled k)
  lines_rows last filled first next zero m = (refl, first)
  lines_rows last filled first next (suc k) m =
      let n = next k (omega arith) in
      record {
        before = text_from line_text k 1 c;
        gave = filled k;
        rows = lines_rows last filled first next k (omega arith);
        line = line_text (1 + k) c;
        says = n.says;
        right = n.right;
        whole = text_snoc line_text k 1 (1 + k) c refl;
        gives = n.gives;
      }

  -- rows are the lines of a thing where the last is the thing's next, behind the others that are its lines
  pub rows_lines : (k : ℕ) (x : List ℕ) (e : E) → (r : Rows right_at given nothing (suc k) x e) → r.before ≡ text_from line_text k 1 c → r.line ≡ line_text (1 + k) c
      → x ≡ text_from line_text (suc k) 1 c
  rows_lines k x e r b l = r.whole ∙ ap₂ (λ (y z : List ℕ). y ++ z) b l ∙ sym (text_snoc line_text k 1 (1 + k) c refl)

-- ---- a table of things

-- a table that reads right lines, each of which can be right and ends with its one line feed; the first lines of a thing in form are its rows, and give what the
-- thing has filled by then; and all rows are the lines of such a thing
pub record ReadsThings {E C : Type 0}
    (read_at : ℕ → E → List ℕ → Found) (given : ℕ → E → ℕ → List ℕ → E) (nothing : E) (right_at : ℕ → E → List ℕ → ℕ → Type 0) (last : ℕ)
    (InForm : C → Type 0) (line_text : ℕ → C → List ℕ) (filled : C → ℕ → E) : Type 0 where
  pub told : (n : ℕ) (e : E) (text : List ℕ) → FoundIn (right_at n e) text (read_at n e text)
  pub only : (n : ℕ) (e : E) (text : List ℕ) (f : Found) → FoundIn (right_at n e) text f → read_at n e text ≡ f
  pub some : (n : ℕ) (e : E) → (text : List ℕ) × (says : ℕ) × right_at n e text says
  pub one_feed : (n : ℕ) (e : E) → OneFeed (Lines (right_at n e))
  pub rows_text : (c : C) → InForm c → (k : ℕ) → k ≤ last → Rows right_at given nothing k (text_from line_text k 1 c) (filled c k)
  pub rows_thing : (x : List ℕ) (e : E) → Rows right_at given nothing last x e → (c : C) × InForm c × (x ≡ text_from line_text last 1 c)

module _ {E C : Type 0}
    {read_at : ℕ → E → List ℕ → Found} {given : ℕ → E → ℕ → List ℕ → E} {nothing : E} {right_at : ℕ → E → List ℕ → ℕ → Type 0} {last : ℕ}
    {InForm : C → Type 0} {line_text : ℕ → C → List ℕ} {filled : C → ℕ → E}
    (table : ReadsThings read_at given nothing right_at last InForm line_text filled) where
  -- the lines of a whole thing
  abbrev text_of : C → List ℕ
  text_of c = text_from line_text last 1 c

  -- what the table makes of a text
  abbrev outcome : List ℕ → Outcome E
  outcome text = up_to read_at given 1 nothing last text

  -- ---- first lines are rows

  -- first lines are rows
  first_rows : (k : ℕ) → k ≤ last → (x : List ℕ) → FirstLines InForm line_text k x → (e : E) × Rows right_at given nothing k x e
  first_rows k m x f =
      let e : E = filled f.content k in
      (e, subst (λ (y : List ℕ). Rows right_at given nothing k y e) f.lines (table.rows_text f.content f.in_form k m))

  -- and rows are first lines: with some more they are those of a thing
  rows_first : (k : ℕ) → k ≤ last → (x : List ℕ) (e : E) → Rows right_at given nothing k x e → FirstLines InForm line_text k x
  rows_first k m x e r =
      let c = rows_more given nothing right_at table.some (last - k) k x e r in
      let count : last - k + k ≡ last = omega arith in
      let parts : k + (last - k) ≡ last = omega arith in
      let t = table.rows_thing (x ++ c.0) c.1 (subst (λ (n : ℕ). Rows right_at given nothing n (x ++ c.0) c.1) count c.2) in
      let whole : x ++ c.0 ≡ text_from line_text k 1 t.0 ++ text_from line_text (last - k) (1 + k) t.0 =
      t.2 ∙ ap (λ (n : ℕ). text_from line_text n 1 t.0) (sym parts) ∙ text_append line_text k (last - k) 1 (1 + k) t.0 refl in
      let own = table.rows_text t.0 t.1 k m in
      let same = one_way read_at given nothing right_at table.told table.only k x (text_from line_text k 1 t.0) c.0 _ e _ r own whole in
      record { content = t.0; in_form = t.1; lines = sym same.0 }

  -- a line behind rows is right exactly where it makes them first lines of a thing
  right_is : (line : ℕ) → 1 ≤ line → line ≤ last → (x : List ℕ) (e : E) → Rows right_at given nothing (line - 1) x e
      → (next : List ℕ) → Lines (right_at line e) next ↔ FirstLines InForm line_text line (x ++ next)
  right_is line l m x e r next =
      let is = next_right read_at given nothing right_at table.told table.only (line - 1) line (omega arith) x next e r in
      (λ y. let d = is.0 y in rows_first line m (x ++ next) d.0 d.1, λ f. is.1 (first_rows line m (x ++ next) f))

  -- ---- where a text leaves them

  -- what is wrong by the table is wrong
  in_wrong : (text : List ℕ) (line column : ℕ) → WrongIn right_at given nothing last text line column → WrongAt InForm line_text last text line column
  in_wrong text line column w =
      record {
        first = w.from_one;
        to_last = w.to_last;
        before = w.before;
        rest = w.rest;
        parts = w.parts;
        right = rows_first (line - 1) (omega (arith, w.to_last)) w.before w.gave w.rows;
        wrong = same_lines w.rest column (right_is line w.from_one w.to_last w.before w.gave w.rows) w.wrong;
      }

  -- a text that is wrong leaves the lines that are right in the table, behind some lines
  wrong_kind : (text : List ℕ) (line column : ℕ) → (w : WrongAt InForm line_text last text line column)
      → (e : E) × Rows right_at given nothing (line - 1) w.before e × LeavesAt (Lines (right_at line e)) w.rest column
  wrong_kind text line column w =
      let f = first_rows (line - 1) (omega (arith, w.to_last)) w.before w.right in
      (f.0, f.1, same_lines w.rest column (λ next. let is = right_is line w.first w.to_last w.before f.0 f.1 next in (is.1, is.0)) w.wrong)

  -- so it is wrong by the table
  wrong_in : (text : List ℕ) (line column : ℕ) → WrongAt InForm line_text last text line column → WrongIn right_at given nothing last text line column
  wrong_in text line column w =
      let k = wrong_kind text line column w in
      record {
        from_one = w.first;
        to_last = w.to_last;
        before = w.before;
        rest = w.rest;
        gave = k.0;
        parts = w.parts;
        rows = k.1;
        wrong = k.2;
      }

  -- ---- the laws

  -- a whole reading read the lines of a thing
  pub whole_begun : (text : List ℕ) (end : ℕ) (e : E) → outcome text ≡ whole end e → Begun InForm text_of text
  whole_begun text end e f =
      let t = table.rows_thing (take end text) e (rows.read_rows read_at given nothing right_at table.told table.only last text end e f) in
      record {
        content = t.0;
        in_form = t.1;
        rest = drop end text;
        parts = sym (take-append-drop end text) ∙ ap (λ (x : List ℕ). x ++ drop end text) t.2;
      }

  -- and a text that begins with those of a thing is read whole, as this thing
  pub begun_whole : (c : C) (rest : List ℕ) → InForm c → outcome (text_of c ++ rest) ≡ whole (length (text_of c)) (filled c last)
  begun_whole c rest f =
      rows.rows_read read_at given nothing right_at table.told table.only last (text_of c) rest (filled c last) (table.rows_text c f last (omega arith))

  -- a reading that stopped at a line and column is of a text that is wrong there
  pub stopped_wrong : (text : List ℕ) (line column : ℕ) (early : Bool) → outcome text ≡ broken_at line column early → WrongAt InForm line_text last text line column
  stopped_wrong text line column early e =
      let s = stopped_at read_at given 1 nothing last text line column early e in
      in_wrong text line column (rows.stop_wrong read_at given nothing right_at table.told table.only last text line column early s)

  -- and that of a text that is wrong stops there
  pub wrong_stopped : (text : List ℕ) (line column : ℕ) → WrongAt InForm line_text last text line column
      → (early : Bool) × (outcome text ≡ broken_at line column early)
  wrong_stopped text line column w = rows.wrong_stop read_at given nothing right_at table.told table.only last text line column (wrong_in text line column w)

  -- there is one such line and column
  pub one_place : (text : List ℕ) (line column line' column' : ℕ) → WrongAt InForm line_text last text line column → WrongAt InForm line_text last text line' column'
      → (line ≡ line') × (column ≡ column')
  one_place text line column line' column' v w =
      rows.one_place read_at given nothing right_at table.told table.only last text line column line' column'
      (wrong_in text line column v) (wrong_in text line' column' w)

  -- the column is at most one past the line's last character
  pub in_line : (text : List ℕ) (line column : ℕ) → (w : WrongAt InForm line_text last text line column) → column ≤ length (line_at w.rest) + 1
  in_line text line column w =
      let k = wrong_kind text line column w in
      reads_lines.in_line _ w.rest column (table.one_feed line k.0) k.2

  -- a whole reading is decided
  pub whole_decided : (text more : List ℕ) (end : ℕ) (e : E) → outcome text ≡ whole end e → outcome (text ++ more) ≡ whole end e
  whole_decided text more end e f = (read_before read_at given 1 nothing right_at table.told table.only last text more end e f).1

  -- and so is one that stopped at a character
  pub broken_decided : (text more : List ℕ) (line column : ℕ) → outcome text ≡ broken_at line column false → outcome (text ++ more) ≡ broken_at line column false
  broken_decided text more line column e = broken_before read_at given 1 nothing right_at table.told table.only last text more line column e

  -- and a text that ended too early goes on to a thing
  pub goes_on : (text : List ℕ) (line column : ℕ) → outcome text ≡ broken_at line column true → (more : List ℕ) × Begun InForm text_of (text ++ more)
  goes_on text line column e =
      let m = mended read_at given 1 nothing right_at table.told table.only table.some last text line column e in
      (m.0, whole_begun (text ++ m.0) (length (text ++ m.0)) m.1 m.2)
