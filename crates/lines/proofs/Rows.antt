-- Lines in a row, by a table: which texts are its first lines, what these give, and at which line and column a text leaves them. The lines that are read are the first
-- lines, and a reading stops where a text leaves them.
use mathlib.Core.Path.{◌≡◌, refl, sym, ap, ◌∙◌, subst, subst₂}
use mathlib.Core.Bool.{Bool}
use mathlib.Core.List.{List, [], ◌++◌, append-nil, append_assoc}
use mathlib.Core.Logic.{◌↔◌}
use Prim.Native.Nat.{ℕ, zero, suc, ◌+◌, ◌-◌, ◌≤◌}
use native.Mathlib.Omega.{arith}
use lib.Dec.{ltb}
use lib.ListN.{length, take, drop, length-append, take-append-drop}
use lib.Seq.{take-add, take-append_seam, drop-append_seam}
use Rattle.lines.specs.Right.{Lines}
use Rattle.lines.specs.Laws.{FoundIn}
use Rattle.lines.specs.Steps.{Found, a_line, no_line}
use Rattle.lines.specs.Tables.{whole, broken_at}
use Rattle.lines.specs.Column.{LeavesAt}
use Rattle.lines.proofs.Tables.{up_to, Stop, read_more_lem, read_no_more, last_line, stays_broken}

-- a table: the right lines at each place, counted from 1, behind lines that gave something; what they give with one more, by the number that it says and by its
-- text; and what no line gives
module _ {E : Type 0} (right_at : ℕ → E → List ℕ → ℕ → Type 0) (given : ℕ → E → ℕ → List ℕ → E) (nothing : E) where
  -- a right line behind n others
  pub record Behind (Others : List ℕ → E → Type 0) (n : ℕ) (text : List ℕ) (e : E) : Type 0 where
    pub before : List ℕ
    pub gave : E
    pub rows : Others before gave
    pub line : List ℕ
    pub says : ℕ
    pub right : right_at (1 + n) gave line says
    pub whole : text ≡ before ++ line
    pub gives : e ≡ given (1 + n) gave says line

  -- a text is the first n lines, and they give this
  abbrev pub Rows : ℕ → List ℕ → E → Type 0
  Rows zero text e = (text ≡ []) × (e ≡ nothing)
  Rows (suc n) text e = Behind (Rows n) n text e

  -- a text is wrong at a line and column: the lines before it are right, and behind them the text leaves the right lines at the column
  pub record WrongIn (last : ℕ) (text : List ℕ) (line column : ℕ) : Type 0 where
    pub from_one : 1 ≤ line
    pub to_last : line ≤ last
    pub before : List ℕ
    pub rest : List ℕ
    pub gave : E
    pub parts : before ++ rest ≡ text
    pub rows : Rows (line - 1) before gave
    pub wrong : LeavesAt (Lines (right_at line gave)) rest column

module _ {E : Type 0} (given : ℕ → E → ℕ → List ℕ → E) (nothing : E) (right_at : ℕ → E → List ℕ → ℕ → Type 0) where
  -- a right line behind the first n lines is one more of them
  one_more : (n : ℕ) (x next : List ℕ) (e : E) (says : ℕ) → Rows right_at given nothing n x e → right_at (1 + n) e next says
      → Rows right_at given nothing (suc n) (x ++ next) (given (1 + n) e says next)
  one_more n x next e says rows right =
      record { before = x; gave = e; rows = rows; line = next; says = says; right = right; whole = refl; gives = refl }

  -- where each line can be right, there can be as many more behind them as wanted
  pub rows_more : ((n : ℕ) (e : E) → (text : List ℕ) × (says : ℕ) × right_at n e text says) → (more n : ℕ) (x : List ℕ) (e : E) → Rows right_at given nothing n x e
      → (rest : List ℕ) × (d : E) × Rows right_at given nothing (more + n) (x ++ rest) d
  rows_more some zero n x e rows =
      let same : 0 + n ≡ n = omega arith in
      ([], e, subst₂ (λ (k : ℕ) (y : List ℕ). Rows right_at given nothing k y e) (sym same) (sym (append-nil x)) rows)
  rows_more some (suc more) n x e rows =
      let l = some (1 + n) e in
      let c = rows_more some more (suc n) (x ++ l.0) (given (1 + n) e l.1 l.0) (one_more n x l.0 e l.1 rows l.2) in
      let same : suc more + n ≡ more + suc n = omega arith in
      (l.0 ++ c.0, c.1, subst₂ (λ (k : ℕ) (y : List ℕ). Rows right_at given nothing k y c.1) (sym same) (append_assoc x l.0 c.0) c.2)

module _ {E : Type 0} (read_at : ℕ → E → List ℕ → Found) (given : ℕ → E → ℕ → List ℕ → E) (nothing : E) (right_at : ℕ → E → List ℕ → ℕ → Type 0)
    (told : (n : ℕ) (e : E) (text : List ℕ) → FoundIn (right_at n e) text (read_at n e text))
    (only : (n : ℕ) (e : E) (text : List ℕ) (f : Found) → FoundIn (right_at n e) text f → read_at n e text ≡ f) where
  -- lines that are read are the first lines
  pub read_rows : (n : ℕ) (text : List ℕ) (end : ℕ) (e : E) → up_to read_at given 1 nothing n text ≡ whole end e → Rows right_at given nothing n (take end text) e
  read_rows zero text end e f =
      let none : 0 ≡ end = cc in
      let same : nothing ≡ e = cc in
      (ap (λ (k : ℕ). take k text) (sym none), sym same)
  read_rows (suc n) text end e f =
      let m = last_line read_at given 1 nothing n end e text f in
      let t : FoundIn (right_at (1 + n) m.earlier) (drop m.at text) (a_line m.size m.says) = rw m.found at (told (1 + n) m.earlier (drop m.at text)) in
      record {
        before = take m.at text;
        gave = m.earlier;
        rows = read_rows n text m.at m.earlier m.read;
        line = take m.size (drop m.at text);
        says = m.says;
        right = t.1;
        whole = ap (λ (k : ℕ). take k text) m.ends ∙ take-add m.at m.size text;
        gives = m.gives;
      }

  -- and the first lines are read, whatever stands behind them
  pub rows_read : (n : ℕ) (x rest : List ℕ) (e : E) → Rows right_at given nothing n x e → up_to read_at given 1 nothing n (x ++ rest) ≡ whole (length x) e
  rows_read zero x rest e (f, g) = λ j. whole (length (sym f j)) (sym g j)
  rows_read (suc n) x rest e r =
      let line : List ℕ = r.line in
      let all : x ++ rest ≡ r.before ++ (line ++ rest) = ap (λ (y : List ℕ). y ++ rest) r.whole ∙ append_assoc r.before line rest in
      let behind : drop (length r.before) (r.before ++ (line ++ rest)) ≡ line ++ rest = drop-append_seam r.before (line ++ rest) in
      let found : read_at (1 + n) r.gave (line ++ rest) ≡ a_line (length line) r.says =
      only (1 + n) r.gave (line ++ rest) (a_line (length line) r.says) (omega (arith, length-append line rest), rw (take-append_seam line rest) r.right) in
      let more = read_more_lem read_at given 1 nothing n (length r.before) r.gave (r.before ++ (line ++ rest)) (length line) r.says
      (rows_read n r.before (line ++ rest) r.gave r.rows) (rw behind found) in
      let size : length r.before + length line ≡ length x = omega (arith, ap length r.whole, length-append r.before line) in
      ap (up_to read_at given 1 nothing (suc n)) all
      ∙ more
      ∙ ap (λ (y : List ℕ). whole (length r.before + length line) (given (1 + n) r.gave r.says y)) (ap (take (length line)) behind ∙ take-append_seam line rest)
      ∙ (λ j. whole (size j) (sym r.gives j))

  -- so a text begins with the first n lines in one way
  pub one_way : (n : ℕ) (x y rest rest' : List ℕ) (d e : E) → Rows right_at given nothing n x d → Rows right_at given nothing n y e → x ++ rest ≡ y ++ rest'
      → (x ≡ y) × (rest ≡ rest') × (d ≡ e)
  one_way n x y rest rest' d e r s all =
      let same : whole (length x) d ≡ whole (length y) e = sym (rows_read n x rest d r) ∙ ap (up_to read_at given 1 nothing n) all ∙ rows_read n y rest' e s in
      let size : length x ≡ length y = cc in (
        sym (take-append_seam x rest) ∙ (λ j. take (size j) (all j)) ∙ take-append_seam y rest',
        sym (drop-append_seam x rest) ∙ (λ j. drop (size j) (all j)) ∙ drop-append_seam y rest',
        cc,
      )

  -- a line behind them is right exactly where it is one more of them
  pub next_right : (n line : ℕ) → 1 + n ≡ line → (x next : List ℕ) (e : E) → Rows right_at given nothing n x e
      → Lines (right_at line e) next ↔ ((d : E) × Rows right_at given nothing line (x ++ next) d)
  next_right n line number x next e rows =
      let later : suc n ≡ line = omega arith in
      subst₂ (λ (a b : ℕ). Lines (right_at a e) next ↔ ((d : E) × Rows right_at given nothing b (x ++ next) d)) number later (
        λ (says, right). (given (1 + n) e says next, one_more given nothing right_at n x next e says rows right),
        λ (d, b).
            let o = one_way n x b.before next b.line e b.gave rows b.rows b.whole in
            (b.says, subst₂ (λ (g : E) (y : List ℕ). right_at (1 + n) g y b.says) (sym o.2) (sym o.1) b.right),
      )

  -- a reading that stopped at a line and column is wrong there
  pub stop_wrong : (last : ℕ) (text : List ℕ) (bad column : ℕ) (early : Bool) → Stop read_at given 1 nothing last text bad column early
      → WrongIn right_at given nothing last text bad column
  stop_wrong last text bad column early s =
      let number : bad - 1 ≡ s.before = omega (arith, s.number) in
      record {
        from_one = omega (arith, s.number);
        to_last = omega (arith, s.number, s.fewer);
        before = take s.end text;
        rest = drop s.end text;
        gave = s.last;
        parts = take-append-drop s.end text;
        rows = subst (λ (n : ℕ). Rows right_at given nothing n (take s.end text) s.last) (sym number) (read_rows s.before text s.end s.last s.read);
        wrong = rw s.stopped at (told bad s.last (drop s.end text));
      }

  -- and where a text is wrong its reading stops
  pub wrong_stop : (last : ℕ) (text : List ℕ) (line column : ℕ) → WrongIn right_at given nothing last text line column
      → (early : Bool) × (up_to read_at given 1 nothing last text ≡ broken_at line column early)
  wrong_stop last text line column w =
      let k : ℕ = line - 1 in
      let number : 1 + k ≡ line = omega (arith, w.from_one) in
      let behind : drop (length w.before) text ≡ w.rest = ap (drop (length w.before)) (sym w.parts) ∙ drop-append_seam w.before w.rest in
      let read : up_to read_at given 1 nothing k text ≡ whole (length w.before) w.gave =
      ap (up_to read_at given 1 nothing k) (sym w.parts) ∙ rows_read k w.before w.rest w.gave w.rows in
      let stopped : read_at line w.gave (drop (length w.before) text) ≡ no_line column = rw behind (only line w.gave w.rest (no_line column) w.wrong) in
      let early : Bool = ltb (length (drop (length w.before) text)) column in
      let here : up_to read_at given 1 nothing (suc k) text ≡ broken_at line column early =
      rw number at (read_no_more read_at given 1 nothing k (length w.before) w.gave text column read (rw number stopped)) in
      let count : last - suc k + suc k ≡ last = omega (arith, w.from_one, w.to_last) in
      (early, rw count at (stays_broken read_at given 1 nothing (last - suc k) (suc k) text line column early here))

  -- there is one such line and column
  pub one_place : (last : ℕ) (text : List ℕ) (line column line' column' : ℕ) → WrongIn right_at given nothing last text line column
      → WrongIn right_at given nothing last text line' column' → (line ≡ line') × (column ≡ column')
  one_place last text line column line' column' v w =
      let a = wrong_stop last text line column v in
      let b = wrong_stop last text line' column' w in
      let same : broken_at line column a.0 ≡ broken_at line' column' b.0 = sym a.1 ∙ b.1 in
      (cc, cc)
