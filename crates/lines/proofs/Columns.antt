-- A text has one column at most at which it leaves a set of lines, and the characters up to it decide it.
use mathlib.Core.Path.{◌≡◌, refl, sym, ap, ◌∙◌}
use mathlib.Core.Bool.{Bool, true, false}
use mathlib.Core.List.{List, [], ◌++◌, append_assoc, append-nil}
use mathlib.Core.Logic.{◌↔◌}
use Prim.Native.Nat.{ℕ, ◌-◌, ◌≤◌, ◌<◌}
use native.Mathlib.Omega.{arith}
use lib.Dec.{leb}
use lib.ListN.{length, take, drop, take-append-drop, length-take}
use lib.Seq.{take-take}
use borrow.Author.Tests.{leb-true, leb-false}
use Rattle.lines.specs.Column.{Viable, Begins, LeavesAt}

module _ {right : List ℕ → Type 0} where
  -- the beginning of a beginning is one
  pub viable_shorter : (text : List ℕ) (m n : ℕ) → m ≤ n → Viable right (take n text) → Viable right (take m text)
  viable_shorter text m n h v =
      let whole : take m text ++ (drop m (take n text) ++ v.rest) ≡ take n text ++ v.rest =
      sym (append_assoc (take m text) (drop m (take n text)) v.rest)
      ∙ ap (λ (x : List ℕ). (x ++ drop m (take n text)) ++ v.rest) (sym (take-take m n text h))
      ∙ ap (λ (x : List ℕ). x ++ v.rest) (take-append-drop m (take n text)) in
      record { rest = drop m (take n text) ++ v.rest; goes_on = rw whole v.goes_on }

  -- no column lies before another
  not_before : (text : List ℕ) (c d : ℕ) → LeavesAt right text c → LeavesAt right text d → c < d → ⊥
  not_before text c d p q h = p.at (omega (arith, q.inside)) (viable_shorter text c (d - 1) (omega arith) q.before)

  -- there is one column
  pub one_column : (text : List ℕ) (c d : ℕ) → LeavesAt right text c → LeavesAt right text d → c ≡ d
  one_column text c d p q = omega (arith, not_before text c d p q, not_before text d c q p)

  -- the characters up to it decide the column: a text that goes on otherwise has the same
  pub column_early : (text other : List ℕ) (c : ℕ) → c ≤ length text → take c other ≡ take c text → LeavesAt right text c → LeavesAt right other c
  column_early text other c h e p = record {
    none = λ size b. short size b (leb size c) refl;
    first = p.first;
    inside = omega (arith, long);
    before = rw (up_to (c - 1) (omega arith)) p.before;
    at = λ k v. p.at h (rw e at v);
  }
    where
      long : c ≤ length other
      long = omega (arith, length-take c other, length-take c text, ap length e)

      up_to : (m : ℕ) → m ≤ c → take m other ≡ take m text
      up_to m k = sym (take-take m c other k) ∙ ap (take m) e ∙ take-take m c text k

      short : (size : ℕ) → Begins right other size → (t : Bool) → leb size c ≡ t → ⊥
      short size b true f =
          let k : size ≤ c = leb-true size c f in
          p.none size (record { inside = omega arith; whole = rw (up_to size k) at b.whole })
      short size b false f =
          let whole : Viable right (take size other) = record { rest = []; goes_on = rw (append-nil (take size other)) b.whole } in
          p.at h (rw e at (viable_shorter other c size (omega (arith, leb-false size c f)) whole))

-- sets of the same lines are left at the same column
pub same_lines : {left right : List ℕ → Type 0} (text : List ℕ) (c : ℕ) → ((line : List ℕ) → left line ↔ right line) → LeavesAt left text c → LeavesAt right text c
same_lines text c f p = record {
  none = λ size b. p.none size (record { inside = b.inside; whole = (f _).1 b.whole });
  first = p.first;
  inside = p.inside;
  before = record { rest = p.before.rest; goes_on = (f _).0 p.before.goes_on };
  at = λ h v. p.at h (record { rest = v.rest; goes_on = (f _).1 v.goes_on });
}
