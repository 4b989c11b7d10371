-- What reading a line promises.
use mathlib.Core.Path.{◌≡◌, refl, sym, ap, ◌∙◌}
use mathlib.Core.Bool.{Bool, true, false, cond, false≢true}
use mathlib.Core.List.{List, [], ◌∷◌}
use mathlib.Core.Logic.{◌↔◌, ◌⊎◌, inl, inr, ⊎_elim}
use Prim.Native.Nat.{ℕ, ◌+◌, ◌-◌, ◌≤◌}
use native.Mathlib.Numerals.{add-one}
use native.Mathlib.Omega.{arith}
use lib.Dec.{leb, ltb}
use borrow.Author.Tests.{leb-true, ltb-true, ltb-false}
use Rattle.digits.proofs.Spelling.{and_both}
use Rattle.lines.specs.declared.kinds.Value.{Value}
use Rattle.lines.specs.declared.kinds.Value.TheVariants.{Fixed, Number, Bytes}
use Rattle.lines.specs.declared.kinds.Kind.{Kind}
use Rattle.lines.specs.Column.{LeavesAt}
use Rattle.lines.specs.Right.{Right, Lines}
use Rattle.std.specs.Prelude.{Ok, Err}
use Rattle.lines.specs.Steps.{Found, a_line, no_line, Walk, walk, step_of, begin, found_at, read_of, either_of}
use Rattle.lines.specs.Laws.{fits, Fit, FoundIn, Either, ReadsLines}
use Rattle.lines.proofs.Columns.{viable_shorter, one_column, column_early, same_lines}
use Rattle.lines.proofs.Reach.{Reached, reached}
use Rattle.lines.proofs.Grammar.{Grammar, follows, right_lines}
use Rattle.lines.proofs.Numbers.{number_grammar}
use Rattle.lines.proofs.Hex.{bytes_grammar}
use Rattle.lines.proofs.Feeds.{one_feed, column_in_line}
use Rattle.lines.proofs.Pairs.{blamed}

-- ---- every kind is followed

-- no digits
fixed_grammar : (own : ℕ) → Grammar (Fixed own) (λ k n. record {}) (λ k n ds says. (says ≡ own) × (ds ≡ []))
fixed_grammar own = record {
  alive = λ k n o. ([], own, (refl, refl));
  end = λ k n says o. (λ e. (e.1, refl), λ t. (refl, t.0));
  stays = λ k n o. o;
  on = λ k n c o e. absurd (false≢true e);
  off = λ k n c ds says o e t. let f : c ∷ ds ≡ [] = t.1 in cc;
  no_feed = λ k n ds says t. let f : 0x0a ∷ ds ≡ [] = t.1 in cc;
  start = record {};
  spelled = λ ds says. (λ t. t, λ t. t);
}

-- the right lines under other names
rename : (left right : List ℕ → ℕ → Type 0) → ((line : List ℕ) (says : ℕ) → left line says ↔ right line says) → (text : List ℕ) (w : Walk) → Reached left text w → Reached right text w
rename left right f text w r = record {
  inside = r.inside;
  before = record { rest = r.before.rest; goes_on = (r.before.goes_on.0, (f _ _).0 r.before.goes_on.1) };
  beyond = λ h v. r.beyond h (record { rest = v.rest; goes_on = (v.goes_on.0, (f _ _).1 v.goes_on.1) });
  whole = λ e. (f _ _).0 (r.whole e);
  over = λ size says h l. r.over size says h ((f _ _).1 l);
}

-- where a walk stops by the right lines of a kind
stops : (kind : Kind) (text : List ℕ) → Fit kind → Reached (Right kind) text (walk (step_of kind) begin text)
stops kind text fit = go kind.value refl fit.valued
  where
    by : (value : Value) → kind.value ≡ value → {ok : ℕ → ℕ → Type 0} {tail : ℕ → ℕ → List ℕ → ℕ → Type 0} → Grammar value ok tail
        → Reached (Right kind) text (walk (step_of kind) begin text)
    by value e {ok} {tail} g =
        let h : Grammar kind.value ok tail = rw e g in
        rename _ _ (right_lines kind ok tail fit.named h) text _ (reached _ _ _ (follows kind ok tail fit.named h) begin text h.start)

    go : (value : Value) → kind.value ≡ value → fits value ≡ true → Reached (Right kind) text (walk (step_of kind) begin text)
    go (Fixed own) e f = by (Fixed own) e (fixed_grammar own)
    go (Number least most) e f =
        let b = and_both (leb least 1) _ f in
        by (Number least most) e (number_grammar least most (leb-true _ _ b.0) (leb-true _ _ b.1))
    go (Bytes least most case) e f = by (Bytes least most case) e (bytes_grammar case least most (leb-true _ _ f))

-- there is a right line of each kind that fits
pub some_line : (kind : Kind) → Fit kind → (line : List ℕ) × (says : ℕ) × Right kind line says
some_line kind fit = let v = (stops kind [] fit).before in (v.rest, v.goes_on.0, v.goes_on.1)

-- ---- the law

module _ (right : List ℕ → ℕ → Type 0) (text : List ℕ) (w : Walk) (r : Reached right text w) where
  -- a walk that stopped before the end names the column
  stopped : w.state.ended ≡ false → LeavesAt (Lines right) text (w.passed + 1)
  stopped e = record {
    none = λ size b. false≢true (sym e ∙ (r.over size b.whole.0 b.inside b.whole.1).0);
    first = omega arith;
    inside = omega (arith, r.inside);
    before = (let same : w.passed + 1 - 1 ≡ w.passed = omega arith in rw same r.before);
    at = λ h v. r.beyond (omega arith) (rw (add-one w.passed) at v);
  }

  -- what it finds is so
  told : FoundIn right text (found_at w)
  told = go w.state.ended refl
    where
      go : (b : Bool) → w.state.ended ≡ b → FoundIn right text (cond b (a_line w.passed w.state.number) (no_line (w.passed + 1)))
      go true e = (r.inside, r.whole e)
      go false e = stopped e

  -- and nothing else is
  only : (f : Found) → FoundIn right text f → found_at w ≡ f
  only (Ok line) t = let o = r.over line.size line.number t.0 t.1 in rw (o.0, o.1, o.2)
  only (Err c) p = go w.state.ended refl
    where
      go : (b : Bool) → w.state.ended ≡ b → cond b (a_line w.passed w.state.number) (no_line (w.passed + 1)) ≡ no_line c.column
      go true e = absurd (p.none w.passed (record { inside = r.inside; whole = (w.state.number, r.whole e) }))
      go false e = ap no_line (one_column text _ _ (stopped e) p)

-- ---- one of two kinds

module _ (left right : List ℕ → ℕ → Type 0) (text : List ℕ) where
  -- a column of both kinds, where that of the one is not before the other's
  both : (c d : ℕ) → LeavesAt (Lines left) text c → LeavesAt (Lines right) text d → d ≤ c → LeavesAt (Lines (Either left right)) text c
  both c d p q h = record {
    none = λ size b.
        ⊎_elim (λ l. p.none size (record { inside = b.inside; whole = (b.whole.0, l) })) (λ l. q.none size (record { inside = b.inside; whole = (b.whole.0, l) }))
        b.whole.1;
    first = p.first;
    inside = p.inside;
    before = record { rest = p.before.rest; goes_on = (p.before.goes_on.0, inl p.before.goes_on.1) };
    at = λ k v.
        ⊎_elim (λ l. p.at k (record { rest = v.rest; goes_on = (v.goes_on.0, l) }))
        (λ l. q.at (omega arith) (viable_shorter {right = Lines right} text d c h (record { rest = v.rest; goes_on = (v.goes_on.0, l) }))) v.goes_on.1;
  }

-- the lines of two kinds in either order
turned : (left right : List ℕ → ℕ → Type 0) (text : List ℕ) (c : ℕ) → LeavesAt (Lines (Either right left)) text c → LeavesAt (Lines (Either left right)) text c
turned left right text c p = same_lines text c (λ line. (λ l. (l.0, swap l.1), λ l. (l.0, swap l.1))) p
  where
    swap : {A B : Type 0} → A ⊎ B → B ⊎ A
    swap x = ⊎_elim inr inl x

either_told : (left right : List ℕ → ℕ → Type 0) (text : List ℕ) (f g : Found) → FoundIn left text f → FoundIn right text g → FoundIn (Either left right) text (either_of f g)
either_told left right text (Ok line) g p q = (p.0, inl p.1)
either_told left right text (Err c) (Ok line) p q = (q.0, inr q.1)
either_told left right text (Err c) (Err d) p q = go (ltb c.column d.column) refl
  where
    go : (b : Bool) → ltb c.column d.column ≡ b → FoundIn (Either left right) text (cond b (Err d) (Err c))
    go true e = turned left right text d.column (both right left text d.column c.column q p (omega (arith, ltb-true c.column d.column e)))
    go false e = both left right text c.column d.column p q (ltb-false c.column d.column e)

-- reading a line promises it all
pub reads_lines : ReadsLines
unfolding read_of
reads_lines = record {
  told = λ kind text fit. told (Right kind) text (walk (step_of kind) begin text) (stops kind text fit);
  either = either_told;
  only = λ kind text f fit. only (Right kind) text (walk (step_of kind) begin text) (stops kind text fit) f;
  one = λ right text c d p q. one_column {right = right} text c d p q;
  one_feed = one_feed;
  in_line = λ right text c feeds w. column_in_line right feeds text c w;
  early = λ right text other c h e p. column_early {right = right} text other c h e p;
  pair = λ kind least most case fit hex x rest a b bytes room other. blamed kind least most case fit hex x rest a b bytes room other;
}
