-- A right line has one line feed, its last character, so no column lies behind the line.
use mathlib.Core.Path.{◌≡◌, refl, sym, ap, ◌∙◌}
use mathlib.Core.Bool.{Bool, true, false, cond, not, false≢true}
use mathlib.Core.List.{List, [], ◌∷◌, ◌++◌, append_assoc}
use mathlib.Core.Logic.{◌⊎◌, inl, inr, ⊎_elim}
use Prim.Native.Nat.{ℕ, suc, ◌+◌, ◌-◌, ◌≤◌, ◌<◌}
use native.Mathlib.Omega.{arith}
use lib.Dec.{eqb, leb}
use lib.ListN.{length, take, length-append}
use lib.Seq.{take-append-add}
use borrow.Author.Tests.{leb-true, leb-false, eqb-true, eq-eqb, ne_eqb}
use Rattle.digits.specs.declared.hex.Case.{Case}
use Rattle.digits.specs.Hex.{digit_in, is_value, hex_in, all_digits}
use Rattle.digits.specs.Numbers.{numeral}
use Rattle.digits.specs.Room.{line_of}
use Rattle.digits.proofs.Spelling.{and_both, digits_hex}
use Rattle.digits.proofs.Numerals.{all_decimal, decimal_numeral, decimal_cons}
use Rattle.lines.specs.declared.kinds.Value.{Value}
use Rattle.lines.specs.declared.kinds.Value.TheVariants.{Fixed, Number, Bytes}
use Rattle.lines.specs.declared.kinds.Kind.{Kind}
use Rattle.lines.specs.Column.{LeavesAt, line_at}
use Rattle.lines.specs.Right.{Spells, name_of, Right, Lines}
use Rattle.lines.specs.Laws.{fits, plain, Fit, OneFeed}
use Rattle.lines.proofs.Hex.{feed_none}

plain_append : (x y : List ℕ) → plain x ≡ true → plain y ≡ true → plain (x ++ y) ≡ true
plain_append [] y e f = f
plain_append (c ∷ x) y e f =
    let b = and_both (not (eqb c 0x0a)) _ e in
    rw b.0 (plain_append x y b.1 f)

plain_decimal : (ds : List ℕ) → all_decimal ds ≡ true → plain ds ≡ true
plain_decimal [] e = refl
plain_decimal (c ∷ ds) e =
    let b = decimal_cons c ds e in
    rw (ne_eqb c 0x0a (omega (arith, b.0.0))) (plain_decimal ds b.1)

plain_hex : (case : Case) (ds : List ℕ) → all_digits case ds ≡ true → plain ds ≡ true
plain_hex case [] e = refl
plain_hex case (c ∷ ds) e =
    let b = and_both (is_value (digit_in case c)) _ e in
    let other : c ≡ 0x0a → ⊥ = λ f. false≢true (sym (feed_none case) ∙ rw f at b.0) in
    rw (ne_eqb c 0x0a other) (plain_hex case ds b.1)

-- no value has a line feed
plain_value : (value : Value) (says : ℕ) (ds : List ℕ) → fits value ≡ true → Spells value says ds → plain ds ≡ true
plain_value (Fixed own) says ds f s = rw s.1
plain_value (Number least most) says ds f s = rw s.2 (plain_decimal (numeral says) (decimal_numeral says))
plain_value (Bytes least most case) says ds f s = rw s.5 (plain_hex case (hex_in case s.1) (digits_hex case s.1 s.2))

-- behind the first line feed of a right line there is nothing
last_feed : (x a b : List ℕ) → plain x ≡ true → x ++ 0x0a ∷ [] ≡ a ++ 0x0a ∷ b → b ≡ []
last_feed [] [] b e f = cc
last_feed [] (q ∷ []) b e f = absurd cc
last_feed [] (q ∷ r ∷ a) b e f = absurd cc
last_feed (p ∷ x) [] b e f =
    let same : p ≡ 0x0a = cc in
    absurd (false≢true (rw (eq-eqb p 0x0a same) at e))
last_feed (p ∷ x) (q ∷ a) b e f = last_feed x a b (and_both (not (eqb p 0x0a)) _ e).1 (cc)

-- a right line of a kind ends with its one line feed
pub one_feed : (kind : Kind) → Fit kind → OneFeed (Lines (Right kind))
unfolding line_of
one_feed kind fit a b (says, r) =
    last_feed (name_of kind ++ r.value) a b (plain_append (name_of kind) r.value fit.plainly (plain_value kind.value says r.value fit.valued r.spelled))
    (append_assoc (name_of kind) r.value (0x0a ∷ []) ∙ sym r.whole)

-- a text has no line feed, or its first line ends at one
split : (text : List ℕ) → (line_at text ≡ text) ⊎ ((more : List ℕ) × (text ≡ line_at text ++ 0x0a ∷ more))
split [] = inl refl
split (c ∷ text) = go (eqb c 0x0a) refl (split text)
  where
    go : (b : Bool) → eqb c 0x0a ≡ b → (line_at text ≡ text) ⊎ ((more : List ℕ) × (text ≡ line_at text ++ 0x0a ∷ more))
        → (cond b [] (c ∷ line_at text) ≡ c ∷ text) ⊎ ((more : List ℕ) × (c ∷ text ≡ cond b [] (c ∷ line_at text) ++ 0x0a ∷ more))
    go true e s = inr (text, ap (λ (d : ℕ). d ∷ text) (eqb-true _ _ e))
    go false e s = ⊎_elim (λ f. inl (ap (λ (x : List ℕ). c ∷ x) f)) (λ w. inr (w.0, ap (λ (x : List ℕ). c ∷ x) w.1)) s

module _ (right : List ℕ → Type 0) (feeds : OneFeed right) where
  -- no column lies behind the first line
  not_behind : (text l more : List ℕ) (c : ℕ) → text ≡ l ++ 0x0a ∷ more → LeavesAt right text c → length l + 1 < c → ⊥
  not_behind text l more c e w h =
      let j : ℕ = c - 1 - (length l + 1) in
      let there : c - 1 ≡ length l + suc j = omega arith in
      let one : length l + suc 0 ≡ length l + 1 = omega arith in
      let begun : take (c - 1) text ≡ l ++ 0x0a ∷ take j more =
      ap (λ (i : ℕ). take i text) there ∙ ap (λ (x : List ℕ). take (length l + suc j) x) e ∙ take-append-add l (0x0a ∷ more) (suc j) in
      let v = w.before in
      let whole : take (c - 1) text ++ v.rest ≡ l ++ 0x0a ∷ (take j more ++ v.rest) =
      ap (λ (x : List ℕ). x ++ v.rest) begun ∙ append_assoc l (0x0a ∷ take j more) v.rest in
      let line : right (l ++ 0x0a ∷ (take j more ++ v.rest)) = rw whole at v.goes_on in
      let over : take j more ++ v.rest ≡ [] = feeds l (take j more ++ v.rest) line in
      let first : take (length l + 1) text ≡ l ++ 0x0a ∷ [] = rw (← one, e) (take-append-add l (0x0a ∷ more) 1) in
      w.none (length l + 1) (record {
        inside = omega (arith, ap length e, length-append l (0x0a ∷ more));
        whole = rw first (rw over at line);
      })

  -- a column is at most one past the last character of the first line
  pub column_in_line : (text : List ℕ) (c : ℕ) → LeavesAt right text c → c ≤ length (line_at text) + 1
  column_in_line text c w = go (leb c (length (line_at text) + 1)) refl
    where
      go : (b : Bool) → leb c (length (line_at text) + 1) ≡ b → c ≤ length (line_at text) + 1
      go true e = leb-true _ _ e
      go false e =
          ⊎_elim (λ f. omega (arith, ap length f, w.inside)) (λ s. absurd (not_behind text (line_at text) s.0 c s.1 w (leb-false _ _ e))) (split text)
