-- The digits of a number between two, followed one by one.
use mathlib.Core.Path.{◌≡◌, refl, sym, ◌∙◌}
use mathlib.Core.Bool.{Bool, true, false, not, ◌&&◌, ◌||◌, false≢true, and-false}
use mathlib.Core.List.{List, [], ◌∷◌}
use mathlib.Core.Logic.{◌↔◌}
use Prim.Native.Nat.{ℕ, zero, suc, ◌+◌, ◌-◌, ◌*◌, ◌≤◌}
use native.Mathlib.Omega.{arith}
use lib.Dec.{eqb, leb}
use lib.ListN.{length, get_or}
use borrow.Author.Tests.{leb-true, eqb-true, eqb-false, le-leb, eq-eqb, ne_eqb}
use Rattle.digits.specs.Hex.{within}
use Rattle.digits.specs.Numbers.{numeral}
use Rattle.digits.proofs.Spelling.{and_both, within_true, within_is}
use Rattle.digits.proofs.Numerals.{all_decimal, needless_zero, value_from, places_some, length_numeral, numeral_one, numeral_first, decimal_numeral, decimal_cons, value_numeral, numeral_value}
use Rattle.lines.specs.declared.kinds.Value.TheVariants.{Number}
use Rattle.lines.specs.Right.{Spells}
use Rattle.lines.specs.Steps.{may_end, goes_on}
use Rattle.lines.proofs.Grammar.{Grammar}

-- digits go on to no smaller number
value_grows : (n : ℕ) (ds : List ℕ) → n ≤ value_from n ds
value_grows n [] = omega arith
value_grows n (c ∷ ds) = omega (arith, value_grows (10 * n + (c - 0x30)) ds)

-- no numeral has a needless zero
numeral_needs : (n : ℕ) → needless_zero (numeral n) ≡ false
numeral_needs zero = rw (numeral_one 0 (omega arith))
numeral_needs (suc n) = rw (ne_eqb (get_or (numeral (suc n)) 0 0) 0x30 (omega (arith, numeral_first (suc n) (omega arith))))

module _ (least most : ℕ) where
  -- before the first digit nothing is said; after it, a number between the two
  abbrev pub said : ℕ → ℕ → Type 0
  said zero n = n ≡ 0
  said (suc k) n = (least ≤ n) × (n ≤ most)

  -- digits that say a number between the two
  pub record Says (n : ℕ) (ds : List ℕ) (says : ℕ) : Type 0 where
    pub decimal : all_decimal ds ≡ true
    pub said : says ≡ value_from n ds
    pub low : least ≤ value_from n ds
    pub high : value_from n ds ≤ most

  -- the digits that may come: some at first, with no needless zero; none behind a zero
  abbrev pub digits_left : ℕ → ℕ → List ℕ → ℕ → Type 0
  digits_left zero n ds says = (1 ≤ length ds) × (needless_zero ds ≡ false) × Says n ds says
  digits_left (suc k) n ds says = (n ≡ 0 → ds ≡ []) × Says n ds says

  module _ (low : least ≤ 1) (some : least ≤ most) where
    -- a digit that may come
    record Next (k n c : ℕ) : Type 0 where
      first : 0x30 ≤ c
      last : c ≤ 0x39
      needed : (eqb k 0 || not (eqb n 0)) ≡ true
      enough : least ≤ 10 * n + (c - 0x30)
      small : 10 * n + (c - 0x30) ≤ most

    next : (k n c : ℕ) → goes_on (Number least most) k n c ≡ true → Next k n c
    next k n c e =
        let a = and_both (within 0x30 0x39 c) _ e in
        let b = and_both (eqb k 0 || not (eqb n 0)) _ a.1 in
        let d = and_both (leb least (10 * n + (c - 0x30))) _ b.1 in
        record {
          first = (within_true 0x30 0x39 c a.0).0;
          last = (within_true 0x30 0x39 c a.0).1;
          needed = b.0;
          enough = leb-true _ _ d.0;
          small = leb-true _ _ d.1;
        }

    goes : (k n c : ℕ) → Next k n c → goes_on (Number least most) k n c ≡ true
    goes k n c x = rw (le-leb 0x30 c x.first, le-leb c 0x39 x.last, x.needed, le-leb _ _ x.enough, le-leb _ _ x.small)

    -- the digits behind a digit
    behind : (n c : ℕ) (ds : List ℕ) (says : ℕ) → 0x30 ≤ c → c ≤ 0x39 → Says n (c ∷ ds) says ↔ Says (10 * n + (c - 0x30)) ds says
    behind n c ds says h k = (
      λ s. record { decimal = (decimal_cons c ds s.decimal).1; said = s.said; low = s.low; high = s.high },
      λ s. record { decimal = rw (le-leb 0x30 c h, le-leb c 0x39 k) s.decimal; said = s.said; low = s.low; high = s.high },
    )

    -- a needless zero is a zero with digits behind it
    zero_alone : (c : ℕ) (ds : List ℕ) → needless_zero (c ∷ ds) ≡ false → c ≡ 0x30 → ds ≡ []
    zero_alone c [] e h = refl
    zero_alone c (d ∷ ds) e h = absurd (false≢true (sym e ∙ rw (eq-eqb c 0x30 h, le-leb 2 (length (c ∷ d ∷ ds)) (omega arith))))

    alone_zero : (c : ℕ) (ds : List ℕ) → (c ≡ 0x30 → ds ≡ []) → needless_zero (c ∷ ds) ≡ false
    alone_zero c ds f = go (eqb c 0x30) refl
      where
        go : (b : Bool) → eqb c 0x30 ≡ b → (b && leb 2 (length (c ∷ ds))) ≡ false
        go true e = rw (f (eqb-true _ _ e))
        go false e = refl

    nonzero : (k n : ℕ) → (eqb (suc k) 0 || not (eqb n 0)) ≡ true → n ≡ 0 → ⊥
    nonzero k n e h = false≢true (rw (ne_eqb (suc k) 0 (omega arith), eq-eqb n 0 h) at e)

    on : (k n c : ℕ) → said k n → goes_on (Number least most) k n c ≡ true
        → said 1 (10 * n + (c - 0x30)) × ((ds : List ℕ) (says : ℕ) → digits_left k n (c ∷ ds) says ↔ digits_left 1 (10 * n + (c - 0x30)) ds says)
    on zero n c o e =
        let x = next 0 n c e in (
          (x.enough, x.small),
          λ ds says. (
            λ t. (λ z. zero_alone c ds t.1 (omega (arith, x.first)), (behind n c ds says x.first x.last).0 t.2),
            λ t. (omega arith, alone_zero c ds (λ z. t.0 (omega arith)), (behind n c ds says x.first x.last).1 t.1),
          ),
        )
    on (suc k) n c o e =
        let x = next (suc k) n c e in
        let some : n ≡ 0 → ⊥ = nonzero k n x.needed in (
          (x.enough, x.small),
          λ ds says. (
            λ t. (λ z. absurd (some (omega arith)), (behind n c ds says x.first x.last).0 t.1),
            λ t. (λ z. absurd (some z), (behind n c ds says x.first x.last).1 t.1),
          ),
        )

    off : (k n c : ℕ) (ds : List ℕ) (says : ℕ) → said k n → goes_on (Number least most) k n c ≡ false → digits_left k n (c ∷ ds) says → ⊥
    off zero n c ds says o e t =
        let b = decimal_cons c ds t.2.decimal in
        false≢true (sym e ∙ goes 0 n c (record {
          first = b.0.0;
          last = b.0.1;
          needed = refl;
          enough = enough (eqb c 0x30) refl;
          small = omega (arith, value_grows (10 * n + (c - 0x30)) ds, t.2.high);
        }))
      where
        enough : (b : Bool) → eqb c 0x30 ≡ b → least ≤ 10 * n + (c - 0x30)
        enough true f = let alone : ds ≡ [] = zero_alone c ds t.1 (eqb-true _ _ f) in rw alone at t.2.low
        enough false f = omega (arith, eqb-false c 0x30 f, (decimal_cons c ds t.2.decimal).0.0)
    off (suc k) n c ds says o e t =
        let b = decimal_cons c ds t.1.decimal in
        let some : n ≡ 0 → ⊥ = λ z. (let f : c ∷ ds ≡ [] = t.0 z in cc) in
        false≢true (sym e ∙ goes (suc k) n c (record {
          first = b.0.0;
          last = b.0.1;
          needed = rw (ne_eqb (suc k) 0 (omega arith), ne_eqb n 0 some);
          enough = omega (arith, some);
          small = omega (arith, value_grows (10 * n + (c - 0x30)) ds, t.1.high);
        }))

    end : (k n says : ℕ) → said k n → ((may_end (Number least most) k ≡ true) × (says ≡ n)) ↔ digits_left k n [] says
    end zero n says o = (λ e. absurd (false≢true e.0), λ t. absurd (omega (arith, t.0)))
    end (suc k) n says o = (
      λ e. (λ z. refl, record { decimal = refl; said = e.1; low = o.0; high = o.1 }),
      λ t. (le-leb 1 (suc k) (omega arith), t.1.said),
    )

    alive : (k n : ℕ) → said k n → (ds : List ℕ) × (says : ℕ) × digits_left k n ds says
    alive zero n o = (
      (0x30 + least) ∷ [],
      10 * n + (0x30 + least - 0x30),
      (
        omega arith,
        and-false (eqb (0x30 + least) 0x30),
        record {
          decimal = rw (within_is 0x30 0x39 (0x30 + least) (omega arith) (omega arith));
          said = refl;
          low = omega arith;
          high = omega arith;
        },
      ),
    )
    alive (suc k) n o = ([], n, (λ z. refl, record { decimal = refl; said = refl; low = o.0; high = o.1 }))

    no_feed : (k n : ℕ) (ds : List ℕ) (says : ℕ) → digits_left k n (0x0a ∷ ds) says → ⊥
    no_feed zero n ds says t = false≢true t.2.decimal
    no_feed (suc k) n ds says t = false≢true t.1.decimal

    spelled : (ds : List ℕ) (says : ℕ) → digits_left 0 0 ds says ↔ Spells (Number least most) says ds
    spelled ds says = (
      λ t.
          let s = t.2 in
          rw s.said (s.low, s.high, sym (numeral_value ds (le-leb 1 (length ds) t.0) t.1 s.decimal)),
      λ w. rw w.2 (
        omega (arith, length_numeral says, places_some says),
        numeral_needs says,
        record {
          decimal = decimal_numeral says;
          said = sym (value_numeral says);
          low = rw (value_numeral says) w.0;
          high = rw (value_numeral says) w.1;
        },
      ),
    )

    pub number_grammar : Grammar (Number least most) said digits_left
    number_grammar = record { alive = alive; end = end; stays = λ k n o. o; on = on; off = off; no_feed = no_feed; start = refl; spelled = spelled }
