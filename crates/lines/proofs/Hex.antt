-- The digits of bytes, followed one by one.
use mathlib.Core.Path.{◌≡◌, refl, sym, ap, ◌∙◌}
use mathlib.Core.Bool.{true, false, false≢true}
use mathlib.Core.List.{List, [], ◌∷◌}
use mathlib.Core.Logic.{◌↔◌}
use Prim.Native.Nat.{ℕ, zero, suc, ◌+◌, ◌-◌, ◌*◌, ◌/◌, ◌%◌, ◌≤◌, ◌<◌}
use native.Mathlib.Omega.{arith}
use lib.Dec.{eqb}
use lib.ListN.{length, replicate, length-replicate}
use lib.Pow.{are_bytes}
use borrow.Author.Tests.{leb-true, eqb-true, ltb-true, le-leb, eq-eqb, lt-ltb}
use Rattle.digits.specs.declared.hex.Case.{Case}
use Rattle.digits.specs.declared.hex.Case.TheVariants.{Lower, Upper}
use Rattle.std.specs.Prelude.{Option, Some, None}
use Rattle.digits.specs.Hex.{digit_in, is_value, hex_in, all_digits}
use Rattle.digits.proofs.Spelling.{and_both, digit_spells, length_hex, digits_hex}
use Rattle.lines.specs.declared.kinds.Value.TheVariants.{Bytes}
use Rattle.lines.specs.Right.{Spells}
use Rattle.lines.specs.Steps.{may_end, goes_on}
use Rattle.lines.proofs.Grammar.{Grammar}

-- a line feed is no digit
pub feed_none : (case : Case) → is_value (digit_in case 0x0a) ≡ false
unfolding digit_in
feed_none Lower = refl
feed_none Upper = refl

-- a zero is one
zero_digit : (case : Case) → is_value (digit_in case 0x30) ≡ true
unfolding digit_in
zero_digit Lower = refl
zero_digit Upper = refl

module _ (case : Case) where
  -- a digit has a value
  digit_value : (d : Option ℕ) → is_value d ≡ true → (v : ℕ) × (d ≡ Some v)
  digit_value (Some v) e = (v, refl)
  digit_value None e = absurd (false≢true e)

  -- digits by pairs are those of bytes
  pairs : (ds : List ℕ) (m : ℕ) → all_digits case ds ≡ true → length ds ≡ 2 * m → (x : List ℕ) × (are_bytes x ≡ true) × (length x ≡ m) × (ds ≡ hex_in case x)
  pairs [] m e h = ([], refl, omega arith, refl)
  pairs (a ∷ []) m e h = absurd (omega arith)
  pairs (a ∷ b ∷ ds) m e h =
      let p = and_both (is_value (digit_in case a)) _ e in
      let q = and_both (is_value (digit_in case b)) _ p.1 in
      let r = pairs ds (m - 1) q.1 (omega arith) in
      let u = digit_value (digit_in case a) p.0 in
      let v = digit_value (digit_in case b) q.0 in
      let s = digit_spells case a u.0 u.1 in
      let t = digit_spells case b v.0 v.1 in
      let i : (16 * u.0 + v.0) / 16 ≡ u.0 = omega (arith, s.0, t.0) in
      let j : (16 * u.0 + v.0) % 16 ≡ v.0 = omega (arith, s.0, t.0) in (
        (16 * u.0 + v.0) ∷ r.0,
        rw (lt-ltb (16 * u.0 + v.0) 256 (omega (arith, s.0, t.0))) r.1,
        omega (arith, r.2),
        rw (i, j, s.1, t.1) (ap (λ (x : List ℕ). a ∷ b ∷ x) r.3),
      )

  -- zeros are digits
  zeros_digits : (j : ℕ) → all_digits case (replicate j 0x30) ≡ true
  zeros_digits zero = refl
  zeros_digits (suc j) = rw (zero_digit case) (zeros_digits j)

  module _ (least most : ℕ) (some : least ≤ most) where
    -- the digits that may come behind so many: with those they are of bytes, at least and at most so many
    pub record Pairs (k n : ℕ) (ds : List ℕ) (says : ℕ) : Type 0 where
      pub same : says ≡ n
      pub digits : all_digits case ds ≡ true
      pub bytes : ℕ
      pub twice : k + length ds ≡ 2 * bytes
      pub low : least ≤ bytes
      pub high : bytes ≤ most

    abbrev pub few : ℕ → ℕ → Type 0
    few k n = k ≤ 2 * most

    alive : (k n : ℕ) → few k n → (ds : List ℕ) × (says : ℕ) × Pairs k n ds says
    alive k n o = (
      replicate (2 * most - k) 0x30,
      n,
      record {
        same = refl;
        digits = zeros_digits (2 * most - k);
        bytes = most;
        twice = omega (arith, length-replicate {A = ℕ} (2 * most - k) 0x30);
        low = some;
        high = omega arith;
      },
    )

    end : (k n says : ℕ) → few k n → ((may_end (Bytes least most case) k ≡ true) × (says ≡ n)) ↔ Pairs k n [] says
    end k n says o = (
      λ e.
          let b = and_both (eqb (k % 2) 0) _ e.0 in
          let even : k % 2 ≡ 0 = eqb-true _ _ b.0 in
          record { same = e.1; digits = refl; bytes = k / 2; twice = omega arith; low = leb-true _ _ b.1; high = omega arith },
      λ t. (rw (eq-eqb (k % 2) 0 (omega (arith, t.twice)), le-leb least (k / 2) (omega (arith, t.twice, t.low))), t.same),
    )

    on : (k n c : ℕ) → few k n → goes_on (Bytes least most case) k n c ≡ true
        → few (k + 1) n × ((ds : List ℕ) (says : ℕ) → Pairs k n (c ∷ ds) says ↔ Pairs (k + 1) n ds says)
    on k n c o e =
        let b = and_both (is_value (digit_in case c)) _ e in
        let l : k / 2 < most = ltb-true _ _ b.1 in (
          omega arith,
          λ ds says. (
            λ t. record {
              same = t.same;
              digits = (and_both (is_value (digit_in case c)) _ t.digits).1;
              bytes = t.bytes;
              twice = omega (arith, t.twice);
              low = t.low;
              high = t.high;
            },
            λ t. record { same = t.same; digits = rw b.0 t.digits; bytes = t.bytes; twice = omega (arith, t.twice); low = t.low; high = t.high },
          ),
        )

    off : (k n c : ℕ) (ds : List ℕ) (says : ℕ) → few k n → goes_on (Bytes least most case) k n c ≡ false → Pairs k n (c ∷ ds) says → ⊥
    off k n c ds says o e t =
        let b = and_both (is_value (digit_in case c)) _ t.digits in
        false≢true (sym e ∙ rw (b.0, lt-ltb (k / 2) most (omega (arith, t.twice, t.high))))

    no_feed : (k n : ℕ) (ds : List ℕ) (says : ℕ) → Pairs k n (0x0a ∷ ds) says → ⊥
    no_feed k n ds says t = false≢true (sym (feed_none case) ∙ (and_both (is_value (digit_in case 0x0a)) _ t.digits).0)

    spelled : (ds : List ℕ) (says : ℕ) → Pairs 0 0 ds says ↔ Spells (Bytes least most case) says ds
    spelled ds says = (
      λ t.
          let r = pairs ds t.bytes t.digits (omega (arith, t.twice)) in
          (t.same, r.0, r.1, omega (arith, r.2, t.low), omega (arith, r.2, t.high), r.3),
      λ w.
          rw w.5 (record {
            same = w.0;
            digits = digits_hex case w.1 w.2;
            bytes = length w.1;
            twice = omega (arith, length_hex case w.1);
            low = w.3;
            high = w.4;
          }),
    )

    pub bytes_grammar : Grammar (Bytes least most case) few Pairs
    bytes_grammar = record { alive = alive; end = end; stays = λ k n o. o; on = on; off = off; no_feed = no_feed; start = omega arith; spelled = spelled }
