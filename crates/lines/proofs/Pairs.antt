-- A pair of digits and the reader: the digit that the pair blames is the character at which a line of bytes is wrong.
use mathlib.Core.Path.{◌≡◌, refl, sym, ap, ◌∙◌}
use mathlib.Core.Bool.{Bool, true, false, cond, ◌&&◌, false≢true}
use mathlib.Core.List.{List, [], ◌∷◌, ◌++◌}
use Prim.Native.Nat.{ℕ, zero, suc, ◌+◌, ◌*◌, ◌/◌, ◌%◌, ◌≤◌, ◌<◌}
use native.Mathlib.Numerals.{add-one}
use native.Mathlib.Omega.{arith}
use lib.Dec.{eqb, ltb}
use lib.ListN.{length, get_or, drop, drop_of_length-le}
use lib.Pow.{are_bytes}
use lib.Seq.{drop-cons, get_or-take}
use borrow.Author.Tests.{le-ltb, lt-ltb, ltb-true, eqb-true, eqb-false, eq-eqb, ne_eqb}
use Rattle.digits.specs.declared.hex.Case.{Case}
use Rattle.digits.specs.declared.hex.BadDigit.TheVariants.{First, Second}
use Rattle.digits.specs.Hex.{digit_in, is_value, pair_of, hex_digit_in, hex_in}
use Rattle.digits.proofs.Spelling.{and_both, spelled_digit}
use Rattle.lines.specs.declared.kinds.Value.TheVariants.{Bytes}
use Rattle.lines.specs.declared.kinds.Kind.{Kind}
use Rattle.lines.specs.declared.step.State.{State}
use Rattle.std.specs.Prelude.{Option, Some, None, Err}
use Rattle.lines.specs.Right.{name_of}
use Rattle.lines.specs.Steps.{standing, name_step, feed_step, value_step, step_of, Walk, stop, onward, walk, no_line, read_of}
use Rattle.lines.specs.Laws.{Fit, Blamed}
use Rattle.lines.proofs.Hex.{feed_none}
use Rattle.lines.proofs.Grammar.{name_size}

-- so many characters before a walk
abbrev after : ℕ → Walk → Walk
after n w = stop (n + w.passed) w.state

-- a character that goes on
step_on_lem : (kind : Kind) (s t : State) (c : ℕ) (rest : List ℕ) → step_of kind s c ≡ Some t → walk (step_of kind) s (c ∷ rest) ≡ after 1 (walk (step_of kind) t rest)
step_on_lem kind s t c rest e =
    ap (λ (q : Option State). onward s q (λ u. walk (step_of kind) u rest)) e ∙ ap (λ (n : ℕ). stop n (walk (step_of kind) t rest).state) (omega arith)

module _ (kind : Kind) (least most : ℕ) (case : Case) (fit : Fit kind) (hex : kind.value ≡ Bytes least most case) where
  -- behind the name, with so many digits passed
  abbrev behind : ℕ → State
  behind k = standing kind.name.size k 0 false

  -- a name is passed
  walk_name : (left p : ℕ) (rest : List ℕ) → p + left ≡ kind.name.size
      → walk (step_of kind) (standing p 0 0 false) (drop p (name_of kind) ++ rest) ≡ after left (walk (step_of kind) (behind 0) rest)
  unfolding step_of name_step
  walk_name zero p rest h =
      let over : drop p (name_of kind) ≡ [] = drop_of_length-le (name_of kind) {i = p} (omega (arith, name_size kind fit.named)) in
      let place : p ≡ kind.name.size = omega arith in
      rw (over, place) (ap (λ (n : ℕ). stop n (walk (step_of kind) (behind 0) rest).state) (omega arith))
  walk_name (suc left) p rest h =
      let inside : p < kind.name.size = omega arith in
      let c : ℕ = get_or (name_of kind) p 0 in
      let same : get_or kind.name.bytes p 0 ≡ c = sym (get_or-take kind.name.size kind.name.bytes p 0 inside) in
      let goes : step_of kind (standing p 0 0 false) c ≡ Some (standing (p + 1) 0 0 false) = rw (lt-ltb p kind.name.size inside, eq-eqb _ c same) in
      ap (λ (x : List ℕ). walk (step_of kind) (standing p 0 0 false) (x ++ rest))
      (drop-cons (name_of kind) p 0 (omega (arith, name_size kind fit.named)) ∙ ap (λ (n : ℕ). c ∷ drop n (name_of kind)) (sym (add-one p)))
      ∙ step_on_lem kind (standing p 0 0 false) (standing (p + 1) 0 0 false) c (drop (p + 1) (name_of kind) ++ rest) goes
      ∙ ap (after 1) (walk_name left (p + 1) rest (omega arith))
      ∙ ap (λ (n : ℕ). stop n (walk (step_of kind) (behind 0) rest).state) (omega arith)

  -- on with a digit, and off without
  abbrev goes_by : ℕ → Bool → Option State
  goes_by k digit = cond digit (Some (behind (k + 1))) None

  -- a character where a digit may come
  digit_step : (k c : ℕ) → k / 2 < most → (c ≡ 0x0a → ⊥) → step_of kind (behind k) c ≡ goes_by k (is_value (digit_in case c))
  unfolding step_of value_step
  digit_step k c h f = rw (le-ltb kind.name.size kind.name.size (omega arith), ne_eqb c 0x0a f, hex, lt-ltb (k / 2) most h) (go (is_value (digit_in case c)))
    where
      go : (b : Bool) → goes_by k (b && true) ≡ goes_by k b
      go true = refl
      go false = refl

  -- a line feed behind an odd number of digits
  odd-feed_step : (k : ℕ) → k % 2 ≡ 1 → step_of kind (behind k) 0x0a ≡ None
  unfolding step_of feed_step
  odd-feed_step k h = rw (le-ltb kind.name.size kind.name.size (omega arith), hex, ne_eqb (k % 2) 0 (omega arith))

  -- a digit of bytes
  hex_step : (k v : ℕ) → k / 2 < most → v < 16 → step_of kind (behind k) (hex_digit_in case v) ≡ Some (behind (k + 1))
  hex_step k v h l =
      let digit : is_value (digit_in case (hex_digit_in case v)) ≡ true = ap is_value (spelled_digit case v l) in
      let other : hex_digit_in case v ≡ 0x0a → ⊥ = λ e. false≢true (sym (feed_none case) ∙ ap (λ (c : ℕ). is_value (digit_in case c)) (sym e) ∙ digit) in
      digit_step k (hex_digit_in case v) h other ∙ ap (goes_by k) digit

  -- the digits of bytes are passed
  walk_hex : (x : List ℕ) (k : ℕ) (rest : List ℕ) → k % 2 ≡ 0 → k / 2 + length x ≤ most → are_bytes x ≡ true
      → walk (step_of kind) (behind k) (hex_in case x ++ rest) ≡ after (2 * length x) (walk (step_of kind) (behind (k + 2 * length x)) rest)
  walk_hex [] k rest e h b =
      let same : k + 0 ≡ k = omega arith in
      rw same (ap (λ (n : ℕ). stop n (walk (step_of kind) (behind k) rest).state) (omega arith))
  walk_hex (c ∷ x) k rest e h b =
      let t = and_both (ltb c 256) _ b in
      let l : c < 256 = ltb-true c 256 t.0 in
      let tail : List ℕ = hex_in case x ++ rest in
      let two : k + 1 + 1 + 2 * length x ≡ k + 2 * length (c ∷ x) = omega arith in
      step_on_lem kind (behind k) (behind (k + 1)) (hex_digit_in case (c / 16)) (hex_digit_in case (c % 16) ∷ tail) (hex_step k (c / 16) (omega arith) (omega arith))
      ∙ ap (after 1) (step_on_lem kind (behind (k + 1)) (behind (k + 1 + 1)) (hex_digit_in case (c % 16)) tail (hex_step (k + 1) (c % 16) (omega arith) (omega arith)))
      ∙ ap (λ (w : Walk). after 1 (after 1 w)) (walk_hex x (k + 1 + 1) rest (omega arith) (omega arith) t.1)
      ∙ (λ j. stop (count j) (walk (step_of kind) (behind (two j)) rest).state)
    where
      count : 1 + (1 + (2 * length x + (walk (step_of kind) (behind (k + 1 + 1 + 2 * length x)) rest).passed)) ≡ 2 * length (c ∷ x) + (walk (step_of kind) (behind (k + 2 * length (c ∷ x))) rest).passed
      count =
          let two : k + 1 + 1 + 2 * length x ≡ k + 2 * length (c ∷ x) = omega arith in
          omega (arith, ap (λ (n : ℕ). (walk (step_of kind) (behind n) rest).passed) two)

  module _ (x rest : List ℕ) (a b : ℕ) (bytes : are_bytes x ≡ true) (room : length x < most) (other : a ≡ 0x0a → ⊥) where
    -- a line up to the pair, and the pair
    abbrev text : List ℕ
    text = name_of kind ++ (hex_in case x ++ a ∷ b ∷ rest)

    -- the walk up to it
    up_to : walk (step_of kind) (standing 0 0 0 false) text
        ≡ after kind.name.size (after (2 * length x) (walk (step_of kind) (behind (2 * length x)) (a ∷ b ∷ rest)))
    up_to =
        let none : 0 + 2 * length x ≡ 2 * length x = omega arith in
        walk_name kind.name.size 0 (hex_in case x ++ a ∷ b ∷ rest) (omega arith)
        ∙ ap (after kind.name.size) (rw none at (walk_hex x 0 (a ∷ b ∷ rest) (omega arith) (omega arith) bytes))

    -- where a walk that goes on so ends
    ends : (passed k : ℕ) → walk (step_of kind) (behind (2 * length x)) (a ∷ b ∷ rest) ≡ stop passed (behind k)
        → read_of kind text ≡ no_line (length (name_of kind) + 2 * length x + passed + 1)
    unfolding read_of
    ends passed k e =
        rw (up_to ∙ ap (λ (w : Walk). after kind.name.size (after (2 * length x) w)) e) (ap no_line (omega (arith, name_size kind fit.named)))

    -- the first is no digit
    first_bad : is_value (digit_in case a) ≡ false → walk (step_of kind) (behind (2 * length x)) (a ∷ b ∷ rest) ≡ stop 0 (behind (2 * length x))
    first_bad e = ap (λ (q : Option State). onward (behind (2 * length x)) q (λ u. walk (step_of kind) u (b ∷ rest))) (digit_step (2 * length x) a (omega arith) other ∙ ap (goes_by (2 * length x)) e)

    -- the second is none
    second_bad : is_value (digit_in case a) ≡ true → is_value (digit_in case b) ≡ false
        → walk (step_of kind) (behind (2 * length x)) (a ∷ b ∷ rest) ≡ stop 1 (behind (2 * length x + 1))
    second_bad e f =
        step_on_lem kind (behind (2 * length x)) (behind (2 * length x + 1)) a (b ∷ rest) (digit_step (2 * length x) a (omega arith) other ∙ ap (goes_by (2 * length x)) e)
        ∙ ap (λ (q : Option State). after 1 (onward (behind (2 * length x + 1)) q (λ u. walk (step_of kind) u rest))) (at (eqb b 0x0a) refl)
      where
        at : (t : Bool) → eqb b 0x0a ≡ t → step_of kind (behind (2 * length x + 1)) b ≡ None
        at true g = let feed : b ≡ 0x0a = eqb-true b 0x0a g in rw feed (odd-feed_step (2 * length x + 1) (omega arith))
        at false g = digit_step (2 * length x + 1) b (omega arith) (eqb-false b 0x0a g) ∙ ap (goes_by (2 * length x + 1)) f

    -- the digit that the pair blames is the wrong character
    pub blamed : Blamed kind case x rest a b
    blamed = record {
      first = λ e. ends 0 (2 * length x) (first_bad (first_none (digit_in case a) (digit_in case b) e)) ∙ ap no_line (omega arith);
      second = λ e. let d = second_none (digit_in case a) (digit_in case b) e in ends 1 (2 * length x + 1) (second_bad d.0 d.1) ∙ ap no_line (omega arith);
    }
      where
        first_none : (d f : Option ℕ) → pair_of d f ≡ Err First → is_value d ≡ false
        first_none None f g = refl
        first_none (Some v) (Some w) g = absurd cc
        first_none (Some v) None g = absurd cc

        second_none : (d f : Option ℕ) → pair_of d f ≡ Err Second → (is_value d ≡ true) × (is_value f ≡ false)
        second_none (Some v) None g = (refl, refl)
        second_none (Some v) (Some w) g = absurd cc
        second_none None f g = absurd cc
