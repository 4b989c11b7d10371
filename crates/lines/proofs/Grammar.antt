-- A line's walk follows its kind, for every kind of value whose digits are followed.
use mathlib.Core.Path.{◌≡◌, refl, sym, ap, ◌∙◌}
use mathlib.Core.Bool.{Bool, true, false, cond, false≢true}
use mathlib.Core.List.{List, [], ◌∷◌, ◌++◌}
use mathlib.Core.Logic.{◌↔◌}
use Prim.Native.Nat.{ℕ, ◌+◌, ◌≤◌, ◌<◌}
use native.Mathlib.Numerals.{add-one}
use native.Mathlib.Omega.{arith}
use lib.Dec.{eqb, ltb}
use lib.ListN.{length, get_or, drop, drop_of_length-le}
use lib.Seq.{drop-cons, get_or-take, length-take-le}
use borrow.Author.Tests.{ltb-true, ltb-false, eqb-true, eqb-false}
use Rattle.digits.specs.Room.{line_of}
use Rattle.lines.specs.declared.kinds.Value.{Value}
use Rattle.lines.specs.declared.kinds.Kind.{Kind}
use Rattle.lines.specs.declared.step.State.{State}
use Rattle.std.specs.Prelude.{Some, None}
use Rattle.lines.specs.Right.{Spells, name_of, Right, Lines}
use Rattle.lines.specs.Column.{Viable}
use Rattle.lines.specs.Steps.{may_end, goes_on, said_by, counted, numbered, standing, name_step, feed_step, value_step, step_of, begin}
use Rattle.lines.proofs.Reach.{Leaves, Follows}

-- the digits of a value are followed: from good counts some digits may come; the value may end exactly where none need; a digit that goes on leaves those behind
-- it, and no other may come; a line feed is none; from the beginning they are those that spell a value
pub record Grammar (value : Value) (ok : ℕ → ℕ → Type 0) (tail : ℕ → ℕ → List ℕ → ℕ → Type 0) : Type 0 where
  pub alive : (k n : ℕ) → ok k n → (ds : List ℕ) × (says : ℕ) × tail k n ds says
  pub end : (k n says : ℕ) → ok k n → ((may_end value k ≡ true) × (says ≡ said_by value n)) ↔ tail k n [] says
  pub stays : (k n : ℕ) → ok k n → ok k (said_by value n)
  pub on : (k n c : ℕ) → ok k n → goes_on value k n c ≡ true
      → ok (counted value k) (numbered value n c) × ((ds : List ℕ) (says : ℕ) → tail k n (c ∷ ds) says ↔ tail (counted value k) (numbered value n c) ds says)
  pub off : (k n c : ℕ) (ds : List ℕ) (says : ℕ) → ok k n → goes_on value k n c ≡ false → tail k n (c ∷ ds) says → ⊥
  pub no_feed : (k n : ℕ) (ds : List ℕ) (says : ℕ) → tail k n (0x0a ∷ ds) says → ⊥
  pub start : ok 0 0
  pub spelled : (ds : List ℕ) (says : ℕ) → tail 0 0 ds says ↔ Spells value says ds

-- what may come behind a part of a line: nothing at its end, else the rest of the name, digits, a line feed
abbrev pub comes : Bool → List ℕ → ℕ → (List ℕ → ℕ → Type 0) → List ℕ → ℕ → Type 0
comes true name n tail rest says = (rest ≡ []) × (says ≡ n)
comes false name n tail rest says = (ds : List ℕ) × (rest ≡ name ++ (ds ++ 0x0a ∷ [])) × tail ds says

-- a name has as many characters as its size says
pub name_size : (kind : Kind) → kind.name.size ≤ length kind.name.bytes → length (name_of kind) ≡ kind.name.size
name_size kind inside = length-take-le kind.name.size kind.name.bytes inside

module _ (kind : Kind) (ok : ℕ → ℕ → Type 0) (tail : ℕ → ℕ → List ℕ → ℕ → Type 0) (inside : kind.name.size ≤ length kind.name.bytes) (g : Grammar kind.value ok tail) where
  abbrev left : State → List ℕ → ℕ → Type 0
  left s = comes s.ended (drop s.place (name_of kind)) s.number (tail s.digits s.number)

  abbrev good : State → Type 0
  good s = ok s.digits s.number

  -- the rest of the name begins with its character
  name_cons : (p : ℕ) → p < kind.name.size → drop p (name_of kind) ≡ get_or kind.name.bytes p 0 ∷ drop (p + 1) (name_of kind)
  name_cons p h = rw (add-one p, drop-cons (name_of kind) p 0 (omega (arith, name_size kind inside)), get_or-take kind.name.size kind.name.bytes p 0 h)

  -- behind the name nothing is left of it
  name_over : (p : ℕ) → kind.name.size ≤ p → drop p (name_of kind) ≡ []
  name_over p h = drop_of_length-le (name_of kind) {i = p} (omega (arith, name_size kind inside))

  -- a character of the name
  in_name : (p k n c : ℕ) → ok k n → p < kind.name.size → Leaves good left (standing p k n false) c (name_step kind.name (standing p k n false) c)
  unfolding name_step
  in_name p k n c o h = go (eqb (get_or kind.name.bytes p 0) c) refl
    where
      go : (b : Bool) → eqb (get_or kind.name.bytes p 0) c ≡ b
          → Leaves good left (standing p k n false) c (cond b (Some (standing (p + 1) k n false)) None)
      go true e =
          let same : get_or kind.name.bytes p 0 ≡ c = eqb-true _ _ e in (
            o,
            λ rest says. (
              λ w. (w.0, (let whole : c ∷ rest ≡ get_or kind.name.bytes p 0 ∷ (drop (p + 1) (name_of kind) ++ (w.0 ++ 0x0a ∷ [])) = w.1 ∙ ap (λ (x : List ℕ). x ++ (w.0 ++ 0x0a ∷ [])) (name_cons p h) in cc), w.2),
              λ w. (w.0, rw (name_cons p h, same) (ap (λ (x : List ℕ). c ∷ x) w.1), w.2),
            ),
          )
      go false e = λ rest says w.
          let whole : c ∷ rest ≡ get_or kind.name.bytes p 0 ∷ (drop (p + 1) (name_of kind) ++ (w.0 ++ 0x0a ∷ [])) = w.1 ∙ ap (λ (x : List ℕ). x ++ (w.0 ++ 0x0a ∷ [])) (name_cons p h) in
          let same : get_or kind.name.bytes p 0 ≡ c = cc in
          eqb-false _ _ e same

  -- what comes behind the name begins with a line feed and is over, or with a digit
  behind_name : (p k n c : ℕ) (rest : List ℕ) (says : ℕ) → kind.name.size ≤ p → left (standing p k n false) (c ∷ rest) says
      → (ds : List ℕ) × (c ∷ rest ≡ ds ++ 0x0a ∷ []) × tail k n ds says
  behind_name p k n c rest says h w = (w.0, rw (name_over p h) at w.1, w.2)

  -- a line feed behind the name
  at_feed : (p k n c : ℕ) → ok k n → kind.name.size ≤ p → c ≡ 0x0a → Leaves good left (standing p k n false) c (feed_step kind.value (standing p k n false))
  unfolding feed_step
  at_feed p k n c o h f = go (may_end kind.value k) refl
    where
      alone : (rest ds : List ℕ) (says : ℕ) → c ∷ rest ≡ ds ++ 0x0a ∷ [] → tail k n ds says → (rest ≡ []) × tail k n [] says
      alone rest [] says e t = ((cc), t)
      alone rest (d ∷ ds) says e t = let same : d ≡ 0x0a = cc in absurd (g.no_feed k n ds says (rw same at t))

      go : (b : Bool) → may_end kind.value k ≡ b → Leaves good left (standing p k n false) c (cond b (Some (standing p k (said_by kind.value n) true)) None)
      go true e = (
        g.stays k n o,
        λ rest says. (
          λ w.
              let v = behind_name p k n c rest says h w in
              let a = alone rest v.0 says v.1 v.2 in
              (a.0, ((g.end k n says o).1 a.1).1),
          λ w. ([], rw (name_over p h, f, w.0), (g.end k n says o).0 (e, w.1)),
        ),
      )
      go false e = λ rest says w.
          let v = behind_name p k n c rest says h w in
          false≢true (sym e ∙ ((g.end k n says o).1 (alone rest v.0 says v.1 v.2).1).0)

  -- another character behind the name
  at_digit : (p k n c : ℕ) → ok k n → kind.name.size ≤ p → (c ≡ 0x0a → ⊥) → Leaves good left (standing p k n false) c (value_step kind.value (standing p k n false) c)
  unfolding value_step
  at_digit p k n c o h f = go (goes_on kind.value k n c) refl
    where
      split : (rest ds : List ℕ) (says : ℕ) → c ∷ rest ≡ ds ++ 0x0a ∷ [] → tail k n ds says → (es : List ℕ) × (rest ≡ es ++ 0x0a ∷ []) × tail k n (c ∷ es) says
      split rest [] says e t = absurd (f (cc))
      split rest (d ∷ ds) says e t = let same : d ≡ c = cc in (ds, cc, rw same at t)

      go : (b : Bool) → goes_on kind.value k n c ≡ b
          → Leaves good left (standing p k n false) c (cond b (Some (standing p (counted kind.value k) (numbered kind.value n c) false)) None)
      go true e =
          let r = g.on k n c o e in (
            r.0,
            λ rest says. (
              λ w.
                  let v = behind_name p k n c rest says h w in
                  let u = split rest v.0 says v.1 v.2 in
                  (u.0, rw (name_over p h) u.1, (r.1 u.0 says).0 u.2),
              λ w. (c ∷ w.0, rw (name_over p h) (ap (λ (x : List ℕ). c ∷ x) (rw (name_over p h) at w.1)), (r.1 w.0 says).1 w.2),
            ),
          )
      go false e = λ rest says w.
          let v = behind_name p k n c rest says h w in
          let u = split rest v.0 says v.1 v.2 in
          g.off k n c u.0 says o e u.2

  steps : (p k n : ℕ) (b : Bool) (c : ℕ) → ok k n → Leaves good left (standing p k n b) c (step_of kind (standing p k n b) c)
  unfolding step_of
  steps p k n true c o = λ rest says w. let e : c ∷ rest ≡ [] = w.0 in cc
  steps p k n false c o = go (ltb p kind.name.size) refl
    where
      behind : (b : Bool) → eqb c 0x0a ≡ b → kind.name.size ≤ p
          → Leaves good left (standing p k n false) c (cond b (feed_step kind.value (standing p k n false)) (value_step kind.value (standing p k n false) c))
      behind true e h = at_feed p k n c o h (eqb-true _ _ e)
      behind false e h = at_digit p k n c o h (eqb-false _ _ e)

      go : (b : Bool) → ltb p kind.name.size ≡ b
          → Leaves good left (standing p k n false) c
          (cond b (name_step kind.name (standing p k n false) c)
          (cond (eqb c 0x0a) (feed_step kind.value (standing p k n false)) (value_step kind.value (standing p k n false) c)))
      go true e = in_name p k n c o (ltb-true _ _ e)
      go false e = behind (eqb c 0x0a) refl (ltb-false _ _ e)

  alive : (p k n : ℕ) (b : Bool) → ok k n → Viable (Lines (left (standing p k n b))) []
  alive p k n true o = record { rest = []; goes_on = (n, (refl, refl)) }
  alive p k n false o =
      let a = g.alive k n o in
      record { rest = drop p (name_of kind) ++ (a.0 ++ 0x0a ∷ []); goes_on = (a.1, (a.0, refl, a.2)) }

  -- a line feed is still to come
  not_over : (x ds : List ℕ) → [] ≡ x ++ (ds ++ 0x0a ∷ []) → ⊥
  not_over [] [] e = cc
  not_over [] (d ∷ ds) e = cc
  not_over (a ∷ x) ds e = cc

  end : (p k n : ℕ) (b : Bool) (says : ℕ) → ((b ≡ true) × (says ≡ n)) ↔ left (standing p k n b) [] says
  end p k n true says = (λ e. (refl, e.1), λ w. (refl, w.1))
  end p k n false says = (λ e. absurd (false≢true e.0), λ w. absurd (not_over (drop p (name_of kind)) w.0 w.1))

  last : (p k n : ℕ) (b : Bool) (c : ℕ) (rest : List ℕ) (says : ℕ) → b ≡ true → left (standing p k n b) (c ∷ rest) says → ⊥
  last p k n true c rest says e w = let f : c ∷ rest ≡ [] = w.0 in cc
  last p k n false c rest says e w = false≢true e

  pub follows : Follows (step_of kind) good left
  follows = record {
    alive = λ s o. alive s.place s.digits s.number s.ended o;
    steps = λ s c o. steps s.place s.digits s.number s.ended c o;
    end = λ s says. end s.place s.digits s.number s.ended says;
    last = λ s c rest says e w. last s.place s.digits s.number s.ended c rest says e w;
  }

  -- what may come before the first character are the right lines
  pub right_lines : (line : List ℕ) (says : ℕ) → left begin line says ↔ Right kind line says
  unfolding line_of
  right_lines line says = (
    λ w. record { value = w.0; spelled = (g.spelled w.0 says).0 w.2; whole = w.1 },
    λ r. (r.value, r.whole, (g.spelled r.value says).1 r.spelled),
  )
