-- The law of every walk: where each state says which texts may still come, the walk of a text stops at the column where the text leaves them.
use mathlib.Core.Path.{◌≡◌, refl}
use mathlib.Core.Bool.{true}
use mathlib.Core.List.{List, [], ◌∷◌}
use mathlib.Core.Logic.{◌↔◌}
use Prim.Native.Nat.{ℕ, zero, suc, ◌≤◌, ◌<◌}
use native.Mathlib.Omega.{arith}
use lib.ListN.{length, take}
use Rattle.lines.specs.declared.step.State.{State}
use Rattle.std.specs.Prelude.{Option, Some, None}
use Rattle.lines.specs.Column.{Viable}
use Rattle.lines.specs.Right.{Lines}
use Rattle.lines.specs.Steps.{Walk, onward, walk}

module _ (good : State → Type 0) (left : State → List ℕ → ℕ → Type 0) where
  -- a step with a character leaves the texts that go on with it; where there is no step, there are none
  abbrev pub Leaves : State → ℕ → Option State → Type 0
  Leaves s c (Some t) = good t × ((rest : List ℕ) (says : ℕ) → left s (c ∷ rest) says ↔ left t rest says)
  Leaves s c None = (rest : List ℕ) (says : ℕ) → left s (c ∷ rest) says → ⊥

-- steps follow the texts that may still come: from every good state one may; each step leaves those that go on with its character; behind the end, and only
-- there, nothing may come, and the number is what the line says
pub record Follows (step : State → ℕ → Option State) (good : State → Type 0) (left : State → List ℕ → ℕ → Type 0) : Type 0 where
  pub alive : (s : State) → good s → Viable (Lines (left s)) []
  pub steps : (s : State) (c : ℕ) → good s → Leaves good left s c (step s c)
  pub end : (s : State) (says : ℕ) → ((s.ended ≡ true) × (says ≡ s.number)) ↔ left s [] says
  pub last : (s : State) (c : ℕ) (rest : List ℕ) (says : ℕ) → s.ended ≡ true → left s (c ∷ rest) says → ⊥

-- where a walk of a text stopped
pub record Reached (left : List ℕ → ℕ → Type 0) (text : List ℕ) (w : Walk) : Type 0 where
  pub inside : w.passed ≤ length text
  pub before : Viable (Lines left) (take w.passed text)
  pub beyond : w.passed < length text → Viable (Lines left) (take (suc w.passed) text) → ⊥
  pub whole : w.state.ended ≡ true → left (take w.passed text) w.state.number
  pub over : (size says : ℕ) → size ≤ length text → left (take size text) says → (w.state.ended ≡ true) × (size ≡ w.passed) × (says ≡ w.state.number)

module _ (step : State → ℕ → Option State) (good : State → Type 0) (left : State → List ℕ → ℕ → Type 0) (f : Follows step good left) where
  pub reached : (s : State) (text : List ℕ) → good s → Reached (left s) text (walk step s text)
  reached s [] g = record {
    inside = omega arith;
    before = f.alive s g;
    beyond = λ h v. absurd (omega arith);
    whole = λ e. (f.end s s.number).0 (e, refl);
    over = none;
  }
    where
      none : (size says : ℕ) → size ≤ 0 → left s (take size []) says → (s.ended ≡ true) × (size ≡ 0) × (says ≡ s.number)
      none zero says h l = let e = (f.end s says).1 l in (e.0, refl, e.1)
      none (suc size) says h l = absurd (omega arith)
  reached s (c ∷ text) g = go (step s c) (f.steps s c g) (λ t. reached t text)
    where
      go : (q : Option State) → Leaves good left s c q → ((t : State) → good t → Reached (left t) text (walk step t text))
          → Reached (left s) (c ∷ text) (onward s q (λ t. walk step t text))
      go (Some t) o rest =
          let r = rest t o.0 in
          let w = walk step t text in
          let later : (size says : ℕ) → size ≤ suc (length text) → left s (take size (c ∷ text)) says
          → (w.state.ended ≡ true) × (size ≡ suc w.passed) × (says ≡ w.state.number) =
          elim [
            | zero ↦ λ says h l. absurd (f.last s c _ _ ((f.end s says).1 l).0 ((o.1 _ _).1 (f.alive t o.0).goes_on.1))
            | suc size ↦ λ says h l. let v = r.over size says (omega arith) ((o.1 _ _).0 l) in (v.0, omega (arith, v.1), v.2)
          ] in
          record {
            inside = omega (arith, r.inside);
            before = record { rest = r.before.rest; goes_on = (r.before.goes_on.0, (o.1 _ _).1 r.before.goes_on.1) };
            beyond = λ h v. r.beyond (omega arith) (record { rest = v.rest; goes_on = (v.goes_on.0, (o.1 _ _).0 v.goes_on.1) });
            whole = λ k. (o.1 _ _).1 (r.whole k);
            over = later;
          }
      go None o rest =
          let here : (size says : ℕ) → size ≤ suc (length text) → left s (take size (c ∷ text)) says → (s.ended ≡ true) × (size ≡ 0) × (says ≡ s.number) =
          elim [
            | zero ↦ λ says h l. let e = (f.end s says).1 l in (e.0, refl, e.1)
            | suc size ↦ λ says h l. absurd (o (take size text) says l)
          ] in
          record {
            inside = omega arith;
            before = f.alive s g;
            beyond = λ h v. o v.rest v.goes_on.0 v.goes_on.1;
            whole = λ k. (f.end s s.number).0 (k, refl);
            over = here;
          }
