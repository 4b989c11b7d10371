-- A walk in a loop: character by character from a place of a text.
use mathlib.Core.Path.{◌≡◌, refl, sym, ap, ◌∙◌}
use mathlib.Core.List.{List}
use Prim.Native.Nat.{ℕ, ◌+◌, ◌-◌, ◌≤◌, ◌<◌}
use native.Mathlib.Numerals.{add-one}
use native.Mathlib.Omega.{arith}
use lib.ListN.{length, get_or, drop, drop_of_length-le}
use lib.Seq.{drop-cons}
use Rattle.lines.specs.declared.kinds.Kind.{Kind}
use Rattle.lines.specs.declared.step.State.{State}
use Rattle.std.specs.Prelude.{Option, Some, None}
use Rattle.lines.specs.Steps.{Walk, stop, onward, walk, step_of, begin}

-- what holds before the character at a place is looked at: the walk from here ends where the walk from the beginning does
pub record Walking (kind : Kind) (text : List ℕ) (from : ℕ) (s : State) (at : ℕ) : Type 0 where
  pub begun : from ≤ at
  pub inside : at ≤ length text
  pub passed : at + (walk (step_of kind) s (drop at text)).passed ≡ from + (walk (step_of kind) begin (drop from text)).passed
  pub state : (walk (step_of kind) s (drop at text)).state ≡ (walk (step_of kind) begin (drop from text)).state

module _ (kind : Kind) (text : List ℕ) (from : ℕ) where
  pub walk_start : from ≤ length text → Walking kind text from begin from
  walk_start h = record { begun = omega arith; inside = h; passed = refl; state = refl }

  -- the walk at a character
  at_character : (s : State) (at : ℕ) → at < length text
      → walk (step_of kind) s (drop at text) ≡ onward s (step_of kind s (get_or text at 0)) (λ t. walk (step_of kind) t (drop (at + 1) text))
  at_character s at h = rw (add-one at, drop-cons text at 0 h)

  -- a character that goes on
  pub walk_on : (s t : State) (at : ℕ) → at < length text → step_of kind s (get_or text at 0) ≡ Some t → Walking kind text from s at → Walking kind text from t (at + 1)
  walk_on s t at h e w =
      let one = at_character s at h ∙ ap (λ (q : Option State). onward s q (λ t. walk (step_of kind) t (drop (at + 1) text))) e in
      record {
        begun = omega (arith, w.begun);
        inside = omega arith;
        passed = omega (arith, w.passed, ap (λ (v : Walk). v.passed) one);
        state = sym (ap (λ (v : Walk). v.state) one) ∙ w.state;
      }

  -- the walk has stopped
  stopped : (s : State) (at : ℕ) → Walking kind text from s at → walk (step_of kind) s (drop at text) ≡ stop 0 s
      → walk (step_of kind) begin (drop from text) ≡ stop (at - from) s
  stopped s at w e =
      let n : (walk (step_of kind) begin (drop from text)).passed ≡ at - from = omega (arith, w.passed, w.begun, ap (λ (v : Walk). v.passed) e) in
      let t : (walk (step_of kind) begin (drop from text)).state ≡ s = sym w.state ∙ ap (λ (v : Walk). v.state) e in
      ap (λ (i : ℕ). stop i (walk (step_of kind) begin (drop from text)).state) n ∙ ap (λ (u : State). stop (at - from) u) t

  -- at a character that does not go on
  pub walk_off : (s : State) (at : ℕ) → at < length text → step_of kind s (get_or text at 0) ≡ None → Walking kind text from s at
      → walk (step_of kind) begin (drop from text) ≡ stop (at - from) s
  walk_off s at h e w = stopped s at w (at_character s at h ∙ ap (λ (q : Option State). onward s q (λ t. walk (step_of kind) t (drop (at + 1) text))) e)

  -- at the end of the text
  pub walk_end : (s : State) (at : ℕ) → length text ≤ at → Walking kind text from s at → walk (step_of kind) begin (drop from text) ≡ stop (at - from) s
  walk_end s at h w = stopped s at w (ap (walk (step_of kind) s) (drop_of_length-le text {i = at} h))
