use mathlib.Core.Path.{◌≡◌, refl, sym, ap, ◌∙◌}
use mathlib.Core.List.{List, [], ◌∷◌}
use Prim.Native.Nat.{ℕ, zero, suc, ◌<◌}
use native.Mathlib.Numerals.{add-one}
use native.Mathlib.Omega.{arith}
use lib.ListN.{length, get_or, set}
use Rattle.std.specs.Prelude.{Option, Some, None}
use Rattle.digits.specs.Hex.{digit_of}
use Rattle.timing.specs.Call.{called, front, read_on, read_digits}
use Rattle.timing.proofs.kvistmaur_read_digits.Invariants.{read_from}
use Rattle.timing.proofs.kvistmaur_read_digits.Goals as goal

-- it ends behind the last character
at_end : (i : ℕ) (text : List ℕ) → i ≡ length text → read_from i text ≡ called i text
at_end zero [] e = refl
at_end zero (b ∷ text) e = absurd (omega arith)
at_end (suc i) [] e = absurd (omega arith)
at_end (suc i) (b ∷ text) e = ap (front b) (at_end i text (omega arith))

-- it ends at a character that is no digit
at_other : (i : ℕ) (text : List ℕ) → i < length text → digit_of (get_or text i 0) ≡ None → read_from i text ≡ called i text
at_other i [] h e = absurd (omega arith)
at_other zero (b ∷ text) h e = ap (λ (d : Option ℕ). read_on d b text (read_digits text)) e
at_other (suc i) (b ∷ text) h e = ap (front b) (at_other i text (omega arith) e)

-- it goes on behind a digit, whose value stands in its place
at_digit : (i : ℕ) (text : List ℕ) (v : ℕ) → i < length text → digit_of (get_or text i 0) ≡ Some v → read_from i text ≡ read_from (suc i) (set text i v)
at_digit i [] v h e = absurd (omega arith)
at_digit zero (b ∷ text) v h e = ap (λ (d : Option ℕ). read_on d b text (read_digits text)) e
at_digit (suc i) (b ∷ text) v h e = ap (front b) (at_digit i text v (omega arith) e)

pub returns-in_default : goal.returns-in_default
returns-in_default c =
    let l = c.loop-i in
    sym (at_other l.i l.text (omega arith) (sym c.read_digit.ensures ∙ c.in_default.is)) ∙ l.invariant

pub loop-i-preserved : goal.loop-i-preserved
loop-i-preserved c =
    let l = c.loop-i in
    rw (add-one l.i) (sym (at_digit l.i l.text c.in-Some.value (omega arith) (sym c.read_digit.ensures ∙ c.in-Some.is)) ∙ l.invariant)

pub returns : goal.returns
returns c = let l = c.loop-i in sym (at_end _ l.text refl) ∙ (let end : length l.text ≡ l.i = omega arith in rw end l.invariant)
