-- A line that was found lies in its text.
use Rattle.std.proofs.Common.{arith, Bool, true, false, cond, List, [], ◌∷◌, ℕ, suc, ◌+◌, ◌≤◌, length}
use Rattle.std.specs.Prelude.{ltb, Option, Some, None, Ok, Err}
use Rattle.lines.specs.declared.kinds.Kind.{Kind}
use Rattle.lines.specs.declared.step.State.{State}
use Rattle.lines.specs.Steps.{Walk, Found, onward, walk, step_of, begin, a_line, no_line, read_of, either_of}
use Rattle.lines.specs.Tables.{Inside}

-- no more characters are passed than there are
walk_inside : (step : State → ℕ → Option State) (s : State) (text : List ℕ) → (walk step s text).passed ≤ length text
walk_inside step s [] = omega arith
walk_inside step s (character ∷ text) = go (step s character) (λ t. walk_inside step t text)
  where
    go : (o : Option State) → ((t : State) → (walk step t text).passed ≤ length text) → (onward s o (λ t. walk step t text)).passed ≤ suc (length text)
    go (Some t) rest = omega (arith, rest t)
    go None rest = omega arith

-- by one reading
pub read_inside : (kind : Kind) (text : List ℕ) → Inside text (read_of kind text)
unfolding read_of
read_inside kind text = go w.state.ended
  where
    w : Walk
    w = walk (step_of kind) begin text

    go : (ended : Bool) → Inside text (cond ended (a_line w.passed w.state.number) (no_line (w.passed + 1)))
    go true = walk_inside (step_of kind) begin text
    go false = tt

-- and by either of two
pub either_inside : (text : List ℕ) (f g : Found) → Inside text f → Inside text g → Inside text (either_of f g)
either_inside text (Ok line) g p q = p
either_inside text (Err c) (Ok line) p q = q
either_inside text (Err c) (Err d) p q = go (ltb c.column d.column)
  where
    go : (later : Bool) → Inside text (cond later (Err d) (Err c))
    go true = tt
    go false = tt
