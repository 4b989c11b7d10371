-- A call that compares leaves what it was given.
use mathlib.Core.Path.{◌≡◌, refl, sym}
use mathlib.Core.Bool.{Bool, true, false, cond, false≢true}
use mathlib.Core.List.{List, []}
use Prim.Native.Nat.{ℕ}
use lib.ListN.{length}
use Rattle.answers.specs.Numbers.{is_done}
use Rattle.stream.specs.declared.Direction.{Direction}
use Rattle.stream.specs.declared.Direction.TheVariants.{Checking}
use Rattle.stream.specs.declared.Stream.{Stream}
use Rattle.stream.specs.declared.Outcome.{Outcome}
use Rattle.stream.specs.State.{gives_tag}
use Rattle.stream.specs.Calls.{text_test, finish_test, called, text_call, own_tag, finish_call}

-- one of two outcomes with one lent place
one_lent : (t : Bool) (one other : Outcome) (left : List ℕ) → cond t (called one left) (called other left) ≡ called (cond t (called one []) (called other [])).outcome left
one_lent true one other left = refl
one_lent false one other left = refl

-- a checking's piece leaves the place as it is
pub check_is : (s : Stream) (piece out : List ℕ) → text_call Checking s piece out ≡ called (text_call Checking s piece []).outcome out
unfolding text_call text_test
check_is s piece out = one_lent (is_done (text_test Checking s (length piece) (length out))) _ _ out

-- and so does an end that is given a tag to compare
pub finish_is : (d : Direction) → gives_tag d ≡ false → (s : Stream) (tag : List ℕ) → finish_call d s tag ≡ called (finish_call d s tag).outcome tag
unfolding finish_call
finish_is d compares s tag = go (is_done (finish_test d s (length tag))) (gives_tag d) compares _ _
  where
    go : (t gives : Bool) → gives ≡ false → (one other : Outcome) → let leaves = cond t (called one (cond gives (own_tag s) tag)) (called other tag) in leaves ≡ called leaves.outcome tag
    go true true e one other = absurd (false≢true (sym e))
    go true false e one other = refl
    go false gives e one other = refl
