-- A text of at most 32 bytes as a name, and the kinds that have it.
use mathlib.Core.Path.{◌≡◌, refl, ap, ◌∙◌}
use mathlib.Core.Bool.{true}
use mathlib.Core.List.{List, ◌++◌}
use Prim.Native.Nat.{ℕ, ◌-◌, ◌≤◌}
use native.Mathlib.Omega.{arith}
use lib.ListN.{length, take, length-append}
use lib.Seq.{take-append_seam}
use borrow.Author.Tests.{le-leb}
use Rattle.permutation.specs.Strings.{zeros}
use Rattle.lines.specs.declared.kinds.Kind.{Kind}
use Rattle.lines.specs.declared.kinds.Name.{Name}
use Rattle.lines.specs.declared.kinds.Value.{Value}
use Rattle.lines.specs.Right.{name_of, named}
use Rattle.lines.specs.Laws.{fits, plain, Fit}

-- a name holds a text: its size is the text's, lies in its places, and they begin with it
pub record Holds (x : List ℕ) (n : Name) : Type 0 where
  pub size_is : n.size ≡ length x
  pub inside : n.size ≤ length n.bytes
  pub text_is : take n.size n.bytes ≡ x

-- a text that has room in the places of a name is held by it
pub named_holds : (x : List ℕ) → length x ≤ 32 → (n : Name) → n ≡ named x → Holds x n
unfolding named
named_holds x h n e =
    let rest : List ℕ = zeros (32 - length x) in
    let is : n ≡ record { bytes = x ++ rest; size = length x } = e ∙ rw (le-leb (length x) 32 h) in
    let size : n.size ≡ length x = ap (λ (m : Name). m.size) is in
    let places = ap (λ (m : Name). length m.bytes) is ∙ length-append x rest in
    record { size_is = size; inside = omega arith; text_is = ap (λ (m : Name). take m.size m.bytes) is ∙ take-append_seam x rest }

module _ (x : List ℕ) (h : length x ≤ 32) (value : Value) where
  -- the kind of a name and a value
  abbrev kind_of : Kind
  kind_of = record { name = named x; value = value }

  -- it has this name
  pub named_is : name_of kind_of ≡ x
  named_is = (named_holds x h _ refl).text_is

  -- and fits where the name has no line feed and the value fits
  pub named_fit : plain x ≡ true → fits value ≡ true → Fit kind_of
  named_fit p f = record { named = (named_holds x h _ refl).inside; plainly = rw named_is p; valued = f }
