-- What is said of any call: the contract of its code, what that allows and what it does not, and kinds of answers.
-- The kit reads the contract of a function f off its source: `f.Statement.statement` says that the code of f returns, and with what the contract allows; `f.Reads.Asked` is what
-- it asks of the caller; `f.Reads.Learnt` is what a caller learns from that theorem, of lifetimes, arguments, result, and arguments at the return. A lent place a holds `a.now`.
use Rattle.std.specs.Prelude.{◌≡◌, List, [], ◌∷◌, ◌⊎◌, ℕ, suc, ◌<◌}
use Rattle.std.specs.Borrow.{Bor, MutBor}
use Rattle.answers.specs.declared.Answer.{Answer}
use Rattle.answers.specs.declared.Answer.TheVariants.{Done, TagDiffers}

-- a call of which `seen` is all that its caller can see of an outcome: the result, and what each lent place then holds
pub record Answered
    {L A R O : Type 0} (statement : Type 1 → Type 2) (asked : L → A → Type 0) (allowed : L → A → R → A → Type 0) (seen : R → A → O) (call : A → O)
    : Type 2 where
  -- its code returns, with what the contract allows
  pub answers : (M : Type 1) → statement M
  -- it asks no one to have checked anything
  pub unasked : (κ : L) (a : A) → asked κ a
  -- what the contract allows is what the definition gives
  pub given : (κ : L) (a : A) (r : R) (e : A) → allowed κ a r e → seen r e ≡ call a
  -- two outcomes that it allows for the same arguments are one
  pub once : (κ κ' : L) (a : A) (r r' : R) (e e' : A) → allowed κ a r e → allowed κ' a r' e' → seen r e ≡ seen r' e'

-- a lent slice
abbrev pub Lent : Type 0
Lent = Bor (List ℕ)

-- a list, lent from some place
abbrev pub lent : List ℕ → Lent
lent x = record { ref_ptr = (0, 0); now = x }

-- a slice lent to be written
abbrev pub LentMut : Type 0
LentMut = MutBor (List ℕ)

-- a list, lent from some place to be written
abbrev pub lent_mut : List ℕ → LentMut
lent_mut x = record { ref_ptr = (0, 0); ghost_name = 0; now = x }

-- a lent place that then holds something else
abbrev pub holding : LentMut → List ℕ → LentMut
holding a x = record { ref_ptr = a.ref_ptr; ghost_name = a.ghost_name; now = x }

-- a contract allows, for the arguments, a result and what the arguments then are
abbrev pub Leaves : {L A R : Type 0} → (L → A → R → A → Type 0) → A → R → A → Type 0
Leaves {L} allowed before r after = (κ : L) → allowed κ before r after

-- where nothing is lent to be written, a result alone
abbrev pub Gives : {L A R : Type 0} → (L → A → R → A → Type 0) → A → R → Type 0
Gives allowed a r = Leaves allowed a r a

-- what a contract allows of results, of what they are seen as
abbrev pub Seen : {L A R O : Type 0} → (R → O) → (L → A → R → A → Type 0) → L → A → O → A → Type 0
Seen {R = R} view allowed κ before o after = (r : R) × ((view r ≡ o) × allowed κ before r after)

-- what is seen of a result tells it: results that are seen alike are one
abbrev pub Tells : {R O : Type 0} → (R → O) → Type 0
Tells {R = R} view = (r r' : R) → view r ≡ view r' → r ≡ r'

-- a contract does not allow a result, whatever comes back in the lent places
abbrev pub Never : {L A R : Type 0} → (L → A → R → A → Type 0) → A → R → Type 0
Never {L} {A} allowed before r = (κ : L) (after : A) → allowed κ before r after → ⊥

-- a contract allows no other result
abbrev pub Only : {L A R : Type 0} → (L → A → R → A → Type 0) → A → R → Type 0
Only {R = R} allowed before r = (other : R) → (other ≡ r → ⊥) → Never allowed before other

-- of a call on a set's number it allows no other results than these, from a number on
abbrev pub OnlyFrom : {L R : Type 0} → (L → ℕ × Unit {0} → R → ℕ × Unit {0} → Type 0) → ℕ → List R → Type 0
OnlyFrom allowed set [] = Unit {0}
OnlyFrom allowed set (r ∷ rs) = Only allowed (set, tt) r × OnlyFrom allowed (suc set) rs

-- a contract does not allow a result together with this in the lent places
abbrev pub NeverLeaves : {L A R : Type 0} → (L → A → R → A → Type 0) → A → R → A → Type 0
NeverLeaves {L} allowed before r after = (κ : L) → allowed κ before r after → ⊥

-- a number that no set has, written out, and not by the table, which it is to try
abbrev pub NoSet : ℕ → Type 0
NoSet set = (set ≡ 0) ⊎ (4 < set)

-- not done, and not 9
abbrev pub Refused : Answer → Type 0
Refused answer = (answer ≡ Done → ⊥) × (answer ≡ TagDiffers → ⊥)

-- done, or 9
abbrev pub Through : Answer → Type 0
Through answer = (answer ≡ Done) ⊎ (answer ≡ TagDiffers)
