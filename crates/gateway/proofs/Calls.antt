-- What the stream calls leave, where the area spells a state and where it does not.
use mathlib.Core.Path.{◌≡◌}
use mathlib.Core.Bool.{true, false}
use mathlib.Core.List.{List}
use Prim.Native.Nat.{ℕ}
use Rattle.std.proofs.lemmas.Bool.{cond_both}
use Rattle.stream.specs.declared.Direction.{Direction}
use Rattle.stream.specs.Calls.{Called, ad_call, text_call, finish_call}
use Rattle.gateway.specs.Spelling.{is_spelling, state_in}
use Rattle.gateway.specs.Calls.{Left, LeftLent, unspelled, left_by, left_beside, ad_on, text_on, finish_on}

-- a call with a lent place, and what both then hold
abbrev pub left_called : Called → LeftLent
left_called call = left_beside (left_by call.outcome) call.lent

module _ (area : List ℕ) (yes : is_spelling area ≡ true) where
  pub ad_on_lem : (piece : List ℕ) → left_by (ad_call (state_in area) piece) ≡ ad_on area piece
  unfolding ad_on
  ad_on_lem piece = rw yes

  pub text_on_lem : (d : Direction) (piece out : List ℕ) → left_called (text_call d (state_in area) piece out) ≡ text_on d area piece out
  unfolding text_on
  text_on_lem d piece out = rw yes

  pub finish_on_lem : (d : Direction) (tag : List ℕ) → left_called (finish_call d (state_in area) tag) ≡ finish_on d area tag
  unfolding finish_on
  finish_on_lem d tag = rw yes

module _ (area : List ℕ) (no : is_spelling area ≡ false) where
  pub ad_off : (piece : List ℕ) → unspelled area ≡ ad_on area piece
  unfolding ad_on
  ad_off piece = rw no

  pub text_off : (d : Direction) (piece out : List ℕ) → left_beside (unspelled area) out ≡ text_on d area piece out
  unfolding text_on
  text_off d piece out = rw no

  pub finish_off : (d : Direction) (tag : List ℕ) → left_beside (unspelled area) tag ≡ finish_on d area tag
  unfolding finish_on
  finish_off d tag = rw no

-- what is left by a call on the state that an area spells, and where it spells none, is what the call leaves
module _ (area : List ℕ) where
  pub ad_met : (piece : List ℕ) (all : Left) → (is_spelling area ≡ true → all ≡ left_by (ad_call (state_in area) piece))
      → (is_spelling area ≡ false → all ≡ unspelled area) → all ≡ ad_on area piece
  unfolding ad_on
  ad_met piece all is isn = cond_both (is_spelling area) _ _ (λ (x : Left). all ≡ x) is isn

  pub text_met : (d : Direction) (piece out : List ℕ) (all : LeftLent) → (is_spelling area ≡ true → all ≡ left_called (text_call d (state_in area) piece out))
      → (is_spelling area ≡ false → all ≡ left_beside (unspelled area) out) → all ≡ text_on d area piece out
  unfolding text_on
  text_met d piece out all is isn = cond_both (is_spelling area) _ _ (λ (x : LeftLent). all ≡ x) is isn

  pub finish_met : (d : Direction) (tag : List ℕ) (all : LeftLent) → (is_spelling area ≡ true → all ≡ left_called (finish_call d (state_in area) tag))
      → (is_spelling area ≡ false → all ≡ left_beside (unspelled area) tag) → all ≡ finish_on d area tag
  unfolding finish_on
  finish_met d tag all is isn = cond_both (is_spelling area) _ _ (λ (x : LeftLent). all ≡ x) is isn
