-- What is promised of spellings: each state has one, and each of them is one state's.
use Rattle.std.specs.Prelude.{true, false, List, ◌∷◌, ◌++◌, ◌≡◌, ℕ, ◌^◌, ◌<◌, length, get_or}
use Rattle.permutation.specs.Strings.{Bytes, zeros}
use Rattle.stream.specs.declared.Stream.{Stream}
use Rattle.stream.specs.State.{ended}
use Rattle.gateway.specs.Spelling.{spelling, is_spelling, state_in}

-- a state whose parts have the sizes of their places, as every state in the code has
pub record Sized (s : Stream) : Type 0 where
  pub five : length s.words ≡ 5
  pub words : (i : ℕ) → get_or s.words i 0 < 2 ^ 64
  pub sixteen : length s.key ≡ 16
  pub key : Bytes s.key
  pub set : s.set < 2 ^ 64
  pub ad : s.ad < 2 ^ 64
  pub text : s.text < 2 ^ 64
  pub place : s.place < 2 ^ 64
  pub limit : s.limit < 2 ^ 64

pub record OneToOne : Type 0 where
  -- a state's spelling spells that state
  pub spelled : (s : Stream) → Sized s → (is_spelling (spelling s) ≡ true) × (state_in (spelling s) ≡ s)
  -- and is bytes
  pub bytes : (s : Stream) → Sized s → Bytes (spelling s)
  -- bytes that spell a state are that state's spelling
  pub spells : (area : List ℕ) → Bytes area → is_spelling area ≡ true → Sized (state_in area) × (spelling (state_in area) ≡ area)
  -- so two states have two spellings
  pub one_state : (s t : Stream) → Sized s → Sized t → spelling s ≡ spelling t → s ≡ t
  -- and bytes that spell none are no state's
  pub no_state : (area : List ℕ) → is_spelling area ≡ false → (s : Stream) → Sized s → spelling s ≡ area → ⊥
  -- the ended state: the numbers of set 1, of sealing and of the last phase, and else zeros
  pub ended_is : spelling ended ≡ zeros 63 ++ 1 ∷ zeros 15 ++ 2 ∷ zeros 32
