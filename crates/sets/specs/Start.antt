-- The first tests of a stream's start, and of a whole message.
use Rattle.std.specs.Prelude.{cond, not, List, [], ◌∷◌, ℕ, eqb, Result, Ok, Err}
use Rattle.answers.specs.declared.Answer.{Answer}
use Rattle.answers.specs.declared.Answer.TheVariants.{Done, UnknownSet, KeyLength, NonceLength}
use Rattle.answers.specs.Numbers.{is_done}
use Rattle.answers.specs.Order.{Choice, ◌when◌, first}
use Rattle.ascon.specs.Sets.{is_set, row_of}

-- a set, and the lengths of key and nonce: 1, 2, 3
abbrev pub start_faults : ℕ → ℕ → ℕ → List (Choice Answer)
start_faults set key nonce =
    UnknownSet when not (is_set set) ∷ KeyLength when not (eqb key (row_of set).key) ∷ NonceLength when not (eqb nonce (row_of set).key) ∷ []

unfoldable pub start_test : ℕ → ℕ → ℕ → Answer
start_test set key nonce = first Done (start_faults set key nonce)

-- an answer as tests inside the crates above give it: done is Ok, any other an Err
abbrev pub tested : Answer → Result (Unit {0}) Answer
tested answer = cond (is_done answer) (Ok tt) (Err answer)
