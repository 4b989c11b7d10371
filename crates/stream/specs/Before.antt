-- The tests of streams before a start chose a limit: with the largest limit, the tests now are those.
use Rattle.std.specs.Prelude.{Bool, true, not, ◌&&◌, List, [], ◌∷◌, ◌++◌, ◌≡◌, ℕ, ◌+◌, ◌%◌, eqb, leb, drop}
use Rattle.answers.specs.declared.Answer.{Answer}
use Rattle.answers.specs.declared.Answer.TheVariants.{NoRoom}
use Rattle.answers.specs.Order.{Choice, ◌when◌}
use Rattle.ascon.specs.Sets.{is_set, row_of, ad_limit, text_limit}
use Rattle.sets.specs.Start.{start_test}
use Rattle.stream.specs.declared.Direction.{Direction}
use Rattle.stream.specs.declared.Stream.{Stream}
use Rattle.stream.specs.State.{gives_text, is_open, fits, all_zero, is_sound_open}
use Rattle.stream.specs.Calls.{limited_start_test, piece_faults, text_faults}

-- an open state: both counts within the one limit of their kind
abbrev pub sound_open_before : Stream → ℕ → Bool
sound_open_before s count =
    is_set s.set
    && (all_zero (drop (row_of s.set).key s.key)
    && (leb s.ad ad_limit && (leb s.text text_limit && eqb s.place (count % (row_of s.set).block))))

-- a piece of text on an open state: within the one limit of text
abbrev pub text_faults_before : Direction → Stream → ℕ → ℕ → List (Choice Answer)
text_faults_before d s n room = piece_faults s (fits d s) (s.text + n) text_limit ++ NoRoom when (gives_text d && not (leb n room)) ∷ []

pub record AsBefore : Type 0 where
  -- a start with the largest limit has the tests that it had
  pub start : (set key nonce : ℕ) → limited_start_test set key nonce text_limit ≡ start_test set key nonce
  -- an open state of that limit breaks the rules that it broke
  pub sound : (s : Stream) (count : ℕ) → s.limit ≡ text_limit → is_sound_open s count ≡ sound_open_before s count
  -- and a piece of text on it has the tests that it had
  pub text : (d : Direction) (s : Stream) (n room : ℕ) → is_open s.phase ≡ true → s.limit ≡ text_limit → text_faults d s n room ≡ text_faults_before d s n room
