-- How the state of a stream is spelled in 112 bytes, its area: the words, the key, and the numbers, each word and number in eight bytes, high byte first.
use Rattle.std.specs.Prelude.{Bool, cond, ◌&&◌, List, [], ◌∷◌, ℕ, eqb, leb, length, take, drop}
use Rattle.permutation.specs.Strings.{◌‖◌, value_of, string_of_words}
use Rattle.stream.specs.declared.Direction.{Direction}
use Rattle.stream.specs.declared.Direction.TheVariants.{Sealing, Checking, Opening}
use Rattle.stream.specs.declared.Phase.{Phase}
use Rattle.stream.specs.declared.Phase.TheVariants.{Ad, Text, Ended}
use Rattle.stream.specs.declared.Stream.{Stream}
use Rattle.stream.specs.State.{rank_of}

-- the bytes of an area
abbrev pub state_length : ℕ
state_length = 112

-- ---- a state as bytes

-- the number of a phase; that of a direction is its rank
abbrev pub phase_number : Phase → ℕ
phase_number Ad = 0
phase_number Text = 1
phase_number Ended = 2

-- the numbers behind the key, in their order
abbrev pub numbers_of : Stream → List ℕ
numbers_of s = s.set ∷ rank_of s.direction ∷ phase_number s.phase ∷ s.ad ∷ s.text ∷ s.place ∷ s.limit ∷ []

-- the spelling of a state
unfoldable pub spelling : Stream → List ℕ
spelling s = string_of_words s.words ‖ s.key ‖ string_of_words (numbers_of s)

-- ---- bytes as a state

-- the number of the eight bytes at a place
abbrev pub number_at : List ℕ → ℕ → ℕ
number_at area place = value_of (take 8 (drop place area))

-- the direction of a number up to 2
unfoldable pub direction_of : ℕ → Direction
direction_of n = cond (eqb n 0) Sealing (cond (eqb n 1) Checking Opening)

-- the phase of a number up to 2
unfoldable pub phase_of : ℕ → Phase
phase_of n = cond (eqb n 0) Ad (cond (eqb n 1) Text Ended)

-- whether bytes spell a state: 112 of them, with the number of a direction and that of a phase
unfoldable pub is_spelling : List ℕ → Bool
is_spelling area = eqb (length area) state_length && (leb (number_at area 64) 2 && leb (number_at area 72) 2)

-- the state that they spell
unfoldable pub state_in : List ℕ → Stream
state_in area =
    record {
      words = number_at area 0 ∷ number_at area 8 ∷ number_at area 16 ∷ number_at area 24 ∷ number_at area 32 ∷ [];
      key = take 16 (drop 40 area);
      set = number_at area 56;
      direction = direction_of (number_at area 64);
      phase = phase_of (number_at area 72);
      ad = number_at area 80;
      text = number_at area 88;
      place = number_at area 96;
      limit = number_at area 104;
    }
