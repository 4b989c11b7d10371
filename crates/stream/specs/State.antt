-- The state of a stream, what each direction does, and the rules that a state keeps.
use Rattle.std.specs.Prelude.{Bool, true, false, ◌&&◌, List, [], ◌∷◌, ℕ, ◌%◌, eqb, leb, drop}
use Rattle.permutation.specs.Strings.{zeros}
use Rattle.ascon.specs.Sets.{is_set, row_of, ad_limit, text_limit}
use Rattle.sponge.specs.declared.Way.{Way}
use Rattle.sponge.specs.declared.Way.TheVariants.{Seal, Open}
use Rattle.stream.specs.declared.Direction.{Direction}
use Rattle.stream.specs.declared.Direction.TheVariants.{Sealing, Checking, Opening}
use Rattle.stream.specs.declared.Phase.{Phase}
use Rattle.stream.specs.declared.Phase.TheVariants.{Ad, Text, Ended}
use Rattle.stream.specs.declared.Stream.{Stream}

-- ---- directions

-- its rank among the directions
abbrev pub rank_of : Direction → ℕ
rank_of Sealing = 0
rank_of Checking = 1
rank_of Opening = 2

-- whether two directions are one
abbrev pub is_direction : Direction → Direction → Bool
is_direction one other = eqb (rank_of one) (rank_of other)

-- which text the state's front becomes: the one that goes out of a sealing, the one that comes into a checking or an opening; it is the ciphertext each time
abbrev pub way_of : Direction → Way
way_of Sealing = Seal
way_of Checking = Open
way_of Opening = Open

-- whether a piece of text has an output
abbrev pub gives_text : Direction → Bool
gives_text Sealing = true
gives_text Checking = false
gives_text Opening = true

-- whether the end gives the tag; else it is given one to compare
abbrev pub gives_tag : Direction → Bool
gives_tag Sealing = true
gives_tag Checking = false
gives_tag Opening = false

-- ---- phases

abbrev pub is_ad : Phase → Bool
is_ad Ad = true
is_ad Text = false
is_ad Ended = false

abbrev pub is_open : Phase → Bool
is_open Ad = true
is_open Text = true
is_open Ended = false

-- a call on the text, for a direction, is in its phase and on a stream of that direction
abbrev pub fits : Direction → Stream → Bool
fits direction s = is_open s.phase && is_direction direction s.direction

-- ---- states

-- each element is zero
abbrev pub all_zero : List ℕ → Bool
all_zero [] = true
all_zero (x ∷ xs) = eqb x 0 && all_zero xs

-- the one ended state
abbrev pub ended : Stream
ended = record { words = zeros 5; set = 1; direction = Sealing; phase = Ended; key = zeros 16; ad = 0; text = 0; place = 0; limit = 0 }

-- an open state whose phase has taken `count` bytes: a known set, zeros behind the key, the data within its limit, the text within the stream's own, that one within
-- the largest, and the place that the count gives
unfoldable pub is_sound_open : Stream → ℕ → Bool
is_sound_open s count =
    is_set s.set
    && (all_zero (drop (row_of s.set).key s.key)
    && (leb s.ad ad_limit && (leb s.text s.limit && (leb s.limit text_limit && eqb s.place (count % (row_of s.set).block)))))

-- a state in the phase ended: all of the ended state's values
unfoldable pub is_sound_ended : Stream → Bool
is_sound_ended s =
    all_zero s.words
    && (all_zero s.key && (is_direction Sealing s.direction && (eqb s.set 1 && (eqb s.ad 0 && (eqb s.text 0 && (eqb s.place 0 && eqb s.limit 0))))))

-- by the phase; before the text phase the text count is 0
abbrev pub is_sound_in : Phase → Stream → Bool
is_sound_in Ad s = eqb s.text 0 && is_sound_open s s.ad
is_sound_in Text s = is_sound_open s s.text
is_sound_in Ended s = is_sound_ended s

-- a state that breaks no rule
unfoldable pub is_sound : Stream → Bool
is_sound s = is_sound_in s.phase s
