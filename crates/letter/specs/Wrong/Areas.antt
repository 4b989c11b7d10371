-- Wrong answers of the calls of streams through the C boundary. Areas are written out byte by byte here, and not by the definition of a spelling, which they are to try;
-- where any area is meant, a number in it is named by its place (`number_at`).
use Rattle.std.specs.Prelude.{true, false, List, [], ◌∷◌, ◌++◌, ◌≡◌, ℕ, ◌<◌, length}
use Rattle.permutation.specs.Strings.{Bytes, bytes_of, zeros}
use Rattle.ascon.specs.Known.{counting, counting_on}
use Rattle.stream.specs.declared.Direction.{Direction}
use Rattle.stream.specs.declared.Direction.TheVariants.{Sealing, Checking, Opening}
use Rattle.stream.specs.State.{gives_text, gives_tag}
use Rattle.gateway.specs.Spelling.{number_at}
use Rattle.gateway.proofs as gateway
use Rattle.letter.specs.Wrong.Streams.{three_bytes, zeros_tag}
use Rattle.letter.specs.Calls.{Lent, LentMut, lent, lent_mut, NeverLeaves, NoSet}

-- ---- areas

-- the ended state: set 1 and phase 2, and else zeros
abbrev pub ended_area : List ℕ
ended_area = zeros 63 ++ 1 ∷ zeros 15 ++ 2 ∷ zeros 32

-- the same with the low byte of each number first
abbrev pub low_first : List ℕ
low_first = zeros 56 ++ 1 ∷ zeros 15 ++ 2 ∷ zeros 39

-- a stream of set 3 just as a start leaves it, with limit 200, under the key that counts, by the number of its direction; the words are the second program's
abbrev pub three_area : ℕ → List ℕ
three_area direction =
    bytes_of 40 0xcba43b0a331b0ae5d0b1251e0aae45b238a513833140c3d89a7e53e8fcfb383251df9d8eccf77b4f
    ++ counting
    ++ zeros 7
    ++ 3 ∷ zeros 7
    ++ direction ∷ zeros 39
    ++ 200 ∷ []

-- one of set 2, whose key has twelve bytes, and zeros behind them
abbrev pub two_area : ℕ → List ℕ
two_area direction =
    bytes_of 40 0x4a55d9dc612b47e1f434abe46c1536029d443407a040b143d0ef2428e10c776535171dde6231c42f
    ++ bytes_of 12 0x000102030405060708090a0b
    ++ zeros 11
    ++ 2 ∷ zeros 7
    ++ direction ∷ zeros 39
    ++ 200 ∷ []

-- a stream of set 1 inside the first block of its data, with limit 200, under a key of zeros: the first eight bytes of its words, the number of its direction, and how many
-- bytes of data it took
abbrev pub data_area : List ℕ → ℕ → ℕ → List ℕ
data_area front direction taken = front ++ zeros 55 ++ 1 ∷ zeros 7 ++ direction ∷ zeros 15 ++ taken ∷ zeros 15 ++ taken ∷ zeros 7 ++ 200 ∷ []

-- a stream of set 1 inside the first block of its text, with limit 200, under a key of zeros: the first eight bytes of its words, the number of its direction, and how many
-- bytes of text it took
abbrev pub text_area : List ℕ → ℕ → ℕ → List ℕ
text_area front direction taken =
    front ++ zeros 55 ++ 1 ∷ zeros 7 ++ direction ∷ zeros 7 ++ 1 ∷ zeros 15 ++ taken ∷ zeros 7 ++ taken ∷ zeros 7 ++ 200 ∷ []

-- the numbers of the directions
abbrev pub direction_number : Direction → ℕ
direction_number Sealing = 0
direction_number Checking = 1
direction_number Opening = 2

-- ---- a contract allows no other number, with nothing else in the area and in a lent place

-- what a start is handed
abbrev pub handed_start : ℕ → ℕ → List ℕ → List ℕ → List ℕ → ℕ × (ℕ × (Lent × (Lent × (LentMut × Unit {0}))))
handed_start set limit K N area = (set, (limit, (lent K, (lent N, (lent_mut area, tt)))))

abbrev pub StartsOnly : Direction → ℕ → ℕ → List ℕ → List ℕ → List ℕ → ℕ → List ℕ → Type 0
StartsOnly Sealing set limit K N area number left =
    (n : ℕ) (x : List ℕ) → ((n ≡ number) × (x ≡ left) → ⊥)
    → NeverLeaves gateway.kvistmaur_start_sealing.Reads.Learnt (handed_start set limit K N area) n (handed_start set limit K N x)
StartsOnly Checking set limit K N area number left =
    (n : ℕ) (x : List ℕ) → ((n ≡ number) × (x ≡ left) → ⊥)
    → NeverLeaves gateway.kvistmaur_start_checking.Reads.Learnt (handed_start set limit K N area) n (handed_start set limit K N x)
StartsOnly Opening set limit K N area number left =
    (n : ℕ) (x : List ℕ) → ((n ≡ number) × (x ≡ left) → ⊥)
    → NeverLeaves gateway.kvistmaur_start_opening.Reads.Learnt (handed_start set limit K N area) n (handed_start set limit K N x)

abbrev pub DataOnly : List ℕ → List ℕ → ℕ → List ℕ → Type 0
DataOnly area ad number left =
    (n : ℕ) (x : List ℕ) → ((n ≡ number) × (x ≡ left) → ⊥) → NeverLeaves gateway.kvistmaur_stream_data.Reads.Learnt (lent_mut area, (lent ad, tt)) n (lent_mut x, (lent ad, tt))

-- a checking's text call is lent no place for its output
abbrev pub TextsOnly : Direction → List ℕ → List ℕ → List ℕ → ℕ → List ℕ → List ℕ → Type 0
TextsOnly Sealing area piece out number left place =
    (n : ℕ) (x y : List ℕ) → ((n ≡ number) × (x ≡ left) × (y ≡ place) → ⊥)
    → NeverLeaves gateway.kvistmaur_stream_seal.Reads.Learnt (lent_mut area, (lent piece, (lent_mut out, tt))) n (lent_mut x, (lent piece, (lent_mut y, tt)))
TextsOnly Checking area piece out number left place =
    (n : ℕ) (x : List ℕ) → ((n ≡ number) × (x ≡ left) → ⊥)
    → NeverLeaves gateway.kvistmaur_stream_check.Reads.Learnt (lent_mut area, (lent piece, tt)) n (lent_mut x, (lent piece, tt))
TextsOnly Opening area piece out number left place =
    (n : ℕ) (x y : List ℕ) → ((n ≡ number) × (x ≡ left) × (y ≡ place) → ⊥)
    → NeverLeaves gateway.kvistmaur_stream_open.Reads.Learnt (lent_mut area, (lent piece, (lent_mut out, tt))) n (lent_mut x, (lent piece, (lent_mut y, tt)))

-- nor is a finish that compares one for the tag
abbrev pub FinishesOnly : Direction → List ℕ → List ℕ → ℕ → List ℕ → List ℕ → Type 0
FinishesOnly Sealing area tag number left place =
    (n : ℕ) (x y : List ℕ) → ((n ≡ number) × (x ≡ left) × (y ≡ place) → ⊥)
    → NeverLeaves gateway.kvistmaur_finish_sealing.Reads.Learnt (lent_mut area, (lent_mut tag, tt)) n (lent_mut x, (lent_mut y, tt))
FinishesOnly Checking area tag number left place =
    (n : ℕ) (x : List ℕ) → ((n ≡ number) × (x ≡ left) → ⊥)
    → NeverLeaves gateway.kvistmaur_finish_checking.Reads.Learnt (lent_mut area, (lent tag, tt)) n (lent_mut x, (lent tag, tt))
FinishesOnly Opening area tag number left place =
    (n : ℕ) (x : List ℕ) → ((n ≡ number) × (x ≡ left) → ⊥)
    → NeverLeaves gateway.kvistmaur_finish_opening.Reads.Learnt (lent_mut area, (lent tag, tt)) n (lent_mut x, (lent tag, tt))

abbrev pub EndsOnly : List ℕ → ℕ → List ℕ → Type 0
EndsOnly area number left = (n : ℕ) (x : List ℕ) → ((n ≡ number) × (x ≡ left) → ⊥) → NeverLeaves gateway.kvistmaur_stream_end.Reads.Learnt (lent_mut area, tt) n (lent_mut x, tt)

-- ---- the wrong answers

pub record Wrong : Type 0 where
  -- the area's length comes before all else in a start, and nothing changes then, whatever is handed over
  pub area_start_length : (d : Direction) (set limit : ℕ) (K N area : List ℕ) → (length area ≡ 112 → ⊥) → StartsOnly d set limit K N area 8 area
  -- a start that is refused for its set, whatever else is handed over, for its key, its nonce or its limit, leaves the ended state, and no stream that stood there before
  pub area_start_set : (d : Direction) (set limit : ℕ) (K N area : List ℕ) → NoSet set → length area ≡ 112 → StartsOnly d set limit K N area 1 ended_area
  pub area_start_key : (d : Direction) (limit : ℕ) (K N area : List ℕ) → (length K ≡ 16 → ⊥) → length area ≡ 112 → StartsOnly d 1 limit K N area 2 ended_area
  pub area_start_nonce : (d : Direction) (limit : ℕ) (N area : List ℕ) → (length N ≡ 16 → ⊥) → length area ≡ 112 → StartsOnly d 1 limit (zeros 16) N area 3 ended_area
  pub area_start_limit : (d : Direction) (limit : ℕ) (area : List ℕ) → 1_048_576 < limit → length area ≡ 112 → StartsOnly d 1 limit (zeros 16) (zeros 16) area 5 ended_area
  -- a start leaves these bytes, in this order and high byte first, whatever the area held: 192, which is 16 × 12
  pub area_start_three : (d : Direction) (area : List ℕ) → length area ≡ 112 → StartsOnly d 3 200 counting counting_on area 192 (three_area (direction_number d))
  pub area_start_two : (d : Direction) (area : List ℕ) → length area ≡ 112
      → StartsOnly d 2 200 (bytes_of 12 0x000102030405060708090a0b) (bytes_of 12 0x101112131415161718191a1b) area 192 (two_area (direction_number d))
  -- an area of another length is 8, for every call on it, and nothing changes
  pub area_data_length : (area ad : List ℕ) → (length area ≡ 112 → ⊥) → DataOnly area ad 8 area
  pub area_text_length : (d : Direction) (area piece out : List ℕ) → (length area ≡ 112 → ⊥) → TextsOnly d area piece out 8 area out
  pub area_finish_length : (d : Direction) (area tag : List ℕ) → (length area ≡ 112 → ⊥) → FinishesOnly d area tag 8 area tag
  pub area_end_length : (area : List ℕ) → (length area ≡ 112 → ⊥) → EndsOnly area 8 area
  -- and so is one with a number that no direction, or no phase, has, whatever else it holds: it is not taken by its low bits, or for the nearest
  pub area_data_direction : (area ad : List ℕ) → 2 < number_at area 64 → DataOnly area ad 8 area
  pub area_text_direction : (d : Direction) (area piece out : List ℕ) → 2 < number_at area 64 → TextsOnly d area piece out 8 area out
  pub area_finish_direction : (d : Direction) (area tag : List ℕ) → 2 < number_at area 64 → FinishesOnly d area tag 8 area tag
  pub area_data_phase : (area ad : List ℕ) → 2 < number_at area 72 → DataOnly area ad 8 area
  pub area_text_phase : (d : Direction) (area piece out : List ℕ) → 2 < number_at area 72 → TextsOnly d area piece out 8 area out
  pub area_finish_phase : (d : Direction) (area tag : List ℕ) → 2 < number_at area 72 → FinishesOnly d area tag 8 area tag
  -- and so are bytes that spell a set that there is not, whatever else they hold: a number of 64 bits is not cut down to a set's
  pub area_data_set : (area ad : List ℕ) → Bytes area → NoSet (number_at area 56) → DataOnly area ad 8 area
  pub area_text_set : (d : Direction) (area piece out : List ℕ) → Bytes area → NoSet (number_at area 56) → TextsOnly d area piece out 8 area out
  pub area_finish_set : (d : Direction) (area tag : List ℕ) → Bytes area → NoSet (number_at area 56) → FinishesOnly d area tag 8 area tag
  -- the ended state is 7, and is 8 where its numbers have their low byte first
  pub area_data_ended : (ad : List ℕ) → DataOnly ended_area ad 7 ended_area
  pub area_data_low_first : (ad : List ℕ) → DataOnly low_first ad 8 low_first
  -- a piece of data changes the front of the words, its count and the place, in every direction
  pub area_data_front : (d : Direction) → DataOnly (data_area (1 ∷ 2 ∷ 3 ∷ 4 ∷ 5 ∷ 6 ∷ 7 ∷ 8 ∷ []) (direction_number d) 0) three_bytes 0
      (data_area (0x10 ∷ 0x10 ∷ 0x10 ∷ 4 ∷ 5 ∷ 6 ∷ 7 ∷ 8 ∷ []) (direction_number d) 3)
  -- a piece of text changes the front of the words, its count and the place, and no byte of the lent place behind it
  pub area_seal_front : TextsOnly Sealing (text_area (1 ∷ 2 ∷ 3 ∷ 4 ∷ 5 ∷ 6 ∷ 7 ∷ 8 ∷ []) 0 0) three_bytes (4 ∷ 5 ∷ 6 ∷ 7 ∷ 8 ∷ []) 0
      (text_area (0x10 ∷ 0x10 ∷ 0x10 ∷ 4 ∷ 5 ∷ 6 ∷ 7 ∷ 8 ∷ []) 0 3) (0x10 ∷ 0x10 ∷ 0x10 ∷ 7 ∷ 8 ∷ [])
  pub area_check_front : TextsOnly Checking (text_area (1 ∷ 2 ∷ 3 ∷ 4 ∷ 5 ∷ 6 ∷ 7 ∷ 8 ∷ []) 1 0) three_bytes [] 0 (text_area (0x11 ∷ 0x12 ∷ 0x13 ∷ 4 ∷ 5 ∷ 6 ∷ 7 ∷ 8 ∷ []) 1 3) []
  pub area_open_front : TextsOnly Opening (text_area (1 ∷ 2 ∷ 3 ∷ 4 ∷ 5 ∷ 6 ∷ 7 ∷ 8 ∷ []) 2 0) three_bytes (4 ∷ 5 ∷ 6 ∷ 7 ∷ 8 ∷ []) 0
      (text_area (0x11 ∷ 0x12 ∷ 0x13 ∷ 4 ∷ 5 ∷ 6 ∷ 7 ∷ 8 ∷ []) 2 3) (0x10 ∷ 0x10 ∷ 0x10 ∷ 7 ∷ 8 ∷ [])
  -- a sealing's finish gives its tag, and a finish that compares says yes to it, with 192; to another tag it says 201, which is 16 × 12 + 9; each leaves the ended state
  pub area_finish_tag : FinishesOnly Sealing (text_area (zeros 8) 0 0) (zeros 16) 192 ended_area zeros_tag
  pub area_finish_yes : (d : Direction) → gives_tag d ≡ false → FinishesOnly d (text_area (zeros 8) (direction_number d) 0) zeros_tag 192 ended_area zeros_tag
  pub area_finish_nine : (d : Direction) → gives_tag d ≡ false → FinishesOnly d (text_area (zeros 8) (direction_number d) 0) (zeros 16) 201 ended_area (zeros 16)
  -- a call of another direction is 7, and nothing changes
  pub area_text_crossed : (d e : Direction) → (d ≡ e → ⊥)
      → TextsOnly d (text_area (zeros 8) (direction_number e) 0) three_bytes (4 ∷ 5 ∷ 6 ∷ []) 7 (text_area (zeros 8) (direction_number e) 0) (4 ∷ 5 ∷ 6 ∷ [])
  pub area_finish_crossed : (d e : Direction) → (d ≡ e → ⊥)
      → FinishesOnly d (text_area (zeros 8) (direction_number e) 0) zeros_tag 7 (text_area (zeros 8) (direction_number e) 0) zeros_tag
  -- a tag of another length is 4, text past the limit 5, and no room for it 6; nothing changes
  pub area_finish_short : (d : Direction) → FinishesOnly d (text_area (zeros 8) (direction_number d) 0) (zeros 15) 4 (text_area (zeros 8) (direction_number d) 0) (zeros 15)
  pub area_text_past : (d : Direction) → TextsOnly d (text_area (zeros 8) (direction_number d) 0) (zeros 201) [] 5 (text_area (zeros 8) (direction_number d) 0) []
  pub area_text_room : (d : Direction) → gives_text d ≡ true → TextsOnly d (text_area (zeros 8) (direction_number d) 0) three_bytes (4 ∷ 5 ∷ []) 6 (text_area (zeros 8) (direction_number d) 0) (4 ∷ 5 ∷ [])
  -- the end without a tag leaves the ended state, and so no key, whatever the area held
  pub area_end_any : (area : List ℕ) → length area ≡ 112 → EndsOnly area 0 ended_area
