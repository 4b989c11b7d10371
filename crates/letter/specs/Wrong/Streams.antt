-- Wrong answers of the calls of streams.
use Rattle.std.specs.Prelude.{true, false, List, [], ◌∷◌, ◌≡◌, ℕ, ◌%◌, ◌≤◌, ◌<◌, length, get_or, replicate}
use Rattle.answers.specs.declared.Answer.{Answer}
use Rattle.answers.specs.declared.Answer.TheVariants.{Done, UnknownSet, NonceLength, TagLength, PastLimit, NoRoom, OutOfPhase, BrokenState, TagDiffers}
use Rattle.permutation.specs.Strings.{bytes_of, zeros}
use Rattle.ascon.specs.Known.{counting, counting_on}
use Rattle.stream.specs.declared.Stream.{Stream}
use Rattle.stream.specs.declared.Outcome.{Outcome}
use Rattle.stream.specs.declared.Direction.{Direction}
use Rattle.stream.specs.declared.Direction.TheVariants.{Sealing, Checking, Opening}
use Rattle.stream.specs.declared.Phase.{Phase}
use Rattle.stream.specs.declared.Phase.TheVariants.{Ad, Text, Ended}
use Rattle.stream.specs.State.{gives_text, gives_tag, is_open, ended, is_sound}
use Rattle.stream.proofs as stream
use Rattle.letter.specs.Wrong.Engine.{started_three, started_four, nine_three, nine_tag}
use Rattle.letter.specs.Calls.{Lent, lent, lent_mut, Never, NeverLeaves, NoSet}

-- a stream at the start of its data: its set, direction and key
abbrev pub begun_in : ℕ → Direction → List ℕ → Stream
begun_in set direction key = record { words = zeros 5; set = set; direction = direction; phase = Ad; key = key; ad = 0; text = 0; place = 0; limit = 200 }

-- an open state of set 2 whose key has some byte behind the twelfth that is not zero
abbrev pub Tailed : Stream → Type 0
Tailed s = (s.set ≡ 2) × ((is_open s.phase ≡ true) × ((i : ℕ) × ((12 ≤ i) × (get_or s.key i 0 ≡ 0 → ⊥))))

-- a set but 2: its keys have 16 bytes
abbrev pub LongKeyed : ℕ → Type 0
LongKeyed set = (1 ≤ set) × ((set ≤ 4) × (set ≡ 2 → ⊥))

-- one under a key of zeros that has taken nine bytes of data: its set, direction and place
abbrev pub nine_in : ℕ → Direction → ℕ → Stream
nine_in set direction place = record { words = zeros 5; set = set; direction = direction; phase = Ad; key = zeros 16; ad = 9; text = 0; place = place; limit = 200 }

-- a stream inside its text, with words of zeros, under the key that counts: its set, direction, the bytes of text that it took, and its place
abbrev pub text_in : ℕ → Direction → ℕ → ℕ → Stream
text_in set direction text place =
    record { words = zeros 5; set = set; direction = direction; phase = Text; key = counting; ad = 0; text = text; place = place; limit = 200 }

-- a stream of set 1 under a key of zeros: its words, direction, phase, both counts, place and limit
abbrev pub stream_of : List ℕ → Direction → Phase → ℕ → ℕ → ℕ → ℕ → Stream
stream_of words direction phase ad text place limit =
    record { words = words; set = 1; direction = direction; phase = phase; key = zeros 16; ad = ad; text = text; place = place; limit = limit }

-- one inside its text, by its direction, the bytes of text that it took, and its limit
abbrev pub inside_text : Direction → ℕ → ℕ → Stream
inside_text direction text limit = stream_of (zeros 5) direction Text 0 text (text % 8) limit

-- what a start in set 1 is handed, with a limit and with a key and a nonce of so many zeros
abbrev pub start_args : Direction → ℕ → ℕ → ℕ → Direction × (ℕ × (ℕ × (Lent × (Lent × Unit {0}))))
start_args direction limit key nonce = (direction, (1, (limit, (lent (zeros key), (lent (zeros nonce), tt)))))

-- what a call answers
abbrev pub answering : Answer → ℕ → Stream → Outcome
answering answer rounds next = record { answer = answer; rounds = rounds; next = next }

-- a state and n zeros of data
abbrev pub handed : Stream → ℕ → Stream × (Lent × Unit {0})
handed s n = (s, (lent (zeros n), tt))

-- the contract of a direction's text call does not allow an outcome, whatever comes back in the lent places; a checking's is lent no place for its output
abbrev pub NeverText : Direction → Stream → List ℕ → List ℕ → Outcome → Type 0
NeverText Sealing s piece out o = Never stream.Stream.seal.Reads.Learnt (s, (lent piece, (lent_mut out, tt))) o
NeverText Checking s piece out o = Never stream.Stream.check.Reads.Learnt (s, (lent piece, tt)) o
NeverText Opening s piece out o = Never stream.Stream.«open».Reads.Learnt (s, (lent piece, (lent_mut out, tt))) o

-- nor that of its finish
abbrev pub NeverFinish : Direction → Stream → List ℕ → Outcome → Type 0
NeverFinish Sealing s tag o = Never stream.Stream.finish_sealing.Reads.Learnt (s, (lent_mut tag, tt)) o
NeverFinish Checking s tag o = Never stream.Stream.finish_checking.Reads.Learnt (s, (lent tag, tt)) o
NeverFinish Opening s tag o = Never stream.Stream.finish_opening.Reads.Learnt (s, (lent tag, tt)) o

-- it allows no outcome but such
abbrev pub TextOnly : Direction → Stream → List ℕ → List ℕ → (Outcome → Type 0) → Type 0
TextOnly d s piece out Such = (o : Outcome) → (Such o → ⊥) → NeverText d s piece out o

abbrev pub FinishOnly : Direction → Stream → List ℕ → (Outcome → Type 0) → Type 0
FinishOnly d s tag Such = (o : Outcome) → (Such o → ⊥) → NeverFinish d s tag o

-- a state in the phase ended that says another direction than sealing
abbrev pub EndedElse : Stream → Type 0
EndedElse s = (s.phase ≡ Ended) × (s.direction ≡ Sealing → ⊥)

-- a stream at the start of its text, whose front is 01 to 08
abbrev pub fronted : Direction → Stream
fronted d = stream_of (0x0102030405060708 ∷ zeros 4) d Text 0 0 0 200

-- bytes that come to it: less than a block, and more than one
abbrev pub three_bytes : List ℕ
three_bytes = 0x11 ∷ 0x12 ∷ 0x13 ∷ []

abbrev pub nine_bytes : List ℕ
nine_bytes = 0x11 ∷ 0x12 ∷ 0x13 ∷ 0x14 ∷ 0x15 ∷ 0x16 ∷ 0x17 ∷ 0x18 ∷ 0x19 ∷ []

-- the words behind the nine where they are ciphertext, by the second program
abbrev pub nine_fronted : List ℕ
nine_fronted = 0x195833d3c394ccf5 ∷ 0xbd688dc8e31f65cf ∷ 0xf80662b8a0bbe067 ∷ 0x1be15d4b688fd370 ∷ 0xd74a0d43c9a76e22 ∷ []

-- the tag of a stream of set 1 with words of zeros, under a key of zeros, at the start of its text
abbrev pub zeros_tag : List ℕ
zeros_tag = bytes_of 16 0x344f68b335d2682c54e0c3ef895c25b2

-- the rounds and the next state play no part where an answer alone is ruled out
pub record Wrong : Type 0 where
  -- ---- a start

  -- answer 2 comes before answer 3
  pub start_key : (rounds : ℕ) (next : Stream) → Never stream.Stream.start.Reads.Learnt (start_args Sealing 200 0 0) (answering NonceLength rounds next)
  -- answer 3 comes before answer 5
  pub start_nonce : (d : Direction) (rounds : ℕ) (next : Stream)
      → Never stream.Stream.start.Reads.Learnt (start_args d 1_048_577 16 15) (answering PastLimit rounds next)
  -- answer 1 comes before all others, for every number that no set has, whatever else is handed over
  pub start_set : (d : Direction) (set limit : ℕ) (key nonce : List ℕ) → NoSet set → (answer : Answer) (rounds : ℕ) (next : Stream) → (answer ≡ UnknownSet → ⊥)
      → Never stream.Stream.start.Reads.Learnt (d, (set, (limit, (lent key, (lent nonce, tt))))) (answering answer rounds next)
  -- a start of sets 3 and 4 leaves no other words than the second program's
  pub start_three : (d : Direction) (answer : Answer) (rounds : ℕ) (next : Stream)
      → (next.words ≡ started_three → ⊥)
      → Never stream.Stream.start.Reads.Learnt (d, (3, (200, (lent counting, (lent counting_on, tt))))) (answering answer rounds next)
  pub start_four : (d : Direction) (answer : Answer) (rounds : ℕ) (next : Stream)
      → (next.words ≡ started_four → ⊥)
      → Never stream.Stream.start.Reads.Learnt (d, (4, (200, (lent counting, (lent counting_on, tt))))) (answering answer rounds next)
  -- a refused start gives the ended state, and no open stream, nor one that has a limit
  pub start_refused : (d : Direction) (set limit : ℕ) (key nonce : List ℕ) → NoSet set → (answer : Answer) (rounds : ℕ) (next : Stream) → (next ≡ ended → ⊥)
      → Never stream.Stream.start.Reads.Learnt (d, (set, (limit, (lent key, (lent nonce, tt))))) (answering answer rounds next)
  pub start_refused_limit : (d : Direction) (answer : Answer) (rounds : ℕ) (next : Stream) → (next ≡ ended → ⊥)
      → Never stream.Stream.start.Reads.Learnt (start_args d 1_048_577 16 16) (answering answer rounds next)
  -- a limit over the largest is not cut down to it, or to its low bits, or taken as none: it is refused with 5, whatever number it is
  pub start_limit_cut : (d : Direction) (limit : ℕ) → 1_048_576 < limit → (answer : Answer) (rounds : ℕ) (next : Stream) → (answer ≡ PastLimit → ⊥)
      → Never stream.Stream.start.Reads.Learnt (start_args d limit 16 16) (answering answer rounds next)
  -- the largest limit is not refused, nor is a limit of nought
  pub start_largest : (d : Direction) (answer : Answer) (rounds : ℕ) (next : Stream) → (answer ≡ Done → ⊥)
      → Never stream.Stream.start.Reads.Learnt (start_args d 1_048_576 16 16) (answering answer rounds next)
  pub start_nought : (d : Direction) (answer : Answer) (rounds : ℕ) (next : Stream) → (answer ≡ Done → ⊥)
      → Never stream.Stream.start.Reads.Learnt (start_args d 0 16 16) (answering answer rounds next)
  -- a start keeps its limit, whatever number it is
  pub start_limit_kept : (d : Direction) (limit : ℕ) → limit ≤ 1_048_576 → (answer : Answer) (rounds : ℕ) (next : Stream) → (next.limit ≡ limit → ⊥)
      → Never stream.Stream.start.Reads.Learnt (start_args d limit 16 16) (answering answer rounds next)
  -- ---- states

  -- a state of a set that there is not is broken, whatever else it is, for every call
  pub ad_set : (s : Stream) (piece : List ℕ) → NoSet s.set → (answer : Answer) (rounds : ℕ) (next : Stream) → (answer ≡ BrokenState → ⊥)
      → Never stream.Stream.ad.Reads.Learnt (s, (lent piece, tt)) (answering answer rounds next)
  pub text_set : (d : Direction) (s : Stream) (piece out : List ℕ) → NoSet s.set → TextOnly d s piece out (λ o. o.answer ≡ BrokenState)
  pub finish_set : (d : Direction) (s : Stream) (tag : List ℕ) → NoSet s.set → FinishOnly d s tag (λ o. o.answer ≡ BrokenState)
  -- an open state of set 2 with any byte behind the twelfth of its key is broken, whatever else it is, for every call
  pub ad_key_tail : (s : Stream) (piece : List ℕ) → Tailed s → (answer : Answer) (rounds : ℕ) (next : Stream) → (answer ≡ BrokenState → ⊥)
      → Never stream.Stream.ad.Reads.Learnt (s, (lent piece, tt)) (answering answer rounds next)
  pub text_key_tail : (d : Direction) (s : Stream) (piece out : List ℕ) → Tailed s → TextOnly d s piece out (λ o. o.answer ≡ BrokenState)
  pub finish_key_tail : (d : Direction) (s : Stream) (tag : List ℕ) → Tailed s → FinishOnly d s tag (λ o. o.answer ≡ BrokenState)
  -- and no other set has such a rule: at the start of its data, its keys of 16 bytes may have any bytes. Pieces are done; a finish is refused for its tag of 15 bytes, and not for its state
  pub ad_key : (set : ℕ) → LongKeyed set → (d : Direction) (key : List ℕ) → length key ≡ 16 → (answer : Answer) (rounds : ℕ) (next : Stream) → (answer ≡ Done → ⊥)
      → Never stream.Stream.ad.Reads.Learnt (handed (begun_in set d key) 0) (answering answer rounds next)
  pub text_key : (set : ℕ) → LongKeyed set → (d : Direction) (key : List ℕ) → length key ≡ 16 → TextOnly d (begun_in set d key) [] [] (λ o. o.answer ≡ Done)
  pub finish_key : (set : ℕ) → LongKeyed set → (d : Direction) (key : List ℕ) → length key ≡ 16 → FinishOnly d (begun_in set d key) (zeros 15) (λ o. o.answer ≡ TagLength)
  -- the ended state says sealing: one that says checking or opening is broken, whatever else it is, for every call
  pub ad_ended_else : (s : Stream) (piece : List ℕ) → EndedElse s → (answer : Answer) (rounds : ℕ) (next : Stream) → (answer ≡ BrokenState → ⊥)
      → Never stream.Stream.ad.Reads.Learnt (s, (lent piece, tt)) (answering answer rounds next)
  pub text_ended_else : (d : Direction) (s : Stream) (piece out : List ℕ) → EndedElse s → TextOnly d s piece out (λ o. o.answer ≡ BrokenState)
  pub finish_ended_else : (d : Direction) (s : Stream) (tag : List ℕ) → EndedElse s → FinishOnly d s tag (λ o. o.answer ≡ BrokenState)
  -- no call takes a stream of another direction: where its state breaks no rule, 7, whatever it is handed, and the stream stays as it is
  pub text_other : (d : Direction) (s : Stream) (piece out : List ℕ) → is_sound s ≡ true → (s.direction ≡ d → ⊥) → TextOnly d s piece out (λ o. o ≡ answering OutOfPhase 0 s)
  pub finish_other : (d : Direction) (s : Stream) (tag : List ℕ) → is_sound s ≡ true → (s.direction ≡ d → ⊥) → FinishOnly d s tag (λ o. o ≡ answering OutOfPhase 0 s)
  -- ---- a piece of data

  -- behind nine bytes the place of set 4 is 9, in a block of 16, and not 1; that of set 3 is 1
  pub ad_place_four : (answer : Answer) (rounds : ℕ) (next : Stream) → (answer ≡ Done → ⊥) → Never stream.Stream.ad.Reads.Learnt (handed (nine_in 4 Sealing 9) 0) (answering answer rounds next)
  pub ad_place_eight : (answer : Answer) (rounds : ℕ) (next : Stream) → (answer ≡ BrokenState → ⊥) → Never stream.Stream.ad.Reads.Learnt (handed (nine_in 4 Sealing 1) 0) (answering answer rounds next)
  pub ad_place_three : (answer : Answer) (rounds : ℕ) (next : Stream) → (answer ≡ Done → ⊥) → Never stream.Stream.ad.Reads.Learnt (handed (nine_in 3 Sealing 1) 0) (answering answer rounds next)
  -- a state in the phase ended that has a place is broken: 8 and not 7; and so is one that has a limit
  pub ad_broken_ended : (answer : Answer) (rounds : ℕ) (next : Stream) → (answer ≡ BrokenState → ⊥)
      → Never stream.Stream.ad.Reads.Learnt (handed (stream_of (zeros 5) Sealing Ended 0 0 1 0) 0) (answering answer rounds next)
  pub ad_ended_limit : (answer : Answer) (rounds : ℕ) (next : Stream) → (answer ≡ BrokenState → ⊥)
      → Never stream.Stream.ad.Reads.Learnt (handed (stream_of (zeros 5) Sealing Ended 0 0 0 200) 0) (answering answer rounds next)
  -- a limit over the largest breaks a rule before the text, too
  pub ad_limit_wide : (limit : ℕ) → 1_048_576 < limit → (answer : Answer) (rounds : ℕ) (next : Stream) → (answer ≡ BrokenState → ⊥)
      → Never stream.Stream.ad.Reads.Learnt (handed (stream_of (zeros 5) Sealing Ad 0 0 0 limit) 0) (answering answer rounds next)
  -- data is held to its own limit, and not to that of the text: a limit of nought takes 65,536 bytes of it, and the largest no more
  pub ad_unheld : (answer : Answer) (rounds : ℕ) (next : Stream) → (answer ≡ Done → ⊥)
      → Never stream.Stream.ad.Reads.Learnt (handed (stream_of (zeros 5) Sealing Ad 65_535 0 7 0) 1) (answering answer rounds next)
  pub ad_past : (answer : Answer) (rounds : ℕ) (next : Stream) → (answer ≡ PastLimit → ⊥)
      → Never stream.Stream.ad.Reads.Learnt (handed (stream_of (zeros 5) Sealing Ad 65_536 0 0 1_048_576) 1) (answering answer rounds next)
  -- a piece of data does not change the limit
  pub ad_limit_kept : (answer : Answer) (rounds : ℕ) (next : Stream) → (next.limit ≡ 77 → ⊥)
      → Never stream.Stream.ad.Reads.Learnt (handed (stream_of (zeros 5) Checking Ad 0 0 0 77) 1) (answering answer rounds next)
  -- ---- a piece of text, in every direction

  -- a call that is refused, for want of room or past the limit, does not close the data
  pub text_closes : (d : Direction) → gives_text d ≡ true
      → TextOnly d (stream_of (zeros 5) d Ad 0 0 0 200) (0 ∷ []) [] (λ o. o ≡ answering NoRoom 0 (stream_of (zeros 5) d Ad 0 0 0 200))
  pub text_past_closes : (d : Direction)
      → TextOnly d (stream_of (zeros 5) d Ad 0 0 0 0) (0 ∷ []) (0 ∷ []) (λ o. o ≡ answering PastLimit 0 (stream_of (zeros 5) d Ad 0 0 0 0))
  -- answer 5 comes before answer 6
  pub text_room : (d : Direction) → TextOnly d (inside_text d 200 200) (0 ∷ []) [] (λ o. o.answer ≡ PastLimit)
  -- the limit is the stream's own, and that of the whole text, not of a piece: behind 200 bytes of 200 a byte more is refused with 5
  pub text_own : (d : Direction) → TextOnly d (inside_text d 200 200) (0 ∷ []) (0 ∷ []) (λ o. o.answer ≡ PastLimit)
  -- a piece that reaches it has not passed it, nor has one that reaches the largest
  pub text_reaches : (d : Direction) → TextOnly d (inside_text d 199 200) (0 ∷ []) (0 ∷ []) (λ o. o.answer ≡ Done)
  pub text_reaches_largest : (d : Direction) → TextOnly d (inside_text d 1_048_575 1_048_576) (0 ∷ []) (0 ∷ []) (λ o. o.answer ≡ Done)
  -- an empty piece is taken at the limit, also where that is nought, and needs no room
  pub text_at : (d : Direction) → TextOnly d (inside_text d 200 200) [] [] (λ o. o.answer ≡ Done)
  pub text_nought : (d : Direction) → TextOnly d (stream_of (zeros 5) d Ad 0 0 0 0) [] [] (λ o. o.answer ≡ Done)
  -- no sum wraps round: behind a byte of text, a piece of 200 bytes or more passes a limit of 200, however long it is
  pub text_wraps : (d : Direction) (piece out : List ℕ) → 200 ≤ length piece → TextOnly d (inside_text d 1 200) piece out (λ o. o.answer ≡ PastLimit)
  -- a refused piece does not change the limit, nor does the first piece of text
  pub text_resets : (d : Direction) → TextOnly d (inside_text d 76 77) (zeros 2) (zeros 2) (λ o. o.next.limit ≡ 77)
  pub text_first : (d : Direction) → TextOnly d (stream_of (zeros 5) d Ad 0 0 0 77) (0 ∷ []) (0 ∷ []) (λ o. o.next.limit ≡ 77)
  -- a count of text past the stream's limit breaks a rule, and so does any limit over the largest: 8 and nothing else
  pub text_past : (d : Direction) → TextOnly d (inside_text d 201 200) [] [] (λ o. o.answer ≡ BrokenState)
  pub text_wide : (d : Direction) (limit : ℕ) → 1_048_576 < limit → TextOnly d (inside_text d 0 limit) [] [] (λ o. o.answer ≡ BrokenState)
  -- a stream that is given ciphertext keeps that, and not the plaintext, in its front, inside a block and behind one, and keeps nothing more; a sealing keeps the
  -- ciphertext that it gives
  pub text_front : (d : Direction) → gives_tag d ≡ false
      → TextOnly d (fronted d) three_bytes (zeros 3) (λ o. o.next ≡ stream_of (0x1112130405060708 ∷ zeros 4) d Text 0 3 3 200)
  pub text_front_block : (d : Direction) → gives_tag d ≡ false → TextOnly d (fronted d) nine_bytes (zeros 9) (λ o. o.next ≡ stream_of nine_fronted d Text 0 9 1 200)
  pub sealed_front : TextOnly Sealing (fronted Sealing) three_bytes (zeros 3) (λ o. o.next ≡ stream_of (0x1010100405060708 ∷ zeros 4) Sealing Text 0 3 3 200)
  -- an opening hands out a piece's plaintext at once, and nothing else, and touches no byte behind it
  pub open_hands_out : (o : Outcome) (left : List ℕ) → (left ≡ 0x10 ∷ 0x10 ∷ 0x10 ∷ 7 ∷ 8 ∷ [] → ⊥)
      → NeverLeaves stream.Stream.«open».Reads.Learnt (fronted Opening, (lent three_bytes, (lent_mut (4 ∷ 5 ∷ 6 ∷ 7 ∷ 8 ∷ []), tt))) o
      (fronted Opening, (lent three_bytes, (lent_mut left, tt)))
  -- an empty piece that closes a byte of data reports the rounds of closing
  pub text_closing : (d : Direction) → TextOnly d (stream_of (zeros 5) d Ad 1 0 1 200) [] [] (λ o. o.rounds ≡ 6)
  -- those are 6 in set 3, and 8 in set 4
  pub text_closing_three : (d : Direction) → TextOnly d (nine_in 3 d 1) [] [] (λ o. o.rounds ≡ 6)
  pub text_closing_four : (d : Direction) → TextOnly d (nine_in 4 d 9) [] [] (λ o. o.rounds ≡ 8)
  -- nine bytes of text go through a full block in set 3, run with the last constants, and not in set 4: the words behind them are the second program's
  pub text_three : TextOnly Sealing (text_in 3 Sealing 0 0) (replicate 9 1) (zeros 9) (λ o. o.next.words ≡ nine_three)
  pub text_four : (d : Direction) → TextOnly d (text_in 4 d 0 0) (replicate 9 1) (zeros 9) (λ o. o.next.words ≡ 0x0101010101010101 ∷ 0x0100000000000000 ∷ zeros 3)
  -- a refused piece of text does not touch what it is lent
  pub text_refused : NeverLeaves stream.Stream.seal.Reads.Learnt (ended, (lent [], (lent_mut (0 ∷ []), tt))) (answering OutOfPhase 0 ended) (ended, (lent [], (lent_mut (1 ∷ []), tt)))
  pub open_piece_refused : NeverLeaves stream.Stream.«open».Reads.Learnt (ended, (lent [], (lent_mut (0 ∷ []), tt))) (answering OutOfPhase 0 ended) (ended, (lent [], (lent_mut (1 ∷ []), tt)))
  -- ---- the end

  -- the ended state is not open, nor of another set than 1, nor says it another direction than sealing, nor has it a limit
  pub ended_open : (next : Stream) → is_open next.phase ≡ true → Never stream.Stream.ended.Reads.Learnt tt next
  pub ended_set : (next : Stream) → (next.set ≡ 1 → ⊥) → Never stream.Stream.ended.Reads.Learnt tt next
  pub ended_direction : (next : Stream) → (next.direction ≡ Sealing → ⊥) → Never stream.Stream.ended.Reads.Learnt tt next
  pub ended_limit : (next : Stream) → (next.limit ≡ 0 → ⊥) → Never stream.Stream.ended.Reads.Learnt tt next
  -- it is not broken: 7 and not 8, and before 4
  pub text_ended : (d : Direction) (piece out : List ℕ) → TextOnly d ended piece out (λ o. o.answer ≡ OutOfPhase)
  pub finish_ended : (d : Direction) (tag : List ℕ) → FinishOnly d ended tag (λ o. o.answer ≡ OutOfPhase)
  -- no finish leaves the limit, whether the tag is right or differs
  pub finish_limit : (d : Direction) (tag : List ℕ) → length tag ≡ 16 → FinishOnly d (inside_text d 0 200) tag (λ o. o.next.limit ≡ 0)
  -- a finish, which tests no length of text, tests the state all the same: a count past the limit, and any limit over the largest
  pub finish_past : (d : Direction) → FinishOnly d (inside_text d 201 200) (zeros 16) (λ o. o.answer ≡ BrokenState)
  pub finish_wide : (d : Direction) (limit : ℕ) → 1_048_576 < limit → FinishOnly d (inside_text d 0 limit) (zeros 16) (λ o. o.answer ≡ BrokenState)
  -- a finish that compares takes no tag but one, to its last byte: to any other it says 9, with its rounds, and the stream is ended
  pub finish_other_tag : (d : Direction) → gives_tag d ≡ false → (tag : List ℕ) → length tag ≡ 16 → (tag ≡ zeros_tag → ⊥)
      → FinishOnly d (inside_text d 0 200) tag (λ o. o ≡ answering TagDiffers 12 ended)
  pub finish_right_tag : (d : Direction) → gives_tag d ≡ false → FinishOnly d (inside_text d 0 200) zeros_tag (λ o. o ≡ answering Done 12 ended)
  -- a finish that closes a byte of data reports those rounds too, yes or no, and ends the stream
  pub finish_closing : (d : Direction) (tag : List ℕ) → length tag ≡ 16 → FinishOnly d (stream_of (zeros 5) d Ad 1 0 1 200) tag (λ o. (o.rounds ≡ 18) × (o.next ≡ ended))
  -- behind nine bytes the tag of set 4 is the second program's, and no other; where one is compared it is the right one
  pub finish_tag_four : (o : Outcome) (tag : List ℕ) → (tag ≡ nine_tag → ⊥)
      → NeverLeaves stream.Stream.finish_sealing.Reads.Learnt (text_in 4 Sealing 9 9, (lent_mut (zeros 16), tt)) o (text_in 4 Sealing 9 9, (lent_mut tag, tt))
  pub finish_yes_four : (d : Direction) → gives_tag d ≡ false → FinishOnly d (text_in 4 d 9 9) nine_tag (λ o. o.answer ≡ Done)
