-- What a refused opening gives away, in every set: two openings, or two finishes, that are answered 9 report the same rounds and leave the same bytes, or the same
-- state; and no ciphertext and tag open to two plaintexts.
use Rattle.std.specs.Prelude.{List, ◌≡◌, ℕ, ◌+◌, ◌%◌, length, take}
use Rattle.std.proofs.Math.Option.{some}
use Rattle.answers.specs.declared.Answer.TheVariants.{Done, TagDiffers}
use Rattle.ascon.specs.Sets.{row_of}
use Rattle.ascon.specs.Mode.{sealed, opened}
use Rattle.message.specs.Message.{OpenLeaves}
use Rattle.stream.specs.declared.Direction.{Direction}
use Rattle.stream.specs.declared.Direction.TheVariants.{Opening}
use Rattle.stream.specs.declared.Stream.{Stream}
use Rattle.stream.specs.Calls.{Start}
use Rattle.history.specs.History.{Call, begun, after}
use Rattle.history.specs.Cuts.{Message}
use Rattle.gateway.specs.Spelling.{state_in}
use Rattle.letter.specs.Messages as messages
use Rattle.letter.specs.Model.{Model}

-- ---- two openings

-- what an opening is handed, beside its set and the place for the plaintext
pub record Handed : Type 0 where
  pub key : List ℕ
  pub nonce : List ℕ
  pub ad : List ℕ
  pub cipher : List ℕ
  pub tag : List ℕ

-- two of the same lengths, whatever their contents
pub record SameLengths (one other : Handed) : Type 0 where
  pub key : length one.key ≡ length other.key
  pub nonce : length one.nonce ≡ length other.nonce
  pub ad : length one.ad ≡ length other.ad
  pub cipher : length one.cipher ≡ length other.cipher
  pub tag : length one.tag ≡ length other.tag

-- what a model answers and leaves when it opens these, in a set, into a place that held `out`
abbrev pub unsealed : messages.Model → ℕ → Handed → List ℕ → OpenLeaves
unsealed m set x out = m.unseal set x.key x.nonce x.ad x.cipher x.tag out

-- the same through the C boundary
abbrev pub unsealed_word : messages.Model → ℕ → Handed → List ℕ → messages.OpenWord
unsealed_word m set x out = m.open_word set x.key x.nonce x.ad x.cipher x.tag out

-- two streams of one set, in the same phase and with the same count of data; nothing else is supposed of them
pub record SameData (one other : Stream) : Type 0 where
  pub set : one.set ≡ other.set
  pub phase : one.phase ≡ other.phase
  pub ad : one.ad ≡ other.ad

pub record NinesAlike (m : Model) : Type 0 where
  -- two openings of one set, with the same lengths and the same output before: answered 9, they report the same rounds and leave the same output
  pub opening : (set : ℕ) (one other : Handed) (out : List ℕ) → SameLengths one other → let x = unsealed m.messages set one out in
      let y = unsealed m.messages set other out in
      x.outcome.answer ≡ TagDiffers → y.outcome.answer ≡ TagDiffers → (x.outcome.rounds ≡ y.outcome.rounds) × (x.out ≡ y.out)
  -- behind it: where neither is done, they are the same in answer, rounds and output; that 1 to 6 depend on the set and the lengths alone is in `Listed`
  pub undone : (set : ℕ) (one other : Handed) (out : List ℕ) → SameLengths one other → let x = unsealed m.messages set one out in
      let y = unsealed m.messages set other out in
      (x.outcome.answer ≡ Done → ⊥) → (y.outcome.answer ≡ Done → ⊥) → x ≡ y
  -- through the C boundary, where the answer is the remainder of the number by 16: answered 9, they return the same number and leave the same output
  pub boundary : (set : ℕ) (one other : Handed) (out : List ℕ) → SameLengths one other → let x = unsealed_word m.messages set one out in
      let y = unsealed_word m.messages set other out in
      x.word % 16 ≡ 9 → y.word % 16 ≡ 9 → (x.word ≡ y.word) × (x.out ≡ y.out)
  -- and so where neither is done
  pub boundary_undone : (set : ℕ) (one other : Handed) (out : List ℕ) → SameLengths one other → let x = unsealed_word m.messages set one out in
      let y = unsealed_word m.messages set other out in
      (x.word % 16 ≡ 0 → ⊥) → (y.word % 16 ≡ 0 → ⊥) → x ≡ y
  -- two finishes, of checking or opening streams, with any tags, which they leave as they were (`Reported`): answered 9, they report the same rounds and end in the same
  -- state; what an opening stream handed out before is not meant, and is the decryption of what came (`OpenedWhole`, `unverified`)
  pub finish : (d d' : Direction) (one other : Stream) (tag tag' : List ℕ) → SameData one other → let x = (m.streams.finish d one tag).outcome in
      let y = (m.streams.finish d' other tag').outcome in
      x.answer ≡ TagDiffers → y.answer ≡ TagDiffers → (x.rounds ≡ y.rounds) × (x.next ≡ y.next)
  -- through the C boundary, in any two areas that spell such streams: answered 9, they return the same number and leave the same bytes in the area
  pub area_finish : (d d' : Direction) (area area' tag tag' : List ℕ) → SameData (state_in area) (state_in area') → let x = m.areas.finish d area tag in
      let y = m.areas.finish d' area' tag' in
      x.word % 16 ≡ 9 → y.word % 16 ≡ 9 → (x.word ≡ y.word) × (x.area ≡ y.area)
  -- two messages of one set, with data and text of the same lengths, however each was cut: their finishes answered 9, the rounds of all calls add up to the same, and they
  -- end in the same state
  pub walk : (start start' : Start) (A A' C C' : List ℕ) (calls calls' : List Call) (tag tag' : List ℕ)
      → start.set ≡ start'.set → length A ≡ length A' → length C ≡ length C'
      → Message m.streams start A C calls → Message m.streams start' A' C' calls' → let h = after m.streams (begun m.streams start) calls in
      let k = after m.streams (begun m.streams start') calls' in
      let x = (m.streams.finish start.direction h.stream tag).outcome in
      let y = (m.streams.finish start'.direction k.stream tag').outcome in
      x.answer ≡ TagDiffers → y.answer ≡ TagDiffers → (h.rounds + x.rounds ≡ k.rounds + y.rounds) × (x.next ≡ y.next)

-- ---- one plaintext, under one set, key, nonce and data

-- of the published definitions
pub record OnePlaintext : Type 0 where
  -- a ciphertext is the sealing of one text at most, with one tag; the key has the set's length, as in every call that is done
  pub sealing : (set : ℕ) (K N A C T T' P P' : List ℕ) → length K ≡ (row_of set).key
      → sealed (row_of set) K N A P ≡ record { cipher = C; tag = T } → sealed (row_of set) K N A P' ≡ record { cipher = C; tag = T' } → (P ≡ P') × (T ≡ T')
  -- and opens to one text at most, with one tag
  pub opening : (set : ℕ) (K N A C T T' P P' : List ℕ)
      → opened (row_of set) K N A C T ≡ some P → opened (row_of set) K N A C T' ≡ some P' → (P ≡ P') × (T ≡ T')

-- of the calls, whatever room and limits they have
pub record OpensOnce (m : Model) : Type 0 where
  -- the opening of a whole message
  pub opening : (set : ℕ) (K N A C T T' out out' : List ℕ) → let x = m.messages.unseal set K N A C T out in
      let y = m.messages.unseal set K N A C T' out' in
      x.outcome.answer ≡ Done → y.outcome.answer ≡ Done → (take (length C) x.out ≡ take (length C) y.out) × (T ≡ T')
  -- through the C boundary
  pub boundary : (set : ℕ) (K N A C T T' out out' : List ℕ) → let x = m.messages.open_word set K N A C T out in
      let y = m.messages.open_word set K N A C T' out' in
      x.word % 16 ≡ 0 → y.word % 16 ≡ 0 → (take (length C) x.out ≡ take (length C) y.out) × (T ≡ T')
  -- opening streams, however the message was cut
  pub stream : (set limit limit' : ℕ) (K N A C T T' : List ℕ) (calls calls' : List Call)
      → let start : Start = record { direction = Opening; set = set; limit = limit; key = K; nonce = N } in
      let start' : Start = record { direction = Opening; set = set; limit = limit'; key = K; nonce = N } in
      Message m.streams start A C calls → Message m.streams start' A C calls' → let h = after m.streams (begun m.streams start) calls in
      let k = after m.streams (begun m.streams start') calls' in
      (m.streams.finish Opening h.stream T).outcome.answer ≡ Done → (m.streams.finish Opening k.stream T').outcome.answer ≡ Done
      → (h.out ≡ k.out) × (T ≡ T')
