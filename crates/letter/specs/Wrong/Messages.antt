-- Wrong answers of the calls of whole messages.
use Rattle.std.specs.Prelude.{List, [], ◌∷◌, ◌≡◌, ℕ, length}
use Rattle.answers.specs.declared.Answer.TheVariants.{Done, UnknownSet, NonceLength, PastLimit, NoRoom, TagDiffers}
use Rattle.permutation.specs.Strings.{bytes_of, zeros}
use Rattle.ascon.specs.Known.{counting, counting_on, long_data, long_text, long_sealed}
use Rattle.sets.proofs as sets
use Rattle.message.specs.declared.Outcome.{Outcome}
use Rattle.message.proofs as message
use Rattle.gateway.proofs as gateway
use Rattle.letter.specs.Calls.{Lent, LentMut, lent, lent_mut, Never, Only, NeverLeaves, NoSet}

-- a set, key, nonce, data, text, and the two places that follow, as a sealing hands them over
abbrev pub whole : ℕ → List ℕ → List ℕ → List ℕ → List ℕ → List ℕ → List ℕ → ℕ × (Lent × (Lent × (Lent × (Lent × (LentMut × (LentMut × Unit {0}))))))
whole set K N A P out tag = (set, (lent K, (lent N, (lent A, (lent P, (lent_mut out, (lent_mut tag, tt)))))))

-- a set, key, nonce, data, ciphertext and tag, and the place that follows, as an opening hands them over
abbrev pub whole_open : ℕ → List ℕ → List ℕ → List ℕ → List ℕ → List ℕ → List ℕ → ℕ × (Lent × (Lent × (Lent × (Lent × (Lent × (LentMut × Unit {0}))))))
whole_open set K N A C tag out = (set, (lent K, (lent N, (lent A, (lent C, (lent tag, (lent_mut out, tt)))))))

-- in places of zeros a sealing leaves nothing but this ciphertext and this tag
abbrev pub SealsOnly : ℕ → List ℕ → List ℕ → List ℕ → List ℕ → List ℕ → List ℕ → Type 0
SealsOnly set K N A P cipher tag =
    (o : Outcome) (out left : List ℕ) → ((out ≡ cipher) × (left ≡ tag) → ⊥)
    → NeverLeaves message.seal.Reads.Learnt (whole set K N A P (zeros (length cipher)) (zeros (length tag))) o (whole set K N A P out left)

-- through the C boundary an opening returns nothing but this number, and leaves nothing but this
abbrev pub OpensOnly : ℕ → List ℕ → List ℕ → List ℕ → List ℕ → List ℕ → List ℕ → ℕ → List ℕ → Type 0
OpensOnly set K N A C tag out number left =
    (n : ℕ) (x : List ℕ) → ((n ≡ number) × (x ≡ left) → ⊥) → NeverLeaves gateway.kvistmaur_open.Reads.Learnt (whole_open set K N A C tag out) n (whole_open set K N A C tag x)

-- one byte of ciphertext, with key, nonce and tag of zeros: 393, which is 16 × 24 + 9; the byte of plaintext is cleared, and the one behind it stays
abbrev pub NineTo : ℕ → ℕ → Type 0
NineTo set size = OpensOnly set (zeros size) (zeros size) [] (0 ∷ []) (zeros size) (0xff ∷ 0xff ∷ []) 393 (0 ∷ 0xff ∷ [])

pub record Wrong : Type 0 where
  -- answer 1 comes before all others, for every number that no set has, whatever else is handed over
  pub start_test_set : (set key nonce : ℕ) → NoSet set → Only sets.start_test.Reads.Learnt (set, (key, (nonce, tt))) UnknownSet
  pub seal_set : (set : ℕ) (K N A P out tag : List ℕ) → NoSet set → (o : Outcome) → (o.answer ≡ UnknownSet → ⊥) → Never message.seal.Reads.Learnt (whole set K N A P out tag) o
  pub open_set : (set : ℕ) (K N A C tag out : List ℕ) → NoSet set → (o : Outcome) → (o.answer ≡ UnknownSet → ⊥) → Never message.«open».Reads.Learnt (whole_open set K N A C tag out) o
  -- answer 2 comes before answer 3
  pub start_test_key : Never sets.start_test.Reads.Learnt (1, (15, (15, tt))) NonceLength
  -- the last constants are not those of set 1: the tag of a byte of data is the second program's
  pub seal_one : SealsOnly 1 counting counting (0 ∷ []) [] [] (bytes_of 16 0x5dd84f90ccea687574726a84d48eced0)
  -- nor the first ones those of set 3: the tag of a byte of data is the published one
  pub seal_three : SealsOnly 3 counting counting (0 ∷ []) [] [] (bytes_of 16 0x944df887cd4901614c5dedbc42fc0da0)
  -- in set 4 key, nonce, blocks and constants are where they belong: ciphertext and tag of 17 bytes of data and of text are the second program's
  pub seal_four : SealsOnly 4 counting counting_on long_data long_text long_sealed.cipher long_sealed.tag
  -- opening says done to the published ciphertext of a byte in set 3, and to the second program's of 17 bytes in set 4
  pub open_three : (o : Outcome) → (o.answer ≡ Done → ⊥)
      → Never message.«open».Reads.Learnt (whole_open 3 counting counting [] (0xbc ∷ []) (bytes_of 16 0x18c3f4e39eca7222490d967c79bffc92) (0 ∷ [])) o
  pub open_four : (o : Outcome) → (o.answer ≡ Done → ⊥)
      → Never message.«open».Reads.Learnt (whole_open 4 counting counting_on long_data long_sealed.cipher long_sealed.tag (zeros 17)) o
  -- a refused sealing does not touch the place of the ciphertext
  pub seal_refused : (set : ℕ) → NoSet set → (o : Outcome) → NeverLeaves message.seal.Reads.Learnt (whole set [] [] [] [] (0 ∷ []) []) o (whole set [] [] [] [] (1 ∷ []) [])
  -- a done sealing does not touch what lies beyond the text
  pub seal_beyond : NeverLeaves message.seal.Reads.Learnt (1, (lent (zeros 16), (lent (zeros 16), (lent [], (lent [], (lent_mut (0 ∷ []), (lent_mut (zeros 16), tt)))))))
      (record { answer = Done; rounds = 24 })
      (1, (lent (zeros 16), (lent (zeros 16), (lent [], (lent [], (lent_mut (1 ∷ []), (lent_mut (zeros 16), tt)))))))
  -- no rounds are run between the last block of text and the end: the tag is not of a state that six more have run on
  pub seal_run_after : NeverLeaves message.seal.Reads.Learnt (1, (lent (zeros 16), (lent (zeros 16), (lent [], (lent [], (lent_mut [], (lent_mut (zeros 16), tt)))))))
      (record { answer = Done; rounds = 24 })
      (1, (lent (zeros 16), (lent (zeros 16), (lent [], (lent [], (lent_mut [], (lent_mut (bytes_of 16 0xe6b2d7d5c3af6a8cd8b555b4822fa663), tt)))))))
  -- data of exactly the limit has not passed it
  pub seal_limit : Never message.seal.Reads.Learnt (1, (lent (zeros 16), (lent (zeros 16), (lent (zeros 65_536), (lent (0 ∷ []), (lent_mut [], (lent_mut (zeros 16), tt)))))))
      (record { answer = PastLimit; rounds = 0 })
  -- answer 5 comes before answer 6
  pub seal_room : Never message.seal.Reads.Learnt (1, (lent (zeros 16), (lent (zeros 16), (lent (zeros 65_537), (lent (0 ∷ []), (lent_mut [], (lent_mut (zeros 16), tt)))))))
      (record { answer = NoRoom; rounds = 0 })
  -- a place of 17 bytes is none for a tag of 16
  pub seal_tag_long : Never message.seal.Reads.Learnt (1, (lent (zeros 16), (lent (zeros 16), (lent [], (lent [], (lent_mut [], (lent_mut (zeros 17), tt)))))))
      (record { answer = Done; rounds = 24 })
  -- opening keeps the ciphertext, and not the plaintext: the published sealing of a zero under zeros is opened
  pub open_plaintext : Never message.«open».Reads.Learnt (1, (lent (zeros 16), (lent (zeros 16), (lent [], (lent (0x27 ∷ []), (lent (bytes_of 16 0xb24219fba5df2248f671bae9f27f6dcc), (lent_mut (0 ∷ []), tt)))))))
      (record { answer = TagDiffers; rounds = 24 })
  -- where the tag differs, the first byte of the plaintext is cleared, too
  pub open_first_byte : NeverLeaves message.«open».Reads.Learnt (1, (lent (zeros 16), (lent (zeros 16), (lent [], (lent (0 ∷ []), (lent (zeros 16), (lent_mut (0 ∷ []), tt)))))))
      (record { answer = TagDiffers; rounds = 24 })
      (1, (lent (zeros 16), (lent (zeros 16), (lent [], (lent (0 ∷ []), (lent (zeros 16), (lent_mut (0x27 ∷ []), tt)))))))
  -- a refused opening does not touch the place of the plaintext
  pub open_refused : (set : ℕ) → NoSet set → (o : Outcome) → NeverLeaves message.«open».Reads.Learnt (whole_open set [] [] [] [] [] (0 ∷ [])) o (whole_open set [] [] [] [] [] (1 ∷ []))
  -- an unknown set is the word 1, and no other
  pub kvistmaur_seal_set : (set : ℕ) (K N A P out tag : List ℕ) → NoSet set → Only gateway.kvistmaur_seal.Reads.Learnt (whole set K N A P out tag) 1
  pub kvistmaur_open_set : (set : ℕ) (K N A C tag out : List ℕ) → NoSet set → Only gateway.kvistmaur_open.Reads.Learnt (whole_open set K N A C tag out) 1
  -- the message of nothing in sets 3 and 4, with its published tag, is the word of 24 rounds and done
  pub kvistmaur_seal_four : Only gateway.kvistmaur_seal.Reads.Learnt (whole 4 counting counting [] [] [] (zeros 16)) 384
  pub kvistmaur_open_three : Only gateway.kvistmaur_open.Reads.Learnt (whole_open 3 counting counting [] [] (bytes_of 16 0xe355159f292911f794cb1432a0103a8a) []) 384
  pub kvistmaur_open_four : Only gateway.kvistmaur_open.Reads.Learnt (whole_open 4 counting counting [] [] (bytes_of 16 0x7a834e6f09210957067b10fd831f0078) []) 384
  -- a wrong tag, in each set: the number of 24 rounds and 9, and the byte is cleared
  pub kvistmaur_open_nine : NineTo 1 16 × NineTo 2 12 × NineTo 3 16 × NineTo 4 16
  -- a key of 15 with a wrong nonce is the word 2, and not 3
  pub kvistmaur_open_key : Never gateway.kvistmaur_open.Reads.Learnt (1, (lent (zeros 15), (lent [], (lent [], (lent [], (lent [], (lent_mut [], tt))))))) 3
