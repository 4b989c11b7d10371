-- Whole messages and their C boundary: all that is said of their calls.
use Rattle.std.specs.Prelude.{◌≡◌, List, ◌++◌, ℕ, ◌+◌, ◌*◌, length, drop}
use Rattle.answers.specs.declared.Answer.{Answer}
use Rattle.answers.specs.declared.Answer.TheVariants.{Done, TagDiffers}
use Rattle.answers.specs.Numbers.{number_of}
use Rattle.answers.specs.Order.{first}
use Rattle.ascon.specs.Sets.{row_of}
use Rattle.permutation.specs.Strings.{zeros}
use Rattle.ascon.specs.Mode.{opened}
use Rattle.ascon.specs.Rounds.{message_rounds}
use Rattle.sets.specs.Start.{start_test, start_faults}
use Rattle.message.specs.Message.{seal_leaves, seal_call, open_leaves, open_call, SealLeaves, OpenLeaves, faults, open_faults}
use Rattle.gateway.specs.Word.{word_of}
use Rattle.sets.proofs as sets
use Rattle.message.proofs as message
use Rattle.gateway.proofs as gateway
use Rattle.letter.specs.Calls.{Answered, Lent, LentMut, holding, Leaves, Gives, Refused, Through}

-- a sealing through the C boundary: the word, and what the places of the ciphertext and of the tag then hold
pub record SealWord : Type 0 where
  pub word : ℕ
  pub out : List ℕ
  pub tag : List ℕ

-- from its parts
abbrev pub seal_word : ℕ → List ℕ → List ℕ → SealWord
seal_word word out tag = record { word = word; out = out; tag = tag }

-- what a sealing leaves
abbrev pub seal_word_call : ℕ → List ℕ → List ℕ → List ℕ → List ℕ → List ℕ → List ℕ → SealWord
seal_word_call set K N A P out tag = let leaves = seal_call set K N A P out tag in seal_word (word_of leaves.outcome) leaves.out leaves.tag

-- an opening through the C boundary: the word, and what the place of the plaintext then holds
pub record OpenWord : Type 0 where
  pub word : ℕ
  pub out : List ℕ

-- from its parts
abbrev pub open_word : ℕ → List ℕ → OpenWord
open_word word out = record { word = word; out = out }

-- what an opening leaves
abbrev pub open_word_call : ℕ → List ℕ → List ℕ → List ℕ → List ℕ → List ℕ → List ℕ → OpenWord
open_word_call set K N A C T out = let leaves = open_call set K N A C T out in open_word (word_of leaves.outcome) leaves.out

-- ---- the calls

-- what each answers, and what it leaves in each lent place, on any input; `unseal` is the opening; `start_test` is the tests that a message shares with a start
pub record Model : Type 0 where
  pub start_test : ℕ → ℕ → ℕ → Answer
  pub seal : ℕ → List ℕ → List ℕ → List ℕ → List ℕ → List ℕ → List ℕ → SealLeaves
  pub unseal : ℕ → List ℕ → List ℕ → List ℕ → List ℕ → List ℕ → List ℕ → OpenLeaves
  pub seal_word : ℕ → List ℕ → List ℕ → List ℕ → List ℕ → List ℕ → List ℕ → SealWord
  pub open_word : ℕ → List ℕ → List ℕ → List ℕ → List ℕ → List ℕ → List ℕ → OpenWord

-- our own, by the definitions that the contracts cite
abbrev pub ours : Model
ours = record { start_test = start_test; seal = seal_call; unseal = open_call; seal_word = seal_word_call; open_word = open_word_call }

-- each gives what the contract of the code allows
pub record Keeps (m : Model) : Type 0 where
  pub start_test : (set key nonce : ℕ) → Gives sets.start_test.Reads.Learnt (set, (key, (nonce, tt))) (m.start_test set key nonce)
  pub seal : (set : ℕ) (key nonce ad text : Lent) (out tag : LentMut) → let leaves = m.seal set key.now nonce.now ad.now text.now out.now tag.now in
      Leaves message.seal.Reads.Learnt (set, (key, (nonce, (ad, (text, (out, (tag, tt))))))) leaves.outcome
      (set, (key, (nonce, (ad, (text, (holding out leaves.out, (holding tag leaves.tag, tt)))))))
  pub unseal : (set : ℕ) (key nonce ad cipher tag : Lent) (out : LentMut) → let leaves = m.unseal set key.now nonce.now ad.now cipher.now tag.now out.now in
      Leaves message.«open».Reads.Learnt (set, (key, (nonce, (ad, (cipher, (tag, (out, tt))))))) leaves.outcome
      (set, (key, (nonce, (ad, (cipher, (tag, (holding out leaves.out, tt)))))))
  pub seal_word : (set : ℕ) (key nonce ad text : Lent) (out tag : LentMut) → let leaves = m.seal_word set key.now nonce.now ad.now text.now out.now tag.now in
      Leaves gateway.kvistmaur_seal.Reads.Learnt (set, (key, (nonce, (ad, (text, (out, (tag, tt))))))) leaves.word
      (set, (key, (nonce, (ad, (text, (holding out leaves.out, (holding tag leaves.tag, tt)))))))
  pub open_word : (set : ℕ) (key nonce ad cipher tag : Lent) (out : LentMut) → let leaves = m.open_word set key.now nonce.now ad.now cipher.now tag.now out.now in
      Leaves gateway.kvistmaur_open.Reads.Learnt (set, (key, (nonce, (ad, (cipher, (tag, (out, tt))))))) leaves.word
      (set, (key, (nonce, (ad, (cipher, (tag, (holding out leaves.out, tt)))))))

-- each public call, and its one outcome
pub record EveryCall : Type 2 where
  pub sets_start_test : Answered sets.start_test.Statement.statement sets.start_test.Reads.Asked sets.start_test.Reads.Learnt
      (λ r e. r) (λ (set, (key, (nonce, _))). start_test set key nonce)
  pub message_seal : Answered message.seal.Statement.statement message.seal.Reads.Asked message.seal.Reads.Learnt
      (λ r (set, (key, (nonce, (ad, (text, (out, (tag, _))))))). seal_leaves r out.now tag.now)
      (λ (set, (key, (nonce, (ad, (text, (out, (tag, _))))))). seal_call set key.now nonce.now ad.now text.now out.now tag.now)
  pub message_open : Answered message.«open».Statement.statement message.«open».Reads.Asked message.«open».Reads.Learnt
      (λ r (set, (key, (nonce, (ad, (cipher, (tag, (out, _))))))). open_leaves r out.now)
      (λ (set, (key, (nonce, (ad, (cipher, (tag, (out, _))))))). open_call set key.now nonce.now ad.now cipher.now tag.now out.now)
  pub gateway_kvistmaur_seal : Answered gateway.kvistmaur_seal.Statement.statement gateway.kvistmaur_seal.Reads.Asked gateway.kvistmaur_seal.Reads.Learnt
      (λ r (set, (key, (nonce, (ad, (text, (out, (tag, _))))))). seal_word r out.now tag.now)
      (λ (set, (key, (nonce, (ad, (text, (out, (tag, _))))))). seal_word_call set key.now nonce.now ad.now text.now out.now tag.now)
  pub gateway_kvistmaur_open : Answered gateway.kvistmaur_open.Statement.statement gateway.kvistmaur_open.Reads.Asked gateway.kvistmaur_open.Reads.Learnt
      (λ r (set, (key, (nonce, (ad, (cipher, (tag, (out, _))))))). open_word r out.now)
      (λ (set, (key, (nonce, (ad, (cipher, (tag, (out, _))))))). open_word_call set key.now nonce.now ad.now cipher.now tag.now out.now)

-- ---- what they answer

-- each answer is the first whose condition holds, and `Done` where none does; `number_of` gives its number
pub record Listed (m : Model) : Type 0 where
  pub start_test : (set key nonce : ℕ) → m.start_test set key nonce ≡ first Done (start_faults set key nonce)
  pub seal : (set : ℕ) (K N A P out tag : List ℕ)
      → (m.seal set K N A P out tag).outcome.answer
      ≡ first Done (faults set (length K) (length N) (length tag) (length A) (length P) (length out))
  pub unseal : (set : ℕ) (K N A C T out : List ℕ)
      → (m.unseal set K N A C T out).outcome.answer
      ≡ first Done
      (faults set (length K) (length N) (length T) (length A) (length C) (length out) ++ open_faults (opened (row_of set) K N A C T))
  -- through the C boundary, the same behind sixteen times the same rounds
  pub seal_word : (set : ℕ) (K N A P out tag : List ℕ)
      → (m.seal_word set K N A P out tag).word
      ≡ 16 * (m.seal set K N A P out tag).outcome.rounds + number_of (m.seal set K N A P out tag).outcome.answer
  pub open_word : (set : ℕ) (K N A C T out : List ℕ)
      → (m.open_word set K N A C T out).word
      ≡ 16 * (m.unseal set K N A C T out).outcome.rounds + number_of (m.unseal set K N A C T out).outcome.answer

-- ---- what they leave

-- a refusal changes no lent byte, and reports no round
pub record Unchanged (m : Model) : Type 0 where
  pub seal : (set : ℕ) (K N A P out tag : List ℕ) → let leaves = m.seal set K N A P out tag in
      Refused leaves.outcome.answer → (leaves.out ≡ out) × (leaves.tag ≡ tag) × (leaves.outcome.rounds ≡ 0)
  pub unseal : (set : ℕ) (K N A C T out : List ℕ) → let leaves = m.unseal set K N A C T out in
      Refused leaves.outcome.answer → (leaves.out ≡ out) × (leaves.outcome.rounds ≡ 0)
  pub seal_word : (set : ℕ) (K N A P out tag : List ℕ) → let leaves = m.seal_word set K N A P out tag in
      Refused (m.seal set K N A P out tag).outcome.answer → (leaves.out ≡ out) × (leaves.tag ≡ tag)
  pub open_word : (set : ℕ) (K N A C T out : List ℕ) → let leaves = m.open_word set K N A C T out in
      Refused (m.unseal set K N A C T out).outcome.answer → leaves.out ≡ out

-- on a tag mismatch the plaintext area is zero, and whatever lies beyond it stays
pub record Mismatch (m : Model) : Type 0 where
  pub unseal : (set : ℕ) (K N A C T out : List ℕ) → let leaves = m.unseal set K N A C T out in
      leaves.outcome.answer ≡ TagDiffers
      → (leaves.out ≡ zeros (length C) ++ drop (length C) out) × (leaves.outcome.rounds ≡ message_rounds (row_of set) (length A) (length C))
  pub open_word : (set : ℕ) (K N A C T out : List ℕ)
      → (m.unseal set K N A C T out).outcome.answer ≡ TagDiffers → (m.open_word set K N A C T out).out ≡ zeros (length C) ++ drop (length C) out

-- done, or 9: the formula's rounds; what the places hold is in `Second`
pub record Reported (m : Model) : Type 0 where
  pub seal : (set : ℕ) (K N A P out tag : List ℕ) → let outcome = (m.seal set K N A P out tag).outcome in
      outcome.answer ≡ Done → outcome.rounds ≡ message_rounds (row_of set) (length A) (length P)
  pub unseal : (set : ℕ) (K N A C T out : List ℕ) → let outcome = (m.unseal set K N A C T out).outcome in
      Through outcome.answer → outcome.rounds ≡ message_rounds (row_of set) (length A) (length C)
