-- The second demand: the published cipher.
use Rattle.std.specs.Prelude.{List, ◌↔◌, ◌≡◌, ℕ, ◌≤◌, length, take, drop}
use Rattle.answers.specs.declared.Answer.{Answer}
use Rattle.answers.specs.declared.Answer.TheVariants.{Done}
use Rattle.answers.specs.Numbers.{number_of}
use Rattle.ascon.specs.Sets.{row_of}
use Rattle.ascon.specs.Mode.{sealed}
use Rattle.letter.specs.Messages.{Model}

-- no refusal 1 to 6
abbrev pub Unrefused : Answer → Type 0
Unrefused answer = (1 ≤ number_of answer) × (number_of answer ≤ 6) → ⊥

pub record Second (m : Model) : Type 0 where
  -- a sealing that is not refused gives the published ciphertext and tag, and touches nothing beyond the text
  pub seals : (set : ℕ) (K N A P out tag : List ℕ) → let leaves = m.seal set K N A P out tag in
      leaves.outcome.answer ≡ Done
      → (take (length P) leaves.out ≡ (sealed (row_of set) K N A P).cipher)
      × (leaves.tag ≡ (sealed (row_of set) K N A P).tag)
      × (drop (length P) leaves.out ≡ drop (length P) out)
  -- an opening with no refusal 1 to 6 hands out a plaintext exactly when ciphertext and tag are the published sealing of it under the same set, key, nonce and data
  pub opens : (set : ℕ) (K N A C T out : List ℕ) → let leaves = m.unseal set K N A C T out in
      Unrefused leaves.outcome.answer
      → (P : List ℕ) → ((leaves.outcome.answer ≡ Done) × (take (length C) leaves.out ≡ P)) ↔ (sealed (row_of set) K N A P ≡ record { cipher = C; tag = T })
  -- and touches nothing beyond it
  pub beyond : (set : ℕ) (K N A C T out : List ℕ) → drop (length C) (m.unseal set K N A C T out).out ≡ drop (length C) out
  -- the C boundary leaves the same bytes
  pub seal_word : (set : ℕ) (K N A P out tag : List ℕ)
      → ((m.seal_word set K N A P out tag).out ≡ (m.seal set K N A P out tag).out) × ((m.seal_word set K N A P out tag).tag ≡ (m.seal set K N A P out tag).tag)
  pub open_word : (set : ℕ) (K N A C T out : List ℕ) → (m.open_word set K N A C T out).out ≡ (m.unseal set K N A C T out).out
