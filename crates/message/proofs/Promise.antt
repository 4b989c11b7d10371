-- What a caller may count on who seals with right lengths.
use mathlib.Core.Path.{◌≡◌, ◌∙◌}
use mathlib.Core.Bool.{true}
use mathlib.Core.List.{List, ◌++◌}
use Prim.Native.Nat.{ℕ, ◌≤◌}
use lib.ListN.{length, drop}
use borrow.Author.Tests.{eq-eqb, le-leb}
use Rattle.answers.specs.declared.Answer.TheVariants.{Done}
use Rattle.ascon.specs.Sets.{is_set, row_of, ad_limit, text_limit}
use Rattle.ascon.specs.Mode.{encrypted, sealed}
use Rattle.ascon.specs.Rounds.{message_rounds}
use Rattle.ascon.proofs.Sealing.{length_encrypted, length_tag}
use Rattle.sets.proofs.Rows.{row_fits}
use Rattle.message.specs.Message.{seal_leaves, seal_call}
use Rattle.message.proofs.Answered.{seal_answer, seal_given}

module _ (set : ℕ) (K N A P : List ℕ) (key : length K ≡ (row_of set).key) where
  -- a ciphertext is as long as its text
  pub length_cipher : length (sealed (row_of set) K N A P).cipher ≡ length P
  unfolding sealed
  length_cipher = length_encrypted (row_of set) (row_fits set) K key N A P

  -- a tag is as long as its key
  pub length_sealed_tag : length (sealed (row_of set) K N A P).tag ≡ (row_of set).key
  unfolding sealed
  length_sealed_tag = length_tag (row_of set) (row_fits set) K key (encrypted (row_of set) K N A P).state

  -- with right lengths and room, the sealing is done, and gives the published one
  pub seal_done : (out tag : List ℕ) → is_set set ≡ true → length N ≡ (row_of set).key → length tag ≡ (row_of set).key → length A ≤ ad_limit → length P ≤ text_limit
      → length P ≤ length out
      → seal_call set K N A P out tag
      ≡ seal_leaves (record { answer = Done; rounds = message_rounds (row_of set) (length A) (length P) })
      ((sealed (row_of set) K N A P).cipher ++ drop (length P) out) (sealed (row_of set) K N A P).tag
  seal_done out tag known nonce tagged few short room =
      seal_given set K N A P out tag
      (seal_answer set K N A P out tag
      ∙ rw (
        known,
        eq-eqb (length K) (row_of set).key key,
        eq-eqb (length N) (row_of set).key nonce,
        eq-eqb (length tag) (row_of set).key tagged,
        le-leb (length A) ad_limit few,
        le-leb (length P) text_limit short,
        le-leb (length P) (length out) room,
      ))
