-- The second demand: the published cipher.
use mathlib.Core.Path.{◌≡◌, refl, sym, ap, ◌∙◌}
use mathlib.Core.Bool.{Bool, true, false, cond}
use mathlib.Core.List.{List}
use mathlib.Core.Logic.{◌↔◌}
use mathlib.Core.Option.{Option, some, none}
use Prim.Native.Nat.{ℕ}
use native.Mathlib.Omega.{arith}
use lib.ListN.{length, take, drop, length-replicate}
use lib.Seq.{take_at, drop_at}
use Rattle.answers.specs.declared.Answer.{Answer}
use Rattle.answers.specs.declared.Answer.TheVariants.{Done}
use Rattle.answers.specs.Numbers.{is_done}
use Rattle.answers.proofs.Numbers.{done_is}
use Rattle.ascon.specs.Sets.{row_of}
use Rattle.permutation.specs.Strings.{zeros}
use Rattle.ascon.specs.Mode.{Sealed, sealed, opened}
use Rattle.ascon.specs.Rounds.{message_rounds}
use Rattle.ascon.proofs.Sealing.{seal_opened}
use Rattle.sets.proofs.Rows.{row_fits}
use Rattle.message.specs.Message.{faults, message_test, SealLeaves, seal_call, OpenLeaves, open_leaves, judged, open_call}
use Rattle.answers.specs.Order.{first}
use Rattle.message.proofs.Tests.{message_passed}
use Rattle.message.proofs.Answered.{test_first, seal_answer, seal_given, open_hands, open_of}
use Rattle.message.proofs.Promise.{length_cipher}
use Rattle.letter.specs.Calls.{Through}
use Rattle.letter.specs.Messages.{ours}
use Rattle.letter.specs.Model.{Model, Keeps}
use Rattle.letter.specs.Second.{Unrefused, Second}
use Rattle.letter.proofs.Calls.{not_refused}
use Rattle.letter.proofs.Messages.{listed, tests_passed}
use Rattle.letter.proofs.Model.{of_kept}

-- ---- sealing

module _ (set : ℕ) (K N A P out tag : List ℕ) where
  -- a done sealing is the published one
  seal_published : let leaves = seal_call set K N A P out tag in
      leaves.outcome.answer ≡ Done
      → (take (length P) leaves.out ≡ (sealed (row_of set) K N A P).cipher)
      × (leaves.tag ≡ (sealed (row_of set) K N A P).tag)
      × (drop (length P) leaves.out ≡ drop (length P) out)
  seal_published d =
      let e = seal_given set K N A P out tag d in
      let test : message_test set (length K) (length N) (length tag) (length A) (length P) (length out) ≡ Done =
      test_first set (length K) (length N) (length tag) (length A) (length P) (length out) ∙ sym (seal_answer set K N A P out tag) ∙ d in
      let passed = message_passed set (length K) (length N) (length tag) (length A) (length P) (length out) (ap is_done test) in
      let size = length_cipher set K N A P passed.key_fits in (
        ap (λ (x : SealLeaves). take (length P) x.out) e ∙ take_at (sealed (row_of set) K N A P).cipher (drop (length P) out) (length P) size,
        ap (λ (x : SealLeaves). x.tag) e,
        ap (λ (x : SealLeaves). drop (length P) x.out) e ∙ drop_at (sealed (row_of set) K N A P).cipher (drop (length P) out) (length P) size,
      )

-- ---- opening

-- neither done nor 9 is a refusal 1 to 6
pub unrefused : (answer : Answer) → Through answer → Unrefused answer
unrefused answer came (least, most) = not_refused answer came (least, omega (arith, most))

module _ (set : ℕ) (K N A C T out : List ℕ) where
  -- the opening's tests
  test : Answer
  test = message_test set (length K) (length N) (length T) (length A) (length C) (length out)

  -- they are its list
  test_is : test ≡ first Done (faults set (length K) (length N) (length T) (length A) (length C) (length out))
  unfolding test
  test_is = test_first set (length K) (length N) (length T) (length A) (length C) (length out)

  -- with no refusal 1 to 6 the tests passed
  passed : Unrefused (open_call set K N A C T out).outcome.answer → is_done test ≡ true
  unfolding test
  passed = tests_passed ours listed set K N A C T out

  -- where they passed, a text is as long as its ciphertext
  as_long : is_done test ≡ true → (P : List ℕ) → sealed (row_of set) K N A P ≡ record { cipher = C; tag = T } → length P ≡ length C
  unfolding test
  as_long e P s =
      let key = (message_passed set (length K) (length N) (length T) (length A) (length C) (length out) e).key_fits in
      sym (length_cipher set K N A P key) ∙ ap (λ (w : Sealed). length w.cipher) s

  -- an opening is done exactly where the published sealing is
  open_published : let leaves = open_call set K N A C T out in
      Unrefused leaves.outcome.answer
      → (P : List ℕ)
      → ((leaves.outcome.answer ≡ Done) × (take (length C) leaves.out ≡ P)) ↔ (sealed (row_of set) K N A P ≡ record { cipher = C; tag = T })
  open_published u P = (to, from)
    where
      none_holds : first Done (faults set (length K) (length N) (length T) (length A) (length C) (length out)) ≡ Done
      none_holds = sym test_is ∙ done_is test (passed u)

      handed : (Q : List ℕ) → sealed (row_of set) K N A Q ≡ record { cipher = C; tag = T } → take (length C) (open_call set K N A C T out).out ≡ Q
      handed Q s =
          ap (λ (x : OpenLeaves). take (length C) x.out) (open_hands set K N A C T out none_holds Q s)
          ∙ take_at Q (drop (length C) out) (length C) (as_long (passed u) Q s)

      to : ((open_call set K N A C T out).outcome.answer ≡ Done) × (take (length C) (open_call set K N A C T out).out ≡ P)
          → sealed (row_of set) K N A P ≡ record { cipher = C; tag = T }
      to (d, e) =
          let found = open_of set K N A C T out none_holds d in
          ap (sealed (row_of set) K N A) (sym e ∙ handed found.0 found.1) ∙ found.1

      from : sealed (row_of set) K N A P ≡ record { cipher = C; tag = T }
          → ((open_call set K N A C T out).outcome.answer ≡ Done) × (take (length C) (open_call set K N A C T out).out ≡ P)
      from s = (ap (λ (x : OpenLeaves). x.outcome.answer) (open_hands set K N A C T out none_holds P s), handed P s)

  -- and touches nothing beyond
  open_beyond : drop (length C) (open_call set K N A C T out).out ≡ drop (length C) out
  unfolding open_call test
  open_beyond = go (is_done test) refl (opened (row_of set) K N A C T) refl
    where
      go : (b : Bool) → is_done test ≡ b → (o : Option (List ℕ)) → opened (row_of set) K N A C T ≡ o
          → drop (length C)
          (cond b (judged o (message_rounds (row_of set) (length A) (length C)) (length C) out) (open_leaves (record { answer = test; rounds = 0 }) out)).out
          ≡ drop (length C) out
      go false e o f = refl
      go true e none f = drop_at (zeros (length C)) (drop (length C) out) (length C) (length-replicate (length C) 0)
      go true e (some P) f =
          let key = (message_passed set (length K) (length N) (length T) (length A) (length C) (length out) e).key_fits in
          drop_at P (drop (length C) out) (length C) (as_long e P (seal_opened (row_of set) (row_fits set) K key N A P C T f))

-- ---- the demand

-- our calls meet the demand
second : Second ours
second =
    record {
      seals = seal_published;
      opens = open_published;
      beyond = open_beyond;
      seal_word = λ set K N A P out tag. (refl, refl);
      open_word = λ set K N A C T out. refl;
    }

-- the second demand
pub second_demand : (m : Model) → Keeps m → Second m.messages
second_demand = of_kept (λ m. Second m.messages) second
