-- What sealing and opening a whole message answer and leave: by their order, and by the published cipher.
use mathlib.Core.Path.{◌≡◌, refl, sym, ap, ◌∙◌}
use mathlib.Core.Bool.{Bool, true, false, cond}
use mathlib.Core.List.{List, [], ◌∷◌, ◌++◌}
use mathlib.Core.Option.{Option, some, none}
use Prim.Native.Nat.{ℕ, ◌≤◌}
use native.Mathlib.Omega.{arith}
use lib.ListN.{length, drop}
use Rattle.answers.specs.declared.Answer.{Answer}
use Rattle.answers.specs.declared.Answer.TheVariants.{Done, TagDiffers}
use Rattle.answers.specs.Numbers.{number_of, is_done}
use Rattle.answers.specs.Order.{◌when◌, first}
use Rattle.answers.proofs.Numbers.{done_is}
use Rattle.answers.proofs.Order.{first_append, first_most}
use Rattle.ascon.specs.Sets.{row_of}
use Rattle.permutation.specs.Strings.{zeros}
use Rattle.ascon.specs.Mode.{Sealed, sealed, opened}
use Rattle.ascon.specs.Rounds.{message_rounds}
use Rattle.ascon.proofs.Sealing.{open_sealed, seal_opened}
use Rattle.sets.proofs.Rows.{row_fits}
use Rattle.message.specs.Message.{faults, message_test, SealLeaves, seal_leaves, seal_call, OpenLeaves, open_leaves, judged, is_none, open_faults, open_call}
use Rattle.message.proofs.Tests.{message_passed}

-- ---- the tests

module _ (set key nonce tag ad text out : ℕ) where
  -- they are their list
  pub test_first : message_test set key nonce tag ad text out ≡ first Done (faults set key nonce tag ad text out)
  unfolding message_test
  test_first = refl

  -- a last choice behind them
  test_last : (t : Bool)
      → cond (is_done (message_test set key nonce tag ad text out)) (cond t TagDiffers Done) (message_test set key nonce tag ad text out)
      ≡ first Done (faults set key nonce tag ad text out ++ TagDiffers when t ∷ [])
  unfolding message_test
  test_last t = sym (first_append (faults set key nonce tag ad text out) (TagDiffers when t ∷ []) refl)

  -- they answer 0 to 6
  pub test_small : number_of (message_test set key nonce tag ad text out) ≤ 6
  unfolding message_test
  test_small = first_most 6 (faults set key nonce tag ad text out) refl

-- ---- sealing

module _ (set : ℕ) (K N A P out tag : List ℕ) where
  seal_test : Answer
  seal_test = message_test set (length K) (length N) (length tag) (length A) (length P) (length out)

  seal_passed : is_done seal_test ≡ true
      → seal_call set K N A P out tag
      ≡ seal_leaves (record { answer = Done; rounds = message_rounds (row_of set) (length A) (length P) })
      ((sealed (row_of set) K N A P).cipher ++ drop (length P) out) (sealed (row_of set) K N A P).tag
  unfolding seal_call seal_test
  seal_passed e = rw e

  seal_stopped : is_done seal_test ≡ false → seal_call set K N A P out tag ≡ seal_leaves (record { answer = seal_test; rounds = 0 }) out tag
  unfolding seal_call seal_test
  seal_stopped e = rw e

  seal_tested : (seal_call set K N A P out tag).outcome.answer ≡ seal_test
  seal_tested = go (is_done seal_test) refl
    where
      go : (b : Bool) → is_done seal_test ≡ b → (seal_call set K N A P out tag).outcome.answer ≡ seal_test
      go true e = ap (λ (s : SealLeaves). s.outcome.answer) (seal_passed e) ∙ sym (done_is seal_test e)
      go false e = ap (λ (s : SealLeaves). s.outcome.answer) (seal_stopped e)

  -- the answer is the first that holds
  pub seal_answer : (seal_call set K N A P out tag).outcome.answer ≡ first Done (faults set (length K) (length N) (length tag) (length A) (length P) (length out))
  unfolding seal_test
  seal_answer = seal_tested ∙ test_first set (length K) (length N) (length tag) (length A) (length P) (length out)

  -- a refusal runs no round and changes no byte
  pub seal_refused : is_done (seal_call set K N A P out tag).outcome.answer ≡ false
      → seal_call set K N A P out tag ≡ seal_leaves (record { answer = (seal_call set K N A P out tag).outcome.answer; rounds = 0 }) out tag
  seal_refused e = seal_stopped (ap is_done (sym seal_tested) ∙ e) ∙ ap (λ (a : Answer). seal_leaves (record { answer = a; rounds = 0 }) out tag) (sym seal_tested)

  -- a done sealing gives the published ciphertext and tag
  pub seal_given : (seal_call set K N A P out tag).outcome.answer ≡ Done
      → seal_call set K N A P out tag
      ≡ seal_leaves (record { answer = Done; rounds = message_rounds (row_of set) (length A) (length P) })
      ((sealed (row_of set) K N A P).cipher ++ drop (length P) out) (sealed (row_of set) K N A P).tag
  seal_given e = seal_passed (ap is_done (sym seal_tested ∙ e))

-- ---- opening

judged_none : (opening : Option (List ℕ)) (rounds n : ℕ) (out : List ℕ) → (judged opening rounds n out).outcome.answer ≡ TagDiffers
    → judged opening rounds n out ≡ open_leaves (record { answer = TagDiffers; rounds = rounds }) (zeros n ++ drop n out)
judged_none (some P) rounds n out e = absurd (let z : 0 ≡ 9 = ap number_of e in omega arith)
judged_none none rounds n out e = refl

judged_some : (opening : Option (List ℕ)) → first Done (open_faults opening) ≡ Done → (P : List ℕ) × (opening ≡ some P)
judged_some (some P) e = (P, refl)
judged_some none e = absurd (let z : 9 ≡ 0 = ap number_of e in omega arith)

module _ (set : ℕ) (K N A C T out : List ℕ) where
  open_test : Answer
  open_test = message_test set (length K) (length N) (length T) (length A) (length C) (length out)

  open_passed : is_done open_test ≡ true
      → open_call set K N A C T out ≡ judged (opened (row_of set) K N A C T) (message_rounds (row_of set) (length A) (length C)) (length C) out
  unfolding open_call open_test
  open_passed e = rw e

  open_stopped : is_done open_test ≡ false → open_call set K N A C T out ≡ open_leaves (record { answer = open_test; rounds = 0 }) out
  unfolding open_call open_test
  open_stopped e = rw e

  open_tested : (open_call set K N A C T out).outcome.answer ≡ cond (is_done open_test) (cond (is_none (opened (row_of set) K N A C T)) TagDiffers Done) open_test
  open_tested = go (is_done open_test) refl
    where
      go : (b : Bool) → is_done open_test ≡ b
          → (open_call set K N A C T out).outcome.answer ≡ cond b (cond (is_none (opened (row_of set) K N A C T)) TagDiffers Done) open_test
      go true e = ap (λ (s : OpenLeaves). s.outcome.answer) (open_passed e)
      go false e = ap (λ (s : OpenLeaves). s.outcome.answer) (open_stopped e)

  -- 9 leaves zeros for a plaintext
  pub open_differs : (open_call set K N A C T out).outcome.answer ≡ TagDiffers
      → open_call set K N A C T out
      ≡ open_leaves (record { answer = TagDiffers; rounds = message_rounds (row_of set) (length A) (length C) }) (zeros (length C) ++ drop (length C) out)
  unfolding open_test
  open_differs x = go (is_done open_test) refl
    where
      go : (b : Bool) → is_done open_test ≡ b → open_call set K N A C T out
          ≡ open_leaves (record { answer = TagDiffers; rounds = message_rounds (row_of set) (length A) (length C) }) (zeros (length C) ++ drop (length C) out)
      go true e = open_passed e ∙ judged_none (opened (row_of set) K N A C T) _ (length C) out (sym (ap (λ (s : OpenLeaves). s.outcome.answer) (open_passed e)) ∙ x)
      go false e =
          let nine : number_of open_test ≡ 9 = ap number_of (sym (ap (λ (s : OpenLeaves). s.outcome.answer) (open_stopped e)) ∙ x) in
          absurd (omega (arith, nine, test_small set (length K) (length N) (length T) (length A) (length C) (length out)))

  -- the answer is the first that holds, and 9 behind them where nothing is opened
  pub open_answer : (open_call set K N A C T out).outcome.answer
      ≡ first Done (faults set (length K) (length N) (length T) (length A) (length C) (length out) ++ TagDiffers when is_none (opened (row_of set) K N A C T) ∷ [])
  unfolding open_test
  open_answer = open_tested ∙ test_last set (length K) (length N) (length T) (length A) (length C) (length out) (is_none (opened (row_of set) K N A C T))

  -- a refusal 1 to 6 runs no round and changes no byte
  pub open_refused : (answer : Answer) → first Done (faults set (length K) (length N) (length T) (length A) (length C) (length out)) ≡ answer → is_done answer ≡ false
      → open_call set K N A C T out ≡ open_leaves (record { answer = answer; rounds = 0 }) out
  unfolding open_test
  open_refused answer e f =
      let test = test_first set (length K) (length N) (length T) (length A) (length C) (length out) ∙ e in
      open_stopped (ap is_done test ∙ f) ∙ ap (λ (a : Answer). open_leaves (record { answer = a; rounds = 0 }) out) test

  -- with no refusal 1 to 6
  module _ (e : first Done (faults set (length K) (length N) (length T) (length A) (length C) (length out)) ≡ Done) where
    done : is_done open_test ≡ true
    unfolding open_test
    done = ap is_done (test_first set (length K) (length N) (length T) (length A) (length C) (length out) ∙ e)

    key : length K ≡ (row_of set).key
    unfolding open_test
    key = (message_passed set (length K) (length N) (length T) (length A) (length C) (length out) done).key_fits

    opened_by : (P : List ℕ) → sealed (row_of set) K N A P ≡ record { cipher = C; tag = T } → opened (row_of set) K N A C T ≡ some P
    opened_by P s = ap (λ (w : Sealed). opened (row_of set) K N A w.cipher w.tag) (sym s) ∙ open_sealed (row_of set) (row_fits set) K key N A P

    -- the opening of a published sealing hands its text out
    pub open_hands : (P : List ℕ) → sealed (row_of set) K N A P ≡ record { cipher = C; tag = T }
        → open_call set K N A C T out
        ≡ open_leaves (record { answer = Done; rounds = message_rounds (row_of set) (length A) (length C) }) (P ++ drop (length C) out)
    open_hands P s = open_passed done ∙ ap (λ (o : Option (List ℕ)). judged o (message_rounds (row_of set) (length A) (length C)) (length C) out) (opened_by P s)

    -- a done opening is of some text's published sealing
    pub open_of : (open_call set K N A C T out).outcome.answer ≡ Done → (P : List ℕ) × (sealed (row_of set) K N A P ≡ record { cipher = C; tag = T })
    open_of x =
        let found = judged_some (opened (row_of set) K N A C T) (sym (ap (λ (s : OpenLeaves). s.outcome.answer) (open_passed done)) ∙ x) in
        (found.0, seal_opened (row_of set) (row_fits set) K key N A found.0 C T found.1)
