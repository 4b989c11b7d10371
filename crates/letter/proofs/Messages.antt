-- Whole messages and their C boundary: what is said of their calls holds.
use mathlib.Core.Path.{◌≡◌, refl, sym, ap, ◌∙◌, subst}
use mathlib.Core.Bool.{Bool, true, false, cond, not}
use mathlib.Core.List.{List, [], ◌∷◌, ◌++◌}
use mathlib.Core.Option.{Option, some, none}
use Prim.Native.Nat.{ℕ, ◌≤◌}
use native.Mathlib.Omega.{arith}
use lib.ListN.{length, drop}
use Rattle.answers.specs.declared.Answer.{Answer}
use Rattle.answers.specs.declared.Answer.TheVariants.{Done, TagDiffers}
use Rattle.answers.specs.Numbers.{number_of, is_done}
use Rattle.answers.specs.Order.{first, Choice, ◌when◌}
use Rattle.answers.proofs.Numbers.{done_is}
use Rattle.answers.proofs.Order.{first_passed}
use Rattle.ascon.specs.Sets.{row_of}
use Rattle.permutation.specs.Strings.{zeros, same}
use Rattle.ascon.specs.Mode.{Processed, decrypted, finalise, sealed, opened}
use Rattle.ascon.specs.Rounds.{message_rounds}
use Rattle.ascon.proofs.Sealing.{encrypt_decrypted}
use Rattle.sets.proofs.Rows.{row_fits}
use Rattle.sets.specs.Start.{start_faults, start_test}
use Rattle.message.specs.Message.{faults, message_test, SealLeaves, seal_call, OpenLeaves, open_leaves, judged, open_faults, open_call, is_none}
use Rattle.message.proofs.Answered.{test_small, seal_answer, seal_refused, seal_given, open_answer, open_refused, open_differs}
use Rattle.sets.proofs as sets
use Rattle.message.proofs as message
use Rattle.gateway.proofs as gateway
use Rattle.letter.specs.Calls.{lent, lent_mut, Refused, Through}
use Rattle.letter.specs.Messages.{Model, ours, seal_word, open_word, Keeps, EveryCall, Listed, Unchanged, Mismatch, Reported}
use Rattle.letter.specs.Second.{Unrefused}
use Rattle.letter.proofs.Calls.{answered, lifetimes, stopped}

-- ---- the calls

-- calls that keep the contracts are ours
pub is_ours : (m : Model) → Keeps m → m ≡ ours
is_ours m k =
    λ j. record {
      start_test = λ set key nonce. k.start_test set key nonce tt j;
      seal = λ set K N A P out tag. k.seal set (lent K) (lent N) (lent A) (lent P) (lent_mut out) (lent_mut tag) (lifetimes 6) j;
      unseal = λ set K N A C T out. k.unseal set (lent K) (lent N) (lent A) (lent C) (lent T) (lent_mut out) (lifetimes 6) j;
      seal_word = λ set K N A P out tag.
          let e = k.seal_word set (lent K) (lent N) (lent A) (lent P) (lent_mut out) (lent_mut tag) (lifetimes 6) in
          record { word = e.0 j; out = e.1.0 j; tag = e.1.1 j };
      open_word = λ set K N A C T out.
          let e = k.open_word set (lent K) (lent N) (lent A) (lent C) (lent T) (lent_mut out) (lifetimes 6) in
          record { word = e.0 j; out = e.1 j };
    }

-- and ours keep them
pub keeps : Keeps ours
keeps =
    record {
      start_test = λ set key nonce κ. refl;
      seal = λ set key nonce ad text out tag κ. refl;
      unseal = λ set key nonce ad cipher tag out κ. refl;
      seal_word = λ set key nonce ad text out tag κ. (refl, (refl, refl));
      open_word = λ set key nonce ad cipher tag out κ. (refl, refl);
    }

-- each is answered
pub every_call : EveryCall
every_call =
    record {
      sets_start_test = answered (λ M. sets.start_test.Met.met) (λ κ a. tt) (λ κ a r e p. p);
      message_seal = answered (λ M. message.seal.Met.met) (λ κ a. tt) (λ κ a r e p. p);
      message_open = answered (λ M. message.«open».Met.met) (λ κ a. tt) (λ κ a r e p. p);
      gateway_kvistmaur_seal = answered (λ M. gateway.kvistmaur_seal.Met.met) (λ κ a. tt) (λ κ a r e p j. seal_word (p.0 j) (p.1.0 j) (p.1.1 j));
      gateway_kvistmaur_open = answered (λ M. gateway.kvistmaur_open.Met.met) (λ κ a. tt) (λ κ a r e p j. open_word (p.0 j) (p.1 j));
    }

-- ---- what they answer

-- a start's tests are its list
tested_start : (set key nonce : ℕ) → start_test set key nonce ≡ first Done (start_faults set key nonce)
unfolding start_test
tested_start set key nonce = refl

-- each answer is listed
pub listed : Listed ours
listed =
    record {
      start_test = tested_start;
      seal = seal_answer;
      unseal = open_answer;
      seal_word = λ set K N A P out tag. refl;
      open_word = λ set K N A C T out. refl;
    }

-- nothing is opened exactly where the tag is not the one that the document gives the decryption
pub none_opened : (set : ℕ) (K N A C T : List ℕ) → length K ≡ (row_of set).key
    → is_none (opened (row_of set) K N A C T) ≡ not (same T (sealed (row_of set) K N A (decrypted (row_of set) K N A C).out).tag)
unfolding opened sealed
none_opened set K N A C T key =
    go (same T (finalise (row_of set) K (decrypted (row_of set) K N A C).state))
    ∙ ap (λ (w : Processed). not (same T (finalise (row_of set) K w.state))) (sym (encrypt_decrypted (row_of set) (row_fits set) K key N A C))
  where
    go : (t : Bool) → is_none (cond t (some (decrypted (row_of set) K N A C).out) none) ≡ not t
    go true = refl
    go false = refl

-- an opening with no refusal 1 to 6 passed the tests of its lengths
pub tests_passed : (m : Model) → Listed m → (set : ℕ) (K N A C T out : List ℕ) → Unrefused (m.unseal set K N A C T out).outcome.answer
    → is_done (message_test set (length K) (length N) (length T) (length A) (length C) (length out)) ≡ true
unfolding message_test
tests_passed m l set K N A C T out u =
    ap is_done
    (first_passed 6 (faults set (length K) (length N) (length T) (length A) (length C) (length out)) (open_faults (opened (row_of set) K N A C T)) refl refl
    (subst Unrefused (l.unseal set K N A C T out) u))

-- ---- what they leave

-- what is not `Done` is not done
undone : (answer : Answer) → Refused answer → is_done answer ≡ false
undone answer r = go (is_done answer) refl
  where
    go : (b : Bool) → is_done answer ≡ b → b ≡ false
    go true e = absurd (r.0 (done_is answer e))
    go false e = refl

-- a refusal that is not the last choice is one of those before it
before_last : (cs : List (Choice Answer)) (t : Bool) (answer : Answer) → answer ≡ first Done (cs ++ TagDiffers when t ∷ []) → Refused answer → first Done cs ≡ answer
before_last [] true answer e r = absurd (r.1 e)
before_last [] false answer e r = absurd (r.0 e)
before_last (c ∷ cs) t answer e r = go c.holds e (λ e. before_last cs t answer e r)
  where
    go : (b : Bool) → answer ≡ cond b c.choice (first Done (cs ++ TagDiffers when t ∷ []))
        → (answer ≡ first Done (cs ++ TagDiffers when t ∷ []) → first Done cs ≡ answer)
        → cond b c.choice (first Done cs) ≡ answer
    go true e rest = sym e
    go false e rest = rest e

module _ (set : ℕ) (K N A P out tag : List ℕ) where
  -- a refused sealing changes nothing
  seal_kept : let leaves = seal_call set K N A P out tag in
      Refused leaves.outcome.answer → (leaves.out ≡ out) × (leaves.tag ≡ tag) × (leaves.outcome.rounds ≡ 0)
  seal_kept r =
      let e = seal_refused set K N A P out tag (undone _ r) in
      (ap (λ (x : SealLeaves). x.out) e, ap (λ (x : SealLeaves). x.tag) e, ap (λ (x : SealLeaves). x.outcome.rounds) e)

module _ (set : ℕ) (K N A C T out : List ℕ) where
  -- nor does a refused opening
  open_kept : let leaves = open_call set K N A C T out in Refused leaves.outcome.answer → (leaves.out ≡ out) × (leaves.outcome.rounds ≡ 0)
  open_kept r =
      let test = before_last (faults set (length K) (length N) (length T) (length A) (length C) (length out)) (is_none (opened (row_of set) K N A C T)) _ (open_answer set K N A C T out) r in
      let e = open_refused set K N A C T out _ test (undone _ r) in
      (ap (λ (x : OpenLeaves). x.out) e, ap (λ (x : OpenLeaves). x.outcome.rounds) e)

  -- a differing tag leaves zeros
  open_cleared : let leaves = open_call set K N A C T out in
      leaves.outcome.answer ≡ TagDiffers
      → (leaves.out ≡ zeros (length C) ++ drop (length C) out) × (leaves.outcome.rounds ≡ message_rounds (row_of set) (length A) (length C))
  open_cleared d =
      let e = open_differs set K N A C T out d in
      (ap (λ (x : OpenLeaves). x.out) e, ap (λ (x : OpenLeaves). x.outcome.rounds) e)

-- each refusal changes nothing
pub unchanged : Unchanged ours
unchanged =
    record {
      seal = seal_kept;
      unseal = open_kept;
      seal_word = λ set K N A P out tag r. let k = seal_kept set K N A P out tag r in (k.0, k.1);
      open_word = λ set K N A C T out r. (open_kept set K N A C T out r).0;
    }

-- save one
pub mismatch : Mismatch ours
mismatch =
    record {
      unseal = open_cleared;
      open_word = λ set K N A C T out d. (open_cleared set K N A C T out d).0;
    }

-- a sealed message
seal_message_reports : (set : ℕ) (K N A P out tag : List ℕ) → (ours.seal set K N A P out tag).outcome.answer ≡ Done
    → (ours.seal set K N A P out tag).outcome.rounds ≡ message_rounds (row_of set) (length A) (length P)
seal_message_reports set K N A P out tag e = ap (λ (x : SealLeaves). x.outcome.rounds) (seal_given set K N A P out tag e)

-- an opened message
open_message_reports : (set : ℕ) (K N A C T out : List ℕ) → Through (open_call set K N A C T out).outcome.answer
    → (open_call set K N A C T out).outcome.rounds ≡ message_rounds (row_of set) (length A) (length C)
unfolding open_call
open_message_reports set K N A C T out =
    go (message_test set (length K) (length N) (length T) (length A) (length C) (length out)) (opened (row_of set) K N A C T)
    (test_small set (length K) (length N) (length T) (length A) (length C) (length out))
  where
    rounds : ℕ
    rounds = message_rounds (row_of set) (length A) (length C)

    go : (answer : Answer) (o : Option (List ℕ)) → number_of answer ≤ 6
        → let outcome = (cond (is_done answer) (judged o rounds (length C) out) (open_leaves (record { answer = answer; rounds = 0 }) out)).outcome in
        Through outcome.answer → outcome.rounds ≡ rounds
    go answer o small = by (is_done answer) refl o
      where
        by : (b : Bool) → is_done answer ≡ b → (o : Option (List ℕ))
            → let outcome = (cond b (judged o rounds (length C) out) (open_leaves (record { answer = answer; rounds = 0 }) out)).outcome in
            Through outcome.answer → outcome.rounds ≡ rounds
        by true f (some P) t = refl
        by true f none t = refl
        by false f o t = absurd (stopped answer f (omega (arith, small)) t)

-- what each reports
pub reported : Reported ours
reported =
    record {
      seal = seal_message_reports;
      unseal = open_message_reports;
    }
