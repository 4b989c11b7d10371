-- Two openings that are answered 9 are alike, and no ciphertext and tag open to two plaintexts.
use mathlib.Core.Path.{◌≡◌, refl, sym, ap, ◌∙◌}
use mathlib.Core.Bool.{Bool, true, false, cond, not, ◌&&◌}
use mathlib.Core.List.{List, [], ◌∷◌, ◌++◌}
use mathlib.Core.Logic.{inl, inr}
use mathlib.Core.Option.{Option, some, none}
use Prim.Native.Nat.{ℕ, ◌+◌, ◌/◌, ◌%◌}
use native.Mathlib.Omega.{arith}
use lib.Dec.{eqb}
use lib.ListN.{length, take, drop}
use borrow.Author.Tests.{eqb-true}
use Rattle.answers.specs.declared.Answer.{Answer}
use Rattle.answers.specs.declared.Answer.TheVariants.{Done, TagLength, TagDiffers}
use Rattle.answers.specs.Numbers.{number_of, is_done}
use Rattle.answers.specs.Order.{◌when◌, first}
use Rattle.answers.proofs.Numbers.{done_is}
use Rattle.permutation.specs.Runs.{rounds_of}
use Rattle.permutation.specs.Strings.{zeros, same}
use Rattle.permutation.proofs.Strings.{same_eq}
use Rattle.ascon.specs.Sets.{ParameterSet, row_of}
use Rattle.ascon.specs.Mode.{decrypted, finalise, sealed, opened}
use Rattle.ascon.specs.Rounds.{message_rounds}
use Rattle.ascon.proofs.Sealing.{only_text, only_tag}
use Rattle.sets.proofs.Rows.{row_fits}
use Rattle.gateway.specs.Spelling.{state_in}
use Rattle.gateway.proofs.OneWord.{word_answer}
use Rattle.message.specs.Message.{message_test, OpenLeaves, open_leaves, judged, open_call}
use Rattle.message.proofs.Tests.{message_passed}
use Rattle.gateway.specs.Word.{word_of}
use Rattle.stream.specs.declared.Direction.{Direction}
use Rattle.stream.specs.declared.Stream.{Stream}
use Rattle.stream.specs.State.{is_ad, gives_tag, ended}
use Rattle.stream.specs.Calls.{closing_rounds, Start}
use Rattle.history.specs.History.{Call, begun, after}
use Rattle.history.specs.History as histories
use Rattle.history.specs.Cuts.{Message, finish_answer, published_tag}
use Rattle.history.proofs.History.{key}
use Rattle.history.proofs.Cuts.{whole}
use Rattle.history.proofs.Directions.{cutting_does_not_matter}
use Rattle.letter.specs.Messages as messages
use Rattle.letter.specs.Model.{Model, ours, Keeps}
use Rattle.letter.specs.Nines.{Handed, SameLengths, unsealed, unsealed_word, SameData, NinesAlike, OnePlaintext, OpensOnce}
use Rattle.letter.proofs.Calls.{off}
use Rattle.letter.proofs.Messages.{listed, tests_passed}
use Rattle.letter.proofs.Areas as areas
use Rattle.letter.proofs.Streams.{reported}
use Rattle.letter.proofs.Model.{keeps, of_kept}
use Rattle.letter.proofs.Second.{unrefused, second_demand}

-- ---- two openings

-- what an opening that is not done leaves, by the lengths of what it is handed and by its place
undone_leaves : ℕ → ℕ → ℕ → ℕ → ℕ → ℕ → List ℕ → OpenLeaves
undone_leaves set key nonce tag ad n out =
    let answer = message_test set key nonce tag ad n (length out) in
    cond (is_done answer) (open_leaves (record { answer = TagDiffers; rounds = message_rounds (row_of set) ad n }) (zeros n ++ drop n out))
    (open_leaves (record { answer = answer; rounds = 0 }) out)

-- it is what the call leaves
undone_is : (set : ℕ) (K N A C T out : List ℕ) → ((open_call set K N A C T out).outcome.answer ≡ Done → ⊥)
    → open_call set K N A C T out ≡ undone_leaves set (length K) (length N) (length T) (length A) (length C) out
unfolding open_call undone_leaves
undone_is set K N A C T out = go (is_done (message_test set (length K) (length N) (length T) (length A) (length C) (length out))) _ (opened (row_of set) K N A C T)
  where
    rounds : ℕ
    rounds = message_rounds (row_of set) (length A) (length C)

    go : (t : Bool) (stopped : OpenLeaves) (o : Option (List ℕ)) → let leaves = cond t (judged o rounds (length C) out) stopped in
        (leaves.outcome.answer ≡ Done → ⊥)
        → leaves ≡ cond t (open_leaves (record { answer = TagDiffers; rounds = rounds }) (zeros (length C) ++ drop (length C) out)) stopped
    go true stopped (some P) undone = absurd (undone refl)
    go true stopped none undone = refl
    go false stopped o undone = refl

-- so two that are not done are alike
undone_alike : (set : ℕ) (one other : Handed) (out : List ℕ) → SameLengths one other → let x = unsealed messages.ours set one out in
    let y = unsealed messages.ours set other out in
    (x.outcome.answer ≡ Done → ⊥) → (y.outcome.answer ≡ Done → ⊥) → x ≡ y
undone_alike set one other out s u v =
    undone_is set one.key one.nonce one.ad one.cipher one.tag out u
    ∙ (λ j. undone_leaves set (s.key j) (s.nonce j) (s.tag j) (s.ad j) (s.cipher j) out)
    ∙ sym (undone_is set other.key other.nonce other.ad other.cipher other.tag out v)

-- 9 is not 0
nine_nonzero : ◌≡◌ {A = ℕ} 9 0 → ⊥
nine_nonzero e = omega (arith, e)

-- and not done
nine_undone : (answer : Answer) → answer ≡ TagDiffers → answer ≡ Done → ⊥
nine_undone answer e f = nine_nonzero (ap number_of (sym e ∙ f))

-- where what is left of an opening's number by 16 is not 0, it is not done
word_undone : (set : ℕ) (x : Handed) (out : List ℕ) → ((unsealed_word messages.ours set x out).word % 16 ≡ 0 → ⊥) → (unsealed messages.ours set x out).outcome.answer ≡ Done → ⊥
word_undone set x out left done = left (word_answer (unsealed messages.ours set x out).outcome.answer (unsealed messages.ours set x out).outcome.rounds ∙ ap number_of done)

-- two streams of one set and phase with the same count of data have the same rounds to close it
closing_same : (one other : Stream) → SameData one other → closing_rounds one ≡ closing_rounds other
unfolding closing_rounds
closing_same one other s = λ j. cond (is_ad (s.phase j)) (cond (eqb (s.ad j) 0) 0 (rounds_of (row_of (s.set j)).between)) 0

-- a finish that is answered 9 was given a tag of the set's length
nine_size : (d : Direction) (row : ParameterSet) (published tag : List ℕ) → finish_answer d row published tag ≡ TagDiffers → length tag ≡ row.key
nine_size d row published tag e = go (eqb (length tag) row.key) refl e
  where
    go : (t : Bool) → eqb (length tag) row.key ≡ t → first Done (TagLength when not t ∷ TagDiffers when (not (gives_tag d) && not (same tag published)) ∷ []) ≡ TagDiffers
        → length tag ≡ row.key
    go true f e = eqb-true (length tag) row.key f
    go false f e = absurd (let four : ◌≡◌ {A = ℕ} 4 9 = ap number_of e in omega (arith, four))

-- so the rounds of its walk add up to the whole message's, and the stream is ended
nine_walk : (start : Start) (A C : List ℕ) (calls : List Call) (tag : List ℕ) → Message histories.ours start A C calls
    → let h = after histories.ours (begun histories.ours start) calls in
    let x = ((histories.ours).finish start.direction h.stream tag).outcome in
    x.answer ≡ TagDiffers → (h.rounds + x.rounds ≡ message_rounds (row_of start.set) (length A) (length C)) × (x.next ≡ ended)
nine_walk start A C calls tag m e =
    let w = whole start A C calls m tag in
    let size = nine_size start.direction (row_of start.set) (published_tag start A C) tag (sym w.answer ∙ e) in
    (w.rounds size, w.over size)

-- what the boundary returns and leaves, by the opening
worded : OpenLeaves → messages.OpenWord
worded x = messages.open_word (word_of x.outcome) x.out

-- two words of one answer and the same rounds are one
same_word : (x y : ℕ) → x / 16 ≡ y / 16 → x % 16 ≡ y % 16 → x ≡ y
same_word x y rounds answer = omega (arith, rounds, answer)

alike : NinesAlike ours
unfolding worded
alike = record {
  opening = λ set one other out s e f.
      let same = undone_alike set one other out s (nine_undone _ e) (nine_undone _ f) in
      (ap (λ (x : OpenLeaves). x.outcome.rounds) same, ap (λ (x : OpenLeaves). x.out) same);
  undone = undone_alike;
  boundary = λ set one other out s e f.
      let same = undone_alike set one other out s (word_undone set one out (λ z. nine_nonzero (sym e ∙ z))) (word_undone set other out (λ z. nine_nonzero (sym f ∙ z))) in
      (ap (λ (x : OpenLeaves). (worded x).word) same, ap (λ (x : OpenLeaves). x.out) same);
  boundary_undone = λ set one other out s u v. ap worded (undone_alike set one other out s (word_undone set one out u) (word_undone set other out v));
  finish = λ d d' one other tag tag' s e f.
      let x = reported.finish d one tag (inr e) in
      let y = reported.finish d' other tag' (inr f) in
      (x.0 ∙ ap (λ (n : ℕ). n + 12) (closing_same one other s) ∙ sym y.0, x.1 ∙ sym y.1);
  area_finish = λ d d' area area' tag tag' s e f.
      let x = (areas.reported).finish d area tag (inr e) in
      let y = (areas.reported).finish d' area' tag' (inr f) in
      let rounds = x.0 ∙ ap (λ (n : ℕ). n + 12) (closing_same (state_in area) (state_in area') s) ∙ sym y.0 in
      (same_word _ _ rounds (e ∙ sym f), x.1 ∙ sym y.1);
  walk = λ start start' A A' C C' calls calls' tag tag' set ad cipher m m' e f.
      let x = nine_walk start A C calls tag m e in
      let y = nine_walk start' A' C' calls' tag' m' f in
      (x.0 ∙ (λ j. message_rounds (row_of (set j)) (ad j) (cipher j)) ∙ sym y.0, x.1 ∙ sym y.1);
}

pub nines_alike : (m : Model) → Keeps m → NinesAlike m
nines_alike = of_kept NinesAlike alike

-- ---- one plaintext

-- a ciphertext is the sealing of its decryption alone, under that one's tag alone
sealed_once : (set : ℕ) (K N A C T T' P P' : List ℕ) → length K ≡ (row_of set).key
    → sealed (row_of set) K N A P ≡ record { cipher = C; tag = T } → sealed (row_of set) K N A P' ≡ record { cipher = C; tag = T' } → (P ≡ P') × (T ≡ T')
sealed_once set K N A C T T' P P' size e f = (
  sym (only_text (row_of set) (row_fits set) K size N A P C T e) ∙ only_text (row_of set) (row_fits set) K size N A P' C T' f,
  only_tag (row_of set) (row_fits set) K size N A P C T e ∙ sym (only_tag (row_of set) (row_fits set) K size N A P' C T' f),
)

-- what is opened is the decryption, under the tag that it comes to
opened_is : (set : ℕ) (K N A C T P : List ℕ) → opened (row_of set) K N A C T ≡ some P → let text = decrypted (row_of set) K N A C in
    (text.out ≡ P) × (T ≡ finalise (row_of set) K text.state)
unfolding opened
opened_is set K N A C T P = go (same T (finalise (row_of set) K (decrypted (row_of set) K N A C).state)) refl
  where
    go : (t : Bool) → same T (finalise (row_of set) K (decrypted (row_of set) K N A C).state) ≡ t → cond t (some (decrypted (row_of set) K N A C).out) none ≡ some P
        → ((decrypted (row_of set) K N A C).out ≡ P) × (T ≡ finalise (row_of set) K (decrypted (row_of set) K N A C).state)
    go true f e = (cc, same_eq T _ f)
    go false f e = absurd (off cc)

pub one_plaintext : OnePlaintext
one_plaintext = record {
  sealing = sealed_once;
  opening = λ set K N A C T T' P P' e f.
      let x = opened_is set K N A C T P e in
      let y = opened_is set K N A C T' P' f in
      (sym x.0 ∙ y.0, x.1 ∙ sym y.1);
}

-- an opening that is done had a key of the set's length
done_key : (set : ℕ) (K N A C T out : List ℕ) → (open_call set K N A C T out).outcome.answer ≡ Done → length K ≡ (row_of set).key
done_key set K N A C T out d =
    (message_passed set (length K) (length N) (length T) (length A) (length C) (length out) (tests_passed messages.ours listed set K N A C T out (unrefused _ (inl d)))).key_fits

-- and ciphertext and tag are the sealing of what it hands out
done_sealed : (set : ℕ) (K N A C T out : List ℕ) → let leaves = open_call set K N A C T out in
    leaves.outcome.answer ≡ Done → sealed (row_of set) K N A (take (length C) leaves.out) ≡ record { cipher = C; tag = T }
done_sealed set K N A C T out d = ((second_demand ours keeps).opens set K N A C T out (unrefused _ (inl d)) _).0 (d, refl)

-- and where what is left of its number by 16 is 0, it is done
done_word : (set : ℕ) (K N A C T out : List ℕ) → ((messages.ours).open_word set K N A C T out).word % 16 ≡ 0 → (open_call set K N A C T out).outcome.answer ≡ Done
done_word set K N A C T out nought = done_is _ (ap (λ (n : ℕ). eqb n 0) (sym (word_answer (open_call set K N A C T out).outcome.answer (open_call set K N A C T out).outcome.rounds) ∙ nought))

-- two that are done hand out one text, and have one tag
once_done : (set : ℕ) (K N A C T T' out out' : List ℕ) → let x = open_call set K N A C T out in
    let y = open_call set K N A C T' out' in
    x.outcome.answer ≡ Done → y.outcome.answer ≡ Done → (take (length C) x.out ≡ take (length C) y.out) × (T ≡ T')
once_done set K N A C T T' out out' d e = sealed_once set K N A C T T' _ _ (done_key set K N A C T out d) (done_sealed set K N A C T out d) (done_sealed set K N A C T' out' e)

once : OpensOnce ours
once = record {
  opening = once_done;
  boundary = λ set K N A C T T' out out' d e. once_done set K N A C T T' out out' (done_word set K N A C T out d) (done_word set K N A C T' out' e);
  stream = λ set limit limit' K N A C T T' calls calls' m m' d e.
      sealed_once set K N A C T T' _ _ (key _ m.started) (((cutting_does_not_matter.opens _ A C calls T refl m).plaintext _).0 (d, refl))
      (((cutting_does_not_matter.opens _ A C calls' T' refl m').plaintext _).0 (e, refl));
}

pub opens_once : (m : Model) → Keeps m → OpensOnce m
opens_once = of_kept OpensOnce once
