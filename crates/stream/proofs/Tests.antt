-- What the tests say, one byte at a time, and the bound of a round count.
use mathlib.Core.Path.{◌≡◌, refl, sym, ap, ◌∙◌}
use mathlib.Core.Bool.{Bool, true, false, cond, not, ◌&&◌, false≢true, and-eq-true_iff}
use mathlib.Core.List.{List, [], ◌∷◌}
use Prim.Native.Nat.{ℕ, zero, suc, ◌+◌, ◌-◌, ◌*◌, ◌/◌, ◌≤◌, ◌<◌}
use native.Mathlib.Nat.{le_trans, le-div_iff_mul-le, div-mul-le_self, mul-le-mul_right, div-le_self}
use native.Mathlib.Numerals.{add-one}
use native.Mathlib.Omega.{arith}
use lib.Dec.{eqb, leb, lit≤}
use lib.ListN.{length, get_or, drop}
use lib.Seq.{drop-cons}
use Rattle.std.specs.Prelude.{IsTrue, EachIndex, ◌↔◌}
use lib.Pointwise.{pointwise}
use Rattle.std.proofs.lemmas.Bool.Decides.{nat_tests}
use borrow.Author.Tests.{eqb-true, leb-true, not-false, eq-eqb}
use Rattle.answers.specs.declared.Answer.TheVariants.{Done, PastLimit, NoRoom}
use Rattle.answers.specs.Numbers.{is_done}
use Rattle.answers.specs.Order.{◌when◌}
use Rattle.answers.proofs.Order.{none_holds, first_append}
use Rattle.permutation.specs.Runs.{rounds_of}
use Rattle.permutation.specs.Strings.{zeros}
use Rattle.ascon.specs.Sets.{ParameterSet, row_of, text_limit}
use Rattle.std.specs.Prelude.{Result, Ok, Err}
use Rattle.answers.specs.declared.Answer.{Answer}
use Rattle.sets.specs.Start.{start_faults, start_test, tested}
use Rattle.sets.proofs.Rows.{Sizes, row_sizes}
use Rattle.sets.proofs.Start.{StartPassed, start_passed, ok_done, err_refused}
use Rattle.stream.specs.State.{rank_of, is_direction, gives_text, is_ad, is_open, fits, all_zero, is_sound}
use Rattle.stream.specs.Calls.{filled_rounds, closing_rounds, limited_start_test, piece_faults, piece_test, text_faults, text_test, finish_faults, finish_test}
use Rattle.stream.specs.declared.Direction.{Direction}
use Rattle.stream.specs.declared.Direction.TheVariants.{Sealing, Checking, Opening}
use Rattle.stream.specs.declared.Phase.{Phase}
use Rattle.stream.specs.declared.Phase.TheVariants.{Ad, Text, Ended}
use Rattle.stream.specs.declared.Stream.{Stream}
use Rattle.stream.specs.contracts.Phase.{the_type}
use denote.Enum.Declared.{tag_of}
use Rattle.stream.proofs.Sound.{sound_kept}

-- a test that says of a list whether each element is zero
pub all_zero_is : (xs : List ℕ) (r : Bool) → (IsTrue r ↔ EachIndex xs (λ k. get_or xs k 0 ≡ 0)) → r ≡ all_zero xs
all_zero_is xs true h = sym (each xs (h.0 refl))
  where
    each : (xs : List ℕ) → ((k : ℕ) → k < length xs → get_or xs k 0 ≡ 0) → all_zero xs ≡ true
    each [] h = refl
    each (x ∷ xs) h = rw (h 0 (omega arith)) (each xs (λ k l. h (suc k) (omega arith)))
all_zero_is xs false h = go (all_zero xs) refl
  where
    at : (xs : List ℕ) → all_zero xs ≡ true → (k : ℕ) → k < length xs → get_or xs k 0 ≡ 0
    at [] e k l = refl
    at (x ∷ xs) e zero l = eqb-true x 0 ((and-eq-true_iff (eqb x 0) (all_zero xs)).0 e).0
    at (x ∷ xs) e (suc k) l = at xs ((and-eq-true_iff (eqb x 0) (all_zero xs)).0 e).1 k (omega arith)

    go : (t : Bool) → all_zero xs ≡ t → false ≡ t
    go true f = absurd (false≢true (h.1 (at xs f)))
    go false f = refl

-- the element at i, and the rest: docs/PORT.md names this law, and no proof cites it any more
pub zero_left : (xs : List ℕ) (i : ℕ) → i < length xs → all_zero (drop i xs) ≡ (eqb (get_or xs i 0) 0 && all_zero (drop (i + 1) xs))
zero_left xs i h = rw (add-one i, drop-cons xs i 0 h)

-- zeros are all zero
pub zero_zeros : (n : ℕ) → all_zero (zeros n) ≡ true
zero_zeros zero = refl
zero_zeros (suc n) = zero_zeros n

pub div_mono : (x y : ℕ) {k : ℕ} → 0 < k → x ≤ y → x / k ≤ y / k
div_mono x y {k} pos h = (le-div_iff_mul-le pos).1 (le_trans (div-mul-le_self x k) h)

-- a piece within the limit runs few rounds
pub rounds_bound : (row : ParameterSet) → Sizes row → (count n : ℕ) → count + n ≤ text_limit → filled_rounds row count n ≤ 8_388_608
unfolding filled_rounds
rounds_bound row sizes count n h =
    let blocks : ℕ = (count + n) / row.block - count / row.block in
    let few : blocks ≤ text_limit = omega (arith, div-le_self (count + n) row.block) in
    let most : rounds_of row.between * blocks ≤ 8 * blocks = mul-le-mul_right blocks sizes.rounds in
    omega arith

-- closing the data runs few rounds
pub closing_bound : (s : Stream) → closing_rounds s ≤ 8
unfolding closing_rounds
closing_bound s = go (is_ad s.phase) (eqb s.ad 0)
  where
    go : (a b : Bool) → cond a (cond b 0 (rounds_of (row_of s.set).between)) 0 ≤ 8
    go true true = lit≤ tt
    go true false = (row_sizes s.set).rounds
    go false b = lit≤ tt

-- ---- directions

pub one_direction : (d e : Direction) → is_direction d e ≡ true → d ≡ e
one_direction Sealing Sealing h = refl
one_direction Sealing Checking h = absurd (false≢true h)
one_direction Sealing Opening h = absurd (false≢true h)
one_direction Checking Sealing h = absurd (false≢true h)
one_direction Checking Checking h = refl
one_direction Checking Opening h = absurd (false≢true h)
one_direction Opening Sealing h = absurd (false≢true h)
one_direction Opening Checking h = absurd (false≢true h)
one_direction Opening Opening h = refl

pub own_direction : (d : Direction) → is_direction d d ≡ true
own_direction d = eq-eqb (rank_of d) (rank_of d) refl

-- a call does not fit a stream of another direction
pub unfitting : (d : Direction) (s : Stream) → (s.direction ≡ d → ⊥) → fits d s ≡ false
unfitting d s other = go (is_open s.phase) (is_direction d s.direction) refl
  where
    go : (o t : Bool) → is_direction d s.direction ≡ t → (o && t) ≡ false
    go true true e = absurd (other (sym (one_direction d s.direction e)))
    go true false e = refl
    go false t e = refl

-- the code's test of a phase
pub ad_compared : (phase : Phase) → eqb (tag_of the_type phase) 0 ≡ is_ad phase
ad_compared Ad = refl
ad_compared Text = refl
ad_compared Ended = refl

-- ---- what passed tests say

-- a start's limit is tested behind its set, key and nonce
pub limited_start_test_is : (set key nonce limit : ℕ) → let answer = start_test set key nonce in
    limited_start_test set key nonce limit ≡ cond (is_done answer) (cond (not (leb limit text_limit)) PastLimit Done) answer
unfolding start_test limited_start_test
limited_start_test_is set key nonce limit = first_append (start_faults set key nonce) (PastLimit when not (leb limit text_limit) ∷ []) refl

-- what passed tests of a start say
pub record LimitedStartPassed (set key nonce limit : ℕ) : Type 0 where
  pub start : StartPassed set key nonce
  pub within : limit ≤ text_limit

-- they say it
pub limited_start_passed : (set key nonce limit : ℕ) → is_done (limited_start_test set key nonce limit) ≡ true → LimitedStartPassed set key nonce limit
limited_start_passed set key nonce limit e =
    go (is_done (start_test set key nonce)) refl (leb limit text_limit) refl (ap is_done (sym (limited_start_test_is set key nonce limit)) ∙ e)
  where
    go : (t : Bool) → is_done (start_test set key nonce) ≡ t → (u : Bool) → leb limit text_limit ≡ u
        → is_done (cond t (cond (not u) PastLimit Done) (start_test set key nonce)) ≡ true → LimitedStartPassed set key nonce limit
    go true f true g e = record { start = start_passed set key nonce f; within = leb-true limit text_limit g }
    go true f false g e = absurd (false≢true e)
    go false f u g e = absurd (false≢true (sym f ∙ e))

pub record PiecePassed (s : Stream) (fit : Bool) (count n limit : ℕ) : Type 0 where
  pub sound : is_sound s ≡ true
  pub in_phase : fit ≡ true
  pub within : count + n ≤ limit

pub piece_passed : (s : Stream) (fit : Bool) (count n limit : ℕ) → is_done (piece_test s fit count n limit) ≡ true → PiecePassed s fit count n limit
unfolding piece_test
piece_passed s fit count n limit e =
    let h = none_holds (piece_faults s fit (count + n) limit) refl e in
    record {
      sound = not-false (is_sound s) h.0;
      in_phase = not-false fit h.1.0;
      within = leb-true (count + n) limit (not-false (leb (count + n) limit) h.1.1.0);
    }

-- the room is tested behind the tests of a piece
pub text_test_is : (d : Direction) (s : Stream) (n room : ℕ) → let answer = piece_test s (fits d s) s.text n s.limit in
    text_test d s n room ≡ cond (is_done answer) (cond (gives_text d && not (leb n room)) NoRoom Done) answer
unfolding piece_test text_test
text_test_is d s n room = first_append (piece_faults s (fits d s) (s.text + n) s.limit) (NoRoom when (gives_text d && not (leb n room)) ∷ []) refl

-- so the tests of a piece refuse first, and the room is tested where they pass
pub text_refused : (d : Direction) (s : Stream) (n room : ℕ) {fit : Bool} {r : Result (Unit {0}) Answer} {given : Answer}
    → fit ≡ fits d s → r ≡ tested (piece_test s fit s.text n s.limit) → r ≡ Err given → Err given ≡ tested (text_test d s n room)
text_refused d s n room f e o =
    let h = err_refused (piece_test s (fits d s) s.text n s.limit) o (rw (← f) e) in
    rw (text_test_is d s n room, h.not_done, h.not_done) (rw (h.is))

pub text_roomy : (d : Direction) (s : Stream) (n room : ℕ) {fit : Bool} {r : Result (Unit {0}) Answer} {u : Unit {0}}
    → fit ≡ fits d s → r ≡ tested (piece_test s fit s.text n s.limit) → r ≡ Ok u
    → text_test d s n room ≡ cond (gives_text d && not (leb n room)) NoRoom Done
text_roomy d s n room f e o = text_test_is d s n room ∙ rw (ok_done (piece_test s (fits d s) s.text n s.limit) o (rw (← f) e))

pub record TextPassed (d : Direction) (s : Stream) (n room : ℕ) : Type 0 where
  pub piece : PiecePassed s (fits d s) s.text n s.limit
  pub room_fits : gives_text d ≡ true → n ≤ room

pub text_passed : (d : Direction) (s : Stream) (n room : ℕ) → is_done (text_test d s n room) ≡ true → TextPassed d s n room
unfolding text_test piece_test
text_passed d s n room e =
    let h = none_holds (text_faults d s n room) refl e in
    record {
      piece = record {
        sound = not-false (is_sound s) h.0;
        in_phase = not-false (fits d s) h.1.0;
        within = leb-true (s.text + n) s.limit (not-false (leb (s.text + n) s.limit) h.1.1.0);
      };
      room_fits = λ g. leb-true n room (not-false (leb n room) (ap (λ (t : Bool). t && not (leb n room)) (sym g) ∙ h.1.1.1.0));
    }

-- so the text stays within the largest limit
pub within_largest : (d : Direction) (s : Stream) (n room : ℕ) → TextPassed d s n room → s.text + n ≤ text_limit
within_largest d s n room passed =
    let o = ((and-eq-true_iff (is_open s.phase) (is_direction d s.direction)).0 passed.piece.in_phase).0 in
    omega (arith, passed.piece.within, leb-true s.limit text_limit (sound_kept s o passed.piece.sound).limit)

pub record FinishPassed (d : Direction) (s : Stream) (n : ℕ) : Type 0 where
  pub sound : is_sound s ≡ true
  pub in_phase : fits d s ≡ true
  pub tag_fits : n ≡ (row_of s.set).key

pub finish_passed : (d : Direction) (s : Stream) (n : ℕ) → is_done (finish_test d s n) ≡ true → FinishPassed d s n
unfolding finish_test
finish_passed d s n e =
    let h = none_holds (finish_faults d s n) refl e in
    record {
      sound = not-false (is_sound s) h.0;
      in_phase = not-false (fits d s) h.1.0;
      tag_fits = eqb-true n (row_of s.set).key (not-false (eqb n (row_of s.set).key) h.1.1.0);
    }

-- ---- the ended state

-- a list of zeros, by `==`
pub pointwise_zeros : (xs : List ℕ) (n : ℕ) → length xs ≡ n → pointwise eqb xs (zeros n) ≡ all_zero xs
pointwise_zeros [] zero h = refl
pointwise_zeros [] (suc n) h = absurd (omega arith)
pointwise_zeros (x ∷ xs) zero h = absurd (omega arith)
pointwise_zeros (x ∷ xs) (suc n) h = ap (λ (t : Bool). eqb x 0 && t) (pointwise_zeros xs n (omega arith))

-- the tests of two orders
pub reordered : (w s d k r : Bool) → (w && (s && (d && (k && r)))) ≡ (w && (k && (d && (s && r))))
reordered w s d k r = grind (arith, nat_tests)
