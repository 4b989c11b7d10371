-- A call on a stream runs few rounds.
use mathlib.Core.Path.{◌≡◌, refl}
use mathlib.Core.Bool.{Bool, true, false, cond}
use mathlib.Core.List.{List}
use Prim.Native.Nat.{ℕ, ◌≤◌}
use native.Mathlib.Omega.{arith}
use lib.ListN.{length}
use Rattle.answers.specs.Numbers.{is_done}
use Rattle.ascon.specs.Sets.{row_of, ad_limit}
use Rattle.sets.proofs.Rows.{row_sizes}
use Rattle.stream.specs.declared.Direction.{Direction}
use Rattle.stream.specs.declared.Stream.{Stream}
use Rattle.stream.specs.declared.Outcome.{Outcome}
use Rattle.stream.specs.State.{is_ad}
use Rattle.stream.specs.Calls.{limited_start_test, piece_test, text_test, finish_test, Start, start_call, ad_call, took_text, Called, text_call, finish_call}
use Rattle.stream.proofs.Tests.{rounds_bound, closing_bound, piece_passed, text_passed, within_largest}

-- as many as a whole message may run
abbrev pub most_rounds : ℕ
most_rounds = 8_912_928

-- of two outcomes the one that was chosen
few : (t : Bool) (one other : Outcome) → (t ≡ true → one.rounds ≤ most_rounds) → other.rounds ≤ most_rounds → (cond t one other).rounds ≤ most_rounds
few true one other h k = h refl
few false one other h k = k

-- of two calls
few_called : (t : Bool) (one other : Called) → (t ≡ true → one.outcome.rounds ≤ most_rounds) → other.outcome.rounds ≤ most_rounds → (cond t one other).outcome.rounds ≤ most_rounds
few_called true one other h k = h refl
few_called false one other h k = k

pub start_few : (start : Start) → (start_call start).rounds ≤ most_rounds
unfolding start_call
start_few start = few (is_done (limited_start_test start.set (length start.key) (length start.nonce) start.limit)) _ _ (λ e. omega arith) (omega arith)

pub ad_few : (s : Stream) (piece : List ℕ) → (ad_call s piece).rounds ≤ most_rounds
unfolding ad_call
ad_few s piece =
    few (is_done (piece_test s (is_ad s.phase) s.ad (length piece) ad_limit)) _ _
    (λ e.
    let passed = piece_passed s (is_ad s.phase) s.ad (length piece) ad_limit e in
    omega (arith, rounds_bound (row_of s.set) (row_sizes s.set) s.ad (length piece) (omega (arith, passed.within))))
    (omega arith)

pub text_few : (d : Direction) (s : Stream) (piece out : List ℕ) → (text_call d s piece out).outcome.rounds ≤ most_rounds
unfolding text_call took_text
text_few d s piece out =
    few_called (is_done (text_test d s (length piece) (length out))) _ _
    (λ e.
    let within = within_largest d s (length piece) (length out) (text_passed d s (length piece) (length out) e) in
    omega (arith, closing_bound s, rounds_bound (row_of s.set) (row_sizes s.set) s.text (length piece) within))
    (omega arith)

pub finish_few : (d : Direction) (s : Stream) (tag : List ℕ) → (finish_call d s tag).outcome.rounds ≤ most_rounds
unfolding finish_call
finish_few d s tag = few_called (is_done (finish_test d s (length tag))) _ _ (λ e. omega (arith, closing_bound s)) (omega arith)
