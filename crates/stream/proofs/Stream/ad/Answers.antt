-- `stream::Stream::ad` meets its contract.
use mathlib.Core.Path.{◌≡◌, ap, ◌∙◌}
use mathlib.Core.Bool.{Bool}
use Prim.Native.Nat.{ℕ, ◌+◌, ◌%◌}
use native.Mathlib.Omega.{arith}
use lib.ListN.{length}
use Rattle.std.proofs.Common.{Result}
use Rattle.answers.specs.declared.Answer.{Answer}
use Rattle.answers.specs.declared.Answer.TheVariants.{Done}
use Rattle.ascon.specs.Sets.{ad_limit}
use Rattle.sets.specs.Start.{tested}
use Rattle.sets.proofs.Start.{ok_done, err_chosen, ok_chosen}
use Rattle.stream.specs.declared.Stream.{Stream}
use Rattle.stream.specs.State.{is_ad}
use Rattle.stream.specs.Calls.{refused, piece_test, took_ad, ad_call}
use Rattle.stream.proofs.Tests.{ad_compared, piece_passed}
use Rattle.stream.proofs.Stream.ad.Goals as goal

-- the code's test is the published one, by the phase
by_phase : (s : Stream) (n : ℕ) {fit : Bool} {r : Result (Unit {0}) Answer} → fit ≡ is_ad s.phase → r ≡ tested (piece_test s fit s.ad n ad_limit)
    → r ≡ tested (piece_test s (is_ad s.phase) s.ad n ad_limit)
by_phase s n e t = t ∙ ap (λ (f : Bool). tested (piece_test s f s.ad n ad_limit)) e

pub returns-in-Err : goal.returns-in-Err
unfolding ad_call
returns-in-Err c =
    let s = c.args.self in
    let piece = c.args.piece.now in
    c.refusal.ensures
    ∙ err_chosen (piece_test s (is_ad s.phase) s.ad (length piece) ad_limit) (λ (a : Answer). refused a s) (took_ad s piece) c.in-Err.is
    (by_phase s (length piece) (c.eq-fit.ensures ∙ ad_compared s.phase) c.piece_test.ensures)

pub overflow_add-ad : goal.overflow_add-ad
overflow_add-ad c =
    let s = c.args.self in
    let h = piece_passed s _ s.ad (length c.args.piece.now) ad_limit (ok_done _ c.in_default.is c.piece_test.ensures) in
    omega (arith, h.within)

pub filled_rounds-requires : goal.filled_rounds-requires
filled_rounds-requires c =
    let s = c.args.self in
    let h = piece_passed s _ s.ad (length c.args.piece.now) ad_limit (ok_done _ c.in_default.is c.piece_test.ensures) in
    omega (arith, h.within)

pub returns : goal.returns
unfolding ad_call
returns c =
    let s = c.args.self in
    let piece = c.args.piece.now in
    let n = length piece in
    (λ j. record {
      answer = Done;
      rounds = c.filled_rounds.ensures j;
      next = record {
        words = c.absorb.ensures j;
        set = s.set;
        direction = s.direction;
        phase = s.phase;
        key = s.key;
        ad = s.ad + n;
        text = s.text;
        place = (s.ad + n) % c.block_length.ensures j;
        limit = s.limit;
      };
    })
    ∙ ok_chosen (piece_test s (is_ad s.phase) s.ad n ad_limit) (took_ad s piece) _ c.in_default.is
    (by_phase s n (c.eq-fit.ensures ∙ ad_compared s.phase) c.piece_test.ensures)
