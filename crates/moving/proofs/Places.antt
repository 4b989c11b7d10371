-- All records of a text in a place: refused, without room, or put.
use mathlib.Core.Path.{◌≡◌, refl}
use mathlib.Core.Bool.{Bool, true, false, cond, true≢false, false≢true}
use mathlib.Core.List.{List, [], ◌++◌}
use Prim.Native.Nat.{ℕ, zero, suc, ◌+◌, ◌≤◌, ◌<◌}
use native.Mathlib.Omega.{arith}
use lib.Dec.{eqb, leb}
use Rattle.std.proofs.Common.{Err}
use lib.ListN.{length, drop}
use borrow.Author.Tests.{leb-true, le-leb, lt-leb, ne_eqb}
use Rattle.answers.specs.declared.Answer.{Answer}
use Rattle.answers.specs.declared.Answer.TheVariants.{UnknownSet, NoRoom}
use Rattle.answers.specs.Numbers.{number_of, is_done}
use Rattle.moving.specs.declared.route.Route.{Route}
use Rattle.moving.specs.declared.all.UnmovedAll.{UnmovedAll}
use Rattle.moving.specs.declared.all.UnmovedAll.TheVariants as unmoved_all
use Rattle.moving.specs.Moves.{is_known, Whole, whole, stopped, moved_all, text_in, is_whole, all_leaves, refused_all, moving_all_of, summary, all_by, move_all_call}
use Rattle.moving.proofs.Steps.{onward, next, loses, steps, grows}

-- what is refused is refused by another answer than 0 and 6, and by a number from 1 on, unless it is the set that is unknown
pub record Refuses (answer : Answer) (number : ℕ) : Type 0 where
  pub some : 1 ≤ number_of answer
  pub other : number_of answer ≡ 6 → ⊥
  pub counted : (answer ≡ UnknownSet → ⊥) → 1 ≤ number

abbrev pub Stops : Whole → Type 0
Stops (whole count moved) = Unit {0}
Stops (stopped answer number line column) = Refuses answer number

-- in so many steps
stops_in : (route : Route) (n count : ℕ) (before text : List ℕ) → Stops (steps route n count before text)
stops_in route zero count before text = tt
stops_in route (suc n) count before text =
    let reading = next route count text in
    go (eqb (length text) 0) (is_done reading.answer) (loses route reading) reading.line reading.column _
    (stops_in route n (count + 1) (grows route count before reading) (drop reading.taken text))
  where
    go : (a b c : Bool) (line column : ℕ) (rest : Whole) → Stops rest → Stops (cond a (whole count before) (onward b c count line column rest))
    go true b c line column rest e = tt
    go false false c line column rest e = record { some = omega arith; other = λ z. omega arith; counted = λ n. omega arith }
    go false true true line column rest e = record { some = omega arith; other = λ z. omega arith; counted = λ n. omega arith }
    go false true false line column rest e = e

-- and so in all
pub all_stops : (route : Route) (text : List ℕ) → Stops (moved_all route text)
unfolding moved_all
all_stops route text = go (is_known route)
  where
    go : (b : Bool) → Stops (cond b (steps route (length text) 0 [] text) (stopped UnknownSet 0 0 0))
    go true = stops_in route (length text) 0 [] text
    go false = record { some = omega arith; other = λ z. omega arith; counted = λ n. absurd (n refl) }

-- a text whose records can all be moved has a known route
pub whole_route : (route : Route) (text : List ℕ) → is_whole (moved_all route text) ≡ true → is_known route ≡ true
unfolding moved_all
whole_route route text = go (is_known route) refl
  where
    go : (b : Bool) → is_known route ≡ b → is_whole (cond b (steps route (length text) 0 [] text) (stopped UnknownSet 0 0 0)) ≡ true → is_known route ≡ true
    go true k w = k
    go false k w = absurd (false≢true w)

-- a refusal is not done
pub refuses : (why : UnmovedAll) → is_done (moving_all_of (Err why)).answer ≡ false
unfolding refused_all
refuses unmoved_all.UnknownSet = refl
refuses (unmoved_all.Broken number line column) = refl
refuses (unmoved_all.ChipLost number) = refl
refuses unmoved_all.NoRoom = refl

-- so moving all is done exactly where none is refused
pub all_whole : (w : Whole) → Stops w → is_done (summary w).answer ≡ is_whole w
unfolding refused_all
all_whole (whole count moved) s = refl
all_whole (stopped answer number line column) s = ne_eqb (number_of answer) 0 (λ e. omega (arith, s.some))

-- records of which one is refused
pub all_refused : (w : Whole) (out : List ℕ) → is_whole w ≡ false → all_leaves (summary w) out ≡ all_by w out
all_refused (whole count moved) out e = absurd (true≢false e)
all_refused (stopped answer number line column) out e = refl

-- records none of which is refused have the bytes of their text
pub whole_length : (w : Whole) → is_whole w ≡ true → (summary w).written ≡ length (text_in w)
whole_length (whole count moved) e = refl
whole_length (stopped answer number line column) e = absurd (false≢true e)

-- they have no room
pub all_short : (w : Whole) (out : List ℕ) → is_whole w ≡ true → length out < length (text_in w) → all_leaves (refused_all NoRoom 0 0 0) out ≡ all_by w out
all_short (whole count moved) out e h = rw (lt-leb (length moved) (length out) h)
all_short (stopped answer number line column) out e h = absurd (false≢true e)

-- or they are put
pub all_put : (w : Whole) (out : List ℕ) → is_whole w ≡ true → length (text_in w) ≤ length out
    → all_leaves (summary w) (text_in w ++ drop (length (text_in w)) out) ≡ all_by w out
all_put (whole count moved) out e h = rw (le-leb (length moved) (length out) h)
all_put (stopped answer number line column) out e h = absurd (false≢true e)

-- no more is written than there is room
pub written_inside : (route : Route) (text out : List ℕ) → (move_all_call route text out).outcome.written ≤ length out
unfolding move_all_call refused_all
written_inside route text out = go (moved_all route text)
  where
    by : (count : ℕ) (moved : List ℕ) (b : Bool) → leb (length moved) (length out) ≡ b
        → (cond b (summary (whole count moved)) (refused_all NoRoom 0 0 0)).written ≤ length out
    by count moved true e = leb-true (length moved) (length out) e
    by count moved false e = omega arith

    go : (w : Whole) → (all_by w out).outcome.written ≤ length out
    go (whole count moved) = by count moved (leb (length moved) (length out)) refl
    go (stopped answer number line column) = omega arith
