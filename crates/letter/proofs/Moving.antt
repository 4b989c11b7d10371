-- Moving records from one kind of text to another: what is said of its calls holds.
use mathlib.Core.Path.{◌≡◌, refl, sym, ap}
use mathlib.Core.Bool.{Bool, true, false, cond, not}
use mathlib.Core.List.{List, [], ◌∷◌, ◌++◌}
use Prim.Native.Nat.{ℕ, zero, suc, ◌+◌}
use native.Mathlib.Omega.{arith}
use lib.ListN.{length, drop}
use lib.Dec.{eqb, leb}
use Rattle.std.specs.Prelude.{Result, Ok, Err}
use Rattle.answers.specs.declared.Answer.{Answer}
use Rattle.answers.specs.declared.Answer.TheVariants.{Done, UnknownSet, NoRoom, BrokenRecord, ChipLost}
use Rattle.answers.specs.Numbers.{number_of, is_done}
use Rattle.answers.specs.Order.{first, ◌when◌}
use Rattle.answers.proofs.Numbers.{done_is}
use Rattle.record.specs.Form.{lines_in, loses_chip}
use Rattle.lines.specs.Tables as tables
use Rattle.record.specs.declared.form.Form.TheVariants.{One, Two}
use Rattle.record.specs.declared.form.Record.{Record}
use Rattle.record.specs.Calls as record-calls
use Rattle.record.specs.Calls.{Reading, refused_at, read_as, read_call}
use Rattle.record.proofs.Laws.{done_broken}
use Rattle.ascon.specs.Sets.{is_set}
use Rattle.entry.specs.Calls as entry-calls
use Rattle.entry.specs.Calls.{read_entry}
use Rattle.moving.specs.declared.route.Route.{Route}
use Rattle.moving.specs.declared.route.Route.TheVariants.{Forward, Back, Import, Export}
use Rattle.moving.specs.declared.one.Moved.{Moved}
use Rattle.moving.specs.declared.one.Unmoved.{Unmoved}
use Rattle.moving.specs.declared.one.Unmoved.TheVariants as unmoved
use Rattle.moving.specs.declared.all.MovedAll.{MovedAll}
use Rattle.moving.specs.declared.all.UnmovedAll.{UnmovedAll}
use Rattle.moving.specs.declared.all.UnmovedAll.TheVariants as unmoved_all
use Rattle.moving.specs.Moves.{Moving, MovingAll, moving_of, moving_all_of, moved_in, moved_all_as, is_known, read_on, read_by, form_by, text_by, MoveLeaves, move_leaves, refused_move, moved_as, move_call, all_leaves, Whole, whole, stopped, moved_all, text_in, outcome_in, refused_all, all_by, move_all_call}
use Rattle.moving.specs.Laws.{Counts}
use Rattle.moving.proofs.Places.{Stops, all_stops}
use Rattle.moving.proofs as moving-crate
use Rattle.letter.specs.Calls.{lent, lent_mut, Refused}
use Rattle.letter.specs.Moving.{Model, ours, Keeps, EveryCall, Told, Listed, Unchanged, Reported}
use Rattle.letter.proofs.Calls as calls
use Rattle.letter.proofs.Calls.{answered, lifetimes, seen_as, off}

-- ---- the calls

-- calls that keep the contracts are ours
pub is_ours : (m : Model) → Keeps m → m ≡ ours
is_ours m k =
    λ j. record {
      one = λ route number text out. seen_as (λ w. move_leaves w (m.one route number text out).out) (k.one route number (lent text) (lent_mut out) (lifetimes 2)) j;
      all = λ route text out. seen_as (λ w. all_leaves w (m.all route text out).out) (k.all route (lent text) (lent_mut out) (lifetimes 2)) j;
    }

-- each is answered
pub every_call : EveryCall
every_call =
    record {
      moving_move_record = answered (λ M. moving-crate.move_record.Met.met) (λ κ a. tt) (λ κ a r e p. p);
      moving_move_all = answered (λ M. moving-crate.move_all.Met.met) (λ κ a. tt) (λ κ a r e p. p);
    }

-- what is seen tells the result
pub told : Told
unfolding refused_move moved_as refused_all
told = record { one = calls.told one_back one_undone; all = calls.told all_back all_undone }
  where
    one_back : Moving → Result Moved Unmoved
    one_back q =
        cond (is_done q.answer) (Ok (record { taken = q.taken; written = q.written }))
        (cond (eqb (number_of q.answer) 1) (Err unmoved.UnknownSet)
        (cond (eqb (number_of q.answer) 10) (Err (unmoved.Broken q.line q.column)) (cond (eqb (number_of q.answer) 11) (Err unmoved.ChipLost) (Err unmoved.NoRoom))))

    one_undone : (r : Result Moved Unmoved) → one_back (moving_of r) ≡ r
    one_undone (Ok moved) = refl
    one_undone (Err unmoved.UnknownSet) = refl
    one_undone (Err (unmoved.Broken line column)) = refl
    one_undone (Err unmoved.ChipLost) = refl
    one_undone (Err unmoved.NoRoom) = refl

    all_back : MovingAll → Result MovedAll UnmovedAll
    all_back q =
        cond (is_done q.answer) (Ok (record { records = q.records; written = q.written }))
        (cond (eqb (number_of q.answer) 1) (Err unmoved_all.UnknownSet)
        (cond (eqb (number_of q.answer) 10) (Err (unmoved_all.Broken q.records q.line q.column))
        (cond (eqb (number_of q.answer) 11) (Err (unmoved_all.ChipLost q.records)) (Err unmoved_all.NoRoom))))

    all_undone : (r : Result MovedAll UnmovedAll) → all_back (moving_all_of r) ≡ r
    all_undone (Ok moved) = refl
    all_undone (Err unmoved_all.UnknownSet) = refl
    all_undone (Err (unmoved_all.Broken number line column)) = refl
    all_undone (Err (unmoved_all.ChipLost number)) = refl
    all_undone (Err unmoved_all.NoRoom) = refl

-- ---- one record

module _ (route : Route) (number : ℕ) (reading : Reading) (out : List ℕ) where
  -- what is left of one record, by its four tests
  answer : Bool → Bool → Bool → Bool → Answer
  answer known read lost room = first Done (UnknownSet when not known ∷ BrokenRecord when not read ∷ ChipLost when lost ∷ NoRoom when not room ∷ [])

  done : MoveLeaves
  done =
      let moved = text_by route number reading.content in
      move_leaves (moved_as reading.taken (length moved)) (moved ++ drop (length moved) out)

  leaves : Bool → Bool → Bool → Bool → MoveLeaves
  leaves known read lost room =
      cond (is_done (answer known read lost room)) done (move_leaves (refused_move (answer known read lost room) reading.line reading.column) out)

  -- what is said of it
  record Said (known read lost room : Bool) : Type 0 where
    is : (leaves known read lost room).outcome.answer ≡ answer known read lost room
    kept : Refused (leaves known read lost room).outcome.answer
        → ((leaves known read lost room).out ≡ out) × ((leaves known read lost room).outcome.taken ≡ 0) × ((leaves known read lost room).outcome.written ≡ 0)
    stands : let moved = text_by route number reading.content in
        (leaves known read lost room).outcome.answer ≡ Done
        → ((leaves known read lost room).outcome.taken ≡ reading.taken) × ((leaves known read lost room).outcome.written ≡ length moved)
        × ((leaves known read lost room).out ≡ moved ++ drop (length moved) out)

  said : (known read lost room : Bool) → Said known read lost room
  unfolding answer done leaves refused_move moved_as
  said true true false true = record { is = refl; kept = λ r. absurd (r.0 refl); stands = λ e. (refl, refl, refl) }
  said true true false false = record { is = refl; kept = λ r. (refl, refl, refl); stands = λ e. absurd (let z : ◌≡◌ {A = ℕ} 6 0 = ap number_of e in omega arith) }
  said true true true room = record { is = refl; kept = λ r. (refl, refl, refl); stands = λ e. absurd (let z : ◌≡◌ {A = ℕ} 11 0 = ap number_of e in omega arith) }
  said true false lost room = record { is = refl; kept = λ r. (refl, refl, refl); stands = λ e. absurd (let z : ◌≡◌ {A = ℕ} 10 0 = ap number_of e in omega arith) }
  said false read lost room = record { is = refl; kept = λ r. (refl, refl, refl); stands = λ e. absurd (let z : ◌≡◌ {A = ℕ} 1 0 = ap number_of e in omega arith) }

-- one record, by what is read of it
one_said : (route : Route) (number : ℕ) (text out : List ℕ) → let reading = read_by route number text in
    Said route number reading out (is_known route) (is_done reading.answer) (loses_chip (form_by route) reading.content) (leb (length (text_by route number reading.content)) (length out))
one_said route number text out = let reading = read_by route number text in said route number reading out _ _ _ _

-- it is what the call leaves
one_is : (route : Route) (number : ℕ) (text out : List ℕ) → let reading = read_by route number text in
    move_call route number text out
    ≡ leaves route number reading out (is_known route) (is_done reading.answer) (loses_chip (form_by route) reading.content) (leb (length (text_by route number reading.content)) (length out))
unfolding move_call leaves answer done
one_is route number text out = refl

-- a reading of the lines of a table that is done has line 0 and column 0, in form 1 or 2, and of an entry
record_place : (o : tables.Outcome Record) → let reading = record-calls.answered o in reading.answer ≡ Done → (reading.line ≡ 0) × (reading.column ≡ 0)
unfolding read_as refused_at
record_place (tables.whole taken r) d = (refl, refl)
record_place (tables.broken_at line column early) d = absurd (done_broken (sym d))

entry_place : (o : tables.Outcome Record) → let reading = entry-calls.answered o in reading.answer ≡ Done → (reading.line ≡ 0) × (reading.column ≡ 0)
unfolding read_as refused_at
entry_place (tables.whole taken r) d = (refl, refl)
entry_place (tables.broken_at line column early) d = absurd (done_broken (sym d))

-- so a text that is read has them
no_place : (route : Route) (number : ℕ) (text : List ℕ) → let reading = read_by route number text in
    reading.answer ≡ Done → (reading.line ≡ 0) × (reading.column ≡ 0)
unfolding read_call read_entry
no_place Forward number text d = record_place (record-calls.lines_of One (lines_in One) text) d
no_place Back number text d = record_place (record-calls.lines_of Two (lines_in Two) text) d
no_place (Import set) number text d = go (is_set set) d
  where
    go : (known : Bool) → let reading = cond known (entry-calls.answered (entry-calls.lines_of set number 7 text)) entry-calls.unknown in
        reading.answer ≡ Done → (reading.line ≡ 0) × (reading.column ≡ 0)
    go true d = entry_place (entry-calls.lines_of set number 7 text) d
    go false d = (refl, refl)
no_place Export number text d = record_place (record-calls.lines_of One (lines_in One) text) d

-- as one has that no route takes up
unknown_place : (route : Route) (number : ℕ) (text : List ℕ) → is_known route ≡ false → let reading = read_by route number text in (reading.line ≡ 0) × (reading.column ≡ 0)
unfolding read_entry
unknown_place Forward number text e = absurd (off (cc e))
unknown_place Back number text e = absurd (off (cc e))
unknown_place (Import set) number text e = rw e (refl, refl)
unknown_place Export number text e = absurd (off (cc e))

-- so one record has the line and column of its reading
one_place : (route : Route) (number : ℕ) (text out : List ℕ) → Counts route number → let reading = read_by route number text in
    let outcome = (move_call route number text out).outcome in
    (outcome.line ≡ reading.line) × (outcome.column ≡ reading.column)
unfolding leaves answer done refused_move moved_as
one_place route number text out c =
    rw (one_is route number text out)
    (go (is_known route) (is_done reading.answer) (loses_chip (form_by route) reading.content) (leb (length (text_by route number reading.content)) (length out)) refl)
  where
    reading : Reading
    reading = read_by route number text

    go : (known read lost room : Bool) → is_done reading.answer ≡ read → let outcome = (leaves route number reading out known read lost room).outcome in
        (outcome.line ≡ reading.line) × (outcome.column ≡ reading.column)
    go true true false true e = let n = no_place route number text (done_is reading.answer e) in (sym n.0, sym n.1)
    go true true false false e = (refl, refl)
    go true true true room e = (refl, refl)
    go true false lost room e = (refl, refl)
    go false read lost room e = (refl, refl)

-- what moving one record answers is seen of a result
one_shown : (route : Route) (number : ℕ) (text out : List ℕ) → (r : Result Moved Unmoved) × (moving_of r ≡ (move_call route number text out).outcome)
unfolding leaves answer done
one_shown route number text out =
    rw (one_is route number text out)
    (go (is_known route) (is_done reading.answer) (loses_chip (form_by route) reading.content) (leb (length (text_by route number reading.content)) (length out)) refl refl)
  where
    reading : Reading
    reading = read_by route number text

    at_nought : (a : Answer) → (reading.line ≡ 0) × (reading.column ≡ 0) → refused_move a 0 0 ≡ refused_move a reading.line reading.column
    at_nought a n = λ j. refused_move a (sym n.0 j) (sym n.1 j)

    go : (known read lost room : Bool) → is_known route ≡ known → is_done reading.answer ≡ read
        → (r : Result Moved Unmoved) × (moving_of r ≡ (leaves route number reading out known read lost room).outcome)
    go true true false true k e = (Ok (record { taken = reading.taken; written = length (text_by route number reading.content) }), refl)
    go true true false false k e = (Err unmoved.NoRoom, at_nought NoRoom (no_place route number text (done_is reading.answer e)))
    go true true true room k e = (Err unmoved.ChipLost, at_nought ChipLost (no_place route number text (done_is reading.answer e)))
    go true false lost room k e = (Err (unmoved.Broken reading.line reading.column), refl)
    go false read lost room k e = (Err unmoved.UnknownSet, at_nought UnknownSet (unknown_place route number text k))

-- ---- all records of a text

-- what moving them came to is seen of a result, in so much room
abbrev Seen : Whole → ℕ → Type 0
Seen w room = (r : Result MovedAll UnmovedAll) × (moving_all_of r ≡ outcome_in w room)

-- records that can be moved
whole_seen : (count : ℕ) (moved : List ℕ) (room : ℕ) → Seen (whole count moved) room
whole_seen count moved room = go (leb (length moved) room)
  where
    go : (roomy : Bool) → (r : Result MovedAll UnmovedAll) × (moving_all_of r ≡ cond roomy (moved_all_as count (length moved)) (refused_all NoRoom 0 0 0))
    go true = (Ok (record { records = count; written = length moved }), refl)
    go false = (Err unmoved_all.NoRoom, refl)

-- those that are left
left_seen : (read : ℕ → List ℕ → Reading) (route : Route) (steps count : ℕ) (done text : List ℕ) (room : ℕ) → Seen (moved_in read route steps count done text) room
left_seen read route zero count done text room = whole_seen count done room
left_seen read route (suc steps) count done text room =
    go _ (eqb (length text) 0) (is_done reading.answer) (loses_chip (form_by route) reading.content) (left_seen read route steps (count + 1) _ (drop reading.taken text) room)
  where
    reading : Reading
    reading = read (count + 1) text

    go : (next : Whole) (over is lost : Bool) → Seen next room
        → Seen (cond over (whole count done) (cond is (cond lost (stopped ChipLost (count + 1) 0 0) next) (stopped BrokenRecord (count + 1) reading.line reading.column))) room
    go next true is lost s = whole_seen count done room
    go next false true true s = (Err (unmoved_all.ChipLost (count + 1)), refl)
    go next false true false s = s
    go next false false lost s = (Err (unmoved_all.Broken (count + 1) reading.line reading.column), refl)

-- what is said of what moving them came to
record AllSaid (w : Whole) (out : List ℕ) : Type 0 where
  is : (all_by w out).outcome ≡ outcome_in w (length out)
  kept : Refused (all_by w out).outcome.answer → ((all_by w out).out ≡ out) × ((all_by w out).outcome.written ≡ 0)
  stands : (all_by w out).outcome.answer ≡ Done
      → ((all_by w out).outcome.written ≡ length (text_in w)) × ((all_by w out).out ≡ text_in w ++ drop (length (text_in w)) out)

all_said : (w : Whole) (out : List ℕ) → Stops w → AllSaid w out
unfolding refused_all
all_said (whole count moved) out s = go (leb (length moved) (length out)) refl
  where
    go : (room : Bool) → leb (length moved) (length out) ≡ room → AllSaid (whole count moved) out
    go true e = record { is = refl; kept = rw e (λ r. absurd (r.0 refl)); stands = rw e (λ d. (refl, refl)) }
    go false e = record { is = refl; kept = rw e (λ r. (refl, refl)); stands = rw e (λ d. absurd (let z : ◌≡◌ {A = ℕ} 6 0 = ap number_of d in omega arith)) }
all_said (stopped answer number line column) out s =
    record { is = refl; kept = λ r. (refl, refl); stands = λ d. absurd (let z : number_of answer ≡ 0 = ap number_of d in omega (arith, s.some)) }

-- of a text
all_of : (route : Route) (text out : List ℕ) → AllSaid (moved_all route text) out
all_of route text out = all_said (moved_all route text) out (all_stops route text)

-- so of all records of a text
all_shown : (route : Route) (text out : List ℕ) → (r : Result MovedAll UnmovedAll) × (moving_all_of r ≡ (move_all_call route text out).outcome)
unfolding move_all_call moved_all
all_shown route text out = rw (all_of route text out).is (go (is_known route))
  where
    go : (known : Bool) → (r : Result MovedAll UnmovedAll)
        × (moving_all_of r ≡ outcome_in (cond known (moved_in (read_by route) route (length text) 0 [] text) (stopped UnknownSet 0 0 0)) (length out))
    go true = left_seen (read_by route) route (length text) 0 [] text (length out)
    go false = (Err unmoved_all.UnknownSet, refl)

-- ---- what is said of both

-- our own calls keep the contracts
pub keeps : Keeps ours
keeps =
    record {
      one = λ route number text out κ.
          let s = one_shown route number text.now out.now in (s.0, (s.1, ap (λ w. move_leaves w (move_call route number text.now out.now).out) s.1));
      all = λ route text out κ. let s = all_shown route text.now out.now in (s.0, (s.1, ap (λ w. all_leaves w (move_all_call route text.now out.now).out) s.1));
    }

-- each answer is listed
pub listed : Listed (read_on read_call read_entry) ours
unfolding move_all_call moved_all answer
listed =
    record {
      one = λ route number text out. rw (one_is route number text out) (one_said route number text out).is;
      one_line = λ route number text out c. (one_place route number text out c).0;
      one_column = λ route number text out c. (one_place route number text out c).1;
      all = λ route text out. (all_of route text out).is;
    }

-- each refusal changes nothing
pub unchanged : Unchanged ours
unfolding move_all_call
unchanged =
    record {
      one = λ route number text out. rw (one_is route number text out) (one_said route number text out).kept;
      all = λ route text out. (all_of route text out).kept;
    }

-- what each reports and leaves
pub reported : Reported (read_on read_call read_entry) ours
unfolding move_all_call moved_all
reported =
    record {
      one = λ route number text out. rw (one_is route number text out) (one_said route number text out).stands;
      all = λ route text out. (all_of route text out).stands;
    }
