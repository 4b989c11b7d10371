-- Moving the record at a place of a text: what it comes to for all records.
use mathlib.Core.Path.{◌≡◌, refl, sym, ap, ◌∙◌}
use mathlib.Core.Bool.{true, false, true≢false, false≢true}
use mathlib.Core.List.{List, ◌++◌}
use Prim.Native.Nat.{ℕ, ◌+◌, ◌-◌, ◌≤◌, ◌<◌}
use native.Mathlib.Omega.{arith}
use Rattle.std.proofs.Common.{Err}
use lib.ListN.{length, take, drop, length-drop, length-append}
use lib.Seq.{take_all, drop-drop}
use lib.Dec.{eqb}
use borrow.Author.Tests.{eqb-false}
use Rattle.answers.specs.Numbers.{number_of, is_done}
use Rattle.digits.specs.Room.{laid, put}
use Rattle.digits.proofs.Room.{put_fits}
use Rattle.moving.specs.declared.route.Route.{Route}
use Rattle.moving.specs.declared.route.Route.TheVariants.{Forward, Back, Import, Export}
use Rattle.moving.specs.declared.one.Unmoved.{Unmoved}
use Rattle.moving.specs.declared.one.Unmoved.TheVariants.{UnknownSet, Broken, ChipLost, NoRoom}
use Rattle.moving.specs.Moves.{is_known, text_by, Moving, MoveLeaves, move_leaves, refused_move, moved_as, moving_of, move_call, moved_all, text_in, is_whole, MovingAll, refused_all, moving_all_of, of_record, summary}
use Rattle.moving.specs.Laws.{Counts, most_by}
use Rattle.moving.proofs.Routes.{fewer}
use Rattle.moving.proofs.Sizes.{most}
use Rattle.moving.proofs.Endings.{Ended, unknown, refused, lost, short, done, ended}
use Rattle.moving.proofs.Steps.{next, grows, next_is, step_refused, step_lost, Left, left_counts, left_on}
use Rattle.moving.proofs.Rows.{grown}

-- no record that was moved has more than 1,706 bytes
few_bytes : (route : Route) → most_by route ≤ 1_706
few_bytes Forward = omega arith
few_bytes Back = omega arith
few_bytes (Import set) = omega arith
few_bytes Export = omega arith

-- a rest that is not empty has a byte
pub some_left : (rest : List ℕ) → false ≡ eqb (length rest) 0 → 1 ≤ length rest
some_left rest e = let some = eqb-false (length rest) 0 (sym e) in omega (arith, some)

-- the rest behind so many bytes of it
pub rest_on : (text rest : List ℕ) (at taken : ℕ) → rest ≡ drop at text → take (length rest - taken) (drop taken rest) ≡ drop (at + taken) text
rest_on text rest at taken e = take_all (length rest - taken) (drop taken rest) (omega (arith, length-drop taken rest)) ∙ ap (drop taken) e ∙ drop-drop taken at text

-- a refusal of a record, with the record's number
abbrev named : ℕ → Moving → MovingAll
named number moving = refused_all moving.answer number moving.line moving.column

-- so it stands for all records, but for an unknown set and for no room
named_is : (number : ℕ) (refused : Unmoved) → let moving = moving_of (Err refused) in
    (number_of moving.answer ≡ 1 → ⊥) → (number_of moving.answer ≡ 6 → ⊥) → moving_all_of (Err (of_record number refused)) ≡ named number moving
unfolding refused_move
named_is number UnknownSet h k = absurd (h refl)
named_is number (Broken line column) h k = refl
named_is number ChipLost h k = refl
named_is number NoRoom h k = absurd (k refl)

-- a refusal is not done
refuses : (why : Unmoved) → is_done (moving_of (Err why)).answer ≡ false
unfolding refused_move
refuses UnknownSet = refl
refuses (Broken line column) = refl
refuses ChipLost = refl
refuses NoRoom = refl

-- a record was moved: it stands at the beginning of a place, and the others are left
pub record Turned (route : Route) (text : List ℕ) (at count : ℕ) (before out after : List ℕ) (taken written : ℕ) : Type 0 where
  pub next : List ℕ
  pub some : 1 ≤ taken
  pub left_over : Left route text (at + taken) (count + 1) (before ++ next)
  pub room : length next ≤ length out
  pub placed : laid written after ≡ put next out

module _ (route : Route) (text : List ℕ) (counts : Counts route (length text)) (known : is_known route ≡ true) (at count : ℕ) (before out after : List ℕ)
    (left : Left route text at count before) (inside : at < length text) where
  -- the rest of the text
  abbrev rest : List ℕ
  rest = drop at text

  -- is not empty
  some_rest : 1 ≤ length rest
  some_rest = omega (arith, length-drop at text)

  -- the numbers that are left can be had
  later : Counts route (count + length rest)
  later = left_counts route text counts at count before left

  -- and so can the next
  one : Counts route (count + 1)
  one = fewer route (count + 1) (count + length rest) (omega (arith, some_rest)) later

  -- the record at this place was moved, or refused
  abbrev Moves : Moving → Type 0
  Moves moving = move_leaves moving after ≡ move_call route (count + 1) rest out

  -- a record that was moved stands there, with so many bytes
  pub turn_done : (taken written : ℕ) → Moves (moved_as taken written) → Turned route text at count before out after taken written
  unfolding refused_move moved_as
  turn_done taken written call = go (ended route (count + 1) one rest out)
    where
      told : {l : MoveLeaves} → move_call route (count + 1) rest out ≡ l → true ≡ is_done l.outcome.answer
      told m = ap (λ (l : MoveLeaves). is_done l.outcome.answer) (call ∙ m)

      go : Ended route (count + 1) one rest out → Turned route text at count before out after taken written
      go (unknown k m) = absurd (true≢false (told m))
      go (refused k d m) = absurd (true≢false (told m))
      go (lost d e m) = absurd (true≢false (told m))
      go (short d e h m) = absurd (true≢false (told m))
      go (done d e h m) =
          let reading = next route count rest in
          let all : taken ≡ reading.taken = ap (λ (l : MoveLeaves). l.outcome.taken) (call ∙ m) in
          record {
            next = text_by route (count + 1) reading.content;
            some = omega (arith, (next_is route count rest later d some_rest).some);
            left_over = rw all (left_on route text counts at count before left some_rest d e);
            room = h;
            placed = ap (λ (l : MoveLeaves). laid l.outcome.written l.out) (call ∙ m) ∙ sym (put_fits (text_by route (count + 1) reading.content) out h);
          }

  -- a refusal is that of all records, with the record's number, where the place has room for the most bytes of a record
  pub turn_refused : (why : Unmoved) → Moves (moving_of (Err why)) → 1_706 ≤ length out → moving_all_of (Err (of_record (count + 1) why)) ≡ summary (moved_all route text)
  unfolding refused_move moved_as
  turn_refused why call room = go (ended route (count + 1) one rest out)
    where
      of_all : {l : MoveLeaves} → move_call route (count + 1) rest out ≡ l → (number_of l.outcome.answer ≡ 1 → ⊥) → (number_of l.outcome.answer ≡ 6 → ⊥)
          → moving_all_of (Err (of_record (count + 1) why)) ≡ named (count + 1) l.outcome
      of_all m h k =
          let e = call ∙ m in
          let same = ap (λ (l : MoveLeaves). number_of l.outcome.answer) e in
          named_is (count + 1) why (λ z. h (sym same ∙ z)) (λ z. k (sym same ∙ z)) ∙ ap (λ (l : MoveLeaves). named (count + 1) l.outcome) e

      go : Ended route (count + 1) one rest out → moving_all_of (Err (of_record (count + 1) why)) ≡ summary (moved_all route text)
      go (unknown k m) = absurd (true≢false (sym known ∙ k))
      go (refused k d m) = of_all m (λ z. omega arith) (λ z. omega arith) ∙ ap summary (sym (step_refused route count before rest later some_rest d) ∙ left.rest)
      go (lost d e m) = of_all m (λ z. omega arith) (λ z. omega arith) ∙ ap summary (sym (step_lost route count before rest later some_rest d e) ∙ left.rest)
      go (short d e h m) =
          let reading = next route count rest in
          absurd (omega (arith, most route (count + 1) one reading.content ((next_is route count rest later d some_rest).spells, e), few_bytes route))
      go (done d e h m) = absurd (false≢true (sym (refuses why) ∙ ap (λ (l : MoveLeaves). is_done l.outcome.answer) (call ∙ m)))

  -- none is refused where all records can be moved and have room
  pub turn_whole : (why : Unmoved) → is_whole (moved_all route text) ≡ true → length (text_in (moved_all route text)) ≤ length before + length out → Moves (moving_of (Err why)) → ⊥
  unfolding moved_as
  turn_whole why w room call = go (ended route (count + 1) one rest out)
    where
      go : Ended route (count + 1) one rest out → ⊥
      go (unknown k m) = absurd (true≢false (sym known ∙ k))
      go (refused k d m) = absurd (false≢true (ap is_whole (sym (step_refused route count before rest later some_rest d) ∙ left.rest) ∙ w))
      go (lost d e m) = absurd (false≢true (ap is_whole (sym (step_lost route count before rest later some_rest d e) ∙ left.rest) ∙ w))
      go (short d e h m) =
          let reading = next route count rest in
          let more = left_on route text counts at count before left some_rest d e in
          absurd (omega (
            arith,
            grown route (count + 1) (grows route count before reading) (drop (at + reading.taken) text) (moved_all route text)
                (left_counts route text counts (at + reading.taken) (count + 1) (grows route count before reading) more) more.rest w,
            length-append before (text_by route (count + 1) reading.content),
          ))
      go (done d e h m) = false≢true (sym (refuses why) ∙ ap (λ (l : MoveLeaves). is_done l.outcome.answer) (call ∙ m))
