-- Moving records from one kind of text to another: all that is said of its calls.
use contract.Lifetimes.{Lfts}
use Rattle.std.specs.Prelude.{◌≡◌, List, ◌++◌, ℕ, length, drop}
use Rattle.answers.specs.declared.Answer.TheVariants.{Done}
use Rattle.answers.specs.Order.{first}
use Rattle.record.specs.Calls.{Reading}
use Rattle.moving.specs.declared.route.Route.{Route}
use Rattle.moving.specs.Moves.{Moving, MovingAll, moving_of, moving_all_of, text_by, MoveLeaves, move_leaves, move_faults, move_call, moved_with, text_in, outcome_in, AllLeaves, all_leaves, move_all_call}
use Rattle.moving.specs.Laws.{Counts}
use Rattle.moving.proofs as moving-crate
use Rattle.letter.specs.Calls.{Answered, Lent, LentMut, holding, Leaves, Seen, Tells, Refused}

-- ---- the calls

-- what each answers, and what it leaves in a lent place, on any input
pub record Model : Type 0 where
  pub one : Route → ℕ → List ℕ → List ℕ → MoveLeaves
  pub all : Route → List ℕ → List ℕ → AllLeaves

-- our own, by the definitions that the contracts cite
abbrev pub ours : Model
ours = record { one = move_call; all = move_all_call }

-- what a caller learns from the contracts of the code, of what a moving is seen as
abbrev pub one_learnt : Lfts 2 → Route × (ℕ × (Lent × (LentMut × Unit {0}))) → Moving → Route × (ℕ × (Lent × (LentMut × Unit {0}))) → Type 0
one_learnt = Seen moving_of moving-crate.move_record.Reads.Learnt

abbrev pub all_learnt : Lfts 2 → Route × (Lent × (LentMut × Unit {0})) → MovingAll → Route × (Lent × (LentMut × Unit {0})) → Type 0
all_learnt = Seen moving_all_of moving-crate.move_all.Reads.Learnt

-- each gives what the contract of the code allows
pub record Keeps (m : Model) : Type 0 where
  pub one : (route : Route) (number : ℕ) (text : Lent) (out : LentMut) → let leaves = m.one route number text.now out.now in
      Leaves one_learnt (route, (number, (text, (out, tt)))) leaves.outcome (route, (number, (text, (holding out leaves.out, tt))))
  pub all : (route : Route) (text : Lent) (out : LentMut) → let leaves = m.all route text.now out.now in
      Leaves all_learnt (route, (text, (out, tt))) leaves.outcome (route, (text, (holding out leaves.out, tt)))

-- each public call, and its one outcome
pub record EveryCall : Type 2 where
  pub moving_move_record : Answered moving-crate.move_record.Statement.statement moving-crate.move_record.Reads.Asked moving-crate.move_record.Reads.Learnt
      (λ r (route, (number, (text, (out, _)))). move_leaves (moving_of r) out.now) (λ (route, (number, (text, (out, _)))). move_call route number text.now out.now)
  pub moving_move_all : Answered moving-crate.move_all.Statement.statement moving-crate.move_all.Reads.Asked moving-crate.move_all.Reads.Learnt
      (λ r (route, (text, (out, _))). all_leaves (moving_all_of r) out.now) (λ (route, (text, (out, _))). move_all_call route text.now out.now)

-- what is seen of a moving tells its result
pub record Told : Type 0 where
  pub one : Tells moving_of
  pub all : Tells moving_all_of

-- ---- what they answer

-- each answer is the first whose condition holds, by what is read; 10 has the line and column of the reading
pub record Listed (read : Route → ℕ → List ℕ → Reading) (m : Model) : Type 0 where
  pub one : (route : Route) (number : ℕ) (text out : List ℕ)
      → (m.one route number text out).outcome.answer ≡ first Done (move_faults route number (read route number text) (length out))
  pub one_line : (route : Route) (number : ℕ) (text out : List ℕ) → Counts route number → (m.one route number text out).outcome.line ≡ (read route number text).line
  pub one_column : (route : Route) (number : ℕ) (text out : List ℕ) → Counts route number → (m.one route number text out).outcome.column ≡ (read route number text).column
  -- of all records of a text: 1; that of the first that is refused, with its number, line and column; and then 6; or how many they are
  pub all : (route : Route) (text out : List ℕ) → (m.all route text out).outcome ≡ outcome_in (moved_with (read route) route text) (length out)

-- ---- what they leave

-- a refusal takes nothing, and changes no lent byte
pub record Unchanged (m : Model) : Type 0 where
  pub one : (route : Route) (number : ℕ) (text out : List ℕ) → let leaves = m.one route number text out in
      Refused leaves.outcome.answer → (leaves.out ≡ out) × (leaves.outcome.taken ≡ 0) × (leaves.outcome.written ≡ 0)
  pub all : (route : Route) (text out : List ℕ) → let leaves = m.all route text out in
      Refused leaves.outcome.answer → (leaves.out ≡ out) × (leaves.outcome.written ≡ 0)

-- done: the new text stands at the beginning of its place, the bytes beyond it stay, and the lengths are told
pub record Reported (read : Route → ℕ → List ℕ → Reading) (m : Model) : Type 0 where
  pub one : (route : Route) (number : ℕ) (text out : List ℕ) → let leaves = m.one route number text out in
      let reading = read route number text in
      let moved = text_by route number reading.content in
      leaves.outcome.answer ≡ Done
      → (leaves.outcome.taken ≡ reading.taken) × (leaves.outcome.written ≡ length moved) × (leaves.out ≡ moved ++ drop (length moved) out)
  pub all : (route : Route) (text out : List ℕ) → let leaves = m.all route text out in
      let moved = text_in (moved_with (read route) route text) in
      leaves.outcome.answer ≡ Done → (leaves.outcome.written ≡ length moved) × (leaves.out ≡ moved ++ drop (length moved) out)
