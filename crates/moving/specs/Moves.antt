-- What moving a record, and all records of a text, from one kind of text to another answers.
use Rattle.std.specs.Prelude.{Bool, true, false, cond, not, List, [], ◌∷◌, ◌++◌, ℕ, zero, suc, ◌+◌, ◌≤◌, eqb, leb, length, drop, Result, Ok, Err}
use Rattle.answers.specs.declared.Answer.{Answer}
use Rattle.answers.specs.declared.Answer.TheVariants.{Done, UnknownSet, NoRoom, BrokenRecord, ChipLost}
use Rattle.answers.specs.Numbers.{is_done}
use Rattle.answers.specs.Order.{Choice, ◌when◌, first}
use Rattle.ascon.specs.Sets.{is_set}
use Rattle.record.specs.declared.form.Form.{Form}
use Rattle.record.specs.declared.form.Form.TheVariants.{One, Two}
use Rattle.record.specs.declared.form.Record.{Record}
use Rattle.record.specs.Calls.{Reading}
use Rattle.record.specs.Form.{loses_chip}
use Rattle.record.specs.Text.{text_of}
use Rattle.record.specs.Calls.{read_call, WriteLeaves, write_as}
use Rattle.entry.specs.Form.{entry_text}
use Rattle.entry.specs.Calls.{read_entry}
use Rattle.moving.specs.declared.route.Route.{Route}
use Rattle.moving.specs.declared.route.Route.TheVariants.{Forward, Back, Import, Export}
use Rattle.moving.specs.declared.one.Moved.{Moved}
use Rattle.moving.specs.declared.one.Unmoved.{Unmoved}
use Rattle.moving.specs.declared.one.Unmoved.TheVariants as unmoved
use Rattle.moving.specs.declared.all.MovedAll.{MovedAll}
use Rattle.moving.specs.declared.all.UnmovedAll.{UnmovedAll}
use Rattle.moving.specs.declared.all.UnmovedAll.TheVariants as unmoved_all

-- ---- routes

-- a published test file is of one set, and that is known
abbrev pub is_known : Route → Bool
is_known Forward = true
is_known Back = true
is_known (Import set) = is_set set
is_known Export = true

-- what is read of a text that begins with the record of this number, by a reading of records and one of entries
abbrev pub read_on : (Form → List ℕ → Reading) → (ℕ → ℕ → List ℕ → Reading) → Route → ℕ → List ℕ → Reading
read_on records entries Forward number text = records One text
read_on records entries Back number text = records Two text
read_on records entries (Import set) number text = entries set number text
read_on records entries Export number text = records One text

-- by our own
abbrev pub read_by : Route → ℕ → List ℕ → Reading
read_by route number text = read_on read_call read_entry route number text

-- the form whose rules a record is written by
abbrev pub form_by : Route → Form
form_by Forward = Two
form_by Back = One
form_by (Import set) = One
form_by Export = One

-- and its text then
abbrev pub text_by : Route → ℕ → Record → List ℕ
text_by Forward number r = text_of Two r
text_by Back number r = text_of One r
text_by (Import set) number r = text_of One r
text_by Export number r = entry_text number r

-- what writing it answers
abbrev pub write_by : Route → ℕ → Record → List ℕ → WriteLeaves
write_by route number r out = write_as (form_by route) r (text_by route number r) out

-- ---- one record

-- what moving a record answers: the answer; the line and column at which the text is wrong; and how many bytes were taken and written
pub record Moving : Type 0 where
  pub answer : Answer
  pub line : ℕ
  pub column : ℕ
  pub taken : ℕ
  pub written : ℕ

-- 1, 10, 11, 6
abbrev pub move_faults : Route → ℕ → Reading → ℕ → List (Choice Answer)
move_faults route number reading room =
    UnknownSet when not (is_known route)
    ∷ BrokenRecord when not (is_done reading.answer)
    ∷ ChipLost when loses_chip (form_by route) reading.content
    ∷ NoRoom when not (leb (length (text_by route number reading.content)) room)
    ∷ []

-- an answer, and what the place of the text then holds
pub record MoveLeaves : Type 0 where
  pub outcome : Moving
  pub out : List ℕ

abbrev pub move_leaves : Moving → List ℕ → MoveLeaves
move_leaves outcome out = record { outcome = outcome; out = out }

-- a refusal: nothing is taken, and nothing is written
unfoldable pub refused_move : Answer → ℕ → ℕ → Moving
refused_move answer line column = record { answer = answer; line = line; column = column; taken = 0; written = 0 }

-- a record that was moved
unfoldable pub moved_as : ℕ → ℕ → Moving
moved_as taken written = record { answer = Done; line = 0; column = 0; taken = taken; written = written }

-- the answer of a moving that gives how many bytes it took and wrote, or why it moved nothing
abbrev pub moving_of : Result Moved Unmoved → Moving
moving_of (Ok moved) = moved_as moved.taken moved.written
moving_of (Err unmoved.UnknownSet) = refused_move UnknownSet 0 0
moving_of (Err (unmoved.Broken line column)) = refused_move BrokenRecord line column
moving_of (Err unmoved.ChipLost) = refused_move ChipLost 0 0
moving_of (Err unmoved.NoRoom) = refused_move NoRoom 0 0

-- the record of this number that a text begins with is read, and written as the route has it; 10 has the line and column of the reading, which any other answer has
-- not; a refusal changes nothing
unfoldable pub move_call : Route → ℕ → List ℕ → List ℕ → MoveLeaves
move_call route number text out =
    let reading = read_by route number text in
    let moved = text_by route number reading.content in
    let answer = first Done (move_faults route number reading (length out)) in
    cond (is_done answer) (move_leaves (moved_as reading.taken (length moved)) (moved ++ drop (length moved) out))
    (move_leaves (refused_move answer reading.line reading.column) out)

-- ---- all records of a text

-- what moving them comes to: how many they are, and their new text; or the first that is refused, by its answer, its number, its line and its column
pub data Whole : Type 0 where
  whole : ℕ → List ℕ → Whole
  stopped : Answer → ℕ → ℕ → ℕ → Whole

-- of the records that are left, behind so many with their text, in at most `steps` steps, by a reading of the record of each number
abbrev pub moved_in : (ℕ → List ℕ → Reading) → Route → ℕ → ℕ → List ℕ → List ℕ → Whole
moved_in read route zero count done text = whole count done
moved_in read route (suc steps) count done text =
    let reading = read (count + 1) text in
    cond (eqb (length text) 0) (whole count done)
    (cond (is_done reading.answer)
    (cond (loses_chip (form_by route) reading.content) (stopped ChipLost (count + 1) 0 0)
    (moved_in read route steps (count + 1) (done ++ text_by route (count + 1) reading.content) (drop reading.taken text)))
    (stopped BrokenRecord (count + 1) reading.line reading.column))

-- of all records of a text, numbered from 1: no more steps than bytes; an unknown set is refused before anything of the text is looked at
abbrev pub moved_with : (ℕ → List ℕ → Reading) → Route → List ℕ → Whole
moved_with read route text = cond (is_known route) (moved_in read route (length text) 0 [] text) (stopped UnknownSet 0 0 0)

-- by our own reading
unfoldable pub moved_all : Route → List ℕ → Whole
moved_all route text = moved_with (read_by route) route text

-- their new text; none where one is refused
abbrev pub text_in : Whole → List ℕ
text_in (whole count moved) = moved
text_in (stopped answer number line column) = []

-- none is refused
abbrev pub is_whole : Whole → Bool
is_whole (whole count moved) = true
is_whole (stopped answer number line column) = false

-- what moving all records of a text answers: the answer; how many records were moved, or the number of the one that is refused, and 0 where no single one is; the line
-- and column at which that is wrong; and how many bytes were written
pub record MovingAll : Type 0 where
  pub answer : Answer
  pub records : ℕ
  pub line : ℕ
  pub column : ℕ
  pub written : ℕ

-- an answer, and what the place of the text then holds
pub record AllLeaves : Type 0 where
  pub outcome : MovingAll
  pub out : List ℕ

abbrev pub all_leaves : MovingAll → List ℕ → AllLeaves
all_leaves outcome out = record { outcome = outcome; out = out }

-- a refusal: nothing is written
unfoldable pub refused_all : Answer → ℕ → ℕ → ℕ → MovingAll
refused_all answer number line column = record { answer = answer; records = number; line = line; column = column; written = 0 }

-- so many records that were moved, and have so many bytes
abbrev pub moved_all_as : ℕ → ℕ → MovingAll
moved_all_as records written = record { answer = Done; records = records; line = 0; column = 0; written = written }

-- the answer of a moving of all records that gives how many there are and how many bytes it wrote, or why it moved none
abbrev pub moving_all_of : Result MovedAll UnmovedAll → MovingAll
moving_all_of (Ok moved) = moved_all_as moved.records moved.written
moving_all_of (Err unmoved_all.UnknownSet) = refused_all UnknownSet 0 0 0
moving_all_of (Err (unmoved_all.Broken number line column)) = refused_all BrokenRecord number line column
moving_all_of (Err (unmoved_all.ChipLost number)) = refused_all ChipLost number 0 0
moving_all_of (Err unmoved_all.NoRoom) = refused_all NoRoom 0 0 0

-- a record that is refused has a number and, where it is wrong, a line from 1 on
abbrev pub Numbered : Result MovedAll UnmovedAll → Type 0
Numbered (Ok moved) = Unit {0}
Numbered (Err unmoved_all.UnknownSet) = Unit {0}
Numbered (Err (unmoved_all.Broken number line column)) = (1 ≤ number) × (1 ≤ line)
Numbered (Err (unmoved_all.ChipLost number)) = 1 ≤ number
Numbered (Err unmoved_all.NoRoom) = Unit {0}

-- why a text's records are not moved, where the record of a number is the first that is refused
abbrev pub of_record : ℕ → Unmoved → UnmovedAll
of_record number unmoved.UnknownSet = unmoved_all.UnknownSet
of_record number (unmoved.Broken line column) = unmoved_all.Broken number line column
of_record number unmoved.ChipLost = unmoved_all.ChipLost number
of_record number unmoved.NoRoom = unmoved_all.NoRoom

-- how many records were moved, and how many bytes they have; or the refusal of the first that is refused
abbrev pub summary : Whole → MovingAll
summary (whole count moved) = moved_all_as count (length moved)
summary (stopped answer number line column) = refused_all answer number line column

-- with so much room: the first refused record's answer, then 6
abbrev pub outcome_in : Whole → ℕ → MovingAll
outcome_in (whole count moved) room = cond (leb (length moved) room) (summary (whole count moved)) (refused_all NoRoom 0 0 0)
outcome_in (stopped answer number line column) room = summary (stopped answer number line column)

-- a refusal changes nothing
abbrev pub all_by : Whole → List ℕ → AllLeaves
all_by (whole count moved) out =
    all_leaves (outcome_in (whole count moved) (length out)) (cond (leb (length moved) (length out)) (moved ++ drop (length moved) out) out)
all_by (stopped answer number line column) out = all_leaves (outcome_in (stopped answer number line column) (length out)) out

-- all records of a text, moved
unfoldable pub move_all_call : Route → List ℕ → List ℕ → AllLeaves
move_all_call route text out = all_by (moved_all route text) out
