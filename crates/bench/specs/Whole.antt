-- All of the input read, moved and written, by what the operating system answers call by call.
use Rattle.std.specs.Prelude.{Bool, true, false, cond, Option, Some, None, Result, Ok, Err, List, [], ◌∷◌, ◌++◌, ◌⊎◌, ◌≡◌, ℕ, ◌+◌, ◌≤◌, eqb, length, take}
use Rattle.moving.specs.declared.route.Route.{Route}
use Rattle.moving.specs.Moves.{MovingAll, move_all_call}
use Rattle.turns.specs.Tallies.{largest}
use Rattle.turns.specs.Run as run
use Rattle.turns.specs.Run.{Reply}
use Rattle.bench.specs.declared.progress.Unmoved.TheVariants.{Again, Failed}
use Rattle.bench.specs.declared.whole.Unread.{Unread}
use Rattle.bench.specs.declared.whole.Unread.TheVariants as unread
use Rattle.bench.specs.declared.whole.Unwritten.{Unwritten}
use Rattle.bench.specs.declared.whole.Unwritten.TheVariants as unwritten
use Rattle.bench.specs.Input.{Input}
use Rattle.bench.specs.Input as input
use Rattle.bench.specs.Output.{Output}
use Rattle.bench.specs.Output as output
use Rattle.bench.specs.Progress.{Heard}

-- ---- reading

-- the bytes that were read so far, and how far the reading is
pub record Got : Type 0 where
  pub content : List ℕ
  pub input : Input

abbrev pub got : List ℕ → Input → Got
got content input = record { content = content; input = input }

-- nothing yet
abbrev pub nothing : Got
nothing = got [] (input.Part 0)

-- what an answer makes of the bytes so far: no byte more is the end of the input, a signal changes nothing, a failure is no end. An answer to a write, which no read gets, changes
-- nothing either
abbrev pub got_by : List ℕ → Reply → Got
got_by content (run.Came bytes) =
    cond (eqb (length bytes) 0) (got content (input.Whole (length content))) (got (content ++ bytes) (input.Part (length content + length bytes)))
got_by content (run.Took n) = got content (input.Part (length content))
got_by content run.Again = got content (input.Part (length content))
got_by content run.Failed = got [] input.Failed

-- one answer more, in a place of so many bytes: where it is full, the input is too long; once the reading is over, it stays as it is
abbrev pub further : ℕ → List ℕ → Input → Reply → Got
further room content (input.Part filled) reply = cond (eqb filled room) (got [] input.TooLong) (got_by content reply)
further room content (input.Whole size) reply = got content (input.Whole size)
further room content input.TooLong reply = got [] input.TooLong
further room content input.Failed reply = got [] input.Failed

-- answer after answer
abbrev pub read_on : ℕ → Got → List Reply → Got
read_on room g [] = g
read_on room g (reply ∷ later) = read_on room (further room g.content g.input reply) later

-- ---- moving

-- what a moving of all of the input leaves: how it ended, and what the place of the output then holds
pub record CarryLeaves : Type 0 where
  pub ended : Result MovingAll Unread
  pub out : List ℕ

abbrev pub carry_leaves : Result MovingAll Unread → List ℕ → CarryLeaves
carry_leaves ended out = record { ended = ended; out = out }

-- all that was read is moved, if that was all of the input; else the output is left as it was
abbrev pub carried_by : Route → List ℕ → Input → List ℕ → CarryLeaves
carried_by route content (input.Part filled) out = carry_leaves (Err unread.Endless) out
carried_by route content (input.Whole size) out = let leaves = move_all_call route content out in carry_leaves (Ok leaves.outcome) leaves.out
carried_by route content input.TooLong out = carry_leaves (Err unread.TooLong) out
carried_by route content input.Failed out = carry_leaves (Err unread.Failed) out

-- ---- writing

-- what an answer makes of so many bytes: none taken is a failure
abbrev pub wrote_by : ℕ → Heard → Result ℕ Unwritten
wrote_by from (Ok count) = cond (eqb count 0) (Err unwritten.Failed) (Ok (from + count))
wrote_by from (Err Again) = Ok from
wrote_by from (Err Failed) = Err unwritten.Failed

-- how far the writing then is
abbrev pub output_by : Result ℕ Unwritten → Output
output_by (Ok from) = output.Part from
output_by (Err why) = output.Failed

-- one answer more, of a text of so many bytes: where all were taken, the writing is over
abbrev pub part_written : ℕ → Output → Heard → Output
part_written size (output.Part from) heard = cond (eqb from size) output.Whole (output_by (wrote_by from heard))
part_written size output.Whole heard = output.Whole
part_written size output.Failed heard = output.Failed

-- answer after answer
abbrev pub written_on : ℕ → Output → List Heard → Output
written_on size so_far [] = so_far
written_on size so_far (heard ∷ later) = written_on size (part_written size so_far heard) later

-- ---- what the code's functions promise

-- of the count that a read moved: how many bytes there are then; no byte more is the end of the input
abbrev pub read_by : ℕ → Heard → Result (Option ℕ) Unread
read_by filled (Ok count) = cond (eqb count 0) (Ok None) (Ok (Some (filled + count)))
read_by filled (Err Again) = Ok (Some filled)
read_by filled (Err Failed) = Err unread.Failed

-- how many bytes of the place were read; none where that does not matter any more
abbrev pub size_of : Input → ℕ
size_of (input.Part filled) = filled
size_of (input.Whole size) = size
size_of input.TooLong = 0
size_of input.Failed = 0

-- there may be more
abbrev pub is_part : Input → Bool
is_part (input.Part filled) = true
is_part (input.Whole size) = false
is_part input.TooLong = false
is_part input.Failed = false

-- what the place shows of a reading
abbrev pub shown : Input → List ℕ → Got
shown r place = got (take (size_of r) place) r

-- how many bytes the input is, or why not all of it was read: where there may be more, the turns are used up
abbrev pub read_end : Input → Result ℕ Unread
read_end (input.Part filled) = Err unread.Endless
read_end (input.Whole size) = Ok size
read_end input.TooLong = Err unread.TooLong
read_end input.Failed = Err unread.Failed

-- some answers, one after another from the beginning on, led to this; the reading goes on until it is over, or until the turns are used up
pub record ReadAll (before : List ℕ) (r : Result ℕ Unread) (after : List ℕ) : Type 0 where
  pub replies : List Reply
  pub so_far : Input
  pub is : shown so_far after ≡ read_on (length before) nothing replies
  pub inside : size_of so_far ≤ length before
  pub ended : r ≡ read_end so_far
  pub over : (is_part so_far ≡ false) ⊎ (length replies ≡ largest)

-- what some answers delivered was moved, or not, by how the reading ended
pub record Carries (route : Route) (place : List ℕ) (r : Result MovingAll Unread) (before after : List ℕ) : Type 0 where
  pub replies : List Reply
  pub is : let g = read_on (length place) nothing replies in carry_leaves r after ≡ carried_by route g.content g.input before
  pub over : (r ≡ Err unread.Endless → ⊥) ⊎ (length replies ≡ largest)

-- there may be more to write
abbrev pub is_left : Output → Bool
is_left (output.Part from) = true
is_left output.Whole = false
is_left output.Failed = false

-- why not all of a text was written: where there may be more to write, the turns are used up
abbrev pub write_end : Output → Result Unit Unwritten
write_end (output.Part from) = Err unwritten.Endless
write_end output.Whole = Ok tt
write_end output.Failed = Err unwritten.Failed

-- some answers, one after another from the beginning on, led to this; the writing goes on until it is over, or until the turns are used up
pub record WroteAll (size : ℕ) (r : Result Unit Unwritten) : Type 0 where
  pub answers : List Heard
  pub so_far : Output
  pub is : so_far ≡ written_on size (output.Part 0) answers
  pub ended : r ≡ write_end so_far
  pub over : (is_left so_far ≡ false) ⊎ (length answers ≡ largest)
