-- Replaying a log: the verdict on each entry, and the first that does not agree.
use Rattle.std.specs.Prelude.{◌≡◌, Bool, true, false, cond, not, ◌&&◌, List, [], ◌∷◌, ℕ, zero, suc, ◌+◌, eqb, length, drop, Result, Ok, Err}
use Rattle.answers.specs.Numbers.{number_of, is_done}
use Rattle.answers.specs.Order.{Choice, ◌when◌, first}
use Rattle.judge.specs.Difference.{differ}
use Rattle.chip_log.specs.declared.form.Entry.{Entry}
use Rattle.chip_log.specs.Calls.{Reading}
use Rattle.chip_log.specs.Calls.{read_entry}
use Rattle.record.specs.Form.{held}
use Rattle.stream.specs.declared.Stream.{Stream}
use Rattle.stream.specs.State.{ended}
use Rattle.replay.specs.declared.whole.Conclusion.{Conclusion}
use Rattle.replay.specs.declared.window.Agreed.{Agreed}
use Rattle.replay.specs.declared.window.Stretch.{Stretch}
use Rattle.replay.specs.declared.window.Verdict.{Verdict}
use Rattle.replay.specs.declared.window.Verdict.TheVariants.{Agrees, Answer, Out, Rounds, Unread, Open}
use Rattle.replay.specs.Feeding.{Gives, fed}

-- ---- one entry

abbrev pub is_agreed : Verdict → Bool
is_agreed Agrees = true
is_agreed Answer = false
is_agreed Out = false
is_agreed Rounds = false
is_agreed (Unread line column) = false
is_agreed Open = false

-- its verdict, how many bytes it has, and the stream's state behind it
pub record Step : Type 0 where
  pub verdict : Verdict
  pub taken : ℕ
  pub next : Stream

-- the verdicts but agreement, in their order: the answer, the output, compared whole, the rounds
abbrev pub differences : Gives → Entry → List (Choice Verdict)
differences g e =
    Answer when not (eqb e.answer (number_of g.answer)) ∷ Out when differ g.out (held e.out) ∷ Rounds when not (eqb e.rounds g.rounds) ∷ []

-- the verdict on an entry, by what our stream gives
unfoldable pub compared : Gives → Entry → Verdict
compared g e = first Agrees (differences g e)

-- an entry in form, fed to a stream
unfoldable pub step_on : Stream → Entry → ℕ → Step
step_on s e taken =
    let g = fed s e.call (held e.input) in
    record { verdict = compared g e; taken = taken; next = g.next }

-- a text that is no entry: nothing is told yet where it ended too early and the log goes on; else it is unread
abbrev pub unread_of : Bool → Reading → Verdict
unread_of over reading = cond (not over && reading.early) Open (Unread reading.line reading.column)

-- what was read at the beginning of a text
unfoldable pub step_by : Bool → Stream → Reading → Step
step_by over s reading =
    cond (is_done reading.answer) (step_on s reading.content reading.taken) (record { verdict = unread_of over reading; taken = 0; next = s })

-- the entry that a text begins with
abbrev pub step_of : Bool → Stream → List ℕ → Step
step_of over s text = step_by over s (read_entry text)

-- ---- in the code's types

-- an entry agrees, or this is its other verdict
abbrev pub ComparedAs : Result Unit Verdict → Verdict → Type 0
ComparedAs (Ok agreed) verdict = verdict ≡ Agrees
ComparedAs (Err other) verdict = (verdict ≡ other) × (is_agreed other ≡ false)

-- an entry that agrees goes so far, or this is its other verdict
abbrev pub SteppedAs : Result Agreed Verdict → Step → Type 0
SteppedAs (Ok agreed) step = step ≡ record { verdict = Agrees; taken = agreed.taken; next = agreed.next }
SteppedAs (Err other) step = (step.verdict ≡ other) × (is_agreed other ≡ false)

-- ---- entry after entry

-- where no byte is left, the log agrees if it is over
abbrev pub at_end : Bool → Verdict
at_end over = cond over Agrees Open

-- no entry agreed
abbrev pub stopped : Stream → Verdict → Stretch
stopped s verdict = record { entries = 0; taken = 0; stream = s; verdict = verdict }

-- one more did, of so many bytes, before the others
abbrev pub further : ℕ → Stretch → Stretch
further taken r = record { entries = suc r.entries; taken = taken + r.taken; stream = r.stream; verdict = r.verdict }

-- at most so many entries of a text, from a state: an entry that agrees goes on, and any other verdict stops. Too few are never agreement
abbrev pub stretch_in : ℕ → Bool → Stream → List ℕ → Stretch
stretch_in zero over s text = stopped s (cond (eqb (length text) 0) (at_end over) Open)
stretch_in (suc most) over s text =
    cond (eqb (length text) 0) (stopped s (at_end over))
    (let step = step_of over s text in
    cond (is_agreed step.verdict) (further step.taken (stretch_in most over step.next (drop step.taken text))) (stopped s step.verdict))

-- the entries of a text, which has no more of them than bytes
unfoldable pub stretch_of : Bool → Stream → List ℕ → Stretch
stretch_of over s text = stretch_in (length text) over s text

-- ---- a whole log

-- the verdict on a log, and the entry that decides; where all agree, how many there are
abbrev pub told : ℕ → Verdict → Conclusion
told agreed verdict = record { entry = cond (is_agreed verdict) agreed (agreed + 1); verdict = verdict }

-- from the ended state
unfoldable pub replay_of : List ℕ → Conclusion
replay_of log = let r = stretch_of true ended log in told r.entries r.verdict
