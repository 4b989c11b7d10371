-- What our own stream gives for a call of the log: sealing, with room always enough.
use Rattle.std.specs.Prelude.{cond, List, [], ℕ, length, take, drop}
use Rattle.answers.specs.declared.Answer.{Answer}
use Rattle.answers.specs.Numbers.{is_done}
use Rattle.ascon.specs.Sets.{row_of, text_limit}
use Rattle.chip_log.specs.declared.form.Call.{Call}
use Rattle.chip_log.specs.declared.form.Call.TheVariants.{Start1, Start2, Ad, Text, Finish}
use Rattle.permutation.specs.Strings.{zeros}
use Rattle.record.specs.Form.{field_of, held}
use Rattle.stream.specs.declared.Direction.TheVariants.{Sealing}
use Rattle.stream.specs.declared.Outcome.{Outcome}
use Rattle.stream.specs.declared.Stream.{Stream}
use Rattle.stream.specs.Calls.{Start, Called, start_call, ad_call, text_call, finish_call}
use Rattle.replay.specs.declared.feeding.Given.{Given}

-- the answer, the output, the rounds, and the next state
pub record Gives : Type 0 where
  pub answer : Answer
  pub out : List ℕ
  pub rounds : ℕ
  pub next : Stream

-- a call with such an output
abbrev pub gives : Outcome → List ℕ → Gives
gives outcome out = record { answer = outcome.answer; out = out; rounds = outcome.rounds; next = outcome.next }

-- a call without one
abbrev pub silent : Outcome → Gives
silent outcome = gives outcome []

-- a call that writes: what its place then holds, where it is done; nothing where it is refused
abbrev pub written : Called → Gives
written c = gives c.outcome (cond (is_done c.outcome.answer) c.lent [])

-- what a start in a set is given: key, then nonce, and the largest limit
abbrev pub start_of : ℕ → List ℕ → Start
start_of set input = record { direction = Sealing; set = set; limit = text_limit; key = take (row_of set).key input; nonce = drop (row_of set).key input }

-- such a start
unfoldable pub started : ℕ → List ℕ → Gives
started set input = silent (start_call (start_of set input))

-- a piece of the text
unfoldable pub sealed_piece : Stream → List ℕ → Gives
sealed_piece s input = written (text_call Sealing s input (zeros (length input)))

-- the finish
unfoldable pub finished : Stream → Gives
finished s = written (finish_call Sealing s (zeros (row_of s.set).key))

-- a call of the log
abbrev pub fed : Stream → Call → List ℕ → Gives
fed s Start1 input = started 1 input
fed s Start2 input = started 2 input
fed s Ad input = silent (ad_call s input)
fed s Text input = sealed_piece s input
fed s Finish input = finished s

-- ---- in the code's struct

abbrev pub in_places : Gives → Given
in_places g = record { answer = g.answer; out = field_of g.out; rounds = g.rounds; next = g.next }

abbrev pub as_given : Given → Gives
as_given g = record { answer = g.answer; out = held g.out; rounds = g.rounds; next = g.next }
