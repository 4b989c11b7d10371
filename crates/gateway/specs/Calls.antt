-- What each stream call answers and leaves at the C boundary: it is the stream's own call on the state that the area spells.
use Rattle.std.specs.Prelude.{cond, List, ℕ, eqb, length}
use Rattle.answers.specs.declared.Answer.TheVariants.{Done, BrokenState}
use Rattle.stream.specs.declared.Direction.{Direction}
use Rattle.stream.specs.declared.Outcome.{Outcome}
use Rattle.stream.specs.State.{ended}
use Rattle.stream.specs.Calls.{Start, start_call, ad_call, text_call, finish_call}
use Rattle.gateway.specs.Word.{one_word}
use Rattle.gateway.specs.Spelling.{state_length, spelling, is_spelling, state_in}

-- the word, and what the area then holds
pub record Left : Type 0 where
  pub word : ℕ
  pub area : List ℕ

abbrev pub left : ℕ → List ℕ → Left
left word area = record { word = word; area = area }

-- and what a lent place then holds
pub record LeftLent : Type 0 where
  pub word : ℕ
  pub area : List ℕ
  pub lent : List ℕ

abbrev pub left_lent : ℕ → List ℕ → List ℕ → LeftLent
left_lent word area lent = record { word = word; area = area; lent = lent }

-- an area that is no state's: 8, and nothing changes
abbrev pub unspelled : List ℕ → Left
unspelled area = left (one_word BrokenState 0) area

-- an outcome: its word, and the spelling of its next state
abbrev pub left_by : Outcome → Left
left_by outcome = left (one_word outcome.answer outcome.rounds) (spelling outcome.next)

-- the same beside a lent place
abbrev pub left_beside : Left → List ℕ → LeftLent
left_beside all lent = left_lent all.word all.area lent

-- a start, whose state comes back in the area, whatever that held
unfoldable pub start_on : Start → List ℕ → Left
start_on start area = cond (eqb (length area) state_length) (left_by (start_call start)) (unspelled area)

-- a piece of the associated data
unfoldable pub ad_on : List ℕ → List ℕ → Left
ad_on area piece = cond (is_spelling area) (left_by (ad_call (state_in area) piece)) (unspelled area)

-- a piece of text in a direction
unfoldable pub text_on : Direction → List ℕ → List ℕ → List ℕ → LeftLent
text_on d area piece out =
    let call = text_call d (state_in area) piece out in
    cond (is_spelling area) (left_beside (left_by call.outcome) call.lent) (left_beside (unspelled area) out)

-- a finish in a direction
unfoldable pub finish_on : Direction → List ℕ → List ℕ → LeftLent
finish_on d area tag =
    let call = finish_call d (state_in area) tag in
    cond (is_spelling area) (left_beside (left_by call.outcome) call.lent) (left_beside (unspelled area) tag)

-- the end without a tag: the ended state, whatever the area held, and no rounds
unfoldable pub end_on : List ℕ → Left
end_on area = cond (eqb (length area) state_length) (left (one_word Done 0) (spelling ended)) (unspelled area)
