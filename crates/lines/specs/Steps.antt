-- The walk of the code: what one character does, and where a text stops. What a reading finds by it is stated without it (`ReadsLines`, Laws.antt).
use Rattle.std.specs.Prelude.{Bool, true, false, cond, not, ◌&&◌, ◌||◌, List, [], ◌∷◌, ℕ, suc, ◌+◌, ◌-◌, ◌*◌, ◌/◌, ◌%◌, eqb, leb, ltb, get_or, Option, Some, None, Result, Ok, Err}
use Rattle.digits.specs.Hex.{within, digit_in, is_value}
use Rattle.lines.specs.declared.kinds.Name.{Name}
use Rattle.lines.specs.declared.kinds.Value.{Value}
use Rattle.lines.specs.declared.kinds.Value.TheVariants.{Fixed, Number, Bytes}
use Rattle.lines.specs.declared.kinds.Kind.{Kind}
use Rattle.lines.specs.declared.step.State.{State}
use Rattle.lines.specs.declared.walk.Line.{Line}
use Rattle.lines.specs.declared.walk.Stopped.{Stopped}

-- ---- one character

-- a value may end after so many digits
abbrev pub may_end : Value → ℕ → Bool
may_end (Fixed own) digits = true
may_end (Number least most) digits = leb 1 digits
may_end (Bytes least most case) digits = eqb (digits % 2) 0 && leb least (digits / 2)

-- a value may go on with a character, after so many digits that say a number
abbrev pub goes_on : Value → ℕ → ℕ → ℕ → Bool
goes_on (Fixed own) digits number character = false
goes_on (Number least most) digits number character =
    within 0x30 0x39 character
    && ((eqb digits 0 || not (eqb number 0))
    && (leb least (10 * number + (character - 0x30)) && leb (10 * number + (character - 0x30)) most))
goes_on (Bytes least most case) digits number character = is_value (digit_in case character) && ltb (digits / 2) most

-- how many digits there are with one more; of a number's digits only whether there is one is kept
abbrev pub counted : Value → ℕ → ℕ
counted (Fixed own) digits = digits
counted (Number least most) digits = 1
counted (Bytes least most case) digits = digits + 1

-- the number that the digits say with a character more
abbrev pub numbered : Value → ℕ → ℕ → ℕ
numbered (Fixed own) number character = number
numbered (Number least most) number character = 10 * number + (character - 0x30)
numbered (Bytes least most case) number character = number

-- what a line says at its end
abbrev pub said_by : Value → ℕ → ℕ
said_by (Fixed own) number = own
said_by (Number least most) number = number
said_by (Bytes least most case) number = number

-- where a walk stands
abbrev pub standing : ℕ → ℕ → ℕ → Bool → State
standing place digits number ended = record { place = place; digits = digits; number = number; ended = ended }

-- a character at a place of the name
unfoldable pub name_step : Name → State → ℕ → Option State
name_step name s character =
    cond (eqb (get_or name.bytes s.place 0) character) (Some (standing (s.place + 1) s.digits s.number false)) None

-- a line feed behind the name
unfoldable pub feed_step : Value → State → Option State
feed_step value s = cond (may_end value s.digits) (Some (standing s.place s.digits (said_by value s.number) true)) None

-- another character behind the name
unfoldable pub value_step : Value → State → ℕ → Option State
value_step value s character =
    cond (goes_on value s.digits s.number character)
    (Some (standing s.place (counted value s.digits) (numbered value s.number character) false)) None

-- a character; none comes behind the line feed
unfoldable pub step_of : Kind → State → ℕ → Option State
step_of kind s character =
    cond s.ended None
    (cond (ltb s.place kind.name.size) (name_step kind.name s character)
    (cond (eqb character 0x0a) (feed_step kind.value s) (value_step kind.value s character)))

-- ---- a text

-- how many characters were passed, and the state behind them
pub record Walk : Type 0 where
  pub passed : ℕ
  pub state : State

abbrev pub stop : ℕ → State → Walk
stop n s = record { passed = n; state = s }

-- one character more
abbrev pub later : Walk → Walk
later w = stop (suc w.passed) w.state

abbrev pub onward : State → Option State → (State → Walk) → Walk
onward s (Some t) go = later (go t)
onward s None go = stop 0 s

-- character by character, as long as one goes on
abbrev pub walk : (State → ℕ → Option State) → State → List ℕ → Walk
walk step s [] = stop 0 s
walk step s (character ∷ text) = onward s (step s character) (λ t. walk step t text)

-- before the first character
abbrev pub begin : State
begin = standing 0 0 0 false

-- what a reading finds: a line of so many characters, with its number; or the column where the text stopped being one
abbrev pub Found : Type 0
Found = Result Line Stopped

abbrev pub a_line : ℕ → ℕ → Found
a_line size number = Ok (record { size = size; number = number })

abbrev pub no_line : ℕ → Found
no_line column = Err (record { column = column })

-- a line that was passed whole, with its number; or the column where the walk stopped
abbrev pub found_at : Walk → Found
found_at w = cond w.state.ended (a_line w.passed w.state.number) (no_line (w.passed + 1))

-- the line that a text begins with
unfoldable pub read_of : Kind → List ℕ → Found
read_of kind text = found_at (walk (step_of kind) begin text)

-- the line that either of two readings found; or the later of their columns
abbrev pub either_of : Found → Found → Found
either_of (Ok line) g = Ok line
either_of (Err c) (Ok line) = Ok line
either_of (Err c) (Err d) = cond (ltb c.column d.column) (Err d) (Err c)
