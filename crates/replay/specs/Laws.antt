-- What replaying a log promises.
use Rattle.std.specs.Prelude.{Bool, true, false, cond, ◌&&◌, List, [], ◌∷◌, ◌++◌, ◌↔◌, ◌⊎◌, ◌≡◌, ℕ, ◌+◌, ◌≤◌, ◌<◌, length, drop}
use Rattle.std.proofs.Math.Pow.{are_bytes}
use Rattle.answers.specs.declared.Answer.TheVariants.{Done, TagLength, NoRoom}
use Rattle.answers.specs.Numbers.{number_of, is_done}
use Rattle.ascon.specs.Sets.{text_limit}
use Rattle.chip_log.specs.declared.form.Call.{Call}
use Rattle.chip_log.specs.declared.form.Call.TheVariants.{Start1, Start2, Ad, Text, Finish}
use Rattle.chip_log.specs.declared.form.Entry.{Entry}
use Rattle.chip_log.specs.Form.{data_kind, entry_text}
use Rattle.chip_log.specs.Laws.{BegunEntry, WrongEntry, most_bytes}
use Rattle.record.specs.Form.{field_of, held, allows}
use Rattle.stream.specs.declared.Stream.{Stream}
use Rattle.stream.specs.State.{ended}
use Rattle.stream.specs.Calls.{own_tag}
use Rattle.replay.specs.declared.whole.Conclusion.{Conclusion}
use Rattle.replay.specs.declared.window.Verdict.{Verdict}
use Rattle.replay.specs.declared.window.Verdict.TheVariants.{Agrees, Answer, Out, Rounds, Unread, Open}
use Rattle.replay.specs.Feeding.{Gives, fed}
use Rattle.replay.specs.Replays.{is_agreed, stretch_of, told, replay_of}

-- ---- the log that our own stream would write

-- a call, and what it is handed
pub record Asked : Type 0 where
  pub call : Call
  pub input : List ℕ

-- what our stream gives for it, from a state
abbrev pub answer_to : Stream → Asked → Gives
answer_to s a = fed s a.call a.input

-- the entry that says so
unfoldable pub entry_of : Stream → Asked → Entry
entry_of s a =
    let g = answer_to s a in
    record { call = a.call; input = field_of a.input; answer = number_of g.answer; out = field_of g.out; rounds = g.rounds }

-- the log of calls one after another, from a state
abbrev pub log_from : Stream → List Asked → List ℕ
log_from s [] = []
log_from s (a ∷ calls) = entry_text (entry_of s a) ++ log_from (answer_to s a).next calls

-- and the state behind them
abbrev pub after : Stream → List Asked → Stream
after s [] = s
after s (a ∷ calls) = after (answer_to s a).next calls

-- each is handed bytes, as many as its data may have
abbrev pub AllAllowed : List Asked → Type 0
AllAllowed [] = Unit {0}
AllAllowed (a ∷ calls) = (are_bytes a.input ≡ true) × (allows (data_kind a.call) 0 (field_of a.input) ≡ true) × AllAllowed calls

-- a log is ours: it is that of some calls, so many, from the ended state
pub record Ours (log : List ℕ) (entries : ℕ) : Type 0 where
  pub calls : List Asked
  pub allowed : AllAllowed calls
  pub spelled : log ≡ log_from ended calls
  pub count : entries ≡ length calls

-- ---- what our stream gives for a call

-- a call starts a stream
abbrev pub is_start : Call → Bool
is_start Start1 = true
is_start Start2 = true
is_start Ad = false
is_start Text = false
is_start Finish = false

-- a call has an output where it is done
abbrev pub has_out : Call → Bool
has_out Start1 = false
has_out Start2 = false
has_out Ad = false
has_out Text = true
has_out Finish = true

-- from any state, whatever the call is handed; the last law from the ended state on
pub record Feeds : Type 0 where
  -- the room is always enough: no call is refused for its room or for the length of its tag
  pub room : (s : Stream) (call : Call) (input : List ℕ) → let g = fed s call input in (g.answer ≡ NoRoom → ⊥) × (g.answer ≡ TagLength → ⊥)
  -- a start whose data is in form is done, with 12 rounds, and its stream has the largest limit
  pub starts : (s : Stream) (call : Call) (input : List ℕ) → is_start call ≡ true → allows (data_kind call) 0 (field_of input) ≡ true
      → let g = fed s call input in (g.answer ≡ Done) × (g.rounds ≡ 12) × (g.next.limit ≡ text_limit)
  -- a start replaces whatever stream was open
  pub replaces : (s other : Stream) (call : Call) (input : List ℕ) → is_start call ≡ true → fed s call input ≡ fed other call input
  -- a refused piece or finish reports no round, and leaves the state as it was
  pub refused : (s : Stream) (call : Call) (input : List ℕ) → is_start call ≡ false → let g = fed s call input in
      is_done g.answer ≡ false → (g.rounds ≡ 0) × (g.next ≡ s)
  -- the output is empty but for a text or a finish that is done
  pub silent : (s : Stream) (call : Call) (input : List ℕ) → let g = fed s call input in (has_out call && is_done g.answer) ≡ false → g.out ≡ []
  -- that of a done text has as many bytes as the text
  pub text : (s : Stream) (input : List ℕ) → let g = fed s Text input in is_done g.answer ≡ true → length g.out ≡ length input
  -- that of a done finish is the stream's own tag
  pub finish : (s : Stream) (input : List ℕ) → let g = fed s Finish input in is_done g.answer ≡ true → g.out ≡ own_tag s
  -- after any calls from the ended state on, a call whose data is in form is answered with 0, 5 or 7
  pub answers : (calls : List Asked) (a : Asked) → allows (data_kind a.call) 0 (field_of a.input) ≡ true
      → let n = number_of (answer_to (after ended calls) a).answer in (n ≡ 0) ⊎ ((n ≡ 5) ⊎ (n ≡ 7))

-- ---- the first entry that is wrong

-- answer, output and rounds of an entry are those that our stream gives
abbrev pub SameAnswer : Gives → Entry → Type 0
SameAnswer g e = e.answer ≡ number_of g.answer

abbrev pub SameOut : Gives → Entry → Type 0
SameOut g e = held e.out ≡ g.out

abbrev pub SameRounds : Gives → Entry → Type 0
SameRounds g e = e.rounds ≡ g.rounds

-- a text begins with an entry in form that compares so with what our stream gives
pub record Compares (how : Gives → Entry → Type 0) (s : Stream) (text : List ℕ) : Type 0 where
  pub begun : BegunEntry text
  pub so : let e = begun.content in how (fed s e.call (held e.input)) e

-- what stands at the beginning of a text is wrong, from a state, as a verdict says
abbrev pub IsWrong : Verdict → Stream → List ℕ → Type 0
IsWrong Agrees s text = ⊥
IsWrong Answer s text = Compares (λ g e. SameAnswer g e → ⊥) s text
IsWrong Out s text = Compares (λ g e. SameAnswer g e × (SameOut g e → ⊥)) s text
IsWrong Rounds s text = Compares (λ g e. SameAnswer g e × SameOut g e × (SameRounds g e → ⊥)) s text
IsWrong (Unread line column) s text = (1 ≤ length text) × WrongEntry text line column
IsWrong Open s text = ⊥

-- an entry of a log is the first that is wrong: those before it are a log of ours, and what stands behind them is wrong
pub record FirstWrong (log : List ℕ) (entry : ℕ) (verdict : Verdict) : Type 0 where
  pub calls : List Asked
  pub allowed : AllAllowed calls
  pub rest : List ℕ
  pub parts : log ≡ log_from ended calls ++ rest
  pub number : entry ≡ length calls + 1
  pub wrong : IsWrong verdict (after ended calls) rest

-- ---- a log in windows

-- how far a replay is: the bytes that were not replayed yet, how many entries agreed, the state behind them, and the verdict
pub record SoFar : Type 0 where
  pub left : List ℕ
  pub entries : ℕ
  pub stream : Stream
  pub verdict : Verdict

-- before the first window
abbrev pub begun : SoFar
begun = record { left = []; entries = 0; stream = ended; verdict = Open }

abbrev pub is_open : Verdict → Bool
is_open Agrees = false
is_open Answer = false
is_open Out = false
is_open Rounds = false
is_open (Unread line column) = false
is_open Open = true

-- an entry was read, and differs
abbrev pub is_difference : Verdict → Bool
is_difference Agrees = false
is_difference Answer = true
is_difference Out = true
is_difference Rounds = true
is_difference (Unread line column) = false
is_difference Open = false

-- what is left and a window behind it, replayed
unfoldable pub replayed : Bool → SoFar → List ℕ → SoFar
replayed over f window =
    let text = f.left ++ window in
    let r = stretch_of over f.stream text in
    record { left = drop r.taken text; entries = f.entries + r.entries; stream = r.stream; verdict = r.verdict }

-- a window more, with the end of the log behind it or not; a verdict that is told stays
abbrev pub onward : Bool → SoFar → List ℕ → SoFar
onward over f window = cond (is_open f.verdict) (replayed over f window) f

-- windows one after another
abbrev pub over_windows : SoFar → List (List ℕ) → SoFar
over_windows f [] = f
over_windows f (window ∷ windows) = over_windows (onward false f window) windows

-- at the end of the log
abbrev pub concluded : SoFar → Conclusion
concluded f = let g = onward true f [] in told g.entries g.verdict

-- the windows, joined
abbrev pub joined : List (List ℕ) → List ℕ
joined [] = []
joined (window ∷ windows) = window ++ joined windows

-- ---- the promise

pub record Replays : Type 0 where
  -- all agree, so many entries, exactly where the log is ours: that of some calls from the ended state, with the answers, outputs and rounds that our stream gives
  pub agrees : (log : List ℕ) (entries : ℕ) → (replay_of log ≡ told entries Agrees) ↔ Ours log entries
  -- an entry is named with another verdict exactly where it is the first that is wrong, and wrong in this way
  pub first : (log : List ℕ) (entry : ℕ) (verdict : Verdict) → is_agreed verdict ≡ false
      → (replay_of log ≡ record { entry = entry; verdict = verdict }) ↔ FirstWrong log entry verdict
  -- the empty log agrees
  pub nothing : replay_of [] ≡ told 0 Agrees
  -- a whole log is never left open
  pub decided : (log : List ℕ) → (replay_of log).verdict ≡ Open → ⊥
  -- a window that the log goes on behind never tells that all agree
  pub at_end : (s : Stream) (text : List ℕ) → (stretch_of false s text).verdict ≡ Agrees → ⊥
  -- where an entry differs, nothing behind it matters
  pub behind : (log more : List ℕ) → is_difference (replay_of log).verdict ≡ true → replay_of (log ++ more) ≡ replay_of log
  -- windows of a log, however it is cut, are replayed as the whole log
  pub windows : (windows : List (List ℕ)) → concluded (over_windows begun windows) ≡ replay_of (joined windows)
  -- a window that tells a verdict tells it whatever stands behind it
  pub window : (over : Bool) (s : Stream) (text more : List ℕ) → is_open (stretch_of false s text).verdict ≡ false → stretch_of over s (text ++ more) ≡ stretch_of false s text
  -- a window is left open only where the log goes on, what was not replayed is no entry, and some more of the log makes it one
  pub waits : (over : Bool) (s : Stream) (text : List ℕ) → (stretch_of over s text).verdict ≡ Open
      → let left = drop (stretch_of over s text).taken text in
      (over ≡ false) × (BegunEntry left → ⊥) × ((more : List ℕ) × BegunEntry (left ++ more)) × (length left < most_bytes)
  -- a replay takes no more than its window, and counts no more entries than bytes
  pub inside : (over : Bool) (s : Stream) (text : List ℕ) → let r = stretch_of over s text in (r.entries ≤ r.taken) × (r.taken ≤ length text)
