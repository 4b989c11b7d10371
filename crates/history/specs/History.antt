-- A list of calls on a stream, one after the other, and what is to be said of it.
use Rattle.std.specs.Prelude.{true, cond, List, [], ◌∷◌, ◌++◌, ◌≡◌, ℕ, ◌+◌, ◌-◌, ◌*◌, ◌/◌, ◌%◌, ◌≤◌, ◌<◌, eqb, length, take}
use Rattle.answers.specs.declared.Answer.TheVariants.{Done, PastLimit}
use Rattle.answers.specs.Numbers.{is_done}
use Rattle.permutation.specs.Runs.{rounds_of}
use Rattle.permutation.specs.Strings.{Bytes, zeros, words_of_string}
use Rattle.ascon.specs.Sets.{ParameterSet, row_of, ad_limit}
use Rattle.ascon.specs.Mode.{p, initialise, before_text, decrypted, sealed}
use Rattle.ascon.specs.Bytewise.{at, sealing, steps}
use Rattle.sponge.specs.Sponge.{keep_of}
use Rattle.stream.specs.declared.Direction.{Direction}
use Rattle.stream.specs.declared.Direction.TheVariants.{Sealing, Checking, Opening}
use Rattle.stream.specs.declared.Phase.{Phase}
use Rattle.stream.specs.declared.Phase.TheVariants.{Ad, Text, Ended}
use Rattle.stream.specs.declared.Stream.{Stream}
use Rattle.stream.specs.declared.Outcome.{Outcome}
use Rattle.stream.specs.State.{way_of, gives_text, is_open, ended}
use Rattle.stream.specs.Calls.{Start, Called, start_call, ad_call, text_call, finish_call}

-- what the calls of a stream answer, and what they leave in a lent place, on any input
pub record Streams : Type 0 where
  pub start : Start → Outcome
  pub ad : Stream → List ℕ → Outcome
  pub text : Direction → Stream → List ℕ → List ℕ → Called
  pub finish : Direction → Stream → List ℕ → Called

-- our own, by the definitions that the contracts cite
abbrev pub ours : Streams
ours = record { start = start_call; ad = ad_call; text = text_call; finish = finish_call }

-- a call on a stream, with what it is handed; a lent place is what it holds before. A checking's text call is lent none, so that the second list of its `give_text`
-- plays no part
pub data Call : Type 0 where
  give_ad : List ℕ → Call
  give_text : Direction → List ℕ → List ℕ → Call
  finish : Direction → List ℕ → Call

-- the associated data that the call hands over
abbrev pub ad_of : Call → List ℕ
ad_of (give_ad piece) = piece
ad_of (give_text d piece out) = []
ad_of (finish d tag) = []

-- the text that it hands over
abbrev pub text_of : Call → List ℕ
text_of (give_ad piece) = []
text_of (give_text d piece out) = piece
text_of (finish d tag) = []

-- the state, what was taken of the data and of the text so far, joined, what was given out, joined, and the rounds reported, added up
pub record History : Type 0 where
  pub stream : Stream
  pub ad : List ℕ
  pub text : List ℕ
  pub out : List ℕ
  pub rounds : ℕ

module _ (m : Streams) where
  -- what the call answers
  abbrev pub reply : Stream → Call → Outcome
  reply s (give_ad piece) = m.ad s piece
  reply s (give_text d piece out) = (m.text d s piece out).outcome
  reply s (finish d tag) = (m.finish d s tag).outcome

  -- the output that it gives where it is done
  abbrev pub out_of : Stream → Call → List ℕ
  out_of s (give_ad piece) = []
  out_of s (give_text d piece out) = cond (gives_text d) (take (length piece) (m.text d s piece out).lent) []
  out_of s (finish d tag) = []

  -- a start, with its rounds
  abbrev pub begun : Start → History
  begun start = record { stream = (m.start start).next; ad = []; text = []; out = []; rounds = (m.start start).rounds }

  -- one call more: what it hands over is taken where it is done
  unfoldable pub next : History → Call → History
  next h call =
      let r = reply h.stream call in
      let done = is_done r.answer in
      record {
        stream = r.next;
        ad = h.ad ++ cond done (ad_of call) [];
        text = h.text ++ cond done (text_of call) [];
        out = h.out ++ cond done (out_of h.stream call) [];
        rounds = h.rounds + r.rounds;
      }

  -- a list of calls
  abbrev pub after : History → List Call → History
  after h [] = h
  after h (call ∷ calls) = after (next h call) calls

-- what a call hands over is bytes, as every slice is
abbrev pub BytesIn : List Call → Type 0
BytesIn [] = Unit {0}
BytesIn (call ∷ calls) = Bytes (ad_of call) × Bytes (text_of call) × BytesIn calls

-- a start that is done, with a key of bytes
pub record Started (m : Streams) (start : Start) : Type 0 where
  pub done : is_done (m.start start).answer ≡ true
  pub key_bytes : Bytes start.key

-- ---- the state as a function of start, phase, data and text

module _ (start : Start) where
  unfoldable pub state_at : Phase → List ℕ → List ℕ → Stream
  state_at Ad A T =
      let row = row_of start.set in
      record {
        words = words_of_string (steps row.block (p row.between) sealing (at (initialise row start.key start.nonce) 0) A).state;
        set = start.set;
        direction = start.direction;
        phase = Ad;
        key = start.key ++ zeros (16 - length start.key);
        ad = length A;
        text = 0;
        place = length A % row.block;
        limit = start.limit;
      }
  state_at Text A T =
      let row = row_of start.set in
      record {
        words = words_of_string (steps row.block (p row.between) (keep_of (way_of start.direction)) (at (before_text row start.key start.nonce A) 0) T).state;
        set = start.set;
        direction = start.direction;
        phase = Text;
        key = start.key ++ zeros (16 - length start.key);
        ad = length A;
        text = length T;
        place = length T % row.block;
        limit = start.limit;
      }
  state_at Ended A T = ended

-- the rounds so far: the start's, those of the full blocks of data, those of closing the data, those of the full blocks of text
unfoldable pub rounds_at : ParameterSet → Phase → ℕ → ℕ → ℕ
rounds_at row Ad a t = 12 + rounds_of row.between * (a / row.block)
rounds_at row Text a t =
    12 + rounds_of row.between * (a / row.block) + cond (eqb a 0) 0 (rounds_of row.between) + rounds_of row.between * (t / row.block)
rounds_at row Ended a t = 0

-- what a text gives out in a direction, all its pieces joined, by the published definitions: in a sealing its ciphertext; in a checking nothing, since its calls are
-- lent no place; in an opening its decryption, which is unverified until the finish says done
abbrev pub published_out : Direction → ParameterSet → List ℕ → List ℕ → List ℕ → List ℕ → List ℕ
published_out Sealing row K N A P = (sealed row K N A P).cipher
published_out Checking row K N A C = []
published_out Opening row K N A C = (decrypted row K N A C).out

-- what holds of a history: its state and its lengths in every phase; its output and its rounds while it is not ended
pub record Told (start : Start) (h : History) : Type 0 where
  pub state : h.stream ≡ state_at start h.stream.phase h.ad h.text
  pub out : is_open h.stream.phase ≡ true → h.out ≡ published_out start.direction (row_of start.set) start.key start.nonce h.ad h.text
  pub rounds : is_open h.stream.phase ≡ true → h.rounds ≡ rounds_at (row_of start.set) h.stream.phase (length h.ad) (length h.text)
  pub within : (length h.ad ≤ ad_limit) × (length h.text ≤ start.limit)

-- the history law: any calls at all, in any order, after a done start
abbrev pub HistoryLaw : Streams → Type 0
HistoryLaw m = (start : Start) → Started m start → (calls : List Call) → BytesIn calls → Told start (after m (begun m start) calls)

-- a piece in its phase and direction: of data, within the limit of data; of text, within the limit that the start chose and with room
pub data Fitting (start : Start) (h : History) : Call → Type 0 where
  ad_fits : (piece : List ℕ) → h.stream.phase ≡ Ad → length h.ad + length piece ≤ ad_limit → Fitting start h (give_ad piece)
  text_fits : (piece out : List ℕ) → length h.text + length piece ≤ start.limit → (gives_text start.direction ≡ true → length piece ≤ length out)
      → Fitting start h (give_text start.direction piece out)

-- the other half: such a piece is never refused
abbrev pub NeverRefused : Streams → Type 0
NeverRefused m =
    (start : Start) → Started m start → (calls : List Call) → BytesIn calls → let h = after m (begun m start) calls in
    is_open h.stream.phase ≡ true → (call : Call) → Fitting start h call → (reply m h.stream call).answer ≡ Done

-- and on an open stream, a piece of text for its direction that would pass the limit which the start chose is refused with 5, whatever its room
abbrev pub PastRefused : Streams → Type 0
PastRefused m =
    (start : Start) → Started m start → (calls : List Call) → BytesIn calls → let h = after m (begun m start) calls in
    is_open h.stream.phase ≡ true → (piece out : List ℕ) → start.limit < length h.text + length piece
    → (reply m h.stream (give_text start.direction piece out)).answer ≡ PastLimit

-- what a stream has taken, open or ended, is data within the limit of data and text within the limit that the start chose; while it is open, it counts both, and has
-- that limit
pub record Counted (start : Start) (h : History) : Type 0 where
  pub ad_within : length h.ad ≤ ad_limit
  pub text_within : length h.text ≤ start.limit
  pub ad : is_open h.stream.phase ≡ true → h.stream.ad ≡ length h.ad
  pub text : is_open h.stream.phase ≡ true → h.stream.text ≡ length h.text
  pub limit : is_open h.stream.phase ≡ true → h.stream.limit ≡ start.limit

-- after any calls on a stream that a done start gave
abbrev pub Limited : Streams → Type 0
Limited m = (start : Start) → Started m start → (calls : List Call) → BytesIn calls → Counted start (after m (begun m start) calls)
