-- Streams whose state the caller keeps in an area of bytes: a list of calls on one, and what ties it to the stream's own calls.
use Rattle.std.specs.Prelude.{Bool, true, cond, List, [], ◌∷◌, ◌++◌, ◌≡◌, ℕ, ◌+◌, ◌/◌, ◌%◌, ◌≤◌, ◌<◌, eqb, length, take}
use Rattle.permutation.specs.Strings.{Bytes}
use Rattle.ascon.specs.Sets.{row_of, ad_limit}
use Rattle.stream.specs.declared.Direction.{Direction}
use Rattle.stream.specs.declared.Phase.TheVariants.{Ad}
use Rattle.stream.specs.State.{gives_text, is_open, ended}
use Rattle.stream.specs.Calls.{Start}
use Rattle.history.specs.History.{Streams, Call, give_ad, give_text, finish, ad_of, text_of, History, begun, after, BytesIn, state_at, rounds_at, published_out}
use Rattle.gateway.specs.Spelling.{state_length, spelling, is_spelling, state_in}
use Rattle.gateway.specs.Calls.{Left, left, LeftLent, unspelled, left_by, left_beside, start_on, ad_on, text_on, finish_on, end_on}

-- what the calls return, and what they leave in the area and in a lent place, on any input; `ends` is the end without a tag
pub record Areas : Type 0 where
  pub start : Start → List ℕ → Left
  pub ad : List ℕ → List ℕ → Left
  pub text : Direction → List ℕ → List ℕ → List ℕ → LeftLent
  pub finish : Direction → List ℕ → List ℕ → LeftLent
  pub ends : List ℕ → Left

-- our own, by the definitions that the contracts cite
abbrev pub ours : Areas
ours = record { start = start_on; ad = ad_on; text = text_on; finish = finish_on; ends = end_on }

-- the area, what was taken of the data and of the text so far, joined, what was given out, joined, and the rounds reported, added up
pub record AreaHistory : Type 0 where
  pub area : List ℕ
  pub ad : List ℕ
  pub text : List ℕ
  pub out : List ℕ
  pub rounds : ℕ

-- a stream's history, with its state spelled
abbrev pub spelled_history : History → AreaHistory
spelled_history h = record { area = spelling h.stream; ad = h.ad; text = h.text; out = h.out; rounds = h.rounds }

-- the place that the call is lent beside the area
abbrev pub lent_to : Call → List ℕ
lent_to (give_ad piece) = []
lent_to (give_text d piece out) = out
lent_to (finish d tag) = tag

module _ (m : Areas) where
  -- what the call returns, and what it leaves in the area
  abbrev pub reply_on : List ℕ → Call → Left
  reply_on area (give_ad piece) = m.ad area piece
  reply_on area (give_text d piece out) = let r = m.text d area piece out in left r.word r.area
  reply_on area (finish d tag) = let r = m.finish d area tag in left r.word r.area

  -- what it leaves in the lent place
  abbrev pub lent_on : List ℕ → Call → List ℕ
  lent_on area (give_ad piece) = []
  lent_on area (give_text d piece out) = (m.text d area piece out).lent
  lent_on area (finish d tag) = (m.finish d area tag).lent

  -- the output that it gives where it is done
  abbrev pub out_on : List ℕ → Call → List ℕ
  out_on area (give_ad piece) = []
  out_on area (give_text d piece out) = cond (gives_text d) (take (length piece) (m.text d area piece out).lent) []
  out_on area (finish d tag) = []

  -- a start in an area, with its rounds
  abbrev pub begun_on : Start → List ℕ → AreaHistory
  begun_on start area = let r = m.start start area in record { area = r.area; ad = []; text = []; out = []; rounds = r.word / 16 }

  -- one call more: what it hands over is taken where its word's remainder by 16 is 0, which is done
  unfoldable pub next_on : AreaHistory → Call → AreaHistory
  next_on h call =
      let r = reply_on h.area call in
      let done = eqb (r.word % 16) 0 in
      record {
        area = r.area;
        ad = h.ad ++ cond done (ad_of call) [];
        text = h.text ++ cond done (text_of call) [];
        out = h.out ++ cond done (out_on h.area call) [];
        rounds = h.rounds + r.word / 16;
      }

  -- a list of calls
  abbrev pub after_on : AreaHistory → List Call → AreaHistory
  after_on h [] = h
  after_on h (call ∷ calls) = after_on (next_on h call) calls

-- a start in an area that is done, with a key of bytes, as every slice is
pub record StartedOn (m : Areas) (start : Start) (area : List ℕ) : Type 0 where
  pub done : (m.start start area).word % 16 ≡ 0
  pub key_bytes : Bytes start.key

-- calls on areas are a stream's calls on the states that the areas spell
pub record Spelled (m : Areas) (s : Streams) : Type 0 where
  -- each call, on any area: it is the stream's call on the state that the area spells; what spells none is 8, and nothing changes
  pub start : (start : Start) (area : List ℕ) → m.start start area ≡ cond (eqb (length area) state_length) (left_by (s.start start)) (unspelled area)
  pub ad : (area piece : List ℕ) → m.ad area piece ≡ cond (is_spelling area) (left_by (s.ad (state_in area) piece)) (unspelled area)
  pub text : (d : Direction) (area piece out : List ℕ) → let call = s.text d (state_in area) piece out in
      m.text d area piece out ≡ cond (is_spelling area) (left_beside (left_by call.outcome) call.lent) (left_beside (unspelled area) out)
  pub finish : (d : Direction) (area tag : List ℕ) → let call = s.finish d (state_in area) tag in
      m.finish d area tag ≡ cond (is_spelling area) (left_beside (left_by call.outcome) call.lent) (left_beside (unspelled area) tag)
  -- the end without a tag, which no stream has as a call: the ended state, and no rounds
  pub ends : (area : List ℕ) → m.ends area ≡ cond (eqb (length area) state_length) (left 0 (spelling ended)) (unspelled area)
  -- any list of data, text and finish calls after a done start, in an area that held anything before: what is taken, given out and reported is what the stream's calls
  -- take, give out and report, and the area is the spelling of the stream's state
  pub histories : (start : Start) (area : List ℕ) → StartedOn m start area → (calls : List Call) → BytesIn calls
      → after_on m (begun_on m start area) calls ≡ spelled_history (after s (begun s start) calls)

-- whether the state that an area spells is before its end
abbrev pub is_open_in : List ℕ → Bool
is_open_in area = is_open (state_in area).phase

-- what holds of a history in an area: its bytes and its lengths in every phase; its output and its rounds while it is not ended
pub record AreaTold (start : Start) (h : AreaHistory) : Type 0 where
  pub area : h.area ≡ spelling (state_at start (state_in h.area).phase h.ad h.text)
  pub out : is_open_in h.area ≡ true → h.out ≡ published_out start.direction (row_of start.set) start.key start.nonce h.ad h.text
  pub rounds : is_open_in h.area ≡ true → h.rounds ≡ rounds_at (row_of start.set) (state_in h.area).phase (length h.ad) (length h.text)
  pub within : (length h.ad ≤ ad_limit) × (length h.text ≤ start.limit)

-- the history law of the area's bytes: any calls at all, in any order, after a done start
abbrev pub AreaLaw : Areas → Type 0
AreaLaw m = (start : Start) (area : List ℕ) → StartedOn m start area → (calls : List Call) → BytesIn calls → AreaTold start (after_on m (begun_on m start area) calls)

-- the other half: while the stream is open, a piece in its phase and direction, within the limits and with room, is never refused, and one of text past the limit that
-- the start chose is refused with 5, whatever its room
pub record AreaTaken (m : Areas) (start : Start) (h : AreaHistory) : Type 0 where
  pub ad : (state_in h.area).phase ≡ Ad → (piece : List ℕ) → length h.ad + length piece ≤ ad_limit → (m.ad h.area piece).word % 16 ≡ 0
  pub text : is_open_in h.area ≡ true → (piece out : List ℕ) → length h.text + length piece ≤ start.limit
      → (gives_text start.direction ≡ true → length piece ≤ length out) → (m.text start.direction h.area piece out).word % 16 ≡ 0
  pub past : is_open_in h.area ≡ true → (piece out : List ℕ) → start.limit < length h.text + length piece
      → (m.text start.direction h.area piece out).word % 16 ≡ 5

abbrev pub AreasTake : Areas → Type 0
AreasTake m = (start : Start) (area : List ℕ) → StartedOn m start area → (calls : List Call) → BytesIn calls → AreaTaken m start (after_on m (begun_on m start area) calls)
