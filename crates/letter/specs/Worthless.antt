-- Worthless versions, and what each of them breaks. A version is any model that does what is said of it, whatever else it does.
use Rattle.std.specs.Prelude.{true, false, cond, List, [], ◌∷◌, ◌≡◌, ℕ, suc, ◌+◌, ◌%◌, ◌≤◌, ◌<◌, eqb, length, get_or, take}
use Rattle.answers.specs.declared.Answer.TheVariants.{Done, TagDiffers}
use Rattle.permutation.specs.Strings.{Bytes}
use Rattle.ascon.specs.Sets.{row_of}
use Rattle.ascon.specs.Mode.{◌⊕◌, decrypted, sealed}
use Rattle.stream.specs.declared.Direction.{Direction}
use Rattle.stream.specs.declared.Direction.TheVariants.{Sealing}
use Rattle.stream.specs.declared.Phase.TheVariants.{Ended}
use Rattle.stream.specs.declared.Stream.{Stream}
use Rattle.stream.specs.State.{gives_text, gives_tag, is_open, all_zero}
use Rattle.stream.specs.Calls.{Start, own_tag}
use Rattle.history.specs.History.{Streams, Call, begun, after, BytesIn, Started}
use Rattle.history.specs.Cuts.{Message}
use Rattle.gateway.specs.Spelling.{state_length, is_spelling, state_in}
use Rattle.areas.specs.Areas.{Areas, lent_to, reply_on, lent_on, begun_on, after_on, StartedOn, is_open_in}
use Rattle.areas.specs.Cuts.{AreaCutting}
use Rattle.message.specs.Message.{SealLeaves}
use Rattle.letter.specs.Calls.{Refused, Through}
use Rattle.letter.specs.Messages as messages
use Rattle.letter.specs.Streams as streams
use Rattle.letter.specs.Areas as areas
use Rattle.letter.specs.Model.{Model}
use Rattle.letter.specs.Second.{Unrefused, Second}
use Rattle.letter.specs.Third.{Third}
use Rattle.letter.specs.Nines.{Handed, SameLengths, unsealed, SameData, NinesAlike, OpensOnce}

-- ---- the versions

-- never says done to the sealing of a whole message; to an opening; to a start
abbrev pub NeverSeals : messages.Model → Type 0
NeverSeals m = (set : ℕ) (K N A P out tag : List ℕ) → (m.seal set K N A P out tag).outcome.answer ≡ Done → ⊥

abbrev pub NeverOpens : messages.Model → Type 0
NeverOpens m = (set : ℕ) (K N A C T out : List ℕ) → (m.unseal set K N A C T out).outcome.answer ≡ Done → ⊥

abbrev pub NeverStarts : Streams → Type 0
NeverStarts m = (start : Start) → (m.start start).answer ≡ Done → ⊥

-- its answer and what it leaves depend only on the set, the lengths and what the lent places held, for any text of bytes
abbrev pub SealsBlindly : messages.Model → (ℕ → ℕ → ℕ → ℕ → ℕ → List ℕ → List ℕ → SealLeaves) → Type 0
SealsBlindly m same = (set : ℕ) (K N A P out tag : List ℕ) → Bytes P → m.seal set K N A P out tag ≡ same set (length K) (length N) (length A) (length P) out tag

-- copies the text; in opening, the ciphertext
abbrev pub Copies : messages.Model → Type 0
Copies m = (set : ℕ) (K N A P out tag : List ℕ) → let leaves = m.seal set K N A P out tag in leaves.outcome.answer ≡ Done → take (length P) leaves.out ≡ P

abbrev pub CopiesOpenings : messages.Model → Type 0
CopiesOpenings m = (set : ℕ) (K N A C T out : List ℕ) → let leaves = m.unseal set K N A C T out in leaves.outcome.answer ≡ Done → take (length C) leaves.out ≡ C

-- in a direction, once it has taken some text, copies every later piece, whatever it does with the first
abbrev pub CopiesLater : Streams → Direction → Type 0
CopiesLater m d =
    (start : Start) (calls : List Call) (piece out : List ℕ) → start.direction ≡ d → let before = after m (begun m start) calls in
    let leaves = m.text d before.stream piece out in
    (before.text ≡ [] → ⊥) → leaves.outcome.answer ≡ Done → take (length piece) leaves.lent ≡ piece

-- at the first piece of one message, leaves the lent place as it was, whatever it held: an opening that hands out nothing until the finish is such
abbrev pub HoldsBack : Streams → Start → List ℕ → Type 0
HoldsBack m start piece = (out : List ℕ) → (m.text start.direction (m.start start).next piece out).lent ≡ out

-- takes one piece, or one finish, for a stream of another direction
abbrev pub CrossesText : Streams → Direction → Stream → List ℕ → List ℕ → Type 0
CrossesText m d s piece out = (s.direction ≡ d → ⊥) × ((m.text d s piece out).outcome.answer ≡ Done)

abbrev pub CrossesFinish : Streams → Direction → Stream → List ℕ → Type 0
CrossesFinish m d s tag = (s.direction ≡ d → ⊥) × Through (m.finish d s tag).outcome.answer

-- in a direction, takes an empty piece of text for the end of the message
abbrev pub EmptyEnds : Streams → Direction → Type 0
EmptyEnds m d = (s : Stream) (out : List ℕ) → let outcome = (m.text d s [] out).outcome in outcome.answer ≡ Done → outcome.next.phase ≡ Ended

-- in a direction, counts no text, and so has no limit
abbrev pub ForgetsText : Streams → Direction → Type 0
ForgetsText m d = (s : Stream) (piece out : List ℕ) → let outcome = (m.text d s piece out).outcome in outcome.answer ≡ Done → outcome.next.text ≡ 0

-- takes one piece of text past a stream's limit, in some direction
abbrev pub PassesLimit : Streams → Direction → Stream → List ℕ → List ℕ → Type 0
PassesLimit m d s piece out = (s.limit < s.text + length piece) × ((m.text d s piece out).outcome.answer ≡ Done)

-- changes a stream's limit at one piece of text, in some direction
abbrev pub ForgetsLimit : Streams → Direction → Stream → List ℕ → List ℕ → Type 0
ForgetsLimit m d s piece out = let outcome = (m.text d s piece out).outcome in (outcome.answer ≡ Done) × (outcome.next.limit ≡ s.limit → ⊥)

-- opens one ciphertext under every tag of the set's length
abbrev pub OpensAnyTag : messages.Model → ℕ → List ℕ → List ℕ → List ℕ → List ℕ → List ℕ → Type 0
OpensAnyTag m set K N A C out = (T : List ℕ) → length T ≡ (row_of set).key → (m.unseal set K N A C T out).outcome.answer ≡ Done

-- after one cut message, says done to two tags
abbrev pub AgreesToTwo : Streams → Start → List Call → List ℕ → List ℕ → Type 0
AgreesToTwo m start calls tag other =
    let finish = m.finish start.direction (after m (begun m start) calls).stream in
    (tag ≡ other → ⊥) × ((finish tag).outcome.answer ≡ Done) × ((finish other).outcome.answer ≡ Done)

-- reports the same rounds for every message; for every start, and every piece of text and finish of a sealing
abbrev pub SameRounds : messages.Model → ℕ → Type 0
SameRounds m n = (set : ℕ) (K N A P out tag : List ℕ) → let outcome = (m.seal set K N A P out tag).outcome in outcome.answer ≡ Done → outcome.rounds ≡ n

abbrev pub SameStreamRounds : Streams → ℕ → ℕ → ℕ → Type 0
SameStreamRounds m start text finish =
    ((given : Start) → let outcome = m.start given in outcome.answer ≡ Done → outcome.rounds ≡ start)
    × ((s : Stream) (piece out : List ℕ) → let outcome = (m.text Sealing s piece out).outcome in outcome.answer ≡ Done → outcome.rounds ≡ text)
    × ((s : Stream) (tag : List ℕ) → let outcome = (m.finish Sealing s tag).outcome in outcome.answer ≡ Done → outcome.rounds ≡ finish)

-- reports no rounds at a start, so that at best their sum is right in the end
abbrev pub ReportsLate : Streams → Type 0
ReportsLate m = (start : Start) → (m.start start).rounds ≡ 0

-- finishes one stream, with done or 9, and leaves it open
abbrev pub StaysOpen : Streams → Direction → Stream → List ℕ → Type 0
StaysOpen m d s tag = let outcome = (m.finish d s tag).outcome in Through outcome.answer × (is_open outcome.next.phase ≡ true)

-- says one 9, and leaves the stream open, or reports no round
abbrev pub OpenOnNine : Streams → Direction → Stream → List ℕ → Type 0
OpenOnNine m d s tag = let outcome = (m.finish d s tag).outcome in (outcome.answer ≡ TagDiffers) × (is_open outcome.next.phase ≡ true)

abbrev pub SilentNine : Streams → Direction → Stream → List ℕ → Type 0
SilentNine m d s tag = let outcome = (m.finish d s tag).outcome in (outcome.answer ≡ TagDiffers) × (outcome.rounds ≡ 0)

-- changes a byte behind one piece of text, which the third demand does not see
abbrev pub WritesBeyond : Streams → Direction → Stream → List ℕ → List ℕ → ℕ → Type 0
WritesBeyond m d s piece out index =
    let leaves = m.text d s piece out in
    (leaves.outcome.answer ≡ Done) × (length piece ≤ index) × (get_or leaves.lent index 0 ≡ get_or out index 0 → ⊥)

-- ---- those that give something away with a 9

-- the tag under which the document opens a ciphertext
abbrev pub right_tag : ℕ → List ℕ → List ℕ → List ℕ → List ℕ → List ℕ
right_tag set K N A C = (sealed (row_of set) K N A (decrypted (row_of set) K N A C).out).tag

-- how many bytes of a tag are right before its first wrong one
abbrev pub right_bytes : List ℕ → List ℕ → ℕ
right_bytes [] right = 0
right_bytes (byte ∷ tag) [] = 0
right_bytes (byte ∷ tag) (b ∷ right) = cond (eqb byte b) (suc (right_bytes tag right)) 0

-- with each 9 to a ciphertext of n bytes, in one set, under one key, nonce and data, leaves at the front of the place the first byte of what the ciphertext decrypts to
abbrev pub LeavesPlaintext : messages.Model → ℕ → List ℕ → List ℕ → List ℕ → ℕ → List ℕ → Type 0
LeavesPlaintext m set K N A n out =
    (C T : List ℕ) → Bytes C → Bytes T → length C ≡ n → let leaves = m.unseal set K N A C T out in
    leaves.outcome.answer ≡ TagDiffers → get_or leaves.out 0 0 ≡ get_or (decrypted (row_of set) K N A C).out 0 0

-- with each 9 to one ciphertext, leaves at the front of the place the first byte of the right tag ⊕ the one that was given
abbrev pub LeavesDifference : messages.Model → ℕ → List ℕ → List ℕ → List ℕ → List ℕ → List ℕ → Type 0
LeavesDifference m set K N A C out =
    (T : List ℕ) → Bytes T → let leaves = m.unseal set K N A C T out in
    leaves.outcome.answer ≡ TagDiffers → get_or leaves.out 0 0 ≡ get_or (right_tag set K N A C ⊕ T) 0 0

-- does so through the C boundary
abbrev pub BoundaryLeaves : messages.Model → ℕ → List ℕ → List ℕ → List ℕ → List ℕ → List ℕ → Type 0
BoundaryLeaves m set K N A C out =
    (T : List ℕ) → Bytes T → let leaves = m.open_word set K N A C T out in
    leaves.word % 16 ≡ 9 → get_or leaves.out 0 0 ≡ get_or (right_tag set K N A C ⊕ T) 0 0

-- with each 9 to one ciphertext, reports some rounds, and one more for each byte of the tag that is right before the first wrong one
abbrev pub RoundsByTag : messages.Model → ℕ → List ℕ → List ℕ → List ℕ → List ℕ → List ℕ → ℕ → Type 0
RoundsByTag m set K N A C out base =
    (T : List ℕ) → Bytes T → let outcome = (m.unseal set K N A C T out).outcome in
    outcome.answer ≡ TagDiffers → outcome.rounds ≡ base + right_bytes T (right_tag set K N A C)

-- does so with each 9 of a finish, on one stream
abbrev pub FinishByTag : Streams → Direction → Stream → ℕ → Type 0
FinishByTag m d s base =
    (T : List ℕ) → Bytes T → let outcome = (m.finish d s T).outcome in outcome.answer ≡ TagDiffers → outcome.rounds ≡ base + right_bytes T (own_tag s)

-- with each 9 to one ciphertext, reports some rounds, and as many more as the first byte of the key says
abbrev pub RoundsByKey : messages.Model → ℕ → List ℕ → List ℕ → List ℕ → List ℕ → ℕ → Type 0
RoundsByKey m set N A C out base =
    (K T : List ℕ) → Bytes K → Bytes T → let outcome = (m.unseal set K N A C T out).outcome in
    outcome.answer ≡ TagDiffers → outcome.rounds ≡ base + get_or K 0 0

-- says 9 to two streams whose keys differ, and leaves to each its key
abbrev pub LeavesKeys : Streams → Direction → Stream → Stream → List ℕ → List ℕ → Type 0
LeavesKeys m d one other tag tag' =
    let x = (m.finish d one tag).outcome in
    let y = (m.finish d other tag').outcome in
    (one.key ≡ other.key → ⊥) × (x.answer ≡ TagDiffers) × (y.answer ≡ TagDiffers) × (x.next.key ≡ one.key) × (y.next.key ≡ other.key)

-- refuses two openings with 1 to 6, and leaves at the front of the place the first byte of each one's key, which is not the other's
abbrev pub LeavesRefused : messages.Model → ℕ → Handed → Handed → List ℕ → Type 0
LeavesRefused m set one other out =
    let x = unsealed m set one out in
    let y = unsealed m set other out in
    Refused x.outcome.answer
    × Refused y.outcome.answer
    × (get_or x.out 0 0 ≡ get_or one.key 0 0)
    × (get_or y.out 0 0 ≡ get_or other.key 0 0)
    × (get_or one.key 0 0 ≡ get_or other.key 0 0 → ⊥)

-- wherever it says done to one ciphertext and tag, leaves the place as it was
abbrev pub OpensToPlace : messages.Model → ℕ → List ℕ → List ℕ → List ℕ → List ℕ → List ℕ → Type 0
OpensToPlace m set K N A C T = (out : List ℕ) → Bytes out → let leaves = m.unseal set K N A C T out in leaves.outcome.answer ≡ Done → leaves.out ≡ out

-- says done to one ciphertext with two tags
abbrev pub OpensTwoTags : messages.Model → ℕ → List ℕ → List ℕ → List ℕ → List ℕ → List ℕ → List ℕ → List ℕ → Type 0
OpensTwoTags m set K N A C T T' out =
    (T ≡ T' → ⊥) × ((m.unseal set K N A C T out).outcome.answer ≡ Done) × ((m.unseal set K N A C T' out).outcome.answer ≡ Done)

-- ---- those that go wrong in an area, through the C boundary

-- refuses one start, and then says done, or 9, to a call in that area, as to a stream that stood there before
abbrev pub TakesOld : Areas → Start → List ℕ → Call → Type 0
TakesOld m start area call =
    let leaves = m.start start area in
    (length area ≡ state_length) × areas.RefusedWord leaves.word × areas.ThroughWord (reply_on m leaves.area call).word

-- says done, or 9, to one call on bytes that spell no state
abbrev pub TakesNoState : Areas → List ℕ → Call → Type 0
TakesNoState m area call = (is_spelling area ≡ false) × areas.ThroughWord (reply_on m area call).word

-- refuses one call, and changes the area, or the lent place
abbrev pub ChangesRefused : Areas → List ℕ → Call → Type 0
ChangesRefused m area call =
    areas.RefusedWord (reply_on m area call).word × (((reply_on m area call).area ≡ area) × (lent_on m area call ≡ lent_to call) → ⊥)

-- ends one stream without a tag, or by a finish with done or 9, and leaves something of its words or of its key
abbrev pub EndKeeps : Areas → List ℕ → Type 0
EndKeeps m area = (length area ≡ state_length) × (all_zero (take 56 (m.ends area).area) ≡ false)

abbrev pub FinishKeeps : Areas → Direction → List ℕ → List ℕ → Type 0
FinishKeeps m d area tag = let leaves = m.finish d area tag in areas.ThroughWord leaves.word × (all_zero (take 56 leaves.area) ≡ false)

-- leaves two different areas after two cuttings of one message, by which the cut can be seen
abbrev pub CutShows : Areas → Start → List ℕ → List ℕ → List Call → List Call → Type 0
CutShows m start area area' calls other =
    let h = after_on m (begun_on m start area) calls in
    let k = after_on m (begun_on m start area') other in
    ((state_in h.area).phase ≡ (state_in k.area).phase) × (h.ad ≡ k.ad) × (h.text ≡ k.text) × (h.area ≡ k.area → ⊥)

-- after some calls, while the stream is open, says done to two tags
abbrev pub AgreesToTwoOn : Areas → Start → List ℕ → List Call → List ℕ → List ℕ → Type 0
AgreesToTwoOn m start area calls tag other =
    let finish = m.finish start.direction (after_on m (begun_on m start area) calls).area in
    (tag ≡ other → ⊥) × ((finish tag).word % 16 ≡ 0) × ((finish other).word % 16 ≡ 0)

-- ---- what they break

pub record Worthless : Type 0 where
  -- the listed conditions
  pub refuses : (m : messages.Model) → NeverSeals m → messages.Listed m → ⊥
  pub refuses_openings : (m : messages.Model) → NeverOpens m → messages.Listed m → ⊥
  pub refuses_streams : (m : Streams) → NeverStarts m → streams.Listed m → ⊥
  pub passes_limit : (m : Streams) (d : Direction) (s : Stream) (piece out : List ℕ) → PassesLimit m d s piece out → streams.Listed m → ⊥
  pub crosses_text : (m : Streams) (d : Direction) (s : Stream) (piece out : List ℕ) → CrossesText m d s piece out → streams.Listed m → ⊥
  pub crosses_finish : (m : Streams) (d : Direction) (s : Stream) (tag : List ℕ) → CrossesFinish m d s tag → streams.Listed m → ⊥
  -- the second demand, once it is done with a text that is not empty
  pub answers_same : (m : messages.Model) (same : ℕ → ℕ → ℕ → ℕ → ℕ → List ℕ → List ℕ → SealLeaves) → SealsBlindly m same
      → (set : ℕ) (K N A : List ℕ) (byte : ℕ) (rest out tag : List ℕ) → Bytes (byte ∷ rest) → length K ≡ (row_of set).key
      → (m.seal set K N A (byte ∷ rest) out tag).outcome.answer ≡ Done
      → Second m → ⊥
  -- the second demand
  pub copies : (m : messages.Model) → Copies m → messages.Listed m → Second m → ⊥
  pub copies_openings : (m : messages.Model) → CopiesOpenings m → messages.Listed m → Second m → ⊥
  pub takes_every_tag : (m : messages.Model) (set : ℕ) (K N A C out : List ℕ) → length K ≡ (row_of set).key → OpensAnyTag m set K N A C out → Second m → ⊥
  -- the second demand, too, where a published ciphertext and tag get no refusal 1 to 6, and are not opened
  pub takes_no_tag : (m : messages.Model) (set : ℕ) (K N A P out : List ℕ) → let published = sealed (row_of set) K N A P in
      let answer = (m.unseal set K N A published.cipher published.tag out).outcome.answer in
      Unrefused answer → (answer ≡ Done → ⊥) → Second m → ⊥
  -- the third demand; the listed conditions only say which calls are done
  pub copies_later : (m : Streams) (d : Direction) → gives_text d ≡ true → CopiesLater m d → streams.Listed m → Third m → ⊥
  pub ends_early : (m : Streams) (d : Direction) → gives_text d ≡ true → EmptyEnds m d → streams.Listed m → Third m → ⊥
  pub forgets : (m : Streams) (d : Direction) → gives_text d ≡ true → ForgetsText m d → streams.Listed m → Third m → ⊥
  pub makes_up_streams : (m : Streams) (start text finish : ℕ) → SameStreamRounds m start text finish → streams.Listed m → Third m → ⊥
  -- the third demand, for every start in a direction that has an output, and every first piece that it can take
  pub holds_back : (m : Streams) (start : Start) (byte : ℕ) (rest : List ℕ) → let piece = byte ∷ rest in
      gives_text start.direction ≡ true → Started m start → length start.key ≡ (row_of start.set).key → Bytes piece → length piece ≤ start.limit
      → HoldsBack m start piece → Third m → ⊥
  -- the third demand, after every cut message, in a direction that compares tags
  pub says_yes : (m : Streams) (start : Start) (A C : List ℕ) (calls : List Call) (tag other : List ℕ) → gives_tag start.direction ≡ false
      → Message m start A C calls → AgreesToTwo m start calls tag other → Third m → ⊥
  -- what a call has to report and leave; the listed conditions only say which calls are done
  pub makes_up : (m : messages.Model) (n : ℕ) → SameRounds m n → messages.Listed m → messages.Reported m → ⊥
  pub reports_late : (m : Streams) → ReportsLate m → streams.Listed m → streams.Reported m → ⊥
  pub silent_nine : (m : Streams) (d : Direction) (s : Stream) (tag : List ℕ) → SilentNine m d s tag → streams.Reported m → ⊥
  -- what a mismatch has to leave
  pub open_on_nine : (m : Streams) (d : Direction) (s : Stream) (tag : List ℕ) → OpenOnNine m d s tag → streams.Mismatch m → ⊥
  -- what a call has to leave
  pub forgets_limit : (m : Streams) (d : Direction) (s : Stream) (piece out : List ℕ) → ForgetsLimit m d s piece out → streams.Reported m → ⊥
  pub stays_open : (m : Streams) (d : Direction) (s : Stream) (tag : List ℕ) → StaysOpen m d s tag → streams.Reported m → ⊥
  pub writes_beyond : (m : Streams) (d : Direction) (s : Stream) (piece out : List ℕ) (index : ℕ) → WritesBeyond m d s piece out index → streams.Reported m → ⊥
  -- `NinesAlike`, in every set, under every key of bytes, nonce and data, and at every ciphertext and place, with which some opening is done or answered 9 (of the plaintext:
  -- that is not empty); the listed conditions only say which tags are answered 9
  pub leaves_plaintext : (m : Model) (set : ℕ) (K N A C T out : List ℕ) → Bytes K → 0 < length C → Through (m.messages.unseal set K N A C T out).outcome.answer
      → LeavesPlaintext m.messages set K N A (length C) out → messages.Listed m.messages → NinesAlike m → ⊥
  pub leaves_difference : (m : Model) (set : ℕ) (K N A C T out : List ℕ) → Bytes K → Through (m.messages.unseal set K N A C T out).outcome.answer
      → LeavesDifference m.messages set K N A C out → messages.Listed m.messages → NinesAlike m → ⊥
  pub rounds_by_tag : (m : Model) (set : ℕ) (K N A C T out : List ℕ) (base : ℕ) → Bytes K → Through (m.messages.unseal set K N A C T out).outcome.answer
      → RoundsByTag m.messages set K N A C out base → messages.Listed m.messages → NinesAlike m → ⊥
  pub rounds_by_key : (m : Model) (set byte : ℕ) (rest N A C T out : List ℕ) (base : ℕ) → Bytes (byte ∷ rest)
      → Through (m.messages.unseal set (byte ∷ rest) N A C T out).outcome.answer
      → RoundsByKey m.messages set N A C out base → messages.Listed m.messages → NinesAlike m → ⊥
  pub boundary_leaves : (m : Model) (set : ℕ) (K N A C T out : List ℕ) → Bytes K → Through (m.messages.unseal set K N A C T out).outcome.answer
      → BoundaryLeaves m.messages set K N A C out → messages.Listed m.messages → NinesAlike m → ⊥
  -- the same of finishes, in a direction that compares tags, at every stream with a key of sixteen bytes of which some finish is done or answered 9
  pub finish_by_tag : (m : Model) (d : Direction) (s : Stream) (T : List ℕ) (base : ℕ) → gives_tag d ≡ false → length s.key ≡ 16 → Bytes s.key
      → Through (m.streams.finish d s T).outcome.answer → FinishByTag m.streams d s base → streams.Listed m.streams → NinesAlike m → ⊥
  -- `NinesAlike` alone, at any two streams, and at any two openings
  pub leaves_keys : (m : Model) (d : Direction) (one other : Stream) (tag tag' : List ℕ) → SameData one other → LeavesKeys m.streams d one other tag tag' → NinesAlike m → ⊥
  pub leaves_refused : (m : Model) (set : ℕ) (one other : Handed) (out : List ℕ) → SameLengths one other → LeavesRefused m.messages set one other out → NinesAlike m → ⊥
  -- `OpensOnce`, wherever an opening of at least one byte is done
  pub opens_to_place : (m : Model) (set : ℕ) (K N A C T : List ℕ) (byte : ℕ) (rest : List ℕ) → 0 < length C → Bytes (byte ∷ rest)
      → (m.messages.unseal set K N A C T (byte ∷ rest)).outcome.answer ≡ Done
      → OpensToPlace m.messages set K N A C T → messages.Listed m.messages → OpensOnce m → ⊥
  -- `OpensOnce` alone
  pub opens_two_tags : (m : Model) (set : ℕ) (K N A C T T' out : List ℕ) → OpensTwoTags m.messages set K N A C T T' out → OpensOnce m → ⊥
  -- what is said of calls in areas: the listed conditions, what a refusal leaves, what a call reports and leaves
  pub takes_old : (m : Areas) (start : Start) (area : List ℕ) (call : Call) → TakesOld m start area call → areas.Listed m → areas.Unchanged m → ⊥
  pub takes_no_state : (m : Areas) (area : List ℕ) (call : Call) → TakesNoState m area call → areas.Listed m → ⊥
  pub changes_refused : (m : Areas) (area : List ℕ) (call : Call) → Bytes area → ChangesRefused m area call → areas.Unchanged m → ⊥
  pub end_keeps : (m : Areas) (area : List ℕ) → EndKeeps m area → areas.Reported m → ⊥
  pub finish_keeps : (m : Areas) (d : Direction) (area tag : List ℕ) → FinishKeeps m d area tag → areas.Reported m → ⊥
  -- never starts a stream
  pub refuses_areas : (m : Areas) → ((start : Start) (area : List ℕ) → (m.start start area).word % 16 ≡ 0 → ⊥) → areas.Listed m → ⊥
  -- the third demand in areas: after every start, and any calls
  pub cut_shows : (m : Areas) (start : Start) (area area' : List ℕ) (calls other : List Call) → StartedOn m start area → StartedOn m start area'
      → BytesIn calls → BytesIn other → CutShows m start area area' calls other → AreaCutting m → ⊥
  pub says_yes_on : (m : Areas) (start : Start) (area : List ℕ) (calls : List Call) (tag other : List ℕ) → gives_tag start.direction ≡ false → StartedOn m start area → BytesIn calls
      → is_open_in (after_on m (begun_on m start area) calls).area ≡ true → AgreesToTwoOn m start area calls tag other → AreaCutting m → ⊥
