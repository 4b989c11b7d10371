-- A message cut into pieces, and what is demanded of it.
use Rattle.std.specs.Prelude.{true, cond, not, ◌&&◌, List, [], ◌∷◌, ◌++◌, ◌↔◌, ◌≡◌, ℕ, ◌+◌, ◌≤◌, eqb, length, take}
use Rattle.answers.specs.declared.Answer.{Answer}
use Rattle.answers.specs.declared.Answer.TheVariants.{Done, TagLength, TagDiffers}
use Rattle.answers.specs.Numbers.{number_of}
use Rattle.answers.specs.Order.{◌when◌, first}
use Rattle.permutation.specs.Strings.{same}
use Rattle.ascon.specs.Sets.{ParameterSet, row_of, ad_limit, text_limit}
use Rattle.ascon.specs.Mode.{decrypted, sealed}
use Rattle.ascon.specs.Rounds.{message_rounds}
use Rattle.stream.specs.declared.Direction.{Direction}
use Rattle.stream.specs.declared.Direction.TheVariants.{Sealing, Checking, Opening}
use Rattle.stream.specs.declared.Stream.{Stream}
use Rattle.stream.specs.State.{gives_text, gives_tag, ended}
use Rattle.stream.specs.Calls.{Start}
use Rattle.history.specs.History.{Streams, Call, give_ad, give_text, reply, History, begun, after, BytesIn, Started, published_out}

-- the plaintext of a text in a direction: in a sealing the text itself, in the others its published decryption
abbrev pub plain_of : Direction → ParameterSet → List ℕ → List ℕ → List ℕ → List ℕ → List ℕ
plain_of Sealing row K N A P = P
plain_of Checking row K N A C = (decrypted row K N A C).out
plain_of Opening row K N A C = (decrypted row K N A C).out

-- the published tag of a message: that of its plaintext
abbrev pub published_tag : Start → List ℕ → List ℕ → List ℕ
published_tag start A T =
    let row = row_of start.set in (sealed row start.key start.nonce A (plain_of start.direction row start.key start.nonce A T)).tag

-- what a finish in a direction answers, by the published tag: 4 for a tag of another length than the set's; then, where it is given one to compare, 9 for another tag
abbrev pub finish_answer : Direction → ParameterSet → List ℕ → List ℕ → Answer
finish_answer d row published tag =
    first Done (TagLength when not (eqb (length tag) row.key) ∷ TagDiffers when (not (gives_tag d) && not (same tag published)) ∷ [])

-- a start in another direction, and all else the same
abbrev pub start_towards : Direction → Start → Start
start_towards d start = record { direction = d; set = start.set; limit = start.limit; key = start.key; nonce = start.nonce }

-- a state in another direction, and all else the same
abbrev pub stream_towards : Direction → Stream → Stream
stream_towards d s =
    record { words = s.words; set = s.set; direction = d; phase = s.phase; key = s.key; ad = s.ad; text = s.text; place = s.place; limit = s.limit }

module _ (m : Streams) where
  -- a call on a stream that is refused with 4 to 8
  pub record RefusedCall (s : Stream) (call : Call) : Type 0 where
    pub least : 4 ≤ number_of (reply m s call).answer
    pub most : number_of (reply m s call).answer ≤ 8

  -- the text, cut anywhere, each piece with room for what it gives, and refused calls in between
  pub data TextCut (d : Direction) : Stream → List ℕ → List Call → Type 0 where
    text_end : {s : Stream} → TextCut d s [] []
    text_refusal : {s : Stream} {T : List ℕ} {calls : List Call} (call : Call) → RefusedCall s call → TextCut d s T calls → TextCut d s T (call ∷ calls)
    text_piece : {s : Stream} {T : List ℕ} {calls : List Call} (piece out : List ℕ) → (gives_text d ≡ true → length piece ≤ length out)
        → TextCut d (reply m s (give_text d piece out)).next T calls → TextCut d s (piece ++ T) (give_text d piece out ∷ calls)

  -- the data, cut anywhere, then the text, and refused calls in between
  pub data Cut (d : Direction) : Stream → List ℕ → List ℕ → List Call → Type 0 where
    ad_end : {s : Stream} {T : List ℕ} {calls : List Call} → TextCut d s T calls → Cut d s [] T calls
    ad_refusal : {s : Stream} {A T : List ℕ} {calls : List Call} (call : Call) → RefusedCall s call → Cut d s A T calls → Cut d s A T (call ∷ calls)
    ad_piece : {s : Stream} {A T : List ℕ} {calls : List Call} (piece : List ℕ)
        → Cut d (reply m s (give_ad piece)).next A T calls → Cut d s (piece ++ A) T (give_ad piece ∷ calls)

  -- a message, its data within the limit of data and its text within `limit`, and a cutting of it on a stream that a done start gave
  pub record MessageWithin (limit : ℕ) (start : Start) (A T : List ℕ) (calls : List Call) : Type 0 where
    pub started : Started m start
    pub bytes : BytesIn calls
    pub ad_within : length A ≤ ad_limit
    pub text_within : length T ≤ limit
    pub cut : Cut start.direction (begun m start).stream A T calls

  -- with its text within the limit that the start chose
  abbrev pub Message : Start → List ℕ → List ℕ → List Call → Type 0
  Message start A T calls = MessageWithin start.limit start A T calls

  -- the end of a cut message, in the direction of its start and with any tag
  pub record Whole (start : Start) (A T : List ℕ) (h : History) (tag : List ℕ) : Type 0 where
    -- the joined output is the published one
    pub out : h.out ≡ published_out start.direction (row_of start.set) start.key start.nonce A T
    -- the finish answers 4, 9 or done, by the published tag
    pub answer : (m.finish start.direction h.stream tag).outcome.answer ≡ finish_answer start.direction (row_of start.set) (published_tag start A T) tag
    -- and with a tag of the set's length it is the end, yes or no: a sealing leaves the published tag and the others what they were given, all the rounds add up to
    -- the whole message's, and the stream is ended
    pub lent : length tag ≡ (row_of start.set).key → (m.finish start.direction h.stream tag).lent ≡ cond (gives_tag start.direction) (published_tag start A T) tag
    pub rounds : length tag ≡ (row_of start.set).key
        → h.rounds + (m.finish start.direction h.stream tag).outcome.rounds ≡ message_rounds (row_of start.set) (length A) (length T)
    pub over : length tag ≡ (row_of start.set).key → (m.finish start.direction h.stream tag).outcome.next ≡ ended

  -- sealing: the joined output and the tag are the published ones, and all the rounds add up to the whole message's
  pub record SealedWhole (start : Start) (A P : List ℕ) (h : History) (tag : List ℕ) : Type 0 where
    pub out : h.out ≡ (sealed (row_of start.set) start.key start.nonce A P).cipher
    pub answer : (m.finish Sealing h.stream tag).outcome.answer ≡ Done
    pub tag_is : (m.finish Sealing h.stream tag).lent ≡ (sealed (row_of start.set) start.key start.nonce A P).tag
    pub rounds : h.rounds + (m.finish Sealing h.stream tag).outcome.rounds ≡ message_rounds (row_of start.set) (length A) (length P)

  -- checking: yes exactly where the ciphertext and the tag are some text's published sealing, whatever the tag's length; and where that is the set's, all the rounds
  -- add up, yes or no
  pub record CheckedWhole (start : Start) (A C : List ℕ) (h : History) (tag : List ℕ) : Type 0 where
    pub yes : ((m.finish Checking h.stream tag).outcome.answer ≡ Done)
        ↔ ((P : List ℕ) × (sealed (row_of start.set) start.key start.nonce A P ≡ record { cipher = C; tag = tag }))
    pub rounds : length tag ≡ (row_of start.set).key
        → h.rounds + (m.finish Checking h.stream tag).outcome.rounds ≡ message_rounds (row_of start.set) (length A) (length C)

  -- opening, whatever the tag's length
  pub record OpenedWhole (start : Start) (A C : List ℕ) (h : History) (tag : List ℕ) : Type 0 where
    -- what was given out, joined, is the published decryption of what came: unverified, until the finish says yes
    pub unverified : h.out ≡ (decrypted (row_of start.set) start.key start.nonce A C).out
    -- it says yes exactly where the tag is the published one of that text
    pub yes : ((m.finish Opening h.stream tag).outcome.answer ≡ Done) ↔ (tag ≡ (sealed (row_of start.set) start.key start.nonce A h.out).tag)
    -- it says yes, and P was given out, exactly where the ciphertext and the tag are P's published sealing
    pub plaintext : (P : List ℕ) → (((m.finish Opening h.stream tag).outcome.answer ≡ Done) × (h.out ≡ P))
        ↔ (sealed (row_of start.set) start.key start.nonce A P ≡ record { cipher = C; tag = tag })
    -- where the tag's length is the set's, all the rounds add up and the stream is ended, yes or no
    pub rounds : length tag ≡ (row_of start.set).key
        → h.rounds + (m.finish Opening h.stream tag).outcome.rounds ≡ message_rounds (row_of start.set) (length A) (length C)
    pub over : length tag ≡ (row_of start.set).key → (m.finish Opening h.stream tag).outcome.next ≡ ended

  -- the demand
  pub record CuttingDoesNotMatter : Type 0 where
    -- in any direction
    pub whole : (start : Start) (A T : List ℕ) (calls : List Call) (tag : List ℕ) → Message start A T calls → Whole start A T (after m (begun m start) calls) tag
    -- in each, by its own words
    pub seals : (start : Start) (A P : List ℕ) (calls : List Call) (tag : List ℕ) → start.direction ≡ Sealing → Message start A P calls
        → length tag ≡ (row_of start.set).key → SealedWhole start A P (after m (begun m start) calls) tag
    pub checks : (start : Start) (A C : List ℕ) (calls : List Call) (tag : List ℕ) → start.direction ≡ Checking → Message start A C calls
        → CheckedWhole start A C (after m (begun m start) calls) tag
    pub opens : (start : Start) (A C : List ℕ) (calls : List Call) (tag : List ℕ) → start.direction ≡ Opening → Message start A C calls
        → OpenedWhole start A C (after m (begun m start) calls) tag
    -- two histories of one start, in the same phase after the same data and the same text
    pub states : (start : Start) → Started m start → (calls other : List Call) → BytesIn calls → BytesIn other
        → let h = after m (begun m start) calls in
        let k = after m (begun m start) other in
        h.stream.phase ≡ k.stream.phase → h.ad ≡ k.ad → h.text ≡ k.text → h.stream ≡ k.stream

  -- the second walk: a checking and an opening whose starts differ in direction alone
  pub record WalksAgree : Type 0 where
    -- after one message, however each was cut, their finishes answer every tag alike, and where its length is the set's, all their rounds add up to the same
    pub finishes : (start : Start) (A C : List ℕ) (calls other : List Call) (tag : List ℕ) → Message (start_towards Checking start) A C calls → Message (start_towards Opening start) A C other
        → let h = after m (begun m (start_towards Checking start)) calls in
        let k = after m (begun m (start_towards Opening start)) other in
        ((m.finish Checking h.stream tag).outcome.answer ≡ (m.finish Opening k.stream tag).outcome.answer)
        × (length tag ≡ (row_of start.set).key
        → h.rounds + (m.finish Checking h.stream tag).outcome.rounds ≡ k.rounds + (m.finish Opening k.stream tag).outcome.rounds)
    -- after the checking has said yes, what the opening has handed out is plaintext, at every point of its walk: the beginning of the text that was sealed
    pub after_yes : (start : Start) (A C rest : List ℕ) (calls other : List Call) (tag : List ℕ)
        → Message (start_towards Checking start) A (C ++ rest) calls → Message (start_towards Opening start) A C other
        → let h = after m (begun m (start_towards Checking start)) calls in
        let k = after m (begun m (start_towards Opening start)) other in
        (m.finish Checking h.stream tag).outcome.answer ≡ Done
        → (P : List ℕ) × (sealed (row_of start.set) start.key start.nonce A P ≡ record { cipher = C ++ rest; tag = tag }) × (k.out ≡ take (length C) P)
    -- after any calls, where both are in the same phase after the same data and the same text, their states differ in direction alone
    pub states : (start : Start) → Started m (start_towards Checking start) → Started m (start_towards Opening start) → (calls other : List Call) → BytesIn calls → BytesIn other
        → let h = after m (begun m (start_towards Checking start)) calls in
        let k = after m (begun m (start_towards Opening start)) other in
        h.stream.phase ≡ k.stream.phase → h.ad ≡ k.ad → h.text ≡ k.text → stream_towards Opening h.stream ≡ stream_towards Opening k.stream

  -- sealing and checking as the demand had them before a start chose a limit: on a stream of the largest one, for every text within that; `states` names no limit
  pub record CuttingBefore : Type 0 where
    pub seals : (start : Start) (A P : List ℕ) (calls : List Call) (tag : List ℕ) → start.limit ≡ text_limit → start.direction ≡ Sealing
        → MessageWithin text_limit start A P calls → length tag ≡ (row_of start.set).key → SealedWhole start A P (after m (begun m start) calls) tag
    pub checks : (start : Start) (A C : List ℕ) (calls : List Call) (tag : List ℕ) → start.limit ≡ text_limit → start.direction ≡ Checking
        → MessageWithin text_limit start A C calls → CheckedWhole start A C (after m (begun m start) calls) tag
