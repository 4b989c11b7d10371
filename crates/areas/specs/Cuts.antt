-- The demand that cutting a message does not matter, of the area's bytes; and the second walk, in two areas.
use Rattle.std.specs.Prelude.{true, false, cond, List, ◌++◌, ◌↔◌, ◌≡◌, ℕ, ◌+◌, ◌/◌, ◌%◌, length, take}
use Rattle.answers.specs.Numbers.{number_of}
use Rattle.ascon.specs.Sets.{row_of}
use Rattle.ascon.specs.Mode.{sealed}
use Rattle.ascon.specs.Rounds.{message_rounds}
use Rattle.stream.specs.declared.Direction.TheVariants.{Checking, Opening}
use Rattle.stream.specs.State.{gives_tag, ended}
use Rattle.stream.specs.Calls.{Start}
use Rattle.history.specs.History.{Streams, Call, BytesIn, published_out}
use Rattle.history.specs.Cuts.{Message, start_towards, published_tag, finish_answer}
use Rattle.gateway.specs.Spelling.{state_length, spelling, state_in}
use Rattle.areas.specs.Areas.{Areas, AreaHistory, begun_on, after_on, StartedOn, is_open_in}

module _ (m : Areas) where
  -- the end of a message in an area, in the direction of its start and with any tag
  pub record AreaWhole (start : Start) (A T : List ℕ) (h : AreaHistory) (tag : List ℕ) : Type 0 where
    -- the joined output is the published one
    pub out : h.out ≡ published_out start.direction (row_of start.set) start.key start.nonce A T
    -- the finish answers 4, 9 or done, by the published tag
    pub answer : (m.finish start.direction h.area tag).word % 16 ≡ number_of (finish_answer start.direction (row_of start.set) (published_tag start A T) tag)
    -- a checking and an opening say yes exactly where the ciphertext and the tag are some text's published sealing
    pub yes : gives_tag start.direction ≡ false → ((m.finish start.direction h.area tag).word % 16 ≡ 0)
        ↔ ((P : List ℕ) × (sealed (row_of start.set) start.key start.nonce A P ≡ record { cipher = T; tag = tag }))
    -- an opening says yes, and P was given out, exactly where they are P's
    pub plaintext : start.direction ≡ Opening → (P : List ℕ) → (((m.finish start.direction h.area tag).word % 16 ≡ 0) × (h.out ≡ P))
        ↔ (sealed (row_of start.set) start.key start.nonce A P ≡ record { cipher = T; tag = tag })
    -- and with a tag of the set's length it is the end, yes or no: a sealing leaves the published tag and the others what they were given, all the rounds add up to
    -- the whole message's, and the area is the ended state's
    pub lent : length tag ≡ (row_of start.set).key → (m.finish start.direction h.area tag).lent ≡ cond (gives_tag start.direction) (published_tag start A T) tag
    pub rounds : length tag ≡ (row_of start.set).key
        → h.rounds + (m.finish start.direction h.area tag).word / 16 ≡ message_rounds (row_of start.set) (length A) (length T)
    pub over : length tag ≡ (row_of start.set).key → (m.finish start.direction h.area tag).area ≡ spelling ended

  -- the demand, of the numbers and bytes that a caller sees
  pub record AreaCutting : Type 0 where
    -- after any calls, refused ones too, while the stream is open: the end of what was taken, however it came
    pub taken : (start : Start) (area : List ℕ) → StartedOn m start area → (calls : List Call) → BytesIn calls → (tag : List ℕ)
        → let h = after_on m (begun_on m start area) calls in
        is_open_in h.area ≡ true → AreaWhole start h.ad h.text h tag
    -- two histories of one start, in the same phase after the same data and the same text, leave equal areas
    pub areas : (start : Start) (area area' : List ℕ) → StartedOn m start area → StartedOn m start area' → (calls other : List Call) → BytesIn calls → BytesIn other
        → let h = after_on m (begun_on m start area) calls in
        let k = after_on m (begun_on m start area') other in
        (state_in h.area).phase ≡ (state_in k.area).phase → h.ad ≡ k.ad → h.text ≡ k.text → h.area ≡ k.area

  -- the second walk: a checking in one area and an opening in another, whose starts differ in direction alone, both still open
  pub record AreaWalks : Type 0 where
    -- after the same data and the same ciphertext their finishes answer every tag alike, and where its length is the set's, all their rounds add up to the same
    pub finishes : (start : Start) (area area' : List ℕ) → StartedOn m (start_towards Checking start) area → StartedOn m (start_towards Opening start) area'
        → (calls other : List Call) → BytesIn calls → BytesIn other → (tag : List ℕ)
        → let h = after_on m (begun_on m (start_towards Checking start) area) calls in
        let k = after_on m (begun_on m (start_towards Opening start) area') other in
        is_open_in h.area ≡ true → is_open_in k.area ≡ true → h.ad ≡ k.ad → h.text ≡ k.text
        → ((m.finish Checking h.area tag).word % 16 ≡ (m.finish Opening k.area tag).word % 16)
        × (length tag ≡ (row_of start.set).key → h.rounds + (m.finish Checking h.area tag).word / 16 ≡ k.rounds + (m.finish Opening k.area tag).word / 16)
    -- after the checking has said yes, what the opening has handed out is plaintext, at every point of its walk: the beginning of the text that was sealed
    pub after_yes : (start : Start) (area area' : List ℕ) → StartedOn m (start_towards Checking start) area → StartedOn m (start_towards Opening start) area'
        → (calls other : List Call) → BytesIn calls → BytesIn other → (rest tag : List ℕ)
        → let h = after_on m (begun_on m (start_towards Checking start) area) calls in
        let k = after_on m (begun_on m (start_towards Opening start) area') other in
        is_open_in h.area ≡ true → is_open_in k.area ≡ true → h.ad ≡ k.ad → h.text ≡ k.text ++ rest
        → (m.finish Checking h.area tag).word % 16 ≡ 0
        → (P : List ℕ) × (sealed (row_of start.set) start.key start.nonce h.ad P ≡ record { cipher = h.text; tag = tag }) × (k.out ≡ take (length k.text) P)

-- the demand in its own words, of a message and a cutting of it: what a cut message is, `Message` says by a model of streams
abbrev pub AreaCuts : Areas → Streams → Type 0
AreaCuts m s =
    (start : Start) (area : List ℕ) → length area ≡ state_length → (A T : List ℕ) (calls : List Call) (tag : List ℕ) → Message s start A T calls
    → AreaWhole m start A T (after_on m (begun_on m start area) calls) tag
