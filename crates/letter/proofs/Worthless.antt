-- Worthless versions are refuted, each by the demand that it breaks.
pub mod Nines
pub mod Areas
use mathlib.Core.Path.{◌≡◌, refl, sym, ap, ◌∙◌, subst}
use mathlib.Core.Bool.{Bool, true, false, cond, not, ◌&&◌, true≢false, false≢true, and-eq-true_iff}
use mathlib.Core.Logic.{inl, inr}
use mathlib.Core.List.{List, [], ◌∷◌, ◌++◌, append-nil}
use Prim.Native.Nat.{ℕ, zero, suc, ◌+◌, ◌-◌, ◌≤◌, ◌<◌}
use native.Mathlib.Nat.{le_refl}
use native.Mathlib.Omega.{arith}
use lib.Dec.{leb, lit≤, lit<}
use lib.ListN.{length, get_or, take, drop, replicate, length-append, length-replicate}
use lib.Seq.{get_or-drop}
use borrow.Author.Tests.{leb-true, le-leb, not-false}
use Rattle.permutation.specs.Round.{◌⋙◌, add_constant, s_box, bit, from_bits, column, substituted, substitute, Σ₀, Σ₁, Σ₂, Σ₃, Σ₄, diffuse, round}
use Rattle.permutation.specs.Runs.{constants, constants_of, rounds_of, rounds, permute}
use Rattle.permutation.specs.Strings.{Bytes, bytes_of, string_of, state_of, zeros}
use Rattle.permutation.specs.Strings as strings
use Rattle.permutation.proofs.Strings.{bytes_none, bytes_cons, bytes_append, bytes_zeros}
use Rattle.answers.specs.declared.Answer.{Answer}
use Rattle.answers.specs.declared.Answer.TheVariants.{Done, PastLimit, NoRoom, OutOfPhase, BrokenState, TagDiffers}
use Rattle.answers.specs.Numbers.{number_of, is_done}
use Rattle.answers.proofs.Numbers.{done_is}
use Rattle.answers.proofs.Order.{none_holds}
use Rattle.ascon.specs.Sets.{table, is_set, row_of}
use Rattle.ascon.specs.Mode.{p, count, pad, before_key, initialise, separate, before_text, encrypted, decrypted, finalise, Sealed, sealed, opened}
use Rattle.ascon.specs.Rounds.{ad_blocks, text_blocks, message_rounds}
use Rattle.ascon.proofs.Sealing.{open_sealed, only_text, length_decrypted}
use Rattle.sets.proofs.Rows.{row_fits, row_sizes}
use Rattle.stream.specs.declared.Direction.{Direction}
use Rattle.stream.specs.declared.Direction.TheVariants.{Sealing, Checking, Opening}
use Rattle.stream.specs.declared.Phase.{Phase}
use Rattle.stream.specs.declared.Phase.TheVariants.{Ended}
use Rattle.stream.specs.declared.Stream.{Stream}
use Rattle.stream.specs.State.{is_direction, gives_text, gives_tag, is_open, fits, is_sound}
use Rattle.stream.proofs.Tests.{one_direction, unfitting}
use Rattle.stream.specs.Calls.{Start, Called, text_faults, finish_faults, tag_faults}
use Rattle.history.specs.History.{Streams, Call, give_text, begun, next, after, BytesIn, Started, published_out}
use Rattle.history.specs.Cuts.{TextCut, TextCut.text_end, TextCut.text_piece, Cut.ad_end, Message, published_tag, finish_answer}
use Rattle.history.proofs.Directions.{yes_published}
use Rattle.message.specs.Message.{SealLeaves, is_none}
use Rattle.answers.specs.Order.{Choice, ◌when◌, first}
use Rattle.message.proofs.Promise.{length_cipher}
use Rattle.letter.specs.Messages as messages
use Rattle.letter.specs.Streams as streams
use Rattle.letter.specs.Calls.{Through}
use Rattle.letter.specs.Second.{Unrefused, Second}
use Rattle.letter.specs.Third.{Third}
use Rattle.letter.specs.Worthless.{NeverSeals, NeverOpens, NeverStarts, SealsBlindly, Copies, CopiesOpenings, CopiesLater, HoldsBack, CrossesText, CrossesFinish, EmptyEnds, ForgetsText, PassesLimit, ForgetsLimit, OpensAnyTag, AgreesToTwo, SameRounds, SameStreamRounds, ReportsLate, StaysOpen, OpenOnNine, SilentNine, WritesBeyond, Worthless}
use Rattle.letter.proofs.Second.{unrefused}
use Rattle.letter.proofs.Nines.{one_plaintext}
use Rattle.letter.proofs.Worthless.Nines.{other_byte, other_differs, bytes_other, leaves_plaintext, leaves_difference, rounds_by_tag, rounds_by_key, boundary_leaves, finish_by_tag, leaves_keys, leaves_refused, opens_to_place, opens_two_tags}
use Rattle.letter.proofs.Worthless.Areas.{takes_old, takes_no_state, changes_refused, end_keeps, finish_keeps, refuses_areas, cut_shows, says_yes_on}

-- a key, a nonce and a place for a tag, of set 1
abbrev sixteen : List ℕ
sixteen = zeros 16

-- the published ciphertext and tag of two zeros under zeros
abbrev zeros_cipher : List ℕ
zeros_cipher = 0x27 ∷ 0xe6 ∷ []

abbrev zeros_tag_lem : List ℕ
zeros_tag_lem = bytes_of 16 0xde6025e7f764968e6a9f3ad7fda2f60c

-- they are, computed
sealed_zeros : sealed (row_of 1) sixteen sixteen [] (zeros 2) ≡ record { cipher = zeros_cipher; tag = zeros_tag_lem }
unfolding sealed encrypted before_text separate initialise before_key pad count p permute rounds constants_of constants round diffuse Σ₀ Σ₁ Σ₂ Σ₃ Σ₄ ◌⋙◌ substitute substituted column from_bits bit s_box add_constant string_of state_of bytes_of strings.value_of row_of table rounds_of finalise
sealed_zeros = refl

-- the ciphertext alone
two_zeros : (sealed (row_of 1) sixteen sixteen [] (zeros 2)).cipher ≡ 0x27 ∷ 0xe6 ∷ []
two_zeros = ap (λ (w : Sealed). w.cipher) sealed_zeros

-- its length is set 1's
row_one : length sixteen ≡ (row_of 1).key
unfolding row_of table
row_one = refl

-- ---- whole messages

-- no ciphertext has every tag of the set's length
no_every_tag : (set : ℕ) (K N A C : List ℕ) → length K ≡ (row_of set).key
    → ((T : List ℕ) → length T ≡ (row_of set).key → (P : List ℕ) × (sealed (row_of set) K N A P ≡ record { cipher = C; tag = T })) → ⊥
no_every_tag set K N A C key found =
    let k : ℕ = (row_of set).key in
    let nought = found (of 0 k) (length-replicate k 0) in
    let one = found (of 1 k) (length-replicate k 1) in
    differ k (row_sizes set).some_key (one_plaintext.sealing set K N A C (of 0 k) (of 1 k) nought.0 one.0 key nought.1 one.1).1
  where
    -- a tag of one byte, again and again
    of : ℕ → ℕ → List ℕ
    of b k = replicate k b

    differ : (k : ℕ) → 12 ≤ k → of 0 k ≡ of 1 k → ⊥
    differ zero some e = omega (arith, some)
    differ (suc k) some e = let bytes : ◌≡◌ {A = ℕ} 0 1 = ap (λ (x : List ℕ). get_or x 0 0) e in omega (arith, bytes)

-- a good message is listed as done
refuses : (m : messages.Model) → NeverSeals m → messages.Listed m → ⊥
unfolding is_set row_of table
refuses m undone l = undone 1 sixteen sixteen [] [] [] sixteen (l.seal 1 sixteen sixteen [] [] [] sixteen)

-- a start of set 1 under zeros in a direction, with a limit of eight bytes
abbrev begin_in : Direction → Start
begin_in d = record { direction = d; set = 1; limit = 8; key = sixteen; nonce = sixteen }

abbrev begin : Start
begin = begin_in Sealing

-- and so is a good start
refuses_streams : (m : Streams) → NeverStarts m → streams.Listed m → ⊥
unfolding is_set row_of table
refuses_streams m undone l = undone begin (l.start begin)

-- the published sealing of two zeros is listed as opened
opens_zeros : (m : messages.Model) → messages.Listed m
    → (m.unseal 1 sixteen sixteen [] zeros_cipher zeros_tag_lem (zeros 2)).outcome.answer ≡ Done
unfolding is_set row_of table bytes_of
opens_zeros m l =
    let back : is_none (opened (row_of 1) sixteen sixteen [] zeros_cipher zeros_tag_lem) ≡ false =
    ap (λ (w : Sealed). is_none (opened (row_of 1) sixteen sixteen [] w.cipher w.tag)) (sym sealed_zeros)
    ∙ ap is_none (open_sealed (row_of 1) (row_fits 1) sixteen row_one sixteen [] (zeros 2)) in
    l.unseal 1 sixteen sixteen [] zeros_cipher zeros_tag_lem (zeros 2)
    ∙ ap (λ (b : Bool). cond b TagDiffers Done) back

-- so not every opening is refused
refuses_openings : (m : messages.Model) → NeverOpens m → messages.Listed m → ⊥
refuses_openings m undone l = undone 1 sixteen sixteen [] _ _ (zeros 2) (opens_zeros m l)

-- two texts that differ have no sealing in common
answers_same : (m : messages.Model) (same : ℕ → ℕ → ℕ → ℕ → ℕ → List ℕ → List ℕ → SealLeaves) → SealsBlindly m same
    → (set : ℕ) (K N A : List ℕ) (byte : ℕ) (rest out tag : List ℕ) → Bytes (byte ∷ rest) → length K ≡ (row_of set).key
    → (m.seal set K N A (byte ∷ rest) out tag).outcome.answer ≡ Done
    → Second m → ⊥
answers_same m same always set K N A byte rest out tag bytes key done s =
    let P : List ℕ = byte ∷ rest in
    let Q : List ℕ = other_byte byte ∷ rest in
    let one : m.seal set K N A P out tag ≡ m.seal set K N A Q out tag = always set K N A P out tag bytes ∙ sym (always set K N A Q out tag (bytes_other byte rest bytes)) in
    let p = s.seals set K N A P out tag done in
    let q = s.seals set K N A Q out tag (ap (λ (x : SealLeaves). x.outcome.answer) (sym one) ∙ done) in
    let both : sealed (row_of set) K N A P ≡ sealed (row_of set) K N A Q = λ j. record {
      cipher = (sym p.0 ∙ ap (λ (x : SealLeaves). take (length P) x.out) one ∙ q.0) j;
      tag = (sym p.1 ∙ ap (λ (x : SealLeaves). x.tag) one ∙ q.1) j;
    } in
    other_differs byte (ap (λ (x : List ℕ). get_or x 0 0) (one_plaintext.sealing set K N A _ _ _ P Q key both refl).0)

-- two zeros are not their own ciphertext
copies : (m : messages.Model) → Copies m → messages.Listed m → Second m → ⊥
unfolding is_set row_of table
copies m copied l s =
    let done = l.seal 1 sixteen sixteen [] (zeros 2) (zeros 2) sixteen in
    let same : zeros 2 ≡ (sealed (row_of 1) sixteen sixteen [] (zeros 2)).cipher =
    sym (copied 1 sixteen sixteen [] (zeros 2) (zeros 2) sixteen done) ∙ (s.seals 1 sixteen sixteen [] (zeros 2) (zeros 2) sixteen done).0 in
    let differ : ◌≡◌ {A = ℕ} 0 0x27 = ap (λ (x : List ℕ). get_or x 0 0) (same ∙ two_zeros) in
    omega arith

-- nor is their ciphertext the text
copies_openings : (m : messages.Model) → CopiesOpenings m → messages.Listed m → Second m → ⊥
copies_openings m copied l s =
    let done = opens_zeros m l in
    let text = ((s.opens 1 sixteen sixteen [] zeros_cipher _ (zeros 2) (unrefused _ (inl done)) (zeros 2)).1 sealed_zeros).1 in
    let differ : ◌≡◌ {A = ℕ} 0x27 0 = ap (λ (x : List ℕ). get_or x 0 0) (sym (copied 1 sixteen sixteen [] _ _ (zeros 2) done) ∙ text) in
    omega arith

-- a done opening is the sealing of what it hands out
takes_every_tag : (m : messages.Model) (set : ℕ) (K N A C out : List ℕ) → length K ≡ (row_of set).key → OpensAnyTag m set K N A C out → Second m → ⊥
takes_every_tag m set K N A C out key done s =
    no_every_tag set K N A C key (λ T size.
    (take (length C) (m.unseal set K N A C T out).out, (s.opens set K N A C T out (unrefused _ (inl (done T size))) _).0 (done T size, refl)))

-- a published sealing is opened where it is not refused
takes_no_tag : (m : messages.Model) (set : ℕ) (K N A P out : List ℕ) → let published = sealed (row_of set) K N A P in
    let answer = (m.unseal set K N A published.cipher published.tag out).outcome.answer in
    Unrefused answer → (answer ≡ Done → ⊥) → Second m → ⊥
takes_no_tag m set K N A P out unrefused undone s =
    let published = sealed (row_of set) K N A P in
    undone ((s.opens set K N A published.cipher published.tag out unrefused P).1 refl).0

-- nothing and nothing takes 24 rounds, seven bytes and seven take 30
makes_up : (m : messages.Model) (n : ℕ) → SameRounds m n → messages.Listed m → messages.Reported m → ⊥
unfolding is_set row_of table message_rounds ad_blocks text_blocks rounds_of constants_of constants
makes_up m n same l r =
    let none : n ≡ 24 = told [] (l.seal 1 sixteen sixteen [] [] [] sixteen) in
    let seven : n ≡ 30 = told (zeros 7) (l.seal 1 sixteen sixteen (zeros 7) (zeros 7) (zeros 7) sixteen) in
    omega arith
  where
    told : (x : List ℕ) → (m.seal 1 sixteen sixteen x x x sixteen).outcome.answer ≡ Done → n ≡ message_rounds (row_of 1) (length x) (length x)
    told x done = sym (same 1 sixteen sixteen x x x sixteen done) ∙ r.seal 1 sixteen sixteen x x x sixteen done

-- ---- streams

-- a text of set 1 under zeros, with no data, and a cutting of it, in a direction
message : (m : Streams) → streams.Listed m → (d : Direction) (T : List ℕ) (calls : List Call) → BytesIn calls → length T ≤ begin.limit
    → TextCut m d (m.start (begin_in d)).next T calls → Message m (begin_in d) [] T calls
unfolding is_set row_of table
message m l d T calls b few cut = record {
  started = record { done = ap is_done (l.start (begin_in d)); key_bytes = bytes_zeros 16 };
  bytes = b;
  ad_within = lit≤ tt;
  text_within = few;
  cut = ad_end cut;
}

-- the two zeros, from their ciphertext
zeros_back : (decrypted (row_of 1) sixteen sixteen [] zeros_cipher).out ≡ zeros 2
zeros_back = only_text (row_of 1) (row_fits 1) sixteen row_one sixteen [] (zeros 2) zeros_cipher zeros_tag_lem sealed_zeros

-- two bytes of text under zeros in a direction that has an output, the two that they give out, of which the second is another, and their tag
record Two (d : Direction) : Type 0 where
  gives : gives_text d ≡ true
  one : ℕ
  two : ℕ
  one_out : ℕ
  two_out : ℕ
  one_byte : Bytes (one ∷ [])
  two_byte : Bytes (two ∷ [])
  differs : two ≡ two_out → ⊥
  published : published_out d (row_of 1) sixteen sixteen [] (one ∷ two ∷ []) ≡ one_out ∷ two_out ∷ []
  right : finish_answer d (row_of 1) (published_tag (begin_in d) [] (one ∷ two ∷ [])) zeros_tag_lem ≡ Done

-- two zeros and their ciphertext
two_in : (d : Direction) → gives_text d ≡ true → Two d
unfolding row_of table bytes_of
two_in Sealing gives = record {
  gives = gives;
  one = 0;
  two = 0;
  one_out = 0x27;
  two_out = 0xe6;
  one_byte = bytes_zeros 1;
  two_byte = bytes_zeros 1;
  differs = λ e. omega (arith, e);
  published = two_zeros;
  right = refl;
}
two_in Checking gives = absurd (false≢true gives)
two_in Opening gives = record {
  gives = gives;
  one = 0x27;
  two = 0xe6;
  one_out = 0;
  two_out = 0;
  one_byte = bytes_cons (lit< tt) bytes_none;
  two_byte = bytes_cons (lit< tt) bytes_none;
  differs = λ e. omega (arith, e);
  published = zeros_back;
  right =
      ap (λ (P : List ℕ). finish_answer Opening (row_of 1) (sealed (row_of 1) sixteen sixteen [] P).tag zeros_tag_lem) zeros_back
      ∙ ap (λ (w : Sealed). finish_answer Opening (row_of 1) w.tag zeros_tag_lem) sealed_zeros;
}

-- the joined output of two pieces, the second of which is copied, is not that of both
copied_later : (a b : Bool) (x y : List ℕ) (u v w : ℕ) → (u ≡ w → ⊥) → (a ≡ true → b ≡ true → take 1 y ≡ u ∷ []) → [] ++ cond a (take 1 x) [] ++ cond b (take 1 y) [] ≡ v ∷ w ∷ [] → ⊥
copied_later true true x y u v w other copied e = go x (ap (λ (z : List ℕ). take 1 x ++ z) (sym (copied refl refl)) ∙ e)
  where
    go : (x : List ℕ) → take 1 x ++ (u ∷ []) ≡ v ∷ w ∷ [] → ⊥
    go [] e = let size : ◌≡◌ {A = ℕ} 1 2 = ap length e in omega (arith, size)
    go (k ∷ x) e = other (ap (λ (z : List ℕ). get_or z 1 0) e)
copied_later true false [] y u v w other copied e = let size : ◌≡◌ {A = ℕ} 0 2 = ap length e in omega (arith, size)
copied_later true false (k ∷ x) y u v w other copied e = let size : ◌≡◌ {A = ℕ} 1 2 = ap length e in omega (arith, size)
copied_later false true x [] u v w other copied e = let size : ◌≡◌ {A = ℕ} 0 2 = ap length e in omega (arith, size)
copied_later false true x (k ∷ y) u v w other copied e = let size : ◌≡◌ {A = ℕ} 1 2 = ap length e in omega (arith, size)
copied_later false false x y u v w other copied e = let size : ◌≡◌ {A = ℕ} 0 2 = ap length e in omega (arith, size)

-- a piece that gives output was taken
gave : (b : Bool) (n : ℕ) (x C : List ℕ) → [] ++ cond b (take n x) [] ≡ C → 0 < length C → b ≡ true
gave true n x C e some = refl
gave false n x C e some = absurd (let size : 0 ≡ length C = ap length e in omega (arith, size, some))

-- where a piece of n bytes was taken, an empty one is
empty_taken : (s fits : Bool) (count n limit : ℕ) (short room : Bool) → room ≡ false
    → first Done (BrokenState when not s ∷ OutOfPhase when not fits ∷ PastLimit when not (leb (count + n) limit) ∷ NoRoom when short ∷ []) ≡ Done
    → first Done (BrokenState when not s ∷ OutOfPhase when not fits ∷ PastLimit when not (leb (count + 0) limit) ∷ NoRoom when room ∷ []) ≡ Done
empty_taken true true count n limit short room enough e = go (leb (count + n) limit) refl e
  where
    go : (c : Bool) → leb (count + n) limit ≡ c → first Done (PastLimit when not c ∷ NoRoom when short ∷ []) ≡ Done
        → first Done (PastLimit when not (leb (count + 0) limit) ∷ NoRoom when room ∷ []) ≡ Done
    go true f e = let within : count + n ≤ limit = leb-true (count + n) limit f in rw (le-leb (count + 0) limit (omega (arith, within)), enough)
    go false f e = absurd (let z : ◌≡◌ {A = ℕ} 5 0 = ap number_of e in omega (arith, z))
empty_taken true false count n limit short room enough e = absurd (let z : ◌≡◌ {A = ℕ} 7 0 = ap number_of e in omega (arith, z))
empty_taken false fits count n limit short room enough e = absurd (let z : ◌≡◌ {A = ℕ} 8 0 = ap number_of e in omega (arith, z))

-- after the end no piece is taken
none_taken : (phase : Phase) → phase ≡ Ended → (s direction : Bool) (a b : Choice Answer)
    → is_done (first Done (BrokenState when not s ∷ OutOfPhase when not (is_open phase && direction) ∷ a ∷ b ∷ [])) ≡ false
none_taken phase e s direction a b =
    ap (λ (p : Phase). is_done (first Done (BrokenState when not s ∷ OutOfPhase when not (is_open p && direction) ∷ a ∷ b ∷ []))) e ∙ go s
  where
    go : (s : Bool) → is_done (first Done (BrokenState when not s ∷ OutOfPhase when not (is_open Ended && direction) ∷ a ∷ b ∷ [])) ≡ false
    go true = refl
    go false = refl

module _ (m : Streams) (l : streams.Listed m) (t : Third m) (d : Direction) (z : Two d) where
  abbrev s : Stream
  s = (m.start (begin_in d)).next

  abbrev both : List ℕ
  both = z.one ∷ z.two ∷ []

  both_bytes : Bytes both
  both_bytes = bytes_append z.one_byte z.two_byte

  -- what a cutting of both gives out, joined
  joined : (calls : List Call) → BytesIn calls → TextCut m d s both calls → (after m (begun m (begin_in d)) calls).out ≡ z.one_out ∷ z.two_out ∷ []
  joined calls b cut = (t.cutting.whole (begin_in d) [] both calls zeros_tag_lem (message m l d both calls b (lit≤ tt) cut)).out ∙ z.published

  -- byte by byte: the second is not copied
  copies_later_in : CopiesLater m d → ⊥
  unfolding next
  copies_later_in copied =
      let one : Called = m.text d s (z.one ∷ []) (0 ∷ []) in
      let two : Called = m.text d one.outcome.next (z.two ∷ []) (0 ∷ []) in
      let all = joined (give_text d (z.one ∷ []) (0 ∷ []) ∷ give_text d (z.two ∷ []) (0 ∷ []) ∷ []) (bytes_none, z.one_byte, (bytes_none, z.two_byte, tt))
      (text_piece (z.one ∷ []) (0 ∷ []) (λ _. lit≤ tt) (text_piece (z.two ∷ []) (0 ∷ []) (λ _. lit≤ tt) text_end)) in
      copied_later (is_done one.outcome.answer) (is_done two.outcome.answer) one.lent two.lent z.two z.one_out z.two_out z.differs
      (λ e f. copied (begin_in d) (give_text d (z.one ∷ []) (0 ∷ []) ∷ []) (z.two ∷ []) (0 ∷ []) refl (some (is_done one.outcome.answer) e) (done_is two.outcome.answer f))
      (ap (λ (g : Bool). [] ++ cond (is_done one.outcome.answer) (cond g (take 1 one.lent) []) [] ++ cond (is_done two.outcome.answer) (cond g (take 1 two.lent) []) []) (sym z.gives) ∙ all)
    where
      -- a byte that was taken is some text
      some : (b : Bool) → b ≡ true → ◌≡◌ {A = List ℕ} ([] ++ cond b (z.one ∷ []) []) [] → ⊥
      some true e none = let size : ◌≡◌ {A = ℕ} 1 0 = ap length none in omega (arith, size)
      some false e none = true≢false (sym e)

  -- both in one piece
  abbrev call : Call
  call = give_text d both (zeros 2)

  abbrev given : Called
  given = m.text d s both (zeros 2)

  both_whole : Message m (begin_in d) [] both (call ∷ [])
  both_whole = message m l d both (call ∷ []) (bytes_none, both_bytes, tt) (lit≤ tt) (text_piece both (zeros 2) (λ _. lit≤ tt) text_end)

  -- they are taken
  taken : given.outcome.answer ≡ Done
  unfolding next
  taken =
      done_is given.outcome.answer
      (gave (is_done given.outcome.answer) 2 given.lent (z.one_out ∷ z.two_out ∷ [])
      (ap (λ (g : Bool). [] ++ cond (is_done given.outcome.answer) (cond g (take 2 given.lent) []) []) (sym z.gives)
      ∙ joined (call ∷ []) (bytes_none, both_bytes, tt) (text_piece both (zeros 2) (λ _. lit≤ tt) text_end))
      (lit< tt))

  -- and counted
  forgets_in : ForgetsText m d → ⊥
  unfolding next bytes_of
  forgets_in none =
      let end : Stream = given.outcome.next in
      let done = (t.cutting.whole (begin_in d) [] both (call ∷ []) zeros_tag_lem both_whole).answer ∙ z.right in
      let passed = none_holds (finish_faults d end (length zeros_tag_lem) ++ tag_faults d end zeros_tag_lem) refl (ap is_done (sym (l.finish d end zeros_tag_lem) ∙ done)) in
      let open_still = ((and-eq-true_iff (is_open end.phase) _).0 (not-false (fits d end) passed.1.0)).0 in
      let counted = (t.limited (begin_in d) both_whole.started (call ∷ []) both_whole.bytes).text open_still in
      let size = ap (λ (a : Answer). length ([] ++ cond (is_done a) both [])) taken in
      let zero-is-two : ◌≡◌ {A = ℕ} 0 2 = sym (none s both (zeros 2) taken) ∙ counted ∙ size in
      omega (arith, zero-is-two)

  -- behind an empty piece they do not come to nothing
  ends_early_in : EmptyEnds m d → ⊥
  unfolding next
  ends_early_in ends =
      let room : gives_text d && false ≡ false = ap (λ (g : Bool). g && false) z.gives in
      let empty : (m.text d s [] []).outcome.answer ≡ Done =
      l.text d s [] []
      ∙ empty_taken (is_sound s) (fits d s) s.text 2 s.limit (gives_text d && not (leb 2 2)) (gives_text d && not (leb 0 0)) room (sym (l.text d s both (zeros 2)) ∙ taken) in
      let end : Stream = (m.text d s [] []).outcome.next in
      let last : Called = m.text d end both (zeros 2) in
      let refused : is_done last.outcome.answer ≡ false =
      ap is_done (l.text d end both (zeros 2))
      ∙ none_taken end.phase (ends s [] empty) (is_sound end) (is_direction d end.direction) (PastLimit when not (leb (end.text + 2) end.limit)) (NoRoom when (gives_text d && not (leb 2 2))) in
      let all = joined (give_text d [] [] ∷ call ∷ []) (bytes_none, bytes_none, (bytes_none, both_bytes, tt))
      (text_piece [] [] (λ _. lit≤ tt) (text_piece both (zeros 2) (λ _. lit≤ tt) text_end)) in
      nothing (is_done (m.text d s [] []).outcome.answer) (is_done last.outcome.answer) (m.text d s [] []).lent last.lent z.one_out z.two_out refused
      (ap (λ (g : Bool). [] ++ cond (is_done (m.text d s [] []).outcome.answer) (cond g (take 0 (m.text d s [] []).lent) []) [] ++ cond (is_done last.outcome.answer) (cond g (take 2 last.lent) []) []) (sym z.gives) ∙ all)
    where
      nothing : (a b : Bool) (x y : List ℕ) (v w : ℕ) → b ≡ false → [] ++ cond a (take 0 x) [] ++ cond b (take 2 y) [] ≡ v ∷ w ∷ [] → ⊥
      nothing true false x y v w f e = let size : ◌≡◌ {A = ℕ} 0 2 = ap length e in omega (arith, size)
      nothing false false x y v w f e = let size : ◌≡◌ {A = ℕ} 0 2 = ap length e in omega (arith, size)
      nothing a true x y v w f e = true≢false f

copies_later : (m : Streams) (d : Direction) → gives_text d ≡ true → CopiesLater m d → streams.Listed m → Third m → ⊥
copies_later m d gives copied l t = copies_later_in m l t d (two_in d gives) copied

forgets : (m : Streams) (d : Direction) → gives_text d ≡ true → ForgetsText m d → streams.Listed m → Third m → ⊥
forgets m d gives none l t = forgets_in m l t d (two_in d gives) none

ends_early : (m : Streams) (d : Direction) → gives_text d ≡ true → EmptyEnds m d → streams.Listed m → Third m → ⊥
ends_early m d gives ends l t = ends_early_in m l t d (two_in d gives) ends

-- a published output is as long as its text
length_out : (d : Direction) → gives_text d ≡ true → (set : ℕ) (K N A T : List ℕ) → length K ≡ (row_of set).key → length (published_out d (row_of set) K N A T) ≡ length T
length_out Sealing gives set K N A T key = length_cipher set K N A T key
length_out Checking gives set K N A T key = absurd (false≢true gives)
length_out Opening gives set K N A T key = length_decrypted (row_of set) (row_fits set) K key N A T

-- what a piece gives does not hang on what was lent
holds_back : (m : Streams) (start : Start) (byte : ℕ) (rest : List ℕ) → let piece = byte ∷ rest in
    gives_text start.direction ≡ true → Started m start → length start.key ≡ (row_of start.set).key → Bytes piece → length piece ≤ start.limit
    → HoldsBack m start piece → Third m → ⊥
unfolding next
holds_back m start byte rest gives begins key bytes few held t =
    let noughts = first_byte 0 in
    let ones = first_byte 1 in
    omega (arith, noughts, ones)
  where
    piece : List ℕ
    piece = byte ∷ rest

    d : Direction
    d = start.direction

    out : List ℕ
    out = published_out d (row_of start.set) start.key start.nonce [] (piece ++ [])

    -- a place that holds a number again and again
    place : ℕ → List ℕ
    place v = replicate (length piece) v

    given : ℕ → Called
    given v = m.text d (m.start start).next piece (place v)

    whole : (v : ℕ) → [] ++ cond (is_done (given v).outcome.answer) (cond (gives_text d) (take (length piece) (given v).lent) []) [] ≡ out
    whole v =
        (t.cutting.whole start [] (piece ++ []) (give_text d piece (place v) ∷ []) []
        (record {
          started = begins;
          bytes = (bytes_none, bytes, tt);
          ad_within = lit≤ tt;
          text_within = subst (λ (x : List ℕ). length x ≤ start.limit) (sym (append-nil piece)) few;
          cut = ad_end (text_piece piece (place v) (λ _. rw (length-replicate (length piece) v) (le_refl (length piece))) text_end);
        })
        ).out

    first_byte : (v : ℕ) → v ≡ get_or out 0 0
    first_byte v =
        let sum = ap (λ (g : Bool). [] ++ cond (is_done (given v).outcome.answer) (cond g (take (length piece) (given v).lent) []) []) (sym gives) ∙ whole v in
        let size : length out ≡ length (piece ++ []) = length_out d gives start.set start.key start.nonce [] (piece ++ []) key in
        let some : 0 < length out = omega (arith, size) in
        let done = gave (is_done (given v).outcome.answer) (length piece) (given v).lent out sum some in
        ap (λ (x : List ℕ). get_or (take (length piece) x) 0 0) (sym (held (place v)))
        ∙ ap (λ (x : List ℕ). get_or x 0 0) (ap (λ (b : Bool). [] ++ cond b (take (length piece) (given v).lent) []) (sym done) ∙ sum)

-- a byte of text and a block of it make the rounds differ
makes_up_streams : (m : Streams) (start text finish : ℕ) → SameStreamRounds m start text finish → streams.Listed m → Third m → ⊥
unfolding next is_set row_of table message_rounds ad_blocks text_blocks rounds_of constants_of constants
makes_up_streams m start text finish same l t =
    let one : start + text + finish ≡ 24 = sum 1 (lit< tt) (lit≤ tt) in
    let eight : start + text + finish ≡ 30 = sum 8 (lit< tt) (lit≤ tt) in
    omega (arith, one, eight)
  where
    s : Stream
    s = (m.start begin).next

    -- n zeros in one piece
    sum : (n : ℕ) → 0 < n → length (zeros n ++ []) ≤ begin.limit → start + text + finish ≡ message_rounds (row_of 1) 0 (length (zeros n ++ []))
    sum n some few =
        let piece : Call = give_text Sealing (zeros n) (zeros n) in
        let P : List ℕ = zeros n ++ [] in
        let whole = t.cutting.seals begin [] P (piece ∷ []) sixteen refl
        (message m l Sealing P (piece ∷ []) (bytes_none, bytes_zeros n, tt) few (text_piece (zeros n) (zeros n) (λ _. omega arith) text_end)) row_one in
        let size : length (sealed (row_of 1) sixteen sixteen [] P).cipher ≡ n = length_cipher 1 sixteen sixteen [] P refl ∙ length-append (zeros n) [] ∙ ap (λ (k : ℕ). k + 0) (length-replicate n 0) ∙ omega arith in
        let taken = done_is (m.text Sealing s (zeros n) (zeros n)).outcome.answer (gave _ (length (zeros n)) _ _ whole.out (omega (arith, size, some))) in
        let first-rounds = same.0 begin (l.start begin) in
        let middle = same.1 s (zeros n) (zeros n) taken in
        let end = same.2 (m.text Sealing s (zeros n) (zeros n)).outcome.next sixteen whole.answer in
        let all = whole.rounds in
        omega (arith, first-rounds, middle, end, all)

-- a finish that compares says yes to the published tag alone
says_yes : (m : Streams) (start : Start) (A C : List ℕ) (calls : List Call) (tag other : List ℕ) → gives_tag start.direction ≡ false
    → Message m start A C calls → AgreesToTwo m start calls tag other → Third m → ⊥
says_yes m start A C calls tag other compares cut (differ, one, two) t =
    let right : (T : List ℕ) → (m.finish start.direction (after m (begun m start) calls).stream T).outcome.answer ≡ Done → T ≡ published_tag start A C = λ T said.
    yes_published start.direction compares (row_of start.set) (published_tag start A C) T (sym (t.cutting.whole start A C calls T cut).answer ∙ said) in
    differ (right tag one ∙ sym (right other two))

-- a start runs twelve rounds
reports_late : (m : Streams) → ReportsLate m → streams.Listed m → streams.Reported m → ⊥
unfolding is_set row_of table
reports_late m none l r =
    let twelve = (r.start begin (l.start begin)).0 in
    let nought = none begin in
    omega (arith, twelve, nought)

-- a finish ends a stream
stays_open : (m : Streams) (d : Direction) (s : Stream) (tag : List ℕ) → StaysOpen m d s tag → streams.Reported m → ⊥
stays_open m d s tag (came, still) r = true≢false (sym still ∙ ap (λ (x : Stream). is_open x.phase) (r.finish d s tag came).1)

-- so does a 9
open_on_nine : (m : Streams) (d : Direction) (s : Stream) (tag : List ℕ) → OpenOnNine m d s tag → streams.Mismatch m → ⊥
open_on_nine m d s tag (nine, still) r = true≢false (sym still ∙ ap (λ (x : Stream). is_open x.phase) (r.finish d s tag nine))

-- and runs twelve rounds
silent_nine : (m : Streams) (d : Direction) (s : Stream) (tag : List ℕ) → SilentNine m d s tag → streams.Reported m → ⊥
silent_nine m d s tag (nine, none) r = let all = (r.finish d s tag (inr nine)).0 in omega (arith, none, all)

-- what lies behind a piece stays
writes_beyond : (m : Streams) (d : Direction) (s : Stream) (piece out : List ℕ) (index : ℕ) → WritesBeyond m d s piece out index → streams.Reported m → ⊥
writes_beyond m d s piece out index (done, behind, changed) r =
    let lent = (m.text d s piece out).lent in
    let n = length piece in
    let here : index ≡ n + (index - n) = omega arith in
    let at : (l : List ℕ) → get_or l index 0 ≡ get_or (drop n l) (index - n) 0 = λ l. ap (λ (k : ℕ). get_or l k 0) here ∙ sym (get_or-drop n l (index - n) 0) in
    changed (at lent ∙ ap (λ (l : List ℕ). get_or l (index - n) 0) (r.text d s piece out done).4 ∙ sym (at out))

-- a piece that is taken passed the test of the limit
passes_limit : (m : Streams) (d : Direction) (s : Stream) (piece out : List ℕ) → PassesLimit m d s piece out → streams.Listed m → ⊥
passes_limit m d s piece out (past, done) l =
    let passed = none_holds (text_faults d s (length piece) (length out)) refl (ap is_done (sym (l.text d s piece out) ∙ done)) in
    let n = s.text + length piece in
    omega (arith, past, leb-true n s.limit (not-false (leb n s.limit) passed.1.1.0))

-- and that of the direction
crosses_text : (m : Streams) (d : Direction) (s : Stream) (piece out : List ℕ) → CrossesText m d s piece out → streams.Listed m → ⊥
crosses_text m d s piece out (other, done) l =
    let passed = none_holds (text_faults d s (length piece) (length out)) refl (ap is_done (sym (l.text d s piece out) ∙ done)) in
    other (sym (one_direction d s.direction ((and-eq-true_iff (is_open s.phase) _).0 (not-false (fits d s) passed.1.0)).1))

-- so did a finish that came through
crosses_finish : (m : Streams) (d : Direction) (s : Stream) (tag : List ℕ) → CrossesFinish m d s tag → streams.Listed m → ⊥
crosses_finish m d s tag (other, came) l = go (is_sound s) refl
  where
    no_end : (b : Bool) → Through (cond b OutOfPhase BrokenState) → ⊥
    no_end true (inl e) = let n : ◌≡◌ {A = ℕ} 7 0 = ap number_of e in omega (arith, n)
    no_end true (inr e) = let n : ◌≡◌ {A = ℕ} 7 9 = ap number_of e in omega (arith, n)
    no_end false (inl e) = let n : ◌≡◌ {A = ℕ} 8 0 = ap number_of e in omega (arith, n)
    no_end false (inr e) = let n : ◌≡◌ {A = ℕ} 8 9 = ap number_of e in omega (arith, n)

    go : (b : Bool) → is_sound s ≡ b → ⊥
    go true e = no_end true (subst Through (l.finish d s tag ∙ rw (e, unfitting d s other)) came)
    go false e = no_end false (subst Through (l.finish d s tag ∙ rw e) came)

-- a piece that is taken leaves the limit
forgets_limit : (m : Streams) (d : Direction) (s : Stream) (piece out : List ℕ) → ForgetsLimit m d s piece out → streams.Reported m → ⊥
forgets_limit m d s piece out (done, changed) r = changed (r.text d s piece out done).2

pub worthless : Worthless
worthless =
    record {
      refuses = refuses;
      refuses_streams = refuses_streams;
      passes_limit = passes_limit;
      crosses_text = crosses_text;
      crosses_finish = crosses_finish;
      refuses_openings = refuses_openings;
      answers_same = answers_same;
      copies = copies;
      copies_openings = copies_openings;
      takes_every_tag = takes_every_tag;
      takes_no_tag = takes_no_tag;
      says_yes = says_yes;
      reports_late = reports_late;
      stays_open = stays_open;
      silent_nine = silent_nine;
      open_on_nine = open_on_nine;
      writes_beyond = writes_beyond;
      copies_later = copies_later;
      holds_back = holds_back;
      ends_early = ends_early;
      forgets = forgets;
      forgets_limit = forgets_limit;
      makes_up = makes_up;
      makes_up_streams = makes_up_streams;
      leaves_plaintext = leaves_plaintext;
      leaves_difference = leaves_difference;
      rounds_by_tag = rounds_by_tag;
      rounds_by_key = rounds_by_key;
      boundary_leaves = boundary_leaves;
      finish_by_tag = finish_by_tag;
      leaves_keys = leaves_keys;
      leaves_refused = leaves_refused;
      opens_to_place = opens_to_place;
      opens_two_tags = opens_two_tags;
      takes_old = takes_old;
      takes_no_state = takes_no_state;
      changes_refused = changes_refused;
      end_keeps = end_keeps;
      finish_keeps = finish_keeps;
      refuses_areas = refuses_areas;
      cut_shows = cut_shows;
      says_yes_on = says_yes_on;
    }
