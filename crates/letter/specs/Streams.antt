-- Streams: all that is said of their calls. A model of them is the record `Streams` of `history/specs/History.antt`.
use Rattle.std.specs.Prelude.{◌≡◌, cond, List, [], ◌++◌, ℕ, ◌+◌, length, drop}
use Rattle.answers.specs.declared.Answer.TheVariants.{Done, TagDiffers}
use Rattle.answers.specs.Order.{first}
use Rattle.ascon.specs.Sets.{row_of, ad_limit}
use Rattle.stream.specs.declared.Direction.{Direction}
use Rattle.stream.specs.declared.Direction.TheVariants.{Sealing, Checking, Opening}
use Rattle.stream.specs.declared.Stream.{Stream}
use Rattle.stream.specs.declared.Phase.TheVariants.{Ad, Text}
use Rattle.stream.specs.State.{rank_of, gives_tag, is_ad, ended}
use Rattle.stream.specs.Calls.{limited_start_faults, piece_faults, text_faults, finish_faults, tag_faults, filled_rounds, closing_rounds, Start, start_call, ad_call, called, text_call, own_tag, finish_call}
use Rattle.history.specs.History.{Streams}
use Rattle.stream.proofs as stream
use Rattle.letter.specs.Calls.{Answered, Lent, LentMut, holding, Leaves, Gives, Refused, Through}

-- ---- the calls

-- each gives what the contract of the code allows; `check`, `finish_checking` and `finish_opening` are lent nothing to write, so what the model was handed is what it
-- leaves
pub record Keeps (m : Streams) : Type 0 where
  pub start : (d : Direction) (set limit : ℕ) (key nonce : Lent)
      → Gives stream.Stream.start.Reads.Learnt (d, (set, (limit, (key, (nonce, tt)))))
      (m.start (record { direction = d; set = set; limit = limit; key = key.now; nonce = nonce.now }))
  pub ad : (s : Stream) (piece : Lent) → Gives stream.Stream.ad.Reads.Learnt (s, (piece, tt)) (m.ad s piece.now)
  pub seal_piece : (s : Stream) (piece : Lent) (out : LentMut) → let leaves = m.text Sealing s piece.now out.now in
      Leaves stream.Stream.seal.Reads.Learnt (s, (piece, (out, tt))) leaves.outcome (s, (piece, (holding out leaves.lent, tt)))
  pub check : (s : Stream) (piece : Lent) (out : List ℕ) → let leaves = m.text Checking s piece.now out in
      Gives stream.Stream.check.Reads.Learnt (s, (piece, tt)) leaves.outcome × (leaves.lent ≡ out)
  pub open_piece : (s : Stream) (piece : Lent) (out : LentMut) → let leaves = m.text Opening s piece.now out.now in
      Leaves stream.Stream.«open».Reads.Learnt (s, (piece, (out, tt))) leaves.outcome (s, (piece, (holding out leaves.lent, tt)))
  pub finish_sealing : (s : Stream) (tag : LentMut) → let leaves = m.finish Sealing s tag.now in
      Leaves stream.Stream.finish_sealing.Reads.Learnt (s, (tag, tt)) leaves.outcome (s, (holding tag leaves.lent, tt))
  pub finish_checking : (s : Stream) (tag : Lent) → let leaves = m.finish Checking s tag.now in
      Gives stream.Stream.finish_checking.Reads.Learnt (s, (tag, tt)) leaves.outcome × (leaves.lent ≡ tag.now)
  pub finish_opening : (s : Stream) (tag : Lent) → let leaves = m.finish Opening s tag.now in
      Gives stream.Stream.finish_opening.Reads.Learnt (s, (tag, tt)) leaves.outcome × (leaves.lent ≡ tag.now)

-- each public call, and its one outcome
pub record EveryCall : Type 2 where
  pub stream_ended : Answered stream.Stream.ended.Statement.statement stream.Stream.ended.Reads.Asked stream.Stream.ended.Reads.Learnt (λ r e. r) (λ _. ended)
  pub stream_rank : Answered stream.rank.Statement.statement stream.rank.Reads.Asked stream.rank.Reads.Learnt (λ r e. r) (λ (direction, _). rank_of direction)
  pub stream_start : Answered stream.Stream.start.Statement.statement stream.Stream.start.Reads.Asked stream.Stream.start.Reads.Learnt
      (λ r e. r)
      (λ (direction, (set, (limit, (key, (nonce, _))))). start_call (record { direction = direction; set = set; limit = limit; key = key.now; nonce = nonce.now }))
  pub stream_ad : Answered stream.Stream.ad.Statement.statement stream.Stream.ad.Reads.Asked stream.Stream.ad.Reads.Learnt
      (λ r e. r) (λ (s, (piece, _)). ad_call s piece.now)
  pub stream_seal : Answered stream.Stream.seal.Statement.statement stream.Stream.seal.Reads.Asked stream.Stream.seal.Reads.Learnt
      (λ r (s, (piece, (out, _))). called r out.now) (λ (s, (piece, (out, _))). text_call Sealing s piece.now out.now)
  pub stream_check : Answered stream.Stream.check.Statement.statement stream.Stream.check.Reads.Asked stream.Stream.check.Reads.Learnt
      (λ r e. r) (λ (s, (piece, _)). (text_call Checking s piece.now []).outcome)
  pub stream_open : Answered stream.Stream.«open».Statement.statement stream.Stream.«open».Reads.Asked stream.Stream.«open».Reads.Learnt
      (λ r (s, (piece, (out, _))). called r out.now) (λ (s, (piece, (out, _))). text_call Opening s piece.now out.now)
  pub stream_finish_sealing : Answered stream.Stream.finish_sealing.Statement.statement stream.Stream.finish_sealing.Reads.Asked stream.Stream.finish_sealing.Reads.Learnt
      (λ r (s, (tag, _)). called r tag.now) (λ (s, (tag, _)). finish_call Sealing s tag.now)
  pub stream_finish_checking : Answered stream.Stream.finish_checking.Statement.statement stream.Stream.finish_checking.Reads.Asked stream.Stream.finish_checking.Reads.Learnt
      (λ r e. r) (λ (s, (tag, _)). (finish_call Checking s tag.now).outcome)
  pub stream_finish_opening : Answered stream.Stream.finish_opening.Statement.statement stream.Stream.finish_opening.Reads.Asked stream.Stream.finish_opening.Reads.Learnt
      (λ r e. r) (λ (s, (tag, _)). (finish_call Opening s tag.now).outcome)

-- ---- what they answer

-- each answer is the first whose condition holds, and `Done` where none does
pub record Listed (m : Streams) : Type 0 where
  pub start : (start : Start) → (m.start start).answer ≡ first Done (limited_start_faults start.set (length start.key) (length start.nonce) start.limit)
  pub ad : (s : Stream) (piece : List ℕ) → (m.ad s piece).answer ≡ first Done (piece_faults s (is_ad s.phase) (s.ad + length piece) ad_limit)
  pub text : (d : Direction) (s : Stream) (piece out : List ℕ) → (m.text d s piece out).outcome.answer ≡ first Done (text_faults d s (length piece) (length out))
  pub finish : (d : Direction) (s : Stream) (tag : List ℕ) → (m.finish d s tag).outcome.answer ≡ first Done (finish_faults d s (length tag) ++ tag_faults d s tag)

-- ---- what they leave

-- a refusal changes no lent byte and no state, and reports no round
pub record Unchanged (m : Streams) : Type 0 where
  -- a start has no state yet: it gives the ended one
  pub start : (start : Start) → let outcome = m.start start in Refused outcome.answer → (outcome.next ≡ ended) × (outcome.rounds ≡ 0)
  pub ad : (s : Stream) (piece : List ℕ) → let outcome = m.ad s piece in Refused outcome.answer → (outcome.next ≡ s) × (outcome.rounds ≡ 0)
  pub text : (d : Direction) (s : Stream) (piece out : List ℕ) → let leaves = m.text d s piece out in
      Refused leaves.outcome.answer → (leaves.lent ≡ out) × (leaves.outcome.next ≡ s) × (leaves.outcome.rounds ≡ 0)
  pub finish : (d : Direction) (s : Stream) (tag : List ℕ) → let leaves = m.finish d s tag in
      Refused leaves.outcome.answer → (leaves.lent ≡ tag) × (leaves.outcome.next ≡ s) × (leaves.outcome.rounds ≡ 0)

-- on a tag mismatch the stream is ended
pub record Mismatch (m : Streams) : Type 0 where
  pub finish : (d : Direction) (s : Stream) (tag : List ℕ) → let outcome = (m.finish d s tag).outcome in outcome.answer ≡ TagDiffers → outcome.next ≡ ended

-- done, or 9: the rules' rounds, call by call, the limit of the next state, and the bytes of a lent place beyond its result; what a piece gives, and the rest of the
-- state after it, is in the third demand for states that a start gave, and in `EveryCall` for all others
pub record Reported (m : Streams) : Type 0 where
  -- a start: twelve, the data phase, and the limit that it was given
  pub start : (start : Start) → let outcome = m.start start in
      outcome.answer ≡ Done → (outcome.rounds ≡ 12) × (outcome.next.phase ≡ Ad) × (outcome.next.limit ≡ start.limit)
  -- a piece: the middle rounds for each block that it fills; of text, also those of closing the data, and the text phase; the limit stays
  pub ad : (s : Stream) (piece : List ℕ) → let outcome = m.ad s piece in
      outcome.answer ≡ Done → (outcome.rounds ≡ filled_rounds (row_of s.set) s.ad (length piece)) × (outcome.next.limit ≡ s.limit)
  -- bytes of `out` beyond a piece stay, and `out` keeps its length
  pub text : (d : Direction) (s : Stream) (piece out : List ℕ) → let leaves = m.text d s piece out in
      leaves.outcome.answer ≡ Done
      → (leaves.outcome.rounds ≡ closing_rounds s + filled_rounds (row_of s.set) s.text (length piece))
      × (leaves.outcome.next.phase ≡ Text)
      × (leaves.outcome.next.limit ≡ s.limit)
      × (length leaves.lent ≡ length out)
      × (drop (length piece) leaves.lent ≡ drop (length piece) out)
  -- a finish: those of closing the data, and twelve more; it gives the ended state, and the place of the tag holds the state's own tag and no more, or what it held
  pub finish : (d : Direction) (s : Stream) (tag : List ℕ) → let leaves = m.finish d s tag in
      Through leaves.outcome.answer
      → (leaves.outcome.rounds ≡ closing_rounds s + 12) × (leaves.outcome.next ≡ ended) × (leaves.lent ≡ cond (gives_tag d) (own_tag s) tag)
