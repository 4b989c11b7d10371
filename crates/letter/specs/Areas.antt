-- Streams through the C boundary, each in an area of bytes: all that is said of their calls. A model of them is the record `Areas` of `areas/specs/Areas.antt`.
use Rattle.std.specs.Prelude.{◌≡◌, cond, not, List, [], ◌∷◌, ◌++◌, ◌⊎◌, ℕ, ◌+◌, ◌/◌, ◌%◌, eqb, length, drop}
use Rattle.answers.specs.declared.Answer.TheVariants.{Done, BrokenState}
use Rattle.answers.specs.Numbers.{number_of}
use Rattle.answers.specs.Order.{◌when◌, first}
use Rattle.permutation.specs.Strings.{Bytes}
use Rattle.ascon.specs.Sets.{row_of, ad_limit}
use Rattle.stream.specs.declared.Direction.{Direction}
use Rattle.stream.specs.declared.Direction.TheVariants.{Sealing, Checking, Opening}
use Rattle.stream.specs.State.{gives_tag, is_ad, ended}
use Rattle.stream.specs.Calls.{limited_start_faults, piece_faults, text_faults, finish_faults, tag_faults, filled_rounds, closing_rounds, Start, own_tag}
use Rattle.gateway.specs.Spelling.{state_length, spelling, is_spelling, state_in}
use Rattle.gateway.specs.Calls.{left, left_lent, start_on, ad_on, text_on, finish_on, end_on}
use Rattle.areas.specs.Areas.{Areas}
use Rattle.gateway.proofs as gateway
use Rattle.letter.specs.Calls.{Answered, Lent, LentMut, holding, Leaves}

-- ---- the calls

-- what a start is handed
abbrev pub start_from : Direction → ℕ → ℕ → List ℕ → List ℕ → Start
start_from d set limit key nonce = record { direction = d; set = set; limit = limit; key = key; nonce = nonce }

-- the start of a direction gives what a contract allows
abbrev pub StartKept : {L : Type 0} → Areas → Direction
    → (L → ℕ × (ℕ × (Lent × (Lent × (LentMut × Unit {0})))) → ℕ → ℕ × (ℕ × (Lent × (Lent × (LentMut × Unit {0})))) → Type 0) → Type 0
StartKept m d allowed =
    (set limit : ℕ) (key nonce : Lent) (state : LentMut) → let leaves = m.start (start_from d set limit key.now nonce.now) state.now in
    Leaves allowed (set, (limit, (key, (nonce, (state, tt))))) leaves.word (set, (limit, (key, (nonce, (holding state leaves.area, tt)))))

-- each gives what the contract of the code allows; `kvistmaur_stream_check`, `kvistmaur_finish_checking` and `kvistmaur_finish_opening` are lent nothing to write but the
-- state, so what the model was handed beside it is what it leaves
pub record Keeps (m : Areas) : Type 0 where
  pub start_sealing : StartKept m Sealing gateway.kvistmaur_start_sealing.Reads.Learnt
  pub start_checking : StartKept m Checking gateway.kvistmaur_start_checking.Reads.Learnt
  pub start_opening : StartKept m Opening gateway.kvistmaur_start_opening.Reads.Learnt
  pub ad : (state : LentMut) (ad : Lent) → let leaves = m.ad state.now ad.now in
      Leaves gateway.kvistmaur_stream_data.Reads.Learnt (state, (ad, tt)) leaves.word (holding state leaves.area, (ad, tt))
  pub seal_piece : (state : LentMut) (text : Lent) (out : LentMut) → let leaves = m.text Sealing state.now text.now out.now in
      Leaves gateway.kvistmaur_stream_seal.Reads.Learnt (state, (text, (out, tt))) leaves.word
      (holding state leaves.area, (text, (holding out leaves.lent, tt)))
  pub check : (state : LentMut) (cipher : Lent) (out : List ℕ) → let leaves = m.text Checking state.now cipher.now out in
      Leaves gateway.kvistmaur_stream_check.Reads.Learnt (state, (cipher, tt)) leaves.word (holding state leaves.area, (cipher, tt)) × (leaves.lent ≡ out)
  pub open_piece : (state : LentMut) (cipher : Lent) (out : LentMut) → let leaves = m.text Opening state.now cipher.now out.now in
      Leaves gateway.kvistmaur_stream_open.Reads.Learnt (state, (cipher, (out, tt))) leaves.word
      (holding state leaves.area, (cipher, (holding out leaves.lent, tt)))
  pub finish_sealing : (state tag : LentMut) → let leaves = m.finish Sealing state.now tag.now in
      Leaves gateway.kvistmaur_finish_sealing.Reads.Learnt (state, (tag, tt)) leaves.word (holding state leaves.area, (holding tag leaves.lent, tt))
  pub finish_checking : (state : LentMut) (tag : Lent) → let leaves = m.finish Checking state.now tag.now in
      Leaves gateway.kvistmaur_finish_checking.Reads.Learnt (state, (tag, tt)) leaves.word (holding state leaves.area, (tag, tt)) × (leaves.lent ≡ tag.now)
  pub finish_opening : (state : LentMut) (tag : Lent) → let leaves = m.finish Opening state.now tag.now in
      Leaves gateway.kvistmaur_finish_opening.Reads.Learnt (state, (tag, tt)) leaves.word (holding state leaves.area, (tag, tt)) × (leaves.lent ≡ tag.now)
  pub ends : (state : LentMut) → let leaves = m.ends state.now in
      Leaves gateway.kvistmaur_stream_end.Reads.Learnt (state, tt) leaves.word (holding state leaves.area, tt)

-- each public call, and its one outcome
pub record EveryCall : Type 2 where
  pub gateway_kvistmaur_start_sealing : Answered gateway.kvistmaur_start_sealing.Statement.statement gateway.kvistmaur_start_sealing.Reads.Asked gateway.kvistmaur_start_sealing.Reads.Learnt
      (λ r (set, (limit, (key, (nonce, (state, _))))). left r state.now)
      (λ (set, (limit, (key, (nonce, (state, _))))). start_on (start_from Sealing set limit key.now nonce.now) state.now)
  pub gateway_kvistmaur_start_checking : Answered gateway.kvistmaur_start_checking.Statement.statement gateway.kvistmaur_start_checking.Reads.Asked gateway.kvistmaur_start_checking.Reads.Learnt
      (λ r (set, (limit, (key, (nonce, (state, _))))). left r state.now)
      (λ (set, (limit, (key, (nonce, (state, _))))). start_on (start_from Checking set limit key.now nonce.now) state.now)
  pub gateway_kvistmaur_start_opening : Answered gateway.kvistmaur_start_opening.Statement.statement gateway.kvistmaur_start_opening.Reads.Asked gateway.kvistmaur_start_opening.Reads.Learnt
      (λ r (set, (limit, (key, (nonce, (state, _))))). left r state.now)
      (λ (set, (limit, (key, (nonce, (state, _))))). start_on (start_from Opening set limit key.now nonce.now) state.now)
  pub gateway_kvistmaur_stream_data : Answered gateway.kvistmaur_stream_data.Statement.statement gateway.kvistmaur_stream_data.Reads.Asked gateway.kvistmaur_stream_data.Reads.Learnt
      (λ r (state, (ad, _)). left r state.now) (λ (state, (ad, _)). ad_on state.now ad.now)
  pub gateway_kvistmaur_stream_seal : Answered gateway.kvistmaur_stream_seal.Statement.statement gateway.kvistmaur_stream_seal.Reads.Asked gateway.kvistmaur_stream_seal.Reads.Learnt
      (λ r (state, (text, (out, _))). left_lent r state.now out.now) (λ (state, (text, (out, _))). text_on Sealing state.now text.now out.now)
  pub gateway_kvistmaur_stream_check : Answered gateway.kvistmaur_stream_check.Statement.statement gateway.kvistmaur_stream_check.Reads.Asked gateway.kvistmaur_stream_check.Reads.Learnt
      (λ r (state, (cipher, _)). left r state.now) (λ (state, (cipher, _)). let leaves = text_on Checking state.now cipher.now [] in left leaves.word leaves.area)
  pub gateway_kvistmaur_stream_open : Answered gateway.kvistmaur_stream_open.Statement.statement gateway.kvistmaur_stream_open.Reads.Asked gateway.kvistmaur_stream_open.Reads.Learnt
      (λ r (state, (cipher, (out, _))). left_lent r state.now out.now) (λ (state, (cipher, (out, _))). text_on Opening state.now cipher.now out.now)
  pub gateway_kvistmaur_finish_sealing : Answered gateway.kvistmaur_finish_sealing.Statement.statement gateway.kvistmaur_finish_sealing.Reads.Asked gateway.kvistmaur_finish_sealing.Reads.Learnt
      (λ r (state, (tag, _)). left_lent r state.now tag.now) (λ (state, (tag, _)). finish_on Sealing state.now tag.now)
  pub gateway_kvistmaur_finish_checking : Answered gateway.kvistmaur_finish_checking.Statement.statement gateway.kvistmaur_finish_checking.Reads.Asked gateway.kvistmaur_finish_checking.Reads.Learnt
      (λ r (state, (tag, _)). left r state.now) (λ (state, (tag, _)). let leaves = finish_on Checking state.now tag.now in left leaves.word leaves.area)
  pub gateway_kvistmaur_finish_opening : Answered gateway.kvistmaur_finish_opening.Statement.statement gateway.kvistmaur_finish_opening.Reads.Asked gateway.kvistmaur_finish_opening.Reads.Learnt
      (λ r (state, (tag, _)). left r state.now) (λ (state, (tag, _)). let leaves = finish_on Opening state.now tag.now in left leaves.word leaves.area)
  pub gateway_kvistmaur_stream_end : Answered gateway.kvistmaur_stream_end.Statement.statement gateway.kvistmaur_stream_end.Reads.Asked gateway.kvistmaur_stream_end.Reads.Learnt
      (λ r (state, _). left r state.now) (λ (state, _). end_on state.now)

-- ---- what they answer

-- the remainder of the number by 16 is that of the first answer whose condition holds, and 0 where none does
pub record Listed (m : Areas) : Type 0 where
  -- a start tests the area's length before all else, and nothing of what it holds
  pub start : (start : Start) (area : List ℕ)
      → (m.start start area).word % 16
      ≡ number_of
      (first Done
      (BrokenState when not (eqb (length area) state_length) ∷ limited_start_faults start.set (length start.key) (length start.nonce) start.limit))
  pub ad : (area piece : List ℕ) → let s = state_in area in
      (m.ad area piece).word % 16 ≡ number_of (first Done (BrokenState when not (is_spelling area) ∷ piece_faults s (is_ad s.phase) (s.ad + length piece) ad_limit))
  pub text : (d : Direction) (area piece out : List ℕ)
      → (m.text d area piece out).word % 16 ≡ number_of (first Done (BrokenState when not (is_spelling area) ∷ text_faults d (state_in area) (length piece) (length out)))
  pub finish : (d : Direction) (area tag : List ℕ) → let s = state_in area in
      (m.finish d area tag).word % 16 ≡ number_of (first Done (BrokenState when not (is_spelling area) ∷ finish_faults d s (length tag) ++ tag_faults d s tag))
  pub ends : (area : List ℕ) → (m.ends area).word % 16 ≡ number_of (first Done (BrokenState when not (eqb (length area) state_length) ∷ []))

-- ---- what they leave

-- not done, and not 9
abbrev pub RefusedWord : ℕ → Type 0
RefusedWord word = (word % 16 ≡ 0 → ⊥) × (word % 16 ≡ 9 → ⊥)

-- done, or 9
abbrev pub ThroughWord : ℕ → Type 0
ThroughWord word = (word % 16 ≡ 0) ⊎ (word % 16 ≡ 9)

-- a refusal changes no lent byte, and reports no round
pub record Unchanged (m : Areas) : Type 0 where
  -- save one: a start that is refused with 1, 2, 3 or 5 leaves the ended state, so that no stream that stood there before is taken for the new one
  pub start : (start : Start) (area : List ℕ) → length area ≡ state_length → let leaves = m.start start area in
      RefusedWord leaves.word → (leaves.area ≡ spelling ended) × (leaves.word / 16 ≡ 0)
  -- one that is refused with 8, for the area's length, changes nothing
  pub start_length : (start : Start) (area : List ℕ) → (length area ≡ state_length → ⊥) → let leaves = m.start start area in (leaves.area ≡ area) × (leaves.word ≡ 8)
  pub ad : (area piece : List ℕ) → Bytes area → let leaves = m.ad area piece in RefusedWord leaves.word → (leaves.area ≡ area) × (leaves.word / 16 ≡ 0)
  pub text : (d : Direction) (area piece out : List ℕ) → Bytes area → let leaves = m.text d area piece out in
      RefusedWord leaves.word → (leaves.area ≡ area) × (leaves.lent ≡ out) × (leaves.word / 16 ≡ 0)
  pub finish : (d : Direction) (area tag : List ℕ) → Bytes area → let leaves = m.finish d area tag in
      RefusedWord leaves.word → (leaves.area ≡ area) × (leaves.lent ≡ tag) × (leaves.word / 16 ≡ 0)
  pub ends : (area : List ℕ) → (length area ≡ state_length → ⊥) → let leaves = m.ends area in (leaves.area ≡ area) × (leaves.word ≡ 8)

-- on a tag mismatch the area is the ended state's
pub record Mismatch (m : Areas) : Type 0 where
  pub finish : (d : Direction) (area tag : List ℕ) → let leaves = m.finish d area tag in leaves.word % 16 ≡ 9 → leaves.area ≡ spelling ended

-- done, or 9: the rules' rounds, call by call, and the bytes of a lent place beyond its result; what the area holds after a start or a piece is in `Spelled`
pub record Reported (m : Areas) : Type 0 where
  pub start : (start : Start) (area : List ℕ) → let word = (m.start start area).word in word % 16 ≡ 0 → word / 16 ≡ 12
  pub ad : (area piece : List ℕ) → let s = state_in area in
      let word = (m.ad area piece).word in
      word % 16 ≡ 0 → word / 16 ≡ filled_rounds (row_of s.set) s.ad (length piece)
  pub text : (d : Direction) (area piece out : List ℕ) → let s = state_in area in
      let leaves = m.text d area piece out in
      leaves.word % 16 ≡ 0
      → (leaves.word / 16 ≡ closing_rounds s + filled_rounds (row_of s.set) s.text (length piece))
      × (length leaves.lent ≡ length out)
      × (drop (length piece) leaves.lent ≡ drop (length piece) out)
  pub finish : (d : Direction) (area tag : List ℕ) → let s = state_in area in
      let leaves = m.finish d area tag in
      ThroughWord leaves.word
      → (leaves.word / 16 ≡ closing_rounds s + 12) × (leaves.area ≡ spelling ended) × (leaves.lent ≡ cond (gives_tag d) (own_tag s) tag)
  -- an area of the right length, whatever it held: no rounds, and the ended state
  pub ends : (area : List ℕ) → length area ≡ state_length → let leaves = m.ends area in (leaves.word ≡ 0) × (leaves.area ≡ spelling ended)
