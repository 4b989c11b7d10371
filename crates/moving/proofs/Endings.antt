-- The five ways in which moving a record ends.
use mathlib.Core.Path.{◌≡◌, refl, sym, ap, ◌∙◌}
use mathlib.Core.Bool.{Bool, true, false, cond, true≢false, false≢true}
use mathlib.Core.List.{List, ◌++◌}
use mathlib.Core.Logic.{◌⊎◌, inl, inr}
use Prim.Native.Nat.{ℕ, ◌≤◌, ◌<◌}
use lib.Dec.{leb}
use lib.ListN.{length, drop}
use borrow.Author.Tests.{leb-true, leb-false, le-leb, lt-leb}
use Rattle.answers.specs.declared.Answer.TheVariants.{Done, UnknownSet, NoRoom, BrokenRecord, ChipLost}
use Rattle.answers.specs.Numbers.{is_done}
use Rattle.answers.proofs.Numbers.{done_is}
use Rattle.record.specs.Calls.{Reading}
use Rattle.record.specs.Form.{loses_chip}
use Rattle.record.specs.Calls.{refused_at, read_as, WriteLeaves, refused_with}
use Rattle.record.proofs.Laws.{done_broken}
use Rattle.moving.specs.declared.route.Route.{Route}
use Rattle.moving.specs.Moves.{is_known, read_by, form_by, text_by, write_by, MoveLeaves, move_leaves, refused_move, moved_as, move_call}
use Rattle.moving.specs.Laws.{Counts}
use Rattle.moving.proofs.Routes.{answered, unknown_read, read_route, read_is, in_form}

-- what a writing leaves, for a record of which so many bytes were taken
abbrev pub written : ℕ → WriteLeaves → MoveLeaves
written taken leaves =
    let w = leaves.outcome in
    cond (is_done w.answer) (move_leaves (moved_as taken w.written) leaves.out) (move_leaves (refused_move w.answer w.line w.column) leaves.out)

module _ (route : Route) (number : ℕ) (counts : Counts route number) (text out : List ℕ) where
  -- what is read
  abbrev reading : Reading
  reading = read_by route number text

  -- its new text
  abbrev moved : List ℕ
  moved = text_by route number reading.content

  -- whether its chip would be lost
  abbrev loses : Bool
  loses = loses_chip (form_by route) reading.content

  -- what is left
  abbrev leaves : MoveLeaves
  leaves = move_call route number text out

  -- the route's set is unknown; the text is not read; its chip would be lost; it has no room; it is moved
  pub data Ended : Type 0 where
    unknown : is_known route ≡ false → leaves ≡ move_leaves (refused_move UnknownSet 0 0) out → Ended
    refused : is_known route ≡ true → reading.answer ≡ BrokenRecord → leaves ≡ move_leaves (refused_move BrokenRecord reading.line reading.column) out → Ended
    lost : reading.answer ≡ Done → loses ≡ true → leaves ≡ move_leaves (refused_move ChipLost 0 0) out → Ended
    short : reading.answer ≡ Done → loses ≡ false → length out < length moved → leaves ≡ move_leaves (refused_move NoRoom 0 0) out → Ended
    done : reading.answer ≡ Done → loses ≡ false → length moved ≤ length out
        → leaves ≡ move_leaves (moved_as reading.taken (length moved)) (moved ++ drop (length moved) out)
        → Ended

  -- moving ends in one of them
  pub ended : Ended
  unfolding move_call read_as refused_at
  ended = by (is_known route) refl
    where
      read : is_known route ≡ true → reading.answer ≡ Done → reading.line ≡ 0 → reading.column ≡ 0 → (b : Bool) → loses ≡ b → (t : Bool) → leb (length moved) (length out) ≡ t → Ended
      read k d l c true e t f = lost d e (rw (k, d, e, l, c))
      read k d l c false e true f = done d e (leb-true _ _ f) (rw (k, d, e, f))
      read k d l c false e false f = short d e (leb-false _ _ f) (rw (k, d, e, f, l, c))

      go : is_known route ≡ true → (reading ≡ read_as reading.taken reading.content) ⊎ (reading ≡ refused_at reading.line reading.column reading.early) → Ended
      go k (inl e) =
          read k (ap (λ (r : Reading). r.answer) e) (ap (λ (r : Reading). r.line) e) (ap (λ (r : Reading). r.column) e) loses refl (leb (length moved) (length out)) refl
      go k (inr e) = let d : reading.answer ≡ BrokenRecord = ap (λ (r : Reading). r.answer) e in refused k d (rw (k, d))

      by : (b : Bool) → is_known route ≡ b → Ended
      by true k = go k (answered route number counts k text)
      by false k =
          let u = unknown_read route number text k in
          unknown k (rw (k, ap (λ (r : Reading). r.line) u, ap (λ (r : Reading). r.column) u))

  -- what was read is moved as it is written
  pub move_writes : is_done reading.answer ≡ true → leaves ≡ written reading.taken (write_by route number reading.content out)
  unfolding refused_with
  move_writes t = go (done_is _ t) ended
    where
      go : reading.answer ≡ Done → Ended → leaves ≡ written reading.taken (write_by route number reading.content out)
      go d (unknown k m) = absurd (false≢true (sym k ∙ read_route route number text d))
      go d (refused k e m) = absurd (done_broken (sym d ∙ e))
      go d (lost _ e m) = m ∙ rw (in_form route reading.content (read_is route number counts text d).spells, e)
      go d (short _ e f m) = m ∙ rw (in_form route reading.content (read_is route number counts text d).spells, e, lt-leb (length moved) (length out) f)
      go d (done _ e f m) = m ∙ rw (in_form route reading.content (read_is route number counts text d).spells, e, le-leb (length moved) (length out) f)

  -- what was not read is refused at its line and column
  pub move_refused : is_done reading.answer ≡ false → leaves ≡ move_leaves (refused_move reading.answer reading.line reading.column) out
  move_refused t = go ended
    where
      go : Ended → leaves ≡ move_leaves (refused_move reading.answer reading.line reading.column) out
      go (unknown k m) = m ∙ ap (λ (r : Reading). move_leaves (refused_move r.answer r.line r.column) out) (sym (unknown_read route number text k))
      go (refused k e m) = m ∙ rw e
      go (lost d e m) = absurd (true≢false (sym (ap is_done d) ∙ t))
      go (short d e f m) = absurd (true≢false (sym (ap is_done d) ∙ t))
      go (done d e f m) = absurd (true≢false (sym (ap is_done d) ∙ t))
