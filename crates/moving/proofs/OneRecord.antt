-- What moving a record promises.
use mathlib.Core.Path.{◌≡◌, refl, sym, ap, ◌∙◌}
use mathlib.Core.Bool.{Bool, true, false, true≢false, false≢true}
use mathlib.Core.List.{List, ◌++◌}
use mathlib.Core.Logic.{◌↔◌}
use Prim.Native.Nat.{ℕ, ◌≤◌, ◌<◌}
use native.Mathlib.Omega.{arith}
use lib.ListN.{length, take, drop}
use borrow.Author.Tests.{eqb-false, le-leb, lt-leb, ne_eqb, not-true}
use Rattle.answers.specs.declared.Answer.{Answer}
use Rattle.answers.specs.declared.Answer.TheVariants.{Done, UnknownSet, NoRoom, BrokenRecord, ChipLost}
use Rattle.answers.specs.Numbers.{number_of, is_done}
use Rattle.record.specs.declared.form.Form.TheVariants.{One, Two}
use Rattle.record.specs.declared.form.Record.{Record}
use Rattle.record.specs.Calls.{Reading}
use Rattle.record.specs.Form.{loses_chip}
use Rattle.record.specs.Calls.{read_as, read_call}
use Rattle.moving.specs.declared.route.Route.{Route}
use Rattle.moving.specs.declared.route.Route.TheVariants.{Forward, Back, Import, Export}
use Rattle.moving.specs.Moves.{is_known, read_by, form_by, text_by, MoveLeaves, move_leaves, refused_move, moved_as, move_call}
use Rattle.moving.specs.Laws.{source_by, WrongBy, Counts, most_by, Movable, Returns}
use Rattle.moving.proofs.Routes as routes
use Rattle.moving.proofs.Routes.{text_read, decided, unknown_read, read_route, read_is, comes_back}
use Rattle.moving.proofs.Sizes.{most}
use Rattle.moving.proofs.Endings.{Ended, unknown, refused, lost, short, done, ended, move_refused}

-- the text of a record that the route can move is moved, whatever stands behind it
pub moved : (route : Route) (number : ℕ) → Counts route number → is_known route ≡ true → (r : Record) (rest out : List ℕ) → Movable route r → length (text_by route number r) ≤ length out
    → move_call route number (source_by route number r ++ rest) out
    ≡ move_leaves (moved_as (length (source_by route number r)) (length (text_by route number r))) (text_by route number r ++ drop (length (text_by route number r)) out)
unfolding move_call read_as
moved route number c k r rest out (s, e) h = rw (k, text_read route number c k r rest s, e, le-leb (length (text_by route number r)) (length out) h)

module _ (route : Route) (number : ℕ) (counts : Counts route number) (text out : List ℕ) where
  -- what is read
  abbrev reading : Reading
  reading = read_by route number text

  -- what is left
  abbrev leaves : MoveLeaves
  leaves = move_call route number text out

  -- the answer's number
  told : (l : MoveLeaves) (answer : Answer) → leaves ≡ l → leaves.outcome.answer ≡ answer → number_of l.outcome.answer ≡ number_of answer
  told l answer m e = ap number_of (sym (ap (λ (x : MoveLeaves). x.outcome.answer) m) ∙ e)

  -- how it ended
  abbrev How : Type 0
  How = Ended route number counts text out

  -- there and back gives the same bytes
  pub there_and_back : (back : Route) → Returns route back → (place : List ℕ) → leaves.outcome.answer ≡ Done → leaves.outcome.taken ≤ length place
      → move_call back number leaves.out place
      ≡ move_leaves (moved_as leaves.outcome.written leaves.outcome.taken) (take leaves.outcome.taken text ++ drop leaves.outcome.taken place)
  unfolding refused_move moved_as
  there_and_back back returns place a h = go (ended route number counts text out)
    where
      go : How
          → move_call back number leaves.out place
          ≡ move_leaves (moved_as leaves.outcome.written leaves.outcome.taken) (take leaves.outcome.taken text ++ drop leaves.outcome.taken place)
      go (unknown k m) = absurd (omega (arith, told _ _ m a))
      go (refused k d m) = absurd (omega (arith, told _ _ m a))
      go (lost d e m) = absurd (omega (arith, told _ _ m a))
      go (short d e f m) = absurd (omega (arith, told _ _ m a))
      go (done d e f m) =
          let r : Record = reading.content in
          let is = read_is route number counts text d in
          let b = comes_back route back returns number counts r (is.spells, e) in
          let taken : leaves.outcome.taken ≡ reading.taken = ap (λ (x : MoveLeaves). x.outcome.taken) m in
          let size : length (text_by back number r) ≡ reading.taken = ap length b.again ∙ is.size_is in
          let again = moved back number b.counts b.route r (drop (length (text_by route number r)) out) place b.movable (omega arith) in
          rw (m, is.there) (rw (b.source, b.again, is.size_is) at again)

  -- 1 exactly where the set is unknown
  pub unknown_exactly : (leaves.outcome.answer ≡ UnknownSet) ↔ (is_known route ≡ false)
  unfolding refused_move moved_as move_call
  unknown_exactly = (λ a. go a (ended route number counts text out), λ k. rw k)
    where
      go : leaves.outcome.answer ≡ UnknownSet → How → is_known route ≡ false
      go a (unknown k m) = k
      go a (refused k d m) = absurd (omega (arith, told _ _ m a))
      go a (lost d e m) = absurd (omega (arith, told _ _ m a))
      go a (short d e f m) = absurd (omega (arith, told _ _ m a))
      go a (done d e f m) = absurd (omega (arith, told _ _ m a))

  -- 10 exactly where the text is wrong
  pub broken : is_known route ≡ true → (line column : ℕ)
      → ((leaves.outcome.answer ≡ BrokenRecord) × (leaves.outcome.line ≡ line) × (leaves.outcome.column ≡ column)) ↔ WrongBy route number text line column
  unfolding refused_move moved_as
  broken known line column = (
    λ (a, l, c). go a l c (ended route number counts text out),
    λ w.
        let r = (routes.refused route number counts known text line column).1 w in
        let m = move_refused route number counts text out (ap is_done r.0) in (
          ap (λ (x : MoveLeaves). x.outcome.answer) m ∙ r.0,
          ap (λ (x : MoveLeaves). x.outcome.line) m ∙ r.1,
          ap (λ (x : MoveLeaves). x.outcome.column) m ∙ r.2,
        ),
  )
    where
      go : leaves.outcome.answer ≡ BrokenRecord → leaves.outcome.line ≡ line → leaves.outcome.column ≡ column → How → WrongBy route number text line column
      go a l c (unknown k m) = absurd (true≢false (sym known ∙ k))
      go a l c (refused k d m) =
          (routes.refused route number counts known text line column).0
          (d, sym (ap (λ (x : MoveLeaves). x.outcome.line) m) ∙ l, sym (ap (λ (x : MoveLeaves). x.outcome.column) m) ∙ c)
      go a l c (lost d e m) = absurd (omega (arith, told _ _ m a))
      go a l c (short d e f m) = absurd (omega (arith, told _ _ m a))
      go a l c (done d e f m) = absurd (omega (arith, told _ _ m a))

  -- 11 exactly where the chip would be lost
  pub lost_exactly : (leaves.outcome.answer ≡ ChipLost) ↔ ((reading.answer ≡ Done) × (loses_chip (form_by route) reading.content ≡ true))
  unfolding move_call refused_move moved_as
  lost_exactly = (λ a. go a (ended route number counts text out), λ (d, e). rw (read_route route number text d, d, e))
    where
      go : leaves.outcome.answer ≡ ChipLost → How → (reading.answer ≡ Done) × (loses_chip (form_by route) reading.content ≡ true)
      go a (unknown k m) = absurd (omega (arith, told _ _ m a))
      go a (refused k d m) = absurd (omega (arith, told _ _ m a))
      go a (lost d e m) = (d, e)
      go a (short d e f m) = absurd (omega (arith, told _ _ m a))
      go a (done d e f m) = absurd (omega (arith, told _ _ m a))

  -- 6 exactly where the record can be moved, and has no room
  pub room : (leaves.outcome.answer ≡ NoRoom)
      ↔ ((reading.answer ≡ Done) × (loses_chip (form_by route) reading.content ≡ false) × (length out < length (text_by route number reading.content)))
  unfolding move_call refused_move moved_as
  room = (
    λ a. go a (ended route number counts text out),
    λ (d, e, h). rw (read_route route number text d, d, e, lt-leb (length (text_by route number reading.content)) (length out) h),
  )
    where
      go : leaves.outcome.answer ≡ NoRoom → How
          → (reading.answer ≡ Done) × (loses_chip (form_by route) reading.content ≡ false) × (length out < length (text_by route number reading.content))
      go a (unknown k m) = absurd (omega (arith, told _ _ m a))
      go a (refused k d m) = absurd (omega (arith, told _ _ m a))
      go a (lost d e m) = absurd (omega (arith, told _ _ m a))
      go a (short d e f m) = (d, e, f)
      go a (done d e f m) = absurd (omega (arith, told _ _ m a))

  -- a refusal takes nothing, writes nothing, and leaves the place as it was
  pub untouched : (leaves.outcome.answer ≡ Done → ⊥) → leaves ≡ move_leaves (refused_move leaves.outcome.answer leaves.outcome.line leaves.outcome.column) out
  unfolding refused_move moved_as
  untouched n = go (ended route number counts text out)
    where
      go : How → leaves ≡ move_leaves (refused_move leaves.outcome.answer leaves.outcome.line leaves.outcome.column) out
      go (unknown k m) = rw m
      go (refused k d m) = rw m
      go (lost d e m) = rw m
      go (short d e f m) = rw m
      go (done d e f m) = absurd (n (ap (λ (x : MoveLeaves). x.outcome.answer) m))

  -- an answer other than 10 has line 0 and column 0
  pub no_place : (leaves.outcome.answer ≡ BrokenRecord → ⊥) → (leaves.outcome.line ≡ 0) × (leaves.outcome.column ≡ 0)
  unfolding refused_move moved_as
  no_place n = go (ended route number counts text out)
    where
      at : {l : MoveLeaves} → leaves ≡ l → l.outcome.line ≡ 0 → l.outcome.column ≡ 0 → (leaves.outcome.line ≡ 0) × (leaves.outcome.column ≡ 0)
      at m e f = (ap (λ (x : MoveLeaves). x.outcome.line) m ∙ e, ap (λ (x : MoveLeaves). x.outcome.column) m ∙ f)

      go : How → (leaves.outcome.line ≡ 0) × (leaves.outcome.column ≡ 0)
      go (unknown k m) = at m refl refl
      go (refused k d m) = absurd (n (ap (λ (x : MoveLeaves). x.outcome.answer) m))
      go (lost d e m) = at m refl refl
      go (short d e f m) = at m refl refl
      go (done d e f m) = at m refl refl

  -- the most bytes of a record are always enough
  pub enough : most_by route ≤ length out → leaves.outcome.answer ≡ NoRoom → ⊥
  enough h a =
      let r = room.0 a in
      omega (arith, r.2, most route number counts reading.content ((read_is route number counts text r.0).spells, r.1))

-- nothing behind a text that is decided matters
pub behind : (route : Route) (number : ℕ) → Counts route number → (text more out : List ℕ) → (read_by route number text).early ≡ false
    → move_call route number (text ++ more) out ≡ move_call route number text out
unfolding move_call
behind route number c text more out e = go (is_known route) refl
  where
    go : (b : Bool) → is_known route ≡ b → move_call route number (text ++ more) out ≡ move_call route number text out
    go true k = rw (decided route number c k text more e)
    go false k = rw (unknown_read route number (text ++ more) k, unknown_read route number text k)

-- a record that is read in form 1 has no chip to lose
kept_one : (text : List ℕ) (number : ℕ) → (read_call One text).answer ≡ Done → loses_chip One (read_call One text).content ≡ true → ⊥
kept_one text number d e = false≢true (sym (read_is Forward number tt text d).spells.kept ∙ e)

-- a chip is lost only in going back
pub chip : (route : Route) (number : ℕ) → Counts route number → (text out : List ℕ) → ((move_call route number text out).outcome.answer ≡ ChipLost)
    ↔ ((route ≡ Back) × ((read_call Two text).answer ≡ Done) × ((read_call Two text).content.chip ≡ 0 → ⊥))
chip Forward number c text out =
    (λ a. absurd (false≢true ((lost_exactly Forward number c text out).0 a).1), λ (o, d, n). absurd (let z : ◌≡◌ {A = ℕ} 0 1 = cc in omega arith))
chip Back number c text out =
    let l = lost_exactly Back number c text out in (
      λ a. let b = l.0 a in (refl, b.0, eqb-false _ 0 (not-true _ b.1)),
      λ (o, d, n). l.1 (d, rw (ne_eqb (read_call Two text).content.chip 0 n)),
    )
chip (Import set) number c text out = (
  λ a.
      let b = (lost_exactly (Import set) number c text out).0 a in
      absurd (false≢true (sym (read_is (Import set) number c text b.0).spells.spellable.kept ∙ b.1)),
  λ (o, d, n). absurd (let z : ◌≡◌ {A = ℕ} 0 1 = cc in omega arith),
)
chip Export number c text out = (
  λ a. let b = (lost_exactly Export number c text out).0 a in absurd (kept_one text number b.0 b.1),
  λ (o, d, n). absurd (let z : ◌≡◌ {A = ℕ} 0 1 = cc in omega arith),
)
