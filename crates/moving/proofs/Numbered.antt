-- A record that is refused has a number and a line from 1 on.
use mathlib.Core.Path.{◌≡◌, refl, sym, ap, ◌∙◌}
use mathlib.Core.Bool.{Bool, true, false}
use mathlib.Core.List.{List}
use Prim.Native.Nat.{ℕ, ◌≤◌}
use native.Mathlib.Omega.{arith}
use Rattle.std.proofs.Common.{Result, Ok, Err}
use lib.Dec.{leb}
use lib.ListN.{length}
use Rattle.answers.specs.declared.Answer.TheVariants.{UnknownSet, ChipLost}
use Rattle.answers.specs.Numbers.{number_of}
use Rattle.moving.specs.declared.route.Route.{Route}
use Rattle.moving.specs.declared.route.Route.TheVariants.{Forward, Back, Import, Export}
use Rattle.moving.specs.declared.all.MovedAll.{MovedAll}
use Rattle.moving.specs.declared.all.UnmovedAll.{UnmovedAll}
use Rattle.moving.specs.declared.all.UnmovedAll.TheVariants as unmoved_all
use Rattle.moving.specs.Moves.{is_known, MovingAll, Whole, whole, stopped, refused_all, moving_all_of, Numbered, all_by, move_all_call}
use Rattle.moving.specs.Laws.{WrongBy, Counts}
use Rattle.moving.proofs.Places.{Stops, all_stops}
use Rattle.moving.proofs.AllRecords.{all_unknown, all_broken}

-- a text is wrong at a line from 1 on
first : (route : Route) (number line column : ℕ) (text : List ℕ) → WrongBy route number text line column → 1 ≤ line
first Forward number line column text w = w.first
first Back number line column text w = w.first
first (Import set) number line column text w = w.first
first Export number line column text w = w.first

-- a record whose chip would be lost has a number from 1 on
chip : (w : Whole) (out : List ℕ) (number : ℕ) → Stops w → refused_all ChipLost number 0 0 ≡ (all_by w out).outcome → 1 ≤ number
unfolding refused_all
chip (stopped answer n line column) out number s e =
    let same : number ≡ n = ap (λ (m : MovingAll). m.records) e in
    let other : answer ≡ UnknownSet → ⊥ = λ u. (let z : ◌≡◌ {A = ℕ} 11 1 = ap (λ (m : MovingAll). number_of m.answer) e ∙ ap number_of u in omega arith) in
    omega (arith, s.counted other)
chip (whole count moved) out number s e = go (leb (length moved) (length out)) refl
  where
    go : (b : Bool) → leb (length moved) (length out) ≡ b → 1 ≤ number
    go true t = absurd (let z : ◌≡◌ {A = ℕ} 11 0 = rw t at (ap (λ (m : MovingAll). number_of m.answer) e) in omega arith)
    go false t = absurd (let z : ◌≡◌ {A = ℕ} 11 6 = rw t at (ap (λ (m : MovingAll). number_of m.answer) e) in omega arith)

-- where a record is refused for itself, the route's set is known
known : (route : Route) (text out : List ℕ) → (number_of (move_all_call route text out).outcome.answer ≡ 1 → ⊥) → is_known route ≡ true
unfolding move_all_call refused_all
known route text out n = go (is_known route) refl
  where
    go : (b : Bool) → is_known route ≡ b → is_known route ≡ true
    go true k = k
    go false k = absurd (n (ap (λ (w : Whole). number_of (all_by w out).outcome.answer) (all_unknown route text k)))

-- so what a moving of all records answers is numbered
pub numbered : (route : Route) (text out : List ℕ) (r : Result MovedAll UnmovedAll) → moving_all_of r ≡ (move_all_call route text out).outcome → Counts route (length text) → Numbered r
unfolding refused_all move_all_call
numbered route text out (Ok moved) e c = tt
numbered route text out (Err unmoved_all.UnknownSet) e c = tt
numbered route text out (Err (unmoved_all.Broken number line column)) e c =
    let k = known route text out (λ z. (let y : ◌≡◌ {A = ℕ} 10 1 = ap (λ (m : MovingAll). number_of m.answer) e ∙ z in omega arith)) in
    let b = (all_broken route k text out number line column c).0
    (sym (ap (λ (m : MovingAll). m.answer) e), sym (ap (λ (m : MovingAll). m.records) e), sym (ap (λ (m : MovingAll). m.line) e), sym (ap (λ (m : MovingAll). m.column) e)) in
    (omega (arith, b.counted), first route number line column b.rest b.wrong)
numbered route text out (Err (unmoved_all.ChipLost number)) e c = chip _ out number (all_stops route text) e
numbered route text out (Err unmoved_all.NoRoom) e c = tt
