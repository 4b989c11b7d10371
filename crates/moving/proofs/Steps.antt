-- All records of a text, record by record.
use mathlib.Core.Path.{◌≡◌, refl, sym, ap, ◌∙◌}
use mathlib.Core.Bool.{Bool, true, false, cond}
use mathlib.Core.List.{List, [], ◌++◌}
use Prim.Native.Nat.{ℕ, zero, suc, ◌+◌, ◌*◌, ◌≤◌}
use native.Mathlib.Omega.{arith}
use lib.Dec.{eqb}
use lib.ListN.{length, drop, length-drop, length-append}
use lib.Seq.{drop-drop}
use borrow.Author.Tests.{eq-eqb, ne_eqb, eqb-false}
use Rattle.answers.specs.declared.Answer.TheVariants.{Done, BrokenRecord, ChipLost}
use Rattle.answers.specs.Numbers.{is_done}
use Rattle.answers.proofs.Numbers.{done_is}
use Rattle.record.specs.Calls.{Reading}
use Rattle.record.specs.Form.{loses_chip}
use Rattle.moving.specs.declared.route.Route.{Route}
use Rattle.moving.specs.Moves.{is_known, read_by, form_by, text_by, Whole, whole, stopped, moved_in, moved_all}
use Rattle.moving.specs.Laws.{Counts}
use Rattle.moving.proofs.Routes.{fewer, Read, read_is}
use Rattle.moving.proofs.Sizes.{doubled}

-- the first record of a text that is not empty: whether it is read, whether its chip would be lost, and what those behind it come to
abbrev pub onward : Bool → Bool → ℕ → ℕ → ℕ → Whole → Whole
onward read loses count line column rest = cond read (cond loses (stopped ChipLost (count + 1) 0 0) rest) (stopped BrokenRecord (count + 1) line column)

module _ (route : Route) where
  -- what is read of a text behind so many records
  abbrev pub next : ℕ → List ℕ → Reading
  next count text = read_by route (count + 1) text

  -- whether its chip would be lost
  abbrev pub loses : Reading → Bool
  loses reading = loses_chip (form_by route) reading.content

  -- the records of a text, by our own reading
  abbrev pub steps : ℕ → ℕ → List ℕ → List ℕ → Whole
  steps n count before text = moved_in (read_by route) route n count before text

  -- the text of those before with the next
  abbrev pub grows : ℕ → List ℕ → Reading → List ℕ
  grows count before reading = before ++ text_by route (count + 1) reading.content

  -- a text that is read, behind so many records, is known
  pub next_is : (count : ℕ) (text : List ℕ) → Counts route (count + length text) → (next count text).answer ≡ Done → 1 ≤ length text → Read route (count + 1) text
  next_is count text c d h = read_is route (count + 1) (fewer route (count + 1) (count + length text) (omega arith) c) text d

  -- and the numbers of those behind it can be had
  pub later_counts : (count : ℕ) (text : List ℕ) → Counts route (count + length text) → (r : Read route (count + 1) text)
      → Counts route (count + 1 + length (drop (next count text).taken text))
  later_counts count text c r =
      fewer route _ (count + length text) (omega (arith, r.some, r.inside, length-drop (next count text).taken text)) c

  -- more steps than bytes change nothing
  enough_steps : (m n count : ℕ) (before text : List ℕ) → Counts route (count + length text) → length text ≤ m → length text ≤ n → steps m count before text ≡ steps n count before text
  enough_steps zero zero count before text c h k = refl
  enough_steps zero (suc n) count before text c h k = rw (eq-eqb (length text) 0 (omega arith))
  enough_steps (suc m) zero count before text c h k = rw (eq-eqb (length text) 0 (omega arith))
  enough_steps (suc m) (suc n) count before text c h k =
      by (eqb (length text) 0) refl (enough_steps m n (count + 1) (grows count before (next count text)) (drop (next count text).taken text))
    where
      reading : Reading
      reading = next count text

      left : List ℕ
      left = drop reading.taken text

      rest : ℕ → Whole
      rest i = steps i (count + 1) (grows count before reading) left

      Same : Type 0
      Same = Counts route (count + 1 + length left) → length left ≤ m → length left ≤ n → rest m ≡ rest n

      go : Same → 1 ≤ length text → (t : Bool) → is_done reading.answer ≡ t
          → onward t (loses reading) count reading.line reading.column (rest m) ≡ onward t (loses reading) count reading.line reading.column (rest n)
      go same some true e =
          let r = next_is count text c (done_is _ e) some in
          let l = length-drop reading.taken text in
          ap (onward true (loses reading) count reading.line reading.column)
          (same (later_counts count text c r) (omega (arith, r.some, r.inside)) (omega (arith, r.some, r.inside)))
      go same some false e = refl

      by : (b : Bool) → eqb (length text) 0 ≡ b → Same
          → cond b (whole count before) (onward (is_done reading.answer) (loses reading) count reading.line reading.column (rest m))
          ≡ cond b (whole count before) (onward (is_done reading.answer) (loses reading) count reading.line reading.column (rest n))
      by true e same = refl
      by false e same = let some : length text ≡ 0 → ⊥ = eqb-false (length text) 0 e in go same (omega (arith, some)) (is_done reading.answer) refl

  -- what moving the records of a text comes to, behind so many with their text
  abbrev pub moved_from : ℕ → List ℕ → List ℕ → Whole
  moved_from count before text = steps (length text) count before text

  -- all of them are behind none
  pub from_none : (text : List ℕ) → is_known route ≡ true → moved_from 0 [] text ≡ moved_all route text
  unfolding moved_all
  from_none text k = rw k

  -- a text that is not empty, one step more
  step : (count : ℕ) (before text : List ℕ) → Counts route (count + length text) → 1 ≤ length text → let reading = next count text in
      moved_from count before text
      ≡ onward (is_done reading.answer) (loses reading) count reading.line reading.column
      (steps (length text) (count + 1) (grows count before reading) (drop reading.taken text))
  step count before text c h =
      enough_steps (length text) (suc (length text)) count before text c (omega arith) (omega arith) ∙ rw (ne_eqb (length text) 0 (λ e. omega arith))

  -- one that is not read is the last
  pub step_refused : (count : ℕ) (before text : List ℕ) → Counts route (count + length text) → 1 ≤ length text → (next count text).answer ≡ BrokenRecord
      → moved_from count before text ≡ stopped BrokenRecord (count + 1) (next count text).line (next count text).column
  step_refused count before text c h d = step count before text c h ∙ rw d

  -- and one whose chip would be lost
  pub step_lost : (count : ℕ) (before text : List ℕ) → Counts route (count + length text) → 1 ≤ length text → (next count text).answer ≡ Done
      → loses (next count text) ≡ true → moved_from count before text ≡ stopped ChipLost (count + 1) 0 0
  step_lost count before text c h d e = step count before text c h ∙ rw (d, e)

  -- behind one that is moved stand the others
  pub step_moved : (count : ℕ) (before text : List ℕ) → Counts route (count + length text) → 1 ≤ length text → (next count text).answer ≡ Done
      → loses (next count text) ≡ false
      → moved_from count before text ≡ moved_from (count + 1) (grows count before (next count text)) (drop (next count text).taken text)
  step_moved count before text c h d e =
      let reading = next count text in
      let r = next_is count text c d h in
      let l = length-drop reading.taken text in
      step count before text c h
      ∙ rw (d, e)
      (enough_steps (length text) (length (drop reading.taken text)) (count + 1) (grows count before reading) (drop reading.taken text) (later_counts count text c r)
      (omega (arith, r.some, r.inside)) (omega arith))

-- ---- a text read up to a place

-- what holds before a record of a text is moved, behind so many with their text
pub record Left (route : Route) (text : List ℕ) (at count : ℕ) (before : List ℕ) : Type 0 where
  pub inside : at ≤ length text
  pub few : count ≤ at
  pub double : length before ≤ 2 * at
  pub rest : moved_from route count before (drop at text) ≡ moved_all route text

module _ (route : Route) (text : List ℕ) (counts : Counts route (length text)) where
  -- at the beginning
  pub left_all : is_known route ≡ true → Left route text 0 0 []
  left_all k = record { inside = omega arith; few = omega arith; double = omega arith; rest = from_none route text k }

  -- the numbers that are left can be had
  pub left_counts : (at count : ℕ) (before : List ℕ) → Left route text at count before → Counts route (count + length (drop at text))
  left_counts at count before left = fewer route _ (length text) (omega (arith, left.inside, left.few, length-drop at text)) counts

  -- behind a record that is moved
  pub left_on : (at count : ℕ) (before : List ℕ) → Left route text at count before → 1 ≤ length (drop at text) → let reading = next route count (drop at text) in
      reading.answer ≡ Done → loses route reading ≡ false → Left route text (at + reading.taken) (count + 1) (grows route count before reading)
  left_on at count before left h d e =
      let reading = next route count (drop at text) in
      let c = left_counts at count before left in
      let r = next_is route count (drop at text) c d h in
      let l = length-drop at text in
      let one : Counts route (count + 1) = fewer route (count + 1) _ (omega arith) c in
      record {
        inside = omega (arith, r.inside, left.inside);
        few = omega (arith, r.some, left.few);
        double =
            omega (
              arith,
              length-append before (text_by route (count + 1) reading.content),
              doubled route (count + 1) one reading.content (r.spells, e),
              r.size_is,
              left.double,
            );
        rest =
            ap (moved_from route (count + 1) (grows route count before reading)) (sym (drop-drop reading.taken at text))
            ∙ sym (step_moved route count before (drop at text) c h d e)
            ∙ left.rest;
      }

  -- at the end
  pub left_none : (at count : ℕ) (before : List ℕ) → Left route text at count before → length text ≤ at → moved_all route text ≡ whole count before
  left_none at count before left h =
      let none : length (drop at text) ≡ 0 = omega (arith, length-drop at text) in
      sym left.rest ∙ ap (λ (n : ℕ). steps route n count before (drop at text)) none
