-- A text whose records were all moved is the text of records that the route can move, one straight after another.
use mathlib.Core.Path.{◌≡◌, refl, sym, ap, ap₂, ◌∙◌, subst}
use mathlib.Core.Bool.{Bool, true, false, cond, true≢false, false≢true}
use mathlib.Core.Logic.{⊎_elim}
use mathlib.Core.List.{List, [], ◌∷◌, ◌++◌, append-nil, append_assoc}
use Prim.Native.Nat.{ℕ, zero, suc, ◌+◌, ◌≤◌}
use native.Mathlib.Omega.{arith}
use lib.Dec.{eqb}
use lib.ListN.{length, drop, length-drop, length-append, take-append-drop}
use borrow.Author.Tests.{eqb-true, eqb-false}
use Rattle.answers.specs.declared.Answer.{Answer}
use Rattle.answers.specs.declared.Answer.TheVariants.{BrokenRecord}
use Rattle.answers.specs.Numbers.{number_of, is_done}
use Rattle.answers.proofs.Numbers.{done_is}
use Rattle.record.specs.declared.form.Record.{Record}
use Rattle.record.specs.Calls.{Reading}
use Rattle.record.specs.Calls.{refused_at, read_as}
use Rattle.moving.specs.declared.route.Route.{Route}
use Rattle.moving.specs.Moves.{is_known, read_by, text_by, Whole, whole, stopped, text_in, is_whole, refused_all, summary}
use Rattle.moving.specs.Laws.{source_by, Counts, AllMovable, texts_of}
use Rattle.moving.proofs.Routes.{fewer, answered, Read}
use Rattle.moving.proofs.Steps.{onward, next, loses, steps, grows, next_is, later_counts, moved_from}

-- a text of such records, behind so many with their text, and what they are then
pub record Row (route : Route) (count : ℕ) (before text : List ℕ) (number : ℕ) (there : List ℕ) : Type 0 where
  pub records : List Record
  pub movable : AllMovable route records
  pub from : text ≡ texts_of (source_by route) count records
  pub gives : there ≡ before ++ texts_of (text_by route) count records
  pub sum : number ≡ count + length records

-- how many they are
abbrev number_in : Whole → ℕ
number_in w = (summary w).records

-- no records
no_row : (route : Route) (count : ℕ) (before text : List ℕ) (number : ℕ) (there : List ℕ) → length text ≡ 0 → whole count before ≡ whole number there
    → Row route count before text number there
no_row route count before [] number there h e =
    record {
      records = [];
      movable = tt;
      from = refl;
      gives = sym (ap text_in e) ∙ sym (append-nil before);
      sum = omega (arith, ap number_in e);
    }
no_row route count before (b ∷ text) number there h e = absurd (omega arith)

module _ (route : Route) where
  -- one record more before them
  one_more : (count : ℕ) (before text : List ℕ) (number : ℕ) (there : List ℕ) → let reading = next route count text in
      Read route (count + 1) text → loses route reading ≡ false
      → Row route (count + 1) (grows route count before reading) (drop reading.taken text) number there → Row route count before text number there
  one_more count before text number there r e row =
      let reading = next route count text in
      record {
        records = reading.content ∷ row.records;
        movable = ((r.spells, e), row.movable);
        from = sym (take-append-drop reading.taken text) ∙ ap₂ (λ (x y : List ℕ). x ++ y) r.there row.from;
        gives = row.gives ∙ append_assoc before (text_by route (count + 1) reading.content) (texts_of (text_by route) (count + 1) row.records);
        sum = omega (arith, row.sum);
      }

  -- a text whose records were all moved is such a row, in so many steps
  row_in : (n count : ℕ) (before text : List ℕ) (number : ℕ) (there : List ℕ) → Counts route (count + length text) → length text ≤ n
      → steps route n count before text ≡ whole number there → Row route count before text number there
  row_in zero count before text number there c h e = no_row route count before text number there (omega arith) e
  row_in (suc n) count before text number there c h e =
      go (eqb (length text) 0) refl (is_done (next route count text).answer) refl (loses route (next route count text)) refl e
      (row_in n (count + 1) (grows route count before (next route count text)) (drop (next route count text).taken text) number there)
    where
      reading : Reading
      reading = next route count text

      left : List ℕ
      left = drop reading.taken text

      rest : Whole
      rest = steps route n (count + 1) (grows route count before reading) left

      go : (a : Bool) → eqb (length text) 0 ≡ a → (b : Bool) → is_done reading.answer ≡ b → (l : Bool) → loses route reading ≡ l
          → cond a (whole count before) (onward b l count reading.line reading.column rest) ≡ whole number there
          → (Counts route (count + 1 + length left) → length left ≤ n → rest ≡ whole number there → Row route (count + 1) (grows route count before reading) left number there)
          → Row route count before text number there
      go true f b g l k e more = no_row route count before text number there (eqb-true (length text) 0 f) e
      go false f false g l k e more = absurd (false≢true (ap is_whole e))
      go false f true g true k e more = absurd (false≢true (ap is_whole e))
      go false f true g false k e more =
          let some : length text ≡ 0 → ⊥ = eqb-false (length text) 0 f in
          let r = next_is route count text c (done_is _ g) (omega (arith, some)) in
          let l = length-drop reading.taken text in
          one_more count before text number there r k (more (later_counts route count text c r) (omega (arith, r.some, r.inside)) e)

  -- and in as many as it has bytes
  pub row_of : (count : ℕ) (before text : List ℕ) (number : ℕ) (there : List ℕ) → Counts route (count + length text) → moved_from route count before text ≡ whole number there
      → Row route count before text number there
  row_of count before text number there c e = row_in (length text) count before text number there c (omega arith) e

  -- the text before them stays
  pub grown : (count : ℕ) (before text : List ℕ) (all : Whole) → Counts route (count + length text) → moved_from route count before text ≡ all → is_whole all ≡ true
      → length before ≤ length (text_in all)
  grown count before text (whole number there) c e w =
      let r = row_of count before text number there c e in
      omega (arith, ap length r.gives, length-append before (texts_of (text_by route) count r.records))
  grown count before text (stopped answer number line column) c e w = absurd (false≢true w)

-- ---- a text of which one is refused

-- records that the route can move, behind so many, and then a text that is not empty; where it is 10 that is refused, by what is read of it
pub record StopRow (route : Route) (count : ℕ) (text : List ℕ) (answer : Answer) (number line column : ℕ) : Type 0 where
  pub records : List Record
  pub movable : AllMovable route records
  pub rest : List ℕ
  pub some : 1 ≤ length rest
  pub from : text ≡ texts_of (source_by route) count records ++ rest
  pub counted : number ≡ count + length records + 1
  pub told : answer ≡ BrokenRecord → let reading = read_by route (count + length records + 1) rest in
      (reading.answer ≡ BrokenRecord) × (reading.line ≡ line) × (reading.column ≡ column)

module _ (route : Route) (known : is_known route ≡ true) where
  -- what is not read is 10
  not_read : (number : ℕ) → Counts route number → (text : List ℕ) → is_done (read_by route number text).answer ≡ false → (read_by route number text).answer ≡ BrokenRecord
  unfolding read_as refused_at
  not_read number c text n =
      ⊎_elim (λ e. absurd (true≢false (sym (ap (λ (q : Reading). is_done q.answer) e) ∙ n))) (λ e. ap (λ (q : Reading). q.answer) e) (answered route number c known text)

  -- the first is refused
  no_more : (count : ℕ) (text : List ℕ) (answer : Answer) (number line column : ℕ) → 1 ≤ length text → number ≡ count + 1
      → (answer ≡ BrokenRecord → let reading = next route count text in (reading.answer ≡ BrokenRecord) × (reading.line ≡ line) × (reading.column ≡ column))
      → StopRow route count text answer number line column
  no_more count text answer number line column h n t =
      let same : count + 1 ≡ count + 0 + 1 = omega arith in
      record {
        records = [];
        movable = tt;
        rest = text;
        some = h;
        from = refl;
        counted = omega arith;
        told = λ a. subst (λ (m : ℕ). let reading = read_by route m text in (reading.answer ≡ BrokenRecord) × (reading.line ≡ line) × (reading.column ≡ column)) same (t a);
      }

  -- one record more before it
  one_before : (count : ℕ) (text : List ℕ) (answer : Answer) (number line column : ℕ) → let reading = next route count text in
      Read route (count + 1) text → loses route reading ≡ false → StopRow route (count + 1) (drop reading.taken text) answer number line column
      → StopRow route count text answer number line column
  one_before count text answer number line column r e row =
      let reading = next route count text in
      let x : List ℕ = source_by route (count + 1) reading.content in
      let same : count + 1 + length row.records + 1 ≡ count + length (reading.content ∷ row.records) + 1 = omega arith in
      record {
        records = reading.content ∷ row.records;
        movable = ((r.spells, e), row.movable);
        rest = row.rest;
        some = row.some;
        from =
            sym (take-append-drop reading.taken text)
            ∙ ap₂ (λ (y z : List ℕ). y ++ z) r.there row.from
            ∙ sym (append_assoc x (texts_of (source_by route) (count + 1) row.records) row.rest);
        counted = omega (arith, row.counted);
        told = λ a.
            subst (λ (m : ℕ). let reading = read_by route m row.rest in (reading.answer ≡ BrokenRecord) × (reading.line ≡ line) × (reading.column ≡ column)) same (row.told a);
      }

  -- a text of which one is refused is such a row, in so many steps
  stop_in : (n count : ℕ) (before text : List ℕ) (answer : Answer) (number line column : ℕ) → Counts route (count + length text) → length text ≤ n
      → steps route n count before text ≡ stopped answer number line column → StopRow route count text answer number line column
  unfolding refused_all
  stop_in zero count before text answer number line column c h e = absurd (true≢false (ap is_whole e))
  stop_in (suc n) count before text answer number line column c h e =
      go (eqb (length text) 0) refl (is_done (next route count text).answer) refl (loses route (next route count text)) refl e
      (stop_in n (count + 1) (grows route count before (next route count text)) (drop (next route count text).taken text) answer number line column)
    where
      reading : Reading
      reading = next route count text

      left : List ℕ
      left = drop reading.taken text

      rest : Whole
      rest = steps route n (count + 1) (grows route count before reading) left

      go : (a : Bool) → eqb (length text) 0 ≡ a → (b : Bool) → is_done reading.answer ≡ b → (l : Bool) → loses route reading ≡ l
          → cond a (whole count before) (onward b l count reading.line reading.column rest) ≡ stopped answer number line column
          → (Counts route (count + 1 + length left) → length left ≤ n → rest ≡ stopped answer number line column → StopRow route (count + 1) left answer number line column)
          → StopRow route count text answer number line column
      go true f b g l k e more = absurd (true≢false (ap is_whole e))
      go false f false g l k e more =
          let some : length text ≡ 0 → ⊥ = eqb-false (length text) 0 f in
          let one : Counts route (count + 1) = fewer route _ _ (omega (arith, some)) c in
          no_more count text answer number line column (omega (arith, some)) (sym (ap (λ (w : Whole). (summary w).records) e))
          (λ a. (not_read (count + 1) one text g, ap (λ (w : Whole). (summary w).line) e, ap (λ (w : Whole). (summary w).column) e))
      go false f true g true k e more =
          let some : length text ≡ 0 → ⊥ = eqb-false (length text) 0 f in
          no_more count text answer number line column (omega (arith, some)) (sym (ap (λ (w : Whole). (summary w).records) e))
          (λ a. absurd (let z : ◌≡◌ {A = ℕ} 11 10 = ap number_of (ap (λ (w : Whole). (summary w).answer) e ∙ a) in omega arith))
      go false f true g false k e more =
          let some : length text ≡ 0 → ⊥ = eqb-false (length text) 0 f in
          let r = next_is route count text c (done_is _ g) (omega (arith, some)) in
          let l = length-drop reading.taken text in
          one_before count text answer number line column r k (more (later_counts route count text c r) (omega (arith, r.some, r.inside)) e)

  -- and in as many as it has bytes
  pub stop_of : (count : ℕ) (before text : List ℕ) (answer : Answer) (number line column : ℕ) → Counts route (count + length text)
      → moved_from route count before text ≡ stopped answer number line column → StopRow route count text answer number line column
  stop_of count before text answer number line column c e = stop_in (length text) count before text answer number line column c (omega arith) e
