-- What moving all records of a text promises.
use mathlib.Core.Path.{◌≡◌, refl, sym, ap, ap₂, ◌∙◌, subst}
use mathlib.Core.Bool.{Bool, true, false, cond}
use mathlib.Core.List.{List, [], ◌∷◌, ◌++◌, append-nil, append_assoc}
use mathlib.Core.Logic.{◌↔◌}
use Prim.Native.Nat.{ℕ, suc, ◌+◌, ◌*◌, ◌≤◌, ◌<◌}
use native.Mathlib.Omega.{arith}
use lib.ListN.{length, drop, length-append}
use lib.Seq.{drop-append_seam}
use lib.Dec.{leb}
use borrow.Author.Tests.{le-leb, lt-leb, leb-false}
use Rattle.answers.specs.declared.Answer.TheVariants.{Done, UnknownSet, NoRoom, BrokenRecord, ChipLost}
use Rattle.answers.specs.Numbers.{number_of}
use Rattle.record.specs.declared.form.Record.{Record}
use Rattle.record.specs.Calls.{Reading}
use Rattle.record.specs.Form.{loses_chip}
use Rattle.record.specs.Calls.{read_as}
use Rattle.moving.specs.Moves.{MovingAll}
use Rattle.moving.specs.declared.route.Route.{Route}
use Rattle.moving.specs.declared.route.Route.TheVariants.{Forward, Back, Import, Export}
use Rattle.moving.specs.Moves.{is_known, read_by, form_by, text_by, Whole, whole, stopped, is_whole, moved_all, all_leaves, refused_all, summary, all_by, move_all_call}
use Rattle.moving.specs.Laws.{source_by, WrongBy, Counts, AllMovable, texts_of, sources_of, moved_texts, RowsMoved, FirstBroken, Returns}
use Rattle.moving.proofs.Routes as routes
use Rattle.moving.proofs.Routes.{fewer, text_read, comes_back}
use Rattle.moving.proofs.Sizes.{some_source, doubled}
use Rattle.moving.proofs.Steps.{next, loses, grows, moved_from, from_none, step_refused, step_lost, step_moved}
use Rattle.moving.proofs.Rows.{row_of, stop_of}
use Rattle.moving.proofs.Places.{Stops, all_stops, whole_route}

-- an unknown set is refused, whatever the text
pub all_unknown : (route : Route) (text : List ℕ) → is_known route ≡ false → moved_all route text ≡ stopped UnknownSet 0 0 0
unfolding moved_all
all_unknown route text k = rw k

-- no records, no text
pub nothing : (route : Route) → is_known route ≡ true → moved_all route [] ≡ whole 0 []
unfolding moved_all
nothing route k = rw k

-- records have no fewer bytes than they are
many_bytes : (route : Route) (count : ℕ) (records : List Record) → length records ≤ length (texts_of (source_by route) count records)
many_bytes route count [] = omega arith
many_bytes route count (r ∷ records) =
    omega (
      arith,
      length-append (source_by route (count + 1) r) (texts_of (source_by route) (count + 1) records),
      some_source route (count + 1) r,
      many_bytes route (count + 1) records,
    )

module _ (route : Route) (known : is_known route ≡ true) where
  -- behind records that the route can move stands what is left
  in_row : (records : List Record) (text : List ℕ) (count : ℕ) (before : List ℕ) → Counts route (count + length (texts_of (source_by route) count records ++ text)) → AllMovable route records
      → moved_from route count before (texts_of (source_by route) count records ++ text)
      ≡ moved_from route (count + length records) (before ++ texts_of (text_by route) count records) text
  unfolding read_as
  in_row [] text count before c m =
      let none : count ≡ count + 0 = omega arith in
      λ j. moved_from route (none j) (sym (append-nil before) j) text
  in_row (r ∷ records) text count before c ((s, e), rest) =
      let x : List ℕ = source_by route (count + 1) r in
      let more : List ℕ = texts_of (source_by route) (count + 1) records ++ text in
      let joined : (x ++ texts_of (source_by route) (count + 1) records) ++ text ≡ x ++ more = append_assoc x (texts_of (source_by route) (count + 1) records) text in
      let all : Counts route (count + length (x ++ more)) = fewer route _ _ (omega (arith, ap length joined)) c in
      let some = some_source route (count + 1) r in
      let one : Counts route (count + 1) = fewer route (count + 1) _ (omega (arith, some, length-append x more)) all in
      let reading = text_read route (count + 1) one known r more s in
      let kept : loses route (next route count (x ++ more)) ≡ false = ap (λ (q : Reading). loses route q) reading ∙ e in
      let sum : count + 1 + length records ≡ count + suc (length records) = omega arith in
      ap (moved_from route count before) joined
      ∙ step_moved route count before (x ++ more) all (omega (arith, some, length-append x more)) (ap (λ (q : Reading). q.answer) reading) kept
      ∙ ap (λ (q : Reading). moved_from route (count + 1) (grows route count before q) (drop q.taken (x ++ more))) reading
      ∙ ap (moved_from route (count + 1) (before ++ text_by route (count + 1) r)) (drop-append_seam x more)
      ∙ in_row records text (count + 1) (before ++ text_by route (count + 1) r) (fewer route _ _ (omega (arith, some, length-append x more)) all) rest
      ∙ (λ j. moved_from route (sum j) (append_assoc before (text_by route (count + 1) r) (texts_of (text_by route) (count + 1) records) j) text)

  -- so it does behind all of them
  all_rows : (records : List Record) (text : List ℕ) → Counts route (length (sources_of route records ++ text)) → AllMovable route records
      → moved_all route (sources_of route records ++ text) ≡ moved_from route (length records) (moved_texts route records) text
  all_rows records text c m =
      let sum : 0 + length records ≡ length records = omega arith in
      sym (from_none route (sources_of route records ++ text) known)
      ∙ in_row records text 0 [] (fewer route _ _ (omega arith) c) m
      ∙ ap (λ (n : ℕ). moved_from route n (moved_texts route records) text) sum

  -- their texts give their new texts
  pub in_a_row : (records : List Record) → Counts route (length (sources_of route records)) → AllMovable route records
      → moved_all route (sources_of route records) ≡ whole (length records) (moved_texts route records)
  in_a_row records c m =
      let none = append-nil (sources_of route records) in
      ap (moved_all route) (sym none) ∙ all_rows records [] (fewer route _ _ (omega (arith, ap length none)) c) m

  -- the number of the next can be had, behind so many records
  next_counts : (records : List Record) (text : List ℕ) → Counts route (length (sources_of route records ++ text)) → AllMovable route records → 1 ≤ length text
      → Counts route (length records + length text)
  next_counts records text c m h = fewer route _ _ (omega (arith, length-append (sources_of route records) text, many_bytes route 0 records)) c

  -- behind them, a text that is wrong is refused with its number
  first_broken : (records : List Record) (text : List ℕ) (line column : ℕ) → Counts route (length (sources_of route records ++ text)) → AllMovable route records
      → 1 ≤ length text → WrongBy route (length records + 1) text line column
      → moved_all route (sources_of route records ++ text) ≡ stopped BrokenRecord (length records + 1) line column
  first_broken records text line column c m h w =
      let later = next_counts records text c m h in
      let one : Counts route (length records + 1) = fewer route _ _ (omega arith) later in
      let r = (routes.refused route (length records + 1) one known text line column).1 w in
      all_rows records text c m
      ∙ step_refused route (length records) (moved_texts route records) text later h r.0
      ∙ (λ j. stopped BrokenRecord (length records + 1) (r.1 j) (r.2 j))

  -- and so is one whose chip would be lost
  pub first_chip : (records : List Record) (text : List ℕ) → let reading = read_by route (length records + 1) text in
      Counts route (length (sources_of route records ++ text)) → AllMovable route records → 1 ≤ length text → reading.answer ≡ Done
      → loses_chip (form_by route) reading.content ≡ true
      → moved_all route (sources_of route records ++ text) ≡ stopped ChipLost (length records + 1) 0 0
  first_chip records text c m h d e =
      all_rows records text c m ∙ step_lost route (length records) (moved_texts route records) text (next_counts records text c m h) h d e

-- nothing else gives any
pub rows : (route : Route) (text : List ℕ) (count : ℕ) (there : List ℕ) → Counts route (length text) → moved_all route text ≡ whole count there → RowsMoved route text count there
rows route text count there c e =
    let k = whole_route route text (ap is_whole e) in
    let r = row_of route 0 [] text count there (fewer route _ _ (omega arith) c) (from_none route text k ∙ e) in
    record { records = r.records; movable = r.movable; from = r.from; gives = r.gives; counted = omega (arith, r.sum) }

-- ---- refusals

-- 10 exactly where those before it can be moved and it is wrong
pub all_broken : (route : Route) → is_known route ≡ true → (text out : List ℕ) (number line column : ℕ) → Counts route (length text)
    → let outcome = (move_all_call route text out).outcome in
    ((outcome.answer ≡ BrokenRecord) × (outcome.records ≡ number) × (outcome.line ≡ line) × (outcome.column ≡ column)) ↔ FirstBroken route text number line column
unfolding move_all_call refused_all
all_broken route known text out number line column c = (
  λ (a, n, l, k). go (moved_all route text) refl a n l k,
  λ f.
      let d : Counts route (length (sources_of route f.records ++ f.rest)) = fewer route _ (length text) (omega (arith, ap length f.from)) c in
      let w = subst (λ (m : ℕ). WrongBy route m f.rest line column) f.counted f.wrong in
      let is = ap (moved_all route) f.from ∙ first_broken route known f.records f.rest line column d f.movable f.some w in
      rw is (refl, sym f.counted, refl, refl),
)
  where
    named : Whole → MovingAll
    named w = (all_by w out).outcome

    fits : (count : ℕ) (there : List ℕ) → (named (whole count there)).answer ≡ BrokenRecord → ⊥
    fits count there a = by (leb (length there) (length out)) a
      where
        by : (b : Bool) → (cond b (summary (whole count there)) (refused_all NoRoom 0 0 0)).answer ≡ BrokenRecord → ⊥
        by true e = let z : ◌≡◌ {A = ℕ} 0 10 = ap number_of e in omega arith
        by false e = let z : ◌≡◌ {A = ℕ} 6 10 = ap number_of e in omega arith

    go : (w : Whole) → moved_all route text ≡ w → (named w).answer ≡ BrokenRecord → (named w).records ≡ number → (named w).line ≡ line → (named w).column ≡ column
        → FirstBroken route text number line column
    go (whole count there) e a n l k = absurd (fits count there a)
    go (stopped answer m i j) e a n l k =
        let stop = stop_of route known 0 [] text answer m i j (fewer route _ _ (omega arith) c) (from_none route text known ∙ e) in
        let counted : number ≡ length stop.records + 1 = omega (arith, stop.counted, n) in
        let same : 0 + length stop.records + 1 ≡ number = omega arith in
        let bytes = ap length stop.from ∙ length-append (sources_of route stop.records) stop.rest in
        let one : Counts route number = fewer route _ _ (omega (arith, many_bytes route 0 stop.records, stop.some)) c in
        let told = subst (λ (x : ℕ). let q = read_by route x stop.rest in (q.answer ≡ BrokenRecord) × (q.line ≡ i) × (q.column ≡ j)) same (stop.told a) in
        record {
          records = stop.records;
          movable = stop.movable;
          rest = stop.rest;
          some = stop.some;
          from = stop.from;
          counted = counted;
          wrong = (routes.refused route number one known stop.rest line column).0 (told.0, told.1 ∙ l, told.2 ∙ k);
        }

-- 6 exactly where all can be moved, and have no room
pub all_room : (route : Route) (text out : List ℕ) → ((move_all_call route text out).outcome.answer ≡ NoRoom)
    ↔ ((count : ℕ) × (there : List ℕ) × (moved_all route text ≡ whole count there) × (length out < length there))
unfolding move_all_call refused_all
all_room route text out = (
  λ a. go (moved_all route text) refl (all_stops route text) a,
  λ (count, there, e, h). rw (e, lt-leb (length there) (length out) h),
)
  where
    go : (w : Whole) → moved_all route text ≡ w → Stops w → (all_by w out).outcome.answer ≡ NoRoom
        → (count : ℕ) × (there : List ℕ) × (moved_all route text ≡ whole count there) × (length out < length there)
    go (whole count there) e s a = by (leb (length there) (length out)) refl a
      where
        by : (b : Bool) → leb (length there) (length out) ≡ b → (cond b (summary (whole count there)) (refused_all NoRoom 0 0 0)).answer ≡ NoRoom
            → (count : ℕ) × (there : List ℕ) × (moved_all route text ≡ whole count there) × (length out < length there)
        by true f a = absurd (let z : ◌≡◌ {A = ℕ} 0 6 = ap number_of a in omega arith)
        by false f a = (count, there, e, leb-false (length there) (length out) f)
    go (stopped answer number line column) e s a = absurd (s.other (ap number_of a))

-- a refusal writes nothing, and leaves the place as it was
pub all_untouched : (route : Route) (text out : List ℕ) → let leaves = move_all_call route text out in
    (leaves.outcome.answer ≡ Done → ⊥)
    → leaves ≡ all_leaves (refused_all leaves.outcome.answer leaves.outcome.records leaves.outcome.line leaves.outcome.column) out
unfolding move_all_call refused_all
all_untouched route text out = go (moved_all route text)
  where
    go : (w : Whole) → let leaves = all_by w out in
        (leaves.outcome.answer ≡ Done → ⊥)
        → leaves ≡ all_leaves (refused_all leaves.outcome.answer leaves.outcome.records leaves.outcome.line leaves.outcome.column) out
    go (whole count there) = by (leb (length there) (length out))
      where
        by : (b : Bool) → let leaves = all_leaves (cond b (summary (whole count there)) (refused_all NoRoom 0 0 0)) (cond b (there ++ drop (length there) out) out) in
            (leaves.outcome.answer ≡ Done → ⊥)
            → leaves ≡ all_leaves (refused_all leaves.outcome.answer leaves.outcome.records leaves.outcome.line leaves.outcome.column) out
        by true n = absurd (n refl)
        by false n = refl
    go (stopped answer number line column) = λ n. refl

-- ---- there and back

-- the way back is a route
back_route : (route back : Route) → Returns route back → is_known back ≡ true
back_route Forward back e = ap is_known e
back_route Back back e = ap is_known e
back_route (Import set) back e = ap is_known e
back_route Export back e = absurd e

module _ (route back : Route) (returns : Returns route back) where
  -- records that were moved can all come back, from their new texts to their old
  pub record AllBack (count : ℕ) (records : List Record) : Type 0 where
    pub movable : AllMovable back records
    pub source : texts_of (source_by back) count records ≡ texts_of (text_by route) count records
    pub again : texts_of (text_by back) count records ≡ texts_of (source_by route) count records

  all_come : (count : ℕ) (records : List Record) → Counts route (count + length records) → AllMovable route records → AllBack count records
  all_come count [] c m = record { movable = tt; source = refl; again = refl }
  all_come count (r ∷ records) c (m, rest) =
      let one : Counts route (count + 1) = fewer route _ _ (omega arith) c in
      let b = comes_back route back returns (count + 1) one r m in
      let more = all_come (count + 1) records (fewer route _ _ (omega arith) c) rest in
      record {
        movable = (b.movable, more.movable);
        source = ap₂ (λ (x y : List ℕ). x ++ y) b.source more.source;
        again = ap₂ (λ (x y : List ℕ). x ++ y) b.again more.again;
      }

  -- there and back gives the same text
  pub all_back : (text : List ℕ) (count : ℕ) (there : List ℕ) → Counts route (length text) → Counts back (length there) → moved_all route text ≡ whole count there
      → moved_all back there ≡ whole count text
  all_back text count there c d e =
      let r = rows route text count there c e in
      let b = all_come 0 r.records (fewer route _ _ (omega (arith, many_bytes route 0 r.records, ap length r.from)) c) r.movable in
      let is : there ≡ sources_of back r.records = r.gives ∙ sym b.source in
      ap (moved_all back) is
      ∙ in_a_row back (back_route route back returns) r.records (fewer back _ _ (omega (arith, ap length is)) d) b.movable
      ∙ (λ j. whole (sym r.counted j) ((b.again ∙ sym r.from) j))

-- ---- room

-- the new texts are at most twice as long
all_doubled : (route : Route) (count : ℕ) (records : List Record) → Counts route (count + length records) → AllMovable route records
    → length (texts_of (text_by route) count records) ≤ 2 * length (texts_of (source_by route) count records)
all_doubled route count [] c m = omega arith
all_doubled route count (r ∷ records) c (m, rest) =
    omega (
      arith,
      length-append (text_by route (count + 1) r) (texts_of (text_by route) (count + 1) records),
      length-append (source_by route (count + 1) r) (texts_of (source_by route) (count + 1) records),
      doubled route (count + 1) (fewer route _ _ (omega arith) c) r m,
      all_doubled route (count + 1) records (fewer route _ _ (omega arith) c) rest,
    )

-- twice the room of the text is enough
pub all_enough : (route : Route) (text out : List ℕ) → Counts route (length text) → 2 * length text ≤ length out → (move_all_call route text out).outcome.answer ≡ NoRoom → ⊥
unfolding move_all_call refused_all
all_enough route text out c h = go (moved_all route text) refl (all_stops route text)
  where
    go : (w : Whole) → moved_all route text ≡ w → Stops w → (all_by w out).outcome.answer ≡ NoRoom → ⊥
    go (whole count there) e s a =
        let r = rows route text count there c e in
        let double = all_doubled route 0 r.records (fewer route _ _ (omega (arith, many_bytes route 0 r.records, ap length r.from)) c) r.movable in
        let fits : length there ≤ length out = omega (arith, ap length r.gives, ap length r.from, double) in
        let done : Done ≡ NoRoom = rw (le-leb (length there) (length out) fits) at a in
        omega (arith, ap number_of done)
    go (stopped answer number line column) e s a = s.other (ap number_of a)
