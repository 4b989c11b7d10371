-- What moving promises.
use Rattle.std.specs.Prelude.{true, false, List, [], ◌∷◌, ◌++◌, ◌↔◌, ◌≡◌, ℕ, ◌+◌, ◌*◌, ◌≤◌, ◌<◌, length, take, drop}
use Rattle.answers.specs.declared.Answer.TheVariants.{Done, UnknownSet, NoRoom, BrokenRecord, ChipLost}
use Rattle.ascon.specs.Sets.{is_set}
use Rattle.record.specs.declared.form.Form.TheVariants.{One, Two}
use Rattle.record.specs.declared.form.Record.{Record}
use Rattle.record.specs.Form.{loses_chip}
use Rattle.record.specs.Text as record-text
use Rattle.record.specs.Text.{text_of}
use Rattle.record.specs.Calls.{read_call}
use Rattle.record.specs.Laws as record-laws
use Rattle.record.specs.Laws.{Spellable}
use Rattle.entry.specs.Form.{largest_number, entry_text}
use Rattle.entry.specs.Laws as entry-laws
use Rattle.entry.specs.Laws.{Portable}
use Rattle.moving.specs.declared.route.Route.{Route}
use Rattle.moving.specs.declared.route.Route.TheVariants.{Forward, Back, Import, Export}
use Rattle.moving.specs.Moves.{is_known, read_by, form_by, text_by, move_leaves, refused_move, moved_as, move_call, whole, stopped, moved_all, all_leaves, refused_all, move_all_call}

-- ---- what a route reads

-- the text of the record of this number
abbrev pub source_by : Route → ℕ → Record → List ℕ
source_by Forward number r = text_of One r
source_by Back number r = text_of Two r
source_by (Import set) number r = entry_text number r
source_by Export number r = text_of One r

-- the records that such a text can be of
abbrev pub SpelledBy : Route → Record → Type 0
SpelledBy Forward r = Spellable One r
SpelledBy Back r = Spellable Two r
SpelledBy (Import set) r = Portable set r
SpelledBy Export r = Spellable One r

-- where such a text is wrong: its line and column
abbrev pub WrongBy : Route → ℕ → List ℕ → ℕ → ℕ → Type 0
WrongBy Forward number text line column = record-laws.WrongAt One text line column
WrongBy Back number text line column = record-laws.WrongAt Two text line column
WrongBy (Import set) number text line column = entry-laws.WrongAt set number text line column
WrongBy Export number text line column = record-laws.WrongAt One text line column

-- the numbers of records that the laws speak of: those of 64 bits where they stand in the text, as in entries, and all where they do not. The length of a text bounds the
-- number of its records, and no call is given a text of more than 2^64 - 1 bytes
abbrev pub Counts : Route → ℕ → Type 0
Counts Forward n = Unit {0}
Counts Back n = Unit {0}
Counts (Import set) n = n ≤ largest_number
Counts Export n = n ≤ largest_number

-- the most bytes of a record that was moved
abbrev pub most_by : Route → ℕ
most_by Forward = record-text.most_bytes Two
most_by Back = record-text.most_bytes One
most_by (Import set) = record-text.most_bytes One
most_by Export = entry-laws.most_bytes

-- ---- records in a row

-- records that the route can move: their texts can be of them, and no chip is lost
abbrev pub Movable : Route → Record → Type 0
Movable route r = SpelledBy route r × (loses_chip (form_by route) r ≡ false)

abbrev pub AllMovable : Route → List Record → Type 0
AllMovable route [] = Unit {0}
AllMovable route (r ∷ records) = Movable route r × AllMovable route records

-- texts of records, one straight after another, numbered from one behind `count` on
abbrev pub texts_of : (ℕ → Record → List ℕ) → ℕ → List Record → List ℕ
texts_of text count [] = []
texts_of text count (r ∷ records) = text (count + 1) r ++ texts_of text (count + 1) records

-- the text of records that the route moves, and their text then
abbrev pub sources_of : Route → List Record → List ℕ
sources_of route records = texts_of (source_by route) 0 records

abbrev pub moved_texts : Route → List Record → List ℕ
moved_texts route records = texts_of (text_by route) 0 records

-- a text that was moved: it is the text of records that the route can move, so many, and this is theirs then
pub record RowsMoved (route : Route) (text : List ℕ) (count : ℕ) (moved : List ℕ) : Type 0 where
  pub records : List Record
  pub movable : AllMovable route records
  pub from : text ≡ sources_of route records
  pub gives : moved ≡ moved_texts route records
  pub counted : count ≡ length records

-- a text that is refused at an entry or record: those before it can be moved, and it is wrong at a line and column
pub record FirstBroken (route : Route) (text : List ℕ) (number line column : ℕ) : Type 0 where
  pub records : List Record
  pub movable : AllMovable route records
  pub rest : List ℕ
  pub some : 1 ≤ length rest
  pub from : text ≡ sources_of route records ++ rest
  pub counted : number ≡ length records + 1
  pub wrong : WrongBy route number rest line column

-- ---- there and back

-- the route that leads back from another. None leads back from where `Export` leads for every record, since entries say neither the set nor the rounds: `Published` has which come back
abbrev pub Returns : Route → Route → Type 0
Returns Forward back = back ≡ Back
Returns Back back = back ≡ Forward
Returns (Import set) back = back ≡ Export
Returns Export _ = ⊥

pub record Moves (route : Route) : Type 0 where
  -- ---- one record

  -- the text of a record that the route can move is moved, whatever stands behind it
  pub moved : (number : ℕ) → Counts route number → is_known route ≡ true → (r : Record) (rest out : List ℕ) → Movable route r → length (text_by route number r) ≤ length out
      → move_call route number (source_by route number r ++ rest) out
      ≡ move_leaves (moved_as (length (source_by route number r)) (length (text_by route number r))) (text_by route number r ++ drop (length (text_by route number r)) out)
  -- there and back gives the same bytes
  pub there_and_back : (back : Route) → Returns route back → (number : ℕ) → Counts route number → (text out place : List ℕ) → let there = move_call route number text out in
      there.outcome.answer ≡ Done → there.outcome.taken ≤ length place
      → move_call back number there.out place
      ≡ move_leaves (moved_as there.outcome.written there.outcome.taken) (take there.outcome.taken text ++ drop there.outcome.taken place)
  -- 1 exactly where the route's set is unknown
  pub unknown : (number : ℕ) → Counts route number → (text out : List ℕ) → ((move_call route number text out).outcome.answer ≡ UnknownSet) ↔ (is_known route ≡ false)
  -- 10 with a line and column exactly where the set is known and the text is wrong there
  pub broken : (number : ℕ) → Counts route number → is_known route ≡ true → (text out : List ℕ) (line column : ℕ) → let outcome = (move_call route number text out).outcome in
      ((outcome.answer ≡ BrokenRecord) × (outcome.line ≡ line) × (outcome.column ≡ column)) ↔ WrongBy route number text line column
  -- 11 exactly in going back, where the record is in form and its chip is not 0
  pub chip : (number : ℕ) → Counts route number → (text out : List ℕ) → ((move_call route number text out).outcome.answer ≡ ChipLost)
      ↔ ((route ≡ Back) × ((read_call Two text).answer ≡ Done) × ((read_call Two text).content.chip ≡ 0 → ⊥))
  -- 6 exactly where the record can be moved, and has no room
  pub room : (number : ℕ) → Counts route number → (text out : List ℕ) → let reading = read_by route number text in
      ((move_call route number text out).outcome.answer ≡ NoRoom)
      ↔ ((reading.answer ≡ Done) × (loses_chip (form_by route) reading.content ≡ false) × (length out < length (text_by route number reading.content)))
  -- a refusal takes nothing, writes nothing, and leaves the place as it was
  pub untouched : (number : ℕ) → Counts route number → (text out : List ℕ) → let leaves = move_call route number text out in
      (leaves.outcome.answer ≡ Done → ⊥) → leaves ≡ move_leaves (refused_move leaves.outcome.answer leaves.outcome.line leaves.outcome.column) out
  -- an answer other than 10 has line 0 and column 0
  pub no_place : (number : ℕ) → Counts route number → (text out : List ℕ) → let outcome = (move_call route number text out).outcome in
      (outcome.answer ≡ BrokenRecord → ⊥) → (outcome.line ≡ 0) × (outcome.column ≡ 0)
  -- nothing behind a text that is decided matters
  pub behind : (number : ℕ) → Counts route number → (text more out : List ℕ) → (read_by route number text).early ≡ false
      → move_call route number (text ++ more) out ≡ move_call route number text out
  -- the most bytes of a record are always enough
  pub enough : (number : ℕ) → Counts route number → (text out : List ℕ) → most_by route ≤ length out → (move_call route number text out).outcome.answer ≡ NoRoom → ⊥
  -- ---- all records of a text

  -- an unknown set is refused, whatever the text
  pub all_unknown : (text : List ℕ) → is_known route ≡ false → moved_all route text ≡ stopped UnknownSet 0 0 0
  -- no records, no text
  pub nothing : is_known route ≡ true → moved_all route [] ≡ whole 0 []
  -- the texts of records that the route can move give their new texts, numbered from 1
  pub in_a_row : is_known route ≡ true → (records : List Record) → Counts route (length (sources_of route records)) → AllMovable route records
      → moved_all route (sources_of route records) ≡ whole (length records) (moved_texts route records)
  -- and nothing else gives any
  pub rows : (text : List ℕ) (count : ℕ) (there : List ℕ) → Counts route (length text) → moved_all route text ≡ whole count there → RowsMoved route text count there
  -- 10 with a number, line and column exactly where those before it can be moved and behind them the text is wrong there
  pub all_broken : is_known route ≡ true → (text out : List ℕ) (number line column : ℕ) → Counts route (length text) → let outcome = (move_all_call route text out).outcome in
      ((outcome.answer ≡ BrokenRecord) × (outcome.records ≡ number) × (outcome.line ≡ line) × (outcome.column ≡ column)) ↔ FirstBroken route text number line column
  -- 6 exactly where all can be moved, and have no room
  pub all_room : (text out : List ℕ) → ((move_all_call route text out).outcome.answer ≡ NoRoom)
      ↔ ((count : ℕ) × (there : List ℕ) × (moved_all route text ≡ whole count there) × (length out < length there))
  -- a refusal writes nothing, and leaves the place as it was
  pub all_untouched : (text out : List ℕ) → let leaves = move_all_call route text out in
      (leaves.outcome.answer ≡ Done → ⊥)
      → leaves ≡ all_leaves (refused_all leaves.outcome.answer leaves.outcome.records leaves.outcome.line leaves.outcome.column) out
  -- behind records that the route can move, one whose chip would be lost is refused with its number
  pub first_chip : is_known route ≡ true → (records : List Record) (text : List ℕ) → let reading = read_by route (length records + 1) text in
      Counts route (length (sources_of route records ++ text)) → AllMovable route records → 1 ≤ length text → reading.answer ≡ Done → loses_chip (form_by route) reading.content ≡ true
      → moved_all route (sources_of route records ++ text) ≡ stopped ChipLost (length records + 1) 0 0
  -- there and back gives the same text
  pub all_back : (back : Route) → Returns route back → (text : List ℕ) (count : ℕ) (there : List ℕ) → Counts route (length text) → Counts back (length there)
      → moved_all route text ≡ whole count there → moved_all back there ≡ whole count text
  -- a place twice as long as the text is always enough
  pub all_enough : (text out : List ℕ) → Counts route (length text) → 2 * length text ≤ length out → (move_all_call route text out).outcome.answer ≡ NoRoom → ⊥

-- ---- published test files

-- records that entries of a set can stand for
abbrev pub AllPortable : ℕ → List Record → Type 0
AllPortable set [] = Unit {0}
AllPortable set (r ∷ records) = Portable set r × AllPortable set records

-- records of a known set with right round counts are written as entries, and read back with the set they are the same text
pub record Published (set : ℕ) : Type 0 where
  pub written : (records : List Record) → length (sources_of Export records) ≤ largest_number → AllPortable set records
      → moved_all Export (sources_of Export records) ≡ whole (length records) (sources_of (Import set) records)
  pub read_back : is_set set ≡ true → (records : List Record) → length (sources_of (Import set) records) ≤ largest_number → AllPortable set records
      → moved_all (Import set) (sources_of (Import set) records) ≡ whole (length records) (sources_of Export records)
  -- in one: what such records were written as is read back as their text
  pub there_and_back : is_set set ≡ true → (records : List Record) (count : ℕ) (there : List ℕ) → let text = sources_of Export records in
      length text ≤ largest_number → length there ≤ largest_number → AllPortable set records → moved_all Export text ≡ whole count there
      → moved_all (Import set) there ≡ whole count text
