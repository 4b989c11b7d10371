-- The table of an entry: the kind of each line fits, and a first line tells its call, so that the reader's law holds of it.
use mathlib.Core.Path.{◌≡◌, refl, sym, ap, ◌∙◌}
use mathlib.Core.Bool.{Bool, true, false, cond}
use mathlib.Core.List.{List, [], ◌++◌}
use mathlib.Core.Logic.{inl, inr}
use Prim.Native.Nat.{ℕ, ◌*◌, ◌≤◌}
use native.Mathlib.Omega.{arith}
use lib.Dec.{eqb}
use lib.ListN.{length, get_or}
use borrow.Author.Tests.{leb-true, le-leb}
use Rattle.ascon.specs.Sets.{row_of}
use Rattle.sets.proofs.Rows.{row_sizes}
use Rattle.digits.specs.declared.hex.Case.TheVariants.{Lower}
use Rattle.digits.specs.Ascii.{ascii}
use Rattle.digits.specs.Room.{line_of}
use Rattle.digits.proofs.Spelling.{and_both}
use Rattle.lines.specs.declared.kinds.Value.TheVariants.{Fixed, Number, Bytes}
use Rattle.lines.specs.Steps.{Found}
use Rattle.lines.specs.Right.{name_of, Right, Lines}
use Rattle.lines.specs.Steps.{read_of, either_of}
use Rattle.lines.specs.Laws.{fits, plain, Fit, FoundIn, Either, OneFeed}
use Rattle.lines.proofs.Rows.{Rows}
use Rattle.lines.proofs.Laws.{reads_lines, some_line}
use Rattle.lines.proofs.Names.{named_is, named_fit}
use Rattle.lines.proofs.FoundLaws.{Telling, kind_telling, either_telling, one_found}
use Rattle.record.specs.declared.field.Field.{Field}
use Rattle.record.specs.Form.{is_field, allows}
use Rattle.chip_log.specs.declared.form.Call.{Call}
use Rattle.chip_log.specs.declared.form.Call.TheVariants.{Start1, Start2, Ad, Text, Finish}
use Rattle.chip_log.specs.declared.form.Entry.{Entry}
use Rattle.chip_log.specs.Form.{word_of, data_kind, name, value_kind, kind_at, rank_of, call_kind, blank}
use Rattle.chip_log.specs.Calls.{read_call, read_line, read_at, given}

-- ---- right lines

-- a first line of a start
abbrev StartLine : List ℕ → ℕ → Type 0
StartLine = Either (Right (call_kind Start1)) (Right (call_kind Start2))

-- of a start or of associated data
abbrev AdLine : List ℕ → ℕ → Type 0
AdLine = Either StartLine (Right (call_kind Ad))

-- of a start or of any piece
abbrev TextLine : List ℕ → ℕ → Type 0
TextLine = Either AdLine (Right (call_kind Text))

-- of any call
abbrev pub FirstLine : List ℕ → ℕ → Type 0
FirstLine = Either TextLine (Right (call_kind Finish))

-- a line that is the first or not, where the first told this call
abbrev pub right_line : Bool → Call → ℕ → List ℕ → ℕ → Type 0
right_line true call line = FirstLine
right_line false call line = Right (kind_at call line)

-- a line, behind the lines that gave an entry
abbrev pub right_at : ℕ → Entry → List ℕ → ℕ → Type 0
right_at line e = right_line (eqb line 1) e.call line

-- the rows of an entry
abbrev pub EntryRows : ℕ → List ℕ → Entry → Type 0
EntryRows = Rows right_at given blank

-- the line of a call is a first line
pub call_first : (call : Call) (line : List ℕ) (says : ℕ) → Right (call_kind call) line says → FirstLine line says
call_first Start1 line says r = inl (inl (inl (inl r)))
call_first Start2 line says r = inl (inl (inl (inr r)))
call_first Ad line says r = inl (inl (inr r))
call_first Text line says r = inl (inr r)
call_first Finish line says r = inr r

-- and a first line is that of some call
pub first_call : (line : List ℕ) (says : ℕ) → FirstLine line says → (call : Call) × Right (call_kind call) line says
first_call line says (inl (inl (inl (inl r)))) = (Start1, r)
first_call line says (inl (inl (inl (inr r)))) = (Start2, r)
first_call line says (inl (inl (inr r))) = (Ad, r)
first_call line says (inl (inr r)) = (Text, r)
first_call line says (inr r) = (Finish, r)

-- ---- names

-- a text of at most 32 bytes, with no line feed
record IsName (x : List ℕ) : Type 0 where
  few : length x ≤ 32
  plainly : plain x ≡ true

-- the name of each line behind the first is one
is_name : (line : ℕ) → IsName (name line)
is_name line = go (eqb line 2) (eqb line 3) (eqb line 4)
  where
    go : (a b c : Bool) → IsName (cond a (ascii "data=") (cond b (ascii "answer=") (cond c (ascii "out=") (ascii "rounds="))))
    go true b c = record { few = leb-true 5 32 refl; plainly = refl }
    go false true c = record { few = leb-true 7 32 refl; plainly = refl }
    go false false true = record { few = leb-true 4 32 refl; plainly = refl }
    go false false false = record { few = leb-true 7 32 refl; plainly = refl }

-- and so is the first line of each call
is_call : (call : Call) → IsName (ascii "call=" ++ word_of call)
is_call Start1 = record { few = leb-true 11 32 refl; plainly = refl }
is_call Start2 = record { few = leb-true 11 32 refl; plainly = refl }
is_call Ad = record { few = leb-true 7 32 refl; plainly = refl }
is_call Text = record { few = leb-true 9 32 refl; plainly = refl }
is_call Finish = record { few = leb-true 11 32 refl; plainly = refl }

-- ---- values

-- the data of a call are bytes, at least and at most so many
pub record DataBytes (call : Call) : Type 0 where
  pub least : ℕ
  pub most : ℕ
  pub is : data_kind call ≡ Bytes least most Lower
  pub ordered : least ≤ most
  pub few : most ≤ 256

-- two keys of a set are few
start_few : (set : ℕ) → 2 * (row_of set).key ≤ 256
start_few set = omega (arith, (row_sizes set).key)

-- what each call's data may be is such bytes
pub data_bytes : (call : Call) → DataBytes call
data_bytes Start1 = record { least = 2 * (row_of 1).key; most = 2 * (row_of 1).key; is = refl; ordered = omega arith; few = start_few 1 }
data_bytes Start2 = record { least = 2 * (row_of 2).key; most = 2 * (row_of 2).key; is = refl; ordered = omega arith; few = start_few 2 }
data_bytes Ad = record { least = 0; most = 256; is = refl; ordered = omega arith; few = omega arith }
data_bytes Text = record { least = 0; most = 256; is = refl; ordered = omega arith; few = omega arith }
data_bytes Finish = record { least = 0; most = 0; is = refl; ordered = omega arith; few = omega arith }

-- what a call may be handed is a field in form
pub data_field : (call : Call) (f : Field) → allows (data_kind call) 0 f ≡ true → is_field f ≡ true
data_field call f e =
    let d = data_bytes call in
    let allowed : allows (Bytes d.least d.most Lower) 0 f ≡ true = rw d.is at e in
    (and_both (is_field f) _ allowed).0

-- what a line may hold fits
value_fits : (call : Call) (line : ℕ) → fits (value_kind call line) ≡ true
value_fits call line = go (eqb line 2) (eqb line 4)
  where
    go : (a b : Bool) → fits (cond a (data_kind call) (cond b (Bytes 0 256 Lower) (Number 0 9_999_999))) ≡ true
    go true b = let d = data_bytes call in rw d.is (le-leb d.least d.most d.ordered)
    go false true = refl
    go false false = refl

-- ---- kinds

-- the name of a line's kind is the line's
pub name_is : (call : Call) (line : ℕ) → name_of (kind_at call line) ≡ name line
unfolding kind_at
name_is call line = named_is (name line) (is_name line).few (value_kind call line)

-- the kind of each line behind the first fits
pub fit_kind : (call : Call) (line : ℕ) → Fit (kind_at call line)
unfolding kind_at
fit_kind call line = named_fit (name line) (is_name line).few (value_kind call line) (is_name line).plainly (value_fits call line)

-- the name of a first line is the line's, without its line feed
pub call_is : (call : Call) → name_of (call_kind call) ≡ ascii "call=" ++ word_of call
unfolding call_kind
call_is call = named_is (ascii "call=" ++ word_of call) (is_call call).few (Fixed (rank_of call))

-- the kind of each first line fits
fit_call : (call : Call) → Fit (call_kind call)
unfolding call_kind
fit_call call = named_fit (ascii "call=" ++ word_of call) (is_call call).few (Fixed (rank_of call)) (is_call call).plainly refl

-- ---- first lines tell their call

-- the number that the text of a first line tells, by its length and a character
abbrev number_of : List ℕ → ℕ
number_of line =
    cond (eqb (length line) 8) 3 (cond (eqb (length line) 10) 4 (cond (eqb (get_or line 5 0) 0x66) 5 (cond (eqb (get_or line 10 0) 0x32) 2 1)))

-- it is the call's
number_is : (call : Call) → rank_of call ≡ number_of (line_of (ascii "call=" ++ word_of call) [])
unfolding line_of
number_is Start1 = refl
number_is Start2 = refl
number_is Ad = refl
number_is Text = refl
number_is Finish = refl

-- the lines of a call tell it
call_telling : (call : Call) → Telling number_of (Right (call_kind call))
unfolding call_kind
call_telling call =
    kind_telling number_of (call_kind call) (fit_call call)
    (λ line says r. r.spelled.0 ∙ number_is call ∙ ap number_of (sym (r.whole ∙ (λ j. line_of (call_is call j) (r.spelled.1 j)))))

-- and so do first lines
first_telling : Telling number_of FirstLine
first_telling =
    also (also (also (also (call_telling Start1) Start2) Ad) Text) Finish
  where
    also : {set : List ℕ → ℕ → Type 0} → Telling number_of set → (call : Call) → Telling number_of (Either set (Right (call_kind call)))
    also {set} t call = either_telling number_of set (Right (call_kind call)) t (call_telling call)

-- ---- readings

-- what a reading of a first line says is so
told_first : (text : List ℕ) → FoundIn FirstLine text (read_call text)
unfolding read_call
told_first text =
    let start : Found = read_of (call_kind Start1) text in
    let starts : Found = either_of start (read_of (call_kind Start2) text) in
    let ads : Found = either_of starts (read_of (call_kind Ad) text) in
    let texts : Found = either_of ads (read_of (call_kind Text) text) in
    also TextLine texts Finish (also AdLine ads Text (also StartLine starts Ad (also (Right (call_kind Start1)) start Start2 (told_call Start1))))
  where
    told_call : (call : Call) → FoundIn (Right (call_kind call)) text (read_of (call_kind call) text)
    told_call call = reads_lines.told (call_kind call) text (fit_call call)

    also : (set : List ℕ → ℕ → Type 0) (f : Found) (call : Call) → FoundIn set text f
        → FoundIn (Either set (Right (call_kind call))) text (either_of f (read_of (call_kind call) text))
    also set f call t = reads_lines.either set (Right (call_kind call)) text f (read_of (call_kind call) text) t (told_call call)

-- what they say is so
pub told : (line : ℕ) (e : Entry) (text : List ℕ) → FoundIn (right_at line e) text (read_at line e text)
unfolding read_line
told line e text = go (eqb line 1)
  where
    go : (b : Bool) → FoundIn (right_line b e.call line) text (cond b (read_call text) (read_of (kind_at e.call line) text))
    go true = told_first text
    go false = reads_lines.told (kind_at e.call line) text (fit_kind e.call line)

-- and nothing else is
pub only : (line : ℕ) (e : Entry) (text : List ℕ) (f : Found) → FoundIn (right_at line e) text f → read_at line e text ≡ f
unfolding read_line
only line e text f = go (eqb line 1)
  where
    go : (b : Bool) → FoundIn (right_line b e.call line) text f → cond b (read_call text) (read_of (kind_at e.call line) text) ≡ f
    go true t = one_found number_of FirstLine first_telling text (read_call text) f (told_first text) t
    go false t = reads_lines.only (kind_at e.call line) text f (fit_kind e.call line) t

-- each line can be right
pub some : (line : ℕ) (e : Entry) → (text : List ℕ) × (says : ℕ) × right_at line e text says
some line e = go (eqb line 1)
  where
    go : (b : Bool) → (text : List ℕ) × (says : ℕ) × right_line b e.call line text says
    go true = let s = some_line (call_kind Ad) (fit_call Ad) in (s.0, s.1, call_first Ad s.0 s.1 s.2)
    go false = some_line (kind_at e.call line) (fit_kind e.call line)

-- right lines end with their one line feed
pub one_feed : (line : ℕ) (e : Entry) → OneFeed (Lines (right_at line e))
one_feed line e = go (eqb line 1)
  where
    go : (b : Bool) → OneFeed (Lines (right_line b e.call line))
    go true = first_telling.feeds
    go false = reads_lines.one_feed (kind_at e.call line) (fit_kind e.call line)
