-- What reading and writing promise, in each form.
use mathlib.Core.Path.{◌≡◌, refl, sym, ap, ◌∙◌}
use mathlib.Core.Bool.{Bool, true, false, true≢false, false≢true}
use mathlib.Core.List.{List, [], ◌∷◌, ◌++◌, append-nil}
use mathlib.Core.Logic.{◌↔◌, ◌⊎◌, inl, inr}
use Prim.Native.Nat.{ℕ, ◌+◌, ◌≤◌, ◌<◌}
use native.Mathlib.Omega.{arith}
use lib.Dec.{eqb}
use lib.ListN.{length, take, drop, length-append, length-take, take-append-drop}
use lib.Seq.{take_all, take_at}
use borrow.Author.Tests.{eqb-true, not-false}
use Rattle.answers.specs.declared.Answer.TheVariants.{Done, BrokenRecord}
use Rattle.answers.specs.Numbers.{is_done}
use Rattle.lines.specs.Column.{line_at}
use Rattle.lines.specs.Steps.{read_of}
use Rattle.lines.specs.Tables.{Outcome, whole, broken_at}
use Rattle.lines.proofs.Laws.{reads_lines}
use Rattle.lines.proofs.Tables.{stopped_at, read_before, broken_before, mended}
use Rattle.record.specs.declared.form.Form.{Form}
use Rattle.record.specs.declared.form.Form.TheVariants.{One, Two}
use Rattle.record.specs.declared.form.Record.{Record}
use Rattle.record.specs.Form.{part_at, lines_in, with_number, with_field, blank, value_kind, broken, loses_chip}
use Rattle.record.specs.Text.{kind_of, line_text, text_from, text_of, most_bytes}
use Rattle.record.specs.Calls.{Reading, read_at, given, lines_of, refused_at, read_as, answered, read_call, write_leaves, write_call}
use Rattle.record.specs.Laws.{Typed, BegunWhole, WrongAt, Spellable, ReadsAndWrites}
use Rattle.record.proofs.Rules.{copied_part}
use Rattle.record.proofs.Lines.{line_length}
use Rattle.record.proofs.Chains.{rule_broken, broken_rule}
use Rattle.record.proofs.Table.{fit_kind, right_at, told, only, some}
use Rattle.record.proofs.Forward.{copied, read_copied}
use Rattle.record.proofs.Backward.{Far, read_far}
use Rattle.record.proofs.Right.{read_begun, begun_read, read_again, stop_wrong, by_table, wrong_stop}
use Rattle.record.proofs.Bounds.{text_most}
use Rattle.record.proofs.Written.{write_done, done_write}

-- ---- how a reading ended

-- no answer is both 0 and 10
pub done_broken : Done ≡ BrokenRecord → ⊥
done_broken e = let z : ◌≡◌ {A = ℕ} 0 1 = cc in absurd (omega arith)

-- a text in a form has a byte
text_some : (form : Form) (r : Record) → 1 ≤ length (text_from form (lines_in form) 1 r)
text_some One r = omega (arith, length-append (line_text 2 r) (text_from One 7 2 r), line_length 2 r)
text_some Two r = omega (arith, length-append (line_text 1 r) (text_from Two 9 2 r), line_length 1 r)

-- a record that loses no chip is copied by the lines of its form
copied_all : (form : Form) (r : Record) → loses_chip form r ≡ false → copied form (lines_in form) r ≡ r
unfolding copied_part value_kind with_number with_field blank
copied_all One r e =
    let none : r.chip ≡ 0 = eqb-true r.chip 0 (not-false (eqb r.chip 0) e) in
    λ j. record {
      set = r.set;
      chip = sym none j;
      key = r.key;
      nonce = r.nonce;
      ad = r.ad;
      text = r.text;
      cipher = r.cipher;
      tag = r.tag;
      rounds = r.rounds;
    }
copied_all Two r e = refl

-- what its lines give loses none
copied_kept : (form : Form) (r : Record) → loses_chip form (copied form (lines_in form) r) ≡ false
unfolding copied_part value_kind with_number with_field blank
copied_kept One r = refl
copied_kept Two r = refl

-- the empty text is refused at line 1, column 1, and can still go on
nothing : (form : Form) → read_call form [] ≡ refused_at 1 1 true
unfolding read_call read_of
nothing One = refl
nothing Two = refl

module _ (form : Form) where
  -- an outcome's answer
  read_is : (text : List ℕ) (o : Outcome Record) → lines_of form (lines_in form) text ≡ o → read_call form text ≡ answered o
  unfolding read_call
  read_is text o e = ap answered e

  -- a text that was read whole
  record AllRead (text : List ℕ) (taken : ℕ) (content : Record) : Type 0 where
    is : lines_of form (lines_in form) text ≡ whole taken content
    read : read_call form text ≡ read_as taken content

  -- a text that is broken
  record Broken (text : List ℕ) (line column : ℕ) (early : Bool) : Type 0 where
    is : lines_of form (lines_in form) text ≡ broken_at line column early
    refused : read_call form text ≡ refused_at line column early

  -- a reading ends in one of the two ways
  data Ended (text : List ℕ) : Type 0 where
    read_all : (taken : ℕ) (content : Record) → AllRead text taken content → Ended text
    stopped : (line column : ℕ) (early : Bool) → Broken text line column early → Ended text

  ended : (text : List ℕ) → Ended text
  ended text = go (lines_of form (lines_in form) text) refl
    where
      go : (o : Outcome Record) → lines_of form (lines_in form) text ≡ o → Ended text
      go (whole taken content) e = read_all taken content (record { is = e; read = read_is text _ e })
      go (broken_at line column early) e = stopped line column early (record { is = e; refused = read_is text _ e })

  -- a reading that answers 0 read all lines
  all_read : (text : List ℕ) → (read_call form text).answer ≡ Done → AllRead text (read_call form text).taken (read_call form text).content
  unfolding refused_at read_as
  all_read text d = go (ended text)
    where
      go : Ended text → AllRead text (read_call form text).taken (read_call form text).content
      go (read_all taken content a) =
          let t : (read_call form text).taken ≡ taken = ap (λ (r : Reading). r.taken) a.read in
          let c : (read_call form text).content ≡ content = ap (λ (r : Reading). r.content) a.read in
          record { is = a.is ∙ (λ j. whole (sym t j) (sym c j)); read = a.read ∙ (λ j. read_as (sym t j) (sym c j)) }
      go (stopped line column early b) = absurd (done_broken (sym d ∙ ap (λ (r : Reading). r.answer) b.refused))

  -- one that answers 10 stopped at its line and column
  all_stopped : (text : List ℕ) → (read_call form text).answer ≡ BrokenRecord → Broken text (read_call form text).line (read_call form text).column (read_call form text).early
  unfolding refused_at read_as
  all_stopped text d = go (ended text)
    where
      go : Ended text → Broken text (read_call form text).line (read_call form text).column (read_call form text).early
      go (read_all taken content a) = absurd (done_broken (sym (ap (λ (r : Reading). r.answer) a.read) ∙ d))
      go (stopped line column early b) =
          let l : (read_call form text).line ≡ line = ap (λ (r : Reading). r.line) b.refused in
          let c : (read_call form text).column ≡ column = ap (λ (r : Reading). r.column) b.refused in
          let e : (read_call form text).early ≡ early = ap (λ (r : Reading). r.early) b.refused in
          record { is = b.is ∙ (λ j. broken_at (sym l j) (sym c j) (sym e j)); refused = b.refused ∙ (λ j. refused_at (sym l j) (sym c j) (sym e j)) }

  -- a text is read, or refused at a line and column
  answered_so : (text : List ℕ) → let reading = read_call form text in
      (reading ≡ read_as reading.taken reading.content) ⊎ (reading ≡ refused_at reading.line reading.column reading.early)
  unfolding refused_at read_as
  answered_so text = go (ended text)
    where
      go : Ended text → let reading = read_call form text in
          (reading ≡ read_as reading.taken reading.content) ⊎ (reading ≡ refused_at reading.line reading.column reading.early)
      go (read_all taken content a) = inl (all_read text (ap (λ (r : Reading). r.answer) a.read)).read
      go (stopped line column early b) = inr (all_stopped text (ap (λ (r : Reading). r.answer) b.refused)).refused

  -- a text that is not read takes nothing, and gives the record of zeros
  pub refused_takes : (text : List ℕ) → is_done (read_call form text).answer ≡ false → ((read_call form text).taken ≡ 0) × ((read_call form text).content ≡ blank)
  unfolding refused_at read_as
  refused_takes text e = go (ended text)
    where
      go : Ended text → ((read_call form text).taken ≡ 0) × ((read_call form text).content ≡ blank)
      go (read_all taken content a) = absurd (true≢false (sym (ap (λ (r : Reading). is_done r.answer) a.read) ∙ e))
      go (stopped line column early b) = (ap (λ (r : Reading). r.taken) b.refused, ap (λ (r : Reading). r.content) b.refused)

  -- a record that is read has a byte or more, and no more than its text
  pub taken_inside : (text : List ℕ) → (read_call form text).answer ≡ Done → (1 ≤ (read_call form text).taken) × ((read_call form text).taken ≤ length text)
  taken_inside text d =
      let r = read_call form text in
      let f : Far form (lines_in form) text r.taken r.content = read_far form (lines_in form) (omega arith) text r.taken r.content (all_read text d).is in
      let all = ap length f.there ∙ length-append (text_from form (lines_in form) 1 r.content) (drop r.taken text) in
      (omega (arith, f.size_is, text_some form r.content), omega (arith, f.size_is))

  -- a text is read exactly where it begins with the lines of a record in form
  exactly : (text : List ℕ) → ((read_call form text).answer ≡ Done) ↔ BegunWhole form text
  unfolding read_as
  exactly text = (
    λ d. read_begun form (lines_in form) (omega arith) text _ _ (all_read text d).is,
    λ b. ap (λ (r : Reading). r.answer) (read_is text _ (begun_read form (lines_in form) (omega arith) text b)),
  )

  -- ---- the place that refuses

  -- a text is refused at a line and column exactly where it is wrong there
  refused : (text : List ℕ) (line column : ℕ) → let reading = read_call form text in
      ((reading.answer ≡ BrokenRecord) × (reading.line ≡ line) × (reading.column ≡ column)) ↔ WrongAt form text line column
  unfolding refused_at
  refused text line column = (
    λ (d, l, c).
        let s = all_stopped text d in
        rw (← l, ← c) (stop_wrong form text _ _ _ (stopped_at (read_at form) (given form) 1 blank (lines_in form) text _ _ _ s.is)),
    λ w.
        let s = wrong_stop form text line column w in
        let r = read_is text _ s.1 in
        (ap (λ (r : Reading). r.answer) r, ap (λ (r : Reading). r.line) r, ap (λ (r : Reading). r.column) r),
  )

  -- there is one such line and column
  one_place : (text : List ℕ) (line column line' column' : ℕ) → WrongAt form text line column → WrongAt form text line' column' → (line ≡ line') × (column ≡ column')
  one_place text line column line' column' v w =
      let a = (refused text line column).1 v in
      let b = (refused text line' column').1 w in
      (sym a.1 ∙ b.1, sym a.2 ∙ b.2)

  -- and the column is at most one past the line's last character
  in_line : (text : List ℕ) (line column : ℕ) → (w : WrongAt form text line column) → column ≤ length (line_at w.before.rest) + 1
  in_line text line column w =
      let b = by_table form text line column w in
      reads_lines.in_line _ w.before.rest column (reads_lines.one_feed (kind_of (part_at form line) b.last.set) (fit_kind (part_at form line) b.last.set)) b.wrong

  -- the bytes taken are the record's text
  spelled : (text : List ℕ) → (read_call form text).answer ≡ Done → take (read_call form text).taken text ≡ text_of form (read_call form text).content
  unfolding text_of
  spelled text d =
      let r = read_call form text in
      let f : Far form (lines_in form) text r.taken r.content = read_far form (lines_in form) (omega arith) text r.taken r.content (all_read text d).is in
      ap (take r.taken) f.there ∙ take_at (text_from form (lines_in form) 1 r.content) (drop r.taken text) r.taken (sym f.size_is)

  -- ---- what was written is read

  -- the text of a record that the form can spell is read as this record, whatever stands behind it
  text_read : (r : Record) (rest : List ℕ) → Spellable form r → read_call form (text_of form r ++ rest) ≡ read_as (length (text_of form r)) r
  unfolding broken text_of
  text_read r rest s =
      read_is (text_from form (lines_in form) 1 r ++ rest) _
      (read_copied form (lines_in form) (omega arith) r s.typed (broken_rule form (lines_in form) 1 r (omega arith) s.in_form) rest)
      ∙ ap (read_as (length (text_from form (lines_in form) 1 r))) (copied_all form r s.kept)

  -- so what was written is read as the same record, and all of it is taken
  write_read : (r : Record) (out : List ℕ) → Typed r → (write_call form r out).outcome.answer ≡ Done
      → read_call form (write_call form r out).out ≡ read_as (write_call form r out).outcome.written r
  unfolding write_call
  write_read r out t d =
      let b = done_write form r (text_of form r) out d in
      rw (write_done form r (text_of form r) out b.in_form b.kept b.room)
      (text_read r (drop (length (text_of form r)) out) (record { in_form = b.in_form; kept = b.kept; typed = t }))

  -- ---- what was read is written

  -- a record that is read is one that the form can spell
  read_in_form : (text : List ℕ) → (read_call form text).answer ≡ Done → Spellable form (read_call form text).content
  unfolding broken
  read_in_form text d =
      let r = read_call form text in
      let is = (all_read text d).is in
      let f : Far form (lines_in form) text r.taken r.content = read_far form (lines_in form) (omega arith) text r.taken r.content is in
      let copy : r.content ≡ copied form (lines_in form) r.content = read_again form (lines_in form) (omega arith) text r.taken r.content is in
      record {
        in_form = rule_broken form (lines_in form) 1 r.content f.rule;
        kept = ap (loses_chip form) copy ∙ copied_kept form r.content;
        typed = f.typed;
      }

  -- a record that the form can spell is written where there is room
  write_spelled : (r : Record) (out : List ℕ) → Spellable form r → length (text_of form r) ≤ length out
      → write_call form r out
      ≡ write_leaves (record { answer = Done; line = 0; column = 0; written = length (text_of form r) }) (text_of form r ++ drop (length (text_of form r)) out)
  unfolding write_call
  write_spelled r out s h = write_done form r (text_of form r) out s.in_form s.kept h

  -- what was read is written as the same bytes
  read_write : (text out : List ℕ) → (read_call form text).answer ≡ Done → (read_call form text).taken ≤ length out
      → let n = (read_call form text).taken in
      write_call form (read_call form text).content out ≡ write_leaves (record { answer = Done; line = 0; column = 0; written = n }) (take n text ++ drop n out)
  unfolding text_of
  read_write text out d h =
      let r = read_call form text in
      let f : Far form (lines_in form) text r.taken r.content = read_far form (lines_in form) (omega arith) text r.taken r.content (all_read text d).is in
      let size : length (text_of form r.content) ≡ r.taken = sym f.size_is in
      let s = read_in_form text d in
      let wrote = write_spelled r.content out s (omega arith) in
      rw (spelled text d) (rw size at wrote)

  -- ---- what decides a reading

  -- a text that did not end too early is decided
  decided : (text more : List ℕ) → (read_call form text).early ≡ false → read_call form (text ++ more) ≡ read_call form text
  unfolding refused_at
  decided text more e = go (ended text)
    where
      broken_so : (line column : ℕ) (early : Bool) → early ≡ false → Broken text line column early → read_call form (text ++ more) ≡ read_call form text
      broken_so line column true f b = absurd (true≢false f)
      broken_so line column false f b =
          read_is (text ++ more) _ (broken_before (read_at form) (given form) 1 blank (right_at form) (told form) (only form) (lines_in form) text more line column b.is) ∙ sym b.refused

      go : Ended text → read_call form (text ++ more) ≡ read_call form text
      go (read_all taken content a) = read_is (text ++ more) _ (read_before (read_at form) (given form) 1 blank (right_at form) (told form) (only form) (lines_in form) text more taken content a.is).1 ∙ sym a.read
      go (stopped line column early b) = broken_so line column early (sym (ap (λ (r : Reading). r.early) b.refused) ∙ e) b

  -- one that did goes on to a record in form, and all of that is the record's
  record Mended (text : List ℕ) : Type 0 where
    rest : List ℕ
    content : Record
    read : AllRead (text ++ rest) (length (text ++ rest)) content

  goes_on : (text : List ℕ) → (read_call form text).early ≡ true → Mended text
  unfolding refused_at read_as
  goes_on text e = go (ended text)
    where
      broken_so : (line column : ℕ) (early : Bool) → early ≡ true → Broken text line column early → Mended text
      broken_so line column false f b = absurd (false≢true f)
      broken_so line column true f b =
          let m = mended (read_at form) (given form) 1 blank (right_at form) (told form) (only form) (some form) (lines_in form) text line column b.is in
          record { rest = m.0; content = m.1; read = record { is = m.2; read = read_is (text ++ m.0) _ m.2 } }

      go : Ended text → Mended text
      go (read_all taken content a) = absurd (false≢true (sym (ap (λ (r : Reading). r.early) a.read) ∙ e))
      go (stopped line column early b) = broken_so line column early (sym (ap (λ (r : Reading). r.early) b.refused) ∙ e) b

  -- a text ended too early exactly where it does not begin with a record, and some more of it makes it begin with one
  early_exactly : (text : List ℕ) → ((read_call form text).early ≡ true) ↔ ((BegunWhole form text → ⊥) × ((more : List ℕ) × BegunWhole form (text ++ more)))
  unfolding read_as
  early_exactly text = (
    λ e.
        let m = goes_on text e in (
          λ b. false≢true (sym (ap (λ (r : Reading). r.early) (read_is text _ (begun_read form (lines_in form) (omega arith) text b))) ∙ e),
          (m.rest, (exactly (text ++ m.rest)).0 (ap (λ (r : Reading). r.answer) m.read.read)),
        ),
    λ (none, (more, b)). go (read_call form text).early refl none more b,
  )
    where
      go : (t : Bool) → (read_call form text).early ≡ t → (BegunWhole form text → ⊥) → (more : List ℕ) → BegunWhole form (text ++ more) → t ≡ true
      go true e none more b = refl
      go false e none more b =
          let same : (read_call form (text ++ more)).answer ≡ (read_call form text).answer = ap (λ (r : Reading). r.answer) (decided text more e) in
          absurd (none ((exactly text).0 (sym same ∙ (exactly (text ++ more)).1 b)))

  -- no lines that are read have more than the most bytes of the form
  all_most : (text : List ℕ) (taken : ℕ) (content : Record) → AllRead text taken content → taken ≤ (most_bytes form)
  all_most text taken content a =
      let f : Far form (lines_in form) text taken content = read_far form (lines_in form) (omega arith) text taken content a.is in
      omega (arith, f.size_is, text_most form (lines_in form) (omega arith) content f.rule)

  -- a text that can still become a record has less
  short : (text : List ℕ) → (read_call form text).early ≡ true → length text < (most_bytes form)
  unfolding read_as
  short text e = go m.rest refl
    where
      m : Mended text
      m = goes_on text e

      go : (rest : List ℕ) → m.rest ≡ rest → length text < (most_bytes form)
      go [] f =
          let whole : text ++ m.rest ≡ text = ap (λ (x : List ℕ). text ++ x) f ∙ append-nil text in
          absurd (false≢true (sym (ap (λ (r : Reading). r.early) m.read.read) ∙ ap (λ (x : List ℕ). (read_call form x).early) whole ∙ e))
      go (c ∷ rest) f =
          omega (arith, length-append text m.rest, ap length f, all_most (text ++ m.rest) (length (text ++ m.rest)) m.content m.read)

  -- no record has more than the most bytes of its form
  longest : (text : List ℕ) → (read_call form text).taken ≤ (most_bytes form)
  unfolding refused_at read_as
  longest text = go (ended text)
    where
      go : Ended text → (read_call form text).taken ≤ (most_bytes form)
      go (read_all taken content a) = omega (arith, ap (λ (r : Reading). r.taken) a.read, all_most text taken content a)
      go (stopped line column early b) = omega (arith, ap (λ (r : Reading). r.taken) b.refused)

  -- no byte behind them matters
  window : (text : List ℕ) → read_call form (take (most_bytes form) text) ≡ read_call form text
  window text = go (read_call form (take (most_bytes form) text)).early refl
    where
      go : (b : Bool) → (read_call form (take (most_bytes form) text)).early ≡ b → read_call form (take (most_bytes form) text) ≡ read_call form text
      go false e = sym (decided (take (most_bytes form) text) (drop (most_bytes form) text) e) ∙ ap (read_call form) (take-append-drop (most_bytes form) text)
      go true e = ap (read_call form) (take_all (most_bytes form) text (omega (arith, short (take (most_bytes form) text) e, length-take (most_bytes form) text)))

  -- reading and writing promise it all
  pub reads_and_writes : ReadsAndWrites form
  reads_and_writes =
      record {
        answered = answered_so;
        exactly = exactly;
        refused = refused;
        one_place = one_place;
        in_line = in_line;
        nothing = nothing form;
        spelled = spelled;
        text_read = text_read;
        write_read = write_read;
        read_write = read_write;
        read_in_form = read_in_form;
        early = early_exactly;
        short = short;
        decided = decided;
        longest = longest;
        window = window;
      }
