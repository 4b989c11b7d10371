-- Readings of things by a table: which texts are read and which are refused, where, how much is taken, and what decides it.
use mathlib.Core.Path.{◌≡◌, refl, sym, ap, ◌∙◌, subst}
use mathlib.Core.Bool.{Bool, true, false, false≢true}
use mathlib.Core.List.{List, ◌++◌}
use mathlib.Core.Logic.{◌↔◌, ◌⊎◌, inl, inr}
use Prim.Native.Nat.{ℕ, ◌≤◌, ◌<◌}
use native.Mathlib.Omega.{arith}
use lib.ListN.{length, take}
use lib.Seq.{take-append_seam}
use Rattle.lines.specs.Steps.{Found}
use Rattle.lines.specs.Tables.{Outcome, whole, broken_at}
use Rattle.lines.specs.Texts.{text_from, Begun, WrongAt}
use Rattle.lines.proofs.Tables.{up_to}
use Rattle.lines.proofs.Texts as texts
use Rattle.lines.proofs.Texts.{ReadsThings, not_yet}

-- a reading by a table of things: one that read all lines read the thing made of what they gave, and took their bytes; any other is refused at the line and column
-- where the table stopped, by a text that ended too early or not, and took nothing
pub record Answers {E C R A : Type 0}
    (read_at : ℕ → E → List ℕ → Found) (given : ℕ → E → ℕ → List ℕ → E) (nothing : E) (right_at : ℕ → E → List ℕ → ℕ → Type 0) (last : ℕ)
    (InForm : C → Type 0) (line_text : ℕ → C → List ℕ) (filled : C → ℕ → E) (made : E → C)
    (reading : List ℕ → R) (done broken : A) (read_as : ℕ → C → R) (refused_at : ℕ → ℕ → Bool → R)
    (answer : R → A) (line column : R → ℕ) (early : R → Bool) (taken : R → ℕ) (content : R → C) : Type 0 where
  pub table : ReadsThings read_at given nothing right_at last InForm line_text filled
  pub made_is : (c : C) → InForm c → made (filled c last) ≡ c
  pub read : (text : List ℕ) (end : ℕ) (e : E) → up_to read_at given 1 nothing last text ≡ whole end e → reading text ≡ read_as end (made e)
  pub refused : (text : List ℕ) (l c : ℕ) (b : Bool) → up_to read_at given 1 nothing last text ≡ broken_at l c b → reading text ≡ refused_at l c b
  pub apart : done ≡ broken → ⊥
  pub read_holds : (n : ℕ) (c : C) → let r = read_as n c in (answer r ≡ done) × (early r ≡ false) × (taken r ≡ n) × (content r ≡ c)
  pub refused_holds : (l c : ℕ) (b : Bool) → let r = refused_at l c b in (answer r ≡ broken) × (line r ≡ l) × (column r ≡ c) × (early r ≡ b) × (taken r ≡ 0)

module _ {E C R A : Type 0}
    {read_at : ℕ → E → List ℕ → Found} {given : ℕ → E → ℕ → List ℕ → E} {nothing : E} {right_at : ℕ → E → List ℕ → ℕ → Type 0} {last : ℕ}
    {InForm : C → Type 0} {line_text : ℕ → C → List ℕ} {filled : C → ℕ → E} {made : E → C}
    {reading : List ℕ → R} {done broken : A} {read_as : ℕ → C → R} {refused_at : ℕ → ℕ → Bool → R}
    {answer : R → A} {line column : R → ℕ} {early : R → Bool} {taken : R → ℕ} {content : R → C}
    (answers : Answers read_at given nothing right_at last InForm line_text filled made reading done broken read_as refused_at answer line column early taken content) where
  -- the text of a thing
  abbrev text_of : C → List ℕ
  text_of c = text_from line_text last 1 c

  -- ---- how a reading ended

  -- a text whose lines were all read
  record AllRead (text : List ℕ) : Type 0 where
    end : ℕ
    gave : E
    is : up_to read_at given 1 nothing last text ≡ whole end gave
    read : reading text ≡ read_as end (made gave)

  -- a text that is broken
  record Broken (text : List ℕ) : Type 0 where
    at_line : ℕ
    at_column : ℕ
    soon : Bool
    is : up_to read_at given 1 nothing last text ≡ broken_at at_line at_column soon
    refused : reading text ≡ refused_at at_line at_column soon
    holds : let r = reading text in (answer r ≡ broken) × (line r ≡ at_line) × (column r ≡ at_column) × (early r ≡ soon) × (taken r ≡ 0)

  -- a reading ends in one of the two ways
  ended : (text : List ℕ) → AllRead text ⊎ Broken text
  ended text = go (up_to read_at given 1 nothing last text) refl
    where
      go : (o : Outcome E) → up_to read_at given 1 nothing last text ≡ o → AllRead text ⊎ Broken text
      go (whole end gave) e = inl (record { end = end; gave = gave; is = e; read = answers.read text end gave e })
      go (broken_at l c b) e =
          let r = answers.refused text l c b e in
          inr (record { at_line = l; at_column = c; soon = b; is = e; refused = r; holds = rw r (answers.refused_holds l c b) })

  -- one that is done read all lines
  all_read : (text : List ℕ) → answer (reading text) ≡ done → AllRead text
  all_read text d = go (ended text)
    where
      go : AllRead text ⊎ Broken text → AllRead text
      go (inl a) = a
      go (inr b) = absurd (answers.apart (sym d ∙ b.holds.0))

  -- one that is broken stopped
  all_stopped : (text : List ℕ) → answer (reading text) ≡ broken → Broken text
  all_stopped text d = go (ended text)
    where
      go : AllRead text ⊎ Broken text → Broken text
      go (inl a) = absurd (answers.apart (sym (ap answer a.read ∙ (answers.read_holds a.end (made a.gave)).0) ∙ d))
      go (inr b) = b

  -- and so did one whose text ended too early
  early_stopped : (text : List ℕ) → early (reading text) ≡ true → Broken text
  early_stopped text e = go (ended text)
    where
      go : AllRead text ⊎ Broken text → Broken text
      go (inl a) = absurd (false≢true (sym (ap early a.read ∙ (answers.read_holds a.end (made a.gave)).1) ∙ e))
      go (inr b) = b

  -- a text is read, or refused at a line and column
  pub answered : (text : List ℕ) → let r = reading text in (r ≡ read_as (taken r) (content r)) ⊎ (r ≡ refused_at (line r) (column r) (early r))
  answered text = go (ended text)
    where
      go : AllRead text ⊎ Broken text → let r = reading text in (r ≡ read_as (taken r) (content r)) ⊎ (r ≡ refused_at (line r) (column r) (early r))
      go (inl a) =
          let holds = answers.read_holds a.end (made a.gave) in
          inl (a.read ∙ (λ j. read_as (sym (ap taken a.read ∙ holds.2) j) (sym (ap content a.read ∙ holds.3) j)))
      go (inr b) = inr (b.refused ∙ (λ j. refused_at (sym b.holds.1 j) (sym b.holds.2 j) (sym b.holds.3 j)))

  -- ---- what is read

  -- the text of a thing in form is read as this thing, whatever stands behind it
  pub text_read : (c : C) (rest : List ℕ) → InForm c → reading (text_of c ++ rest) ≡ read_as (length (text_of c)) c
  text_read c rest f =
      answers.read (text_of c ++ rest) (length (text_of c)) (filled c last) (texts.begun_whole answers.table c rest f)
      ∙ ap (read_as (length (text_of c))) (answers.made_is c f)

  -- so is a text that begins with it
  begun_read : (text : List ℕ) → (b : Begun InForm text_of text) → reading text ≡ read_as (length (text_of b.content)) b.content
  begun_read text b = ap reading b.parts ∙ text_read b.content b.rest b.in_form

  -- and what such a reading holds
  begun_holds : (text : List ℕ) → (b : Begun InForm text_of text) → let r = reading text in
      (answer r ≡ done) × (early r ≡ false) × (taken r ≡ length (text_of b.content)) × (content r ≡ b.content)
  begun_holds text b = rw (begun_read text b) (answers.read_holds (length (text_of b.content)) b.content)

  -- a text is read exactly where it begins with a thing
  pub exactly : (text : List ℕ) → (answer (reading text) ≡ done) ↔ Begun InForm text_of text
  exactly text = (λ d. let a = all_read text d in texts.whole_begun answers.table text a.end a.gave a.is, λ b. (begun_holds text b).0)

  -- the bytes taken are the text of the thing that is read
  pub spelled : (text : List ℕ) → answer (reading text) ≡ done → take (taken (reading text)) text ≡ text_of (content (reading text))
  spelled text d =
      let b = (exactly text).0 d in
      let holds = begun_holds text b in
      (λ j. take (holds.2 j) (b.parts j)) ∙ take-append_seam (text_of b.content) b.rest ∙ ap text_of (sym holds.3)

  -- as many as it has
  pub size_is : (text : List ℕ) → answer (reading text) ≡ done → length (text_of (content (reading text))) ≡ taken (reading text)
  size_is text d =
      let holds = begun_holds text ((exactly text).0 d) in
      ap (λ (c : C). length (text_of c)) holds.3 ∙ sym holds.2

  -- it is in form
  pub in_form : (text : List ℕ) → answer (reading text) ≡ done → InForm (content (reading text))
  in_form text d =
      let b = (exactly text).0 d in
      subst InForm (sym (begun_holds text b).3) b.in_form

  -- ---- the place that refuses

  -- a text is refused at a line and column exactly where it is wrong there
  pub refused : (text : List ℕ) (l c : ℕ) → let r = reading text in ((answer r ≡ broken) × (line r ≡ l) × (column r ≡ c)) ↔ WrongAt InForm line_text last text l c
  refused text l c = (
    λ (d, p, q).
        let b = all_stopped text d in
        let line-is : b.at_line ≡ l = sym b.holds.1 ∙ p in
        let column-is : b.at_column ≡ c = sym b.holds.2 ∙ q in
        rw (← line-is, ← column-is) (texts.stopped_wrong answers.table text b.at_line b.at_column b.soon b.is),
    λ w.
        let s = texts.wrong_stopped answers.table text l c w in
        let r = answers.refused text l c s.0 s.1 in
        let holds = answers.refused_holds l c s.0 in
        (ap answer r ∙ holds.0, ap line r ∙ holds.1, ap column r ∙ holds.2),
  )

  -- ---- what decides a reading

  -- a text that did not end too early is decided
  pub decided : (text more : List ℕ) → early (reading text) ≡ false → reading (text ++ more) ≡ reading text
  decided text more e = go (ended text)
    where
      go : AllRead text ⊎ Broken text → reading (text ++ more) ≡ reading text
      go (inl a) = answers.read (text ++ more) a.end a.gave (texts.whole_decided answers.table text more a.end a.gave a.is) ∙ sym a.read
      go (inr b) =
          let late : b.soon ≡ false = sym b.holds.3 ∙ e in
          answers.refused (text ++ more) b.at_line b.at_column false
          (texts.broken_decided answers.table text more b.at_line b.at_column (rw late at b.is))
          ∙ rw (← late) (sym b.refused)

  -- one that did goes on to a thing
  goes_on : (text : List ℕ) → early (reading text) ≡ true → (more : List ℕ) × Begun InForm text_of (text ++ more)
  goes_on text e =
      let b = early_stopped text e in
      let soon : b.soon ≡ true = sym b.holds.3 ∙ e in
      texts.goes_on answers.table text b.at_line b.at_column (rw soon at b.is)

  -- a text ended too early exactly where it does not begin with a thing, and some more of it makes it begin with one
  pub ended_early : (text : List ℕ) → (early (reading text) ≡ true) ↔ ((Begun InForm text_of text → ⊥) × ((more : List ℕ) × Begun InForm text_of (text ++ more)))
  ended_early text = (
    λ e. (λ b. false≢true (sym (begun_holds text b).1 ∙ e), goes_on text e),
    λ (none, (more, b)). go (early (reading text)) refl none more b,
  )
    where
      go : (t : Bool) → early (reading text) ≡ t → (Begun InForm text_of text → ⊥) → (more : List ℕ) → Begun InForm text_of (text ++ more) → t ≡ true
      go true e none more b = refl
      go false e none more b = absurd (none ((exactly text).0 (ap answer (sym (decided text more e)) ∙ (exactly (text ++ more)).1 b)))

  -- ---- how much is taken

  module _ (most : ℕ) (at_most : (c : C) → InForm c → length (text_of c) ≤ most) where
    -- where no thing has more bytes, no more are taken
    pub longest : (text : List ℕ) → taken (reading text) ≤ most
    longest text = go (ended text)
      where
        go : AllRead text ⊎ Broken text → taken (reading text) ≤ most
        go (inl a) =
            let b = texts.whole_begun answers.table text a.end a.gave a.is in
            omega (arith, (begun_holds text b).2, at_most b.content b.in_form)
        go (inr b) = omega (arith, b.holds.4)

    -- and a text that ended too early has fewer
    pub short : (text : List ℕ) → early (reading text) ≡ true → length text < most
    short text e =
        let (none, (more, b)) = (ended_early text).0 e in
        omega (arith, not_yet InForm text_of text more none b, at_most b.content b.in_form)
