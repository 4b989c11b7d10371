-- A text of either form: which form it is of, and what reading it promises.
use mathlib.Core.Path.{◌≡◌, refl, sym, ap, ◌∙◌, subst}
use mathlib.Core.Bool.{Bool, true, false, cond, true≢false}
use mathlib.Core.List.{List, [], ◌∷◌, ◌++◌}
use mathlib.Core.Logic.{◌↔◌, ◌⊎◌, inl, inr}
use Prim.Native.Nat.{ℕ, zero, suc, ◌≤◌, ◌<◌}
use native.Mathlib.Omega.{arith}
use lib.Dec.{eqb, ltb}
use lib.ListN.{length, take, drop, length-append, length-take, take-append-drop}
use lib.Seq.{take_all}
use borrow.Author.Tests.{eqb-true, eq-eqb, ne_eqb, ltb-true, ltb-false, lt-ltb, le-ltb}
use Rattle.answers.specs.declared.Answer.TheVariants.{Done, BrokenRecord}
use Rattle.answers.specs.Numbers.{is_done}
use Rattle.digits.specs.Ascii.{ascii}
use Rattle.digits.specs.Room.{line_of}
use Rattle.digits.proofs.Spelling.{and_both}
use Rattle.lines.specs.Right.{named}
use Rattle.lines.specs.Steps.{name_step, step_of, read_of}
use Rattle.record.specs.declared.form.Form.{Form}
use Rattle.record.specs.declared.form.Form.TheVariants.{One, Two}
use Rattle.record.specs.declared.form.Record.{Record}
use Rattle.record.specs.Form.{blank, value_kind}
use Rattle.record.specs.Text.{names, name, kind_of, value_text, line_text, text_from, text_of, most_bytes}
use Rattle.record.specs.Calls.{Reading, refused_at, read_as, read_call, mark, shared, form_of, inside_mark, read_any}
use Rattle.record.specs.Laws.{BegunWhole, WrongAt, Spellable, BegunAny, ReadsAny}
use Rattle.record.proofs.Lines.{line_length}
use Rattle.record.proofs.Bounds.{few_bytes}
use Rattle.record.proofs.Laws.{done_broken, taken_inside, reads_and_writes}

-- ---- what a word and a text share

-- no more than the text has
shared_text : (word text : List ℕ) → shared word text ≤ length text
shared_text [] text = omega arith
shared_text (c ∷ word) [] = omega arith
shared_text (c ∷ word) (d ∷ text) = go (eqb c d) (shared_text word text)
  where
    go : (b : Bool) → shared word text ≤ length text → cond b (suc (shared word text)) 0 ≤ suc (length text)
    go true h = omega arith
    go false h = omega arith

-- all of the word, where the text begins with it
shared_whole : (word rest : List ℕ) → shared word (word ++ rest) ≡ length word
shared_whole [] rest = refl
shared_whole (c ∷ word) rest = rw (eq-eqb c c refl, shared_whole word rest)

-- and only there
whole_shared : (word text : List ℕ) → shared word text ≡ length word → text ≡ word ++ drop (length word) text
whole_shared [] text e = refl
whole_shared (c ∷ word) [] e = absurd (omega arith)
whole_shared (c ∷ word) (d ∷ text) e = go (eqb c d) refl e (whole_shared word text)
  where
    go : (b : Bool) → eqb c d ≡ b → cond b (suc (shared word text)) 0 ≡ suc (length word) → (shared word text ≡ length word → text ≡ word ++ drop (length word) text)
        → d ∷ text ≡ c ∷ (word ++ drop (length word) text)
    go true f g rest = let h : shared word text ≡ length word = omega arith in λ j. sym (eqb-true c d f) j ∷ rest h j
    go false f g rest = absurd (omega arith)

-- all of the text, where it is a beginning of the word
text_shared : (word text : List ℕ) → shared word text ≡ length text → text ≡ take (length text) word
text_shared [] [] e = refl
text_shared [] (d ∷ text) e = absurd (omega arith)
text_shared (c ∷ word) [] e = refl
text_shared (c ∷ word) (d ∷ text) e = go (eqb c d) refl e (text_shared word text)
  where
    go : (b : Bool) → eqb c d ≡ b → cond b (suc (shared word text)) 0 ≡ suc (length text) → (shared word text ≡ length text → text ≡ take (length text) word)
        → d ∷ text ≡ c ∷ take (length text) word
    go true f g rest = let h : shared word text ≡ length text = omega arith in λ j. sym (eqb-true c d f) j ∷ rest h j
    go false f g rest = absurd (omega arith)

-- unless it ends inside the word, more of it changes nothing
shared_more : (word text more : List ℕ) → (shared word text ≡ length text → length word ≤ length text) → shared word (text ++ more) ≡ shared word text
shared_more [] text more h = refl
shared_more (c ∷ word) [] more h = absurd (omega (arith, h refl))
shared_more (c ∷ word) (d ∷ text) more h = go (eqb c d) refl (shared_more word text more)
  where
    later : eqb c d ≡ true → shared word text ≡ length text → length word ≤ length text
    later f e = let g : shared (c ∷ word) (d ∷ text) ≡ suc (length text) = rw f (ap suc e) in omega (arith, h g)

    go : (b : Bool) → eqb c d ≡ b → ((shared word text ≡ length text → length word ≤ length text) → shared word (text ++ more) ≡ shared word text)
        → cond b (suc (shared word (text ++ more))) 0 ≡ cond b (suc (shared word text)) 0
    go true f rest = ap suc (rest (later f))
    go false f rest = refl

-- ---- the form of a text

-- it is form 2 exactly where the text begins with the mark
marked : (text : List ℕ) → (form_of text ≡ Two) ↔ ((rest : List ℕ) × (text ≡ ascii "form=" ++ rest))
unfolding form_of
marked text = (
  λ e. (drop 5 text, whole_shared mark text (eqb-true _ 5 (two (eqb (shared mark text) 5) e))),
  λ (rest, e). ap (λ (x : List ℕ). cond (eqb (shared mark x) 5) Two One) e ∙ ap (λ (n : ℕ). cond (eqb n 5) Two One) (shared_whole mark rest),
)
  where
    two : (b : Bool) → cond b Two One ≡ Two → b ≡ true
    two true e = refl
    two false e = absurd (let z : ◌≡◌ {A = ℕ} 0 1 = cc in omega arith)

-- a text that ends inside the mark
record Inside (text : List ℕ) : Type 0 where
  short : length text < 5
  begins : shared mark text ≡ length text

inside_is : (text : List ℕ) → inside_mark text ≡ true → Inside text
unfolding inside_mark
inside_is text e =
    let b = and_both (ltb (length text) 5) _ e in
    record { short = ltb-true (length text) 5 b.0; begins = eqb-true _ _ b.1 }

is_inside : (text : List ℕ) → Inside text → inside_mark text ≡ true
unfolding inside_mark
is_inside text i = rw (lt-ltb (length text) 5 i.short, eq-eqb _ _ i.begins)

-- any other shares no less with the mark for what stands behind it
outside : (text : List ℕ) → inside_mark text ≡ false → shared mark text ≡ length text → 5 ≤ length text
outside text e h = go (ltb (length text) 5) refl
  where
    go : (b : Bool) → ltb (length text) 5 ≡ b → 5 ≤ length text
    go true f = absurd (true≢false (sym (is_inside text (record { short = ltb-true (length text) 5 f; begins = h })) ∙ e))
    go false f = omega (arith, ltb-false (length text) 5 f)

-- so its form is decided
form_stays : (text more : List ℕ) → inside_mark text ≡ false → form_of (text ++ more) ≡ form_of text
unfolding form_of
form_stays text more e = rw (shared_more mark text more (outside text e))

-- and it does not end inside the mark with more
outside_stays : (text more : List ℕ) → inside_mark text ≡ false → inside_mark (text ++ more) ≡ false
outside_stays text more e = go (inside_mark (text ++ more)) refl
  where
    go : (b : Bool) → inside_mark (text ++ more) ≡ b → b ≡ false
    go false f = refl
    go true f =
        let i = inside_is (text ++ more) f in
        let same : shared mark (text ++ more) ≡ shared mark text = shared_more mark text more (outside text e) in
        let size = length-append text more in
        let all : shared mark text ≡ length text = omega (arith, i.begins, shared_text mark text) in
        absurd (omega (arith, outside text e all, i.short))

-- what ends inside the mark is of form 1
inside_one : (text : List ℕ) → inside_mark text ≡ true → form_of text ≡ One
unfolding form_of
inside_one text e = let i = inside_is text e in rw (ne_eqb (shared mark text) 5 (λ f. absurd (omega (arith, i.short, i.begins))))

-- the text of a record is of its form, and goes on behind the mark
form_of_text : (form : Form) (r : Record) (rest : List ℕ) → form_of (text_of form r ++ rest) ≡ form
unfolding form_of text_of line_text line_of name names value_text value_kind
form_of_text One r rest = refl
form_of_text Two r rest = refl

long_text_lem : (form : Form) (r : Record) → 5 ≤ length (text_of form r)
unfolding text_of name names
long_text_lem One r = omega (arith, length-append (line_text 2 r) (text_from One 7 2 r), line_length 2 r)
long_text_lem Two r = omega (arith, length-append (line_text 1 r) (text_from Two 9 2 r), line_length 1 r)

text_outside : (form : Form) (r : Record) (rest : List ℕ) → inside_mark (text_of form r ++ rest) ≡ false
unfolding inside_mark
text_outside form r rest = rw (le-ltb (length (text_of form r ++ rest)) 5 (omega (arith, length-append (text_of form r) rest, long_text_lem form r)))

-- a text that begins with a record of a form
record Of (form : Form) (text : List ℕ) : Type 0 where
  entry : Record
  rest : List ℕ
  is : text ≡ text_of form entry ++ rest

of_begun : (form : Form) (text : List ℕ) → BegunWhole form text → Of form text
unfolding text_of
of_begun form text b =
    record { entry = b.right.entry; rest = b.rest; is = sym b.parts ∙ ap (λ (x : List ℕ). x ++ b.rest) (sym b.right.lines) }

one_form : (form : Form) (text : List ℕ) → BegunWhole form text → form_of text ≡ form
one_form form text b = let o = of_begun form text b in ap form_of o.is ∙ form_of_text form o.entry o.rest

begun_outside : (form : Form) (text : List ℕ) → BegunWhole form text → inside_mark text ≡ false
begun_outside form text b = let o = of_begun form text b in ap inside_mark o.is ∙ text_outside form o.entry o.rest

-- ---- reading

by_form : (text : List ℕ) → inside_mark text ≡ false → read_any text ≡ read_call (form_of text) text
unfolding read_any
by_form text e = rw e

inside_refused : (text : List ℕ) → inside_mark text ≡ true → read_any text ≡ refused_at 1 1 true
unfolding read_any
inside_refused text e = rw e

-- a beginning of the mark is refused by form 1 in its first character, and can go on in form 2
beginnings : (n : ℕ) → n < 5
    → ((read_call One (take n mark)).answer ≡ BrokenRecord) × ((read_call One (take n mark)).line ≡ 1) × ((read_call One (take n mark)).column ≡ 1)
    × ((read_call Two (take n mark)).early ≡ true)
unfolding read_call read_of step_of name_step kind_of named name names refused_at value_kind blank
beginnings zero h = (refl, refl, refl, refl)
beginnings (suc zero) h = (refl, refl, refl, refl)
beginnings (suc (suc zero)) h = (refl, refl, refl, refl)
beginnings (suc (suc (suc zero))) h = (refl, refl, refl, refl)
beginnings (suc (suc (suc (suc zero)))) h = (refl, refl, refl, refl)
beginnings (suc (suc (suc (suc (suc n))))) h = absurd (omega arith)

inside : (text : List ℕ) → inside_mark text ≡ true → (read_any text ≡ refused_at 1 1 true) × WrongAt One text 1 1
inside text e =
    let i = inside_is text e in
    let is : text ≡ take (length text) mark = text_shared mark text i.begins in
    let b = beginnings (length text) i.short in
    (inside_refused text e, subst (λ (x : List ℕ). WrongAt One x 1 1) (sym is) (((reads_and_writes One).refused (take (length text) mark) 1 1).0 (b.0, b.1, b.2)))

-- it becomes a record of form 2
inside_on : (text : List ℕ) → inside_mark text ≡ true → (more : List ℕ) × BegunWhole Two (text ++ more)
inside_on text e =
    let i = inside_is text e in
    let is : text ≡ take (length text) mark = text_shared mark text i.begins in
    (((reads_and_writes Two).early text).0 (ap (λ (x : List ℕ). (read_call Two x).early) is ∙ (beginnings (length text) i.short).3)).1

answered : (text : List ℕ) → let reading = read_any text in
    (reading ≡ read_as reading.taken reading.content) ⊎ (reading ≡ refused_at reading.line reading.column reading.early)
unfolding refused_at
answered text = go (inside_mark text) refl
  where
    go : (b : Bool) → inside_mark text ≡ b → let reading = read_any text in
        (reading ≡ read_as reading.taken reading.content) ⊎ (reading ≡ refused_at reading.line reading.column reading.early)
    go true e = rw (inside_refused text e) (inr refl)
    go false e = rw (by_form text e) ((reads_and_writes (form_of text)).answered text)

exactly : (text : List ℕ) → ((read_any text).answer ≡ Done) ↔ BegunAny text
unfolding refused_at
exactly text = go (inside_mark text) refl
  where
    go : (b : Bool) → inside_mark text ≡ b → ((read_any text).answer ≡ Done) ↔ BegunAny text
    go true e = (
      λ d. absurd (done_broken (sym d ∙ ap (λ (r : Reading). r.answer) (inside_refused text e))),
      λ (form, b). absurd (true≢false (sym e ∙ begun_outside form text b)),
    )
    go false e = rw (by_form text e) (
      λ d. (form_of text, ((reads_and_writes (form_of text)).exactly text).0 d),
      λ (form, b). ap (λ (f : Form). (read_call f text).answer) (one_form form text b) ∙ ((reads_and_writes form).exactly text).1 b,
    )

refused : (text : List ℕ) (line column : ℕ) → let reading = read_any text in
    ((reading.answer ≡ BrokenRecord) × (reading.line ≡ line) × (reading.column ≡ column)) ↔ WrongAt (form_of text) text line column
unfolding refused_at
refused text line column = go (inside_mark text) refl
  where
    go : (b : Bool) → inside_mark text ≡ b → let reading = read_any text in
        ((reading.answer ≡ BrokenRecord) × (reading.line ≡ line) × (reading.column ≡ column)) ↔ WrongAt (form_of text) text line column
    go true e =
        let i = inside text e in
        rw (inside_refused text e, inside_one text e) (
          λ (d, l, c). rw (← l, ← c) i.1,
          λ w. let p = (reads_and_writes One).one_place text 1 1 line column i.1 w in (refl, p.0, p.1),
        )
    go false e = rw (by_form text e) ((reads_and_writes (form_of text)).refused text line column)

-- the empty text is refused at line 1, column 1, and can still go on
nothing : read_any [] ≡ refused_at 1 1 true
nothing = inside_refused [] (is_inside [] (record { short = omega arith; begins = refl }))

-- a text that is read goes on behind the mark
read_outside : (text : List ℕ) → (read_any text).answer ≡ Done → inside_mark text ≡ false
read_outside text d = let b = (exactly text).0 d in begun_outside b.0 text b.1

read_in_form : (text : List ℕ) → (read_any text).answer ≡ Done → Spellable (form_of text) (read_any text).content
read_in_form text d =
    let own = by_form text (read_outside text d) in
    rw own ((reads_and_writes (form_of text)).read_in_form text (sym (ap (λ (r : Reading). r.answer) own) ∙ d))

-- a text that is not read takes nothing
pub any_refused : (text : List ℕ) → is_done (read_any text).answer ≡ false → (read_any text).taken ≡ 0
unfolding refused_at read_as
any_refused text e = go (answered text)
  where
    go : let reading = read_any text in (reading ≡ read_as reading.taken reading.content) ⊎ (reading ≡ refused_at reading.line reading.column reading.early)
        → (read_any text).taken ≡ 0
    go (inl d) = absurd (true≢false (sym (ap (λ (r : Reading). is_done r.answer) d) ∙ e))
    go (inr d) = ap (λ (r : Reading). r.taken) d

-- a record that is read has a byte or more, and no more than its text
pub any_inside : (text : List ℕ) → (read_any text).answer ≡ Done → (1 ≤ (read_any text).taken) × ((read_any text).taken ≤ length text)
any_inside text d =
    let own = by_form text (read_outside text d) in
    rw own (taken_inside (form_of text) text (sym (ap (λ (r : Reading). r.answer) own) ∙ d))

text_read : (form : Form) (r : Record) (rest : List ℕ) → Spellable form r → read_any (text_of form r ++ rest) ≡ read_as (length (text_of form r)) r
text_read form r rest s =
    by_form (text_of form r ++ rest) (text_outside form r rest)
    ∙ ap (λ (f : Form). read_call f (text_of form r ++ rest)) (form_of_text form r rest)
    ∙ (reads_and_writes form).text_read r rest s

early : (text : List ℕ) → ((read_any text).early ≡ true) ↔ ((BegunAny text → ⊥) × ((more : List ℕ) × BegunAny (text ++ more)))
unfolding refused_at
early text = go (inside_mark text) refl
  where
    go : (b : Bool) → inside_mark text ≡ b → ((read_any text).early ≡ true) ↔ ((BegunAny text → ⊥) × ((more : List ℕ) × BegunAny (text ++ more)))
    go true e =
        rw (inside_refused text e) (
          λ f. (λ (form, b). true≢false (sym e ∙ begun_outside form text b), (let m = inside_on text e in (m.0, (Two, m.1)))),
          λ f. refl,
        )
    go false e =
        rw (by_form text e) (
          λ f.
              let p = ((reads_and_writes (form_of text)).early text).0 f in (
                λ (form, b). p.0 (subst (λ (x : Form). BegunWhole x text) (sym (one_form form text b)) b),
                (p.1.0, (form_of text, p.1.1)),
              ),
          λ (none, (more, (form, b))).
              let own : form ≡ form_of text = sym (one_form form (text ++ more) b) ∙ form_stays text more e in
              ((reads_and_writes (form_of text)).early text).1 (λ c. none (form_of text, c), (more, subst (λ (x : Form). BegunWhole x (text ++ more)) own b)),
        )

short : (text : List ℕ) → (read_any text).early ≡ true → length text < most_bytes Two
short text e = go (inside_mark text) refl
  where
    go : (b : Bool) → inside_mark text ≡ b → length text < 1_706
    go true f = omega (arith, (inside_is text f).short)
    go false f =
        omega (
          arith,
          (reads_and_writes (form_of text)).short text (sym (ap (λ (r : Reading). r.early) (by_form text f)) ∙ e),
          few_bytes (form_of text),
        )

decided : (text more : List ℕ) → (read_any text).early ≡ false → read_any (text ++ more) ≡ read_any text
unfolding refused_at
decided text more e = go (inside_mark text) refl
  where
    go : (b : Bool) → inside_mark text ≡ b → read_any (text ++ more) ≡ read_any text
    go true f = absurd (true≢false (sym (ap (λ (r : Reading). r.early) (inside_refused text f)) ∙ e))
    go false f =
        let own = by_form text f in
        by_form (text ++ more) (outside_stays text more f)
        ∙ ap (λ (x : Form). read_call x (text ++ more)) (form_stays text more f)
        ∙ (reads_and_writes (form_of text)).decided text more (sym (ap (λ (r : Reading). r.early) own) ∙ e)
        ∙ sym own

longest : (text : List ℕ) → (read_any text).taken ≤ most_bytes Two
unfolding refused_at
longest text = go (inside_mark text) refl
  where
    go : (b : Bool) → inside_mark text ≡ b → (read_any text).taken ≤ 1_706
    go true f = omega (arith, ap (λ (r : Reading). r.taken) (inside_refused text f))
    go false f = omega (arith, ap (λ (r : Reading). r.taken) (by_form text f), (reads_and_writes (form_of text)).longest text, few_bytes (form_of text))

window : (text : List ℕ) → read_any (take (most_bytes Two) text) ≡ read_any text
window text = go (read_any (take 1_706 text)).early refl
  where
    go : (b : Bool) → (read_any (take 1_706 text)).early ≡ b → read_any (take 1_706 text) ≡ read_any text
    go false e = sym (decided (take 1_706 text) (drop 1_706 text) e) ∙ ap read_any (take-append-drop 1_706 text)
    go true e = ap read_any (take_all 1_706 text (omega (arith, short (take 1_706 text) e, length-take 1_706 text)))

pub reads_any : ReadsAny
reads_any = record {
  marked = marked;
  one_form = one_form;
  by_form = by_form;
  inside = inside;
  answered = answered;
  exactly = exactly;
  refused = refused;
  nothing = nothing;
  read_in_form = read_in_form;
  text_read = text_read;
  early = early;
  short = short;
  decided = decided;
  longest = longest;
  window = window;
}
