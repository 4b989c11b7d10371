-- What every turn of the program's run keeps.
use mathlib.Core.Path.{◌≡◌, refl, sym, ap, ap₂, subst, ◌∙◌}
use mathlib.Core.Bool.{Bool, true, false, cond, false≢true, true≢false}
use mathlib.Core.List.{List, [], ◌∷◌, ◌++◌, append-nil, append_assoc}
use Prim.Native.Nat.{ℕ, ◌+◌, ◌≤◌}
use native.Mathlib.Omega.{arith}
use lib.Dec.{eqb}
use lib.ListN.{length, take, drop, length-append, take-append-drop}
use lib.Seq.{take-append_seam, drop-append-le}
use borrow.Author.Tests.{eqb-true, eqb-false, eq-eqb, ne_eqb}
use Rattle.answers.specs.Numbers.{is_done}
use Rattle.answers.proofs.Numbers.{done_is}
use Rattle.record.specs.Calls.{read_any}
use Rattle.record.proofs.Any.{any_inside}
use Rattle.report.specs.declared.Verdict.{Verdict}
use Rattle.report.specs.Reports.{report_text}
use Rattle.report.proofs.Lengths.{length_report}
use Rattle.judge.specs.Steps.{verdict_read, is_final, verdicts_of, reports_from}
use Rattle.judge.proofs.Laws.{judges}
use Rattle.judge.proofs.Outputs.{no_verdicts, verdicts_step, reports_append}
use Rattle.turns.specs.declared.Ending.{Ending}
use Rattle.turns.specs.declared.Ending.TheVariants.{Said, ReadFailed, WriteFailed, SayFailed, TooMany}
use Rattle.turns.specs.declared.Stage.{Stage}
use Rattle.turns.specs.declared.Stage.TheVariants.{Judge, Close, Read, Write, Say, Over}
use Rattle.turns.specs.declared.Tally.{Tally}
use Rattle.turns.specs.Tallies.{none, counted_with, counted_all, records_of, largest, last_words}
use Rattle.turns.specs.Run.{Standing, Reply, Came, Took, Again, Failed, begun, next, is_judging, is_closing, is_reading, is_writing, with_report, looked, judged, closed, came, took, failed, behind, heard, turned, ran_from, joined, from_input, output_at, to_output, error_at, to_error}
use Rattle.turns.proofs.Stages.{reading_is, judging_is, closing_is}
use Rattle.turns.proofs.Tallies.{unread_stays, counted_behind, records_counted, words_some}

-- ---- what is still to come

-- the verdicts that are still to be given, with this left of the input
pub remaining : Standing → List ℕ → List Verdict
remaining r rest = cond (eqb r.tally.unread 0) (verdicts_of (r.window ++ rest)) []

-- what is left of the last report
abbrev left_over : Ending → List ℕ → List ℕ
left_over Said left = []
left_over ReadFailed left = []
left_over WriteFailed left = left
left_over SayFailed left = []
left_over TooMany left = []

abbrev pub report_left : Stage → List ℕ → List ℕ
report_left Judge left = []
report_left Close left = []
report_left Read left = []
report_left Write left = left
report_left Say left = []
report_left (Over ending) left = left_over ending left

-- what is left of the last words
abbrev words_over : Ending → List ℕ → List ℕ → List ℕ
words_over Said left words = []
words_over ReadFailed left words = words
words_over WriteFailed left words = words
words_over SayFailed left words = left
words_over TooMany left words = words

abbrev pub words_left : Stage → List ℕ → List ℕ → List ℕ
words_left Judge left words = words
words_left Close left words = words
words_left Read left words = words
words_left Write left words = words
words_left Say left words = left
words_left (Over ending) left words = words_over ending left words

-- the end is reached
abbrev ended_over : Ending → Bool
ended_over Said = true
ended_over ReadFailed = false
ended_over WriteFailed = false
ended_over SayFailed = true
ended_over TooMany = false

abbrev pub is_end : Stage → Bool
is_end Judge = false
is_end Close = true
is_end Read = false
is_end Write = false
is_end Say = true
is_end (Over ending) = ended_over ending

-- something is left to write
abbrev left_at : Ending → Bool
left_at Said = false
left_at ReadFailed = false
left_at WriteFailed = true
left_at SayFailed = true
left_at TooMany = false

abbrev pub is_left : Stage → Bool
is_left Judge = false
is_left Close = false
is_left Read = false
is_left Write = true
is_left Say = true
is_left (Over ending) = left_at ending

-- ---- what is kept

-- the verdicts so far are counted; with those to come they are the input's, whatever is left of it; what is written and what is left of the last report are their reports; what
-- is said and what is left of the last words are those words; at the end none is to come; an input that is read has not ended; what is left to write is not nothing
pub record Keeps (r : Standing) (came wrote said : List ℕ) : Type 0 where
  pub verdicts : List Verdict
  pub counted : r.tally ≡ counted_all none verdicts
  pub ahead : (rest : List ℕ) → (r.ended ≡ true → rest ≡ []) → verdicts ++ remaining r rest ≡ verdicts_of (came ++ rest)
  pub output : wrote ++ report_left r.stage r.left ≡ reports_from 1 verdicts
  pub words : said ++ words_left r.stage r.left (last_words r.tally) ≡ last_words r.tally
  pub ends : is_end r.stage ≡ true → (rest : List ℕ) → (r.ended ≡ true → rest ≡ []) → remaining r rest ≡ []
  pub reads : is_reading r.stage ≡ true → r.ended ≡ false
  pub leaves : is_left r.stage ≡ true → 1 ≤ length r.left

-- the beginning
pub keeps_begun : Keeps begun [] [] []
unfolding remaining
keeps_begun =
    record {
      verdicts = [];
      counted = refl;
      ahead = λ rest h. refl;
      output = refl;
      words = refl;
      ends = λ e. absurd (false≢true e);
      reads = λ e. refl;
      leaves = λ e. absurd (false≢true e);
    }

-- ---- one answer

-- what is taken and what is left
taken_left : (x left all : List ℕ) (n : ℕ) → x ++ left ≡ all → (x ++ take n left) ++ drop n left ≡ all
taken_left x left all n e = append_assoc x (take n left) (drop n left) ∙ ap (λ (l : List ℕ). x ++ l) (take-append-drop n left) ∙ e

-- the same window, end and counts, with another thing left and another stage
keeps_with : (r : Standing) (came wrote said : List ℕ) → Keeps r came wrote said → (left : List ℕ) (stage : Stage) (wrote' said' : List ℕ)
    → wrote' ++ report_left stage left ≡ wrote ++ report_left r.stage r.left
    → said' ++ words_left stage left (last_words r.tally) ≡ said ++ words_left r.stage r.left (last_words r.tally)
    → (is_end stage ≡ true → is_end r.stage ≡ true) → (is_reading stage ≡ true → r.ended ≡ false) → (is_left stage ≡ true → 1 ≤ length left)
    → Keeps (record { window = r.window; ended = r.ended; tally = r.tally; left = left; stage = stage }) came wrote' said'
unfolding remaining
keeps_with r came wrote said k left stage wrote' said' output words ends reads leaves =
    record {
      verdicts = k.verdicts;
      counted = k.counted;
      ahead = k.ahead;
      output = output ∙ k.output;
      words = words ∙ k.words;
      ends = λ e. k.ends (ends e);
      reads = reads;
      leaves = leaves;
    }

-- a stage that failed has the same left as before, and asks nothing
failed_same : (stage : Stage) (left words : List ℕ)
    → (report_left (failed stage) left ≡ report_left stage left) × (words_left (failed stage) left words ≡ words_left stage left words) × (is_end (failed stage) ≡ is_end stage)
    × (is_reading (failed stage) ≡ false) × (is_left (failed stage) ≡ is_left stage)
failed_same Judge left words = (refl, refl, refl, refl, refl)
failed_same Close left words = (refl, refl, refl, refl, refl)
failed_same Read left words = (refl, refl, refl, refl, refl)
failed_same Write left words = (refl, refl, refl, refl, refl)
failed_same Say left words = (refl, refl, refl, refl, refl)
failed_same (Over ending) left words = (refl, refl, refl, refl, refl)

-- a call that failed
keeps_failed : (r : Standing) (came wrote said : List ℕ) → Keeps r came wrote said → Keeps (next (failed r.stage) r) came wrote said
keeps_failed r came wrote said k =
    let f = failed_same r.stage r.left (last_words r.tally) in
    keeps_with r came wrote said k r.left (failed r.stage) wrote said (ap (λ (l : List ℕ). wrote ++ l) f.0) (ap (λ (l : List ℕ). said ++ l) f.1) (λ e. sym f.2 ∙ e)
    (λ e. absurd (false≢true (sym f.3 ∙ e))) (λ e. k.leaves (sym f.4 ∙ e))

-- bytes that came
keeps_came : (r : Standing) (had wrote said bytes : List ℕ) → Keeps r had wrote said → r.stage ≡ Read → Keeps (came bytes r) (had ++ bytes) wrote said
unfolding remaining came
keeps_came r had wrote said bytes k stage =
    record {
      verdicts = k.verdicts;
      counted = k.counted;
      ahead = λ rest h.
          rw (append_assoc r.window bytes rest, append_assoc had bytes rest)
          (k.ahead (bytes ++ rest) (λ e. absurd (true≢false (sym e ∙ k.reads (ap is_reading stage)))));
      output = ap (λ (s : Stage). wrote ++ report_left s r.left) (sym stage) ∙ k.output;
      words = ap (λ (s : Stage). said ++ words_left s r.left (last_words r.tally)) (sym stage) ∙ k.words;
      ends = λ e. absurd (false≢true e);
      reads = λ e. absurd (false≢true e);
      leaves = λ e. absurd (false≢true e);
    }

-- no byte goes nowhere
none_moved : (stage : Stage) → (output_at stage [] ≡ []) × (error_at stage [] ≡ [])
none_moved Judge = (refl, refl)
none_moved Close = (refl, refl)
none_moved Read = (refl, refl)
none_moved Write = (refl, refl)
none_moved Say = (refl, refl)
none_moved (Over ending) = (refl, refl)

-- a stage that does not write moves none
silent : (stage : Stage) (bytes : List ℕ) → is_writing stage ≡ false → (output_at stage bytes ≡ []) × (error_at stage bytes ≡ [])
silent Judge bytes e = (refl, refl)
silent Close bytes e = (refl, refl)
silent Read bytes e = (refl, refl)
silent Write bytes e = absurd (true≢false e)
silent Say bytes e = absurd (true≢false e)
silent (Over ending) bytes e = (refl, refl)

-- what a write takes of a report, or of the last words, is no more left of it
taking : (stage : Stage) → is_writing stage ≡ true → (wrote said left words : List ℕ) (n : ℕ)
    → ((wrote ++ output_at stage (take n left)) ++ report_left stage (drop n left) ≡ wrote ++ report_left stage left)
    × ((said ++ error_at stage (take n left)) ++ words_left stage (drop n left) words ≡ said ++ words_left stage left words)
taking Judge w wrote said left words n = absurd (false≢true w)
taking Close w wrote said left words n = absurd (false≢true w)
taking Read w wrote said left words n = absurd (false≢true w)
taking Write w wrote said left words n = (taken_left wrote left (wrote ++ left) n refl, append_assoc said [] words)
taking Say w wrote said left words n = (append_assoc wrote [] [], taken_left said left (said ++ left) n refl)
taking (Over ending) w wrote said left words n = absurd (false≢true w)

-- behind all of a text nothing is left of it, and nothing is asked
behind_same : (stage : Stage) → is_writing stage ≡ true → (left words : List ℕ) → left ≡ []
    → (report_left (behind stage) left ≡ report_left stage left) × (words_left (behind stage) left words ≡ words_left stage left words) × (is_end (behind stage) ≡ is_end stage)
    × (is_reading (behind stage) ≡ false) × (is_left (behind stage) ≡ false)
behind_same Judge w left words e = absurd (false≢true w)
behind_same Close w left words e = absurd (false≢true w)
behind_same Read w left words e = absurd (false≢true w)
behind_same Write w left words e = (sym e, refl, refl, refl, refl)
behind_same Say w left words e = (refl, sym e, refl, refl, refl)
behind_same (Over ending) w left words e = absurd (false≢true w)

-- a list of no length is empty
no_length : (l : List ℕ) → length l ≡ 0 → l ≡ []
no_length [] e = refl
no_length (x ∷ l) e = absurd (omega arith)

-- bytes that a write took
keeps_took : (r : Standing) (had wrote said : List ℕ) (n : ℕ) → Keeps r had wrote said → is_writing r.stage ≡ true
    → Keeps (took n r) had (wrote ++ output_at r.stage (take n r.left)) (said ++ error_at r.stage (take n r.left))
unfolding took
keeps_took r had wrote said n k w = go (eqb n 0) refl (eqb (length (drop n r.left)) 0) refl
  where
    wrote' : List ℕ
    wrote' = wrote ++ output_at r.stage (take n r.left)

    said' : List ℕ
    said' = said ++ error_at r.stage (take n r.left)

    part : (wrote' ++ report_left r.stage (drop n r.left) ≡ wrote ++ report_left r.stage r.left)
        × (said' ++ words_left r.stage (drop n r.left) (last_words r.tally) ≡ said ++ words_left r.stage r.left (last_words r.tally))
    part = taking r.stage w wrote said r.left (last_words r.tally) n

    go : (t : Bool) → eqb n 0 ≡ t → (u : Bool) → eqb (length (drop n r.left)) 0 ≡ u
        → Keeps
        (cond t (next (failed r.stage) r)
        (record { window = r.window; ended = r.ended; tally = r.tally; left = drop n r.left; stage = cond u (behind r.stage) r.stage }))
        had
        wrote'
        said'
    go true t u v =
        let none = none_moved r.stage in
        subst (λ (m : ℕ). Keeps (next (failed r.stage) r) had (wrote ++ output_at r.stage (take m r.left)) (said ++ error_at r.stage (take m r.left)))
        (sym (eqb-true n 0 t))
        (rw (none.0, none.1, append-nil wrote, append-nil said) (keeps_failed r had wrote said k))
    go false t true v =
        let b = behind_same r.stage w (drop n r.left) (last_words r.tally) (no_length (drop n r.left) (eqb-true _ 0 v)) in
        keeps_with r had wrote said k (drop n r.left) (behind r.stage) wrote' said' (ap (λ (l : List ℕ). wrote' ++ l) b.0 ∙ part.0)
        (ap (λ (l : List ℕ). said' ++ l) b.1 ∙ part.1) (λ e. sym b.2 ∙ e) (λ e. absurd (false≢true (sym b.3 ∙ e)))
        (λ e. absurd (false≢true (sym b.4 ∙ e)))
    go false t false v =
        keeps_with r had wrote said k (drop n r.left) r.stage wrote' said' part.0 part.1 (λ e. e) k.reads
        (λ e. let some = eqb-false (length (drop n r.left)) 0 v in omega arith)

-- any answer
pub keeps_heard : (r : Standing) (had wrote said : List ℕ) → Keeps r had wrote said → (reply : Reply)
    → Keeps (heard r reply) (had ++ from_input r reply) (wrote ++ to_output r reply) (said ++ to_error r reply)
keeps_heard r had wrote said k Again = let none = none_moved r.stage in rw (none.0, none.1, append-nil had, append-nil wrote, append-nil said) k
keeps_heard r had wrote said k Failed =
    let none = none_moved r.stage in
    rw (none.0, none.1, append-nil had, append-nil wrote, append-nil said) (keeps_failed r had wrote said k)
keeps_heard r had wrote said k (Came bytes) = go (is_reading r.stage) refl
  where
    none : (output_at r.stage [] ≡ []) × (error_at r.stage [] ≡ [])
    none = none_moved r.stage

    go : (t : Bool) → is_reading r.stage ≡ t
        → Keeps (cond t (came bytes r) r) (had ++ cond t bytes []) (wrote ++ output_at r.stage []) (said ++ error_at r.stage [])
    go true e = rw (none.0, none.1, append-nil wrote, append-nil said) (keeps_came r had wrote said bytes k (reading_is r.stage e))
    go false e = rw (none.0, none.1, append-nil had, append-nil wrote, append-nil said) k
keeps_heard r had wrote said k (Took n) = go (is_writing r.stage) refl
  where
    go : (t : Bool) → is_writing r.stage ≡ t
        → Keeps (cond t (took n r) r) (had ++ []) (wrote ++ output_at r.stage (take n r.left)) (said ++ error_at r.stage (take n r.left))
    go true e = rw (append-nil had) (keeps_took r had wrote said n k e)
    go false e = let none = silent r.stage (take n r.left) e in rw (none.0, none.1, append-nil had, append-nil wrote, append-nil said) k

-- ---- judging

-- another stage that has nothing left, where the stage is judging
keeps_next : (r : Standing) (had wrote said : List ℕ) → Keeps r had wrote said → r.stage ≡ Judge → (stage : Stage)
    → report_left stage r.left ≡ [] → words_left stage r.left (last_words r.tally) ≡ last_words r.tally
    → (is_end stage ≡ true → (rest : List ℕ) → (r.ended ≡ true → rest ≡ []) → remaining r rest ≡ []) → (is_reading stage ≡ true → r.ended ≡ false) → is_left stage ≡ false
    → Keeps (next stage r) had wrote said
unfolding remaining
keeps_next r had wrote said k judging stage none words ends reads leaves =
    record {
      verdicts = k.verdicts;
      counted = k.counted;
      ahead = k.ahead;
      output = ap (λ (l : List ℕ). wrote ++ l) none ∙ ap (λ (s : Stage). wrote ++ report_left s r.left) (sym judging) ∙ k.output;
      words = ap (λ (l : List ℕ). said ++ l) words ∙ ap (λ (s : Stage). said ++ words_left s r.left (last_words r.tally)) (sym judging) ∙ k.words;
      ends = ends;
      reads = reads;
      leaves = λ e. absurd (false≢true (sym leaves ∙ e));
    }

-- a text that is all of a text has nothing in front
no_front : (x y : List ℕ) → x ++ y ≡ y → x ≡ []
no_front x y e = no_length x (omega (arith, ap length e, length-append x y))

-- a final window tells the first verdict that is to come, and what comes behind it
first_verdict : (r : Standing) (rest : List ℕ) → (r.ended ≡ true → rest ≡ []) → r.tally.unread ≡ 0 → eqb (length r.window) 0 ≡ false → is_final r.window r.ended ≡ true
    → remaining r rest ≡ verdict_read (read_any r.window) ∷ remaining (with_report r) rest
unfolding remaining with_report
first_verdict r rest h unread some final =
    rw (eq-eqb r.tally.unread 0 unread, verdicts_step (r.window ++ rest) (omega (arith, length-append r.window rest, nonempty)), sym same)
    (ap (λ (vs : List Verdict). verdict_read (read_any r.window) ∷ vs) (go (is_done (read_any r.window).answer) refl))
  where
    nonempty : 1 ≤ length r.window
    nonempty = let z = eqb-false (length r.window) 0 some in omega arith

    seam : take (length r.window) (r.window ++ rest) ≡ r.window
    seam = take-append_seam r.window rest

    no_more : r.ended ≡ true → length (r.window ++ rest) ≤ length r.window
    no_more e = omega (arith, length-append r.window rest, ap length (h e))

    same : read_any r.window ≡ read_any (r.window ++ rest)
    same = rw seam at (judges.window (r.window ++ rest) (length r.window) r.ended no_more (rw seam final))

    go : (d : Bool) → is_done (read_any r.window).answer ≡ d
        → cond d (verdicts_of (drop (read_any r.window).taken (r.window ++ rest))) []
        ≡ cond (eqb (counted_with r.tally (verdict_read (read_any r.window))).unread 0) (verdicts_of (drop (read_any r.window).taken r.window ++ rest)) []
    go true d =
        let done = done_is (read_any r.window).answer d in
        let stays = unread_stays r.tally (verdict_read (read_any r.window)) (λ line column. judges.read r.window line column done) in
        rw (
          eq-eqb (counted_with r.tally (verdict_read (read_any r.window))).unread 0 (stays ∙ unread),
          drop-append-le (read_any r.window).taken r.window rest (any_inside r.window done).1,
        )
    go false d =
        let counts = ap (λ (v : Verdict). (counted_with r.tally v).unread) (judges.unread r.window d) in
        rw (ne_eqb (counted_with r.tally (verdict_read (read_any r.window))).unread 0 (λ (z : (counted_with r.tally (verdict_read (read_any r.window))).unread ≡ 0). omega (arith, counts)))

-- a report
keeps_report : (r : Standing) (had wrote said : List ℕ) → Keeps r had wrote said → r.stage ≡ Judge → r.tally.unread ≡ 0 → eqb (length r.window) 0 ≡ false
    → is_final r.window r.ended ≡ true → Keeps (with_report r) had wrote said
unfolding with_report
keeps_report r had wrote said k judging unread some final =
    record {
      verdicts = k.verdicts ++ verdict ∷ [];
      counted = ap (λ (t : Tally). counted_with t verdict) k.counted ∙ sym (counted_behind none k.verdicts verdict);
      ahead = λ rest h.
          append_assoc k.verdicts (verdict ∷ []) (remaining (with_report r) rest)
          ∙ ap (λ (vs : List Verdict). k.verdicts ++ vs) (sym (first_verdict r rest h unread some final))
          ∙ k.ahead rest h;
      output =
          ap₂ (λ (l : List ℕ) (n : ℕ). l ++ report_text n verdict) written number
          ∙ sym (reports_append 1 k.verdicts (verdict ∷ []) ∙ ap (λ (l : List ℕ). reports_from 1 k.verdicts ++ l) (append-nil _));
      words = rw unsaid;
      ends = λ e. absurd (false≢true e);
      reads = λ e. absurd (false≢true e);
      leaves = λ e. omega (arith, length_report (records_of r.tally + 1) verdict);
    }
  where
    verdict : Verdict
    verdict = verdict_read (read_any r.window)

    number : records_of r.tally + 1 ≡ 1 + length k.verdicts
    number = omega (arith, ap records_of k.counted, records_counted none k.verdicts)

    written : wrote ≡ reports_from 1 k.verdicts
    written = sym (append-nil wrote) ∙ ap (λ (s : Stage). wrote ++ report_left s r.left) (sym judging) ∙ k.output

    unsaid : said ≡ []
    unsaid = no_front said (last_words r.tally) (ap (λ (s : Stage). said ++ words_left s r.left (last_words r.tally)) (sym judging) ∙ k.words)

-- a window that is not final is not all of the input
not_final : (window : List ℕ) (ended : Bool) → is_final window ended ≡ false → ended ≡ false
not_final window false e = refl
not_final window true e = e

-- none of two ways to none
both_none : (t : Bool) (verdicts : List Verdict) → verdicts ≡ [] → cond t verdicts [] ≡ []
both_none true verdicts e = e
both_none false verdicts e = refl

-- what stands in the window
keeps_looked : (r : Standing) (had wrote said : List ℕ) → Keeps r had wrote said → r.stage ≡ Judge → Keeps (looked r) had wrote said
unfolding looked remaining
keeps_looked r had wrote said k judging =
    go (eqb r.tally.unread 0) (eqb (records_of r.tally + 1) largest) (eqb (length r.window) 0) r.ended (is_final r.window r.ended) refl refl refl refl
  where
    after : (stage : Stage) → report_left stage r.left ≡ [] → words_left stage r.left (last_words r.tally) ≡ last_words r.tally
        → (is_end stage ≡ true → (rest : List ℕ) → (r.ended ≡ true → rest ≡ []) → remaining r rest ≡ []) → (is_reading stage ≡ true → r.ended ≡ false) → is_left stage ≡ false
        → Keeps (next stage r) had wrote said
    after = keeps_next r had wrote said k judging

    go : (u m w e f : Bool) → eqb r.tally.unread 0 ≡ u → eqb (length r.window) 0 ≡ w → r.ended ≡ e → is_final r.window r.ended ≡ f
        → Keeps (cond u (cond m (next (Over TooMany) r) (cond w (next (cond e Close Read) r) (cond f (with_report r) (next Read r)))) (next Close r)) had wrote said
    go true true w e f eu ew ee ef = after (Over TooMany) refl refl (λ z. absurd (false≢true z)) (λ z. absurd (false≢true z)) refl
    go true false true true f eu ew ee ef =
        after Close refl refl
        (λ z rest h. both_none (eqb r.tally.unread 0) (verdicts_of (r.window ++ rest))
        (ap₂ (λ (x y : List ℕ). verdicts_of (x ++ y)) (no_length r.window (eqb-true (length r.window) 0 ew)) (h ee) ∙ no_verdicts))
        (λ z. absurd (false≢true z)) refl
    go true false true false f eu ew ee ef = after Read refl refl (λ z. absurd (false≢true z)) (λ z. ee) refl
    go true false false e true eu ew ee ef = keeps_report r had wrote said k judging (eqb-true r.tally.unread 0 eu) ew ef
    go true false false e false eu ew ee ef = after Read refl refl (λ z. absurd (false≢true z)) (λ z. not_final r.window r.ended ef) refl
    go false m w e f eu ew ee ef = after Close refl refl (λ z rest h. rw eu) (λ z. absurd (false≢true z)) refl

-- judging, where that is next
keeps_judged : (r : Standing) (had wrote said : List ℕ) → Keeps r had wrote said → Keeps (judged r) had wrote said
keeps_judged r had wrote said k = go (is_judging r.stage) refl
  where
    go : (t : Bool) → is_judging r.stage ≡ t → Keeps (cond t (looked r) r) had wrote said
    go true e = keeps_looked r had wrote said k (judging_is r.stage e)
    go false e = k

-- the end, where that is next
keeps_closed : (r : Standing) (had wrote said : List ℕ) → Keeps r had wrote said → Keeps (closed r) had wrote said
keeps_closed r had wrote said k = go (is_closing r.stage) refl
  where
    go : (t : Bool) → is_closing r.stage ≡ t
        → Keeps (cond t (record { window = r.window; ended = r.ended; tally = r.tally; left = last_words r.tally; stage = Say }) r) had wrote said
    go true e =
        let stage = closing_is r.stage e in
        keeps_with r had wrote said k (last_words r.tally) Say wrote said (ap (λ (s : Stage). wrote ++ report_left s r.left) (sym stage))
        (ap (λ (s : Stage). said ++ words_left s r.left (last_words r.tally)) (sym stage)) (λ z. ap is_end stage) (λ z. absurd (false≢true z)) (λ z. words_some r.tally)
    go false e = k

-- ---- turns

-- one turn
pub keeps_turned : (r : Standing) (had wrote said : List ℕ) → Keeps r had wrote said → (reply : Reply)
    → Keeps (turned r reply) (had ++ from_input r reply) (wrote ++ to_output r reply) (said ++ to_error r reply)
unfolding turned
keeps_turned r had wrote said k reply = keeps_closed _ _ _ _ (keeps_judged _ _ _ _ (keeps_heard r had wrote said k reply))

-- turn after turn
pub keeps_ran : (r : Standing) (had wrote said : List ℕ) → Keeps r had wrote said → (replies : List Reply)
    → Keeps (ran_from r replies) (had ++ joined from_input r replies) (wrote ++ joined to_output r replies) (said ++ joined to_error r replies)
keeps_ran r had wrote said k [] = rw (append-nil had, append-nil wrote, append-nil said) k
keeps_ran r had wrote said k (reply ∷ replies) =
    rw (
      ← append_assoc had (from_input r reply) (joined from_input (turned r reply) replies),
      ← append_assoc wrote (to_output r reply) (joined to_output (turned r reply) replies),
      ← append_assoc said (to_error r reply) (joined to_error (turned r reply) replies),
    )
    (keeps_ran (turned r reply) _ _ _ (keeps_turned r had wrote said k reply) replies)
