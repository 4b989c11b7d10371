-- The program's run keeps its promises.
use mathlib.Core.Path.{◌≡◌, refl, sym, ap, ap₂, ◌∙◌}
use mathlib.Core.Bool.{Bool, true, false, cond, ◌||◌, false≢true, true≢false}
use mathlib.Core.List.{List, [], ◌∷◌, ◌++◌, append-nil, append_assoc}
use mathlib.Core.Logic.{◌⊎◌, inl, inr, ⊎_elim}
use Prim.Native.Nat.{ℕ, zero, suc, ◌+◌, ◌≤◌, ◌<◌}
use native.Mathlib.Omega.{arith}
use lib.Dec.{eqb}
use lib.ListN.{length, take, drop, length-append, length-map}
use borrow.Author.Tests.{eqb-true, eqb-false, eq-eqb, ne_eqb}
use Rattle.digits.specs.Ascii.{ascii}
use Rattle.digits.specs.Numbers.{places, numeral}
use Rattle.record.specs.Calls.{form_of}
use Rattle.record.specs.Laws.{WrongAt}
use Rattle.report.specs.declared.Verdict.{Verdict}
use Rattle.report.specs.declared.Verdict.TheVariants.{Unread}
use Rattle.judge.specs.Steps.{is_final, verdicts_of, reports_from, output_from}
use Rattle.judge.specs.Laws.{Entry, AllInForm, texts_of, verdicts_on}
use Rattle.judge.specs.Verdicts.{verdict_on}
use Rattle.judge.proofs.Laws.{judges}
use Rattle.judge.proofs.Outputs.{reports_append}
use Rattle.turns.specs.declared.Ending.{Ending}
use Rattle.turns.specs.declared.Ending.TheVariants.{Said, ReadFailed, WriteFailed, SayFailed, TooMany}
use Rattle.turns.specs.declared.Stage.{Stage}
use Rattle.turns.specs.declared.Stage.TheVariants.{Judge, Close, Read, Write, Say, Over}
use Rattle.turns.specs.declared.Tally.{Tally}
use Rattle.turns.specs.Tallies.{none, counted_with, counted_all, records_of, largest, numbered, end_line, fault_line, last_words}
use Rattle.turns.specs.Run.{Standing, Reply, Came, Took, Again, Failed, begun, next, is_judging, is_closing, is_reading, is_writing, asks, behind, failed, with_report, looked, judged, closed, came, took, heard, turned, ran_from, joined, from_input, output_at, to_output, error_at, to_error, ran, delivered, written, said, Choice, Moves, Interrupts, Breaks, reply_to, played_from, played, moves, breaks}
use Rattle.turns.specs.Laws.{Of, words_on, enough, WholeReports}
use Rattle.turns.proofs.Tallies.{counted_more, counted_behind, records_counted, words_some}
use Rattle.turns.proofs.Turns.{ran_append}
use Rattle.turns.proofs.Waits.{at_once}
use Rattle.turns.proofs.Keeps.{remaining, report_left, words_left, is_left, is_end, Keeps, keeps_begun, keeps_heard, keeps_turned, keeps_ran}

-- ---- what is written and said

-- all turns keep what the first keeps
kept : (replies : List Reply) → Keeps (ran replies) (delivered replies) (written replies) (said replies)
kept replies = keeps_ran begun [] [] [] keeps_begun replies

-- the output of an input is what is written, what is left of the last report, and the reports on the verdicts that are to come
output_of : (r : Standing) (had wrote said : List ℕ) (k : Keeps r had wrote said) (rest : List ℕ) → (r.ended ≡ true → rest ≡ [])
    → output_from 1 (had ++ rest) ≡ wrote ++ (report_left r.stage r.left ++ reports_from (1 + length k.verdicts) (remaining r rest))
unfolding output_from
output_of r had wrote said k rest h =
    let more = reports_from (1 + length k.verdicts) (remaining r rest) in
    ap (reports_from 1) (sym (k.ahead rest h))
    ∙ reports_append 1 k.verdicts (remaining r rest)
    ∙ ap (λ (l : List ℕ). l ++ more) (sym k.output)
    ∙ append_assoc wrote (report_left r.stage r.left) more

-- at the end all verdicts are counted
words_of : (r : Standing) (had wrote said : List ℕ) (k : Keeps r had wrote said) (rest : List ℕ) → (r.ended ≡ true → rest ≡ []) → is_end r.stage ≡ true
    → last_words r.tally ≡ words_on (had ++ rest)
unfolding words_on
words_of r had wrote said k rest h e =
    ap last_words k.counted
    ∙ ap (λ (vs : List Verdict). last_words (counted_all none vs))
    (sym (append-nil k.verdicts) ∙ ap (λ (vs : List Verdict). k.verdicts ++ vs) (sym (k.ends e rest h)) ∙ k.ahead rest h)

-- what is written is the beginning of the output
pub begins : (replies : List Reply) (input : List ℕ) → Of replies input → (more : List ℕ) × (output_from 1 input ≡ written replies ++ more)
begins replies input o = (_, ap (output_from 1) o.begins ∙ output_of (ran replies) _ _ _ (kept replies) o.rest o.whole)

-- where the end is said, all is written, and the last words are those on the input
pub whole : (replies : List Reply) (input : List ℕ) → Of replies input → (ran replies).stage ≡ Over Said
    → (written replies ≡ output_from 1 input) × (said replies ≡ words_on input)
whole replies input o stage =
    let k = kept replies in (
      sym
          (ap (output_from 1) o.begins
          ∙ output_of (ran replies) _ _ _ k o.rest o.whole
          ∙ ap₂ (λ (s : Stage) (vs : List Verdict). written replies ++ (report_left s (ran replies).left ++ reports_from (1 + length k.verdicts) vs)) stage
          (k.ends (ap is_end stage) o.rest o.whole)
          ∙ append-nil (written replies)),
      sym (append-nil (said replies))
          ∙ ap (λ (s : Stage). said replies ++ words_left s (ran replies).left (last_words (ran replies).tally)) (sym stage)
          ∙ k.words
          ∙ words_of (ran replies) _ _ _ k o.rest o.whole (ap is_end stage)
          ∙ ap words_on (sym o.begins),
    )

-- where it is not, the last words lack their last byte at the least
pub unsaid : (replies : List Reply) → ((ran replies).stage ≡ Over Said → ⊥)
    → (more : List ℕ) × (last_words (ran replies).tally ≡ said replies ++ more) × (1 ≤ length more)
unsaid replies h = (words_left (ran replies).stage (ran replies).left (last_words (ran replies).tally), sym k.words, some (ran replies).stage refl)
  where
    k : Keeps (ran replies) (delivered replies) (written replies) (said replies)
    k = kept replies

    ended_some : (ending : Ending) → (ran replies).stage ≡ Over ending → 1 ≤ length (words_left (Over ending) (ran replies).left (last_words (ran replies).tally))
    ended_some Said e = absurd (h e)
    ended_some ReadFailed e = words_some (ran replies).tally
    ended_some WriteFailed e = words_some (ran replies).tally
    ended_some SayFailed e = k.leaves (ap is_left e)
    ended_some TooMany e = words_some (ran replies).tally

    some : (stage : Stage) → (ran replies).stage ≡ stage → 1 ≤ length (words_left stage (ran replies).left (last_words (ran replies).tally))
    some Judge e = words_some (ran replies).tally
    some Close e = words_some (ran replies).tally
    some Read e = words_some (ran replies).tally
    some Write e = words_some (ran replies).tally
    some Say e = k.leaves (ap is_left e)
    some (Over ending) e = ended_some ending e

-- ---- after a failure

-- a run that asks something, or nothing, has nothing to judge and nothing to close
idle : (r : Standing) → is_judging r.stage ≡ false → is_closing r.stage ≡ false → closed (judged r) ≡ r
idle r judging closing = rw (judging, closing)

-- the same run with the stage that it has
same_stage : (r : Standing) (stage : Stage) → stage ≡ r.stage → next stage r ≡ r
same_stage r stage e = ap (λ (s : Stage). next s r) e

-- a run that is over hears nothing
over_turned : (r : Standing) (ending : Ending) → r.stage ≡ Over ending → (reply : Reply) → turned r reply ≡ r
unfolding turned
over_turned r ending e reply = ap (λ (q : Standing). closed (judged q)) (hears reply) ∙ idle r (ap is_judging e) (ap is_closing e)
  where
    hears : (reply : Reply) → heard r reply ≡ r
    hears (Came bytes) = rw (ap is_reading e)
    hears (Took n) = rw (ap is_writing e)
    hears Again = refl
    hears Failed = same_stage r (failed r.stage) (ap failed e ∙ sym e)

-- and stays as it is
pub over_stays : (r : Standing) (ending : Ending) → r.stage ≡ Over ending → (replies : List Reply) → ran_from r replies ≡ r
over_stays r ending e [] = refl
over_stays r ending e (reply ∷ replies) = ap (λ (q : Standing). ran_from q replies) (over_turned r ending e reply) ∙ over_stays r ending e replies

-- how a call that failed ends a run that asked it, and that this is not the proper end
failed_over : (stage : Stage) → asks stage ≡ true → (ending : Ending) × (failed stage ≡ Over ending) × (Over ending ≡ Over Said → ⊥)
failed_over Judge a = absurd (false≢true a)
failed_over Close a = absurd (false≢true a)
failed_over Read a = (ReadFailed, refl, λ e. let z : ◌≡◌ {A = ℕ} 0 1 = cc in omega arith)
failed_over Write a = (WriteFailed, refl, λ e. let z : ◌≡◌ {A = ℕ} 0 1 = cc in omega arith)
failed_over Say a = (SayFailed, refl, λ e. let z : ◌≡◌ {A = ℕ} 0 1 = cc in omega arith)
failed_over (Over ending) a = absurd (false≢true a)

-- a run that heard a failure, however it was told
stopped : (before after : List Reply) (reply : Reply) → asks (ran before).stage ≡ true → heard (ran before) reply ≡ next (failed (ran before).stage) (ran before)
    → (ran (before ++ reply ∷ after)).stage ≡ Over Said → ⊥
unfolding turned
stopped before after reply a heard_is e =
    let r = ran before in
    let f = failed_over r.stage a in
    let q = next (failed r.stage) r in
    let turned-is : turned r reply ≡ q = ap (λ (s : Standing). closed (judged s)) heard_is ∙ idle q (ap is_judging f.1) (ap is_closing f.1) in
    f.2
    (sym f.1
    ∙ ap (λ (s : Standing). s.stage) (sym (over_stays q f.0 f.1 after))
    ∙ ap (λ (s : Standing). (ran_from s after).stage) (sym turned-is)
    ∙ ap (λ (s : Standing). s.stage) (sym (ran_append begun before (reply ∷ after)))
    ∙ e)

-- after a call that failed the end is never said
pub fails : (before after : List Reply) → asks (ran before).stage ≡ true → (ran (before ++ Failed ∷ after)).stage ≡ Over Said → ⊥
fails before after a = stopped before after Failed a refl

-- and a write that takes no byte is one
pub no_byte : (before after : List Reply) → is_writing (ran before).stage ≡ true → (ran (before ++ Took 0 ∷ after)).stage ≡ Over Said → ⊥
unfolding took
no_byte before after w = stopped before after (Took 0) (writing_asks (ran before).stage w) (rw w)
  where
    or_true : (t : Bool) → (t || true) ≡ true
    or_true true = refl
    or_true false = refl

    writing_asks : (s : Stage) → is_writing s ≡ true → asks s ≡ true
    writing_asks s e = rw e (or_true (is_reading s))

-- ---- an operating system that has an input

-- what is taken of a list and what is left are the list
front : (n : ℕ) (l : List ℕ) → l ≡ take n l ++ drop (length (take n l)) l
front zero l = refl
front (suc n) [] = refl
front (suc n) (x ∷ l) = ap (λ (m : List ℕ). x ∷ m) (front n l)

-- judging and closing leave the end of the input alone
judged_ended : (r : Standing) → (judged r).ended ≡ r.ended
unfolding looked with_report
judged_ended r = go (is_judging r.stage) (eqb r.tally.unread 0) (eqb (records_of r.tally + 1) largest) (eqb (length r.window) 0) (is_final r.window r.ended)
  where
    go : (j u m w f : Bool)
        → (cond j (cond u (cond m (next (Over TooMany) r) (cond w (next (cond r.ended Close Read) r) (cond f (with_report r) (next Read r)))) (next Close r)) r).ended
        ≡ r.ended
    go true true true w f = refl
    go true true false true f = refl
    go true true false false true = refl
    go true true false false false = refl
    go true false m w f = refl
    go false u m w f = refl

closed_ended : (r : Standing) → (closed r).ended ≡ r.ended
closed_ended r = go (is_closing r.stage)
  where
    go : (t : Bool) → (cond t (record { window = r.window; ended = r.ended; tally = r.tally; left = last_words r.tally; stage = Say }) r).ended ≡ r.ended
    go true = refl
    go false = refl

-- and so does what is written
took_ended : (n : ℕ) (r : Standing) → (took n r).ended ≡ r.ended
unfolding took
took_ended n r = go (eqb n 0)
  where
    go : (t : Bool)
        → (cond t (next (failed r.stage) r)
        (record {
          window = r.window;
          ended = r.ended;
          tally = r.tally;
          left = drop n r.left;
          stage = cond (eqb (length (drop n r.left)) 0) (behind r.stage) r.stage;
        })
        ).ended
        ≡ r.ended
    go true = refl
    go false = refl

-- the end of the input is told by an answer alone
turned_ended : (r : Standing) (reply : Reply) → (turned r reply).ended ≡ (heard r reply).ended
unfolding turned
turned_ended r reply = closed_ended (judged (heard r reply)) ∙ judged_ended (heard r reply)

came_ended : (r : Standing) (bytes : List ℕ) → is_reading r.stage ≡ true → (turned r (Came bytes)).ended ≡ eqb (length bytes) 0
unfolding came
came_ended r bytes reading = turned_ended r (Came bytes) ∙ rw reading

wrote_ended : (r : Standing) (n : ℕ) → (turned r (Took n)).ended ≡ r.ended
wrote_ended r n = turned_ended r (Took n) ∙ go (is_writing r.stage)
  where
    go : (t : Bool) → (cond t (took n r) r).ended ≡ r.ended
    go true = took_ended n r
    go false = refl

-- no byte came, so nothing is left
nothing_came : (n : ℕ) (input : List ℕ) → eqb (length (take (suc n) input)) 0 ≡ true → drop (length (take (suc n) input)) input ≡ []
nothing_came n [] e = refl
nothing_came n (x ∷ input) e = absurd (omega (arith, eqb-true (length (take (suc n) (x ∷ input))) 0 e))

-- one answer of an operating system delivers the beginning of what it has left, and tells the end only where nothing is left
one_answer : (r : Standing) (input : List ℕ) (choice : Choice) → (r.ended ≡ true → input ≡ []) → let reply = reply_to r input choice in
    let left = drop (length (from_input r reply)) input in
    (input ≡ from_input r reply ++ left) × ((turned r reply).ended ≡ true → left ≡ [])
one_answer r input Interrupts h = (refl, λ e. h (sym (turned_ended r Again) ∙ e))
one_answer r input Breaks h = (refl, λ e. h (sym (turned_ended r Failed) ∙ e))
one_answer r input (Moves n) h = go (is_reading r.stage) refl
  where
    go : (t : Bool) → is_reading r.stage ≡ t → let reply = cond t (Came (take (suc n) input)) (Took (suc n)) in
        let left = drop (length (from_input r reply)) input in
        (input ≡ from_input r reply ++ left) × ((turned r reply).ended ≡ true → left ≡ [])
    go true reading = (rw reading (front (suc n) input), λ e. rw reading (nothing_came n input (sym (came_ended r (take (suc n) input) reading) ∙ e)))
    go false reading = (refl, λ e. h (sym (wrote_ended r (suc n)) ∙ e))

-- the answers are of that input
answers_from : (r : Standing) (input : List ℕ) (choices : List Choice) → (r.ended ≡ true → input ≡ [])
    → (rest : List ℕ) × (input ≡ joined from_input r (played_from r input choices) ++ rest) × ((ran_from r (played_from r input choices)).ended ≡ true → rest ≡ [])
answers_from r input [] h = (input, refl, h)
answers_from r input (choice ∷ choices) h =
    let reply = reply_to r input choice in
    let left = drop (length (from_input r reply)) input in
    let one = one_answer r input choice h in
    let rest = answers_from (turned r reply) left choices one.1 in (
      rest.0,
      one.0 ∙ ap (λ (l : List ℕ). from_input r reply ++ l) rest.1 ∙ sym (append_assoc (from_input r reply) (joined from_input (turned r reply) (played_from (turned r reply) left choices)) rest.0),
      rest.2,
    )

pub answers : (input : List ℕ) (choices : List Choice) → Of (played input choices) input
answers input choices =
    let a = answers_from begun input choices (λ e. absurd (false≢true e)) in
    record { rest = a.0; begins = a.1; whole = a.2 }

-- ---- the end is reached

-- stages that a run without failures has between its turns
abbrev fine_over : Ending → Bool
fine_over Said = true
fine_over ReadFailed = false
fine_over WriteFailed = false
fine_over SayFailed = false
fine_over TooMany = false

abbrev is_fine : Stage → Bool
is_fine Judge = false
is_fine Close = false
is_fine Read = true
is_fine Write = true
is_fine Say = true
is_fine (Over ending) = fine_over ending

-- and within a turn
abbrev is_good : Stage → Bool
is_good Judge = true
is_good Close = true
is_good Read = true
is_good Write = true
is_good Say = true
is_good (Over ending) = fine_over ending

-- a fine stage asks something, or the end is said
fine_is : (s : Stage) → is_fine s ≡ true → (asks s ≡ true) ⊎ (s ≡ Over Said)
fine_is Judge f = absurd (false≢true f)
fine_is Close f = absurd (false≢true f)
fine_is Read f = inl refl
fine_is Write f = inl refl
fine_is Say f = inl refl
fine_is (Over Said) f = inr refl
fine_is (Over ReadFailed) f = absurd (false≢true f)
fine_is (Over WriteFailed) f = absurd (false≢true f)
fine_is (Over SayFailed) f = absurd (false≢true f)
fine_is (Over TooMany) f = absurd (false≢true f)

fine_good : (s : Stage) → is_fine s ≡ true → is_good s ≡ true
fine_good Judge f = refl
fine_good Close f = refl
fine_good Read f = refl
fine_good Write f = refl
fine_good Say f = refl
fine_good (Over ending) f = f

behind_good : (s : Stage) → is_writing s ≡ true → (is_good (behind s) ≡ true) × (is_good s ≡ true)
behind_good Judge w = absurd (false≢true w)
behind_good Close w = absurd (false≢true w)
behind_good Read w = absurd (false≢true w)
behind_good Write w = (refl, refl)
behind_good Say w = (refl, refl)
behind_good (Over ending) w = absurd (false≢true w)

-- an answer that is no failure leaves a good stage
heard_good : (r : Standing) (input : List ℕ) (choice : Choice) → is_fine r.stage ≡ true → breaks (choice ∷ []) ≡ 0 → is_good (heard r (reply_to r input choice)).stage ≡ true
unfolding came took
heard_good r input Interrupts f b = fine_good r.stage f
heard_good r input Breaks f b = absurd (omega arith)
heard_good r input (Moves n) f b = go (is_reading r.stage) refl
  where
    wrote : (t u : Bool) → is_writing r.stage ≡ t
        → is_good (cond t (record { window = r.window; ended = r.ended; tally = r.tally; left = drop (suc n) r.left; stage = cond u (behind r.stage) r.stage }) r).stage ≡ true
    wrote true true w = (behind_good r.stage w).0
    wrote true false w = (behind_good r.stage w).1
    wrote false u w = fine_good r.stage f

    go : (t : Bool) → is_reading r.stage ≡ t → is_good (heard r (cond t (Came (take (suc n) input)) (Took (suc n)))).stage ≡ true
    go true reading = rw reading
    go false reading = rw (ne_eqb (suc n) 0 (λ e. omega arith)) (wrote (is_writing r.stage) (eqb (length (drop (suc n) r.left)) 0) refl)

-- judging leaves a good stage that does not judge, where the next record has a number
judged_good : (r : Standing) → is_good r.stage ≡ true → (records_of r.tally + 1 ≡ largest → ⊥) → (is_good (judged r).stage ≡ true) × (is_judging (judged r).stage ≡ false)
unfolding looked with_report
judged_good r good numbers =
    go (is_judging r.stage) (eqb r.tally.unread 0) (eqb (records_of r.tally + 1) largest) (eqb (length r.window) 0) r.ended (is_final r.window r.ended) refl refl
  where
    go : (j u m w e f : Bool) → is_judging r.stage ≡ j → eqb (records_of r.tally + 1) largest ≡ m
        → let q : Standing = cond j (cond u (cond m (next (Over TooMany) r) (cond w (next (cond e Close Read) r) (cond f (with_report r) (next Read r)))) (next Close r)) r in
        (is_good q.stage ≡ true) × (is_judging q.stage ≡ false)
    go true true true w e f ej em = absurd (numbers (eqb-true (records_of r.tally + 1) largest em))
    go true true false true true f ej em = (refl, refl)
    go true true false true false f ej em = (refl, refl)
    go true true false false e true ej em = (refl, refl)
    go true true false false e false ej em = (refl, refl)
    go true false m w e f ej em = (refl, refl)
    go false u m w e f ej em = (good, ej)

-- closing makes it fine
closed_fine : (r : Standing) → is_good r.stage ≡ true → is_judging r.stage ≡ false → is_fine (closed r).stage ≡ true
closed_fine r good judging = go (is_closing r.stage) refl
  where
    fine : (s : Stage) → is_good s ≡ true → is_judging s ≡ false → is_closing s ≡ false → is_fine s ≡ true
    fine Judge g j c = absurd (true≢false j)
    fine Close g j c = absurd (true≢false c)
    fine Read g j c = refl
    fine Write g j c = refl
    fine Say g j c = refl
    fine (Over ending) g j c = g

    go : (t : Bool) → is_closing r.stage ≡ t
        → is_fine (cond t (record { window = r.window; ended = r.ended; tally = r.tally; left = last_words r.tally; stage = Say }) r).stage ≡ true
    go true c = refl
    go false c = fine r.stage good judging c

-- ---- how far a run has come

-- bytes delivered, written and said, and one for the end of the input
abbrev far : Bool → List ℕ → List ℕ → List ℕ → ℕ
far ended had wrote said = length had + cond ended 1 0 + length wrote + length said

-- what a stage that writes takes goes to one of both
moved_all_lem : (s : Stage) → is_writing s ≡ true → (bytes : List ℕ) → length (output_at s bytes) + length (error_at s bytes) ≡ length bytes
moved_all_lem Judge w bytes = absurd (false≢true w)
moved_all_lem Close w bytes = absurd (false≢true w)
moved_all_lem Read w bytes = absurd (false≢true w)
moved_all_lem Write w bytes = omega arith
moved_all_lem Say w bytes = omega arith
moved_all_lem (Over ending) w bytes = absurd (false≢true w)

-- bytes that came, or the end, are one step at the least
some_came : (k : ℕ) → 1 ≤ k + cond (eqb k 0) 1 0
some_came k = go (eqb k 0) refl
  where
    go : (t : Bool) → eqb k 0 ≡ t → 1 ≤ k + cond t 1 0
    go true e = omega arith
    go false e = let z = eqb-false k 0 e in omega arith

-- a stage that writes has something left
writing_leaves : (s : Stage) → is_writing s ≡ true → is_left s ≡ true
writing_leaves Judge w = w
writing_leaves Close w = w
writing_leaves Read w = w
writing_leaves Write w = refl
writing_leaves Say w = refl
writing_leaves (Over ending) w = absurd (false≢true w)

-- of a list that is not empty a byte at the least is taken
some_taken : (n : ℕ) (l : List ℕ) → 1 ≤ length l → 1 ≤ length (take (suc n) l)
some_taken n [] h = h
some_taken n (x ∷ l) h = omega arith

-- a call that moves bytes brings the run farther
goes_farther : (r : Standing) (had wrote said input : List ℕ) (n : ℕ) → Keeps r had wrote said → asks r.stage ≡ true → let reply = reply_to r input (Moves n) in
    far r.ended had wrote said + 1 ≤ far (turned r reply).ended (had ++ from_input r reply) (wrote ++ to_output r reply) (said ++ to_error r reply)
goes_farther r had wrote said input n k a = go (is_reading r.stage) refl
  where
    go : (t : Bool) → is_reading r.stage ≡ t → let reply = cond t (Came (take (suc n) input)) (Took (suc n)) in
        far r.ended had wrote said + 1 ≤ far (turned r reply).ended (had ++ from_input r reply) (wrote ++ to_output r reply) (said ++ to_error r reply)
    go true reading =
        let bytes = take (suc n) input in
        rw (came_ended r bytes reading, reading, k.reads reading)
        (omega (arith, length-append had bytes, length-append wrote (output_at r.stage []), length-append said (error_at r.stage []), some_came (length bytes)))
    go false reading =
        let writing : is_writing r.stage ≡ true = rw reading at a in
        let bytes = take (suc n) r.left in
        rw (wrote_ended r (suc n))
        (omega
        (arith, length-append had [], length-append wrote (output_at r.stage bytes), length-append said (error_at r.stage bytes), moved_all_lem r.stage writing bytes, some_taken n r.left (k.leaves (writing_leaves r.stage writing))))

-- a signal takes it no way back
goes_on : (r : Standing) (had wrote said : List ℕ) → far r.ended had wrote said ≤ far (turned r Again).ended (had ++ []) (wrote ++ to_output r Again) (said ++ to_error r Again)
goes_on r had wrote said =
    rw (turned_ended r Again) (omega (arith, length-append had [], length-append wrote (output_at r.stage []), length-append said (error_at r.stage [])))

-- a run that has come so far as is enough has said the end
far_enough : (r : Standing) (had wrote said rest : List ℕ) → Keeps r had wrote said → is_fine r.stage ≡ true → (r.ended ≡ true → rest ≡ [])
    → enough (had ++ rest) ≤ far r.ended had wrote said → r.stage ≡ Over Said
unfolding enough words_on
far_enough r had wrote said rest k fine h here = go r.stage refl
  where
    one : (t : Bool) → cond t 1 0 ≤ 1
    one true = omega arith
    one false = omega arith

    output : length (output_from 1 (had ++ rest)) ≡ length wrote + length (report_left r.stage r.left ++ reports_from (1 + length k.verdicts) (remaining r rest))
    output = ap length (output_of r had wrote said k rest h) ∙ length-append wrote _

    words : length said + length (words_left r.stage r.left (last_words r.tally)) ≡ length (last_words r.tally)
    words = sym (length-append said _) ∙ ap length k.words

    not_yet : length said < length (words_on (had ++ rest)) → ⊥
    not_yet less = omega (arith, length-append had rest, one r.ended, output)

    unsaid_yet : length (words_left r.stage r.left (last_words r.tally)) ≡ length (last_words r.tally) → ⊥
    unsaid_yet e = not_yet (omega (arith, words, words_some (counted_all none (verdicts_of (had ++ rest)))))

    go : (s : Stage) → r.stage ≡ s → s ≡ Over Said
    go Judge e = absurd (false≢true (sym (ap is_fine e) ∙ fine))
    go Close e = absurd (false≢true (sym (ap is_fine e) ∙ fine))
    go Read e = absurd (unsaid_yet (ap (λ (s : Stage). length (words_left s r.left (last_words r.tally))) e))
    go Write e = absurd (unsaid_yet (ap (λ (s : Stage). length (words_left s r.left (last_words r.tally))) e))
    go Say e =
        let left = ap (λ (s : Stage). length (words_left s r.left (last_words r.tally))) e in
        absurd (not_yet (omega (arith, words, k.leaves (ap is_left e), ap length (words_of r had wrote said k rest h (ap is_end e)))))
    go (Over Said) e = refl
    go (Over ReadFailed) e = absurd (false≢true (sym (ap is_fine e) ∙ fine))
    go (Over WriteFailed) e = absurd (false≢true (sym (ap is_fine e) ∙ fine))
    go (Over SayFailed) e = absurd (false≢true (sym (ap is_fine e) ∙ fine))
    go (Over TooMany) e = absurd (false≢true (sym (ap is_fine e) ∙ fine))

-- ---- the promise

-- the records that were judged are no more than the input has
few_records : (r : Standing) (had wrote said rest : List ℕ) → Keeps r had wrote said → (r.ended ≡ true → rest ≡ []) → records_of r.tally ≤ length (verdicts_of (had ++ rest))
few_records r had wrote said rest k h =
    omega (arith, ap records_of k.counted, records_counted none k.verdicts, ap length (k.ahead rest h), length-append k.verdicts (remaining r rest))

-- a turn without failure is fine again
turned_fine : (r : Standing) (had wrote said input : List ℕ) (choice : Choice) → Keeps r had wrote said → is_fine r.stage ≡ true → breaks (choice ∷ []) ≡ 0
    → (r.ended ≡ true → input ≡ []) → length (verdicts_of (had ++ input)) + 1 < largest → is_fine (turned r (reply_to r input choice)).stage ≡ true
unfolding turned
turned_fine r had wrote said input choice k fine unbroken h few =
    let reply = reply_to r input choice in
    let q = heard r reply in
    let left = drop (length (from_input r reply)) input in
    let one = one_answer r input choice h in
    let heard-kept = keeps_heard r had wrote said k reply in
    let all : (had ++ from_input r reply) ++ left ≡ had ++ input = append_assoc had (from_input r reply) left ∙ ap (λ (l : List ℕ). had ++ l) (sym one.0) in
    let records = few_records q _ _ _ left heard-kept (λ e. one.1 (turned_ended r reply ∙ e)) in
    let judged-fine = judged_good q (heard_good r input choice fine unbroken) (λ (e : records_of q.tally + 1 ≡ largest). omega (arith, ap (λ (l : List ℕ). length (verdicts_of l)) all)) in
    closed_fine (judged q) judged-fine.0 judged-fine.1

-- a call that does not fail brings the run as much farther as it counts
advances : (r : Standing) (had wrote said input : List ℕ) → Keeps r had wrote said → asks r.stage ≡ true → (choice : Choice) (choices : List Choice) → breaks (choice ∷ choices) ≡ 0
    → let reply = reply_to r input choice in
    (breaks (choice ∷ []) ≡ 0) × (breaks choices ≡ 0)
    × (far r.ended had wrote said + moves (choice ∷ choices)
    ≤ far (turned r reply).ended (had ++ from_input r reply) (wrote ++ to_output r reply) (said ++ to_error r reply) + moves choices)
advances r had wrote said input k asked (Moves n) choices e = (refl, e, omega (arith, goes_farther r had wrote said input n k asked))
advances r had wrote said input k asked Interrupts choices e = (refl, e, omega (arith, goes_on r had wrote said))
advances r had wrote said input k asked Breaks choices e = absurd (omega arith)

-- where no call fails, the end is said after enough calls
ends_from : (choices : List Choice) (r : Standing) (had wrote said input : List ℕ) → Keeps r had wrote said → is_fine r.stage ≡ true → (r.ended ≡ true → input ≡ [])
    → length (verdicts_of (had ++ input)) + 1 < largest → breaks choices ≡ 0 → enough (had ++ input) ≤ far r.ended had wrote said + moves choices
    → (ran_from r (played_from r input choices)).stage ≡ Over Said
ends_from [] r had wrote said input k fine h few unbroken here = far_enough r had wrote said input k fine h (omega arith)
ends_from (choice ∷ choices) r had wrote said input k fine h few unbroken here =
    let reply = reply_to r input choice in
    let left = drop (length (from_input r reply)) input in
    let one = one_answer r input choice h in
    let all : (had ++ from_input r reply) ++ left ≡ had ++ input = append_assoc had (from_input r reply) left ∙ ap (λ (l : List ℕ). had ++ l) (sym one.0) in
    ⊎_elim
    (λ (asked : asks r.stage ≡ true).
    let on = advances r had wrote said input k asked choice choices unbroken in
    ends_from choices (turned r reply) (had ++ from_input r reply) (wrote ++ to_output r reply) (said ++ to_error r reply) left (keeps_turned r had wrote said k reply)
    (turned_fine r had wrote said input choice k fine on.0 h few)
    one.1
    (rw all few)
    on.1
    (rw all (omega (arith, on.2))))
    (λ (over : r.stage ≡ Over Said). ap (λ (q : Standing). q.stage) (over_stays r Said over (played_from r input (choice ∷ choices))) ∙ over)
    (fine_is r.stage fine)

pub ends : (input : List ℕ) (choices : List Choice) → length (verdicts_of input) + 1 < largest → breaks choices ≡ 0 → enough input ≤ moves choices
    → (ran (played input choices)).stage ≡ Over Said
ends input choices few unbroken h = ends_from choices begun [] [] [] input keeps_begun refl (λ e. absurd (false≢true e)) few unbroken (omega arith)

-- the line that ends a run and the last words, spelled out
spelled : (end_line (record { equal = 5_990; differ = 9; unread = 1; line = 4; column = 17 }) ≡ ascii "bench: 6000 records: 5990 equal, 9 differ, 1 unread\n")
    × (end_line none ≡ ascii "bench: 0 records: 0 equal, 0 differ, 0 unread\n")
    × (last_words (record { equal = 1; differ = 1; unread = 1; line = 4; column = 17 })
    ≡ ascii "bench: record 3: line 4, column 17\nbench: 3 records: 1 equal, 1 differ, 1 unread\n")
unfolding last_words fault_line end_line numbered numeral places
spelled = (refl, refl, refl)

-- without an unread record the line is said alone
no_fault : (t : Tally) → t.unread ≡ 0 → last_words t ≡ end_line t
unfolding last_words
no_fault t none = rw (eq-eqb t.unread 0 none)

-- where the last verdict is unread, its number, line and column are said first
located : (input : List ℕ) (before : List Verdict) (line column : ℕ) → verdicts_of input ≡ before ++ Unread line column ∷ []
    → words_on input ≡ fault_line (ascii "bench: record ") (length before + 1) line column ++ end_line (counted_all none (verdicts_of input))
unfolding words_on last_words
located input before line column e =
    let t = counted_all none before in
    let counted : counted_all none (verdicts_of input) ≡ counted_with t (Unread line column) = ap (counted_all none) e ∙ counted_behind none before (Unread line column) in
    let number : records_of (counted_with t (Unread line column)) ≡ length before + 1 =
    omega (arith, counted_more t (Unread line column), records_counted none before) in
    rw counted
    (ap (λ (b : Bool). cond b [] (fault_line (ascii "bench: record ") (records_of (counted_with t (Unread line column))) line column) ++ end_line (counted_with t (Unread line column))) (ne_eqb (t.unread + 1) 0 (omega arith))
    ∙ ap (λ (n : ℕ). fault_line (ascii "bench: record ") n line column ++ end_line (counted_with t (Unread line column))) number)

-- behind records in form, the place of a wrong text is said first
place : (entries : List Entry) (text : List ℕ) (line column : ℕ) → AllInForm entries → 1 ≤ length text → WrongAt (form_of text) text line column
    → let input = texts_of entries ++ text in
    words_on input ≡ fault_line (ascii "bench: record ") (length entries + 1) line column ++ end_line (counted_all none (verdicts_of input))
place entries text line column sound some w =
    let verdicts = judges.in_a_row entries text sound ∙ ap (λ (vs : List Verdict). verdicts_on entries ++ vs) (judges.wrong_at text line column some w) in
    located (texts_of entries ++ text) (verdicts_on entries) line column verdicts
    ∙ ap (λ (n : ℕ). fault_line (ascii "bench: record ") (n + 1) line column ++ end_line (counted_all none (verdicts_of (texts_of entries ++ text)))) (length-map entries (λ e. verdict_on e.content))

-- the run keeps its promises
pub whole_reports : WholeReports
whole_reports = record { line = spelled.0; no_line = spelled.1; counts = refl; fault = spelled.2; no_fault = no_fault; place = place; at_once = at_once; begins = begins; whole = whole; unsaid = unsaid; fails = fails; no_byte = no_byte; answers = answers; ends = ends }
