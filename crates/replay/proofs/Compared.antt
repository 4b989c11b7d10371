-- The verdict on an entry that is read says how it compares with what our stream gives.
use mathlib.Core.Path.{◌≡◌, refl, sym, ◌∙◌}
use mathlib.Core.Bool.{Bool, true, false, cond, not, true≢false}
use Prim.Native.Nat.{ℕ}
use lib.Dec.{eqb}
use borrow.Author.Tests.{eqb-true, eqb-false, eq-eqb, ne_eqb, not-true, not-false}
use Rattle.answers.specs.Numbers.{number_of}
use Rattle.judge.specs.Difference.{differ}
use Rattle.judge.proofs.Laws.{judges}
use Rattle.judge.proofs.Differences.{other_texts}
use Rattle.chip_log.specs.declared.form.Entry.{Entry}
use Rattle.record.specs.Form.{held}
use Rattle.replay.specs.declared.window.Verdict.{Verdict}
use Rattle.replay.specs.declared.window.Verdict.TheVariants.{Agrees, Answer, Out, Rounds, Unread, Open}
use Rattle.replay.specs.Feeding.{Gives}
use Rattle.replay.specs.Replays.{compared}
use Rattle.replay.specs.Laws.{SameAnswer, SameOut, SameRounds}

-- an entry compares so with what our stream gives, as a verdict says
abbrev pub Says : Verdict → Gives → Entry → Type 0
Says Agrees g e = SameAnswer g e × SameOut g e × SameRounds g e
Says Answer g e = SameAnswer g e → ⊥
Says Out g e = SameAnswer g e × (SameOut g e → ⊥)
Says Rounds g e = SameAnswer g e × SameOut g e × (SameRounds g e → ⊥)
Says (Unread line column) g e = ⊥
Says Open g e = ⊥

-- the verdict says so
pub compared_says : (g : Gives) (e : Entry) → Says (compared g e) g e
unfolding compared
compared_says g e = go (not (eqb e.answer (number_of g.answer))) refl (differ g.out (held e.out)) refl (not (eqb e.rounds g.rounds)) refl
  where
    answers : ℕ
    answers = number_of g.answer

    same_out : differ g.out (held e.out) ≡ false → SameOut g e
    same_out d = sym ((judges.difference g.out (held e.out)).same.0 d)

    other_out : differ g.out (held e.out) ≡ true → SameOut g e → ⊥
    other_out d same = true≢false (sym d ∙ (judges.difference g.out (held e.out)).same.1 (sym same))

    go : (a : Bool) → not (eqb e.answer answers) ≡ a → (o : Bool) → differ g.out (held e.out) ≡ o → (r : Bool) → not (eqb e.rounds g.rounds) ≡ r
        → Says (cond a Answer (cond o Out (cond r Rounds Agrees))) g e
    go true f o d r h = eqb-false e.answer answers (not-true _ f)
    go false f true d r h = (eqb-true e.answer answers (not-false _ f), other_out d)
    go false f false d true h = (eqb-true e.answer answers (not-false _ f), same_out d, eqb-false e.rounds g.rounds (not-true _ h))
    go false f false d false h = (eqb-true e.answer answers (not-false _ f), same_out d, eqb-true e.rounds g.rounds (not-false _ h))

-- and where an entry compares so, the verdict is this one
pub says_compared : (verdict : Verdict) (g : Gives) (e : Entry) → Says verdict g e → compared g e ≡ verdict
unfolding compared
says_compared Agrees g e (answer, out, rounds) =
    rw (eq-eqb e.answer (number_of g.answer) answer, (judges.difference g.out (held e.out)).same.1 (sym out), eq-eqb e.rounds g.rounds rounds)
says_compared Answer g e other = rw (ne_eqb e.answer (number_of g.answer) other)
says_compared Out g e (answer, other) =
    rw (eq-eqb e.answer (number_of g.answer) answer, other_texts g.out (held e.out) (λ same. other (sym same)))
says_compared Rounds g e (answer, out, other) =
    rw (eq-eqb e.answer (number_of g.answer) answer, (judges.difference g.out (held e.out)).same.1 (sym out), ne_eqb e.rounds g.rounds other)
says_compared (Unread line column) g e never = absurd never
says_compared Open g e never = absurd never
