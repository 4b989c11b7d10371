-- Laws of any call: its one outcome, its listed answer.
use mathlib.Core.Path.{◌≡◌, refl, sym, ap, ◌∙◌}
use mathlib.Core.Bool.{false}
use mathlib.Core.List.{[]}
use mathlib.Core.Logic.{inl, inr}
use Prim.Native.Nat.{ℕ, zero, suc, ◌≤◌}
use native.Mathlib.Omega.{arith}
use borrow.Author.Tests.{le-leb, lt-leb, eqb-false}
use contract.Lifetimes.{Lfts}
use Rattle.answers.specs.declared.Answer.{Answer}
use Rattle.answers.specs.declared.Answer.TheVariants.{Done}
use Rattle.answers.specs.Numbers.{number_of, is_done}
use Rattle.ascon.specs.Sets.{table, is_set}
use Rattle.letter.specs.Calls.{Answered, Tells, NoSet, Refused, Through}

-- some lifetimes
abbrev pub lifetimes : (n : ℕ) → Lfts n
lifetimes zero = tt
lifetimes (suc n) = ([], lifetimes n)

-- the one law: what is given by a definition is given once
pub answered : {L A R O : Type 0} {statement : Type 1 → Type 2} {asked : L → A → Type 0} {allowed : L → A → R → A → Type 0} {seen : R → A → O} {call : A → O}
    → ((M : Type 1) → statement M) → ((κ : L) (a : A) → asked κ a) → ((κ : L) (a : A) (r : R) (e : A) → allowed κ a r e → seen r e ≡ call a)
    → Answered statement asked allowed seen call
answered met unasked given =
    record { answers = met; unasked = unasked; given = given; once = λ κ κ' a r r' e e' p q. given κ a r e p ∙ sym (given κ' a r' e' q) }

-- what is seen of a result is what the contract says of it
pub seen_as : {R O C : Type 0} {view : R → O} {o : O} {c : C} (g : O → C) → ((r : R) × ((view r ≡ o) × (g (view r) ≡ c))) → g o ≡ c
seen_as g (r, (s, p)) = ap g (sym s) ∙ p

-- what can be turned back into the result tells it
pub told : {R O : Type 0} {view : R → O} (back : O → R) → ((r : R) → back (view r) ≡ r) → Tells view
told back undone = λ r r' e. sym (undone r) ∙ (ap back e ∙ undone r')

-- an answer is listed, and a refusal with it keeps what was there
pub record Says (answer listed : Answer) (Kept : Type 0) : Type 0 where
  pub is : answer ≡ listed
  pub kept : Refused answer → Kept

-- where it is done, nothing is refused
pub done_says : (answer : Answer) (Kept : Type 0) → answer ≡ Done → Says answer Done Kept
done_says answer Kept e = record { is = e; kept = λ r. absurd (r.0 e) }

-- where something was kept
pub says : (answer : Answer) (Kept : Type 0) → Kept → Says answer answer Kept
says answer Kept k = record { is = refl; kept = λ _. k }

-- neither done nor 9 is a refusal with 1 to 8
pub not_refused : (answer : Answer) → Through answer → (1 ≤ number_of answer) × (number_of answer ≤ 8) → ⊥
not_refused answer (inl e) (least, most) = let none : number_of answer ≡ 0 = ap number_of e in omega (arith, none, least)
not_refused answer (inr e) (least, most) = let nine : number_of answer ≡ 9 = ap number_of e in omega (arith, nine, most)

-- so such a refusal is neither
pub stopped : (answer : Answer) → is_done answer ≡ false → number_of answer ≤ 8 → Through answer → ⊥
stopped answer e most came = let some : number_of answer ≡ 0 → ⊥ = eqb-false (number_of answer) 0 e in not_refused answer came (omega (arith, some), most)

-- a number that no set has is not taken for one
pub no_set : (set : ℕ) → NoSet set → is_set set ≡ false
unfolding is_set table
no_set set (inl e) = rw e
no_set set (inr h) = rw (le-leb 1 set (omega arith), lt-leb set 4 h)

-- numbers that differ are not equal
pub off : ◌≡◌ {A = ℕ} 0 1 → ⊥
off e = omega (arith, e)
