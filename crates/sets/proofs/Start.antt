-- What the first tests of a start say where they are passed.
use mathlib.Core.Path.{◌≡◌, refl, sym, ap, ◌∙◌}
use mathlib.Core.Bool.{Bool, true, false, cond}
use Prim.Native.Nat.{ℕ}
use lib.Dec.{eqb}
use borrow.Author.Tests.{eqb-true, not-false}
use Rattle.std.proofs.Common.{Result, Ok, Err}
use Rattle.answers.specs.declared.Answer.{Answer}
use Rattle.answers.specs.Numbers.{is_done}
use Rattle.answers.proofs.Order.{none_holds}
use Rattle.ascon.specs.Sets.{is_set, row_of}
use Rattle.sets.specs.Start.{start_faults, start_test, tested}

pub record StartPassed (set key nonce : ℕ) : Type 0 where
  pub known : is_set set ≡ true
  pub key_fits : key ≡ (row_of set).key
  pub nonce_fits : nonce ≡ (row_of set).key

pub start_passed : (set key nonce : ℕ) → is_done (start_test set key nonce) ≡ true → StartPassed set key nonce
unfolding start_test
start_passed set key nonce e =
    let h = none_holds (start_faults set key nonce) refl e in
    record {
      known = not-false (is_set set) h.0;
      key_fits = eqb-true key (row_of set).key (not-false (eqb key (row_of set).key) h.1.0);
      nonce_fits = eqb-true nonce (row_of set).key (not-false (eqb nonce (row_of set).key) h.1.1.0);
    }

-- ---- an answer as a Result

pub ok_done : (answer : Answer) {r : Result (Unit {0}) Answer} {u : Unit {0}} → r ≡ Ok u → r ≡ tested answer → is_done answer ≡ true
ok_done answer {r} {u} o e = go (is_done answer) refl (sym o ∙ e)
  where
    go : (t : Bool) → is_done answer ≡ t → Ok u ≡ cond t (Ok tt) (Err answer) → is_done answer ≡ true
    go true f e = f
    go false f e = cc

pub record Refused (answer given : Answer) : Type 0 where
  pub not_done : is_done answer ≡ false
  pub is : answer ≡ given

pub err_refused : (answer : Answer) {given : Answer} {r : Result (Unit {0}) Answer} → r ≡ Err given → r ≡ tested answer → Refused answer given
err_refused answer {given} {r} o e = go (is_done answer) refl (sym o ∙ e)
  where
    go : (t : Bool) → is_done answer ≡ t → Err given ≡ cond t (Ok (tt {0})) (Err answer) → Refused answer given
    go true f e = absurd (cc)
    go false f e = record { not_done = f; is = cc }

-- what is chosen by an answer, where its Result is an Err, and where it is Ok
pub err_chosen : {X : Type 0} (answer : Answer) (f : Answer → X) (done : X) {given : Answer} {r : Result (Unit {0}) Answer}
    → r ≡ Err given → r ≡ tested answer → f given ≡ cond (is_done answer) done (f answer)
err_chosen answer f done o e = let h = err_refused answer o e in rw (h.not_done) (ap f (sym h.is))

pub ok_chosen : {X : Type 0} (answer : Answer) (done other : X) {r : Result (Unit {0}) Answer} {u : Unit {0}}
    → r ≡ Ok u → r ≡ tested answer → done ≡ cond (is_done answer) done other
ok_chosen answer done other o e = rw (ok_done answer o e)
