-- What the tests of a message say.
use mathlib.Core.Path.{◌≡◌, refl}
use mathlib.Core.Bool.{Bool, true, false, cond, not, ◌||◌, true≢false}
use mathlib.Core.List.{List}
use Prim.Native.Nat.{ℕ, ◌≤◌}
use lib.Dec.{eqb, leb}
use lib.ListN.{drop}
use borrow.Author.Tests.{eqb-true, leb-true, not-false}
use Rattle.answers.specs.declared.Answer.{Answer}
use Rattle.answers.specs.declared.Answer.TheVariants.{Done}
use Rattle.answers.specs.Numbers.{is_done}
use Rattle.answers.specs.Order.{Choice, first}
use Rattle.answers.proofs.Order.{none_holds, first_append}
use Rattle.ascon.specs.Sets.{row_of, ad_limit, text_limit}
use Rattle.sets.specs.Start.{start_faults, start_test}
use Rattle.message.specs.Message.{faults, message_test}

-- those behind the tests of a start
abbrev later_faults : ℕ → ℕ → ℕ → ℕ → ℕ → List (Choice Answer)
later_faults set tag ad text out = drop 3 (faults set 0 0 tag ad text out)

-- the tests of a start come first
pub start_first : (set key nonce tag ad text out : ℕ)
    → message_test set key nonce tag ad text out
    ≡ cond (is_done (start_test set key nonce)) (first Done (later_faults set tag ad text out)) (start_test set key nonce)
unfolding start_test message_test
start_first set key nonce tag ad text out = first_append (start_faults set key nonce) (later_faults set tag ad text out) refl

-- neither fails
both_passed : (a b : Bool) → (not a || not b) ≡ false → (a ≡ true) × (b ≡ true)
both_passed true true e = (refl, refl)
both_passed true false e = absurd (true≢false e)
both_passed false b e = absurd (true≢false e)

pub record MessagePassed (set key nonce tag ad text out : ℕ) : Type 0 where
  pub key_fits : key ≡ (row_of set).key
  pub nonce_fits : nonce ≡ (row_of set).key
  pub tag_fits : tag ≡ (row_of set).key
  pub ad_within : ad ≤ ad_limit
  pub text_within : text ≤ text_limit
  pub room : text ≤ out

pub message_passed : (set key nonce tag ad text out : ℕ) → is_done (message_test set key nonce tag ad text out) ≡ true
    → MessagePassed set key nonce tag ad text out
unfolding message_test
message_passed set key nonce tag ad text out e =
    let h = none_holds (faults set key nonce tag ad text out) refl e in
    let behind = h.1.1.1 in
    let within = both_passed (leb ad ad_limit) (leb text text_limit) behind.1.0 in
    record {
      key_fits = eqb-true key (row_of set).key (not-false (eqb key (row_of set).key) h.1.0);
      nonce_fits = eqb-true nonce (row_of set).key (not-false (eqb nonce (row_of set).key) h.1.1.0);
      tag_fits = eqb-true tag (row_of set).key (not-false (eqb tag (row_of set).key) behind.0);
      ad_within = leb-true ad ad_limit within.0;
      text_within = leb-true text text_limit within.1;
      room = leb-true text out (not-false (leb text out) behind.1.1.0);
    }
