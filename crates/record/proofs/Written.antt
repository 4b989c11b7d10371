-- A record is written, as whatever text, exactly where it is in form, no chip is lost, and there is room.
use mathlib.Core.Path.{◌≡◌, refl, ap}
use mathlib.Core.Bool.{Bool, true, false, cond}
use mathlib.Core.List.{List, ◌++◌}
use Prim.Native.Nat.{ℕ, zero, suc, ◌≤◌}
use native.Mathlib.Omega.{arith}
use lib.Dec.{eqb, leb}
use lib.ListN.{length, drop}
use borrow.Author.Tests.{leb-true, eqb-true, le-leb, not-false}
use Rattle.std.specs.Prelude.{Some, None}
use Rattle.std.proofs.Common.{rules}
use Rattle.answers.specs.declared.Answer.{Answer}
use Rattle.answers.specs.declared.Answer.TheVariants.{Done}
use Rattle.answers.specs.Numbers.{is_done}
use Rattle.answers.specs.Order.{first}
use Rattle.answers.proofs.Order.{none_holds}
use Rattle.record.specs.declared.form.Form.{Form}
use Rattle.record.specs.declared.form.Record.{Record}
use Rattle.record.specs.Form.{broken, loses_chip}
use Rattle.record.specs.Calls.{line_found, WriteLeaves, write_leaves, refused_with, write_faults, write_as}

-- a line that was found is the first that breaks its rule
pub found_line : (n line : ℕ) → line_found n ≡ Some line → (n ≡ line) × (1 ≤ n)
found_line zero line e = search rules
found_line (suc n) line e = (cc, omega arith)

-- where none was found none does
pub none_found : (n : ℕ) → line_found n ≡ None → n ≡ 0
none_found zero e = refl
none_found (suc n) e = search rules

module _ (form : Form) (r : Record) (text out : List ℕ) where
  -- what a writing leaves that wrote it
  abbrev wrote : WriteLeaves
  wrote = write_leaves (record { answer = Done; line = 0; column = 0; written = length text }) (text ++ drop (length text) out)

  -- it is written
  pub write_done : broken form r ≡ 0 → loses_chip form r ≡ false → length text ≤ length out → write_as form r text out ≡ wrote
  write_done e c h = rw (e, c, le-leb (length text) (length out) h)

  -- what a record that is written has
  pub record Writable : Type 0 where
    pub in_form : broken form r ≡ 0
    pub kept : loses_chip form r ≡ false
    pub room : length text ≤ length out

  -- an answer that leaves 0 is 0
  answer_done : (answer : Answer) → (cond (is_done answer) wrote (write_leaves (refused_with answer (broken form r)) out)).outcome.answer ≡ Done → is_done answer ≡ true
  unfolding refused_with
  answer_done answer = go (is_done answer) refl
    where
      go : (b : Bool) → is_done answer ≡ b → (cond b wrote (write_leaves (refused_with answer (broken form r)) out)).outcome.answer ≡ Done → is_done answer ≡ true
      go true f e = f
      go false f e = ap is_done e

  -- and nothing else is written
  pub done_write : (write_as form r text out).outcome.answer ≡ Done → Writable
  done_write d =
      let faults = write_faults form r (length text) (length out) in
      let none = none_holds faults refl (answer_done (first Done faults) d) in
      record {
        in_form = eqb-true (broken form r) 0 (not-false (eqb (broken form r) 0) none.0);
        kept = none.1.0;
        room = leb-true (length text) (length out) (not-false (leb (length text) (length out)) none.1.1.0);
      }
