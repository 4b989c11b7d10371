-- Lines of a form one after another: their text, and the first that breaks its rule.
use mathlib.Core.Path.{◌≡◌, refl}
use mathlib.Core.Bool.{Bool, true, false, cond}
use mathlib.Core.List.{List}
use Prim.Native.Nat.{ℕ, zero, suc, ◌+◌, ◌-◌, ◌≤◌, ◌<◌}
use native.Mathlib.Omega.{arith}
use lib.Dec.{ltb}
use lib.ListN.{length, length-append}
use borrow.Author.Tests.{ltb-true, ltb-false}
use Rattle.record.specs.declared.form.Form.{Form}
use Rattle.record.specs.declared.form.Record.{Record}
use Rattle.record.specs.Form.{part_at, lines_in, keeps, broken_from, broken}
use Rattle.record.specs.Text.{line_text, text_from, text_of}
use Rattle.record.proofs.Places.{Alike}

module _ (form : Form) where
  -- the lines from one on, up to the form's last
  abbrev pub text_left : ℕ → Record → List ℕ
  text_left line r = text_from form (lines_in form + 1 - line) line r

  -- a line has its bytes, and those behind it theirs
  pub text_more : (r : Record) (line : ℕ) → line ≤ lines_in form
      → length (text_left line r) ≡ length (line_text (part_at form line) r) + length (text_left (line + 1) r)
  text_more r line h =
      let e : lines_in form + 1 - line ≡ suc (lines_in form + 1 - (line + 1)) = omega arith in
      rw e (length-append (line_text (part_at form line) r) (text_from form (lines_in form + 1 - (line + 1)) (line + 1) r))

  -- from the first one on they are all
  pub text_all : (r : Record) → text_left 1 r ≡ text_of form r
  unfolding text_of
  text_all r = let all : lines_in form + 1 - 1 ≡ lines_in form = omega arith in rw all

  -- k lines, from a line on, keep their rules
  abbrev pub Sound : ℕ → ℕ → Record → Type 0
  Sound k line r = (m : ℕ) → line ≤ m → m < line + k → keeps (part_at form m) r ≡ true

  -- lines that are the same have the same text
  pub text_alike : (k line : ℕ) (r s : Record) → ((m : ℕ) → line ≤ m → m < line + k → Alike (part_at form m) r s) → text_from form k line r ≡ text_from form k line s
  text_alike zero line r s h = refl
  text_alike (suc k) line r s h =
      rw ((h line (omega arith) (omega arith)).text, text_alike k (line + 1) r s (λ m a b. h m (omega arith) (omega arith)))

  -- none is broken where all keep their rules
  pub rule_broken : (k line : ℕ) (r : Record) → Sound k line r → broken_from form k line r ≡ 0
  rule_broken zero line r h = refl
  rule_broken (suc k) line r h = rw (h line (omega arith) (omega arith)) (rule_broken k (line + 1) r (λ m a b. h m (omega arith) (omega arith)))

  -- all keep their rules where none is broken
  pub broken_rule : (k line : ℕ) (r : Record) → 1 ≤ line → broken_from form k line r ≡ 0 → Sound k line r
  broken_rule zero line r l e m a b = absurd (omega arith)
  broken_rule (suc k) line r l e m a b = go (keeps (part_at form line) r) refl e (λ h c. broken_rule k (line + 1) r (omega arith) h m c (omega arith))
    where
      pick : (t : Bool) → ltb line m ≡ t → keeps (part_at form line) r ≡ true → (line + 1 ≤ m → keeps (part_at form m) r ≡ true) → keeps (part_at form m) r ≡ true
      pick true f g rest = rest (omega (arith, ltb-true line m f))
      pick false f g rest = let p : m ≡ line = omega (arith, ltb-false line m f) in rw p g

      go : (t : Bool) → keeps (part_at form line) r ≡ t → cond t (broken_from form k (line + 1) r) line ≡ 0
          → (broken_from form k (line + 1) r ≡ 0 → line + 1 ≤ m → keeps (part_at form m) r ≡ true) → keeps (part_at form m) r ≡ true
      go true f h rest = pick (ltb line m) refl f (rest h)
      go false f h rest = absurd (omega arith)

  -- so the lines of a record in form keep their rules
  pub in_form_rule : (r : Record) → broken form r ≡ 0 → Sound (lines_in form) 1 r
  unfolding broken
  in_form_rule r e = broken_rule (lines_in form) 1 r (omega arith) e
