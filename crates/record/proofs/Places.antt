-- A record's parts: those before the one that is changed stay; and which part a line of a form is.
use mathlib.Core.Path.{◌≡◌, refl}
use mathlib.Core.Bool.{Bool, true, false, cond}
use mathlib.Core.List.{[]}
use Prim.Native.Nat.{ℕ, zero, suc, ◌+◌, ◌≤◌, ◌<◌}
use native.Mathlib.Omega.{arith}
use lib.Dec.{eqb}
use borrow.Author.Tests.{ne_eqb}
use Rattle.record.specs.declared.field.Field.{Field}
use Rattle.record.specs.declared.form.Form.{Form}
use Rattle.record.specs.declared.form.Form.TheVariants.{One, Two}
use Rattle.record.specs.declared.form.Record.{Record}
use Rattle.record.specs.Form.{part_at, lines_in, field_at, with_number, with_field, blank, value_kind, keeps}
use Rattle.record.specs.Text.{value_text, line_text}
use Rattle.record.specs.Laws.{Whole, Typed}
use Rattle.record.proofs.Fields.{whole_field}

-- ---- the parts

-- what holds of the parts 1 to 10, one by one, holds of each
pub each_part : (P : ℕ → Type 0) → P 1 → P 2 → P 3 → P 4 → P 5 → P 6 → P 7 → P 8 → P 9 → P 10 → (part : ℕ) → 1 ≤ part → part ≤ 10 → P part
each_part P a b c d e f g h i j zero l m = absurd (omega arith)
each_part P a b c d e f g h i j (suc zero) l m = a
each_part P a b c d e f g h i j (suc (suc zero)) l m = b
each_part P a b c d e f g h i j (suc (suc (suc zero))) l m = c
each_part P a b c d e f g h i j (suc (suc (suc (suc zero)))) l m = d
each_part P a b c d e f g h i j (suc (suc (suc (suc (suc zero))))) l m = e
each_part P a b c d e f g h i j (suc (suc (suc (suc (suc (suc zero)))))) l m = f
each_part P a b c d e f g h i j (suc (suc (suc (suc (suc (suc (suc zero))))))) l m = g
each_part P a b c d e f g h i j (suc (suc (suc (suc (suc (suc (suc (suc zero)))))))) l m = h
each_part P a b c d e f g h i j (suc (suc (suc (suc (suc (suc (suc (suc (suc zero))))))))) l m = i
each_part P a b c d e f g h i j (suc (suc (suc (suc (suc (suc (suc (suc (suc (suc zero)))))))))) l m = j
each_part P a b c d e f g h i j (suc (suc (suc (suc (suc (suc (suc (suc (suc (suc (suc n))))))))))) l m = absurd (omega arith)

-- a form has at most ten lines
pub few_lines : (form : Form) → lines_in form ≤ 10
few_lines One = omega arith
few_lines Two = omega arith

-- a line of a form is one of the parts
pub part_is : (form : Form) (line : ℕ) → 1 ≤ line → line ≤ lines_in form → (1 ≤ part_at form line) × (part_at form line ≤ 10)
part_is One line l m = go (eqb line 1)
  where
    go : (b : Bool) → (1 ≤ cond b 2 (line + 2)) × (cond b 2 (line + 2) ≤ 10)
    go true = (omega arith, omega arith)
    go false = (omega arith, omega arith)
part_is Two line l m = (l, m)

-- lines stand in the order of the parts
pub part_order : (form : Form) (m line : ℕ) → 1 ≤ m → m < line → part_at form m < part_at form line
part_order One m line l h = rw (ne_eqb line 1 (omega arith)) (go (eqb m 1) refl)
  where
    go : (b : Bool) → eqb m 1 ≡ b → cond b 2 (m + 2) < line + 2
    go true e = omega arith
    go false e = omega arith
part_order Two m line l h = h

-- ---- the parts before one stay

-- a part is the same in two records, and keeps its rule in both or in none
pub record Alike (part : ℕ) (r s : Record) : Type 0 where
  pub text : line_text part r ≡ line_text part s
  pub rule : keeps part r ≡ keeps part s

-- a number put into a part changes none before it
pub number_before : (m : ℕ) → 1 ≤ m → m ≤ 10 → (part n : ℕ) (r : Record) → m < part → Alike m (with_number part n r) r
unfolding with_number line_text value_text keeps value_kind
number_before =
    each_part (λ (m : ℕ). (part n : ℕ) (r : Record) → m < part → Alike m (with_number part n r) r)
    (λ part n r h. record { text = refl; rule = refl })
    (λ part n r h. let e = ne_eqb part 2 (omega arith) in record { text = rw e; rule = rw e })
    (λ part n r h. let e = ne_eqb part 3 (omega arith) in record { text = rw e; rule = rw e })
    (λ part n r h. record { text = refl; rule = rw (ne_eqb part 2 (omega arith)) })
    (λ part n r h. record { text = refl; rule = rw (ne_eqb part 2 (omega arith)) })
    (λ part n r h. record { text = refl; rule = refl })
    (λ part n r h. record { text = refl; rule = refl })
    (λ part n r h. record { text = refl; rule = refl })
    (λ part n r h. record { text = refl; rule = rw (ne_eqb part 2 (omega arith)) })
    (λ part n r h. let e = ne_eqb part 10 (omega arith) in record { text = rw e; rule = rw e })

-- bytes put into a part change none before it
pub field_before : (m : ℕ) → 1 ≤ m → m ≤ 10 → (part : ℕ) (f : Field) (r : Record) → m < part → Alike m (with_field part f r) r
unfolding with_field line_text value_text keeps value_kind
field_before =
    each_part (λ (m : ℕ). (part : ℕ) (f : Field) (r : Record) → m < part → Alike m (with_field part f r) r)
    (λ part f r h. record { text = refl; rule = refl })
    (λ part f r h. record { text = refl; rule = refl })
    (λ part f r h. record { text = refl; rule = refl })
    (λ part f r h. let e = ne_eqb part 4 (omega arith) in record { text = rw e; rule = rw e })
    (λ part f r h. let e = ne_eqb part 5 (omega arith) in record { text = rw e; rule = rw e })
    (λ part f r h. let e = ne_eqb part 6 (omega arith) in record { text = rw e; rule = rw e })
    (λ part f r h. let e = ne_eqb part 7 (omega arith) in record { text = rw e; rule = rw e })
    (λ part f r h. let e = ne_eqb part 8 (omega arith) in record { text = rw e; rule = rw e })
    (λ part f r h. let e = ne_eqb part 9 (omega arith) in record { text = rw e; rule = rw e })
    (λ part f r h. record { text = refl; rule = refl })

-- ---- 256 places that hold bytes

-- each part of bytes has them
pub typed_at : (r : Record) → Typed r → (part : ℕ) → 1 ≤ part → part ≤ 10 → Whole (field_at part r)
typed_at r t =
    each_part (λ (part : ℕ). Whole (field_at part r))
    t.key t.key t.key t.key t.nonce t.ad t.text t.cipher t.tag t.key

-- so has the record of zeros
pub typed_blank : Typed blank
unfolding blank
typed_blank = let e = whole_field [] (omega arith) refl in record { key = e; nonce = e; ad = e; text = e; cipher = e; tag = e }

-- so has a record with another number
pub typed_number : (part n : ℕ) (r : Record) → Typed r → Typed (with_number part n r)
unfolding with_number
typed_number part n r t = record { key = t.key; nonce = t.nonce; ad = t.ad; text = t.text; cipher = t.cipher; tag = t.tag }

-- so has a record with other bytes in a part
pub typed_field : (part : ℕ) (f : Field) (r : Record) → Whole f → Typed r → Typed (with_field part f r)
unfolding with_field
typed_field part f r e t =
    record {
      key = either (eqb part 4) r.key t.key;
      nonce = either (eqb part 5) r.nonce t.nonce;
      ad = either (eqb part 6) r.ad t.ad;
      text = either (eqb part 7) r.text t.text;
      cipher = either (eqb part 8) r.cipher t.cipher;
      tag = either (eqb part 9) r.tag t.tag;
    }
  where
    either : (b : Bool) (g : Field) → Whole g → Whole (cond b f g)
    either true g d = e
    either false g d = d
