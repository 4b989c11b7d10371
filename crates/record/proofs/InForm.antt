-- What a record in form says of its set and its sizes.
use mathlib.Core.Path.{◌≡◌, refl, sym, ap, ◌∙◌}
use mathlib.Core.Bool.{true, ◌&&◌}
use mathlib.Core.Logic.{◌⊎◌, inl, inr}
use Prim.Native.Nat.{ℕ, ◌-◌, ◌≤◌}
use native.Mathlib.Omega.{arith}
use lib.Dec.{leb}
use borrow.Author.Tests.{leb-true, ne_eqb}
use Rattle.ascon.specs.Sets.{is_set, row_of}
use Rattle.digits.proofs.Spelling.{and_both}
use Rattle.record.specs.declared.field.Field.{Field}
use Rattle.record.specs.declared.form.Form.{Form}
use Rattle.record.specs.declared.form.Form.TheVariants.{One, Two}
use Rattle.record.specs.declared.form.Record.{Record}
use Rattle.record.specs.Form.{is_field, part_at, lines_in, value_kind, keeps, broken}
use Rattle.record.proofs.Fields.{field_most}
use Rattle.record.proofs.Chains.{broken_rule}

-- a known set; key, nonce and tag of its length; no more than 256 bytes in the others
pub record InForm (r : Record) : Type 0 where
  pub known : is_set r.set ≡ true
  pub key : r.key.size ≡ (row_of r.set).key
  pub nonce : r.nonce.size ≡ (row_of r.set).key
  pub ad : r.ad.size ≤ 256
  pub text : r.text.size ≤ 256
  pub cipher : r.cipher.size ≤ 256
  pub tag : r.tag.size ≡ (row_of r.set).key

-- a field of exactly so many bytes has so many
exact_size : (f : Field) (n : ℕ) → (is_field f && (leb n f.size && leb f.size n)) ≡ true → f.size ≡ n
exact_size f n e =
    let b = and_both (leb n f.size) _ (and_both (is_field f) _ e).1 in
    omega (arith, leb-true n f.size b.0, leb-true f.size n b.1)

-- a part that both forms have a line for
abbrev pub Shared : ℕ → Type 0
Shared part = (part ≡ 2) ⊎ ((4 ≤ part) × (part ≤ 10))

-- the line that it has in a form
shared_line : (form : Form) (part : ℕ) → Shared part → (line : ℕ) × (1 ≤ line) × (line ≤ lines_in form) × (part_at form line ≡ part)
shared_line One part (inl e) = (1, omega arith, omega arith, sym e)
shared_line Two part (inl e) = (2, omega arith, omega arith, sym e)
shared_line One part (inr h) =
    (part - 2, omega (arith, h.0), omega (arith, h.1), rw (ne_eqb (part - 2) 1 (omega (arith, h.0))) (omega (arith, h.0)))
shared_line Two part (inr h) = (part, omega (arith, h.0), h.1, refl)

-- in a record in form it keeps its rule
pub shared_keeps : (form : Form) (r : Record) → broken form r ≡ 0 → (part : ℕ) → Shared part → keeps part r ≡ true
unfolding broken
shared_keeps form r e part s =
    let l = shared_line form part s in
    ap (λ (n : ℕ). keeps n r) (sym l.3) ∙ broken_rule form (lines_in form) 1 r (omega arith) e l.0 l.1 (omega (arith, l.2))

-- so it is where no line is broken
pub in_form : (form : Form) (r : Record) → broken form r ≡ 0 → InForm r
unfolding keeps value_kind is_set
in_form form r e =
    let sound : (part : ℕ) → Shared part → keeps part r ≡ true = shared_keeps form r e in
    record {
      known = sound 2 (inl refl);
      key = exact_size r.key _ (sound 4 (inr (omega arith, omega arith)));
      nonce = exact_size r.nonce _ (sound 5 (inr (omega arith, omega arith)));
      ad = field_most r.ad (and_both (is_field r.ad) _ (sound 6 (inr (omega arith, omega arith)))).0;
      text = field_most r.text (and_both (is_field r.text) _ (sound 7 (inr (omega arith, omega arith)))).0;
      cipher = field_most r.cipher (and_both (is_field r.cipher) _ (sound 8 (inr (omega arith, omega arith)))).0;
      tag = exact_size r.tag _ (sound 9 (inr (omega arith, omega arith)));
    }
