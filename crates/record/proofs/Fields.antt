-- Fields: bytes put into one are held by it.
use mathlib.Core.Path.{◌≡◌, refl, ap₂}
use mathlib.Core.Bool.{true}
use mathlib.Core.List.{List, [], ◌∷◌, ◌++◌}
use Prim.Native.Nat.{ℕ, zero, suc, ◌-◌, ◌≤◌}
use native.Mathlib.Omega.{arith}
use lib.Dec.{ltb, leb}
use lib.ListN.{length, take, drop, take-append-drop, length-take, length-append, length-replicate}
use lib.Seq.{take-append_seam, length-take-le}
use lib.Pow.{are_bytes}
use borrow.Author.Tests.{leb-true}
use Rattle.digits.proofs.Spelling.{and_both}
use Rattle.permutation.specs.Strings.{zeros}
use Rattle.permutation.proofs.Strings.{same_eq}
use Rattle.record.specs.declared.field.Field.{Field}
use Rattle.record.specs.Form.{field_of, held, is_field}
use Rattle.record.specs.Laws.{Whole}

-- ---- bytes

-- bytes behind bytes are bytes
pub bytes_append : (x y : List ℕ) → are_bytes x ≡ true → are_bytes y ≡ true → are_bytes (x ++ y) ≡ true
bytes_append [] y e f = f
bytes_append (b ∷ x) y e f =
    let t = and_both (ltb b 256) _ e in
    rw t.0 (bytes_append x y t.1 f)

-- zeros are bytes
bytes_zeros : (n : ℕ) → are_bytes (zeros n) ≡ true
bytes_zeros zero = refl
bytes_zeros (suc n) = bytes_zeros n

-- the first of bytes are bytes
pub bytes_take : (n : ℕ) (x : List ℕ) → are_bytes x ≡ true → are_bytes (take n x) ≡ true
bytes_take zero x e = refl
bytes_take (suc n) [] e = refl
bytes_take (suc n) (b ∷ x) e =
    let t = and_both (ltb b 256) _ e in
    rw t.0 (bytes_take n x t.1)

-- and so are those behind them
pub bytes_drop : (n : ℕ) (x : List ℕ) → are_bytes x ≡ true → are_bytes (drop n x) ≡ true
bytes_drop zero x e = e
bytes_drop (suc n) [] e = refl
bytes_drop (suc n) (b ∷ x) e = bytes_drop n x (and_both (ltb b 256) _ e).1

-- ---- a field of bytes

-- a field of at most 256 bytes has 256 places, that hold bytes
pub whole_field : (x : List ℕ) → length x ≤ 256 → are_bytes x ≡ true → Whole (field_of x)
unfolding field_of
whole_field x h e =
    record {
      bytes = bytes_append x (zeros (256 - length x)) e (bytes_zeros (256 - length x));
      places = simp (length-append, length-replicate) (omega arith);
    }

-- a field of bytes holds them
pub held_field : (x : List ℕ) → held (field_of x) ≡ x
unfolding field_of
held_field x = take-append_seam x (zeros (256 - length x))

-- ---- a field in form

-- a field in form has at most 256 bytes
pub field_most : (f : Field) → is_field f ≡ true → f.size ≤ 256
unfolding is_field
field_most f e = leb-true f.size 256 (and_both (leb f.size 256) _ e).0

-- the places of a field in form past its bytes are zeros
field_rest : (f : Field) → is_field f ≡ true → drop f.size f.bytes ≡ zeros (256 - f.size)
unfolding is_field
field_rest f e = same_eq _ _ (and_both (leb f.size 256) _ e).1

-- a field in form holds at most 256 bytes
pub held_most : (f : Field) → is_field f ≡ true → length (held f) ≤ 256
held_most f e = omega (arith, length-take f.size f.bytes, field_most f e)

-- and as many as it says, in its 256 places
pub held_length : (f : Field) → is_field f ≡ true → length f.bytes ≡ 256 → (length (held f) ≡ f.size) × (f.size ≤ 256)
held_length f e w =
    let most = field_most f e in
    (length-take-le f.size f.bytes (omega arith), most)

-- a field in form is the field of the bytes that it holds
pub field_held : (f : Field) → is_field f ≡ true → Whole f → field_of (held f) ≡ f
unfolding field_of
field_held f e w =
    let l : length (held f) ≡ f.size = (held_length f e w.places).0 in
    let b : held f ++ zeros (256 - length (held f)) ≡ f.bytes =
    rw (l, ← field_rest f e) (take-append-drop f.size f.bytes) in
    ap₂ (λ (places : List ℕ) (size : ℕ). record { bytes = places; size = size }) b l
