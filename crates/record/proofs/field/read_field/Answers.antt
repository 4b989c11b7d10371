-- `record::field::read_field` meets its contract.
use mathlib.Core.Path.{◌≡◌, refl, sym, ap, ◌∙◌}
use mathlib.Core.List.{List, [], ◌∷◌, ◌++◌, append_assoc, append-nil}
use mathlib.Core.Option.{Option, some, none}
use Prim.Native.Nat.{ℕ, suc, ◌+◌, ◌-◌, ◌*◌, ◌/◌, ◌<◌}
use native.Mathlib.Numerals.{add-one}
use native.Mathlib.Omega.{arith}
use lib.ListN.{length, get_or, set, drop, length-append, drop_of_length-le}
use lib.Seq.{drop-cons, set-append_seam}
use borrow.Author.Tests.{le-leb, lt-leb}
use Rattle.std.specs.Prelude.{Result, Ok}
use Rattle.digits.specs.declared.hex.Case.{Case}
use Rattle.digits.specs.declared.hex.BadDigit.{BadDigit}
use Rattle.digits.specs.Hex.{digit_in, pair_of, and_then, from_hex_in}
use Rattle.digits.proofs.Spelling.{length_hex, hex_bytes}
use Rattle.permutation.specs.Strings.{zeros}
use Rattle.record.specs.Form.{field_of}
use Rattle.record.specs.Calls.{fitted}
use Rattle.record.proofs.field.read_field.Invariants.{behind, Left, more}
use Rattle.record.proofs.field.read_field.Goals as goal
use Rattle.record.proofs.field.read_field.Goals.{then-size-gt256-via-then-size-gt256, then-size-gt256-via-else-size-gt256+then-text-ne0}

-- digits of an odd number, or of more than 256 bytes, are no field
no_field : (case : Case) (text : List ℕ) → ((n : ℕ) → length text ≡ 2 * n → 256 < n) → field_of [] ≡ fitted (from_hex_in case text)
no_field case text many = go (from_hex_in case text) refl
  where
    go : (r : Option (List ℕ)) → from_hex_in case text ≡ r → field_of [] ≡ fitted r
    go (some x) e = rw (lt-leb (length x) 256 (many (length x) (sym (ap length (hex_bytes case text x e).0) ∙ length_hex case x)))
    go none e = refl

-- two digits, and the rest
two : (case : Case) (text : List ℕ) (at : ℕ) → at + 1 < length text
    → from_hex_in case (drop at text) ≡ and_then (pair_of (digit_in case (get_or text at 0)) (digit_in case (get_or text (at + 1) 0))) (from_hex_in case (drop (at + 2) text))
two case text at h =
    let e : at + 2 ≡ suc (suc at) = omega arith in
    rw (e, add-one at, drop-cons text at 0 (omega arith), drop-cons text (suc at) 0 (omega arith))

-- a byte stored
stored : (done : List ℕ) (size b : ℕ) → length done ≡ size → size < 256 → set (done ++ zeros (256 - size)) size b ≡ (done ++ b ∷ []) ++ zeros (256 - (size + 1))
stored done size b e h =
    let f : 256 - size ≡ suc (256 - (size + 1)) = omega arith in
    ap (λ (k : ℕ). set (done ++ zeros k) size b) f
    ∙ ap (λ (k : ℕ). set (done ++ 0 ∷ zeros (256 - (size + 1))) k b) (sym e)
    ∙ set-append_seam done 0 (zeros (256 - (size + 1))) b
    ∙ sym (append_assoc done (b ∷ []) (zeros (256 - (size + 1))))

-- a pair read
one_more : (case : Case) (text bytes : List ℕ) (i b : ℕ) → 2 * i + 1 < length text → i < 256
    → pair_of (digit_in case (get_or text (2 * i) 0)) (digit_in case (get_or text (2 * i + 1) 0)) ≡ Ok b → Left case text bytes i → Left case text (set bytes i b) (i + 1)
one_more case text bytes i b h k e left = record {
  done = left.done ++ b ∷ [];
  sized = length-append left.done (b ∷ []) ∙ omega (arith, left.sized);
  holds = ap (λ (y : List ℕ). set y i b) left.holds ∙ stored left.done i b left.sized k;
  rest =
      let next : 2 * i + 2 ≡ 2 * (i + 1) = omega arith in
      left.rest
      ∙ ap (behind left.done) (two case text (2 * i) h ∙ ap (λ (p : Result ℕ BadDigit). and_then p (from_hex_in case (drop (2 * i + 2) text))) e)
      ∙ more left.done b (from_hex_in case (drop (2 * i + 2) text))
      ∙ ap (λ (n : ℕ). behind (left.done ++ b ∷ []) (from_hex_in case (drop n text))) next;
}

pub returns-then-size-gt256 : goal.returns-then-size-gt256
returns-then-size-gt256 c =
    let many : (n : ℕ) → length c.args.text.now ≡ 2 * n → 256 < n =
    elim c.then-size-gt256.branch [
      | then-size-gt256-via-then-size-gt256 w ↦ λ n e. omega (arith, e, w.if-size-gt256.true)
      | then-size-gt256-via-else-size-gt256+then-text-ne0 w ↦ λ n e. omega (arith, e, w.if-text-ne0.true)
    ] in
    c.empty.ensures ∙ no_field c.args.case c.args.text.now many

pub loop-i-init : goal.loop-i-init
loop-i-init c = record { done = []; sized = refl; holds = refl; rest = start (from_hex_in c.args.case c.args.text.now) }
  where
    start : (r : Option (List ℕ)) → r ≡ behind [] r
    start (some y) = refl
    start none = refl

pub loop-i-preserved : goal.loop-i-preserved
loop-i-preserved c = one_more _ _ _ _ _ (omega arith) (omega arith) (sym c.read_pair.ensures ∙ c.in-Ok.is) c.loop-i.invariant

pub returns : goal.returns
unfolding field_of
returns c =
    let left = c.loop-i.invariant in
    let case : Case = c.args.case in
    let text : List ℕ = c.args.text.now in
    let half : c.loop-i.i ≡ length text / 2 = omega arith in
    let none_left : drop (2 * c.loop-i.i) text ≡ [] = drop_of_length-le text {i = 2 * c.loop-i.i} (omega (arith, c.if-text-ne0.false)) in
    let all : from_hex_in case text ≡ some left.done =
    left.rest ∙ ap (λ (y : List ℕ). behind left.done (from_hex_in case y)) none_left ∙ ap some (append-nil left.done) in
    let size : length left.done ≡ length text / 2 = left.sized ∙ half in
    (λ j. record { bytes = (left.holds ∙ ap (λ (k : ℕ). left.done ++ zeros (256 - k)) (sym left.sized)) j; size = sym size j })
    ∙ rw (all, le-leb (length left.done) 256 (omega (arith, size, c.if-size-gt256.false)))
