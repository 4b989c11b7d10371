-- Text in a place: where there is room, and where there is not.
use mathlib.Core.Path.{◌≡◌, refl, sym, ap, ap₂, ◌∙◌}
use mathlib.Core.Bool.{Bool, true, false, cond}
use mathlib.Core.List.{List, [], ◌++◌, append_assoc, append-nil}
use Prim.Native.Nat.{ℕ, ◌+◌, ◌-◌, ◌≤◌, ◌<◌}
use native.Mathlib.Omega.{arith}
use lib.Dec.{leb}
use lib.ListN.{length, take, drop, length-append, length-drop, drop_of_length-le}
use lib.Seq.{take_all, take-append_seam, drop-append_seam, drop-drop}
use borrow.Author.Tests.{le-leb, lt-leb, leb-true}
use Rattle.digits.specs.Room.{line_of, Laid, laid, put}

-- a text that fits stands at the beginning
pub put_fits : (text out : List ℕ) → length text ≤ length out → put text out ≡ laid (length text) (text ++ drop (length text) out)
unfolding put
put_fits text out h = rw (le-leb (length text) (length out) h)

-- one that does not changes nothing
pub put_short : (text out : List ℕ) → length out < length text → laid 0 out ≡ put text out
unfolding put
put_short text out h = rw (lt-leb (length text) (length out) h)

-- a count and a place that are those of a text put
pub put_is : (text before after : List ℕ) (count : ℕ) → count ≡ length text → count ≤ length before → after ≡ text ++ drop count before
    → laid count after ≡ put text before
put_is text before after count size room e =
    (λ j. laid (size j) ((e ∙ (λ i. text ++ drop (size i) before)) j)) ∙ sym (put_fits text before (omega arith))

-- a place keeps its length, and what was put is in it
pub put_inside : (text before after : List ℕ) (count : ℕ) → laid count after ≡ put text before → (count ≤ length after) × (length after ≡ length before)
unfolding put
put_inside text before after count = go (leb (length text) (length before)) refl
  where
    go : (t : Bool) → leb (length text) (length before) ≡ t
        → laid count after ≡ cond t (laid (length text) (text ++ drop (length text) before)) (laid 0 before)
        → (count ≤ length after) × (length after ≡ length before)
    go true h e =
        let size = ap (λ (l : Laid). length l.out) e ∙ length-append text (drop (length text) before) in
        let left = length-drop (length text) before in
        let room = leb-true (length text) (length before) h in
        let put = ap (λ (l : Laid). l.count) e in
        (omega arith, omega arith)
    go false h e = (omega (arith, ap (λ (l : Laid). l.count) e), ap (λ (l : Laid). length l.out) e)

-- what was put, where there is room
pub put_count : (text before after : List ℕ) (count : ℕ) → laid count after ≡ put text before → length text ≤ length before
    → (count ≡ length text) × (after ≡ text ++ drop (length text) before)
put_count text before after count e room =
    let f = e ∙ put_fits text before room in
    (ap (λ (l : Laid). l.count) f, ap (λ (l : Laid). l.out) f)

-- a place whose first m bytes stay, with another rest behind them
abbrev pub behind : ℕ → List ℕ → List ℕ → List ℕ
behind m out rest = take m out ++ (rest ++ drop (length out - m) (drop m out))

-- a text put, and another into the rest of the place, straight after it
pub put_after : (x y before between after : List ℕ) (m n : ℕ) → laid m between ≡ put x before → length (x ++ y) ≤ length before
    → laid n after ≡ put y (take (length between - m) (drop m between))
    → laid (m + n) (behind m between after) ≡ put (x ++ y) before
put_after x y before between after m n e room f =
    let both = length-append x y in
    let first = put_count x before between m e (omega arith) in
    let left = length-drop m between in
    let rest : take (length between - m) (drop m between) ≡ drop (length x) before =
    take_all (length between - m) (drop m between) (omega arith) ∙ ap₂ drop first.0 first.1 ∙ drop-append_seam x (drop (length x) before) in
    let second = put_count y _ after n f (omega (arith, ap length rest, length-drop (length x) before)) in
    let done : take m between ≡ x = ap₂ take first.0 first.1 ∙ take-append_seam x (drop (length x) before) in
    let none : drop (length between - m) (drop m between) ≡ [] = drop_of_length-le (drop m between) {i = length between - m} (omega arith) in
    let sum : m + n ≡ length (x ++ y) = omega (arith, first.0, second.0) in
    put_is (x ++ y) before _ (m + n) sum (omega arith)
    (ap₂ (λ (a b : List ℕ). a ++ b) done (ap (λ (z : List ℕ). after ++ z) none ∙ append-nil after ∙ second.1)
    ∙ ap (λ (z : List ℕ). x ++ (y ++ z)) (ap (drop (length y)) rest ∙ drop-drop (length y) (length x) before ∙ ap (λ (k : ℕ). drop k before) (sym (sum ∙ both)))
    ∙ sym (append_assoc x y (drop (m + n) before)))

-- a line has its name's bytes, its value's, and one more
pub length_line : (name value : List ℕ) → length (line_of name value) ≡ length name + length value + 1
unfolding line_of
length_line name value = simp length-append (omega arith)
