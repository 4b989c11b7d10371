-- `digits::put_line` meets its contract.
use mathlib.Core.Path.{◌≡◌, sym, ap, ◌∙◌}
use mathlib.Core.List.{List, [], ◌∷◌, ◌++◌, append_assoc}
use Prim.Native.Nat.{ℕ, suc, ◌+◌, ◌-◌, ◌<◌}
use native.Mathlib.Omega.{arith}
use lib.ListN.{length, get_or, set, take, drop, length-append}
use lib.Seq.{take-append_seam, drop-append_seam, drop-drop, drop-cons}
use Rattle.std.proofs.lemmas.List.{set_at}
use Rattle.digits.specs.Room.{line_of}
use Rattle.digits.proofs.Room.{put_is, length_line}
use Rattle.digits.proofs.put_line.Goals as goal

-- a name, a value behind it and a line feed behind both are a line, and the rest of the place stays
three : (name value out : List ℕ) → length name + length value < length out
    → let front = name ++ drop (length name) out in
    set (take (length name) front ++ (value ++ drop (length name + length value - length name) (drop (length name) front))) (length name + length value) 0x0a
    ≡ line_of name value ++ drop (length name + length value + 1) out
unfolding line_of
three name value out h =
    let n : ℕ = length name + length value in
    let rest : List ℕ = drop (suc n) out in
    let cut : drop (n - length name) (drop (length name) out) ≡ get_or out n 0 ∷ rest =
    drop-drop (n - length name) (length name) out ∙ ap (λ (k : ℕ). drop k out) (omega arith) ∙ drop-cons out n 0 h in
    let last : suc n ≡ n + 1 = omega arith in
    rw (take-append_seam name (drop (length name) out), drop-append_seam name (drop (length name) out), cut)
    (ap (λ (x : List ℕ). set x n 0x0a) (sym (append_assoc name value (get_or out n 0 ∷ rest)))
    ∙ set_at (name ++ value) (get_or out n 0) rest 0x0a n (length-append name value)
    ∙ append_assoc name value (0x0a ∷ rest)
    ∙ ap (λ (x : List ℕ). name ++ x) (sym (append_assoc value (0x0a ∷ []) rest))
    ∙ sym (append_assoc name (value ++ 0x0a ∷ []) rest)
    ∙ ap (λ (k : ℕ). (name ++ (value ++ 0x0a ∷ [])) ++ drop k out) last)

pub returns : goal.returns
returns c =
    let a = c.args in
    let name = a.name.now in
    let value = a.value.now in
    put_is (line_of name value) a.out.now _ (length name + length value + 1) (sym (length_line name value)) (omega arith)
    (rw (c.copy_from_slice.ensures.after, c.copy_from_slice-2.ensures.after) (three name value a.out.now (omega arith)))
