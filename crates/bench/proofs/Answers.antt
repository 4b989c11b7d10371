-- One answer more: read into the place, or written.
use mathlib.Core.Path.{◌≡◌, refl, sym, ap, ◌∙◌}
use mathlib.Core.Bool.{Bool, true, false, cond}
use mathlib.Core.List.{List, [], ◌∷◌, ◌++◌}
use Prim.Native.Nat.{ℕ, ◌+◌, ◌-◌, ◌≤◌}
use native.Mathlib.Omega.{arith}
use lib.Dec.{eqb}
use lib.ListN.{length, take, drop, take-append-drop, length-append, length-take, length-drop}
use lib.Seq.{length-take-le, take_at, take-append-add}
use borrow.Author.Tests.{ne_eqb}
use Rattle.turns.specs.Run as run
use Rattle.turns.specs.Run.{Reply}
use Rattle.std.proofs.Common.{Option, Some, None, Result, Ok, Err}
use Rattle.bench.specs.declared.progress.Unmoved.TheVariants.{Again, Failed}
use Rattle.bench.specs.declared.whole.Unread.{Unread}
use Rattle.bench.specs.Input.{Input}
use Rattle.bench.specs.Input as input
use Rattle.bench.specs.Output.{Output}
use Rattle.bench.specs.Progress.{Heard, moved_by}
use Rattle.bench.specs.Whole.{Got, got, got_by, further, read_on, read_by, size_of, shown, part_written, written_on}

-- ---- reading

-- answers, and then one more
pub read_more_lem : (room : ℕ) (g : Got) (replies : List Reply) (reply : Reply)
    → read_on room g (replies ++ reply ∷ []) ≡ further room (read_on room g replies).content (read_on room g replies).input reply
read_more_lem room g [] reply = refl
read_more_lem room g (a ∷ replies) reply = read_more_lem room (further room g.content g.input a) replies reply

-- the first bytes of a place, and then more of them
take_more : (m n : ℕ) (x : List ℕ) → m ≤ length x → take (m + n) x ≡ take m x ++ take n (drop m x)
take_more m n x h =
    let size : length (take m x) ≡ m = length-take-le m x h in
    ap (λ (k : ℕ). take (k + n) x) (sym size) ∙ ap (take (length (take m x) + n)) (sym (take-append-drop m x)) ∙ take-append-add (take m x) (drop m x) n

-- bytes read into a place behind its first ones: these stay, and so does the length
pub record Kept (before after : List ℕ) (left : ℕ) : Type 0 where
  pub front : take left after ≡ take left before
  pub same : length after ≡ length before

pub kept_front : (before brought : List ℕ) (left rest : ℕ) → left + rest ≡ length before → length brought ≡ length (take rest (drop left before))
    → Kept before (take left before ++ (brought ++ drop rest (drop left before))) left
kept_front before brought left rest h e =
    let behind = drop rest (drop left before) in
    record {
      front = take_at (take left before) (brought ++ behind) left (length-take-le left before (omega arith));
      same = omega (
        arith,
        length-append (take left before) (brought ++ behind),
        length-append brought behind,
        length-take-le left before (omega arith),
        length-drop left before,
        length-drop rest (drop left before),
        length-take rest (drop left before),
        e,
      );
    }

-- how far the reading is after an answer
abbrev pub input_by : ℕ → Result (Option ℕ) Unread → Input
input_by filled (Ok (Some more)) = input.Part more
input_by filled (Ok None) = input.Whole filled
input_by filled (Err why) = input.Failed

-- what a read moved stands behind the bytes before it, which stay: it is an answer that delivered them
pub record Answer (before after : List ℕ) (filled : ℕ) (heard : Heard) : Type 0 where
  pub reply : Reply
  pub is : shown (input_by filled (read_by filled heard)) after ≡ got_by (take filled before) reply

pub answer_of_lem : (before after : List ℕ) (filled : ℕ) (heard : Heard) → filled ≤ length before → take filled after ≡ take filled before
    → filled + moved_by heard ≤ length after → Answer before after filled heard
answer_of_lem before after filled (Ok count) h kept fits =
    record { reply = run.Came bytes; is = go (eqb count 0) refl ∙ ap (λ (n : ℕ). by n) (sym size) }
  where
    bytes : List ℕ
    bytes = take count (drop filled after)

    size : length bytes ≡ count
    size = length-take-le count (drop filled after) (omega (arith, length-drop filled after))

    front : length (take filled before) ≡ filled
    front = length-take-le filled before h

    by : ℕ → Got
    by n = cond (eqb n 0) (got (take filled before) (input.Whole (length (take filled before)))) (got (take filled before ++ bytes) (input.Part (length (take filled before) + n)))

    go : (b : Bool) → eqb count 0 ≡ b
        → shown (input_by filled (cond b (Ok None) (Ok (Some (filled + count))))) after
        ≡ cond b (got (take filled before) (input.Whole (length (take filled before)))) (got (take filled before ++ bytes) (input.Part (length (take filled before) + count)))
    go true e = λ j. got (kept j) (input.Whole (sym front j))
    go false e =
        let joined : take (filled + count) after ≡ take filled before ++ bytes = take_more filled count after (omega arith) ∙ ap (λ (x : List ℕ). x ++ bytes) kept in
        λ j. got (joined j) (input.Part (sym front j + count))
answer_of_lem before after filled (Err Again) h kept fits =
    let front : length (take filled before) ≡ filled = length-take-le filled before h in
    record { reply = run.Again; is = λ j. got (kept j) (input.Part (sym front j)) }
answer_of_lem before after filled (Err Failed) h kept fits = record { reply = run.Failed; is = refl }

-- no more stands in the place than before and what was moved
sized : (filled : ℕ) (heard : Heard) → size_of (input_by filled (read_by filled heard)) ≤ filled + moved_by heard
sized filled (Ok count) = go (eqb count 0)
  where
    go : (b : Bool) → size_of (input_by filled (cond b (Ok None) (Ok (Some (filled + count))))) ≤ filled + count
    go true = omega arith
    go false = omega arith
sized filled (Err Again) = omega arith
sized filled (Err Failed) = omega arith

-- the same of bytes that were read into a place with room, as one answer more
pub record Answered (before after : List ℕ) (filled : ℕ) (heard : Heard) : Type 0 where
  pub reply : Reply
  pub is : shown (input_by filled (read_by filled heard)) after ≡ further (length before) (take filled before) (input.Part filled) reply
  pub inside : size_of (input_by filled (read_by filled heard)) ≤ length before

pub answered : (before brought : List ℕ) (filled : ℕ) (heard : Heard) → filled ≤ length before → (filled ≡ length before → ⊥)
    → length brought ≡ length (take (length before - filled) (drop filled before)) → moved_by heard ≤ length brought
    → Answered before (take filled before ++ (brought ++ drop (length before - filled) (drop filled before))) filled heard
answered before brought filled heard h room size fits =
    let moved : filled + moved_by heard ≤ length before = omega (arith, fits, size, length-take (length before - filled) (drop filled before), h) in
    let after = take filled before ++ (brought ++ drop (length before - filled) (drop filled before)) in
    let kept = kept_front before brought filled (length before - filled) (omega arith) size in
    let a = answer_of_lem before after filled heard h kept.front (omega (arith, moved, kept.same)) in
    record { reply = a.reply; is = rw (ne_eqb filled (length before) room) a.is; inside = omega (arith, sized filled heard, moved) }

-- ---- writing

-- answers, and then one more
pub written_more : (size : ℕ) (so_far : Output) (answers : List Heard) (heard : Heard)
    → written_on size so_far (answers ++ heard ∷ []) ≡ part_written size (written_on size so_far answers) heard
written_more size so_far [] heard = refl
written_more size so_far (a ∷ answers) heard = written_more size (part_written size so_far a) answers heard
