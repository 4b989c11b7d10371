-- Counting verdicts.
use mathlib.Core.Path.{◌≡◌, refl}
use mathlib.Core.List.{List, [], ◌∷◌, ◌++◌}
use Prim.Native.Nat.{ℕ, ◌+◌, ◌≤◌}
use native.Mathlib.Omega.{arith}
use lib.ListN.{length, length-append}
use Rattle.report.specs.declared.Verdict.{Verdict}
use Rattle.report.specs.declared.Verdict.TheVariants.{Equal, Rounds, Cipher, Tag, Unread}
use Rattle.turns.specs.declared.Tally.{Tally}
use Rattle.turns.specs.Tallies.{counted_with, counted_all, records_of, numbered, end_line, last_words}

-- one verdict more is one record more
pub counted_more : (t : Tally) (verdict : Verdict) → records_of (counted_with t verdict) ≡ records_of t + 1
counted_more t Equal = omega arith
counted_more t Rounds = omega arith
counted_more t Cipher = omega arith
counted_more t Tag = omega arith
counted_more t (Unread line column) = omega arith

-- a verdict that is not unread leaves the unread ones as many as they are
pub unread_stays : (t : Tally) (verdict : Verdict) → ((line column : ℕ) → verdict ≡ Unread line column → ⊥) → (counted_with t verdict).unread ≡ t.unread
unread_stays t Equal h = refl
unread_stays t Rounds h = refl
unread_stays t Cipher h = refl
unread_stays t Tag h = refl
unread_stays t (Unread line column) h = absurd (h line column refl)

-- verdicts, and one behind them
pub counted_behind : (t : Tally) (verdicts : List Verdict) (verdict : Verdict) → counted_all t (verdicts ++ verdict ∷ []) ≡ counted_with (counted_all t verdicts) verdict
counted_behind t [] verdict = refl
counted_behind t (v ∷ verdicts) verdict = counted_behind (counted_with t v) verdicts verdict

-- as many records as verdicts
pub records_counted : (t : Tally) (verdicts : List Verdict) → records_of (counted_all t verdicts) ≡ records_of t + length verdicts
records_counted t [] = omega arith
records_counted t (v ∷ verdicts) =
    let first = counted_more t v in
    let rest = records_counted (counted_with t v) verdicts in
    omega arith

-- the last words have a byte at the least
pub words_some : (t : Tally) → 1 ≤ length (last_words t)
unfolding last_words end_line numbered
words_some t = simp length-append (omega arith)
