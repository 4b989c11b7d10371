-- How long reports are.
use mathlib.Core.Path.{◌≡◌, refl}
use Prim.Native.Nat.{ℕ, ◌+◌, ◌≤◌, ◌<◌, ◌^◌}
use native.Mathlib.Omega.{arith}
use lib.ListN.{length, length-append}
use Rattle.digits.specs.Numbers.{numeral}
use Rattle.digits.proofs.Numerals.{length_numeral, places_least}
use Rattle.digits.proofs.Room.{length_line}
use Rattle.report.specs.declared.Verdict.{Verdict}
use Rattle.report.specs.declared.Verdict.TheVariants.{Equal, Rounds, Cipher, Tag, Unread}
use Rattle.report.specs.Reports.{word, part, record_line, verdict_line, field_line, report_text}

-- a number of 64 bits has at most 20 digits
pub numeral_most : (n : ℕ) → n < 2 ^ 64 → length (numeral n) ≤ 20
numeral_most n h = omega (arith, length_numeral n, places_least n 19 (omega arith))

-- a report has 24 bytes, its number's, its word's and its field's
pub length_report : (number : ℕ) (verdict : Verdict) → length (report_text number verdict) ≡ 24 + length (numeral number) + (length (word verdict) + length (part verdict))
unfolding report_text record_line verdict_line field_line
length_report number verdict = simp (length-append, length_line) (omega arith)

-- a report has at most 70 bytes, where its numbers have 64 bits
pub report_most : (number : ℕ) (verdict : Verdict) → number < 2 ^ 64 → ((line column : ℕ) → verdict ≡ Unread line column → line < 2 ^ 64) → length (report_text number verdict) ≤ 70
report_most number Equal h k = omega (arith, length_report number Equal, numeral_most number h)
report_most number Rounds h k = omega (arith, length_report number Rounds, numeral_most number h)
report_most number Cipher h k = omega (arith, length_report number Cipher, numeral_most number h)
report_most number Tag h k = omega (arith, length_report number Tag, numeral_most number h)
report_most number (Unread line column) h k = omega (arith, length_report number (Unread line column), numeral_most number h, numeral_most line (k line column refl))
