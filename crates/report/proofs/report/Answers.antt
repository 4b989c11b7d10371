-- `report::report` meets its contract.
use mathlib.Core.Path.{◌≡◌, sym, ap, ap₂, ◌∙◌}
use mathlib.Core.List.{List, ◌++◌, append_assoc}
use Prim.Native.Nat.{ℕ, ◌+◌, ◌-◌, ◌≤◌}
use native.Mathlib.Omega.{arith}
use lib.ListN.{length, take, drop, length-append}
use lib.Seq.{length-take-le, take-append_seam}
use borrow.Author.Tests.{le-leb, lt-leb}
use Rattle.answers.specs.declared.Answer.TheVariants.{Done}
use Rattle.digits.specs.Ascii.{ascii}
use Rattle.digits.specs.Numbers.{numeral}
use Rattle.digits.specs.Room.{line_of, laid, put}
use Rattle.digits.proofs.Room.{behind, put_inside, put_count, put_after}
use Rattle.report.specs.declared.Verdict.{Verdict}
use Rattle.report.specs.Reports.{word, part, record_line, verdict_line, field_line, report_text, report_leaves, report_call}
use Rattle.report.proofs.Lengths.{numeral_most, length_report}
use Rattle.report.proofs.report.Goals as goal

-- a text that had room stands at the beginning of its place
taken : (text before after : List ℕ) (count : ℕ) → laid count after ≡ put text before → length text ≤ length before → (count ≡ length text) × (take count after ≡ text)
taken text before after count e h =
    let whole = put_count text before after count e h in (whole.0, ap₂ take whole.0 whole.1 ∙ take-append_seam text (drop (length text) before))

-- the three lines have room
room : (number : ℕ) (verdict : Verdict) (out : List ℕ) → length (report_text number verdict) ≤ length out
    → length ((record_line number ++ verdict_line verdict) ++ field_line verdict) ≤ length out
unfolding report_text
room number verdict out h = omega (arith, ap length (append_assoc (record_line number) (verdict_line verdict) (field_line verdict)), h)

-- two lines are put
two : (number : ℕ) (verdict : Verdict) (out after part digits said : List ℕ) (one other : ℕ) → length (report_text number verdict) ≤ length out
    → digits ≡ numeral number → said ≡ word verdict
    → laid one after ≡ put (line_of (ascii "record=") digits) out → laid other part ≡ put (line_of (ascii "verdict=") said) (take (length after - one) (drop one after))
    → laid (one + other) (behind one after part) ≡ put (record_line number ++ verdict_line verdict) out
unfolding record_line verdict_line
two number verdict out after part digits said one other h d w put-one put-two =
    let whole = length-append (record_line number ++ verdict_line verdict) (field_line verdict) in
    put_after (record_line number) (verdict_line verdict) out after part one other
    (put-one ∙ ap (λ (x : List ℕ). put (line_of (ascii "record=") x) out) d)
    (omega (arith, room number verdict out h))
    (put-two ∙ ap (λ (x : List ℕ). put (line_of (ascii "verdict=") x) (take (length after - one) (drop one after))) w)

-- three lines are put
three : (number : ℕ) (verdict : Verdict) (out after last names : List ℕ) (end third : ℕ) → length (report_text number verdict) ≤ length out → names ≡ part verdict
    → laid end after ≡ put (record_line number ++ verdict_line verdict) out → laid third last ≡ put (line_of (ascii "field=") names) (take (length after - end) (drop end after))
    → laid (end + third) (behind end after last) ≡ put (report_text number verdict) out
unfolding report_text field_line
three number verdict out after last names end third h f put-two put-three =
    put_after (record_line number ++ verdict_line verdict) (field_line verdict) out after last end third put-two (room number verdict out h)
    (put-three ∙ ap (λ (x : List ℕ). put (line_of (ascii "field=") x) (take (length after - end) (drop end after))) f)
    ∙ ap (λ (x : List ℕ). put x out) (append_assoc (record_line number) (verdict_line verdict) (field_line verdict))

-- what stands in the two small places, and how many bytes the code counts
record Ready (number : ℕ) (verdict : Verdict) (digits said names : List ℕ) (size part_size : ℕ) : Type 0 where
  numbered : take size digits ≡ numeral number
  named : take part_size names ≡ part verdict
  measured : 24 + length (take size digits) + length said + length (take part_size names) ≡ length (report_text number verdict)

ready : (place other : List ℕ) {number size part_size : ℕ} {verdict : Verdict} {digits said names : List ℕ} → laid size digits ≡ put (numeral number) place → length (numeral number) ≤ length place
    → said ≡ word verdict → laid part_size names ≡ put (part verdict) other → length (part verdict) ≤ length other → Ready number verdict digits said names size part_size
ready place other {number} {size} {part_size} {verdict} {digits} {said} {names} n most w f few =
    let first = taken (numeral number) place digits size n most in
    let last = taken (part verdict) other names part_size f few in
    record { numbered = first.1; named = last.1; measured = omega (arith, length_report number verdict, ap length first.1, ap length w, ap length last.1) }

pub slice_bounds-place-end : goal.slice_bounds-place-end
slice_bounds-place-end c = (put_inside _ _ _ _ c.put_number-size.ensures).0

pub slice_bounds-numeral-end : goal.slice_bounds-numeral-end
slice_bounds-numeral-end c = sym (length-take-le _ _ (put_inside _ _ _ _ c.put_number-size.ensures).0)

pub slice_bounds-place-end-2 : goal.slice_bounds-place-end-2
slice_bounds-place-end-2 c = (put_inside _ _ _ _ c.put_part-size.ensures.value).0

pub slice_bounds-part-end : goal.slice_bounds-part-end
slice_bounds-part-end c = sym (length-take-le _ _ (put_inside _ _ _ _ c.put_part-size.ensures.value).0)

pub slice_bounds-put_line-count : goal.slice_bounds-put_line-count
slice_bounds-put_line-count c = (put_inside _ _ _ _ c.put_line-one.ensures).0

pub slice_bounds-put_line-start : goal.slice_bounds-put_line-start
slice_bounds-put_line-start c = (put_inside _ _ _ _ c.put_line-one.ensures).0

pub returns-then-out-numeral : goal.returns-then-out-numeral
unfolding report_call
returns-then-out-numeral c =
    let a = c.args in
    let part = c.put_part-size.ensures in
    let r = ready _ _ c.put_number-size.ensures (numeral_most a.number c.ranges.number.fits) c.word-word.ensures part.value part.upper_bound in
    rw (lt-leb (length (report_text a.number a.verdict)) (length a.out.now) (omega (arith, r.measured, c.if-out-numeral.true)))

pub overflow_add-two : goal.overflow_add-two
overflow_add-two c =
    let a = c.args in
    let part = c.put_part-size.ensures in
    let r = ready _ _ c.put_number-size.ensures (numeral_most a.number c.ranges.number.fits) c.word-word.ensures part.value part.upper_bound in
    let begun = two a.number a.verdict a.out.now _ _ _ _ _ _ (omega (arith, r.measured, c.if-out-numeral.false)) r.numbered c.word-word.ensures c.put_line-one.ensures c.put_line.ensures in
    let h = put_inside _ _ _ _ begun in
    record { fits = omega (arith, h.0, h.1, c.well_formed.1.1.0.0) }

pub slice_bounds-put_line-count-2 : goal.slice_bounds-put_line-count-2
slice_bounds-put_line-count-2 c =
    let a = c.args in
    let part = c.put_part-size.ensures in
    let r = ready _ _ c.put_number-size.ensures (numeral_most a.number c.ranges.number.fits) c.word-word.ensures part.value part.upper_bound in
    let begun = two a.number a.verdict a.out.now _ _ _ _ _ _ (omega (arith, r.measured, c.if-out-numeral.false)) r.numbered c.word-word.ensures c.put_line-one.ensures c.put_line.ensures in
    (put_inside _ _ _ _ begun).0

pub slice_bounds-put_line-start-2 : goal.slice_bounds-put_line-start-2
slice_bounds-put_line-start-2 c =
    let a = c.args in
    let part = c.put_part-size.ensures in
    let r = ready _ _ c.put_number-size.ensures (numeral_most a.number c.ranges.number.fits) c.word-word.ensures part.value part.upper_bound in
    let begun = two a.number a.verdict a.out.now _ _ _ _ _ _ (omega (arith, r.measured, c.if-out-numeral.false)) r.numbered c.word-word.ensures c.put_line-one.ensures c.put_line.ensures in
    (put_inside _ _ _ _ begun).0

pub overflow_add-result : goal.overflow_add-result
overflow_add-result c =
    let a = c.args in
    let part = c.put_part-size.ensures in
    let r = ready _ _ c.put_number-size.ensures (numeral_most a.number c.ranges.number.fits) c.word-word.ensures part.value part.upper_bound in
    let fits : length (report_text a.number a.verdict) ≤ length a.out.now = omega (arith, r.measured, c.if-out-numeral.false) in
    let begun = two a.number a.verdict a.out.now _ _ _ _ _ _ fits r.numbered c.word-word.ensures c.put_line-one.ensures c.put_line.ensures in
    let h = put_inside _ _ _ _ (three a.number a.verdict a.out.now _ _ _ _ _ fits r.named begun c.put_line-2.ensures) in
    record { fits = omega (arith, h.0, h.1, c.well_formed.1.1.0.0) }

pub returns : goal.returns
unfolding report_call
returns c =
    let a = c.args in
    let part = c.put_part-size.ensures in
    let r = ready _ _ c.put_number-size.ensures (numeral_most a.number c.ranges.number.fits) c.word-word.ensures part.value part.upper_bound in
    let fits : length (report_text a.number a.verdict) ≤ length a.out.now = omega (arith, r.measured, c.if-out-numeral.false) in
    let begun = two a.number a.verdict a.out.now _ _ _ _ _ _ fits r.numbered c.word-word.ensures c.put_line-one.ensures c.put_line.ensures in
    let whole = put_count _ _ _ _ (three a.number a.verdict a.out.now _ _ _ _ _ fits r.named begun c.put_line-2.ensures) fits in
    rw (le-leb (length (report_text a.number a.verdict)) (length a.out.now) fits)
    (λ j. report_leaves (record { answer = Done; written = whole.0 j }) (whole.1 j))
