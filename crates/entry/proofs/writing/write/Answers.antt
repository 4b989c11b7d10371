-- `entry::writing::write` meets its contract.
use mathlib.Core.Path.{◌≡◌, refl, sym, ap, ap₂, ◌∙◌}
use mathlib.Core.List.{List}
use Prim.Native.Nat.{ℕ, ◌≤◌}
use native.Mathlib.Omega.{arith}
use lib.ListN.{length, take}
use lib.Seq.{length-take-le, take-append_seam}
use borrow.Author.Tests.{le-leb, lt-leb, eq-eqb}
use Rattle.digits.specs.Room.{laid, put}
use Rattle.digits.proofs.Room.{put_inside, put_count}
use Rattle.record.specs.declared.form.Form.TheVariants.{One}
use Rattle.record.specs.declared.form.Record.{Record}
use Rattle.record.specs.Form.{broken}
use Rattle.record.proofs.Written.{none_found}
use Rattle.entry.specs.Form.{largest_number, entry_text}
use Rattle.entry.specs.Calls.{write_entry}
use Rattle.entry.proofs.Bounds.{entry_most}
use Rattle.entry.proofs.writing.write.Goals as goal
use Rattle.entry.proofs.writing.write.Goals.{In_default}

-- no line breaks its rule
in_form : (c : In_default) → broken One c.args.entry ≡ 0
in_form c = none_found _ (sym c.first_broken.ensures ∙ c.in_default.is)

-- the text put is the record's
text-put : (number size : ℕ) (e : Record) (before after : List ℕ) → number ≤ largest_number → broken One e ≡ 0 → length before ≡ 1_696
    → laid size after ≡ put (entry_text number e) before → (size ≡ length (entry_text number e)) × (take size after ≡ entry_text number e)
text-put number size e before after h in_form room is =
    let text = entry_text number e in
    let whole = put_count text before after size is (rw room (entry_most number h e in_form)) in
    (whole.0, ap₂ take whole.0 whole.1 ∙ take-append_seam text _)

pub put_lines-size-requires : goal.put_lines-size-requires
put_lines-size-requires c =
    entry_most c.args.number (omega (arith, c.ranges.number.fits)) c.args.entry (in_form (goal.at.put_lines-size-requires c).In_default)

pub returns-then-out-size : goal.returns-then-out-size
unfolding write_entry
returns-then-out-size c =
    let a = c.args in
    let whole = in_form (goal.at.returns-then-out-size c).In_default in
    let done = text-put a.number _ a.entry _ _ (omega (arith, c.ranges.number.fits)) whole refl c.put_lines-size.ensures in
    rw (
      whole,
      eq-eqb a.entry.chip 0 c.if-entry-ne0.false,
      lt-leb (length (entry_text a.number a.entry)) (length a.out.now) (omega (arith, done.0, c.if-out-size.true)),
    )

pub slice_bounds-text-end : goal.slice_bounds-text-end
slice_bounds-text-end c = (put_inside _ _ _ _ c.put_lines-size.ensures).0

pub slice_bounds-put_text-end : goal.slice_bounds-put_text-end
slice_bounds-put_text-end c =
    let p = c.put_lines-size in sym (length-take-le p.result p.new.out (put_inside _ _ _ _ p.ensures).0)

pub returns : goal.returns
unfolding write_entry
returns c =
    let a = c.args in
    let whole = in_form (goal.at.returns c).In_default in
    let done = text-put a.number _ a.entry _ _ (omega (arith, c.ranges.number.fits)) whole refl c.put_lines-size.ensures in
    let text = entry_text a.number a.entry in
    let fits : length text ≤ length a.out.now = omega (arith, done.0, c.if-out-size.false) in
    let put = put_count text a.out.now _ _ (c.put_text.ensures ∙ ap (λ (x : List ℕ). put x a.out.now) done.1) fits in
    rw (whole, eq-eqb a.entry.chip 0 c.if-entry-ne0.false, le-leb (length text) (length a.out.now) fits, put.0, put.1)
