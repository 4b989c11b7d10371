-- `record::writing::write` meets its contract.
use mathlib.Core.Path.{◌≡◌, refl, sym, ap, ◌∙◌}
use mathlib.Core.List.{List, [], ◌++◌}
use Prim.Native.Nat.{ℕ, suc, ◌+◌, ◌-◌, ◌≤◌}
use native.Mathlib.Omega.{arith}
use lib.ListN.{length, take, drop, length-append}
use borrow.Author.Tests.{ne_eqb, lt-leb, le-leb}
use Rattle.answers.specs.declared.Answer.TheVariants.{Done}
use Rattle.digits.specs.Room.{laid, put}
use Rattle.digits.proofs.Room.{put_fits, put_inside, put_count, behind, put_after}
use Rattle.lines.proofs.Texts.{text_snoc}
use Rattle.record.specs.Form.{part_at, lines_in, keeps, broken}
use Rattle.record.specs.Text.{line_text, form_line, text_from, text_of}
use Rattle.record.specs.Calls.{write_leaves, write_call}
use Rattle.record.proofs.Chains.{text_all, text_more, in_form_rule}
use Rattle.record.proofs.Written.{found_line, none_found}
use Rattle.record.proofs.writing.write.Invariants.{Left}
use Rattle.record.proofs.writing.write.Goals as goal
use Rattle.record.proofs.writing.write.Goals.{After-put_line-at, In_default}

-- no line breaks its rule
whole : (c : In_default) → broken c.args.form c.args.entry ≡ 0
whole c = none_found _ (sym c.first_broken.ensures ∙ c.in_default.is)

-- what holds behind a line put
line-put : (c : After-put_line-at) → let l = c.loop-line in
    Left c.args.form c.args.entry c.args.out.now (behind l.at l.out c.put_line-at.new.out) (l.at + c.put_line-at.result) (l.line + 1)
line-put c =
    let a = c.args in
    let l = c.loop-line in
    let left = l.invariant in
    let here : List ℕ = line_text (part_at a.form l.line) a.entry in
    let earlier : List ℕ = text_from a.form (l.line - 1) 1 a.entry in
    let more = text_more a.form a.entry l.line (omega (arith, c.lines-line-end.ensures)) in
    let room : length (earlier ++ here) ≤ length a.out.now =
    omega (arith, length-append earlier here, left.sized, left.sum, more, c.text_length.ensures, c.if-out-text_length.false) in
    let part : laid c.put_line-at.result c.put_line-at.new.out ≡ put here (take (length l.out - l.at) (drop l.at l.out)) =
    c.put_line-at.ensures ∙ ap (λ (part : ℕ). put (line_text part a.entry) (take (length l.out - l.at) (drop l.at l.out))) c.part_at.ensures in
    let both = put_after earlier here a.out.now l.out c.put_line-at.new.out l.at c.put_line-at.result left.done room part in
    let lines : text_from a.form (l.line + 1 - 1) 1 a.entry ≡ earlier ++ here =
    let k : l.line + 1 - 1 ≡ suc (l.line - 1) = omega arith in
    ap (λ (i : ℕ). text_from a.form i 1 a.entry) k ∙ text_snoc (form_line a.form) (l.line - 1) 1 l.line a.entry (omega arith) in
    let count = (put_count _ a.out.now _ (l.at + c.put_line-at.result) both room).0 in
    record {
      sized = count ∙ ap length (sym lines);
      sum = omega (arith, left.sized, left.sum, more, length-append earlier here, count);
      done = both ∙ ap (λ (x : List ℕ). put x a.out.now) (sym lines);
    }

pub returns-in-Some : goal.returns-in-Some
unfolding write_call
returns-in-Some c =
    let found = found_line (broken c.args.form c.args.entry) c.in-Some.line (sym c.first_broken.ensures ∙ c.in-Some.is) in
    rw (ne_eqb (broken c.args.form c.args.entry) 0 (λ e. omega (arith, e, found.1)), found.0)

pub returns-then-loses_chip : goal.returns-then-loses_chip
unfolding write_call
returns-then-loses_chip c = rw (whole (goal.at.returns-then-loses_chip c).In_default, sym c.loses_chip.ensures ∙ c.if-loses_chip.true)

pub returns-then-out-text_length : goal.returns-then-out-text_length
unfolding write_call
returns-then-out-text_length c =
    let a = c.args in
    rw (
      whole (goal.at.returns-then-out-text_length c).In_default,
      sym c.loses_chip.ensures ∙ c.if-loses_chip.false,
      lt-leb (length (text_of a.form a.entry)) (length a.out.now) (omega (arith, c.text_length.ensures, c.if-out-text_length.true)),
    )

pub loop-line-init : goal.loop-line-init
loop-line-init c =
    record {
      sized = refl;
      sum = omega (arith, ap length (text_all c.args.form c.args.entry));
      done = sym (put_fits [] c.args.out.now (omega arith));
    }

pub invariant_of-kept : goal.invariant_of-kept
invariant_of-kept c =
    let a = c.args in
    let rule = in_form_rule a.form a.entry (whole (goal.at.invariant_of-kept c).In_default) c.loop-line.line (omega arith) (omega (arith, c.lines-line-end.ensures)) in
    record { keeps = ap (λ (part : ℕ). keeps part a.entry) c.part_at.ensures ∙ rule }

pub overflow_add-at : goal.overflow_add-at
overflow_add-at c =
    let inside = put_inside _ _ _ _ (line-put (goal.at.overflow_add-at c).After-put_line-at).done in
    record { fits = omega (arith, inside.0, inside.1, c.well_formed.1.1.0.0) }

pub loop-line-preserved : goal.loop-line-preserved
loop-line-preserved c = line-put (goal.at.loop-line-preserved c).After-put_line-at

pub returns-else-out-text_length-2 : goal.returns-else-out-text_length-2
unfolding write_call text_of
returns-else-out-text_length-2 c =
    let a = c.args in
    let l = c.loop-line in
    let here = goal.at.returns-else-out-text_length-2 c in
    let left = line-put here.After-put_line-at in
    let room : length (text_of a.form a.entry) ≤ length a.out.now = omega (arith, c.text_length.ensures, c.if-out-text_length.false) in
    let last : l.line + 1 - 1 ≡ lines_in a.form = omega (arith, c.lines-line-end.ensures) in
    let all = put_count (text_of a.form a.entry) a.out.now _ _ (left.done ∙ ap (λ (k : ℕ). put (text_from a.form k 1 a.entry) a.out.now) last) room in
    rw (
      whole here.In_default,
      sym c.loses_chip.ensures ∙ c.if-loses_chip.false,
      le-leb (length (text_of a.form a.entry)) (length a.out.now) room,
    )
    (λ j. write_leaves (record { answer = Done; line = 0; column = 0; written = all.0 j }) (all.1 j))
