-- `entry::writing::Entry::put_lines` meets its contract.
use mathlib.Core.Path.{◌≡◌, refl, sym, ap, ◌∙◌}
use mathlib.Core.List.{List, [], ◌∷◌, ◌++◌, append_assoc}
use Prim.Native.Nat.{ℕ, zero, suc, ◌+◌, ◌-◌, ◌≤◌, ◌<◌}
use native.Mathlib.Omega.{arith}
use lib.ListN.{length, get_or, take, drop, length-append}
use Rattle.digits.specs.Room.{laid, put}
use Rattle.digits.proofs.Room.{put_fits, put_inside, behind, put_after}
use Rattle.lines.specs.Texts.{text_from}
use Rattle.record.specs.declared.form.Record.{Record}
use Rattle.entry.specs.declared.form.Part.TheVariants.{Count, Key, Nonce, Pt, Ad, Ct, End}
use Rattle.entry.specs.Form.{number_of, line_text, entry_text}
use Rattle.entry.proofs.writing.Entry.put_lines.Invariants.{Left}
use Rattle.entry.proofs.writing.Entry.put_lines.Goals as goal
use Rattle.entry.proofs.writing.Entry.put_lines.Goals.{After-put_line-at}

module _ (number : ℕ) (r : Record) (before out : List ℕ) (at line : ℕ) (left : Left number r before out at line) (h : line < 8)
    (room : length (entry_text number r) ≤ length before) where
  -- the lines up to this one
  abbrev passed : List ℕ
  passed = left.earlier ++ line_text number line r

  -- and those behind it
  abbrev later : List ℕ
  later = text_from (line_text number) (8 - (line + 1)) (line + 1) r

  -- together they are the entry
  parts : passed ++ later ≡ entry_text number r
  parts =
      let k : suc (8 - (line + 1)) ≡ 8 - line = omega arith in
      append_assoc left.earlier (line_text number line r) later ∙ ap (λ (i : ℕ). left.earlier ++ text_from (line_text number) i line r) k ∙ left.whole

  -- a line put
  one_more : (part : List ℕ) (n : ℕ) → laid n part ≡ put (line_text number line r) (take (length out - at) (drop at out))
      → Left number r before (behind at out part) (at + n) (line + 1)
  one_more part n e =
      record {
        earlier = passed;
        whole = parts;
        done = put_after left.earlier (line_text number line r) before out part at n left.done (omega (arith, ap length parts, length-append passed later)) e;
      }

-- the parts stand in the order of the lines
numbered : (i : ℕ) → i < 7 → number_of (get_or (Count ∷ Key ∷ Nonce ∷ Pt ∷ Ad ∷ Ct ∷ End ∷ []) i Count) ≡ i + 1
numbered zero h = refl
numbered (suc zero) h = refl
numbered (suc (suc zero)) h = refl
numbered (suc (suc (suc zero))) h = refl
numbered (suc (suc (suc (suc zero)))) h = refl
numbered (suc (suc (suc (suc (suc zero))))) h = refl
numbered (suc (suc (suc (suc (suc (suc zero)))))) h = refl
numbered (suc (suc (suc (suc (suc (suc (suc i))))))) h = absurd (omega arith)

pub loop-part-init : goal.loop-part-init
unfolding entry_text
loop-part-init c = record { earlier = []; whole = refl; done = sym (put_fits [] c.args.out.now (omega arith)) }

pub slice_bounds-put_line-count : goal.slice_bounds-put_line-count
slice_bounds-put_line-count c = (put_inside _ _ _ _ c.loop-part.invariant.done).0

pub slice_bounds-put_line-start : goal.slice_bounds-put_line-start
slice_bounds-put_line-start c = (put_inside _ _ _ _ c.loop-part.invariant.done).0

-- what holds behind a line put
line-put : (c : After-put_line-at) → let l = c.loop-part in
    let a = c.args in
    Left a.self.now.number a.self.now.content a.out.now (behind l.at l.out c.put_line-at.new.out) (l.at + c.put_line-at.result) (l.part-index + 1 + 1)
line-put c =
    let l = c.loop-part in
    let a = c.args in
    let number = a.self.now.number in
    let entry = a.self.now.content in
    one_more number entry a.out.now l.out l.at (l.part-index + 1) l.invariant (omega (arith, c.loop-part-test.true)) c.requires _ _
    (c.put_line-at.ensures ∙ ap (λ (k : ℕ). put (line_text number k entry) (take (length l.out - l.at) (drop l.at l.out))) (numbered l.part-index c.loop-part-test.true))

pub overflow_add-at : goal.overflow_add-at
overflow_add-at c =
    let inside = put_inside _ _ _ _ (line-put (goal.at.overflow_add-at c).After-put_line-at).done in
    record { fits = omega (arith, inside.0, inside.1, c.well_formed.1.0.0) }

pub loop-part-preserved : goal.loop-part-preserved
loop-part-preserved c = line-put (goal.at.loop-part-preserved c).After-put_line-at
