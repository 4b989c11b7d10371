-- `lines::table::read_table` meets its contract.
use Rattle.std.proofs.Common.{arith, rules, ◌≡◌, sym, ap, ◌∙◌, List, ℕ, suc, ◌+◌, ◌-◌, ◌≤◌, length, take, drop}
use Rattle.std.specs.Prelude.{ltb, Some, None, Ok, Err}
use Rattle.std.proofs.lemmas.List.{length-drop}
use Rattle.std.proofs.Math.Seq.{take_all}
use Rattle.lines.specs.declared.table.Unread.{Unread}
use Rattle.lines.specs.declared.walk.Stopped.{Stopped}
use Rattle.lines.specs.Steps.{Found}
use Rattle.lines.specs.Tables.{broken_at, go_on, lines_from}
use Rattle.lines.proofs.table.read_table.Goals as goal
use Rattle.lines.proofs.table.read_table.Goals.{then-count-line, else-count-line+in-Err}

-- what is left of a text, as a slice of it
left-is : (text : List ℕ) (at : ℕ) → take (length text - at) (drop at text) ≡ drop at text
left-is text at = take_all (length text - at) (drop at text) (omega (arith, length-drop at text))

-- the line behind those that were passed
module _ {E : Type 0} (read_at : ℕ → E → List ℕ → Found) (given : ℕ → E → ℕ → List ℕ → E) (count passed at : ℕ) (e : E) (text : List ℕ) (h : passed + 1 ≤ count) where
  -- what was found in it, and the lines behind it
  one_line : (found : Found) → found ≡ read_at (passed + 1) e (take (length text - at) (drop at text))
      → lines_from read_at given (count - passed) (passed + 1) at e text
      ≡ go_on (passed + 1) (drop at text) found
      (λ size says. lines_from read_at given (count - (passed + 1)) (passed + 1 + 1) (at + size) (given (passed + 1) e says (take size (drop at text))) text)
  one_line found reads =
      let more : count - passed ≡ suc (count - (passed + 1)) = omega arith in
      ap (λ (k : ℕ). lines_from read_at given k (passed + 1) at e text) more
      ∙ ap
      (λ (q : Found). go_on (passed + 1) (drop at text) q
      (λ size says. lines_from read_at given (count - (passed + 1)) (passed + 1 + 1) (at + size) (given (passed + 1) e says (take size (drop at text))) text))
      (sym (reads ∙ ap (read_at (passed + 1) e) (left-is text at)))

  -- where it was not read, it is the broken one
  refused : (s : Stopped) (unread : Unread) → Err s ≡ read_at (passed + 1) e (take (length text - at) (drop at text))
      → unread ≡ record { line = passed + 1; column = s.column; early = ltb (length (take (length text - at) (drop at text))) s.column }
      → broken_at unread.line unread.column unread.early ≡ lines_from read_at given (count - passed) (passed + 1) at e text
  refused s unread reads told =
      ap (λ (u : Unread). broken_at u.line u.column u.early) told
      ∙ ap (λ (x : List ℕ). broken_at (passed + 1) s.column (ltb (length x) s.column)) (left-is text at)
      ∙ sym (one_line (Err s) reads)

pub loop-line-preserved : goal.loop-line-preserved
loop-line-preserved g c =
    let m = g.T.Table in
    let l = c.loop-line in
    let text = c.args.text.now in
    let found = c.in-Ok.found in
    let read_at = m.read_at c.args.table.now in
    let given = m.given c.args.table.now in
    let count = m.count c.args.table.now in
    let more : l.line + 1 ≤ count = omega (arith, c.count.ensures) in
    let next = c.take_line.ensures ∙ ap (λ (rest : List ℕ). given (l.line + 1) l.content found.number (take found.size rest)) (left-is text l.taken) in (
      more,
      search rules,
      ap (λ e. lines_from read_at given (count - (l.line + 1)) (l.line + 1 + 1) (l.taken + found.size) e text) next
          ∙ sym (one_line read_at given count l.line l.taken l.content text more (Ok found) (sym c.in-Ok.is ∙ c.read_line.ensures))
          ∙ l.invariant.2,
    )

pub returns-in-Some : goal.returns-in-Some
returns-in-Some g c =
    let m = g.T.Table in
    let l = c.loop-line in
    let text = c.args.text.now in
    let rest = take (length text - l.taken) (drop l.taken text) in
    let unread = c.in-Some.unread in
    elim c.if-count-line.branch [
      | then-count-line w ↦ let none : None ≡ Some unread = sym w.bad-is ∙ c.in-Some.is in cc
      | else-count-line+in-Err w ↦
          let s = w.in-Err.stopped in
          let told : unread ≡ record { line = l.line + 1; column = s.column; early = ltb (length rest) s.column } = search rules in
          refused (m.read_at c.args.table.now) (m.given c.args.table.now) (m.count c.args.table.now) l.line l.taken l.content text
          (omega (arith, c.count.ensures, w.if-count-line.false)) s unread (sym w.in-Err.is ∙ w.read_line.ensures) told
          ∙ l.invariant.2
    ]
