-- `bench::judging::Judging::close` meets its contract: the last words stand in the text.
use mathlib.Core.Path.{ap, subst, ◌∙◌}
use mathlib.Core.List.{List}
use Prim.Native.Nat.{ℕ}
use native.Mathlib.Omega.{arith}
use lib.ListN.{length}
use Rattle.turns.specs.Run.{is_closing, closed}
use Rattle.bench.specs.Progress.{ending, Closed}
use Rattle.bench.specs.Lines.{Follows}
use Rattle.bench.proofs.Lines.{follows_laid}
use Rattle.bench.proofs.Views.{closed_says}
use Rattle.bench.proofs.judging.Judging.close.Goals as goal
use Rattle.bench.proofs.judging.Judging.close.Goals.{After-put_text-size}

-- the last words stand at the beginning of the text
says : (c : After-put_text-size) → Closed c.self.inside.p c.self.inside.text (ending c.self.inside.p c.put_text-size.result) c.put_text-size.new.out
says c =
    let words = c.bytes.ensures.words ∙ c.last_words-words.ensures in
    closed_says c.self.inside.p _ _ _ (ap is_closing c.in-Close.is)
    (subst (λ (w : List ℕ). Follows 0 w c.put_text-size.result c.self.inside.text c.put_text-size.new.out) words
    (follows_laid c.bytes.result.now _ _ _ (omega (arith, c.bytes.ensures.room, c.self.invariant.long, ap length c.bytes.ensures.words)) c.put_text-size.ensures))

pub invariant_of-self : goal.invariant_of-self
invariant_of-self c = (says (goal.at.invariant_of-self c).After-put_text-size).sound c.self.inside.buffer c.self.invariant

pub returns-in-Close : goal.returns-in-Close
returns-in-Close c = (says (goal.at.returns-in-Close c).After-put_text-size).is c.self.inside.buffer ∙ ap closed c.self.view_is
