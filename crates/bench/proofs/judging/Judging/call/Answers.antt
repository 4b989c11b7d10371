-- `bench::judging::Judging::call` meets its contract.
use mathlib.Core.Path.{ap, subst}
use Rattle.turns.specs.Run.{Standing, is_reading}
use Rattle.turns.specs.Laws.{OneAnswer}
use Rattle.bench.specs.Progress.{view}
use Rattle.bench.proofs.Stages.{write_or_say}
use Rattle.bench.proofs.Views.{answered_read, answered_write, sound_read, sound_write}
use Rattle.bench.proofs.judging.Judging.call.Goals as goal

pub invariant_of-self : goal.invariant_of-self
invariant_of-self c =
    sound_read c.self.inside.p _ c.self.inside.buffer _ c.self.inside.text c.read_more-self-inside.auto.buffer c.read_more-self-inside.ensures c.self.invariant

pub invariant_of-self-in-Write : goal.invariant_of-self-in-Write
invariant_of-self-in-Write c =
    sound_write c.self.inside.p _ _ c.self.inside.text (write_or_say c.self.inside.p.stage c.in-Write.is) c.write_more-self-inside.ensures c.self.invariant

pub returns-in-Read : goal.returns-in-Read
returns-in-Read c =
    subst (λ (s : Standing). OneAnswer s (view c.read_more-self-inside.result c.read_more-self-inside.new.buffer c.self.inside.text)) c.self.view_is
    (answered_read c.self.inside.p _ c.self.inside.buffer _ c.self.inside.text (ap is_reading c.in-Read.is) c.read_more-self-inside.ensures)

pub returns-in-Write : goal.returns-in-Write
returns-in-Write c =
    subst (λ (s : Standing). OneAnswer s (view c.write_more-self-inside.result c.self.inside.buffer c.self.inside.text)) c.self.view_is
    (answered_write c.self.inside.p _ c.self.inside.buffer c.self.inside.text (write_or_say c.self.inside.p.stage c.in-Write.is) c.self.invariant c.write_more-self-inside.ensures)
