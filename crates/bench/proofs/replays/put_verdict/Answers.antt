-- `bench::replays::put_verdict` meets its contract.
use mathlib.Core.List.{append_assoc}
use Rattle.bench.proofs.replays.put_verdict.Goals as goal

pub returns-in-Unread : goal.returns-in-Unread
returns-in-Unread c = rw c.in-Unread.is (simp (c.text-in-Unread.ensures, c.numbered.ensures.words, append_assoc))
