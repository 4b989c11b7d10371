-- `replay::feeding::start` meets its contract.
use Rattle.std.proofs.Common.{◌∙◌}
use Rattle.std.proofs.lemmas.List.{take_min, drop_min}
use Rattle.replay.specs.Feeding.{started}
use Rattle.replay.proofs.feeding.start.Goals as goal

pub returns : goal.returns
unfolding started
returns c =
    let s = c.args in
    c.without_out.ensures
    ∙ rw (c.start.ensures, c.split_at.ensures.front, c.split_at.ensures.back, c.min.ensures, c.key_length.ensures, take_min, drop_min)
