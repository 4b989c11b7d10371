-- `bench::replays::replay_bytes` meets its contract.
use mathlib.Core.Path.{◌≡◌, sym, ap, subst}
use Prim.Native.Nat.{◌+◌, ◌-◌, ◌≤◌}
use native.Mathlib.Omega.{arith}
use lib.Dec.{eqb}
use lib.ListN.{take, drop}
use lib.Seq.{length-take-le}
use Rattle.replay.specs.declared.window.Stretch.{Stretch}
use Rattle.replay.proofs.Laws.{replays}
use Rattle.bench.specs.Replays.{stretched, HeardBytes}
use Rattle.bench.proofs.Replayed.{bytes_heard, bytes_many}
use Rattle.bench.proofs.replays.replay_bytes.Goals as goal
use Rattle.bench.proofs.replays.replay_bytes.Goals.{After-replay_window-stretch}

-- no more is taken than was there
inside : (c : After-replay_window-stretch) → c.replay_window-stretch.result.taken ≤ c.args.state.left + c.args.count
inside c =
    let a = c.args in
    let text = take (a.state.left + a.count) a.buffer.now in
    omega (
      arith,
      ap (λ (r : Stretch). r.taken) c.replay_window-stretch.ensures,
      (replays.inside (eqb a.count 0) a.state.stream text).1,
      length-take-le (a.state.left + a.count) a.buffer.now c.requires.count_in_bounds,
    )

pub returns-then-state-stretch : goal.returns-then-state-stretch
returns-then-state-stretch c =
    let a = c.args in
    let many = ap (λ (r : Stretch). r.entries) c.replay_window-stretch.ensures in
    bytes_many a.state a.buffer.now a.count c.requires.count_in_bounds c.requires.running c.requires.ready (omega (arith, many, c.if-state-stretch.true, c.requires.ready.number))

pub move_to_front-requires : goal.move_to_front-requires
move_to_front-requires c =
    record { start_le_filled = inside (goal.at.move_to_front-requires c).After-replay_window-stretch; filled_in_bounds = c.requires.count_in_bounds }

pub returns : goal.returns
returns c =
    let a = c.args in
    let filled = a.state.left + a.count in
    let after = c.move_to_front.new.buffer in
    let stretch = c.replay_window-stretch.ensures in
    let few = ap (λ (r : Stretch). r.entries) stretch in
    let moved = subst (λ (r : Stretch). take (filled - r.taken) after ≡ take (filled - r.taken) (drop r.taken a.buffer.now)) stretch c.move_to_front.ensures in
    subst (λ (r : Stretch). HeardBytes a.state a.buffer.now a.count (stretched a.state filled r) after) (sym stretch)
    (bytes_heard a.state a.buffer.now a.count c.requires.count_in_bounds c.requires.running after
    (omega (arith, few, c.if-state-stretch.false, c.requires.ready.number)) moved)

pub overflow_sub-result : goal.overflow_sub-result
overflow_sub-result c = inside (goal.at.overflow_sub-result c).After-replay_window-stretch
