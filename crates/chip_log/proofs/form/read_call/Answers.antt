-- `chip_log::form::read_call` meets its contract.
use Rattle.std.proofs.Common.{arith, ◌≡◌, List, ℕ, ◌+◌, ◌<◌, length, drop, get_or, add-one}
use Rattle.std.proofs.Math.Seq.{drop-cons}
use Rattle.lines.specs.Steps.{Found}
use Rattle.lines.specs.Steps.{read_of, either_of}
use Rattle.chip_log.specs.declared.form.Call.{Call}
use Rattle.chip_log.specs.Form.{call_kind}
use Rattle.chip_log.specs.Calls.{read_call}
use Rattle.chip_log.proofs.form.read_call.Invariants.{or_of}
use Rattle.chip_log.proofs.form.read_call.Goals as goal

-- the line of a call, or those of the calls behind it
next_of : (found : Found) (calls : List Call) (other : Call) (i : ℕ) (text : List ℕ) → i < length calls
    → or_of (either_of found (read_of (call_kind (get_or calls i other)) text)) (drop (i + 1) calls) text ≡ or_of found (drop i calls) text
next_of found calls other i text h = rw (add-one, drop-cons calls i other)

pub loop-call-init : goal.loop-call-init
unfolding read_call
loop-call-init c = rw (c.read-found.ensures, c.first_kind.ensures)

pub loop-call-preserved : goal.loop-call-preserved
loop-call-preserved c = rw (c.either-found.ensures, c.read.ensures, c.first_kind-in-loop-call.ensures, next_of _ _ _ _ _ c.loop-call-test.true) c.loop-call.invariant

pub returns : goal.returns
returns c =
    let all : c.loop-call.call-index ≡ 4 = omega arith in
    rw all at c.loop-call.invariant
