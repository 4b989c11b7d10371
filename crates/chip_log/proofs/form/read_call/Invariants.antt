-- `chip_log::form::read_call` meets its contract. The loop's invariant: what the kinds so far found, with the kinds left, is what is read.
use Rattle.std.proofs.Common.{◌≡◌, List, [], ◌∷◌, ℕ, drop}
use Rattle.lines.specs.Steps.{Found}
use Rattle.lines.specs.Steps.{read_of, either_of}
use Rattle.chip_log.specs.declared.form.Call.{Call}
use Rattle.chip_log.specs.Form.{call_kind}
use Rattle.chip_log.specs.Calls.{read_call}
use Rattle.chip_log.proofs.form.read_call.Given as goal

-- what was found, or what the lines of these calls find
abbrev pub or_of : Found → List Call → List ℕ → Found
or_of found [] text = found
or_of found (call ∷ calls) text = or_of (either_of found (read_of (call_kind call) text)) calls text

abbrev pub invariant-loop-call : goal.invariant-loop-call
invariant-loop-call l = or_of l.found (drop l.call-index l.call-items) l.text ≡ read_call l.text
