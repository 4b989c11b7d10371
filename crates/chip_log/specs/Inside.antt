-- A line of an entry that was found lies in its text: what the table of the code has to show. It is a lemma with its proof, which nobody has to believe; it stands here
-- since code can name no proof of its own crate.
use Rattle.std.specs.Prelude.{Bool, true, false, cond, List, ℕ, eqb}
use Rattle.lines.specs.Steps.{Found, read_of, either_of}
use Rattle.lines.specs.Tables.{Inside}
use Rattle.lines.proofs.Inside.{read_inside, either_inside}
use Rattle.chip_log.specs.declared.form.Call.{Call}
use Rattle.chip_log.specs.declared.form.Call.TheVariants.{Start1, Start2, Ad, Text, Finish}
use Rattle.chip_log.specs.Form.{call_kind, kind_at}
use Rattle.chip_log.specs.Calls.{read_call, read_line}

call_inside : (text : List ℕ) → Inside text (read_call text)
unfolding read_call
call_inside text = or Finish _ (or Text _ (or Ad _ (or Start2 _ (read_inside (call_kind Start1) text))))
  where
    or : (call : Call) (f : Found) → Inside text f → Inside text (either_of f (read_of (call_kind call) text))
    or call f p = either_inside text f (read_of (call_kind call) text) p (read_inside (call_kind call) text)

pub line_inside : (call : Call) (line : ℕ) (text : List ℕ) → Inside text (read_line call line text)
unfolding read_line
line_inside call line text = go (eqb line 1)
  where
    go : (first : Bool) → Inside text (cond first (read_call text) (read_of (kind_at call line) text))
    go true = call_inside text
    go false = read_inside (kind_at call line) text
