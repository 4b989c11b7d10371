-- What reading an entry of a log promises.
use mathlib.Core.Path.{◌≡◌, refl, ap}
use mathlib.Core.Bool.{true}
use mathlib.Core.List.{List, []}
use Prim.Native.Nat.{ℕ, ◌≤◌}
use native.Mathlib.Omega.{arith}
use Rattle.answers.specs.declared.Answer.TheVariants.{Done, BrokenRecord}
use Rattle.lines.specs.Steps.{read_of}
use Rattle.lines.proofs.Texts as texts
use Rattle.lines.proofs.Readings as readings
use Rattle.lines.proofs.Readings.{Answers}
use Rattle.record.proofs.Laws.{done_broken}
use Rattle.chip_log.specs.Calls.{Reading}
use Rattle.chip_log.specs.Form.{line_text, entry_text, blank}
use Rattle.chip_log.specs.Calls.{read_call, read_line, read_at, given, refused_at, read_as, answered, read_entry}
use Rattle.chip_log.specs.Laws.{InForm, most_bytes, ReadsLog}
use Rattle.chip_log.proofs.Table.{right_at, told, only, some, one_feed}
use Rattle.chip_log.proofs.Forward.{filled, rows_text}
use Rattle.chip_log.proofs.Backward.{rows_entry}
use Rattle.chip_log.proofs.Bounds.{entry_least, entry_most}

-- a reading of a log is one by the table of entries
answers : Answers read_at given blank right_at 5 InForm line_text filled (λ e. e) read_entry Done BrokenRecord read_as refused_at
    (λ (r : Reading). r.answer) (λ (r : Reading). r.line) (λ (r : Reading). r.column) (λ (r : Reading). r.early) (λ (r : Reading). r.taken) (λ (r : Reading). r.content)
unfolding read_entry read_as refused_at
answers =
    record {
      table = record { told = told; only = only; some = some; one_feed = one_feed; rows_text = rows_text; rows_thing = rows_entry };
      made_is = λ e f. refl;
      read = λ text end e is. ap answered is;
      refused = λ text line column early is. ap answered is;
      apart = done_broken;
      read_holds = λ taken e. (refl, refl, refl, refl);
      refused_holds = λ line column early. (refl, refl, refl, refl, refl);
    }

-- the empty text is refused at line 1, column 1, and can still go on
nothing : read_entry [] ≡ refused_at 1 1 true
unfolding read_entry read_line read_call read_of
nothing = refl

-- an entry that is read has at least 37 bytes
shortest : (text : List ℕ) → (read_entry text).answer ≡ Done → 37 ≤ (read_entry text).taken
unfolding entry_text
shortest text d = omega (arith, readings.size_is answers text d, entry_least (read_entry text).content (readings.in_form answers text d))

-- reading promises it all
pub reads_log : ReadsLog
unfolding entry_text
reads_log =
    record {
      answered = readings.answered answers;
      exactly = readings.exactly answers;
      refused = readings.refused answers;
      one_place = texts.one_place answers.table;
      in_line = texts.in_line answers.table;
      nothing = nothing;
      spelled = readings.spelled answers;
      in_form = readings.in_form answers;
      text_read = readings.text_read answers;
      early = readings.ended_early answers;
      short = readings.short answers most_bytes entry_most;
      decided = readings.decided answers;
      shortest = shortest;
      longest = readings.longest answers most_bytes entry_most;
    }
