-- `moving::one::move_record` meets its contract.
use mathlib.Core.Path.{◌≡◌, refl, sym, ap, ◌∙◌}
use mathlib.Core.Bool.{false}
use mathlib.Core.List.{List}
use Prim.Native.Nat.{ℕ, ◌≤◌}
use borrow.Author.Rules.{rules}
use Rattle.std.proofs.Common.{Ok, Err}
use Rattle.std.proofs.lemmas.Result.{err_from_is_err_and}
use Rattle.answers.specs.Numbers.{is_done}
use Rattle.lines.specs.declared.table.Read.{Read}
use Rattle.record.specs.declared.form.Record.{Record}
use Rattle.record.specs.declared.writing.Unwritten.{Unwritten}
use Rattle.record.specs.declared.writing.Unwritten.TheVariants as unwritten
use Rattle.record.specs.Calls.{Reading, refused_at, read_as, WriteLeaves, write_leaves, refused_with, writing_of}
use Rattle.entry.specs.declared.reading.Unread.{Unread}
use Rattle.entry.specs.declared.reading.Unread.TheVariants as unread
use Rattle.entry.specs.Form.{largest_number}
use Rattle.entry.specs.Calls.{reading_of}
use Rattle.moving.specs.declared.route.Route.{Route}
use Rattle.moving.specs.Moves.{read_by, write_by, move_leaves, refused_move, move_call}
use Rattle.moving.proofs.Routes.{wide}
use Rattle.moving.proofs.Endings.{written, move_writes, move_refused}
use Rattle.moving.proofs.one.move_record.Goals as goal

-- what is not read, or not written, is not done
not_read : (why : Unread) → is_done (reading_of (Err why)).answer ≡ false
unfolding refused_at
not_read unread.UnknownSet = refl
not_read (unread.Broken wrong) = refl

not_written : (why : Unwritten) → is_done (writing_of (Err why)).answer ≡ false
unfolding refused_with
not_written (unwritten.Broken line) = refl
not_written unwritten.ChipLost = refl
not_written unwritten.NoRoom = refl

-- what was read is moved as it was written
moved_is : (route : Route) (number : ℕ) (text out : List ℕ) (read : Read Record) (leaves : WriteLeaves) → number ≤ largest_number
    → reading_of (Ok read) ≡ read_by route number text → leaves ≡ write_by route number read.content out → written read.taken leaves ≡ move_call route number text out
unfolding read_as
moved_is route number text out read leaves h r w =
    ap (written read.taken) w
    ∙ ap (λ (q : Reading). written q.taken (write_by route number q.content out)) r
    ∙ sym (move_writes route number (wide route number h) text out (ap (λ (q : Reading). is_done q.answer) (sym r)))

pub returns-in_err-read : goal.returns-in_err-read
returns-in_err-read c =
    let a = c.args in
    let p = err_from_is_err_and c.from_residual.result c.from_residual.ensures.1 in
    let r = c.in_err-read.ensures in
    rw (p.1, p.2)
    (ap (λ (q : Reading). move_leaves (refused_move q.answer q.line q.column) a.out.now) r
    ∙ sym (move_refused a.route a.number (wide a.route a.number (search rules)) a.text.now a.out.now (ap (λ (q : Reading). is_done q.answer) (sym r) ∙ not_read _)))

pub returns-in_err-written : goal.returns-in_err-written
returns-in_err-written c =
    let a = c.args in
    let p = err_from_is_err_and c.from_residual-in_err-written.result c.from_residual-in_err-written.ensures.1 in
    let why = c.in_err-written.field-0.0 in
    rw (p.1, p.2)
    (rw (not_written why) at
    (moved_is a.route a.number a.text.now a.out.now c.in_ok-read.read (write_leaves (writing_of (Err why)) c.write.new.out) (search rules) c.in_ok-read.ensures c.in_err-written.ensures))

pub returns : goal.returns
returns c =
    let a = c.args in
    moved_is a.route a.number a.text.now a.out.now c.in_ok-read.read (write_leaves (writing_of (Ok c.in_ok-written.written)) c.write.new.out) (search rules) c.in_ok-read.ensures
    c.in_ok-written.ensures
