-- What reading and writing an entry promise.
use mathlib.Core.Path.{◌≡◌, refl, sym, ap, ◌∙◌}
use mathlib.Core.Bool.{true, false}
use mathlib.Core.List.{List, ◌++◌}
use Prim.Native.Nat.{ℕ, ◌≤◌}
use native.Mathlib.Omega.{arith}
use lib.ListN.{length, take, drop}
use Rattle.answers.specs.declared.Answer.TheVariants.{Done, BrokenRecord}
use Rattle.ascon.specs.Sets.{is_set}
use Rattle.lines.proofs.Rows.{rows_read}
use Rattle.lines.proofs.Texts as texts
use Rattle.lines.proofs.Readings as readings
use Rattle.lines.proofs.Readings.{Answers}
use Rattle.record.specs.declared.form.Form.TheVariants.{One}
use Rattle.record.specs.declared.form.Record.{Record}
use Rattle.record.specs.Calls.{Reading}
use Rattle.record.specs.Calls.{refused_at, read_as, write_leaves}
use Rattle.record.specs.Laws.{Typed, Spellable}
use Rattle.record.proofs.InForm.{in_form}
use Rattle.record.proofs.Laws.{done_broken}
use Rattle.record.proofs.Written.{write_done, done_write}
use Rattle.entry.specs.Form.{largest_number, line_text, entry_text, right_rounds}
use Rattle.entry.specs.Calls.{begun, rounded, read_at, given, answered, unknown, read_entry, write_entry}
use Rattle.entry.specs.Laws.{Portable, most_bytes, ReadsEntries, Entries}
use Rattle.entry.proofs.Table.{right_at, told, only, some, one_feed}
use Rattle.entry.proofs.Forward.{filled, filled_all, rows_text}
use Rattle.entry.proofs.Backward.{rows_entry}
use Rattle.entry.proofs.Bounds.{entry_most}

-- a record with the rounds of the formula has them
own_rounds : (r : Record) → r.rounds ≡ right_rounds r → rounded r ≡ r
unfolding rounded
own_rounds r e =
    λ j. record {
      set = r.set;
      chip = r.chip;
      key = r.key;
      nonce = r.nonce;
      ad = r.ad;
      text = r.text;
      cipher = r.cipher;
      tag = r.tag;
      rounds = sym e j;
    }

module _ (set number : ℕ) (known : is_set set ≡ true) (h : number ≤ largest_number) where
  -- a reading of an entry is one by the table of entries
  answers : Answers (read_at set number) (given set number) (begun set) (right_at set number) 7 (Portable set) (line_text number) filled rounded (read_entry set number)
      Done BrokenRecord read_as refused_at (λ (r : Reading). r.answer) (λ (r : Reading). r.line) (λ (r : Reading). r.column)
      (λ (r : Reading). r.early) (λ (r : Reading). r.taken) (λ (r : Reading). r.content)
  unfolding read_entry read_as refused_at
  answers =
      record {
        table =
            record {
              told = told number h set;
              only = only number h set;
              some = some number h set;
              one_feed = one_feed number h set;
              rows_text = λ r p. rows_text r p.spellable set number p.of_set h;
              rows_thing = rows_entry set number known h;
            };
        made_is = λ r p. filled_all r p.spellable ∙ own_rounds r p.right_rounds;
        read = λ text end r is. rw known (ap answered is);
        refused = λ text line column early is. rw known (ap answered is);
        apart = done_broken;
        read_holds = λ taken r. (refl, refl, refl, refl);
        refused_holds = λ line column early. (refl, refl, refl, refl, refl);
      }

  -- the entry of a record in form is read as this record with the rounds of the formula, whatever stands behind it
  form_read : (r : Record) (rest : List ℕ) → Spellable One r → r.set ≡ set
      → read_entry set number (entry_text number r ++ rest) ≡ read_as (length (entry_text number r)) (rounded r)
  unfolding entry_text
  form_read r rest s e =
      answers.read _ _ _
      (rows_read (read_at set number) (given set number) (begun set) (right_at set number) (told number h set) (only number h set) 7 (entry_text number r) rest (filled r 7)
      (rows_text r s set number e h 7 (omega arith)))
      ∙ ap (read_as (length (entry_text number r))) (filled_all r s)

  -- as many bytes are taken as the entry has
  pub size_is : (text : List ℕ) → (read_entry set number text).answer ≡ Done
      → length (entry_text number (read_entry set number text).content) ≡ (read_entry set number text).taken
  unfolding entry_text
  size_is = readings.size_is answers

  -- reading promises it all
  reads_entries : ReadsEntries set number
  unfolding entry_text
  reads_entries =
      record {
        answered = readings.answered answers;
        exactly = readings.exactly answers;
        refused = readings.refused answers;
        one_place = texts.one_place answers.table;
        in_line = texts.in_line answers.table;
        spelled = readings.spelled answers;
        portable = readings.in_form answers;
        text_read = readings.text_read answers;
        early = readings.ended_early answers;
        decided = readings.decided answers;
        longest = readings.longest answers most_bytes (λ r p. entry_most number h r p.spellable.in_form);
      }

-- an unknown set is refused before anything of the text is looked at
unknown_set : (set number : ℕ) (text : List ℕ) → is_set set ≡ false → read_entry set number text ≡ unknown
unfolding read_entry
unknown_set set number text e = rw e

-- what was written is read as the same record, with the rounds of the formula
write_read : (number : ℕ) (r : Record) (out : List ℕ) → number ≤ largest_number → Typed r → (write_entry number r out).outcome.answer ≡ Done
    → read_entry r.set number (write_entry number r out).out ≡ read_as (write_entry number r out).outcome.written (rounded r)
unfolding write_entry
write_read number r out h t d =
    let text : List ℕ = entry_text number r in
    let b = done_write One r text out d in
    rw (write_done One r text out b.in_form b.kept b.room)
    (form_read r.set number (in_form One r b.in_form).known h r (drop (length text) out) (record { in_form = b.in_form; kept = b.kept; typed = t }) refl)

-- a record that form 1 can spell is written where there is room
entry_done : (number : ℕ) (r : Record) (out : List ℕ) → Spellable One r → length (entry_text number r) ≤ length out
    → write_entry number r out
    ≡ write_leaves (record { answer = Done; line = 0; column = 0; written = length (entry_text number r) }) (entry_text number r ++ drop (length (entry_text number r)) out)
unfolding write_entry
entry_done number r out s room = write_done One r (entry_text number r) out s.in_form s.kept room

-- what was read is written as the same bytes
read_write : (set number : ℕ) (text out : List ℕ) → is_set set ≡ true → number ≤ largest_number → (read_entry set number text).answer ≡ Done
    → (read_entry set number text).taken ≤ length out
    → let n = (read_entry set number text).taken in
    write_entry number (read_entry set number text).content out ≡ write_leaves (record { answer = Done; line = 0; column = 0; written = n }) (take n text ++ drop n out)
read_write set number text out known h d room =
    let r = read_entry set number text in
    let e = reads_entries set number known h in
    let size = size_is set number known h text d in
    let wrote = entry_done number r.content out (e.portable text d).spellable (omega arith) in
    rw (e.spelled text d) (rw size at wrote)

-- of every set and number
pub entries : Entries
entries = record { reads = reads_entries; unknown_set = unknown_set; write_read = write_read; read_write = read_write }
