-- The entries of published test files: what is said of their calls holds.
use mathlib.Core.Path.{◌≡◌, refl, ap}
use mathlib.Core.Bool.{Bool, true, false, cond}
use mathlib.Core.List.{List}
use mathlib.Core.Logic.{◌⊎◌, inl, inr, ⊎_elim}
use Prim.Native.Nat.{ℕ, ◌≤◌}
use Rattle.std.specs.Prelude.{Result, Ok, Err}
use lib.Dec.{eqb}
use Rattle.answers.specs.declared.Answer.TheVariants.{BrokenRecord}
use Rattle.answers.specs.Numbers.{number_of, is_done}
use Rattle.ascon.specs.Sets.{is_set}
use Rattle.record.specs.declared.form.Form.TheVariants.{One}
use Rattle.record.specs.declared.form.Record.{Record}
use Rattle.lines.specs.declared.table.Read.{Read}
use Rattle.entry.specs.declared.reading.Unread.{Unread}
use Rattle.entry.specs.declared.reading.Unread.TheVariants as unread
use Rattle.lines.specs.Tables.{Outcome, whole, broken_at}
use Rattle.record.specs.Calls.{Reading, write_leaves, refused_at, read_as}
use Rattle.entry.specs.Form.{largest_number, entry_text}
use Rattle.entry.specs.Calls.{rounded, lines_of, unknown, reading_of, read_entry, write_entry}
use Rattle.entry.specs.Calls as calls
use Rattle.entry.proofs.Laws.{entries}
use Rattle.entry.proofs as entry-crate
use Rattle.moving.specs.declared.route.Route.TheVariants.{Import}
use Rattle.moving.proofs.Routes as routes
use Rattle.letter.specs.Calls.{lent, lent_mut}
use Rattle.letter.specs.Records.{HandsBackNothing}
use Rattle.letter.specs.Entries.{IsRead, Model, ours, Keeps, EveryCall, Told, Listed, Unchanged, Reported}
use Rattle.letter.proofs.Calls as letter
use Rattle.letter.proofs.Calls.{answered, lifetimes, seen_as}
use Rattle.letter.proofs.Records.{kept, write_shown, Writes, write_said}

-- ---- the calls

-- what a reading answers is seen of a result
shown : (set number : ℕ) (text : List ℕ) → (r : Result (Read Record) Unread) × (reading_of r ≡ read_entry set number text)
unfolding read_entry
shown set number text = go (is_set set)
  where
    lines : (o : Outcome Record) → (r : Result (Read Record) Unread) × (reading_of r ≡ calls.answered o)
    lines (whole taken r) = (Ok (record { content = rounded r; taken = taken }), refl)
    lines (broken_at line column early) = (Err (unread.Broken (record { line = line; column = column; early = early })), refl)

    go : (known : Bool) → (r : Result (Read Record) Unread) × (reading_of r ≡ cond known (calls.answered (lines_of set number 7 text)) unknown)
    go true = lines (lines_of set number 7 text)
    go false = (Err unread.UnknownSet, refl)

-- calls that keep the contracts are ours
pub is_ours : (m : Model) → Keeps m → m ≡ ours
is_ours m k =
    λ j. record {
      read = λ set number text. seen_as (λ x. x) (k.read set number (lent text) (lifetimes 1)) j;
      write = λ number entry out. seen_as (λ w. write_leaves w (m.write number entry out).out) (k.write number entry (lent_mut out) (lifetimes 1)) j;
    }

-- and ours keep them
pub keeps : Keeps ours
unfolding write_entry
keeps =
    record {
      read = λ set number text κ. let s = shown set number text.now in (s.0, (s.1, s.1));
      write = λ number entry out κ.
          let s = write_shown One entry (entry_text number entry) out.now in
          (s.0, (s.1, ap (λ w. write_leaves w (write_entry number entry out.now).out) s.1));
    }

-- each is answered
pub every_call : EveryCall
every_call =
    record {
      entry_read = answered (λ M. entry-crate.read.Met.met) (λ κ a. tt) (λ κ a r e p. p);
      entry_write = answered (λ M. entry-crate.write.Met.met) (λ κ a. tt) (λ κ a r e p. p);
    }

-- what is seen tells the result
pub told : Told
unfolding refused_at read_as
told = record { reading = letter.told back undone }
  where
    back : Reading → Result (Read Record) Unread
    back q =
        cond (is_done q.answer) (Ok (record { content = q.content; taken = q.taken }))
        (cond (eqb (number_of q.answer) 1) (Err unread.UnknownSet) (Err (unread.Broken (record { line = q.line; column = q.column; early = q.early }))))

    undone : (r : Result (Read Record) Unread) → back (reading_of r) ≡ r
    undone (Ok read) = refl
    undone (Err unread.UnknownSet) = refl
    undone (Err (unread.Broken wrong)) = refl

-- ---- what they answer, and what they leave

-- a text that is read, in its parts
is_read : (set number : ℕ) → is_set set ≡ true → number ≤ largest_number → (text : List ℕ) → let reading = read_entry set number text in
    reading ≡ read_as reading.taken reading.content → IsRead set number text reading
unfolding read_as
is_read set number known h text e =
    let laws = entries.reads set number known h in
    let d = ap (λ (r : Reading). r.answer) e in
    record {
      done = d;
      no_line = ap (λ (r : Reading). r.line) e;
      no_column = ap (λ (r : Reading). r.column) e;
      not_early = ap (λ (r : Reading). r.early) e;
      begun = (laws.exactly text).0 d;
      inside = (routes.read_is (Import set) number h text d).inside;
      spelled = laws.spelled text d;
      portable = laws.portable text d;
    }

-- a text is read, or it is 10
read_said : (set number : ℕ) → is_set set ≡ true → number ≤ largest_number → (text : List ℕ)
    → IsRead set number text (read_entry set number text) ⊎ ((read_entry set number text).answer ≡ BrokenRecord)
unfolding refused_at
read_said set number known h text =
    ⊎_elim (λ e. inl (is_read set number known h text e)) (λ e. inr (ap (λ (r : Reading). r.answer) e)) ((entries.reads set number known h).answered text)

-- a refused reading hands back nothing
handed : (set number : ℕ) (text : List ℕ) → number ≤ largest_number → HandsBackNothing (read_entry set number text)
handed set number text h = go (is_set set) refl
  where
    go : (b : Bool) → is_set set ≡ b → HandsBackNothing (read_entry set number text)
    go true e = kept (read_entry set number text) ((entries.reads set number e h).answered text)
    go false e = λ r. let u = entries.unknown_set set number text e in (ap (λ (q : Reading). q.taken) u, ap (λ (q : Reading). q.content) u)

-- a writing, by its three tests
said : (number : ℕ) (r : Record) (out : List ℕ) → Writes One r (entry_text number r) out
said number r out = write_said One r (entry_text number r) out

-- each answer is listed
pub listed : Listed ours
unfolding write_entry
listed =
    record {
      unknown = λ set number text e.
          let u = entries.unknown_set set number text e in
          (ap (λ (q : Reading). q.answer) u, ap (λ (q : Reading). q.line) u, ap (λ (q : Reading). q.column) u, ap (λ (q : Reading). q.early) u);
      read = λ set number known h.
          let laws = entries.reads set number known h in
          record { answer = read_said set number known h; place = laws.refused; early = laws.early; decided = laws.decided };
      write = λ number r out. (said number r out).said.is;
      write_line = λ number r out. (said number r out).line;
      write_column = λ number r out. (said number r out).column;
    }

-- each refusal changes nothing
pub unchanged : Unchanged ours
unfolding write_entry
unchanged = record { read = handed; write = λ number r out. (said number r out).said.kept }

-- what each reports and leaves
pub reported : Reported ours
unfolding write_entry
reported = record { write = λ number r out. (said number r out).stands }
