-- Records, their lines and digits: what is said of their calls holds.
use mathlib.Core.Path.{◌≡◌, refl, sym, ap, ◌∙◌}
use mathlib.Core.Bool.{Bool, true, false, cond, not}
use mathlib.Core.List.{List, [], ◌∷◌, ◌++◌, Mem, not-mem-nil}
use mathlib.Core.Logic.{◌⊎◌, inl, inr, ⊎_elim}
use Prim.Native.Nat.{ℕ}
use native.Mathlib.Omega.{arith}
use lib.ListN.{length, drop}
use lib.Dec.{eqb, leb}
use borrow.Author.Tests.{eqb-true}
use Rattle.std.specs.Prelude.{Result, Ok, Err}
use Rattle.answers.specs.declared.Answer.{Answer}
use Rattle.answers.specs.declared.Answer.TheVariants.{Done, NoRoom, BrokenRecord, ChipLost}
use Rattle.answers.specs.Numbers.{number_of, is_done}
use Rattle.answers.specs.Order.{first, ◌when◌}
use Rattle.record.specs.declared.form.Form.{Form}
use Rattle.record.specs.declared.form.Record.{Record}
use Rattle.lines.specs.declared.table.Read.{Read}
use Rattle.lines.specs.declared.table.Unread.{Unread}
use Rattle.record.specs.declared.writing.Unwritten.{Unwritten}
use Rattle.record.specs.declared.writing.Unwritten.TheVariants as unwritten
use Rattle.record.specs.Form.{broken, loses_chip}
use Rattle.record.specs.Text.{text_of}
use Rattle.record.specs.Calls.{Reading, Writing, reading_of, writing_of, refused_at, read_as, read_call, form_of, inside_mark, read_any, WriteLeaves, write_leaves, refused_with, write_faults, write_as, write_call}
use Rattle.lines.specs.Tables.{Outcome, whole, broken_at, outcome_of}
use Rattle.record.proofs.Laws.{reads_and_writes, taken_inside}
use Rattle.record.proofs.Any.{reads_any}
use Rattle.digits.proofs as digits
use Rattle.lines.proofs as lines
use Rattle.record.proofs as record-crate
use Rattle.letter.specs.Calls.{lent, lent_mut}
use Rattle.letter.specs.Records.{IsRead, HandsBackNothing, Model, ours, Keeps, EveryCall, Told, Listed, Unchanged, Reported}
use Rattle.letter.proofs.Calls as calls
use Rattle.letter.proofs.Calls.{answered, lifetimes, seen_as, Says, done_says, says}

-- ---- the calls

-- a reading that is read, or refused, is seen of a result
pub read_shown : (reading : Reading) → (reading ≡ read_as reading.taken reading.content) ⊎ (reading ≡ refused_at reading.line reading.column reading.early)
    → (r : Result (Read Record) Unread) × (reading_of r ≡ reading)
read_shown reading (inl e) = (Ok (record { content = reading.content; taken = reading.taken }), sym e)
read_shown reading (inr e) = (Err (record { line = reading.line; column = reading.column; early = reading.early }), sym e)

-- calls that keep the contracts are ours
pub is_ours : (m : Model) → Keeps m → m ≡ ours
is_ours m k =
    λ j. record {
      read = λ form text. seen_as (λ x. x) (k.read form (lent text) (lifetimes 1)) j;
      read_any = λ text. seen_as (λ x. x) (k.read_any (lent text) (lifetimes 1)) j;
      write = λ form entry out. seen_as (λ w. write_leaves w (m.write form entry out).out) (k.write form entry (lent_mut out) (lifetimes 1)) j;
    }

-- no lifetime is one of none
none_last : {x : ℕ} {A : Type 0} → Mem x [] → A
none_last m = absurd (not-mem-nil m)

-- each is answered
pub every_call : EveryCall
every_call =
    record {
      digits_read_digit = answered (λ M. digits.read_digit.Met.met) (λ κ a. tt) (λ κ a r e p. p);
      digits_is_digit = answered (λ M. digits.is_digit.Met.met) (λ κ a. tt) (λ κ a r e p. p);
      digits_read_pair = answered (λ M. digits.read_pair.Met.met) (λ κ a. tt) (λ κ a r e p. p);
      digits_put_bytes = answered (λ M. digits.put_bytes.Met.met) (λ κ a. tt) (λ κ a r e p. p);
      digits_put_text = answered (λ M. digits.put_text.Met.met) (λ κ a. tt) (λ κ a r e p. p);
      digits_put_line = answered (λ M. digits.put_line.Met.met) (λ κ a. tt) (λ κ a r e p. p);
      digits_number_length = answered (λ M. digits.number_length.Met.met) (λ κ a. tt) (λ κ a r e p. p);
      digits_put_number = answered (λ M. digits.put_number.Met.met) (λ κ a. tt) (λ κ a r e p. p);
      lines_named = answered (λ M. lines.named.Met.met) (λ κ a. tt) (λ κ a r e p. p);
      lines_begun = answered (λ M. lines.begun.Met.met) (λ κ a. tt) (λ κ a r e p. p);
      lines_advance = answered (λ M. lines.advance.Met.met) (λ κ a. tt) (λ κ a r e p. p);
      lines_read = answered (λ M. lines.read.Met.met) (λ κ a. tt) (λ κ a r e p. p);
      lines_either = answered (λ M. lines.either.Met.met) (λ κ a. tt) (λ κ a r e p. p);
      lines_value_in = answered (λ M. lines.value_in.Met.met) (λ κ a. tt) (λ κ a r e p. p);
      lines_read_table = λ Self Content laws content_laws copy members dict clones clone_dict.
          record {
            answers = λ M. lines.read_table.Met.met;
            unasked = λ κ a free content_free. (λ x m. none_last (rw free at m), λ x m. none_last (rw content_free at m));
            given = λ κ a r e p. p;
            once = λ κ κ' a r r' e e' p q. p ∙ sym q;
          };
      record_read_field = answered (λ M. record-crate.read_field.Met.met) (λ κ a. tt) (λ κ a r e p. p);
      record_first_broken = answered (λ M. record-crate.first_broken.Met.met) (λ κ a. tt) (λ κ a r e p. p);
      record_read = answered (λ M. record-crate.read.Met.met) (λ κ a. tt) (λ κ a r e p. p);
      record_read_any = answered (λ M. record-crate.read_any.Met.met) (λ κ a. tt) (λ κ a r e p. p);
      record_write = answered (λ M. record-crate.write.Met.met) (λ κ a. tt) (λ κ a r e p. p);
    }

-- the result that is seen as what the lines of a table give
lines_back : (E : Type 0) → Outcome E → Result (Read E) Unread
lines_back E (whole taken content) = Ok (record { content = content; taken = taken })
lines_back E (broken_at line column early) = Err (record { line = line; column = column; early = early })

lines_undone : (E : Type 0) (r : Result (Read E) Unread) → lines_back E (outcome_of r) ≡ r
unfolding lines_back
lines_undone E (Ok read) = refl
lines_undone E (Err wrong) = refl

-- what is seen tells the result
pub told : Told
unfolding read_as refused_at refused_with
told =
    record {
      lines = λ E. calls.told (lines_back E) (lines_undone E);
      reading = calls.told
          (λ (q : Reading). cond (is_done q.answer) (Ok (record { content = q.content; taken = q.taken })) (Err (record { line = q.line; column = q.column; early = q.early })))
          (elim [ Ok read ↦ refl | Err wrong ↦ refl ]);
      writing = calls.told
          (λ (w : Writing). cond (is_done w.answer) (Ok w.written)
          (cond (eqb (number_of w.answer) 10) (Err (unwritten.Broken w.line)) (cond (eqb (number_of w.answer) 11) (Err unwritten.ChipLost) (Err unwritten.NoRoom))))
          undone;
    }
  where
    undone : (r : Result ℕ Unwritten) → cond (is_done (writing_of r).answer) (Ok (writing_of r).written)
        (cond (eqb (number_of (writing_of r).answer) 10) (Err (unwritten.Broken (writing_of r).line))
        (cond (eqb (number_of (writing_of r).answer) 11) (Err unwritten.ChipLost) (Err unwritten.NoRoom))) ≡ r
    undone (Ok size) = refl
    undone (Err (unwritten.Broken line)) = refl
    undone (Err unwritten.ChipLost) = refl
    undone (Err unwritten.NoRoom) = refl

-- ---- what they answer, and what a refusal leaves

-- a text that is read, in its parts
is_read : (form : Form) (text : List ℕ) → let reading = read_call form text in
    reading ≡ read_as reading.taken reading.content → IsRead form text reading
unfolding read_as
is_read form text e =
    let d = ap (λ (r : Reading). r.answer) e in
    record {
      done = d;
      no_line = ap (λ (r : Reading). r.line) e;
      no_column = ap (λ (r : Reading). r.column) e;
      not_early = ap (λ (r : Reading). r.early) e;
      begun = ((reads_and_writes form).exactly text).0 d;
      inside = (taken_inside form text d).1;
      spelled = (reads_and_writes form).spelled text d;
      spellable = (reads_and_writes form).read_in_form text d;
    }

-- a text is read, or it is 10
pub read_said : (form : Form) (text : List ℕ) → IsRead form text (read_call form text) ⊎ ((read_call form text).answer ≡ BrokenRecord)
unfolding refused_at
read_said form text = ⊎_elim (λ e. inl (is_read form text e)) (λ e. inr (ap (λ (r : Reading). r.answer) e)) ((reads_and_writes form).answered text)

-- so it is of a text in its own form
any_said : (text : List ℕ) → IsRead (form_of text) text (read_any text) ⊎ ((read_any text).answer ≡ BrokenRecord)
unfolding refused_at
any_said text = go (inside_mark text) refl
  where
    go : (b : Bool) → inside_mark text ≡ b → IsRead (form_of text) text (read_any text) ⊎ ((read_any text).answer ≡ BrokenRecord)
    go true e = inr (ap (λ (r : Reading). r.answer) (reads_any.inside text e).0)
    go false e = rw (reads_any.by_form text e) (read_said (form_of text) text)

-- a refused reading hands back nothing
pub kept : (reading : Reading) → (reading ≡ read_as reading.taken reading.content) ⊎ (reading ≡ refused_at reading.line reading.column reading.early)
    → HandsBackNothing reading
unfolding refused_at read_as
kept reading (inl e) r = absurd (r.0 (ap (λ (q : Reading). q.answer) e))
kept reading (inr e) r = (ap (λ (q : Reading). q.taken) e, ap (λ (q : Reading). q.content) e)

-- ---- writing

module _ (form : Form) (r : Record) (text out : List ℕ) where
  -- what is left by a writing, by its three tests
  done : WriteLeaves
  done = write_leaves (record { answer = Done; line = 0; column = 0; written = length text }) (text ++ drop (length text) out)

  answer : Bool → Bool → Bool → Answer
  answer t lost room = first Done (BrokenRecord when not t ∷ ChipLost when lost ∷ NoRoom when not room ∷ [])

  leaves : Bool → Bool → Bool → WriteLeaves
  leaves t lost room = cond (is_done (answer t lost room)) done (write_leaves (refused_with (answer t lost room) (broken form r)) out)

  -- its answer, and what a refusal leaves
  said : (t lost room : Bool) → Says (leaves t lost room).outcome.answer (answer t lost room) (((leaves t lost room).out ≡ out) × ((leaves t lost room).outcome.written ≡ 0))
  unfolding done answer leaves refused_with
  said true false true = done_says _ _ refl
  said true false false = says _ _ (refl, refl)
  said true true room = says _ _ (refl, refl)
  said false lost room = says _ _ (refl, refl)

  -- it is seen of a result
  shown : (t lost room : Bool) → eqb (broken form r) 0 ≡ t → (w : Result ℕ Unwritten) × (writing_of w ≡ (leaves t lost room).outcome)
  unfolding done answer leaves refused_with
  shown true false true e = (Ok (length text), refl)
  shown true false false e = (Err unwritten.NoRoom, ap (refused_with NoRoom) (sym (eqb-true (broken form r) 0 e)))
  shown true true room e = (Err unwritten.ChipLost, ap (refused_with ChipLost) (sym (eqb-true (broken form r) 0 e)))
  shown false lost room e = (Err (unwritten.Broken (broken form r)), refl)

  -- its line and column
  at_line : (t lost room : Bool) → eqb (broken form r) 0 ≡ t → (leaves t lost room).outcome.line ≡ broken form r
  unfolding done answer leaves refused_with
  at_line true false true e = sym (eqb-true (broken form r) 0 e)
  at_line true false false e = refl
  at_line true true room e = refl
  at_line false lost room e = refl

  at_column : (t lost room : Bool) → (leaves t lost room).outcome.column ≡ 0
  unfolding done answer leaves refused_with
  at_column true false true = refl
  at_column true false false = refl
  at_column true true room = refl
  at_column false lost room = refl

  -- what stands in the place where it is done
  stands : (t lost room : Bool) → (leaves t lost room).outcome.answer ≡ Done
      → ((leaves t lost room).outcome.written ≡ length text) × ((leaves t lost room).out ≡ text ++ drop (length text) out)
  unfolding done answer leaves refused_with
  stands true false true e = (refl, refl)
  stands true false false e = absurd (let z : ◌≡◌ {A = ℕ} 6 0 = ap number_of e in omega arith)
  stands true true room e = absurd (let z : ◌≡◌ {A = ℕ} 11 0 = ap number_of e in omega arith)
  stands false lost room e = absurd (let z : ◌≡◌ {A = ℕ} 10 0 = ap number_of e in omega arith)

-- the writing of a record as a text, by its three tests
pub record Writes (form : Form) (r : Record) (text out : List ℕ) : Type 0 where
  pub said : Says (write_as form r text out).outcome.answer (first Done (write_faults form r (length text) (length out)))
      (((write_as form r text out).out ≡ out) × ((write_as form r text out).outcome.written ≡ 0))
  pub line : (write_as form r text out).outcome.line ≡ broken form r
  pub column : (write_as form r text out).outcome.column ≡ 0
  pub stands : (write_as form r text out).outcome.answer ≡ Done
      → ((write_as form r text out).outcome.written ≡ length text) × ((write_as form r text out).out ≡ text ++ drop (length text) out)

pub write_said : (form : Form) (r : Record) (text out : List ℕ) → Writes form r text out
unfolding done answer leaves
write_said form r text out =
    let t = eqb (broken form r) 0 in
    let lost = loses_chip form r in
    let room = leb (length text) (length out) in
    record {
      said = said form r text out t lost room;
      line = at_line form r text out t lost room refl;
      column = at_column form r text out t lost room;
      stands = stands form r text out t lost room;
    }

-- what writing a record as a text answers is seen of a result
pub write_shown : (form : Form) (r : Record) (text out : List ℕ) → (w : Result ℕ Unwritten) × (writing_of w ≡ (write_as form r text out).outcome)
unfolding done answer leaves
write_shown form r text out = shown form r text out (eqb (broken form r) 0) (loses_chip form r) (leb (length text) (length out)) refl

-- our own calls keep the contracts
pub keeps : Keeps ours
unfolding write_call
keeps =
    record {
      read = λ form text κ. let s = read_shown _ ((reads_and_writes form).answered text.now) in (s.0, (s.1, s.1));
      read_any = λ text κ. let s = read_shown _ (reads_any.answered text.now) in (s.0, (s.1, s.1));
      write = λ form entry out κ. let s = write_shown form entry (text_of form entry) out.now in (s.0, (s.1, ap (λ w. write_leaves w (write_call form entry out.now).out) s.1));
    }

-- as its own text
own_said : (form : Form) (r : Record) (out : List ℕ) → Writes form r (text_of form r) out
own_said form r out = write_said form r (text_of form r) out

-- each answer is listed
pub listed : Listed ours
unfolding write_call
listed =
    record {
      read = λ form. record {
        answer = read_said form;
        place = (reads_and_writes form).refused;
        early = (reads_and_writes form).early;
        decided = (reads_and_writes form).decided;
      };
      read_any = record { answer = any_said; place = reads_any.refused; early = reads_any.early; decided = reads_any.decided };
      write = λ form r out. (own_said form r out).said.is;
      write_line = λ form r out. (own_said form r out).line;
      write_column = λ form r out. (own_said form r out).column;
    }

-- each refusal changes nothing
pub unchanged : Unchanged ours
unfolding write_call
unchanged =
    record {
      read = λ form text. kept (read_call form text) ((reads_and_writes form).answered text);
      read_any = λ text. kept (read_any text) (reads_any.answered text);
      write = λ form r out. (own_said form r out).said.kept;
    }

-- what each reports and leaves
pub reported : Reported ours
unfolding write_call
reported = record { write = λ form r out. (own_said form r out).stands }
