-- A chip's log, read and replayed: what is said of its calls holds.
use mathlib.Core.Path.{◌≡◌, refl, sym, ap, ◌∙◌}
use mathlib.Core.Bool.{Bool, cond}
use mathlib.Core.List.{List, []}
use mathlib.Core.Logic.{◌↔◌, ◌⊎◌, inl, inr, ⊎_elim}
use Prim.Native.Nat.{ℕ}
use native.Mathlib.Omega.{arith}
use lib.ListN.{drop}
use Rattle.answers.specs.declared.Answer.TheVariants.{BrokenRecord}
use Rattle.answers.specs.Numbers.{number_of, is_done}
use Rattle.std.specs.Prelude.{Result, Ok, Err}
use Rattle.lines.specs.declared.table.Read.{Read}
use Rattle.lines.specs.declared.table.Unread as broken
use Rattle.chip_log.specs.declared.form.Entry.{Entry}
use Rattle.chip_log.specs.Calls.{Reading, reading_of, read_as, refused_at, read_entry}
use Rattle.chip_log.proofs.Laws.{reads_log}
use Rattle.chip_log.proofs as chip_log
use Rattle.stream.specs.declared.Stream.{Stream}
use Rattle.replay.specs.declared.whole.Conclusion.{Conclusion}
use Rattle.replay.specs.declared.window.Verdict.{Verdict}
use Rattle.replay.specs.declared.window.Verdict.TheVariants.{Agrees, Answer, Out, Rounds, Unread, Open}
use Rattle.replay.specs.Replays.{at_end, stopped, stretch_of, replay_of}
use Rattle.replay.specs.Laws.{FirstWrong}
use Rattle.replay.proofs.Stretches.{read_inside, stretch_step}
use Rattle.replay.proofs.Laws.{replays}
use Rattle.replay.proofs as replay-crate
use Rattle.letter.specs.Calls.{lent}
use Rattle.letter.specs.Replays.{Model, ours, Keeps, EveryCall, Told, IsRead, answer_of, line_of, column_of, Listed, HandsBackNothing, Unchanged}
use Rattle.letter.proofs.Calls as calls
use Rattle.letter.proofs.Calls.{answered, lifetimes, seen_as}

-- ---- the calls

-- what a reading answers is seen of a result
shown : (text : List ℕ) → (r : Result (Read Entry) broken.Unread) × (reading_of r ≡ read_entry text)
shown text =
    let reading = read_entry text in
    ⊎_elim (λ e. (Ok (record { content = reading.content; taken = reading.taken }), sym e))
    (λ e. (Err (record { line = reading.line; column = reading.column; early = reading.early }), sym e)) (reads_log.answered text)

-- calls that keep the contracts are ours
pub is_ours : (m : Model) → Keeps m → m ≡ ours
is_ours m k =
    λ j. record {
      read = λ text. seen_as (λ x. x) (k.read (lent text) (lifetimes 1)) j;
      opened = λ bytes. k.opened bytes (lifetimes 1) j;
      moved = λ log place. k.moved log place (lifetimes 1) j;
      entry = λ log. seen_as (λ x. x) (k.entry log (lifetimes 1)) j;
      window = λ window over s. k.window (lent window) over s (lifetimes 1) j;
      replay = λ log. k.replay (lent log) (lifetimes 1) j;
    }

-- and ours keep them
pub keeps : Keeps ours
keeps =
    record {
      read = λ text κ. let s = shown text.now in (s.0, (s.1, s.1));
      opened = λ bytes κ. refl;
      moved = λ log place κ. refl;
      entry = λ log κ. let s = shown (drop log.place log.bytes.now) in (s.0, (s.1, s.1));
      window = λ window over s κ. refl;
      replay = λ log κ. refl;
    }

-- each is answered
pub every_call : EveryCall
every_call =
    record {
      log_read = answered (λ M. chip_log.read.Met.met) (λ κ a. tt) (λ κ a r e p. p);
      replay_open = answered (λ M. replay-crate.«open».Met.met) (λ κ a. tt) (λ κ a r e p. p);
      replay_moved = answered (λ M. replay-crate.moved.Met.met) (λ κ a. tt) (λ κ a r e p. p);
      replay_entry = answered (λ M. replay-crate.entry.Met.met) (λ κ a. tt) (λ κ a r e p. p);
      replay_open_read = λ κs bytes r e. refl;
      replay_moved_read = λ κs log place r e. refl;
      replay_entry_read = λ κs log r e. refl;
      replay_replay_window = answered (λ M. replay-crate.replay_window.Met.met) (λ κ a. tt) (λ κ a r e p. p);
      replay_replay = answered (λ M. replay-crate.replay.Met.met) (λ κ a. tt) (λ κ a r e p. p);
    }

-- what is seen tells the result
pub told : Told
unfolding read_as refused_at
told =
    record {
      reading = calls.told
          (λ (q : Reading). cond (is_done q.answer) (Ok (record { content = q.content; taken = q.taken })) (Err (record { line = q.line; column = q.column; early = q.early })))
          (elim [ Ok read ↦ refl | Err wrong ↦ refl ]);
    }

-- ---- what they answer, and what they leave

-- a text that is read, in its parts
is_read : (text : List ℕ) → let reading = read_entry text in reading ≡ read_as reading.taken reading.content → IsRead text reading
unfolding read_as
is_read text e =
    let d = ap (λ (r : Reading). r.answer) e in
    record {
      done = d;
      no_line = ap (λ (r : Reading). r.line) e;
      no_column = ap (λ (r : Reading). r.column) e;
      not_early = ap (λ (r : Reading). r.early) e;
      begun = (reads_log.exactly text).0 d;
      inside = (read_inside text d).1;
      spelled = reads_log.spelled text d;
      in_form = reads_log.in_form text d;
    }

-- a text is read, or it is 10
read_said : (text : List ℕ) → IsRead text (read_entry text) ⊎ ((read_entry text).answer ≡ BrokenRecord)
unfolding refused_at
read_said text = ⊎_elim (λ e. inl (is_read text e)) (λ e. inr (ap (λ (r : Reading). r.answer) e)) (reads_log.answered text)

-- a refused reading hands back nothing
handed : (text : List ℕ) → HandsBackNothing (read_entry text)
unfolding read_as refused_at
handed text r =
    ⊎_elim (λ e. absurd (r.0 (ap (λ (q : Reading). q.answer) e))) (λ e. (ap (λ (q : Reading). q.taken) e, ap (λ (q : Reading). q.content) e)) (reads_log.answered text)

-- a verdict whose answer is 10 is that of an unread entry
unread_is : (verdict : Verdict) → answer_of verdict ≡ BrokenRecord → verdict ≡ Unread (line_of verdict) (column_of verdict)
unread_is Agrees e = absurd (let z : ◌≡◌ {A = ℕ} 0 10 = ap number_of e in omega arith)
unread_is Answer e = absurd (let z : ◌≡◌ {A = ℕ} 0 10 = ap number_of e in omega arith)
unread_is Out e = absurd (let z : ◌≡◌ {A = ℕ} 0 10 = ap number_of e in omega arith)
unread_is Rounds e = absurd (let z : ◌≡◌ {A = ℕ} 0 10 = ap number_of e in omega arith)
unread_is (Unread line column) e = refl
unread_is Open e = absurd (let z : ◌≡◌ {A = ℕ} 0 10 = ap number_of e in omega arith)

-- 10 is answered with an entry, line and column exactly where that entry is the first that is wrong, and broken there
broken_said : (log : List ℕ) (entry line column : ℕ) → let verdict = (replay_of log).verdict in
    ((answer_of verdict ≡ BrokenRecord) × ((replay_of log).entry ≡ entry) × (line_of verdict ≡ line) × (column_of verdict ≡ column)) ↔ FirstWrong log entry (Unread line column)
broken_said log entry line column = (
  λ (ten, number, l, c).
      let told : (replay_of log).verdict ≡ Unread line column = unread_is (replay_of log).verdict ten ∙ (λ j. Unread (l j) (c j)) in
      (replays.first log entry (Unread line column) refl).0 (λ j. record { entry = number j; verdict = told j }),
  λ w.
      let e = (replays.first log entry (Unread line column) refl).1 w in (
        ap (λ (x : Conclusion). answer_of x.verdict) e,
        ap (λ (x : Conclusion). x.entry) e,
        ap (λ (x : Conclusion). line_of x.verdict) e,
        ap (λ (x : Conclusion). column_of x.verdict) e,
      ),
)

-- a window without a byte
window_empty : (over : Bool) (s : Stream) → stretch_of over s [] ≡ stopped s (at_end over)
unfolding stretch_of
window_empty over s = refl

-- each answer is listed
pub listed : Listed ours
unfolding replay_of
listed =
    record {
      read = record { answer = read_said; place = reads_log.refused; early = reads_log.early; decided = reads_log.decided };
      opened = λ bytes. refl;
      moved = λ log place. refl;
      entry = λ log. refl;
      window_empty = window_empty;
      window = λ text over s some. stretch_step over s text some;
      window_open = λ text over s. replays.waits over s text;
      replay = record { agrees = replays.agrees; first = replays.first; broken = broken_said; decided = replays.decided };
      whole = λ log. refl;
    }

-- each refusal hands back nothing
pub unchanged : Unchanged ours
unchanged = record { read = handed; entry = λ log. handed _ }
