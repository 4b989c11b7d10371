-- What stands behind each yes, in one statement.
use Rattle.std.specs.Prelude.{List, ◌≡◌, ℕ, ◌+◌, ◌*◌, ◌≤◌, ◌<◌, length}
use Rattle.permutation.specs.Known as permutation
use Rattle.permutation.specs.Strings.{Bytes}
use Rattle.ascon.specs.Sets.{ParameterSet, row_of}
use Rattle.ascon.specs.Mode.{before_key, decrypted, sealed}
use Rattle.ascon.specs.Rounds.{runs, total, message_rounds, Marked}
use Rattle.ascon.specs.Cases.{Cases, LaterCases}
use Rattle.ascon.specs.Known as ascon
use Rattle.sets.specs.Before.{SetsBefore}
use Rattle.stream.specs.Before.{AsBefore}
use Rattle.history.specs.History.{Streams, HistoryLaw}
use Rattle.history.specs.Cuts.{CuttingDoesNotMatter, CuttingBefore}
use Rattle.lines.specs.Laws.{ReadsLines}
use Rattle.record.specs.declared.form.Form.{Form}
use Rattle.record.specs.Known as record-crate
use Rattle.record.specs.Laws.{ReadsAndWrites, TwoForms, ReadsAny}
use Rattle.moving.specs.Known as moving-crate
use Rattle.entry.specs.Laws.{Entries}
use Rattle.moving.specs.declared.route.Route.{Route}
use Rattle.moving.specs.Laws.{Moves, Published}
use Rattle.judge.specs.Laws.{Judges}
use Rattle.chip_log.specs.Laws.{ReadsLog}
use Rattle.replay.specs.Laws.{Feeds, Replays}
use Rattle.turns.specs.Laws.{WholeReports}
use Rattle.letter.specs.Model.{Model, ours, Keeps, Reported}
use Rattle.letter.specs.First.{First}
use Rattle.letter.specs.Second.{Second}
use Rattle.letter.specs.Third.{Third, AreaThird}
use Rattle.letter.specs.Walk.{SecondWalk}
use Rattle.letter.specs.Nines.{NinesAlike, OnePlaintext, OpensOnce}
use Rattle.letter.specs.Worthless.{Worthless}

pub record Letter : Type 2 where
  -- what it does with anything that is not a good message
  pub first : First
  -- who says that it is the cipher
  pub second : (m : Model) → Keeps m → Second m.messages
  -- whether the cut matters
  pub third : (m : Model) → Keeps m → Third m.streams
  -- the same of streams through the C boundary, whose states are kept in areas of bytes
  pub third_areas : (m : Model) → Keeps m → AreaThird m.areas m.streams
  -- whether a second walk, which opens, agrees with the first, which checked, and with the opening of the whole message
  pub second_walk : (m : Model) → Keeps m → SecondWalk m
  -- what a refused opening gives away: two of one set, lengths and place that are answered 9 report the same rounds and leave the same bytes; two finishes report the same
  -- rounds and end in the same state
  pub nines_alike : (m : Model) → Keeps m → NinesAlike m
  -- and no ciphertext and tag open to two plaintexts: of the definitions, and of the calls
  pub one_plaintext : OnePlaintext
  pub opens_once : (m : Model) → Keeps m → OpensOnce m
  -- behind the third demand: after any calls, also refused ones, the state, with its counts, is that of the start, the phase, and what was taken
  pub history : (m : Model) → Keeps m → HistoryLaw m.streams
  -- what the third demand said of cuttings before a start chose a limit is its case of the largest one, and so are the tests of a start, of an open state and of text
  pub third_before : (m : Streams) → CuttingDoesNotMatter m → CuttingBefore m
  pub streams_before : AsBefore
  -- what each call reports and leaves beyond the demands' words
  pub reported : (m : Model) → Keeps m → Reported m
  -- there is a model that keeps the contracts
  pub some_model : Keeps ours
  -- in every set the key lies where its row says, and what stands before it, the key and the nonce fill the 40 bytes of the initial value
  pub placed : (set : ℕ) → let row = row_of set in (length (before_key row) ≡ row.key_at) × (row.key_at + 2 * row.key ≡ 40)
  -- sets 1 and 2 are what they were before the later edition came
  pub sets_before : SetsBefore
  -- the cases marked P, and the like of sets 3 and 4
  pub cases : Cases
  pub later_cases : LaterCases
  -- known answers of the definitions: published ones, and the second program's where none is published
  pub known_runs : permutation.Known
  pub known_messages : ascon.Known
  -- the formula counts the runs of Algorithm 1, and the definition makes those runs
  pub counted : (set : ParameterSet) (A P : List ℕ) → total (runs set A P) ≡ message_rounds set (length A) (length P)
  pub marked : (r : ℕ) → 0 < r → (S A P : List ℕ) → r ≤ length S → Marked r S A P
  -- bytes stay bytes
  pub sealed_bytes : (set : ℕ) (K N A P : List ℕ) → length K ≡ (row_of set).key → Bytes K → Bytes P
      → Bytes (sealed (row_of set) K N A P).cipher × Bytes (sealed (row_of set) K N A P).tag
  pub opened_bytes : (set : ℕ) (K N A C : List ℕ) → length K ≡ (row_of set).key → Bytes K → Bytes C → Bytes (decrypted (row_of set) K N A C).out
  -- the reader of lines: what it finds is a right line, or the first column with which none goes on, for every kind of line that fits; and nothing else that it could find is true
  pub lines : ReadsLines
  -- records, in each form: what was written is read and what was read is written, the line and column at which a text is wrong, and what decides a reading
  pub records : (form : Form) → ReadsAndWrites form
  -- what the two forms have in common, and a text of either
  pub two_forms : TwoForms
  pub any_form : ReadsAny
  -- entries of published test files: what was written is read and what was read is written, the line and column at which a text is wrong, and what decides a reading
  pub entries : Entries
  -- moving records from one kind of text to another: there and back gives the same bytes, and each refusal exactly where it is due
  pub moving : (route : Route) → Moves route
  -- records of a set with right round counts are the same when they were written as entries and read back
  pub published : (set : ℕ) → Published set
  pub known_movings : moving-crate.Known
  -- known answers of records, written down from the papers
  pub known_records : record-crate.Known
  -- verdicts and reports: equal exactly where rounds, cipher and tag are ours, what the first difference of two texts is, and the report of an input, record by record
  pub judging : Judges
  -- entries of a chip's log: what an entry in form reads as, the line and column at which a text is wrong, and what decides a reading
  pub log : ReadsLog
  -- replaying a log: all agree exactly where the log is the one that our own stream would write, an entry is named exactly where it is the first that is broken or
  -- differs, and it does not matter in which windows the log comes
  pub replays : Replays
  -- what our stream gives for each of its calls
  pub feeds : Feeds
  -- the bench's program: it says its end only where all of its report is written, and there if no call fails
  pub program : WholeReports
  -- what the demands shut out
  pub worthless : Worthless
