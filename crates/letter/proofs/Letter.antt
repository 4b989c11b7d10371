-- The letter is answered.
use Rattle.ascon.specs.Sets.{row_of}
use Rattle.ascon.specs.Mode.{encrypted, sealed}
use Rattle.permutation.proofs.Known as permutation
use Rattle.ascon.proofs.Cases.{cases, later_cases}
use Rattle.ascon.proofs.Known as ascon
use Rattle.ascon.proofs.Sealing.{bytes_tag, bytes_encrypted, bytes_decrypted}
use Rattle.sets.proofs.Rows.{row_fits}
use Rattle.sets.proofs.Before.{sets_before}
use Rattle.ascon.proofs.Rounds.{runs_total}
use Rattle.ascon.proofs.Marks.{runs_marked}
use Rattle.history.specs.History.{HistoryLaw}
use Rattle.stream.proofs.Before.{as_before}
use Rattle.history.proofs.History.{history_law}
use Rattle.history.proofs.Directions.{cutting_before}
use Rattle.lines.proofs.Laws.{reads_lines}
use Rattle.record.proofs.Known as record-crate
use Rattle.record.proofs.Laws.{reads_and_writes}
use Rattle.record.proofs.TwoForms.{two_forms}
use Rattle.record.proofs.Any.{reads_any}
use Rattle.moving.proofs.Known as moving-crate
use Rattle.entry.proofs.Laws.{entries}
use Rattle.moving.proofs.Laws.{moves}
use Rattle.moving.proofs.Published.{published}
use Rattle.judge.proofs.Laws.{judges}
use Rattle.chip_log.proofs.Laws.{reads_log}
use Rattle.replay.proofs.Feeds.{feeds}
use Rattle.replay.proofs.Laws.{replays}
use Rattle.turns.proofs.Runs.{whole_reports}
use Rattle.letter.specs.Model.{Reported}
use Rattle.letter.specs.Letter.{Letter}
use Rattle.letter.proofs.Model.{keeps, of_kept, reported}
use Rattle.letter.proofs.First.{first_demand}
use Rattle.letter.proofs.Second.{second_demand}
use Rattle.letter.proofs.Third.{third_demand, third_areas}
use Rattle.letter.proofs.Walk.{second_walk}
use Rattle.letter.proofs.Nines.{nines_alike, one_plaintext, opens_once}
use Rattle.letter.proofs.Worthless.{worthless}

pub letter : Letter
unfolding sealed
letter =
    record {
      first = first_demand;
      second = second_demand;
      third = third_demand;
      third_areas = third_areas;
      second_walk = second_walk;
      nines_alike = nines_alike;
      one_plaintext = one_plaintext;
      opens_once = opens_once;
      history = of_kept (λ m. HistoryLaw m.streams) history_law;
      third_before = cutting_before;
      streams_before = as_before;
      reported = of_kept Reported reported;
      some_model = keeps;
      placed = λ set. ((row_fits set).placed, (row_fits set).whole);
      sets_before = sets_before;
      cases = cases;
      later_cases = later_cases;
      known_runs = permutation.known;
      known_messages = ascon.known;
      counted = runs_total;
      marked = runs_marked;
      sealed_bytes = λ set K N A P key k h.
          (bytes_encrypted (row_of set) (row_fits set) K key N A k P h, bytes_tag (row_of set) (row_fits set) K key k (encrypted (row_of set) K N A P).state);
      opened_bytes = λ set K N A C key k h. bytes_decrypted (row_of set) (row_fits set) K key N A k C h;
      lines = reads_lines;
      records = reads_and_writes;
      two_forms = two_forms;
      any_form = reads_any;
      entries = entries;
      moving = moves;
      published = published;
      known_movings = moving-crate.known;
      known_records = record-crate.known;
      judging = judges;
      log = reads_log;
      replays = replays;
      feeds = feeds;
      program = whole_reports;
      worthless = worthless;
    }
