-- A model, and what is said of it: the families joined. A new family is a file, and a line in each of these.
use Rattle.history.specs.History as histories
use Rattle.areas.specs.Areas as areas-crate
use Rattle.moving.specs.Moves.{read_on}
use Rattle.letter.specs.Engine as engine
use Rattle.letter.specs.Messages as messages
use Rattle.letter.specs.Streams as streams
use Rattle.letter.specs.Areas as areas
use Rattle.letter.specs.Records as records
use Rattle.letter.specs.Entries as entries
use Rattle.letter.specs.Moving as moving
use Rattle.letter.specs.Judging as judging
use Rattle.letter.specs.Replays as replays

-- ---- the calls

-- what the calls of each family answer, and what they leave in each lent place, on any input
pub record Model : Type 0 where
  pub messages : messages.Model
  pub streams : histories.Streams
  pub areas : areas-crate.Areas
  pub records : records.Model
  pub entries : entries.Model
  pub moving : moving.Model
  pub judging : judging.Model
  pub replays : replays.Model

-- our own
abbrev pub ours : Model
ours = record { messages = messages.ours; streams = histories.ours; areas = areas-crate.ours; records = records.ours; entries = entries.ours; moving = moving.ours; judging = judging.ours; replays = replays.ours }

-- each call gives what the contract of the code allows
pub record Keeps (m : Model) : Type 0 where
  pub messages : messages.Keeps m.messages
  pub streams : streams.Keeps m.streams
  pub areas : areas.Keeps m.areas
  pub records : records.Keeps m.records
  pub entries : entries.Keeps m.entries
  pub moving : moving.Keeps m.moving
  pub judging : judging.Keeps m.judging
  pub replays : replays.Keeps m.replays

-- ---- what is said of them

-- every public call of every crate: its code is proved, it asks nothing, and its contract allows one outcome, which a total definition names
pub record EveryCall : Type 2 where
  pub engine : engine.EveryCall
  pub messages : messages.EveryCall
  pub streams : streams.EveryCall
  pub areas : areas.EveryCall
  pub records : records.EveryCall
  pub entries : entries.EveryCall
  pub moving : moving.EveryCall
  pub judging : judging.EveryCall
  pub replays : replays.EveryCall

-- where a call's outcome is a view of what the code gives, the view tells it
pub record Told : Type 1 where
  pub records : records.Told
  pub entries : entries.Told
  pub moving : moving.Told
  pub judging : judging.Told
  pub replays : replays.Told

-- each answer is the listed one
pub record Listed (m : Model) : Type 0 where
  pub messages : messages.Listed m.messages
  pub streams : streams.Listed m.streams
  pub areas : areas.Listed m.areas
  pub records : records.Listed m.records
  pub entries : entries.Listed m.entries
  pub moving : moving.Listed (read_on m.records.read m.entries.read) m.moving
  pub judging : judging.Listed m.records.read_any m.judging
  pub replays : replays.Listed m.replays

-- a refusal changes nothing, save one: a refused start leaves the ended state in its area (`start` of `Areas.Unchanged`)
pub record Unchanged (m : Model) : Type 0 where
  pub messages : messages.Unchanged m.messages
  pub streams : streams.Unchanged m.streams
  pub areas : areas.Unchanged m.areas
  pub records : records.Unchanged m.records
  pub entries : entries.Unchanged m.entries
  pub moving : moving.Unchanged m.moving
  pub judging : judging.Unchanged m.judging
  pub replays : replays.Unchanged m.replays

-- a tag mismatch is no such refusal: it leaves zeros, or the ended state
pub record Mismatch (m : Model) : Type 0 where
  pub messages : messages.Mismatch m.messages
  pub streams : streams.Mismatch m.streams
  pub areas : areas.Mismatch m.areas

-- what a call that is done, or answers 9, reports and leaves
pub record Reported (m : Model) : Type 0 where
  pub messages : messages.Reported m.messages
  pub streams : streams.Reported m.streams
  pub areas : areas.Reported m.areas
  pub records : records.Reported m.records
  pub entries : entries.Reported m.entries
  pub moving : moving.Reported (read_on m.records.read m.entries.read) m.moving
  pub judging : judging.Reported m.records.read_any m.judging
