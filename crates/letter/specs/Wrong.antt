-- Wrong answers that the contracts rule out, each at one input, or at all, that tell it from the right one: a test of the promises, beside the letter. Edits (`must-fail`) show that
-- wrong code is refused.
pub mod Engine
pub mod Messages
pub mod Streams
pub mod Areas
pub mod Records
pub mod Entries
pub mod Moving
pub mod Judging
pub mod Replays
use Rattle.letter.specs.Wrong.Engine as engine
use Rattle.letter.specs.Wrong.Messages as messages
use Rattle.letter.specs.Wrong.Streams as streams
use Rattle.letter.specs.Wrong.Areas as areas
use Rattle.letter.specs.Wrong.Records as records
use Rattle.letter.specs.Wrong.Entries as entries
use Rattle.letter.specs.Wrong.Moving as moving
use Rattle.letter.specs.Wrong.Judging as judging
use Rattle.letter.specs.Wrong.Replays as replays

pub record Wrong : Type 0 where
  pub engine : engine.Wrong
  pub messages : messages.Wrong
  pub streams : streams.Wrong
  pub areas : areas.Wrong
  pub records : records.Wrong
  pub entries : entries.Wrong
  pub moving : moving.Wrong
  pub judging : judging.Wrong
  pub replays : replays.Wrong
