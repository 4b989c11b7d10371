-- The contracts rule the wrong answers out.
pub mod Engine
pub mod Messages
pub mod Streams
pub mod Areas
pub mod Records
pub mod Entries
pub mod Moving
pub mod Judging
pub mod Replays
use Rattle.letter.specs.Wrong.{Wrong}
use Rattle.letter.proofs.Wrong.Engine as engine
use Rattle.letter.proofs.Wrong.Messages as messages
use Rattle.letter.proofs.Wrong.Streams as streams
use Rattle.letter.proofs.Wrong.Areas as areas
use Rattle.letter.proofs.Wrong.Records as records
use Rattle.letter.proofs.Wrong.Entries as entries
use Rattle.letter.proofs.Wrong.Moving as moving
use Rattle.letter.proofs.Wrong.Judging as judging
use Rattle.letter.proofs.Wrong.Replays as replays

pub wrong : Wrong
wrong = record { engine = engine.wrong; messages = messages.wrong; streams = streams.wrong; areas = areas.wrong; records = records.wrong; entries = entries.wrong; moving = moving.wrong; judging = judging.wrong; replays = replays.wrong }
