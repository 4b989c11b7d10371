-- A model that keeps the contracts is ours, and what is said of each family holds of it.
use mathlib.Core.Path.{◌≡◌, sym, subst}
use Rattle.letter.specs.Model.{Model, ours, Keeps, EveryCall, Told, Listed, Unchanged, Mismatch, Reported}
use Rattle.letter.proofs.Engine as engine
use Rattle.letter.proofs.Messages as messages
use Rattle.letter.proofs.Streams as streams
use Rattle.letter.proofs.Areas as areas
use Rattle.letter.proofs.Records as records
use Rattle.letter.proofs.Entries as entries
use Rattle.letter.proofs.Moving as moving
use Rattle.letter.proofs.Judging as judging
use Rattle.letter.proofs.Replays as replays

-- ---- the calls

-- a model that keeps the contracts is ours, family by family
pub is_ours : (m : Model) → Keeps m → m ≡ ours
is_ours m k =
    λ j. record {
      messages = messages.is_ours m.messages k.messages j;
      streams = streams.is_ours m.streams k.streams j;
      areas = areas.is_ours m.areas k.areas j;
      records = records.is_ours m.records k.records j;
      entries = entries.is_ours m.entries k.entries j;
      moving = moving.is_ours m.moving k.moving j;
      judging = judging.is_ours m.judging k.judging j;
      replays = replays.is_ours m.replays k.replays j;
    }

-- what holds of ours holds of each model that keeps the contracts
pub of_kept : (Says : Model → Type 0) → Says ours → (m : Model) → Keeps m → Says m
of_kept Says s m k = subst Says (sym (is_ours m k)) s

-- ours keeps them
pub keeps : Keeps ours
keeps = record { messages = messages.keeps; streams = streams.keeps; areas = areas.keeps; records = records.keeps; entries = entries.keeps; moving = moving.keeps; judging = judging.keeps; replays = replays.keeps }

-- ---- what is said of them

-- every public call is answered
pub every_call : EveryCall
every_call = record { engine = engine.every_call; messages = messages.every_call; streams = streams.every_call; areas = areas.every_call; records = records.every_call; entries = entries.every_call; moving = moving.every_call; judging = judging.every_call; replays = replays.every_call }

-- what is seen of a result tells it
pub told : Told
told = record { records = records.told; entries = entries.told; moving = moving.told; judging = judging.told; replays = replays.told }

-- each answer is listed
pub listed : Listed ours
listed = record { messages = messages.listed; streams = streams.listed; areas = areas.listed; records = records.listed; entries = entries.listed; moving = moving.listed; judging = judging.listed; replays = replays.listed }

-- each refusal changes nothing
pub unchanged : Unchanged ours
unchanged = record { messages = messages.unchanged; streams = streams.unchanged; areas = areas.unchanged; records = records.unchanged; entries = entries.unchanged; moving = moving.unchanged; judging = judging.unchanged; replays = replays.unchanged }

-- save one
pub mismatch : Mismatch ours
mismatch = record { messages = messages.mismatch; streams = streams.mismatch; areas = areas.mismatch }

-- what each call reports and leaves
pub reported : Reported ours
reported = record { messages = messages.reported; streams = streams.reported; areas = areas.reported; records = records.reported; entries = entries.reported; moving = moving.reported; judging = judging.reported }
