-- A log's bytes and its place in them.
use Rattle.std.specs.Prelude.{List, ℕ}
use Rattle.std.specs.Borrow.{Bor}
use Rattle.replay.specs.declared.cursor.Log.{Log}

-- the two together
abbrev pub log_at : Bor (List ℕ) → ℕ → Log
log_at bytes place = record { bytes = bytes; place = place }
