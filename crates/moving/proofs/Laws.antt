-- What moving promises.
use Rattle.moving.specs.declared.route.Route.{Route}
use Rattle.moving.specs.Laws.{Moves}
use Rattle.moving.proofs.OneRecord.{moved, there_and_back, unknown_exactly, broken, chip, room, untouched, no_place, behind, enough}
use Rattle.moving.proofs.AllRecords.{all_unknown, nothing, in_a_row, rows, all_broken, all_room, all_untouched, first_chip, all_back, all_enough}

pub moves : (route : Route) → Moves route
moves route =
    record {
      moved = moved route;
      there_and_back = λ back returns number c text out place. there_and_back route number c text out back returns place;
      unknown = λ number c text out. unknown_exactly route number c text out;
      broken = λ number c known text out line column. broken route number c text out known line column;
      chip = chip route;
      room = λ number c text out. room route number c text out;
      untouched = λ number c text out. untouched route number c text out;
      no_place = λ number c text out. no_place route number c text out;
      behind = behind route;
      enough = λ number c text out. enough route number c text out;
      all_unknown = all_unknown route;
      nothing = nothing route;
      in_a_row = in_a_row route;
      rows = rows route;
      all_broken = all_broken route;
      all_room = all_room route;
      all_untouched = all_untouched route;
      first_chip = first_chip route;
      all_back = all_back route;
      all_enough = all_enough route;
    }
