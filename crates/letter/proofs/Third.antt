-- The third demand: the cut does not matter.
use Rattle.history.proofs.History.{limited}
use Rattle.history.proofs.Cuts.{never_refused, past_refused}
use Rattle.history.proofs.Directions.{cutting_does_not_matter}
use Rattle.gateway.proofs.OneToOne.{one_to_one}
use Rattle.areas.proofs.Areas.{spelled, area_law, areas_take}
use Rattle.areas.proofs.Cuts.{area_cutting, area_walks, area_cuts}
use Rattle.letter.specs.Model.{Model, Keeps}
use Rattle.letter.specs.Third.{Third, AreaThird}
use Rattle.letter.proofs.Model.{of_kept}

-- the third demand
pub third_demand : (m : Model) → Keeps m → Third m.streams
third_demand = of_kept (λ m. Third m.streams) (record { cutting = cutting_does_not_matter; taken = never_refused; past = past_refused; limited = limited })

-- the same of areas
pub third_areas : (m : Model) → Keeps m → AreaThird m.areas m.streams
third_areas =
    of_kept (λ m. AreaThird m.areas m.streams)
    (record {
      spellings = one_to_one;
      spelled = spelled;
      law = area_law;
      taken = areas_take;
      cutting = area_cutting;
      cuts = area_cuts;
      walks = area_walks;
    })
