-- Turns one after another.
use mathlib.Core.Path.{◌≡◌, refl, sym, ap, ◌∙◌}
use mathlib.Core.List.{List, [], ◌∷◌, ◌++◌}
use Rattle.turns.specs.Run.{Standing, Reply, begun, turned, ran_from, ran}
use Rattle.turns.specs.Laws.{Turned}

-- one turn more
pub ran_append : (r : Standing) (replies more : List Reply) → ran_from r (replies ++ more) ≡ ran_from (ran_from r replies) more
ran_append r [] more = refl
ran_append r (reply ∷ replies) more = ran_append (turned r reply) replies more

-- a turn behind others
pub ran_more : (r s : Standing) (replies : List Reply) → r ≡ ran replies → (t : Turned r s) → s ≡ ran (replies ++ t.reply ∷ [])
ran_more r s replies e t = t.is ∙ ap (λ (q : Standing). turned q t.reply) e ∙ sym (ran_append begun replies (t.reply ∷ []))
