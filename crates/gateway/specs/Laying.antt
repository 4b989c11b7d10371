-- Bytes put into a lent place. Nobody has to believe this: it stands in contracts of private functions alone.
use Rattle.std.specs.Prelude.{List, [], ◌∷◌, ℕ, ◌+◌, set}

-- one after the other from a place on
abbrev pub laid : List ℕ → ℕ → List ℕ → List ℕ
laid area i [] = area
laid area i (b ∷ bytes) = laid (set area i b) (i + 1) bytes
