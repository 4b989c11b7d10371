-- Text put at the beginning of a lent place.
use Rattle.std.specs.Prelude.{cond, List, [], ◌∷◌, ◌++◌, ℕ, leb, length, drop}

-- a line: a name, a value, a line feed
unfoldable pub line_of : List ℕ → List ℕ → List ℕ
line_of name value = name ++ (value ++ 0x0a ∷ [])

-- how many bytes were put, and what the place then holds
pub record Laid : Type 0 where
  pub count : ℕ
  pub out : List ℕ

abbrev pub laid : ℕ → List ℕ → Laid
laid count out = record { count = count; out = out }

-- the text, with the rest of the place behind it; a place too short stays as it is
unfoldable pub put : List ℕ → List ℕ → Laid
put text out = cond (leb (length text) (length out)) (laid (length text) (text ++ drop (length text) out)) (laid 0 out)
