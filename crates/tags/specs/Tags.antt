-- Keys and tags as strings of at most 16 bytes.
use Rattle.std.specs.Prelude.{cond, List, ℕ, ◌-◌, leb, length, take}
use Rattle.permutation.specs.Strings.{◌‖◌, zeros}

-- a string with zeros behind it, in 16 bytes
unfoldable pub sixteen_of : List ℕ → List ℕ
sixteen_of x = cond (leb (length x) 16) (x ‖ zeros (16 - length x)) (zeros 16)

-- a place with the beginning of a tag in it
unfoldable pub given_tag : List ℕ → List ℕ → List ℕ
given_tag ours tag = cond (leb (length tag) 16) (take (length tag) ours) tag
