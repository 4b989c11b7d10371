-- The eight bytes of a number, as std writes them.
use mathlib.Core.Path.{◌≡◌}
use Prim.Native.Nat.{ℕ}
use native.Mathlib.Nat.{div-one}
use Rattle.std.specs.Int.{w64, to_be_bytes}
use Rattle.permutation.specs.Strings.{bytes_of}

pub bytes_eight : (n : ℕ) → to_be_bytes w64 n ≡ bytes_of 8 n
unfolding bytes_of
bytes_eight n = rw div-one
