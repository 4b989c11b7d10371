-- The definitions give the known answers, computed in the checker.
use mathlib.Core.Path.{refl}
use Rattle.permutation.specs.Round.{◌⋙◌, add_constant, s_box, bit, from_bits, column, substituted, substitute, Σ₀, Σ₁, Σ₂, Σ₃, Σ₄, diffuse, round}
use Rattle.permutation.specs.Runs.{constants, constants_of, rounds, permute}
use Rattle.permutation.specs.Known.{Known}

pub known : Known
unfolding ◌⋙◌ add_constant s_box bit from_bits column substituted substitute Σ₀ Σ₁ Σ₂ Σ₃ Σ₄ diffuse round constants constants_of rounds permute
known = record { one = refl; twelve = refl; last_eight = refl; last_six = refl; first_eight = refl; first_six = refl }
