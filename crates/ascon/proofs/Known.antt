-- The definitions give the known answers, computed in the checker.
use mathlib.Core.Path.{refl}
use Rattle.permutation.specs.Round.{◌⋙◌, add_constant, s_box, bit, from_bits, column, substituted, substitute, Σ₀, Σ₁, Σ₂, Σ₃, Σ₄, diffuse, round}
use Rattle.permutation.specs.Runs.{constants, constants_of, rounds_of, rounds, permute}
use Rattle.permutation.specs.Strings.{bytes_of, value_of, string_of, state_of}
use Rattle.ascon.specs.Sets.{table, row_of}
use Rattle.ascon.specs.Mode.{p, count, pad, before_key, initialise, separate, before_text, encrypted, finalise, sealed}
use Rattle.ascon.specs.Known.{Known}

pub known : Known
unfolding ◌⋙◌ add_constant s_box bit from_bits column substituted substitute Σ₀ Σ₁ Σ₂ Σ₃ Σ₄ diffuse round constants constants_of rounds_of rounds permute row_of table bytes_of value_of string_of state_of p count pad before_key initialise separate before_text encrypted finalise sealed
known = record {
  published_3_none = refl;
  published_3_data = refl;
  published_3_text = refl;
  published_3_blocks = refl;
  published_4_none = refl;
  set_1 = refl;
  set_2 = refl;
  set_3 = refl;
  set_4 = refl;
}
