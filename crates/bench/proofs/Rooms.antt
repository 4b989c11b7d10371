-- Places of many bytes, and what is said of a moving.
use mathlib.Core.Path.{◌≡◌, refl, sym}
use mathlib.Core.List.{List}
use Prim.Native.Nat.{ℕ}
use lib.ListN.{length, replicate, length-replicate}
use Rattle.digits.specs.Numbers.{places, numeral}
use Rattle.turns.specs.Tallies.{numbered}
use Rattle.moving.specs.Moves.{refused_all}
use Rattle.bench.specs.Moves.{Places, record_words, place_words, moved_words, Spelled}

-- one byte so many times
pub places_repeated : (n a : ℕ) → Places n (replicate n a)
unfolding Places
places_repeated n a = sym (length-replicate n a)

-- a place has as many as it says
pub places_length : (n : ℕ) (place : List ℕ) → Places n place → n ≡ length place
unfolding Places
places_length n place p = p

-- the words are spelled so
pub spelled : Spelled
unfolding moved_words record_words place_words numbered numeral places refused_all
spelled = record { done = refl; empty = refl; broken = refl; chip = refl; set = refl }
