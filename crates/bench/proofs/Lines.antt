-- A piece of text at the beginning of a place.
use mathlib.Core.Path.{◌≡◌, ap, ◌∙◌}
use mathlib.Core.List.{List}
use Prim.Native.Nat.{ℕ, ◌≤◌}
use native.Mathlib.Omega.{arith}
use lib.ListN.{length, take, drop, length-take}
use lib.Seq.{take-append_seam}
use Rattle.digits.specs.Room.{laid, put}
use Rattle.digits.proofs.Room.{put_inside, put_count}
use Rattle.bench.specs.Lines.{Follows}

-- a text that was put into a place with room for it stands at its beginning
pub follows_laid : (piece before after : List ℕ) (count : ℕ) → length piece ≤ length before → laid count after ≡ put piece before → Follows 0 piece count before after
follows_laid piece before after count room e =
    let l = put_count piece before after count e room in
    record {
      ends = omega (arith, l.0);
      stands = ap (λ (k : ℕ). take k after) l.0 ∙ ap (take (length piece)) l.1 ∙ take-append_seam piece (drop (length piece) before);
      same_length = (put_inside piece before after count e).1;
    }

-- a piece at the beginning ends within its place
pub follows_inside : {end : ℕ} {piece before after : List ℕ} → Follows 0 piece end before after → end ≤ length after
follows_inside {end = end} {after = after} f = omega (arith, f.ends, ap length f.stands, length-take end after)
