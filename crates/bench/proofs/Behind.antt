-- A text put behind the first bytes of a place.
use mathlib.Core.Path.{◌≡◌, ap, ◌∙◌}
use mathlib.Core.List.{List, ◌++◌, append_assoc}
use Prim.Native.Nat.{ℕ, ◌+◌, ◌-◌, ◌≤◌}
use native.Mathlib.Omega.{arith}
use lib.ListN.{length, take, drop, length-drop}
use lib.Seq.{take-append-add, take-append_seam, take_all, length-take-le}
use Rattle.digits.specs.Room.{laid, put}
use Rattle.digits.proofs.Room.{put_count}

-- the place holds words that are so many bytes, and a text was put into the rest of it
module _ (most size : ℕ) (place words : List ℕ) (all : length place ≡ most) (inside : size ≤ most) (are : take size place ≡ words) where
  -- the text stands straight behind them, within the place
  pub record Behind (text rest : List ℕ) (count : ℕ) : Type 0 where
    pub fits : size + count ≤ most
    pub stands : take (size + count) (take size place ++ (rest ++ drop (length place - size) (drop size place))) ≡ words ++ text

  pub behind : (text rest : List ℕ) (count : ℕ) → length words + length text ≤ most → laid count rest ≡ put text (take (length place - size) (drop size place))
      → Behind text rest count
  behind text rest count room e =
      let left = length-drop size place in
      let part : take (length place - size) (drop size place) ≡ drop size place = take_all (length place - size) (drop size place) (omega arith) in
      let first : length (take size place) ≡ size = length-take-le size place (omega arith) in
      let laid = put_count text _ rest count e (omega (arith, ap length part, ap length are)) in
      let seam = drop (length place - size) (drop size place) in
      record {
        fits = omega (arith, laid.0, ap length are);
        stands =
            ap (λ (k : ℕ). take k (take size place ++ (rest ++ seam))) (sum first)
            ∙ take-append-add (take size place) (rest ++ seam) count
            ∙ (λ j. are j ++ begins rest _ seam laid j);
      }
    where
      sum : {a : ℕ} → a ≡ size → size + count ≡ a + count
      sum e = omega arith

      begins : (rest more seam : List ℕ) → (count ≡ length text) × (rest ≡ text ++ more) → take count (rest ++ seam) ≡ text
      begins rest more seam (n, e) =
          ap (λ (k : ℕ). take k (rest ++ seam)) n ∙ ap (λ (l : List ℕ). take (length text) (l ++ seam)) e
          ∙ ap (take (length text)) (append_assoc text more seam) ∙ take-append_seam text (more ++ seam)
