-- The two views of a text are one: block by block, as the document prints it, and byte by byte, as a stream meets it; for every block size r, every run pᵇ
-- that keeps the state's length, and both directions.
use mathlib.Core.Path.{◌≡◌, refl, sym, ap, ap₂, ◌∙◌}
use mathlib.Core.List.{List, [], ◌∷◌, ◌++◌, append_assoc}
use Prim.Native.Nat.{ℕ, zero, suc, ◌+◌, ◌-◌, ◌*◌, ◌/◌, ◌%◌, ◌≤◌, ◌<◌}
use native.Mathlib.Nat.{not-suc-le-zero, le_of_suc-le-suc, mod-lt, div-add-mod', suc-mul, zero-add, one-mul}
use native.Mathlib.Omega.{arith}
use lib.Bits.{bit_xor}
use lib.ListN.{length, get_or, set, take, drop, length-append, length-drop, length-replicate, take-append-drop}
use lib.Seq.{get_or-append_seam, set-append_seam, append_snoc, take-append-le, drop-append-le, length-take-le, take_all, take-add, take-take, drop-drop, take_at, drop_at}
use borrow.Author.Tests.{ne_eqb, eq-eqb}
use Rattle.permutation.specs.Strings.{zeros}
use Rattle.ascon.specs.Mode.{◌⊕◌, blocks, count, pad, pad_ad, absorb, encrypt, decrypt, Processed, ◌then◌}
use Rattle.ascon.specs.Bytewise.{At, at, sealing, opening, closed, turned, step, steps, outs}
use Rattle.ascon.proofs.Strings.{length_xor, xor_append, xor_zeros, xor_short}
use Rattle.ascon.proofs.Bytewise.{steps_append, outs_append}

-- ---- one block

-- a state's front after the bytes of a block, before it is run
abbrev held : (ℕ → ℕ → ℕ) → List ℕ → List ℕ → List ℕ
held keep s [] = s
held keep [] (b ∷ bs) = []
held keep (x ∷ s) (b ∷ bs) = keep b (bit_xor x b) ∷ held keep s bs

length_held : (keep : ℕ → ℕ → ℕ) (s b : List ℕ) → length (held keep s b) ≡ length s
length_held keep s [] = refl
length_held keep [] (b ∷ bs) = refl
length_held keep (x ∷ s) (b ∷ bs) = ap suc (length_held keep s bs)

-- sealing holds the ciphertext
held_sealing : (s b : List ℕ) → held sealing s b ≡ (s ⊕ b) ++ drop (length b) s
held_sealing [] [] = refl
held_sealing (x ∷ s) [] = refl
held_sealing [] (b ∷ bs) = refl
held_sealing (x ∷ s) (b ∷ bs) = ap (λ (t : List ℕ). bit_xor x b ∷ t) (held_sealing s bs)

-- so does opening
held_opening : (s b : List ℕ) → length b ≤ length s → held opening s b ≡ b ++ drop (length b) s
held_opening s [] h = refl
held_opening [] (b ∷ bs) h = absurd (not-suc-le-zero h)
held_opening (x ∷ s) (b ∷ bs) h = ap (λ (t : List ℕ). b ∷ t) (held_opening s bs (le_of_suc-le-suc h))

module _ (r : ℕ) (pᵇ : List ℕ → List ℕ) (keep : ℕ → ℕ → ℕ) where
  -- a byte at the seam of p and y ∷ q
  step_at : (p q : List ℕ) (y x : ℕ)
      → step r pᵇ keep (at (p ++ y ∷ q) (length p)) x ≡ turned r pᵇ (p ++ keep x (bit_xor y x) ∷ q) (length p + 1)
  step_at p q y x = rw (get_or-append_seam, set-append_seam)

  -- one that is not the front's last moves the seam
  step_on_lem : (p q : List ℕ) (y x : ℕ) → length p + 1 < r
      → step r pᵇ keep (at (p ++ y ∷ q) (length p)) x
      ≡ at (p ++ keep x (bit_xor y x) ∷ [] ++ q) (length (p ++ keep x (bit_xor y x) ∷ []))
  step_on_lem p q y x h =
      let z : ℕ = keep x (bit_xor y x) in
      step_at p q y x ∙ rw (ne_eqb (length p + 1) r (omega arith), append_snoc p z q, length-append p (z ∷ []))

  -- bytes that stay in one block
  inside : (x : ℕ) (b p q : List ℕ) → length p + length (x ∷ b) ≤ r → length (x ∷ b) ≤ length q
      → steps r pᵇ keep (at (p ++ q) (length p)) (x ∷ b) ≡ turned r pᵇ (p ++ held keep q (x ∷ b)) (length p + length (x ∷ b))
  inside x b p [] h k = absurd (not-suc-le-zero k)
  inside x [] p (y ∷ q) h k = step_at p q y x
  inside x (z ∷ b) p (y ∷ q) h k =
      let w : ℕ = keep x (bit_xor y x) in
      let e : length (p ++ w ∷ []) ≡ length p + 1 = length-append p (w ∷ []) in
      ap (λ (a : At). steps r pᵇ keep a (z ∷ b)) (step_on_lem p q y x (omega arith))
      ∙ inside z b (p ++ w ∷ []) q (omega arith) (le_of_suc-le-suc k)
      ∙ ap₂ (λ (t : List ℕ) (n : ℕ). turned r pᵇ t n) (append_snoc p w (held keep q (z ∷ b))) (omega arith)

  -- what goes out of them
  inside_outs : (b p q : List ℕ) → length p + length b ≤ r → length b ≤ length q → outs r pᵇ keep (at (p ++ q) (length p)) b ≡ q ⊕ b
  inside_outs [] p [] h k = refl
  inside_outs [] p (y ∷ q) h k = refl
  inside_outs (x ∷ b) p [] h k = absurd (not-suc-le-zero k)
  inside_outs (x ∷ []) p (y ∷ []) h k = ap (λ (c : ℕ). bit_xor c x ∷ []) (get_or-append_seam p y [] 0)
  inside_outs (x ∷ []) p (y ∷ (v ∷ q)) h k = ap (λ (c : ℕ). bit_xor c x ∷ []) (get_or-append_seam p y (v ∷ q) 0)
  inside_outs (x ∷ (z ∷ b)) p (y ∷ q) h k =
      let w : ℕ = keep x (bit_xor y x) in
      let e : length (p ++ w ∷ []) ≡ length p + 1 = length-append p (w ∷ []) in
      ap₂ (λ (c : ℕ) (t : List ℕ). bit_xor c x ∷ t) (get_or-append_seam p y q 0)
      (ap (λ (a : At). outs r pᵇ keep a (z ∷ b)) (step_on_lem p q y x (omega arith))
      ∙ inside_outs (z ∷ b) (p ++ w ∷ []) q (omega arith) (le_of_suc-le-suc k))

  -- a full block, from the front's start
  full : (s b : List ℕ) → length b ≡ r → 0 < r → r ≤ length s → steps r pᵇ keep (at s 0) b ≡ at (pᵇ (held keep s b)) 0
  full s [] e h k = absurd (omega arith)
  full s (x ∷ b) e h k = inside x b [] s (omega arith) (omega arith) ∙ rw (eq-eqb (0 + suc (length b)) r (omega arith))

  -- a short one
  short : (s b : List ℕ) → length b < r → r ≤ length s → steps r pᵇ keep (at s 0) b ≡ at (held keep s b) (length b)
  short s [] h k = refl
  short s (x ∷ b) h k = inside x b [] s (omega arith) (omega arith) ∙ rw (ne_eqb (0 + suc (length b)) r (omega arith), zero-add (suc (length b)))

-- ---- a text of n full blocks and a short one

-- the byte 80, and the zeros that fill the last block
abbrev ending : ℕ → List ℕ
ending k = 0x80 ∷ zeros k

-- the ending on the rest of a state
pad_rest : (d : List ℕ) (k : ℕ) → k < length d → (take (suc k) d ⊕ ending k) ++ drop (suc k) d ≡ set d 0 (bit_xor (get_or d 0 0) 0x80)
pad_rest [] k h = absurd (not-suc-le-zero h)
pad_rest (y ∷ q) k h =
    let e : length (take k q) ≡ k = length-take-le k q (le_of_suc-le-suc h) in
    ap (λ (t : List ℕ). bit_xor y 0x80 ∷ t)
    (ap (λ (n : ℕ). (take k q ⊕ zeros n) ++ drop k q) (sym e)
    ∙ ap (λ (t : List ℕ). t ++ drop k q) (xor_zeros (take k q))
    ∙ take-append-drop k q)

-- a text's end at the seam of h and d
closed_seam : (h d : List ℕ) → 0 < length d → closed (at (h ++ d) (length h)) ≡ h ++ set d 0 (bit_xor (get_or d 0 0) 0x80)
closed_seam h [] l = absurd (not-suc-le-zero l)
closed_seam h (y ∷ q) l = rw (get_or-append_seam, set-append_seam)

module _ (r : ℕ) (pᵇ : List ℕ → List ℕ) where
  -- both directions' text, with the block's bytes held as the direction has it
  abbrev walked : (ℕ → ℕ → ℕ) → ℕ → List ℕ → List ℕ → Processed
  walked keep zero s m = record { out = s ⊕ m; state = closed (at (held keep s m) (length m)) }
  walked keep (suc n) s m = (s ⊕ take r m) then walked keep n (pᵇ (held keep s (take r m))) (drop r m)

  -- what a stream makes of a text
  abbrev pub streamed : (ℕ → ℕ → ℕ) → List ℕ → List ℕ → Processed
  streamed keep s m = record { out = outs r pᵇ keep (at s 0) m; state = closed (steps r pᵇ keep (at s 0) m) }

  -- data are absorbed as a text is encrypted, with a run after the last block too
  absorb_text : (ℓ n : ℕ) (s x : List ℕ) → absorb r pᵇ s (blocks r (suc n) x) ≡ pᵇ (encrypt r pᵇ ℓ s (blocks r (suc n) x)).state
  absorb_text ℓ zero s x = refl
  absorb_text ℓ (suc n) s x = absorb_text ℓ n (pᵇ ((take r s ⊕ take r x) ++ drop r s)) (drop r x)

  module _ (size : ℕ) (keeps : (s : List ℕ) → length s ≡ size → length (pᵇ s) ≡ size) (fits : r ≤ size) where
    -- the state after a first block
    next_size : (keep : ℕ → ℕ → ℕ) (s b : List ℕ) → length s ≡ size → length (pᵇ (held keep s b)) ≡ size
    next_size keep s b hs = keeps (held keep s b) (length_held keep s b ∙ hs)

    -- byte by byte, over the direction
    walk_bytes : (keep : ℕ → ℕ → ℕ) (n k : ℕ) (s m : List ℕ) → length s ≡ size → length m + suc k ≡ suc n * r → k < r
        → walked keep n s m ≡ streamed keep s m
    walk_bytes keep zero k s m hs e h =
        let one : 1 * r ≡ r = one-mul r in
        λ j. record {
          out = sym (inside_outs r pᵇ keep m [] s (omega arith) (omega arith)) j;
          state = ap closed (sym (short r pᵇ keep s m (omega arith) (omega arith))) j;
        }
    walk_bytes keep (suc n) k s m hs e h =
        let more : suc (suc n) * r ≡ suc n * r + r = suc-mul (suc n) r in
        let one : suc n * r ≡ n * r + r = suc-mul n r in
        let le : r ≤ length m = omega arith in
        let b : List ℕ = take r m in
        let d : List ℕ = drop r m in
        let lb : length b ≡ r = length-take-le r m le in
        let ld : length d ≡ length m - r = length-drop r m in
        let s' : List ℕ = pᵇ (held keep s b) in
        let block : steps r pᵇ keep (at s 0) b ≡ at s' 0 = full r pᵇ keep s b lb (omega arith) (omega arith) in
        let out : outs r pᵇ keep (at s 0) m ≡ (s ⊕ b) ++ outs r pᵇ keep (at s' 0) d =
        ap (λ (t : List ℕ). outs r pᵇ keep (at s 0) t) (sym (take-append-drop r m)) ∙ outs_append r pᵇ keep (at s 0) b d
        ∙ ap₂ (λ (x : List ℕ) (a : At). x ++ outs r pᵇ keep a d) (inside_outs r pᵇ keep b [] s (omega arith) (omega arith)) block in
        let state : steps r pᵇ keep (at s 0) m ≡ steps r pᵇ keep (at s' 0) d =
        ap (λ (t : List ℕ). steps r pᵇ keep (at s 0) t) (sym (take-append-drop r m)) ∙ steps_append r pᵇ keep (at s 0) b d
        ∙ ap (λ (a : At). steps r pᵇ keep a d) block in
        ap (λ (w : Processed). (s ⊕ b) then w) (walk_bytes keep n k s' d (next_size keep s b hs) (omega arith) h)
        ∙ (λ j. record { out = sym out j; state = closed (sym state j) })

    -- the last block: m of its r bytes are the text's
    module _ (k : ℕ) (s m : List ℕ) (hs : length s ≡ size) (e : length m + suc k ≡ r) where
      -- the state behind the text's bytes
      abbrev rest : List ℕ
      rest = drop (length m) s

      front_parts : take r s ≡ take (length m) s ++ take (suc k) rest
      front_parts = ap (λ (n : ℕ). take n s) (sym e) ∙ take-add (length m) (suc k) s

      length_front : length (take (length m) s) ≡ length m
      length_front = length-take-le (length m) s (omega arith)

      -- what is held of the text, and the ending on the rest
      last_state : (x : List ℕ) → length x ≡ length m → x ++ ((take (suc k) rest ⊕ ending k) ++ drop r s) ≡ closed (at (x ++ rest) (length m))
      last_state x lx =
          let lr : length rest ≡ length s - length m = length-drop (length m) s in
          let back : drop r s ≡ drop (suc k) rest = ap (λ (n : ℕ). drop n s) (sym e) ∙ sym (drop-drop (suc k) (length m) s) in
          ap (λ (t : List ℕ). x ++ ((take (suc k) rest ⊕ ending k) ++ t)) back
          ∙ ap (λ (t : List ℕ). x ++ t) (pad_rest rest k (omega arith))
          ∙ sym (closed_seam x rest (omega arith))
          ∙ ap (λ (n : ℕ). closed (at (x ++ rest) n)) lx

      seal_last : encrypt r pᵇ (length m) s (take r (m ++ ending k) ∷ []) ≡ walked sealing 0 s m
      seal_last =
          let l : length (m ++ ending k) ≡ length m + suc k = length-append m (ending k) ∙ ap (λ (n : ℕ). length m + suc n) (length-replicate k 0) in
          let lx : length (s ⊕ m) ≡ length m = length_xor s m ∙ omega arith in
          let block : take r s ⊕ take r (m ++ ending k) ≡ (s ⊕ m) ++ (take (suc k) rest ⊕ ending k) =
          ap₂ (λ (x y : List ℕ). x ⊕ y) front_parts (take_all r (m ++ ending k) (omega arith))
          ∙ xor_append (take (length m) s) m (take (suc k) rest) (ending k) length_front
          ∙ ap (λ (x : List ℕ). x ++ (take (suc k) rest ⊕ ending k)) (xor_short s m (length m) (omega arith)) in
          let out : take (length m) (take r s ⊕ take r (m ++ ending k)) ≡ s ⊕ m = ap (λ (x : List ℕ). take (length m) x) block ∙ take_at (s ⊕ m) _ (length m) lx in
          let state : (take r s ⊕ take r (m ++ ending k)) ++ drop r s ≡ closed (at (held sealing s m) (length m)) =
          ap (λ (x : List ℕ). x ++ drop r s) block
          ∙ append_assoc (s ⊕ m) (take (suc k) rest ⊕ ending k) (drop r s)
          ∙ last_state (s ⊕ m) lx
          ∙ ap (λ (x : List ℕ). closed (at x (length m))) (sym (held_sealing s m)) in
          λ j. record { out = out j; state = state j }

      open_last : decrypt r pᵇ s (take r m ∷ []) ≡ walked opening 0 s m
      open_last =
          let back : drop (length m) (take r s) ≡ take (suc k) rest =
          ap (λ (x : List ℕ). drop (length m) x) front_parts ∙ drop_at (take (length m) s) (take (suc k) rest) (length m) length_front in
          let filled : r - 1 - length m ≡ k = omega arith in
          let out : take (length m) (take r s) ⊕ m ≡ s ⊕ m =
          ap (λ (x : List ℕ). x ⊕ m) (take-take (length m) r s (omega arith)) ∙ xor_short s m (length m) (omega arith) in
          let state : m ++ ((drop (length m) (take r s) ⊕ (0x80 ∷ zeros (r - 1 - length m))) ++ drop r s) ≡ closed (at (held opening s m) (length m)) =
          ap₂ (λ (x : List ℕ) (n : ℕ). m ++ ((x ⊕ (0x80 ∷ zeros n)) ++ drop r s)) back filled
          ∙ last_state m refl
          ∙ ap (λ (x : List ℕ). closed (at x (length m))) (sym (held_opening s m (omega arith))) in
          ap (λ (x : List ℕ). decrypt r pᵇ s (x ∷ [])) (take_all r m (omega arith)) ∙ (λ j. record { out = out j; state = state j })

    -- the printed sealing walks
    seal_walk : (n k ℓ : ℕ) (s m : List ℕ) → length s ≡ size → length m + suc k ≡ suc n * r → ℓ + suc k ≡ r
        → encrypt r pᵇ ℓ s (blocks r (suc n) (m ++ ending k)) ≡ walked sealing n s m
    seal_walk zero k ℓ s m hs e l =
        let one : 1 * r ≡ r = one-mul r in
        let same : ℓ ≡ length m = omega arith in
        ap (λ (i : ℕ). encrypt r pᵇ i s (take r (m ++ ending k) ∷ [])) same ∙ seal_last k s m hs (omega arith)
    seal_walk (suc n) k ℓ s m hs e l =
        let more : suc (suc n) * r ≡ suc n * r + r = suc-mul (suc n) r in
        let one : suc n * r ≡ n * r + r = suc-mul n r in
        let le : r ≤ length m = omega arith in
        let b : List ℕ = take r m in
        let d : List ℕ = drop r m in
        let lb : length b ≡ r = length-take-le r m le in
        let ld : length d ≡ length m - r = length-drop r m in
        let whole : take r s ⊕ b ≡ s ⊕ b = xor_short s b r (omega arith) in
        let kept : (s ⊕ b) ++ drop r s ≡ held sealing s b = ap (λ (i : ℕ). (s ⊕ b) ++ drop i s) (sym lb) ∙ sym (held_sealing s b) in
        ap₂ (λ (x y : List ℕ). (take r s ⊕ x) then encrypt r pᵇ ℓ (pᵇ ((take r s ⊕ x) ++ drop r s)) (blocks r (suc n) y))
        (take-append-le r m (ending k) le) (drop-append-le r m (ending k) le)
        ∙ ap (λ (x : List ℕ). x then encrypt r pᵇ ℓ (pᵇ (x ++ drop r s)) (blocks r (suc n) (d ++ ending k))) whole
        ∙ ap (λ (x : List ℕ). (s ⊕ b) then encrypt r pᵇ ℓ (pᵇ x) (blocks r (suc n) (d ++ ending k))) kept
        ∙ ap (λ (w : Processed). (s ⊕ b) then w) (seal_walk n k ℓ (pᵇ (held sealing s b)) d (next_size sealing s b hs) (omega arith) l)

    -- the printed opening walks
    open_walk : (n k : ℕ) (s m : List ℕ) → length s ≡ size → length m + suc k ≡ suc n * r → k < r
        → decrypt r pᵇ s (blocks r (suc n) m) ≡ walked opening n s m
    open_walk zero k s m hs e h = let one : 1 * r ≡ r = one-mul r in open_last k s m hs (omega arith)
    open_walk (suc n) k s m hs e h =
        let more : suc (suc n) * r ≡ suc n * r + r = suc-mul (suc n) r in
        let one : suc n * r ≡ n * r + r = suc-mul n r in
        let le : r ≤ length m = omega arith in
        let b : List ℕ = take r m in
        let d : List ℕ = drop r m in
        let lb : length b ≡ r = length-take-le r m le in
        let ld : length d ≡ length m - r = length-drop r m in
        let whole : take r s ⊕ b ≡ s ⊕ b = xor_short s b r (omega arith) in
        let kept : b ++ drop r s ≡ held opening s b = ap (λ (i : ℕ). b ++ drop i s) (sym lb) ∙ sym (held_opening s b (omega arith)) in
        ap₂ (λ (x y : List ℕ). x then decrypt r pᵇ (pᵇ y) (blocks r (suc n) d)) whole kept
        ∙ ap (λ (w : Processed). (s ⊕ b) then w) (open_walk n k (pᵇ (held opening s b)) d (next_size opening s b hs) (omega arith) h)

    -- ---- the two views are one

    module _ (pos : 0 < r) (s : List ℕ) (hs : length s ≡ size) where
      -- the zeros that fill the last block
      fill : (m : List ℕ) → length m + suc (r - 1 - length m % r) ≡ suc (length m / r) * r
      fill m = omega (arith, suc-mul (length m / r) r, div-add-mod' (length m) r, mod-lt (length m) pos)

      pub seal_view : (P : List ℕ) → encrypt r pᵇ (length P % r) s (pad r P) ≡ streamed sealing s P
      unfolding pad count
      seal_view P =
          let k : ℕ = r - 1 - length P % r in
          let l : length P % r < r = mod-lt (length P) pos in
          seal_walk (length P / r) k (length P % r) s P hs (fill P) (omega arith)
          ∙ walk_bytes sealing (length P / r) k s P hs (fill P) (omega arith)

      pub open_view : (C : List ℕ) → decrypt r pᵇ s (blocks r (count r C) C) ≡ streamed opening s C
      unfolding count
      open_view C =
          let k : ℕ = r - 1 - length C % r in
          let l : length C % r < r = mod-lt (length C) pos in
          open_walk (length C / r) k s C hs (fill C) (omega arith) ∙ walk_bytes opening (length C / r) k s C hs (fill C) (omega arith)

      pub ad_view : (a : ℕ) (A : List ℕ) → absorb r pᵇ s (pad_ad r (a ∷ A)) ≡ pᵇ (closed (steps r pᵇ sealing (at s 0) (a ∷ A)))
      unfolding pad count
      ad_view a A =
          let k : ℕ = r - 1 - length (a ∷ A) % r in
          absorb_text (length (a ∷ A) % r) (length (a ∷ A) / r) s (a ∷ A ++ ending k)
          ∙ ap (λ (w : Processed). pᵇ w.state) (seal_view (a ∷ A))
