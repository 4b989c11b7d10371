-- Each state has one spelling, and each spelling is one state's.
use mathlib.Core.Path.{◌≡◌, refl, sym, ap, ap₂, ◌∙◌, subst}
use mathlib.Core.Bool.{true, ◌&&◌, and-eq-true_iff, true≢false}
use mathlib.Core.List.{List, [], ◌∷◌, ◌++◌, append_assoc, append-nil}
use Prim.Native.Nat.{ℕ, zero, suc, ◌+◌, ◌*◌, ◌^◌, ◌≤◌, ◌<◌}
use native.Mathlib.Nat.{not-suc-le-zero, le_of_suc-le-suc}
use native.Mathlib.Omega.{arith}
use lib.Dec.{eqb, leb, lit<}
use lib.ListN.{length, get_or, take, drop, length-append, length-drop, take-append-drop}
use lib.Seq.{length-take-le, take_all, take_at, take-add, drop_at, drop-drop, drop-append-add}
use borrow.Author.Tests.{leb-true, le-leb, eq-eqb}
use Rattle.permutation.specs.Strings.{Bytes, bytes_of, value_of, string_of_words}
use Rattle.permutation.proofs.Strings.{bytes_none, bytes_append, bytes_take, bytes_drop, length_bytes, bytes_bytes, number_bytes, number_lt, eight_bytes}
use Rattle.stream.specs.declared.Direction.{Direction}
use Rattle.stream.specs.declared.Direction.TheVariants.{Sealing, Checking, Opening}
use Rattle.stream.specs.declared.Phase.{Phase}
use Rattle.stream.specs.declared.Phase.TheVariants.{Ad, Text, Ended}
use Rattle.stream.specs.declared.Stream.{Stream}
use Rattle.stream.specs.State.{rank_of}
use Rattle.gateway.specs.Spelling.{state_length, phase_number, numbers_of, spelling, number_at, direction_of, phase_of, is_spelling, state_in}
use Rattle.gateway.specs.Laws.{Sized, OneToOne}
use Rattle.gateway.proofs.Spelling.{length_words, length_spelling, spelling_length}

-- ---- numbers among words

-- the number of a word's place is the word
word_at : (words rest : List ℕ) (i : ℕ) → i < length words → get_or words i 0 < 2 ^ 64 → number_at (string_of_words words ++ rest) (8 * i) ≡ get_or words i 0
word_at [] rest i h small = absurd (not-suc-le-zero h)
word_at (w ∷ words) rest zero h small =
    ap value_of
    (ap (take 8) (append_assoc (bytes_of 8 w) (string_of_words words) rest) ∙ take_at (bytes_of 8 w) (string_of_words words ++ rest) 8 (length_bytes 8 w))
    ∙ number_bytes 8 w small
word_at (w ∷ words) rest (suc i) h small =
    let next : 8 * suc i ≡ length (bytes_of 8 w) + 8 * i = omega (arith, length_bytes 8 w) in
    ap (λ (x : List ℕ). value_of (take 8 x))
    (ap₂ (λ (n : ℕ) (x : List ℕ). drop n x) next (append_assoc (bytes_of 8 w) (string_of_words words) rest)
    ∙ drop-append-add (bytes_of 8 w) (string_of_words words ++ rest) (8 * i))
    ∙ word_at words rest i (le_of_suc-le-suc h) small

-- five words, one by one
five_words : (words : List ℕ) → length words ≡ 5 → get_or words 0 0 ∷ get_or words 1 0 ∷ get_or words 2 0 ∷ get_or words 3 0 ∷ get_or words 4 0 ∷ [] ≡ words
five_words (a ∷ b ∷ c ∷ d ∷ e ∷ []) h = refl
five_words [] h = absurd (omega (arith, h))
five_words (a ∷ []) h = absurd (omega (arith, h))
five_words (a ∷ b ∷ []) h = absurd (omega (arith, h))
five_words (a ∷ b ∷ c ∷ []) h = absurd (omega (arith, h))
five_words (a ∷ b ∷ c ∷ d ∷ []) h = absurd (omega (arith, h))
five_words (a ∷ b ∷ c ∷ d ∷ e ∷ f ∷ more) h = absurd (omega (arith, h))

-- so many numbers from a place on
abbrev numbers_at : List ℕ → ℕ → ℕ → List ℕ
numbers_at area i zero = []
numbers_at area i (suc n) = number_at area i ∷ numbers_at area (i + 8) n

-- their bytes are those of the area
string_at : (area : List ℕ) → Bytes area → (i n : ℕ) → i + 8 * n ≤ length area → string_of_words (numbers_at area i n) ≡ take (8 * n) (drop i area)
string_at area b i zero h = refl
string_at area b i (suc n) h =
    let more : 8 * suc n ≡ 8 + 8 * n = omega arith in
    ap₂ (λ (x y : List ℕ). x ++ y) (eight_bytes i area b (omega arith)) (string_at area b (i + 8) n (omega arith))
    ∙ ap (λ (x : List ℕ). take 8 (drop i area) ++ take (8 * n) x) (sym (drop-drop 8 i area))
    ∙ sym (take-add 8 (8 * n) (drop i area))
    ∙ ap (λ (k : ℕ). take k (drop i area)) (sym more)

-- a number of eight bytes is a word
pub number_small : (area : List ℕ) → Bytes area → (i : ℕ) → i + 8 ≤ length area → number_at area i < 2 ^ 64
number_small area b i h =
    let size : length (take 8 (drop i area)) ≡ 8 = length-take-le 8 (drop i area) (omega (arith, length-drop i area)) in
    subst (λ (n : ℕ). number_at area i < 2 ^ (8 * n)) size (number_lt (take 8 (drop i area)) (bytes_take 8 (bytes_drop i b)))

-- ---- directions and phases

direction_there : (d : Direction) → direction_of (rank_of d) ≡ d
unfolding direction_of
direction_there Sealing = refl
direction_there Checking = refl
direction_there Opening = refl

phase_there : (phase : Phase) → phase_of (phase_number phase) ≡ phase
unfolding phase_of
phase_there Ad = refl
phase_there Text = refl
phase_there Ended = refl

direction_back : (n : ℕ) → n ≤ 2 → rank_of (direction_of n) ≡ n
unfolding direction_of
direction_back zero h = refl
direction_back (suc zero) h = refl
direction_back (suc (suc zero)) h = refl
direction_back (suc (suc (suc n))) h = absurd (omega (arith, h))

phase_back : (n : ℕ) → n ≤ 2 → phase_number (phase_of n) ≡ n
unfolding phase_of
phase_back zero h = refl
phase_back (suc zero) h = refl
phase_back (suc (suc zero)) h = refl
phase_back (suc (suc (suc n))) h = absurd (omega (arith, h))

rank_most : (d : Direction) → rank_of d ≤ 2
rank_most Sealing = omega arith
rank_most Checking = omega arith
rank_most Opening = omega arith

phase_most : (phase : Phase) → phase_number phase ≤ 2
phase_most Ad = omega arith
phase_most Text = omega arith
phase_most Ended = omega arith

-- ---- there and back

module _ (s : Stream) (sized : Sized s) where
  abbrev W : List ℕ
  W = string_of_words s.words

  abbrev N : List ℕ
  N = string_of_words (numbers_of s)

  -- forty bytes of words
  forty : length W ≡ 40
  forty = length_words s.words ∙ omega (arith, sized.five)

  -- each word is read
  word_is : (i : ℕ) → i < 5 → number_at (spelling s) (8 * i) ≡ get_or s.words i 0
  unfolding spelling
  word_is i h = word_at s.words (s.key ++ N) i (omega (arith, sized.five)) (sized.words i)

  -- the key is read
  key_is : take 16 (drop 40 (spelling s)) ≡ s.key
  unfolding spelling
  key_is = ap (take 16) (drop_at W (s.key ++ N) 40 forty) ∙ take_at s.key N 16 sized.sixteen

  -- each number behind the key is read
  number_is : (i : ℕ) → i < 7 → get_or (numbers_of s) i 0 < 2 ^ 64 → number_at (spelling s) (56 + 8 * i) ≡ get_or (numbers_of s) i 0
  unfolding spelling
  number_is i h small =
      let before : length (W ++ s.key) ≡ 56 = length-append W s.key ∙ omega (arith, forty, sized.sixteen) in
      ap (λ (x : List ℕ). value_of (take 8 x))
      (ap₂ (λ (n : ℕ) (x : List ℕ). drop n x) (ap (λ (n : ℕ). n + 8 * i) (sym before)) (sym (append_assoc W s.key N))
      ∙ drop-append-add (W ++ s.key) N (8 * i)
      ∙ ap (drop (8 * i)) (sym (append-nil N)))
      ∙ word_at (numbers_of s) [] i h small

  -- the state that a state's spelling spells
  there : state_in (spelling s) ≡ s
  unfolding state_in
  there =
      let words = ap₂ (λ (a : ℕ) (x : List ℕ). a ∷ x) (word_is 0 (omega arith))
      (ap₂ (λ (a : ℕ) (x : List ℕ). a ∷ x) (word_is 1 (omega arith))
      (ap₂ (λ (a : ℕ) (x : List ℕ). a ∷ x) (word_is 2 (omega arith))
      (ap₂ (λ (a : ℕ) (x : List ℕ). a ∷ x) (word_is 3 (omega arith))
      (ap (λ (a : ℕ). a ∷ []) (word_is 4 (omega arith)))))) ∙ five_words s.words sized.five in
      let direction = ap direction_of (number_is 1 (omega arith) (omega (arith, rank_most s.direction))) ∙ direction_there s.direction in
      let phase = ap phase_of (number_is 2 (omega arith) (omega (arith, phase_most s.phase))) ∙ phase_there s.phase in
      λ j. record {
        words = words j;
        key = key_is j;
        set = number_is 0 (omega arith) sized.set j;
        direction = direction j;
        phase = phase j;
        ad = number_is 3 (omega arith) sized.ad j;
        text = number_is 4 (omega arith) sized.text j;
        place = number_is 5 (omega arith) sized.place j;
        limit = number_is 6 (omega arith) sized.limit j;
      }

  -- it is a spelling
  is_spelling-spelling : is_spelling (spelling s) ≡ true
  unfolding is_spelling
  is_spelling-spelling =
      rw (
        eq-eqb (length (spelling s)) state_length (length_spelling s sized.five sized.sixteen),
        number_is 1 (omega arith) (omega (arith, rank_most s.direction)),
        number_is 2 (omega arith) (omega (arith, phase_most s.phase)),
        le-leb (rank_of s.direction) 2 (rank_most s.direction),
        le-leb (phase_number s.phase) 2 (phase_most s.phase),
      )

module _ (area : List ℕ) (bytes : Bytes area) (yes : is_spelling area ≡ true) where
  -- what the test says
  whole : length area ≡ state_length
  whole = spelling_length area yes

  in_range : (number_at area 64 ≤ 2) × (number_at area 72 ≤ 2)
  unfolding is_spelling
  in_range =
      let both = (and-eq-true_iff (leb (number_at area 64) 2) (leb (number_at area 72) 2)).0
      ((and-eq-true_iff (eqb (length area) state_length) (leb (number_at area 64) 2 && leb (number_at area 72) 2)).0 yes).1 in
      (leb-true (number_at area 64) 2 both.0, leb-true (number_at area 72) 2 both.1)

  -- the spelling of the state that bytes spell
  back : spelling (state_in area) ≡ area
  unfolding spelling state_in
  back =
      let direction = direction_back (number_at area 64) in_range.0 in
      let phase = phase_back (number_at area 72) in_range.1 in
      let numbers : numbers_of (state_in area) ≡ numbers_at area 56 7 = λ j.
      number_at area 56 ∷ direction j ∷ phase j ∷ number_at area 80 ∷ number_at area 88 ∷ number_at area 96 ∷ number_at area 104 ∷ [] in
      let first : string_of_words (numbers_at area 0 5) ≡ take 40 area = string_at area bytes 0 5 (omega (arith, whole)) in
      let last : string_of_words (numbers_at area 56 7) ≡ drop 56 area =
      string_at area bytes 56 7 (omega (arith, whole)) ∙ take_all 56 (drop 56 area) (omega (arith, length-drop 56 area, whole)) in
      ap₂ (λ (x y : List ℕ). x ++ (take 16 (drop 40 area) ++ y)) first (ap string_of_words numbers ∙ last ∙ sym (drop-drop 16 40 area))
      ∙ ap (λ (x : List ℕ). take 40 area ++ x) (take-append-drop 16 (drop 40 area))
      ∙ take-append-drop 40 area

  -- and its sizes
  sizes : Sized (state_in area)
  unfolding state_in
  sizes =
      let small = number_small area bytes in
      record {
        five = refl;
        words = each;
        sixteen = length-take-le 16 (drop 40 area) (omega (arith, length-drop 40 area, whole));
        key = bytes_take 16 (bytes_drop 40 bytes);
        set = small 56 (omega (arith, whole));
        ad = small 80 (omega (arith, whole));
        text = small 88 (omega (arith, whole));
        place = small 96 (omega (arith, whole));
        limit = small 104 (omega (arith, whole));
      }
    where
      each : (i : ℕ) → get_or (state_in area).words i 0 < 2 ^ 64
      each zero = number_small area bytes 0 (omega (arith, whole))
      each (suc zero) = number_small area bytes 8 (omega (arith, whole))
      each (suc (suc zero)) = number_small area bytes 16 (omega (arith, whole))
      each (suc (suc (suc zero))) = number_small area bytes 24 (omega (arith, whole))
      each (suc (suc (suc (suc zero)))) = number_small area bytes 32 (omega (arith, whole))
      each (suc (suc (suc (suc (suc i))))) = lit< tt

-- the bytes of words are bytes
bytes_words : (words : List ℕ) → Bytes (string_of_words words)
bytes_words [] = bytes_none
bytes_words (w ∷ words) = bytes_append (bytes_bytes 8 w) (bytes_words words)

pub one_to_one : OneToOne
unfolding spelling bytes_of
one_to_one =
    record {
      spelled = λ s sized. (is_spelling-spelling s sized, there s sized);
      bytes = λ s sized. bytes_append (bytes_words s.words) (bytes_append sized.key (bytes_words (numbers_of s)));
      spells = λ area bytes yes. (sizes area bytes yes, back area bytes yes);
      one_state = λ s t u v e. sym (there s u) ∙ ap state_in e ∙ there t v;
      no_state = λ area no s sized e. true≢false (sym (is_spelling-spelling s sized) ∙ ap is_spelling e ∙ no);
      ended_is = refl;
    }
