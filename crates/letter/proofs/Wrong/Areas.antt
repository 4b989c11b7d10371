-- The contracts rule out the wrong answers of the calls of streams through the C boundary: each is computed in the checker.
use mathlib.Core.Path.{◌≡◌, refl, sym, ap, ◌∙◌}
use mathlib.Core.Bool.{Bool, true, false, cond, ◌&&◌, true≢false, false≢true}
use mathlib.Core.List.{List, [], ◌∷◌}
use Prim.Native.Nat.{ℕ, ◌<◌}
use lib.Dec.{eqb, leb}
use lib.ListN.{length}
use borrow.Author.Tests.{eq-eqb, ne_eqb, lt-leb}
use Rattle.permutation.specs.Round.{◌⋙◌, add_constant, s_box, bit, from_bits, column, substituted, substitute, Σ₀, Σ₁, Σ₂, Σ₃, Σ₄, diffuse, round}
use Rattle.permutation.specs.Runs.{constants, constants_of, rounds_of, rounds, permute}
use Rattle.permutation.specs.Strings.{Bytes, bytes_of, value_of, string_of, state_of, zeros}
use Rattle.ascon.specs.Sets.{table, is_set, row_of}
use Rattle.ascon.specs.Mode.{p, before_key, initialise, separate, finalise}
use Rattle.ascon.specs.Known.{counting, counting_on}
use Rattle.sets.specs.Start.{start_test}
use Rattle.sponge.specs.Sponge.{absorbed, given, ad_closed, tag_of}
use Rattle.stream.specs.declared.Direction.{Direction}
use Rattle.stream.specs.declared.Direction.TheVariants.{Sealing, Checking, Opening}
use Rattle.stream.specs.State.{gives_text, gives_tag, is_sound_open, is_sound_ended, is_sound}
use Rattle.stream.specs.Calls.{limited_start_test, piece_test, text_test, finish_test, filled_rounds, closing_rounds, start_call, ad_call, text_words, took_text, text_call, finish_call}
use Rattle.gateway.specs.Spelling.{state_length, spelling, number_at, direction_of, phase_of, is_spelling, state_in}
use Rattle.gateway.specs.Calls.{Left, left, LeftLent, left_lent, unspelled, left_by, left_beside, start_on, ad_on, text_on, finish_on, end_on}
use Rattle.gateway.proofs.OneToOne.{one_to_one}
use Rattle.gateway.proofs.Calls.{ad_off, text_off, finish_off}
use Rattle.letter.specs.Areas.{start_from}
use Rattle.letter.specs.Wrong.Streams.{three_bytes, zeros_tag}
use Rattle.letter.specs.Wrong.Areas.{ended_area, low_first, three_area, two_area, data_area, text_area, direction_number, StartsOnly, DataOnly, TextsOnly, FinishesOnly, Wrong}
use Rattle.letter.specs.Calls.{NoSet}
use Rattle.letter.proofs.Calls.{no_set}
use Rattle.letter.proofs.Wrong.Streams.{no_set_broken}
use Rattle.letter.proofs.Areas.{check_on_is}

-- ---- what a definition gives, the contract gives alone

starts_only : (d : Direction) (set limit : ℕ) (K N area : List ℕ) (number : ℕ) (leaves : List ℕ) → start_on (start_from d set limit K N) area ≡ left number leaves
    → StartsOnly d set limit K N area number leaves
starts_only Sealing set limit K N area number leaves e = λ n x other κ p. let q = p ∙ e in other (ap (λ (l : Left). l.word) q, ap (λ (l : Left). l.area) q)
starts_only Checking set limit K N area number leaves e = λ n x other κ p. let q = p ∙ e in other (ap (λ (l : Left). l.word) q, ap (λ (l : Left). l.area) q)
starts_only Opening set limit K N area number leaves e = λ n x other κ p. let q = p ∙ e in other (ap (λ (l : Left). l.word) q, ap (λ (l : Left). l.area) q)

data_only : (area ad : List ℕ) (number : ℕ) (leaves : List ℕ) → ad_on area ad ≡ left number leaves → DataOnly area ad number leaves
data_only area ad number leaves e n x other κ p = let q = p ∙ e in other (ap (λ (l : Left). l.word) q, ap (λ (l : Left). l.area) q)

texts_only : (d : Direction) (area piece out : List ℕ) (number : ℕ) (leaves place : List ℕ) → text_on d area piece out ≡ left_lent number leaves place
    → TextsOnly d area piece out number leaves place
texts_only Sealing area piece out number leaves place e = λ n x y other κ p.
    let q = p ∙ e in other (ap (λ (l : LeftLent). l.word) q, ap (λ (l : LeftLent). l.area) q, ap (λ (l : LeftLent). l.lent) q)
texts_only Checking area piece out number leaves place e = λ n x other κ p.
    let q : left_lent n x [] ≡ left_lent number leaves [] =
    p ∙ check_on_is area piece [] ∙ (λ j. left_lent ((sym (check_on_is area piece out) ∙ e) j).word ((sym (check_on_is area piece out) ∙ e) j).area []) in
    other (ap (λ (l : LeftLent). l.word) q, ap (λ (l : LeftLent). l.area) q)
texts_only Opening area piece out number leaves place e = λ n x y other κ p.
    let q = p ∙ e in other (ap (λ (l : LeftLent). l.word) q, ap (λ (l : LeftLent). l.area) q, ap (λ (l : LeftLent). l.lent) q)

finishes_only : (d : Direction) (area tag : List ℕ) (number : ℕ) (leaves place : List ℕ) → finish_on d area tag ≡ left_lent number leaves place
    → FinishesOnly d area tag number leaves place
finishes_only Sealing area tag number leaves place e = λ n x y other κ p.
    let q = p ∙ e in other (ap (λ (l : LeftLent). l.word) q, ap (λ (l : LeftLent). l.area) q, ap (λ (l : LeftLent). l.lent) q)
finishes_only Checking area tag number leaves place e = λ n x other κ p. let q = p ∙ e in other (ap (λ (l : LeftLent). l.word) q, ap (λ (l : LeftLent). l.area) q)
finishes_only Opening area tag number leaves place e = λ n x other κ p. let q = p ∙ e in other (ap (λ (l : LeftLent). l.word) q, ap (λ (l : LeftLent). l.area) q)

-- ---- what spells no state

other_length : (area : List ℕ) → (length area ≡ 112 → ⊥) → is_spelling area ≡ false
unfolding is_spelling
other_length area shut = rw (ne_eqb (length area) 112 shut)

-- whatever stands before a test that fails
no_third : (a b c : Bool) → c ≡ false → (a && (b && c)) ≡ false
no_third true true c e = e
no_third true false c e = refl
no_third false b c e = refl

no_second : (a b c : Bool) → b ≡ false → (a && (b && c)) ≡ false
no_second true b c e = ap (λ (t : Bool). t && c) e
no_second false b c e = refl

no_direction : (area : List ℕ) → 2 < number_at area 64 → is_spelling area ≡ false
unfolding is_spelling
no_direction area h = no_second (eqb (length area) state_length) _ (leb (number_at area 72) 2) (lt-leb (number_at area 64) 2 h)

no_phase : (area : List ℕ) → 2 < number_at area 72 → is_spelling area ≡ false
unfolding is_spelling
no_phase area h = no_third (eqb (length area) state_length) (leb (number_at area 64) 2) _ (lt-leb (number_at area 72) 2 h)

-- ---- one case for each direction

each : (P : Direction → Type 0) → P Sealing → P Checking → P Opening → (d : Direction) → P d
each P s c o Sealing = s
each P s c o Checking = c
each P s c o Opening = o

-- and for each two
each_two : (P : Direction → Direction → Type 0) → P Sealing Sealing → P Sealing Checking → P Sealing Opening → P Checking Sealing → P Checking Checking → P Checking Opening
    → P Opening Sealing → P Opening Checking → P Opening Opening → (d e : Direction) → P d e
each_two P ss sc so cs cc co os oc oo d e = each (λ d. P d e) (each (P Sealing) ss sc so e) (each (P Checking) cs cc co e) (each (P Opening) os oc oo e) d

-- ---- a set that there is not

-- a state of such a set is broken, whatever else it is
unsound : (area : List ℕ) → NoSet (number_at area 56) → is_sound (state_in area) ≡ false
unfolding state_in
unsound area none = no_set_broken (state_in area) none

-- a refusal with 8 leaves the area, whether its bytes spell a state or not
ad_broken : (area ad : List ℕ) → Bytes area → NoSet (number_at area 56) → ad_on area ad ≡ left 8 area
unfolding ad_on ad_call piece_test
ad_broken area ad bytes none = go (is_spelling area) refl
  where
    go : (b : Bool) → is_spelling area ≡ b → cond b (left_by (ad_call (state_in area) ad)) (unspelled area) ≡ left 8 area
    go true e = rw (unsound area none) (ap (left 8) (one_to_one.spells area bytes e).1)
    go false e = refl

text_broken : (d : Direction) (area piece out : List ℕ) → Bytes area → NoSet (number_at area 56) → text_on d area piece out ≡ left_lent 8 area out
unfolding text_on text_call text_test
text_broken d area piece out bytes none = go (is_spelling area) refl
  where
    go : (b : Bool) → is_spelling area ≡ b → let call = text_call d (state_in area) piece out in
        cond b (left_beside (left_by call.outcome) call.lent) (left_beside (unspelled area) out) ≡ left_lent 8 area out
    go true e = rw (unsound area none) (ap (λ (x : List ℕ). left_lent 8 x out) (one_to_one.spells area bytes e).1)
    go false e = refl

finish_broken : (d : Direction) (area tag : List ℕ) → Bytes area → NoSet (number_at area 56) → finish_on d area tag ≡ left_lent 8 area tag
unfolding finish_on finish_call finish_test
finish_broken d area tag bytes none = go (is_spelling area) refl
  where
    go : (b : Bool) → is_spelling area ≡ b → let call = finish_call d (state_in area) tag in
        cond b (left_beside (left_by call.outcome) call.lent) (left_beside (unspelled area) tag) ≡ left_lent 8 area tag
    go true e = rw (unsound area none) (ap (λ (x : List ℕ). left_lent 8 x tag) (one_to_one.spells area bytes e).1)
    go false e = refl

pub wrong : Wrong
unfolding spelling is_spelling state_in direction_of phase_of start_on ad_on text_on finish_on end_on start_call ad_call text_call finish_call limited_start_test start_test piece_test text_test finish_test took_text text_words filled_rounds closing_rounds is_sound is_sound_open is_sound_ended absorbed given ad_closed tag_of is_set row_of table rounds_of constants_of constants separate finalise initialise before_key p permute rounds round diffuse Σ₀ Σ₁ Σ₂ Σ₃ Σ₄ ◌⋙◌ substitute substituted column from_bits bit s_box add_constant string_of state_of bytes_of value_of
wrong = record {
  area_start_length = λ d set limit K N area off. starts_only d set limit K N area 8 area (rw (ne_eqb (length area) 112 off));
  area_start_set = λ d set limit K N area none e. starts_only d set limit K N area 1 ended_area (rw (eq-eqb (length area) 112 e, no_set set none));
  area_start_key = λ d limit K N area other e. starts_only d 1 limit K N area 2 ended_area (rw (eq-eqb (length area) 112 e, ne_eqb (length K) 16 other));
  area_start_nonce = λ d limit N area other e. starts_only d 1 limit (zeros 16) N area 3 ended_area (rw (eq-eqb (length area) 112 e, ne_eqb (length N) 16 other));
  area_start_limit = λ d limit area over e. starts_only d 1 limit (zeros 16) (zeros 16) area 5 ended_area (rw (eq-eqb (length area) 112 e, lt-leb limit 1_048_576 over));
  area_start_three = λ d area e. starts_only d 3 200 counting counting_on area 192 (three_area (direction_number d))
      (rw (eq-eqb (length area) 112 e) (each (λ d. start_on (start_from d 3 200 counting counting_on) (zeros 112) ≡ left 192 (three_area (direction_number d))) refl refl refl d));
  area_start_two = λ d area e. starts_only d 2 200 (bytes_of 12 0x000102030405060708090a0b) (bytes_of 12 0x101112131415161718191a1b) area 192 (two_area (direction_number d))
      (rw (eq-eqb (length area) 112 e)
      (each (λ d. start_on (start_from d 2 200 (bytes_of 12 0x000102030405060708090a0b) (bytes_of 12 0x101112131415161718191a1b)) (zeros 112) ≡ left 192 (two_area (direction_number d))) refl refl refl d));
  area_data_length = λ area ad off. data_only area ad 8 area (sym (ad_off area (other_length area off) ad));
  area_text_length = λ d area piece out off. texts_only d area piece out 8 area out (sym (text_off area (other_length area off) d piece out));
  area_finish_length = λ d area tag off. finishes_only d area tag 8 area tag (sym (finish_off area (other_length area off) d tag));
  area_end_length = λ area off n x other κ p. let q = p ∙ (let e : end_on area ≡ left 8 area = rw (ne_eqb (length area) 112 off) in e) in other (ap (λ (l : Left). l.word) q, ap (λ (l : Left). l.area) q);
  area_data_direction = λ area ad h. data_only area ad 8 area (sym (ad_off area (no_direction area h) ad));
  area_text_direction = λ d area piece out h. texts_only d area piece out 8 area out (sym (text_off area (no_direction area h) d piece out));
  area_finish_direction = λ d area tag h. finishes_only d area tag 8 area tag (sym (finish_off area (no_direction area h) d tag));
  area_data_phase = λ area ad h. data_only area ad 8 area (sym (ad_off area (no_phase area h) ad));
  area_text_phase = λ d area piece out h. texts_only d area piece out 8 area out (sym (text_off area (no_phase area h) d piece out));
  area_finish_phase = λ d area tag h. finishes_only d area tag 8 area tag (sym (finish_off area (no_phase area h) d tag));
  area_data_set = λ area ad bytes none. data_only area ad 8 area (ad_broken area ad bytes none);
  area_text_set = λ d area piece out bytes none. texts_only d area piece out 8 area out (text_broken d area piece out bytes none);
  area_finish_set = λ d area tag bytes none. finishes_only d area tag 8 area tag (finish_broken d area tag bytes none);
  area_data_ended = λ ad. data_only ended_area ad 7 ended_area refl;
  area_data_low_first = λ ad. data_only low_first ad 8 low_first refl;
  area_data_front = λ d. data_only (data_area (1 ∷ 2 ∷ 3 ∷ 4 ∷ 5 ∷ 6 ∷ 7 ∷ 8 ∷ []) (direction_number d) 0) three_bytes 0 (data_area (0x10 ∷ 0x10 ∷ 0x10 ∷ 4 ∷ 5 ∷ 6 ∷ 7 ∷ 8 ∷ []) (direction_number d) 3)
      (each (λ d. ad_on (data_area (1 ∷ 2 ∷ 3 ∷ 4 ∷ 5 ∷ 6 ∷ 7 ∷ 8 ∷ []) (direction_number d) 0) three_bytes ≡ left 0 (data_area (0x10 ∷ 0x10 ∷ 0x10 ∷ 4 ∷ 5 ∷ 6 ∷ 7 ∷ 8 ∷ []) (direction_number d) 3)) refl refl refl d);
  area_seal_front = texts_only Sealing (text_area (1 ∷ 2 ∷ 3 ∷ 4 ∷ 5 ∷ 6 ∷ 7 ∷ 8 ∷ []) 0 0) three_bytes (4 ∷ 5 ∷ 6 ∷ 7 ∷ 8 ∷ []) _ _ _ refl;
  area_check_front = texts_only Checking (text_area (1 ∷ 2 ∷ 3 ∷ 4 ∷ 5 ∷ 6 ∷ 7 ∷ 8 ∷ []) 1 0) three_bytes [] _ _ _ refl;
  area_open_front = texts_only Opening (text_area (1 ∷ 2 ∷ 3 ∷ 4 ∷ 5 ∷ 6 ∷ 7 ∷ 8 ∷ []) 2 0) three_bytes (4 ∷ 5 ∷ 6 ∷ 7 ∷ 8 ∷ []) _ _ _ refl;
  area_finish_tag = finishes_only Sealing (text_area (zeros 8) 0 0) (zeros 16) _ _ _ refl;
  area_finish_yes = λ d compares. finishes_only d (text_area (zeros 8) (direction_number d) 0) zeros_tag 192 ended_area zeros_tag
      (each (λ d. gives_tag d ≡ false → finish_on d (text_area (zeros 8) (direction_number d) 0) zeros_tag ≡ left_lent 192 ended_area zeros_tag) (λ gives. absurd (true≢false gives)) (λ _. refl) (λ _. refl) d compares);
  area_finish_nine = λ d compares. finishes_only d (text_area (zeros 8) (direction_number d) 0) (zeros 16) 201 ended_area (zeros 16)
      (each (λ d. gives_tag d ≡ false → finish_on d (text_area (zeros 8) (direction_number d) 0) (zeros 16) ≡ left_lent 201 ended_area (zeros 16)) (λ gives. absurd (true≢false gives)) (λ _. refl) (λ _. refl) d compares);
  area_text_crossed = λ d e other. texts_only d (text_area (zeros 8) (direction_number e) 0) three_bytes (4 ∷ 5 ∷ 6 ∷ []) 7 (text_area (zeros 8) (direction_number e) 0) (4 ∷ 5 ∷ 6 ∷ [])
      (each_two (λ d e. (d ≡ e → ⊥) → text_on d (text_area (zeros 8) (direction_number e) 0) three_bytes (4 ∷ 5 ∷ 6 ∷ []) ≡ left_lent 7 (text_area (zeros 8) (direction_number e) 0) (4 ∷ 5 ∷ 6 ∷ []))
      (λ n. absurd (n refl)) (λ n. refl) (λ n. refl) (λ n. refl) (λ n. absurd (n refl)) (λ n. refl) (λ n. refl) (λ n. refl) (λ n. absurd (n refl)) d e other);
  area_finish_crossed = λ d e other. finishes_only d (text_area (zeros 8) (direction_number e) 0) zeros_tag 7 (text_area (zeros 8) (direction_number e) 0) zeros_tag
      (each_two (λ d e. (d ≡ e → ⊥) → finish_on d (text_area (zeros 8) (direction_number e) 0) zeros_tag ≡ left_lent 7 (text_area (zeros 8) (direction_number e) 0) zeros_tag)
      (λ n. absurd (n refl)) (λ n. refl) (λ n. refl) (λ n. refl) (λ n. absurd (n refl)) (λ n. refl) (λ n. refl) (λ n. refl) (λ n. absurd (n refl)) d e other);
  area_finish_short = λ d. finishes_only d (text_area (zeros 8) (direction_number d) 0) (zeros 15) 4 (text_area (zeros 8) (direction_number d) 0) (zeros 15)
      (each (λ d. finish_on d (text_area (zeros 8) (direction_number d) 0) (zeros 15) ≡ left_lent 4 (text_area (zeros 8) (direction_number d) 0) (zeros 15)) refl refl refl d);
  area_text_past = λ d. texts_only d (text_area (zeros 8) (direction_number d) 0) (zeros 201) [] 5 (text_area (zeros 8) (direction_number d) 0) []
      (each (λ d. text_on d (text_area (zeros 8) (direction_number d) 0) (zeros 201) [] ≡ left_lent 5 (text_area (zeros 8) (direction_number d) 0) []) refl refl refl d);
  area_text_room = λ d gives. texts_only d (text_area (zeros 8) (direction_number d) 0) three_bytes (4 ∷ 5 ∷ []) 6 (text_area (zeros 8) (direction_number d) 0) (4 ∷ 5 ∷ [])
      (each (λ d. gives_text d ≡ true → text_on d (text_area (zeros 8) (direction_number d) 0) three_bytes (4 ∷ 5 ∷ []) ≡ left_lent 6 (text_area (zeros 8) (direction_number d) 0) (4 ∷ 5 ∷ [])) (λ _. refl) (λ gives. absurd (false≢true gives)) (λ _. refl) d gives);
  area_end_any = λ area e n x other κ p. let q = p ∙ (let f : end_on area ≡ left 0 ended_area = rw (eq-eqb (length area) 112 e) in f) in other (ap (λ (l : Left). l.word) q, ap (λ (l : Left). l.area) q);
}
