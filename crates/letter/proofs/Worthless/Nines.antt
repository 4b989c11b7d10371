-- Versions that give something away with a 9 are refuted: two openings, or two finishes, that they tell apart are answered 9, and so are alike.
use mathlib.Core.Path.{◌≡◌, refl, sym, ap, ap₂, ◌∙◌, subst}
use mathlib.Core.Bool.{Bool, true, false, cond, not}
use mathlib.Core.List.{List, [], ◌∷◌}
use Prim.Native.Nat.{ℕ, zero, suc, ◌+◌, ◌-◌, ◌*◌, ◌%◌, ◌^◌, ◌≤◌, ◌<◌}
use native.Mathlib.Omega.{arith}
use lib.Bits.{bit_xor}
use lib.Dec.{lit<}
use lib.ListN.{length, get_or, take, length-replicate}
use borrow.Author.Tests.{eq-eqb, ne_eqb}
use Rattle.answers.specs.declared.Answer.{Answer}
use Rattle.answers.specs.declared.Answer.TheVariants.{Done, TagDiffers}
use Rattle.answers.specs.Numbers.{number_of, is_done}
use Rattle.answers.specs.Order.{Choice, first}
use Rattle.answers.proofs.Numbers.{done_is}
use Rattle.answers.proofs.Order.{first_behind, first_passed}
use Rattle.permutation.specs.Strings.{Bytes, zeros, same}
use Rattle.permutation.proofs.Strings.{bytes_cons, bytes_tail, bytes_zeros}
use Rattle.ascon.specs.Sets.{row_of}
use Rattle.ascon.specs.Mode.{◌⊕◌, Processed, encrypted, decrypted, sealed, opened}
use Rattle.ascon.proofs.Strings.{xor_cancel}
use Rattle.ascon.proofs.Sealing.{bytes_tag, length_encrypted, bytes_encrypted, decrypt_encrypted}
use Rattle.sets.proofs.Rows.{row_fits, row_sizes}
use Rattle.message.specs.Message.{faults, message_test, open_faults}
use Rattle.message.proofs.Tests.{MessagePassed, message_passed}
use Rattle.message.proofs.Answered.{test_first}
use Rattle.message.proofs.Promise.{length_sealed_tag}
use Rattle.sponge.proofs.Ends.{tag_length, tag_bytes}
use Rattle.stream.specs.State.{gives_tag}
use Rattle.stream.specs.declared.Direction.{Direction}
use Rattle.stream.specs.declared.Stream.{Stream}
use Rattle.stream.specs.Calls.{text_words, finish_faults, finish_test, tag_faults, own_tag}
use Rattle.stream.proofs.Tests.{finish_passed}
use Rattle.letter.specs.Calls.{Through}
use Rattle.letter.specs.Messages as messages
use Rattle.letter.specs.Streams as streams
use Rattle.letter.specs.Model.{Model}
use Rattle.letter.specs.Nines.{Handed, SameLengths, SameData, NinesAlike, OpensOnce}
use Rattle.letter.specs.Worthless.{right_tag, right_bytes, LeavesPlaintext, LeavesDifference, BoundaryLeaves, RoundsByTag, FinishByTag, RoundsByKey, LeavesKeys, LeavesRefused, OpensToPlace, OpensTwoTags}
use Rattle.letter.proofs.Calls.{not_refused}
use Rattle.letter.proofs.Messages.{none_opened, tests_passed}
use Rattle.letter.proofs.Second.{unrefused}

-- ---- another byte

pub other_byte : ℕ → ℕ
other_byte zero = 1
other_byte (suc byte) = 0

-- it is another
pub other_differs : (byte : ℕ) → byte ≡ other_byte byte → ⊥
unfolding other_byte
other_differs zero e = omega (arith, e)
other_differs (suc byte) e = omega (arith, e)

-- with another first byte, bytes stay bytes
pub bytes_other : (byte : ℕ) (rest : List ℕ) → Bytes (byte ∷ rest) → Bytes (other_byte byte ∷ rest)
unfolding other_byte
bytes_other byte rest b = bytes_cons (small byte) (bytes_tail b)
  where
    small : (byte : ℕ) → other_byte byte < 2 ^ 8
    small zero = lit< tt
    small (suc byte) = lit< tt

-- ---- two wrong tags

-- two tags beside a right one: the first is wrong in its first byte alone, the second in its second alone
record TwoWrong (right : List ℕ) : Type 0 where
  soon : List ℕ
  late : List ℕ
  soon_bytes : Bytes soon
  late_bytes : Bytes late
  soon_size : length soon ≡ length right
  late_size : length late ≡ length right
  soon_wrong : same soon right ≡ false
  late_wrong : same late right ≡ false
  none_right : right_bytes soon right ≡ 0
  one_right : right_bytes late right ≡ 1
  differences : get_or (right ⊕ soon) 0 0 ≡ get_or (right ⊕ late) 0 0 → ⊥

-- there are two, where the right one has 12 bytes or more
two_wrong : (right : List ℕ) → 12 ≤ length right → Bytes right → TwoWrong right
two_wrong [] size b = absurd (omega arith)
two_wrong (x ∷ []) size b = absurd (omega arith)
two_wrong (x ∷ (y ∷ rest)) size b =
    let first_off = ne_eqb (other_byte x) x (λ e. other_differs x (sym e)) in
    let next-off = ne_eqb (other_byte y) y (λ e. other_differs y (sym e)) in
    let first_on = eq-eqb x x refl in
    record {
      soon = other_byte x ∷ y ∷ rest;
      late = x ∷ other_byte y ∷ rest;
      soon_bytes = bytes_other x (y ∷ rest) b;
      late_bytes = bytes_cons (b.at 0) (bytes_other y rest (bytes_tail b));
      soon_size = refl;
      late_size = refl;
      soon_wrong = rw first_off;
      late_wrong = rw (first_on, next-off);
      none_right = rw first_off;
      one_right = rw (first_on, next-off);
      differences = λ e. other_differs x (sym (sym (xor_cancel x (other_byte x)) ∙ ap (bit_xor x) e ∙ xor_cancel x x));
    }

-- two wrong tags beside a published one
wrong_tags : (set : ℕ) (K N A P : List ℕ) → length K ≡ (row_of set).key → Bytes K → TwoWrong (sealed (row_of set) K N A P).tag
unfolding sealed
wrong_tags set K N A P key b =
    two_wrong _ (omega (arith, length_sealed_tag set K N A P key, (row_sizes set).some_key))
    (bytes_tag (row_of set) (row_fits set) K key b (encrypted (row_of set) K N A P).state)

-- ---- whole messages

-- openings with the lengths of one that is done, or answered 9, and with its nonce, data and place
module _ (m : Model) (l : messages.Listed m.messages) (set : ℕ) (K₀ N A C₀ T₀ out : List ℕ) (came : Through (m.messages.unseal set K₀ N A C₀ T₀ out).outcome.answer) where
  -- that one passed the tests of its lengths
  test : is_done (message_test set (length K₀) (length N) (length T₀) (length A) (length C₀) (length out)) ≡ true
  test = tests_passed m.messages l set K₀ N A C₀ T₀ out (unrefused _ came)

  -- so its parts fit
  fit : MessagePassed set (length K₀) (length N) (length T₀) (length A) (length C₀) (length out)
  fit = message_passed set (length K₀) (length N) (length T₀) (length A) (length C₀) (length out) test

  -- a tag with which a ciphertext is answered 9 under a key
  record Nine (K C : List ℕ) : Type 0 where
    tag : List ℕ
    bytes : Bytes tag
    key_size : length K ≡ length K₀
    cipher_size : length C ≡ length C₀
    tag_size : length tag ≡ length T₀
    nine : (m.messages.unseal set K N A C tag out).outcome.answer ≡ TagDiffers

  -- every wrong tag is one
  wrong_nine : (K C : List ℕ) → length K ≡ length K₀ → length C ≡ length C₀
      → (T : List ℕ) → Bytes T → length T ≡ length (right_tag set K N A C) → same T (right_tag set K N A C) ≡ false → Nine K C
  wrong_nine K C k c T b size wrong =
      let key = k ∙ fit.key_fits in
      let t = size ∙ length_sealed_tag set K N A (decrypted (row_of set) K N A C).out key ∙ sym fit.tag_fits in
      let tests : ℕ → ℕ → ℕ → List (Choice Answer) = λ key tag text. faults set key (length N) tag (length A) text (length out) in
      let passed : first Done (tests (length K) (length T) (length C)) ≡ Done =
      (λ j. first Done (tests (k j) (t j) (c j)))
      ∙ sym (test_first set (length K₀) (length N) (length T₀) (length A) (length C₀) (length out))
      ∙ done_is _ test in
      record {
        tag = T;
        bytes = b;
        key_size = k;
        cipher_size = c;
        tag_size = t;
        nine =
            l.unseal set K N A C T out
            ∙ first_behind (tests (length K) (length T) (length C)) (open_faults (opened (row_of set) K N A C T)) refl passed
            ∙ ap (λ (b : Bool). cond b TagDiffers Done) (none_opened set K N A C T key ∙ ap not wrong);
      }

  -- two wrong tags, under a key of that length
  wrongs : (K C : List ℕ) → length K ≡ length K₀ → Bytes K → TwoWrong (right_tag set K N A C)
  wrongs K C k b = wrong_tags set K N A (decrypted (row_of set) K N A C).out (k ∙ fit.key_fits) b

  -- each is answered 9
  soon_nine : (K C : List ℕ) → length K ≡ length K₀ → length C ≡ length C₀ → Bytes K → Nine K C
  soon_nine K C k c b = let w = wrongs K C k b in wrong_nine K C k c w.soon w.soon_bytes w.soon_size w.soon_wrong

  late_nine : (K C : List ℕ) → length K ≡ length K₀ → length C ≡ length C₀ → Bytes K → Nine K C
  late_nine K C k c b = let w = wrongs K C k b in wrong_nine K C k c w.late w.late_bytes w.late_size w.late_wrong

  -- what such an opening is handed
  handed : (K C : List ℕ) → Nine K C → Handed
  handed K C x = record { key = K; nonce = N; ad = A; cipher = C; tag = x.tag }

  -- two of them have the same lengths
  lengths : (K K' C C' : List ℕ) (x : Nine K C) (y : Nine K' C') → SameLengths (handed K C x) (handed K' C' y)
  unfolding handed
  lengths K K' C C' x y = record {
    key = x.key_size ∙ sym y.key_size;
    nonce = refl;
    ad = refl;
    cipher = x.cipher_size ∙ sym y.cipher_size;
    tag = x.tag_size ∙ sym y.tag_size;
  }

  -- so they are alike
  two_alike : NinesAlike m → (K K' C C' : List ℕ) (x : Nine K C) (y : Nine K' C') → let one = m.messages.unseal set K N A C x.tag out in
      let other = m.messages.unseal set K' N A C' y.tag out in
      (one.outcome.rounds ≡ other.outcome.rounds) × (one.out ≡ other.out)
  unfolding handed
  two_alike alike K K' C C' x y = alike.opening set (handed K C x) (handed K' C' y) out (lengths K K' C C' x y) x.nine y.nine

  -- what rounds and place tell of the tag is the same of two wrong ones
  told_same : NinesAlike m → (b : Bytes K₀) (seen : ℕ → List ℕ → ℕ) (told : List ℕ → ℕ)
      → ((T : List ℕ) → Bytes T → let leaves = m.messages.unseal set K₀ N A C₀ T out in leaves.outcome.answer ≡ TagDiffers → seen leaves.outcome.rounds leaves.out ≡ told T)
      → told (wrongs K₀ C₀ refl b).soon ≡ told (wrongs K₀ C₀ refl b).late
  unfolding soon_nine late_nine wrong_nine
  told_same alike b seen told tells =
      let x = soon_nine K₀ C₀ refl refl b in
      let y = late_nine K₀ C₀ refl refl b in
      let same = two_alike alike K₀ K₀ C₀ C₀ x y in
      sym (tells x.tag x.bytes x.nine) ∙ ap₂ seen same.0 same.1 ∙ tells y.tag y.bytes y.nine

-- the differences of two wrong tags are not the same
pub leaves_difference : (m : Model) (set : ℕ) (K N A C T out : List ℕ) → Bytes K → Through (m.messages.unseal set K N A C T out).outcome.answer
    → LeavesDifference m.messages set K N A C out → messages.Listed m.messages → NinesAlike m → ⊥
leaves_difference m set K N A C T out b came tells l alike =
    (wrongs m l set K N A C T out came K C refl b).differences
    (told_same m l set K N A C T out came alike b (λ rounds left. get_or left 0 0) (λ T. get_or (right_tag set K N A C ⊕ T) 0 0) tells)

-- it is not the same how far two wrong tags are right
pub rounds_by_tag : (m : Model) (set : ℕ) (K N A C T out : List ℕ) (base : ℕ) → Bytes K → Through (m.messages.unseal set K N A C T out).outcome.answer
    → RoundsByTag m.messages set K N A C out base → messages.Listed m.messages → NinesAlike m → ⊥
rounds_by_tag m set K N A C T out base b came tells l alike =
    let w = wrongs m l set K N A C T out came K C refl b in
    let same = told_same m l set K N A C T out came alike b (λ rounds left. rounds) (λ T. base + right_bytes T (right_tag set K N A C)) tells in
    omega (arith, same, w.none_right, w.one_right)

-- the boundary leaves the same for two wrong tags, and their differences are not the same
pub boundary_leaves : (m : Model) (set : ℕ) (K N A C T out : List ℕ) → Bytes K → Through (m.messages.unseal set K N A C T out).outcome.answer
    → BoundaryLeaves m.messages set K N A C out → messages.Listed m.messages → NinesAlike m → ⊥
unfolding soon_nine late_nine wrong_nine handed
boundary_leaves m set K N A C T out b came tells l alike =
    let x = soon_nine m l set K N A C T out came K C refl refl b in
    let y = late_nine m l set K N A C T out came K C refl refl b in
    let same = (alike.boundary set (handed m l set K N A C T out came K C x) (handed m l set K N A C T out came K C y) out
    (lengths m l set K N A C T out came K K C C x y) (left x.tag x.nine) (left y.tag y.nine)).1 in
    (wrongs m l set K N A C T out came K C refl b).differences
    (sym (tells x.tag x.bytes (left x.tag x.nine)) ∙ ap (λ (o : List ℕ). get_or o 0 0) same ∙ tells y.tag y.bytes (left y.tag y.nine))
  where
    -- what is left of the number by 16 is 9
    left : (U : List ℕ) → (m.messages.unseal set K N A C U out).outcome.answer ≡ TagDiffers → (m.messages.open_word set K N A C U out).word % 16 ≡ 9
    left U e =
        ap (λ (n : ℕ). n % 16) (l.open_word set K N A C U out ∙ ap (λ (a : Answer). 16 * (m.messages.unseal set K N A C U out).outcome.rounds + number_of a) e)
        ∙ omega arith

-- two keys do not begin with the same byte
pub rounds_by_key : (m : Model) (set byte : ℕ) (rest N A C T out : List ℕ) (base : ℕ) → Bytes (byte ∷ rest)
    → Through (m.messages.unseal set (byte ∷ rest) N A C T out).outcome.answer
    → RoundsByKey m.messages set N A C out base → messages.Listed m.messages → NinesAlike m → ⊥
rounds_by_key m set byte rest N A C T out base b came tells l alike =
    let K : List ℕ = byte ∷ rest in
    let K' : List ℕ = other_byte byte ∷ rest in
    let b' = bytes_other byte rest b in
    let x = soon_nine m l set K N A C T out came K C refl refl b in
    let y = soon_nine m l set K N A C T out came K' C refl refl b' in
    let here = tells K x.tag b x.bytes x.nine in
    let there = tells K' y.tag b' y.bytes y.nine in
    other_differs byte (omega (arith, here, there, (two_alike m l set K N A C T out came alike K K' C C x y).0))

-- two ciphertexts do not decrypt to texts with the same first byte
pub leaves_plaintext : (m : Model) (set : ℕ) (K N A C T out : List ℕ) → Bytes K → 0 < length C → Through (m.messages.unseal set K N A C T out).outcome.answer
    → LeavesPlaintext m.messages set K N A (length C) out → messages.Listed m.messages → NinesAlike m → ⊥
leaves_plaintext m set K N A C T out b some came tells l alike =
    let same = (two_alike m l set K N A C T out came alike K K (cipher 0) (cipher 1) (x 0) (x 1)).1 in
    let bytes : ◌≡◌ {A = ℕ} 0 1 = first_byte 0 (lit< tt) ∙ ap (λ (o : List ℕ). get_or o 0 0) same ∙ sym (first_byte 1 (lit< tt)) in
    omega (arith, bytes)
  where
    key : length K ≡ (row_of set).key
    key = (fit m l set K N A C T out came).key_fits

    -- a text as long as the ciphertext, by its first byte, and what is sealed for it
    text : ℕ → List ℕ
    text v = v ∷ zeros (length C - 1)

    cipher : ℕ → List ℕ
    cipher v = (encrypted (row_of set) K N A (text v)).out

    size : (v : ℕ) → length (cipher v) ≡ length C
    size v = length_encrypted (row_of set) (row_fits set) K key N A (text v) ∙ omega (arith, length-replicate {A = ℕ} (length C - 1) 0, some)

    x : (v : ℕ) → Nine m l set K N A C T out came K (cipher v)
    x v = soon_nine m l set K N A C T out came K (cipher v) refl (size v) b

    first_byte : (v : ℕ) → v < 2 ^ 8 → v ≡ get_or (m.messages.unseal set K N A (cipher v) (x v).tag out).out 0 0
    first_byte v small =
        ap (λ (w : Processed). get_or w.out 0 0) (sym (decrypt_encrypted (row_of set) (row_fits set) K key N A (text v)))
        ∙ sym (tells (cipher v) (x v).tag (bytes_encrypted (row_of set) (row_fits set) K key N A b (text v) (bytes_cons small (bytes_zeros (length C - 1)))) (x v).bytes (size v) (x v).nine)

-- two openings that are refused leave the same byte at the front
pub leaves_refused : (m : Model) (set : ℕ) (one other : Handed) (out : List ℕ) → SameLengths one other → LeavesRefused m.messages set one other out → NinesAlike m → ⊥
leaves_refused m set one other out s (u, v, here, there, differ) alike =
    differ (sym here ∙ (λ j. get_or (alike.undone set one other out s u.0 v.0 j).out 0 0) ∙ there)

-- a beginning that is not empty has the first byte of the whole
first_of : (n byte : ℕ) (rest : List ℕ) → 0 < n → get_or (take n (byte ∷ rest)) 0 0 ≡ byte
first_of zero byte rest some = absurd (omega (arith, some))
first_of (suc n) byte rest some = refl

-- two places that held other bytes would be handed out as two texts
pub opens_to_place : (m : Model) (set : ℕ) (K N A C T : List ℕ) (byte : ℕ) (rest : List ℕ) → 0 < length C → Bytes (byte ∷ rest)
    → (m.messages.unseal set K N A C T (byte ∷ rest)).outcome.answer ≡ Done
    → OpensToPlace m.messages set K N A C T → messages.Listed m.messages → OpensOnce m → ⊥
opens_to_place m set K N A C T byte rest some b done held l once =
    let done' = l.unseal set K N A C T (other_byte byte ∷ rest) ∙ sym (l.unseal set K N A C T (byte ∷ rest)) ∙ done in
    let texts = (once.opening set K N A C T T (byte ∷ rest) (other_byte byte ∷ rest) done done').0 in
    let here = held (byte ∷ rest) b done in
    let there = held (other_byte byte ∷ rest) (bytes_other byte rest b) done' in
    other_differs byte
    (sym (first_of (length C) byte rest some)
    ∙ ap (λ (o : List ℕ). get_or o 0 0) (sym (ap (take (length C)) here) ∙ texts ∙ ap (take (length C)) there)
    ∙ first_of (length C) (other_byte byte) rest some)

-- two openings that are done have one tag
pub opens_two_tags : (m : Model) (set : ℕ) (K N A C T T' out : List ℕ) → OpensTwoTags m.messages set K N A C T T' out → OpensOnce m → ⊥
opens_two_tags m set K N A C T T' out (differ, one, other) once = differ (once.opening set K N A C T T' out out one other).1

-- ---- streams

-- it is not the same how far two wrong tags are right
pub finish_by_tag : (m : Model) (d : Direction) (s : Stream) (T : List ℕ) (base : ℕ) → gives_tag d ≡ false → length s.key ≡ 16 → Bytes s.key
    → Through (m.streams.finish d s T).outcome.answer → FinishByTag m.streams d s base → streams.Listed m.streams → NinesAlike m → ⊥
unfolding finish_test
finish_by_tag m d s T base compares size b came tells l alike =
    let x = nine w.soon w.soon_size w.soon_wrong in
    let y = nine w.late w.late_size w.late_wrong in
    let same = (alike.finish d d s s w.soon w.late (record { set = refl; phase = refl; ad = refl }) x y).0 in
    omega (arith, tells w.soon w.soon_bytes x, tells w.late w.late_bytes y, same, w.none_right, w.one_right)
  where
    -- the tests before the tag's are passed
    passed : first Done (finish_faults d s (length T)) ≡ Done
    passed =
        first_passed 8 (finish_faults d s (length T)) (tag_faults d s T) refl refl (not_refused _ (subst Through (l.finish d s T) came))

    own_size : length (own_tag s) ≡ (row_of s.set).key
    own_size = tag_length (row_of s.set) (row_sizes s.set) (row_fits s.set) (text_words s) s.key s.text size

    w : TwoWrong (own_tag s)
    w = two_wrong (own_tag s) (omega (arith, own_size, (row_sizes s.set).some_key))
        (tag_bytes (row_of s.set) (row_sizes s.set) (row_fits s.set) (text_words s) s.key s.text (record { size = size; bytes = b }))

    -- a wrong tag is answered 9
    nine : (U : List ℕ) → length U ≡ length (own_tag s) → same U (own_tag s) ≡ false → (m.streams.finish d s U).outcome.answer ≡ TagDiffers
    nine U as_long wrong =
        let sized : length U ≡ length T = as_long ∙ own_size ∙ sym (finish_passed d s (length T) (ap is_done passed)).tag_fits in
        l.finish d s U
        ∙ first_behind (finish_faults d s (length U)) (tag_faults d s U) refl (ap (λ (n : ℕ). first Done (finish_faults d s n)) sized ∙ passed)
        ∙ rw (compares, wrong)

-- two streams end in one state, which has one key
pub leaves_keys : (m : Model) (d : Direction) (one other : Stream) (tag tag' : List ℕ) → SameData one other → LeavesKeys m.streams d one other tag tag' → NinesAlike m → ⊥
leaves_keys m d one other tag tag' s (differ, x, y, here, there) alike = differ (sym here ∙ (λ j. ((alike.finish d d one other tag tag' s x y).1 j).key) ∙ there)
