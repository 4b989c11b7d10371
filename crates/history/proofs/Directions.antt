-- The demand in each direction, by its own words, and the second walk: both from what holds in any direction.
use mathlib.Core.Path.{◌≡◌, refl, sym, ap, ap₂, ◌∙◌, subst}
use mathlib.Core.Bool.{Bool, false, not, ◌&&◌}
use mathlib.Core.List.{List, [], ◌∷◌, ◌++◌}
use mathlib.Core.Logic.{◌↔◌}
use Prim.Native.Nat.{ℕ}
use lib.Dec.{eqb}
use lib.ListN.{length, take}
use lib.Seq.{take_at}
use borrow.Author.Tests.{eq-eqb, not-false}
use Rattle.answers.specs.declared.Answer.TheVariants.{Done, TagLength, TagDiffers}
use Rattle.answers.specs.Numbers.{is_done}
use Rattle.answers.specs.Order.{◌when◌}
use Rattle.answers.proofs.Order.{none_holds}
use Rattle.permutation.specs.Strings.{same}
use Rattle.permutation.proofs.Strings.{same_eq, same_refl}
use Rattle.ascon.specs.Sets.{ParameterSet, row_of, text_limit}
use Rattle.ascon.specs.Mode.{p, Processed, before_text, encrypted, decrypted, Sealed, sealed}
use Rattle.ascon.specs.Bytewise.{at, opening, outs}
use Rattle.ascon.proofs.Bytewise.{outs_append, length_outs}
use Rattle.ascon.proofs.Sealing.{Fits, length_tag, decrypted_view, seal_decrypted, only_text, only_tag}
use Rattle.sets.proofs.Rows.{row_fits}
use Rattle.stream.specs.declared.Direction.{Direction}
use Rattle.stream.specs.declared.Direction.TheVariants.{Sealing, Checking, Opening}
use Rattle.stream.specs.declared.Phase.{Phase}
use Rattle.stream.specs.declared.Phase.TheVariants.{Ad, Text, Ended}
use Rattle.stream.specs.State.{gives_tag}
use Rattle.stream.specs.Calls.{Start}
use Rattle.history.specs.History.{Streams, ours, Call, History, begun, after, state_at}
use Rattle.history.specs.Cuts.{Message, MessageWithin, start_towards, stream_towards, finish_answer, Whole, SealedWhole, CheckedWhole, OpenedWhole, CuttingDoesNotMatter, WalksAgree, CuttingBefore}
use Rattle.history.proofs.History.{history_law, key}
use Rattle.history.proofs.Cuts.{whole}

-- the end of a message in a direction that is named
whole_in : (d : Direction) (start : Start) (A T : List ℕ) (calls : List Call) (tag : List ℕ) → start.direction ≡ d → Message ours start A T calls
    → Whole ours (start_towards d start) A T (after ours (begun ours start) calls) tag
whole_in d start A T calls tag e m = subst (λ (x : Direction). Whole ours (start_towards x start) A T (after ours (begun ours start) calls) tag) e (whole start A T calls m tag)

-- sealing
seals : (start : Start) (A P : List ℕ) (calls : List Call) (tag : List ℕ) → start.direction ≡ Sealing → Message ours start A P calls
    → length tag ≡ (row_of start.set).key → SealedWhole ours start A P (after ours (begun ours start) calls) tag
seals start A P calls tag x m e =
    let w = whole_in Sealing start A P calls tag x m in
    record { out = w.out; answer = w.answer ∙ rw (eq-eqb (length tag) (row_of start.set).key e); tag_is = w.lent e; rounds = w.rounds e }

-- a finish that compares says yes to the published tag alone
pub yes_published : (d : Direction) → gives_tag d ≡ false → (row : ParameterSet) (published tag : List ℕ) → finish_answer d row published tag ≡ Done → tag ≡ published
yes_published d compares row published tag e =
    let none = none_holds (TagLength when not (eqb (length tag) row.key) ∷ TagDiffers when (not (gives_tag d) && not (same tag published)) ∷ []) refl (ap is_done e) in
    same_eq tag published (not-false (same tag published) (ap (λ (t : Bool). not t && not (same tag published)) (sym compares) ∙ none.1.0))

-- and to it, where that is a tag of the set's length
yes_tag : (d : Direction) → gives_tag d ≡ false → (set : ℕ) (published tag : List ℕ) → length published ≡ (row_of set).key
    → (finish_answer d (row_of set) published tag ≡ Done) ↔ (tag ≡ published)
yes_tag d compares set published tag size = (yes_published d compares (row_of set) published tag, from)
  where
    from : tag ≡ published → finish_answer d (row_of set) published tag ≡ Done
    from e = rw (eq-eqb (length tag) (row_of set).key (ap length e ∙ size), ap (same tag) (sym e) ∙ same_refl tag, compares)

-- a message with a ciphertext C: what both directions say that are given one
module _ (start : Start) (key : length start.key ≡ (row_of start.set).key) (A C tag : List ℕ) where
  -- what is sealed for a text
  abbrev sealing : List ℕ → Sealed
  sealing P = sealed (row_of start.set) start.key start.nonce A P

  -- the ciphertext's decryption
  abbrev D : List ℕ
  D = (decrypted (row_of start.set) start.key start.nonce A C).out

  -- a finish that compares says yes to the tag of the decryption, and to no other
  right_tag : (d : Direction) → gives_tag d ≡ false → (finish_answer d (row_of start.set) (sealing D).tag tag ≡ Done) ↔ (tag ≡ (sealing D).tag)
  unfolding sealed
  right_tag d compares =
      yes_tag d compares start.set (sealing D).tag tag
      (length_tag (row_of start.set) (row_fits start.set) start.key key (encrypted (row_of start.set) start.key start.nonce A D).state)

  -- then the ciphertext and the tag are the decryption's sealing
  seals_back : tag ≡ (sealing D).tag → sealing D ≡ record { cipher = C; tag = tag }
  seals_back = seal_decrypted (row_of start.set) (row_fits start.set) start.key key start.nonce A C tag

  -- and where they are some text's, that is the decryption, and the tag is its
  text_is : (P : List ℕ) → sealing P ≡ record { cipher = C; tag = tag } → D ≡ P
  text_is P = only_text (row_of start.set) (row_fits start.set) start.key key start.nonce A P C tag

  tag_is : (P : List ℕ) → sealing P ≡ record { cipher = C; tag = tag } → tag ≡ (sealing D).tag
  tag_is P = only_tag (row_of start.set) (row_fits start.set) start.key key start.nonce A P C tag

-- checking, by what holds in any direction
pub checks_whole : (start : Start) → length start.key ≡ (row_of start.set).key → (A C : List ℕ) (h : History) (tag : List ℕ)
    → Whole ours (start_towards Checking start) A C h tag → CheckedWhole ours start A C h tag
checks_whole start k A C h tag w =
    let right = right_tag start k A C tag Checking refl in
    record {
      yes = (
        λ y. (D start k A C tag, seals_back start k A C tag (right.0 (sym w.answer ∙ y))),
        λ z. w.answer ∙ right.1 (tag_is start k A C tag z.0 z.1),
      );
      rounds = w.rounds;
    }

checks : (start : Start) (A C : List ℕ) (calls : List Call) (tag : List ℕ) → start.direction ≡ Checking → Message ours start A C calls
    → CheckedWhole ours start A C (after ours (begun ours start) calls) tag
checks start A C calls tag x m = checks_whole start (key start m.started) A C _ tag (whole_in Checking start A C calls tag x m)

-- opening, by the same
pub opens_whole : (start : Start) → length start.key ≡ (row_of start.set).key → (A C : List ℕ) (h : History) (tag : List ℕ)
    → Whole ours (start_towards Opening start) A C h tag → OpenedWhole ours start A C h tag
opens_whole start k A C h tag w =
    let right = right_tag start k A C tag Opening refl in
    let tag_of : List ℕ → List ℕ = λ P. (sealing start k A C tag P).tag in
    record {
      unverified = w.out;
      yes = (
        λ y. right.0 (sym w.answer ∙ y) ∙ ap tag_of (sym w.out),
        λ z. w.answer ∙ right.1 (z ∙ ap tag_of w.out),
      );
      plaintext = λ P. (
        λ (y, e). ap (sealing start k A C tag) (sym e ∙ w.out) ∙ seals_back start k A C tag (right.0 (sym w.answer ∙ y)),
        λ z. (w.answer ∙ right.1 (tag_is start k A C tag P z), w.out ∙ text_is start k A C tag P z),
      );
      rounds = w.rounds;
      over = w.over;
    }

opens : (start : Start) (A C : List ℕ) (calls : List Call) (tag : List ℕ) → start.direction ≡ Opening → Message ours start A C calls
    → OpenedWhole ours start A C (after ours (begun ours start) calls) tag
opens start A C calls tag x m = opens_whole start (key start m.started) A C _ tag (whole_in Opening start A C calls tag x m)

-- the demand
pub cutting_does_not_matter : CuttingDoesNotMatter ours
cutting_does_not_matter =
    record {
      whole = λ start A T calls tag m. whole start A T calls m tag;
      seals = seals;
      checks = checks;
      opens = opens;
      states = λ start begins calls other b c phase ad text.
          let h = after ours (begun ours start) calls in
          let k = after ours (begun ours start) other in
          (history_law start begins calls b).state
          ∙ ap (λ (x : Phase). state_at start x h.ad h.text) phase
          ∙ ap₂ (λ (x y : List ℕ). state_at start k.stream.phase x y) ad text
          ∙ sym (history_law start begins other c).state;
    }

-- the decryption of a beginning is the beginning of the decryption
decrypted_first : (row : ParameterSet) → Fits row → (K : List ℕ) → length K ≡ row.key → (N A C rest : List ℕ)
    → (decrypted row K N A C).out ≡ take (length C) (decrypted row K N A (C ++ rest)).out
decrypted_first row fits K key N A C rest =
    let S = before_text row K N A in
    let by_bytes : (X : List ℕ) → (decrypted row K N A X).out ≡ outs row.block (p row.between) opening (at S 0) X =
    λ X. ap (λ (w : Processed). w.out) (decrypted_view row fits K key N A X) in
    let one = outs row.block (p row.between) opening (at S 0) C in
    by_bytes C
    ∙ sym (take_at one _ (length C) (length_outs row.block (p row.between) opening (at S 0) C))
    ∙ ap (take (length C)) (sym (outs_append row.block (p row.between) opening (at S 0) C rest) ∙ sym (by_bytes (C ++ rest)))

-- where ciphertext and tag are some text's sealing, the decryption of its beginning is the beginning of that text
pub first_plaintext : (start : Start) → length start.key ≡ (row_of start.set).key → (A C rest tag P : List ℕ)
    → sealed (row_of start.set) start.key start.nonce A P ≡ record { cipher = C ++ rest; tag = tag }
    → (decrypted (row_of start.set) start.key start.nonce A C).out ≡ take (length C) P
first_plaintext start k A C rest tag P e =
    decrypted_first (row_of start.set) (row_fits start.set) start.key k start.nonce A C rest ∙ ap (take (length C)) (text_is start k A (C ++ rest) tag P e)

-- the second walk agrees with the first
pub walks_agree : WalksAgree ours
unfolding state_at
walks_agree =
    record {
      finishes = λ start A C calls other tag m o.
          let w = whole (start_towards Checking start) A C calls m tag in
          let v = whole (start_towards Opening start) A C other o tag in
          (w.answer ∙ sym v.answer, λ e. w.rounds e ∙ sym (v.rounds e));
      after_yes = λ start A C rest calls other tag m o said.
          let k = key (start_towards Checking start) m.started in
          let found = (checks (start_towards Checking start) A (C ++ rest) calls tag refl m).yes.0 said in (
            found.0,
            found.1,
            (whole (start_towards Opening start) A C other o tag).out ∙ first_plaintext start k A C rest tag found.0 found.1,
          );
      states = λ start begins begins' calls other b c phase ad text.
          let h = after ours (begun ours (start_towards Checking start)) calls in
          let k = after ours (begun ours (start_towards Opening start)) other in
          ap (stream_towards Opening) (history_law (start_towards Checking start) begins calls b).state
          ∙ same_walk start h.stream.phase h.ad h.text
          ∙ ap (λ (x : Phase). stream_towards Opening (state_at (start_towards Opening start) x h.ad h.text)) phase
          ∙ ap₂ (λ (x y : List ℕ). stream_towards Opening (state_at (start_towards Opening start) k.stream.phase x y)) ad text
          ∙ ap (stream_towards Opening) (sym (history_law (start_towards Opening start) begins' other c).state);
    }
  where
    -- the state of each walk, but for its direction
    same_walk : (start : Start) (phase : Phase) (A T : List ℕ)
        → stream_towards Opening (state_at (start_towards Checking start) phase A T) ≡ stream_towards Opening (state_at (start_towards Opening start) phase A T)
    same_walk start Ad A T = refl
    same_walk start Text A T = refl
    same_walk start Ended A T = refl

-- the demand of before is its case of the largest limit
pub cutting_before : (m : Streams) → CuttingDoesNotMatter m → CuttingBefore m
cutting_before m cutting =
    record {
      seals = λ start A P calls tag largest sealing message size. cutting.seals start A P calls tag sealing (own start A P calls largest message) size;
      checks = λ start A C calls tag largest checking message. cutting.checks start A C calls tag checking (own start A C calls largest message);
    }
  where
    own : (start : Start) (A T : List ℕ) (calls : List Call) → start.limit ≡ text_limit → MessageWithin m text_limit start A T calls → Message m start A T calls
    own start A T calls largest message = subst (λ (limit : ℕ). MessageWithin m limit start A T calls) (sym largest) message
