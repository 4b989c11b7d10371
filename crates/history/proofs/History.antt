-- The history law, in every direction: while a stream is not ended, its state is a function of the start, the phase, the joined data and the joined text; the
-- joined output is the published one; the rounds add up.
use mathlib.Core.Path.{◌≡◌, refl, sym, ap, ap₂, ◌∙◌, subst}
use mathlib.Core.Bool.{Bool, true, false, cond, false≢true, and-eq-true_iff}
use mathlib.Core.List.{List, [], ◌∷◌, ◌++◌, append-nil}
use Prim.Native.Nat.{ℕ, ◌+◌, ◌-◌, ◌*◌, ◌/◌, ◌%◌, ◌≤◌}
use native.Mathlib.Nat.{add-zero, mod-eq_of_lt, zero-div, mul-zero}
use native.Mathlib.Omega.{arith}
use lib.ListN.{length, length-append}
use Rattle.answers.specs.Numbers.{is_done}
use Rattle.permutation.specs.Runs.{rounds_of}
use Rattle.permutation.specs.Strings.{Bytes, words_of_string, zeros}
use Rattle.permutation.proofs.Strings.{bytes_append, bytes_none}
use Rattle.ascon.specs.Sets.{ParameterSet, row_of, ad_limit}
use Rattle.ascon.specs.Mode.{p, Processed, initialise, before_text, sealed}
use Rattle.ascon.specs.Bytewise.{At, at, outs}
use Rattle.ascon.proofs.Sealing.{Fits}
use Rattle.sponge.specs.declared.Way.{Way}
use Rattle.sponge.specs.declared.Way.TheVariants.{Seal, Open}
use Rattle.sponge.specs.Sponge.{keep_of, absorbed, given}
use Rattle.sets.proofs.Rows.{row_fits}
use Rattle.stream.specs.declared.Direction.{Direction}
use Rattle.stream.specs.declared.Direction.TheVariants.{Sealing, Checking, Opening}
use Rattle.stream.specs.declared.Phase.{Phase}
use Rattle.stream.specs.declared.Phase.TheVariants.{Ad, Text, Ended}
use Rattle.stream.specs.declared.Stream.{Stream}
use Rattle.stream.specs.State.{is_direction, way_of, gives_text, is_ad, is_open, ended}
use Rattle.stream.specs.Calls.{filled_rounds, closing_rounds, limited_start_test, piece_test, Start, start_call, took_ad, text_words, took_text}
use Rattle.stream.proofs.Tests.{one_direction, LimitedStartPassed, limited_start_passed, piece_passed, text_passed, finish_passed}
use Rattle.history.specs.History.{ours, Call, give_ad, give_text, finish, reply, ad_of, text_of, out_of, History, begun, next, after, BytesIn, Started, state_at, rounds_at, published_out, Told, HistoryLaw, Limited}
use Rattle.sponge.proofs.Fronts.{stood, absorbed_more, given_more, l₀, b₀, closed_is, l₁, b₁, processed_view}
use Rattle.history.proofs.Rounds.{rounds_ad, rounds_text}
use Rattle.history.proofs.Replies.{test_of, done_of, reply_done, out_given, next_is, next_refused, unfit_piece, shut_ad}

-- a start that answers done passed its tests
start_tested : (start : Start) → is_done (start_call start).answer ≡ true → is_done (limited_start_test start.set (length start.key) (length start.nonce) start.limit) ≡ true
unfolding start_call
start_tested start e = go (is_done (limited_start_test start.set (length start.key) (length start.nonce) start.limit)) refl
  where
    go : (t : Bool) → is_done (limited_start_test start.set (length start.key) (length start.nonce) start.limit) ≡ t → t ≡ true
    go true f = refl
    go false f = let no : is_done (start_call start).answer ≡ false = rw f f in absurd (false≢true (sym no ∙ e))

-- no bytes, whichever is chosen
no_bytes : (t : Bool) → cond {A = List ℕ} t [] [] ≡ []
no_bytes true = refl
no_bytes false = refl

-- bytes within a limit
pub record Bounded (x : List ℕ) (limit : ℕ) : Type 0 where
  pub bytes : Bytes x
  pub within : length x ≤ limit

-- none of them
bounded_none : (limit : ℕ) → Bounded [] limit
bounded_none limit = record { bytes = bytes_none; within = omega arith }

-- a piece more
bounded_more : (x piece : List ℕ) (limit : ℕ) → Bounded x limit → Bytes piece → length x + length piece ≤ limit → Bounded (x ++ piece) limit
bounded_more x piece limit h b l = record { bytes = bytes_append h.bytes b; within = rw (length-append x piece) l }

module _ (start : Start) (begins : Started ours start) where
  abbrev direction : Direction
  direction = start.direction

  abbrev set : ℕ
  set = start.set

  abbrev limit : ℕ
  limit = start.limit

  abbrev K : List ℕ
  K = start.key

  abbrev N : List ℕ
  N = start.nonce

  abbrev pub row : ParameterSet
  row = row_of set

  pub fit : Fits row
  fit = row_fits set

  pub passed : LimitedStartPassed set (length K) (length N) limit
  passed = limited_start_passed set (length K) (length N) limit (start_tested start begins.done)

  pub key : length K ≡ row.key
  key = passed.start.key_fits

  -- the state at the start
  pub start_state : (start_call start).next ≡ state_at start Ad [] []
  unfolding start_call state_at
  start_state =
      let none : 0 ≡ 0 % row.block = sym (mod-eq_of_lt fit.some_block) in
      rw (start_tested start begins.done)
      (λ j. record {
        words = words_of_string (initialise row K N);
        set = set;
        direction = direction;
        phase = Ad;
        key = K ++ zeros (16 - length K);
        ad = 0;
        text = 0;
        place = none j;
        limit = limit;
      })

  start_rounds : (start_call start).rounds ≡ 12
  unfolding start_call
  start_rounds = rw (start_tested start begins.done)

  -- ---- the state moves on

  abbrev pub way : Way
  way = way_of direction

  abbrev pub S₁ : List ℕ → List ℕ
  S₁ A = before_text row K N A

  -- the state and the place after the data and some text
  abbrev pub stood_at : List ℕ → List ℕ → At
  stood_at A T = stood row fit way (S₁ A) (l₁ row fit K N key begins.key_bytes A) (b₁ row fit K N key begins.key_bytes A) T

  -- what that text gave out, where the direction has an output
  abbrev out_at : List ℕ → List ℕ → List ℕ
  out_at A T = cond (gives_text direction) (outs row.block (p row.between) (keep_of way) (at (S₁ A) 0) T) []

  -- an empty text gave out nothing
  nothing_out : (A : List ℕ) → out_at A [] ≡ []
  nothing_out A = no_bytes (gives_text direction)

  -- a piece of data
  ad_moves : (A piece : List ℕ) → Bytes A → (took_ad (state_at start Ad A []) piece).next ≡ state_at start Ad (A ++ piece) []
  unfolding state_at
  ad_moves A piece h =
      let n : length A + length piece ≡ length (A ++ piece) = sym (length-append A piece) in
      λ j. record {
        words = absorbed_more row fit Seal (initialise row K N) (l₀ row fit K N key begins.key_bytes) (b₀ row fit K N key begins.key_bytes) A piece h j;
        set = set;
        direction = direction;
        phase = Ad;
        key = K ++ zeros (16 - length K);
        ad = n j;
        text = 0;
        place = n j % row.block;
        limit = limit;
      }

  -- a piece of text, from either phase
  text_moves : (s : Stream) (A T piece : List ℕ) → Bytes T → s.set ≡ set → s.direction ≡ direction → s.key ≡ K ++ zeros (16 - length K) → s.ad ≡ length A → s.text ≡ length T → s.limit ≡ limit
      → text_words s ≡ words_of_string (stood_at A T).state
      → (took_text s (absorbed (row_of s.set) way (text_words s) s.text piece) (length piece)).next ≡ state_at start Text A (T ++ piece)
  unfolding took_text state_at
  text_moves s A T piece h es ed ek ea et el ew =
      let n : s.text + length piece ≡ length (T ++ piece) = ap (λ (k : ℕ). k + length piece) et ∙ sym (length-append T piece) in
      let words : absorbed (row_of s.set) way (text_words s) s.text piece ≡ words_of_string (stood_at A (T ++ piece)).state =
      ap (λ (k : ℕ). absorbed (row_of k) way (text_words s) s.text piece) es
      ∙ ap₂ (λ (w : List ℕ) (k : ℕ). absorbed row way w k piece) ew et
      ∙ absorbed_more row fit way (S₁ A) (l₁ row fit K N key begins.key_bytes A) (b₁ row fit K N key begins.key_bytes A) T piece h in
      λ j. record {
        words = words j;
        set = es j;
        direction = ed j;
        phase = Text;
        key = ek j;
        ad = ea j;
        text = n j;
        place = n j % (row_of (es j)).block;
        limit = el j;
      }

  -- the words at the text, from the data phase and in the text phase
  words_from_ad : (A : List ℕ) → Bytes A → text_words (state_at start Ad A []) ≡ words_of_string (S₁ A)
  unfolding text_words state_at
  words_from_ad A h = closed_is row fit K N key begins.key_bytes A h

  words_in_text : (A T : List ℕ) → text_words (state_at start Text A T) ≡ words_of_string (stood_at A T).state
  unfolding text_words state_at
  words_in_text A T = refl

  -- ---- what every history comes to

  pub data Reached (h : History) : Type 0 where
    in_ad : h.stream ≡ state_at start Ad h.ad [] → h.text ≡ [] → h.out ≡ [] → h.rounds ≡ rounds_at row Ad (length h.ad) 0
        → Bounded h.ad ad_limit → Reached h
    in_text : h.stream ≡ state_at start Text h.ad h.text → h.out ≡ out_at h.ad h.text
        → h.rounds ≡ rounds_at row Text (length h.ad) (length h.text) → Bounded h.ad ad_limit → Bounded h.text limit → Reached h
    over : h.stream ≡ ended → Bounded h.ad ad_limit → Bounded h.text limit → Reached h

  -- the ended state is not open
  shut : {s : Stream} → s ≡ ended → is_open s.phase ≡ false
  shut e = ap (λ (x : Stream). is_open x.phase) e

  -- what is reached by a history is reached by one equal to it
  moved : (h g : History) → h ≡ g → Reached g → Reached h
  moved h g e r = subst (λ (x : History). Reached x) (sym e) r

  -- a failed test
  refused_stays : (h : History) (call : Call) → is_done (test_of h.stream call) ≡ false → Reached h → Reached (next ours h call)
  refused_stays h call f r = moved (next ours h call) h (next_refused h call f) r

  -- ---- a stream that can take text

  pub record Ready (h : History) : Type 0 where
    pub set_is : h.stream.set ≡ set
    pub direction_is : h.stream.direction ≡ direction
    pub key_is : h.stream.key ≡ K ++ zeros (16 - length K)
    pub ad_is : h.stream.ad ≡ length h.ad
    pub text_is : h.stream.text ≡ length h.text
    pub limit_is : h.stream.limit ≡ limit
    pub words_is : text_words h.stream ≡ words_of_string (stood_at h.ad h.text).state
    pub rounds_is : h.rounds + closing_rounds h.stream ≡ rounds_at row Text (length h.ad) (length h.text)
    pub out_is : h.out ≡ out_at h.ad h.text
    pub ad_bounded : Bounded h.ad ad_limit
    pub text_bounded : Bounded h.text limit

  -- the closing of the data, where the text is empty
  closing_first : (A : List ℕ) → rounds_at row Ad (length A) 0 + closing_rounds (state_at start Ad A []) ≡ rounds_at row Text (length A) 0
  unfolding rounds_at closing_rounds state_at
  closing_first A =
      let b : ℕ = rounds_of row.between in
      let none : b * (0 / row.block) ≡ 0 = ap (λ (k : ℕ). b * k) (zero-div row.block) ∙ mul-zero b in
      omega arith

  -- no data is closed in the text phase
  closing_none : (A T : List ℕ) → closing_rounds (state_at start Text A T) ≡ 0
  unfolding closing_rounds state_at
  closing_none A T = refl

  open_in_ad : (h : History) → h.stream ≡ state_at start Ad h.ad [] → h.text ≡ [] → h.out ≡ [] → h.rounds ≡ rounds_at row Ad (length h.ad) 0
      → Bounded h.ad ad_limit → Ready h
  unfolding state_at
  open_in_ad h es et eo er ab =
      let words : List ℕ → List ℕ = λ T. words_of_string (stood_at h.ad T).state in
      record {
        set_is = ap (λ (s : Stream). s.set) es;
        direction_is = ap (λ (s : Stream). s.direction) es;
        key_is = ap (λ (s : Stream). s.key) es;
        ad_is = ap (λ (s : Stream). s.ad) es;
        text_is = ap (λ (s : Stream). s.text) es ∙ ap length (sym et);
        limit_is = ap (λ (s : Stream). s.limit) es;
        words_is = ap text_words es ∙ words_from_ad h.ad ab.bytes ∙ ap words (sym et);
        rounds_is =
            ap₂ (λ (n k : ℕ). n + k) er (ap closing_rounds es) ∙ closing_first h.ad
            ∙ ap (λ (T : List ℕ). rounds_at row Text (length h.ad) (length T)) (sym et);
        out_is = eo ∙ sym (nothing_out h.ad) ∙ ap (λ (T : List ℕ). out_at h.ad T) (sym et);
        ad_bounded = ab;
        text_bounded = rw et (bounded_none limit);
      }

  open_in_text : (h : History) → h.stream ≡ state_at start Text h.ad h.text → h.out ≡ out_at h.ad h.text
      → h.rounds ≡ rounds_at row Text (length h.ad) (length h.text) → Bounded h.ad ad_limit → Bounded h.text limit → Ready h
  unfolding state_at
  open_in_text h es eo er ab tb =
      record {
        set_is = ap (λ (s : Stream). s.set) es;
        direction_is = ap (λ (s : Stream). s.direction) es;
        key_is = ap (λ (s : Stream). s.key) es;
        ad_is = ap (λ (s : Stream). s.ad) es;
        text_is = ap (λ (s : Stream). s.text) es;
        limit_is = ap (λ (s : Stream). s.limit) es;
        words_is = ap text_words es ∙ words_in_text h.ad h.text;
        rounds_is = ap (λ (n : ℕ). h.rounds + n) (ap closing_rounds es ∙ closing_none h.ad h.text) ∙ add-zero h.rounds ∙ er;
        out_is = eo;
        ad_bounded = ab;
        text_bounded = tb;
      }

  pub ready : (h : History) → Reached h → is_open h.stream.phase ≡ true → Ready h
  ready h (in_ad es et eo er ab) o = open_in_ad h es et eo er ab
  ready h (in_text es eo er ab tb) o = open_in_text h es eo er ab tb
  ready h (over e ab tb) o = absurd (false≢true (sym (shut e) ∙ o))

  -- the rounds and the output of a piece of text
  text_rounds : (h : History) (piece : List ℕ) → Ready h
      → h.rounds + (closing_rounds h.stream + filled_rounds (row_of h.stream.set) h.stream.text (length piece)) ≡ rounds_at row Text (length h.ad) (length (h.text ++ piece))
  text_rounds h piece o =
      let f : filled_rounds (row_of h.stream.set) h.stream.text (length piece) ≡ filled_rounds row (length h.text) (length piece) =
      ap₂ (λ (k m : ℕ). filled_rounds (row_of k) m (length piece)) o.set_is o.text_is in
      let so_far : h.rounds + closing_rounds h.stream ≡ rounds_at row Text (length h.ad) (length h.text) = o.rounds_is in
      let more = rounds_text row fit.some_block (length h.ad) (length h.text) (length piece) in
      let sum : h.rounds + (closing_rounds h.stream + filled_rounds (row_of h.stream.set) h.stream.text (length piece)) ≡ rounds_at row Text (length h.ad) (length h.text + length piece) = omega arith in
      sum ∙ ap (λ (n : ℕ). rounds_at row Text (length h.ad) n) (sym (length-append h.text piece))

  text_out : (h : History) (call : Call) (piece : List ℕ) → Ready h
      → out_of ours h.stream call ≡ cond (gives_text direction) (given (row_of h.stream.set) way (text_words h.stream) h.stream.text piece) []
      → h.out ++ out_of ours h.stream call ≡ out_at h.ad (h.text ++ piece)
  text_out h call piece o e = ap₂ (λ (y z : List ℕ). y ++ z) o.out_is e ∙ go (gives_text direction)
    where
      -- what a text gives out from the start
      before : List ℕ → List ℕ
      before T = outs row.block (p row.between) (keep_of way) (at (S₁ h.ad) 0) T

      go : (t : Bool) → cond t (before h.text) [] ++ cond t (given (row_of h.stream.set) way (text_words h.stream) h.stream.text piece) [] ≡ cond t (before (h.text ++ piece)) []
      go true =
          ap (λ (z : List ℕ). before h.text ++ z)
          (ap (λ (k : ℕ). given (row_of k) way (text_words h.stream) h.stream.text piece) o.set_is
          ∙ ap₂ (λ (w : List ℕ) (k : ℕ). given row way w k piece) o.words_is o.text_is)
          ∙ given_more row fit way (S₁ h.ad) (l₁ row fit K N key begins.key_bytes h.ad) (b₁ row fit K N key begins.key_bytes h.ad) h.text piece o.text_bounded.bytes
      go false = refl

  -- a piece of text that is taken
  takes_text : (h : History) (call : Call) (piece : List ℕ) → Ready h → Bytes piece → h.stream.text + length piece ≤ h.stream.limit → ad_of call ≡ [] → text_of call ≡ piece
      → reply ours h.stream call ≡ took_text h.stream (absorbed (row_of h.stream.set) way (text_words h.stream) h.stream.text piece) (length piece)
      → out_of ours h.stream call ≡ cond (gives_text direction) (given (row_of h.stream.set) way (text_words h.stream) h.stream.text piece) []
      → Reached (next ours h call)
  unfolding took_text
  takes_text h call piece o pb w ea et er eo =
      let s : Stream = h.stream in
      let A : List ℕ = h.ad in
      let T : List ℕ = h.text in
      let f : ℕ = filled_rounds (row_of s.set) s.text (length piece) in
      let g : History = record { stream = state_at start Text A (T ++ piece); ad = A; text = T ++ piece; out = h.out ++ out_of ours s call; rounds = h.rounds + (closing_rounds s + f) } in
      let to : next ours h call ≡ g =
      next_is h call _ true er refl
      ∙ (λ j. record {
        stream = text_moves s A T piece o.text_bounded.bytes o.set_is o.direction_is o.key_is o.ad_is o.text_is o.limit_is o.words_is j;
        ad = (ap (λ (x : List ℕ). A ++ x) ea ∙ append-nil A) j;
        text = T ++ et j;
        out = h.out ++ out_of ours s call;
        rounds = h.rounds + (closing_rounds s + f);
      }) in
      moved (next ours h call) g to
      (in_text refl (text_out h call piece o eo) (text_rounds h piece o) o.ad_bounded (bounded_more T piece limit o.text_bounded pb (rw (← o.text_is, ← o.limit_is) w)))

  -- ---- one call more

  -- a piece of data in the data phase
  takes_ad : (h : History) (piece : List ℕ) → h.stream ≡ state_at start Ad h.ad [] → h.text ≡ [] → h.out ≡ []
      → h.rounds ≡ rounds_at row Ad (length h.ad) 0 → Bounded h.ad ad_limit → Bytes piece
      → is_done (piece_test h.stream (is_ad h.stream.phase) h.stream.ad (length piece) ad_limit) ≡ true → Reached (next ours h (give_ad piece))
  unfolding state_at
  takes_ad h piece es et eo er ab pb t =
      let A : List ℕ = h.ad in
      let f : filled_rounds (row_of h.stream.set) h.stream.ad (length piece) ≡ filled_rounds row (length A) (length piece) =
      ap (λ (s : Stream). filled_rounds (row_of s.set) s.ad (length piece)) es in
      let g : History = record { stream = state_at start Ad (A ++ piece) []; ad = A ++ piece; text = []; out = []; rounds = h.rounds + filled_rounds row (length A) (length piece) } in
      let to : next ours h (give_ad piece) ≡ g =
      next_is h (give_ad piece) (took_ad h.stream piece) true (reply_done h.stream (give_ad piece) t) refl
      ∙ (λ j. record {
        stream = (ap (λ (s : Stream). (took_ad s piece).next) es ∙ ad_moves A piece ab.bytes) j;
        ad = A ++ piece;
        text = (append-nil h.text ∙ et) j;
        out = (append-nil h.out ∙ eo) j;
        rounds = h.rounds + f j;
      }) in
      let rounds : h.rounds + filled_rounds row (length A) (length piece) ≡ rounds_at row Ad (length (A ++ piece)) 0 =
      ap (λ (n : ℕ). n + filled_rounds row (length A) (length piece)) er ∙ rounds_ad row fit.some_block (length A) (length piece)
      ∙ ap (λ (n : ℕ). rounds_at row Ad n 0) (sym (length-append A piece)) in
      let within : length A + length piece ≤ ad_limit =
      rw (← ap (λ (s : Stream). s.ad) es) (piece_passed h.stream (is_ad h.stream.phase) h.stream.ad (length piece) ad_limit t).within in
      moved (next ours h (give_ad piece)) g to (in_ad refl refl refl rounds (bounded_more A piece ad_limit ab pb within))

  -- data after the data phase is refused
  refuses_ad : (h : History) (piece : List ℕ) → is_ad h.stream.phase ≡ false → Reached h → Reached (next ours h (give_ad piece))
  refuses_ad h piece e r = let s : Stream = h.stream in refused_stays h (give_ad piece) (unfit_piece s (is_ad s.phase) s.ad (length piece) ad_limit e) r

  -- a piece of text whose test is passed is one for the stream's direction
  takes_passed : (h : History) (d : Direction) (piece out : List ℕ) → Bytes piece → Reached h → is_done (test_of h.stream (give_text d piece out)) ≡ true
      → Reached (next ours h (give_text d piece out))
  takes_passed h d piece out pb r e =
      let s : Stream = h.stream in
      let ok = (text_passed d s (length piece) (length out) e).piece in
      let fit-both = (and-eq-true_iff (is_open s.phase) (is_direction d s.direction)).0 ok.in_phase in
      let o = ready h r fit-both.0 in
      let same-d : d ≡ direction = one_direction d s.direction fit-both.1 ∙ o.direction_is in
      takes_text h (give_text d piece out) piece o pb ok.within refl refl
      (reply_done s (give_text d piece out) e
      ∙ ap (λ (x : Direction). took_text s (absorbed (row_of s.set) (way_of x) (text_words s) s.text piece) (length piece)) same-d)
      (out_given d s piece out e
      ∙ ap (λ (x : Direction). cond (gives_text x) (given (row_of s.set) (way_of x) (text_words s) s.text piece) []) same-d)

  -- a finish whose test is passed ends the stream, and takes nothing
  ends : (h : History) (d : Direction) (tag : List ℕ) → Reached h → is_done (test_of h.stream (finish d tag)) ≡ true → Reached (next ours h (finish d tag))
  ends h d tag r e =
      let s : Stream = h.stream in
      let o = ready h r ((and-eq-true_iff (is_open s.phase) (is_direction d s.direction)).0 (finish_passed d s (length tag) e).in_phase).0 in
      let done : Bool = is_done (done_of s (finish d tag)).answer in
      let to = next_is h (finish d tag) _ done (reply_done s (finish d tag) e) refl in
      let same-ad : (next ours h (finish d tag)).ad ≡ h.ad = ap (λ (g : History). g.ad) to ∙ nothing h.ad done in
      let same_text : (next ours h (finish d tag)).text ≡ h.text = ap (λ (g : History). g.text) to ∙ nothing h.text done in
      over (ap (λ (g : History). g.stream) to)
      (subst (λ (x : List ℕ). Bounded x ad_limit) (sym same-ad) o.ad_bounded)
      (subst (λ (x : List ℕ). Bounded x limit) (sym same_text) o.text_bounded)
    where
      nothing : (x : List ℕ) (b : Bool) → x ++ cond b [] [] ≡ x
      nothing x b = ap (λ (y : List ℕ). x ++ y) (no_bytes b) ∙ append-nil x

  -- no data, no rounds but the start's
  rounds_none : 12 ≡ rounds_at row Ad 0 0
  unfolding rounds_at
  rounds_none =
      let b : ℕ = rounds_of row.between in
      let none : b * (0 / row.block) ≡ 0 = ap (λ (k : ℕ). b * k) (zero-div row.block) ∙ mul-zero b in
      omega arith

  -- a call whose test is passed
  passes : (h : History) (call : Call) → Bytes (ad_of call) → Bytes (text_of call) → Reached h → is_done (test_of h.stream call) ≡ true → Reached (next ours h call)
  unfolding state_at
  passes h (give_ad piece) pb tb (in_ad es et eo er ab) e = takes_ad h piece es et eo er ab pb e
  passes h (give_ad piece) pb tb (in_text es eo er ab tt') e = refuses_ad h piece (ap (λ (s : Stream). is_ad s.phase) es) (in_text es eo er ab tt')
  passes h (give_ad piece) pb tb (over end ab tt') e = refuses_ad h piece (shut_ad h.stream.phase (shut end)) (over end ab tt')
  passes h (give_text d piece out) pb tb r e = takes_passed h d piece out tb r e
  passes h (finish d tag) pb tb r e = ends h d tag r e

  pub advance : (h : History) (call : Call) → Bytes (ad_of call) → Bytes (text_of call) → Reached h → Reached (next ours h call)
  advance h call pb tb r = go (is_done (test_of h.stream call)) refl
    where
      go : (t : Bool) → is_done (test_of h.stream call) ≡ t → Reached (next ours h call)
      go true e = passes h call pb tb r e
      go false e = refused_stays h call e r

  -- any list of calls
  reach : (calls : List Call) → BytesIn calls → (h : History) → Reached h → Reached (after ours h calls)
  reach [] b h r = r
  reach (call ∷ calls) b h r = reach calls b.2 (next ours h call) (advance h call b.0 b.1 r)

  -- from the start
  pub reached : (calls : List Call) → BytesIn calls → Reached (after ours (begun ours start) calls)
  reached calls b = reach calls b (begun ours start) (in_ad start_state refl refl (start_rounds ∙ rounds_none) (bounded_none ad_limit))

  -- what a text gave out is published, in each direction
  out_published : (d : Direction) (A T : List ℕ) → cond (gives_text d) (outs row.block (p row.between) (keep_of (way_of d)) (at (S₁ A) 0) T) [] ≡ published_out d row K N A T
  unfolding sealed
  out_published Sealing A T = ap (λ (w : Processed). w.out) (processed_view row fit K N key begins.key_bytes A Seal T)
  out_published Checking A T = refl
  out_published Opening A T = ap (λ (w : Processed). w.out) (processed_view row fit K N key begins.key_bytes A Open T)

  -- what is reached is told
  pub told : (h : History) → Reached h → Told start h
  unfolding state_at
  told h (in_ad es et eo er ab) =
      let e : h.stream.phase ≡ Ad = ap (λ (s : Stream). s.phase) es in
      record {
        state = es ∙ ap₂ (λ (phase : Phase) (T : List ℕ). state_at start phase h.ad T) (sym e) (sym et);
        out = λ o. eo ∙ sym (nothing_out h.ad) ∙ ap (λ (T : List ℕ). out_at h.ad T) (sym et) ∙ out_published direction h.ad h.text;
        rounds = λ o. er ∙ ap₂ (λ (phase : Phase) (n : ℕ). rounds_at row phase (length h.ad) n) (sym e) (ap length (sym et));
        within = (ab.within, rw et (omega arith));
      }
  told h (in_text es eo er ab tb) =
      let e : h.stream.phase ≡ Text = ap (λ (s : Stream). s.phase) es in
      record {
        state = es ∙ ap (λ (phase : Phase). state_at start phase h.ad h.text) (sym e);
        out = λ o. eo ∙ out_published direction h.ad h.text;
        rounds = λ o. er ∙ ap (λ (phase : Phase). rounds_at row phase (length h.ad) (length h.text)) (sym e);
        within = (ab.within, tb.within);
      }
  told h (over e ab tb) =
      let phase : h.stream.phase ≡ Ended = ap (λ (s : Stream). s.phase) e in
      record {
        state = e ∙ ap (λ (x : Phase). state_at start x h.ad h.text) (sym phase);
        out = λ o. absurd (false≢true (sym (shut e) ∙ o));
        rounds = λ o. absurd (false≢true (sym (shut e) ∙ o));
        within = (ab.within, tb.within);
      }

pub history_law : HistoryLaw ours
history_law start begins calls b = told start begins (after ours (begun ours start) calls) (reached start begins calls b)

pub limited : Limited ours
limited start begins calls b =
    let h : History = after ours (begun ours start) calls in
    let open_still : is_open h.stream.phase ≡ true → Ready start begins h = ready start begins h (reached start begins calls b) in
    let bounds = (history_law start begins calls b).within in
    record {
      ad_within = bounds.0;
      text_within = bounds.1;
      ad = λ o. (open_still o).ad_is;
      text = λ o. (open_still o).text_is;
      limit = λ o. (open_still o).limit_is;
    }
