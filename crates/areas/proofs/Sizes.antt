-- Every state that calls on a started stream come to has the sizes of an area.
use mathlib.Core.Path.{◌≡◌, refl, sym, ◌∙◌, subst}
use mathlib.Core.List.{List, [], ◌++◌}
use Prim.Native.Nat.{ℕ, zero, suc, ◌-◌, ◌^◌, ◌≤◌, ◌<◌}
use native.Mathlib.Nat.{mod-le}
use native.Mathlib.Omega.{arith}
use lib.Dec.{lit<}
use lib.ListN.{length, get_or, length-append, length-replicate}
use Rattle.permutation.specs.Strings.{Bytes, zeros, state_of, words_of_string}
use Rattle.permutation.proofs.Strings.{bytes_append, bytes_zeros}
use Rattle.ascon.specs.Sets.{row_of, ad_limit, text_limit}
use Rattle.ascon.specs.Mode.{p}
use Rattle.ascon.specs.Bytewise.{at}
use Rattle.ascon.proofs.Bytewise.{length_steps, bytes_steps}
use Rattle.ascon.proofs.Sealing.{length_p, bytes_p}
use Rattle.sponge.specs.declared.Way.{Way}
use Rattle.sponge.specs.declared.Way.TheVariants.{Seal}
use Rattle.sponge.specs.Sponge.{keep_of}
use Rattle.sponge.proofs.Fronts.{keep_byte, stood, l₀, b₀, l₁, b₁}
use Rattle.sets.proofs.Rows.{row_sizes, one_digit}
use Rattle.stream.specs.declared.Phase.TheVariants.{Ad, Text}
use Rattle.stream.specs.State.{way_of, ended}
use Rattle.stream.specs.Calls.{Start}
use Rattle.history.specs.History.{ours, History, Started, state_at}
use Rattle.history.proofs.History.{Bounded, Reached, Reached.in_ad, Reached.in_text, Reached.over, fit, key, passed}
use Rattle.gateway.specs.Laws.{Sized}
use Rattle.gateway.proofs.OneToOne.{number_small}

-- the words of 40 bytes are words
words_small : (S : List ℕ) → Bytes S → length S ≡ 40 → (i : ℕ) → get_or (words_of_string S) i 0 < 2 ^ 64
unfolding state_of
words_small S b l zero = number_small S b 0 (omega (arith, l))
words_small S b l (suc zero) = number_small S b 8 (omega (arith, l))
words_small S b l (suc (suc zero)) = number_small S b 16 (omega (arith, l))
words_small S b l (suc (suc (suc zero))) = number_small S b 24 (omega (arith, l))
words_small S b l (suc (suc (suc (suc zero)))) = number_small S b 32 (omega (arith, l))
words_small S b l (suc (suc (suc (suc (suc i))))) = lit< tt

-- the ended state
pub ended_sized : Sized ended
ended_sized =
    record {
      five = refl;
      words = λ i. omega (arith, (bytes_zeros 5).at i);
      sixteen = refl;
      key = bytes_zeros 16;
      set = lit< tt;
      ad = lit< tt;
      text = lit< tt;
      place = lit< tt;
      limit = lit< tt;
    }

module _ (start : Start) (begins : Started ours start) where
  -- the key in its sixteen bytes
  sixteen : length (start.key ++ zeros (16 - length start.key)) ≡ 16
  sixteen =
      length-append start.key (zeros (16 - length start.key))
      ∙ omega (arith, length-replicate {A = ℕ} (16 - length start.key) 0, key start begins, (row_sizes start.set).key)

  -- after some bytes, the words are words
  stood_small : (way : Way) (S : List ℕ) (l : length S ≡ 40) (b : Bytes S) (m : List ℕ) → Bytes m
      → (i : ℕ) → get_or (words_of_string (stood (row_of start.set) (fit start begins) way S l b m).state) i 0 < 2 ^ 64
  stood_small way S l b m h =
      let row = row_of start.set in
      words_small (stood row (fit start begins) way S l b m).state
      (bytes_steps row.block (p row.between) (bytes_p row.between) (keep_of way) (keep_byte way) (at S 0) m b h)
      (length_steps row.block (p row.between) (keep_of way) 40 (length_p row.between) (at S 0) m l)

  -- in the data phase
  ad_sized : (A : List ℕ) → Bounded A ad_limit → Sized (state_at start Ad A [])
  unfolding state_at
  ad_sized A a =
      let row = row_of start.set in
      let K = start.key in
      let N = start.nonce in
      let f = fit start begins in
      let k = key start begins in
      let kb = begins.key_bytes in
      record {
        five = refl;
        words = stood_small Seal _ (l₀ row f K N k kb) (b₀ row f K N k kb) A a.bytes;
        sixteen = sixteen;
        key = bytes_append kb (bytes_zeros (16 - length K));
        set = omega (arith, one_digit start.set (passed start begins).start.known);
        ad = omega (arith, a.within);
        text = lit< tt;
        place = omega (arith, a.within, mod-le (length A) row.block);
        limit = omega (arith, (passed start begins).within);
      }

  -- in the text phase
  text_sized : (A T : List ℕ) → Bounded A ad_limit → Bounded T start.limit → Sized (state_at start Text A T)
  unfolding state_at
  text_sized A T a t =
      let row = row_of start.set in
      let K = start.key in
      let N = start.nonce in
      let f = fit start begins in
      let k = key start begins in
      let kb = begins.key_bytes in
      let largest : start.limit ≤ text_limit = (passed start begins).within in
      record {
        five = refl;
        words = stood_small (way_of start.direction) _ (l₁ row f K N k kb A) (b₁ row f K N k kb A) T t.bytes;
        sixteen = sixteen;
        key = bytes_append kb (bytes_zeros (16 - length K));
        set = omega (arith, one_digit start.set (passed start begins).start.known);
        ad = omega (arith, a.within);
        text = omega (arith, t.within, largest);
        place = omega (arith, t.within, largest, mod-le (length T) row.block);
        limit = omega (arith, largest);
      }

  -- what any calls come to
  pub reached_sized : (h : History) → Reached start begins h → Sized h.stream
  reached_sized h (in_ad es et eo er ab) = subst Sized (sym es) (ad_sized h.ad ab)
  reached_sized h (in_text es eo er ab tb) = subst Sized (sym es) (text_sized h.ad h.text ab tb)
  reached_sized h (over e ab tb) = subst Sized (sym e) ended_sized
