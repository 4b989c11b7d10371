-- What a call of our stream wrote into a place of zeros, as a field.
use mathlib.Core.Path.{◌≡◌, refl, sym, ap, ◌∙◌}
use mathlib.Core.Bool.{Bool, true, false, cond, false≢true}
use mathlib.Core.List.{List, [], ◌++◌}
use Prim.Native.Nat.{ℕ, ◌-◌, ◌≤◌}
use native.Mathlib.Omega.{arith}
use Rattle.std.proofs.lemmas.List.{take-replicate}
use lib.ListN.{length, drop, length-append, length-drop, length-replicate, take-append-drop}
use Rattle.answers.specs.Numbers.{is_done}
use Rattle.permutation.specs.Strings.{zeros}
use Rattle.permutation.proofs.Strings.{drop_zeros}
use Rattle.record.specs.Form.{field_of}
use Rattle.ascon.specs.Sets.{row_of}
use Rattle.ascon.specs.Mode.{p}
use Rattle.ascon.specs.Bytewise.{sealing}
use Rattle.ascon.proofs.Bytewise.{length_outs}
use Rattle.sets.proofs.Rows.{row_fits, row_sizes}
use Rattle.sponge.specs.declared.Way.TheVariants.{Seal}
use Rattle.sponge.specs.Sponge.{front_of, given}
use Rattle.sponge.proofs.Ends.{tag_length}
use Rattle.stream.specs.declared.Direction.TheVariants.{Sealing}
use Rattle.stream.specs.declared.Outcome.{Outcome}
use Rattle.stream.specs.declared.Stream.{Stream}
use Rattle.stream.specs.Calls.{Called, called, text_test, finish_test, text_words, took_text, text_call, finish_call}
use Rattle.replay.specs.declared.feeding.Given.{Given}
use Rattle.replay.specs.Feeding.{written, in_places}

-- a call on a place of n zeros: it fills the place where it is done, and leaves it where it is not
pub record Fills (c : Called) (n : ℕ) : Type 0 where
  pub done : is_done c.outcome.answer ≡ true → length c.lent ≡ n
  pub refused : is_done c.outcome.answer ≡ false → c.lent ≡ zeros n

-- the first n of 256 places that a call wrote
abbrev placed : Called → ℕ → Given
placed c n =
    record {
      answer = c.outcome.answer;
      out = record { bytes = c.lent ++ drop n (zeros 256); size = cond (is_done c.outcome.answer) n 0 };
      rounds = c.outcome.rounds;
      next = c.outcome.next;
    }

-- they are its output as a field
pub written_places : (o : Outcome) (lent : List ℕ) (c : Called) (n : ℕ) → n ≤ 256 → Fills c n → called o lent ≡ c → placed (called o lent) n ≡ in_places (written c)
unfolding field_of
written_places o lent c n h f e = ap (λ (k : Called). placed k n) e ∙ go (is_done c.outcome.answer) refl
  where
    -- the field of an output
    given : Bool → Given
    given t =
        record {
          answer = c.outcome.answer;
          out = field_of (cond t c.lent []);
          rounds = c.outcome.rounds;
          next = c.outcome.next;
        }

    go : (t : Bool) → is_done c.outcome.answer ≡ t → placed c n ≡ in_places (written c)
    go true d =
        let size : length c.lent ≡ n = f.done d in
        let bytes : c.lent ++ drop n (zeros 256) ≡ c.lent ++ zeros (256 - length c.lent) =
        ap (λ (x : List ℕ). c.lent ++ x) (drop_zeros n 256 ∙ ap (λ (k : ℕ). zeros (256 - k)) (sym size)) in
        let counted : cond (is_done c.outcome.answer) n 0 ≡ length c.lent = ap (λ (t : Bool). cond t n 0) d ∙ sym size in
        (λ j. record {
          answer = c.outcome.answer;
          out = record { bytes = bytes j; size = counted j };
          rounds = c.outcome.rounds;
          next = c.outcome.next;
        })
        ∙ ap given (sym d)
    go false d =
        let bytes : c.lent ++ drop n (zeros 256) ≡ zeros 256 =
        ap (λ (x : List ℕ). x ++ drop n (zeros 256)) (f.refused d ∙ sym (take-replicate n 256 0 h)) ∙ take-append-drop n (zeros 256) in
        let counted : cond (is_done c.outcome.answer) n 0 ≡ 0 = ap (λ (t : Bool). cond t n 0) d in
        (λ j. record {
          answer = c.outcome.answer;
          out = record { bytes = bytes j; size = counted j };
          rounds = c.outcome.rounds;
          next = c.outcome.next;
        })
        ∙ ap given (sym d)

-- of two calls the one fills the place and the other leaves it, and a test tells which
chosen_fills : (t : Bool) (one other : Called) (n : ℕ) → is_done one.outcome.answer ≡ true → length one.lent ≡ n
    → (t ≡ false → is_done other.outcome.answer ≡ false) → other.lent ≡ zeros n → Fills (cond t one other) n
chosen_fills true one other n d full r left = record { done = λ e. full; refused = λ e. absurd (false≢true (sym e ∙ d)) }
chosen_fills false one other n d full r left = record { done = λ e. absurd (false≢true (sym (r refl) ∙ e)); refused = λ e. left }

-- a piece of the text fills its place
pub text_fills : (s : Stream) (piece : List ℕ) → Fills (text_call Sealing s piece (zeros (length piece))) (length piece)
unfolding text_call took_text given
text_fills s piece =
    let row = row_of s.set in
    let n = length piece in
    let out = given row Seal (text_words s) s.text piece in
    let own : length out ≡ n = length_outs row.block (p row.between) sealing (front_of row (text_words s) s.text) piece in
    let room : length (zeros n) ≡ n = length-replicate n 0 in
    chosen_fills (is_done (text_test Sealing s n (length (zeros n)))) _ _ n refl
    (omega (arith, length-append out (drop n (zeros n)), own, length-drop n (zeros n), room))
    (λ e. e)
    refl

-- and so does a finish
pub finish_fills : (s : Stream) → length s.key ≡ 16 → Fills (finish_call Sealing s (zeros (row_of s.set).key)) (row_of s.set).key
unfolding finish_call
finish_fills s h =
    let row = row_of s.set in
    chosen_fills (is_done (finish_test Sealing s (length (zeros row.key)))) _ _ row.key refl
    (tag_length row (row_sizes s.set) (row_fits s.set) (text_words s) s.key s.text h)
    (λ e. e)
    refl
