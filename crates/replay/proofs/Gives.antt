-- What our stream gives for a call of a log fits an entry.
use mathlib.Core.Path.{◌≡◌, refl}
use mathlib.Core.Bool.{Bool, true, false, cond}
use mathlib.Core.List.{List, [], ◌∷◌, ◌++◌}
use Prim.Native.Nat.{ℕ, ◌-◌, ◌≤◌}
use native.Mathlib.Omega.{arith}
use lib.Dec.{ltb, lit≤}
use lib.ListN.{length, take, drop, length-append, length-take, length-drop, length-replicate}
use lib.Pow.{are_bytes}
use borrow.Author.Tests.{ltb-true, lt-ltb}
use Rattle.answers.specs.declared.Answer.{Answer}
use Rattle.answers.specs.declared.Answer.TheVariants.{Done}
use Rattle.answers.specs.Numbers.{is_done}
use Rattle.answers.proofs.Numbers.{number_small}
use Rattle.ascon.specs.Sets.{ParameterSet, row_of, ad_limit}
use Rattle.ascon.specs.Mode.{p}
use Rattle.ascon.specs.Bytewise.{sealing}
use Rattle.ascon.proofs.Bytewise.{length_outs, bytes_outs}
use Rattle.ascon.proofs.Sealing.{bytes_p}
use Rattle.digits.proofs.Spelling.{and_both}
use Rattle.chip_log.specs.declared.form.Call.{Call}
use Rattle.chip_log.specs.declared.form.Call.TheVariants.{Start1, Start2, Ad, Text, Finish}
use Rattle.chip_log.specs.declared.form.Entry.{Entry}
use Rattle.chip_log.specs.Form.{data_kind}
use Rattle.chip_log.specs.Laws.{InForm}
use Rattle.chip_log.proofs.Table.{data_field}
use Rattle.permutation.specs.Strings.{Bytes, zeros, string_of_words}
use Rattle.permutation.proofs.Strings.{bytes_none, bytes_cons, bytes_tail, bytes_append, bytes_take, bytes_drop, bytes_zeros, bytes_bytes}
use Rattle.record.specs.Form.{field_of, is_field, allows}
use Rattle.record.proofs.Fields.{whole_field, held_field, held_most, field_most}
use Rattle.record.proofs.Lines.{field_allowed}
use Rattle.sets.proofs.Rows.{row_fits, row_sizes}
use Rattle.sponge.specs.declared.Way.TheVariants.{Seal}
use Rattle.sponge.specs.Sponge.{absorbed, front_of, given}
use Rattle.sponge.proofs.Ends.{Sixteen, tag_length, tag_bytes}
use Rattle.stream.specs.declared.Direction.TheVariants.{Sealing}
use Rattle.stream.specs.declared.Outcome.{Outcome}
use Rattle.stream.specs.declared.Stream.{Stream}
use Rattle.stream.specs.State.{is_ad, ended}
use Rattle.stream.specs.Calls.{refused, decided, called, limited_start_test, piece_test, text_test, finish_test, filled_rounds, Start, start_call, took_ad, ad_call, text_words, took_text, text_call, own_tag, finished_with, finish_call}
use Rattle.stream.proofs.Tests.{rounds_bound, closing_bound, piece_passed, text_passed, within_largest}
use Rattle.replay.specs.Feeding.{Gives, silent, written, start_of, started, sealed_piece, finished, fed}
use Rattle.replay.specs.Laws.{Asked, answer_to, entry_of}

-- ---- bytes

-- a string of bytes passes the test for bytes
bytes_pass : (x : List ℕ) → Bytes x → are_bytes x ≡ true
bytes_pass [] b = refl
bytes_pass (a ∷ x) b = rw (lt-ltb a 256 (b.at 0)) (bytes_pass x (bytes_tail b))

-- and what passes it is one
pass_bytes : (x : List ℕ) → are_bytes x ≡ true → Bytes x
pass_bytes [] e = bytes_none
pass_bytes (a ∷ x) e =
    let t = and_both (ltb a 256) (are_bytes x) e in
    bytes_cons (ltb-true a 256 t.0) (pass_bytes x t.1)

-- the string of words is bytes
string_bytes : (words : List ℕ) → Bytes (string_of_words words)
string_bytes [] = bytes_none
string_bytes (w ∷ words) = bytes_append (bytes_bytes 8 w) (string_bytes words)

-- ---- what a call gives

-- few rounds, and a key of sixteen bytes in the next state
record Kept (outcome : Outcome) : Type 0 where
  rounds : outcome.rounds ≤ 9_999_999
  key : Sixteen outcome.next.key

-- the same of what a call gives, and an output of at most 256 bytes
record Fit (g : Gives) : Type 0 where
  most : length g.out ≤ 256
  bytes : are_bytes g.out ≡ true
  rounds : g.rounds ≤ 9_999_999
  key : Sixteen g.next.key

-- the ended state has such a key
pub ended_key : Sixteen ended.key
ended_key = record { size = refl; bytes = bytes_zeros 16 }

-- a call without an output
silent_fit : {outcome : Outcome} → Kept outcome → Fit (silent outcome)
silent_fit k = record { most = lit≤ tt; bytes = refl; rounds = k.rounds; key = k.key }

-- a call that is done where its test is passed, and keeps the state where it is not
decided_kept : (answer : Answer) (s : Stream) (done : Outcome) → Sixteen s.key → (is_done answer ≡ true → Kept done) → Kept (decided answer s done)
decided_kept answer s done key passed = go (is_done answer) refl
  where
    go : (t : Bool) → is_done answer ≡ t → Kept (cond t done (refused answer s))
    go true e = passed e
    go false e = record { rounds = lit≤ tt; key = key }

-- a start with a key that has at most sixteen bytes
start_kept : (start : Start) → length start.key ≤ 16 → Bytes start.key → Kept (start_call start)
unfolding start_call
start_kept start few bytes =
    let l = length-append start.key (zeros (16 - length start.key)) in
    let z = length-replicate {A = ℕ} (16 - length start.key) 0 in
    decided_kept (limited_start_test start.set (length start.key) (length start.nonce) start.limit) ended _ ended_key
    (λ passed. record { rounds = lit≤ tt; key = record { size = omega arith; bytes = bytes_append bytes (bytes_zeros (16 - length start.key)) } })

-- a start
start_fit : (set : ℕ) (input : List ℕ) → are_bytes input ≡ true → Fit (started set input)
unfolding started
start_fit set input e =
    let few : length (take (row_of set).key input) ≤ 16 = omega (arith, length-take (row_of set).key input, (row_sizes set).key) in
    silent_fit (start_kept (start_of set input) few (bytes_take (row_of set).key (pass_bytes input e)))

-- a piece of the associated data
ad_fit : (s : Stream) (input : List ℕ) → Sixteen s.key → Fit (silent (ad_call s input))
unfolding ad_call
ad_fit s input key =
    silent_fit (decided_kept answer s (took_ad s input) key (λ passed. record { rounds = few passed; key = key }))
  where
    answer : Answer
    answer = piece_test s (is_ad s.phase) s.ad (length input) ad_limit

    few : is_done answer ≡ true → filled_rounds (row_of s.set) s.ad (length input) ≤ 9_999_999
    few passed =
        let within = (piece_passed s (is_ad s.phase) s.ad (length input) ad_limit passed).within in
        omega (arith, rounds_bound (row_of s.set) (row_sizes s.set) s.ad (length input) (omega arith))

-- what goes out of a piece is as long as the piece, and bytes
given_fit : (row : ParameterSet) (words : List ℕ) (n : ℕ) (input : List ℕ) → are_bytes input ≡ true
    → let out = given row Seal words n input in (length out ≡ length input) × Bytes out
unfolding given
given_fit row words n input e =
    let front = front_of row words n in (
      length_outs row.block (p row.between) sealing front input,
      bytes_outs row.block (p row.between) (bytes_p row.between) sealing (λ c g x y. y) front input (string_bytes words) (pass_bytes input e),
    )

-- a piece of the text
text_fit : (s : Stream) (input : List ℕ) → Sixteen s.key → are_bytes input ≡ true → length input ≤ 256 → Fit (sealed_piece s input)
unfolding sealed_piece text_call took_text
text_fit s input key e short = go (is_done answer) refl
  where
    row : ParameterSet
    row = row_of s.set

    room : List ℕ
    room = zeros (length input)

    answer : Answer
    answer = text_test Sealing s (length input) (length room)

    sealed : List ℕ
    sealed = given row Seal (text_words s) s.text input

    done : Outcome
    done = took_text s (absorbed row Seal (text_words s) s.text input) (length input)

    go : (t : Bool) → is_done answer ≡ t → Fit (written (cond t (called done (sealed ++ drop (length input) room)) (called (refused answer s) room)))
    go true passed =
        let out : List ℕ = sealed ++ drop (length input) room in
        let own = given_fit row (text_words s) s.text input e in
        let size : length sealed ≡ length input = own.0 in
        let l = length-append sealed (drop (length input) room) in
        let d = length-drop (length input) room in
        let z = length-replicate {A = ℕ} (length input) 0 in
        let within = within_largest Sealing s (length input) (length room) (text_passed Sealing s (length input) (length room) passed) in
        let few = rounds_bound row (row_sizes s.set) s.text (length input) within in
        record {
          most = omega arith;
          bytes = bytes_pass out (bytes_append own.1 (bytes_drop (length input) (bytes_zeros (length input))));
          rounds = omega (arith, closing_bound s);
          key = key;
        }
    go false failed = rw failed (record { most = lit≤ tt; bytes = refl; rounds = lit≤ tt; key = key })

-- the finish
finish_fit : (s : Stream) → Sixteen s.key → Fit (finished s)
unfolding finished finish_call
finish_fit s key = go (is_done answer) refl
  where
    row : ParameterSet
    row = row_of s.set

    room : List ℕ
    room = zeros row.key

    answer : Answer
    answer = finish_test Sealing s (length room)

    go : (t : Bool) → is_done answer ≡ t → Fit (written (cond t (called (finished_with Done s) (own_tag s)) (called (refused answer s) room)))
    go true passed =
        let size : length (own_tag s) ≡ row.key = tag_length row (row_sizes s.set) (row_fits s.set) (text_words s) s.key s.text key.size in
        let bytes : Bytes (own_tag s) = tag_bytes row (row_sizes s.set) (row_fits s.set) (text_words s) s.key s.text key in
        let most : row.key ≤ 16 = (row_sizes s.set).key in
        record { most = omega arith; bytes = bytes_pass (own_tag s) bytes; rounds = omega (arith, closing_bound s); key = ended_key }
    go false failed = rw failed (record { most = lit≤ tt; bytes = refl; rounds = lit≤ tt; key = key })

-- a call of the log
fed_fit : (s : Stream) (call : Call) (input : List ℕ) → Sixteen s.key → are_bytes input ≡ true → length input ≤ 256 → Fit (fed s call input)
fed_fit s Start1 input key e short = start_fit 1 input e
fed_fit s Start2 input key e short = start_fit 2 input e
fed_fit s Ad input key e short = ad_fit s input key
fed_fit s Text input key e short = text_fit s input key e short
fed_fit s Finish input key e short = finish_fit s key

-- ---- the entry that says so

-- what a call may be handed has at most 256 bytes
input_short : (call : Call) (input : List ℕ) → allows (data_kind call) 0 (field_of input) ≡ true → length input ≤ 256
input_short call input e =
    let f : is_field (field_of input) ≡ true = data_field call (field_of input) e in
    rw held_field at (held_most (field_of input) f)

-- and so is the input of an entry in form
pub input_inside : (e : Entry) → InForm e → e.input.size ≤ 256
input_inside e h = field_most e.input (data_field e.call e.input h.input)

-- the entry of what our stream gives is in form, and the key in the next state has sixteen bytes again
pub entry_fits : (s : Stream) (a : Asked) → Sixteen s.key → are_bytes a.input ≡ true → allows (data_kind a.call) 0 (field_of a.input) ≡ true
    → InForm (entry_of s a) × Sixteen (answer_to s a).next.key
unfolding entry_of
entry_fits s a key e allowed =
    let short = input_short a.call a.input allowed in
    let fit = fed_fit s a.call a.input key e short in
    let out : List ℕ = (answer_to s a).out in (
      record {
        input = allowed;
        answer = omega (arith, number_small (answer_to s a).answer);
        out = field_allowed out 0 256 (omega arith) (omega arith) fit.most;
        rounds = fit.rounds;
        input_bytes = whole_field a.input short e;
        out_bytes = whole_field out fit.most fit.bytes;
      },
      fit.key,
    )
