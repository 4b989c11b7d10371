-- Five right lines are the text of an entry in form.
use mathlib.Core.Path.{◌≡◌, refl, sym, ap, ◌∙◌}
use mathlib.Core.List.{List}
use Prim.Native.Nat.{ℕ, ◌≤◌}
use native.Mathlib.Omega.{arith}
use Rattle.digits.specs.declared.hex.Case.TheVariants.{Lower}
use Rattle.digits.specs.Ascii.{ascii}
use Rattle.digits.specs.Hex.{hex_in}
use Rattle.digits.specs.Numbers.{numeral}
use Rattle.digits.specs.Room.{line_of}
use Rattle.lines.specs.declared.kinds.Value.TheVariants.{Number, Bytes}
use Rattle.lines.specs.Right.{Spells, Right}
use Rattle.lines.specs.Texts.{text_from}
use Rattle.lines.proofs.Texts.{rows_lines}
use Rattle.lines.proofs.Values.{BytesLine, bytes_line_lem}
use Rattle.record.specs.Form.{field_of}
use Rattle.record.proofs.Fields.{whole_field, held_field}
use Rattle.record.proofs.Lines.{field_allowed}
use Rattle.chip_log.specs.declared.form.Call.{Call}
use Rattle.chip_log.specs.declared.form.Entry.{Entry}
use Rattle.chip_log.specs.Form.{word_of, name, value_kind, kind_at, call_kind, line_text, blank}
use Rattle.chip_log.specs.Calls.{call_of, given}
use Rattle.chip_log.specs.Laws.{InForm}
use Rattle.chip_log.proofs.Table.{FirstLine, right_at, EntryRows, first_call, data_bytes, name_is, call_is}
use Rattle.chip_log.proofs.Forward.{call_told}

-- ---- a line

-- a first line is the word of the call that its number tells
word_line : (x : List ℕ) (says : ℕ) → FirstLine x says → x ≡ line_of (ascii "call=") (word_of (call_of says))
unfolding call_kind line_of
word_line x says l =
    let (call, right) = first_call x says l in
    let told : call_of says ≡ call = ap call_of right.spelled.0 ∙ call_told call in
    right.whole ∙ (λ j. line_of (call_is call j) (right.spelled.1 j)) ∙ ap (λ (c : Call). line_of (ascii "call=") (word_of c)) (sym told)

-- a line of a number of at most seven digits
number_line_lem : (call : Call) (line : ℕ) (x : List ℕ) (says : ℕ) → value_kind call line ≡ Number 0 9_999_999 → Right (kind_at call line) x says
    → (says ≤ 9_999_999) × (x ≡ line_of (name line) (numeral says))
unfolding kind_at
number_line_lem call line x says e right =
    let s : Spells (Number 0 9_999_999) says right.value = rw e at right.spelled in
    (s.1, right.whole ∙ (λ j. line_of (name_is call line j) (s.2 j)))

-- a line of bytes, at least and at most so many
line_bytes : (call : Call) (line least most : ℕ) (x : List ℕ) (says : ℕ) → value_kind call line ≡ Bytes least most Lower → Right (kind_at call line) x says
    → BytesLine (name line) least most Lower x
unfolding kind_at
line_bytes call line least most x says e right = bytes_line_lem (kind_at call line) (name line) least most Lower (name_is call line) e right

-- ---- five lines

-- what the first line gives has the call that its number tells
first_gives : (x : List ℕ) (e : Entry) → (rows : EntryRows 1 x e) → e.call ≡ call_of rows.says
unfolding given
first_gives x e rows = ap (λ (g : Entry). g.call) rows.gives

-- five right lines are the text of an entry in form
pub rows_entry : (x : List ℕ) (e : Entry) → EntryRows 5 x e → (c : Entry) × InForm c × (x ≡ text_from line_text 5 1 c)
unfolding line_text
rows_entry x e r5 =
    let r4 = r5.rows in
    let r3 = r4.rows in
    let r2 = r3.rows in
    let r1 = r2.rows in
    let call : Call = r2.gave.call in
    let told : call ≡ call_of r1.says = first_gives _ _ r1 in
    let d = data_bytes call in
    let input = line_bytes call 2 d.least d.most r2.line r2.says d.is r2.right in
    let answer = number_line_lem _ 3 r3.line r3.says refl r3.right in
    let out = line_bytes _ 4 0 256 r4.line r4.says refl r4.right in
    let rounds = number_line_lem _ 5 r5.line r5.says refl r5.right in
    let c : Entry = record { call = call; input = field_of input.bytes; answer = r3.says; out = field_of out.bytes; rounds = r5.says } in
    let in_form : InForm c =
    record {
      input = rw d.is (field_allowed input.bytes d.least d.most d.few input.at_least input.at_most);
      answer = answer.0;
      out = field_allowed out.bytes 0 256 (omega arith) out.at_least out.at_most;
      rounds = rounds.0;
      input_bytes = whole_field input.bytes (omega (arith, input.at_most, d.few)) input.are;
      out_bytes = whole_field out.bytes out.at_most out.are;
    } in
    let one_more = rows_lines right_at given blank line_text c in
    let t1 = one_more 0 _ _ r1 r1.rows.0 (word_line r1.line r1.says r1.right ∙ ap (λ (k : Call). line_of (ascii "call=") (word_of k)) (sym told)) in
    let t2 = one_more 1 _ _ r2 t1 (input.whole ∙ ap (λ (b : List ℕ). line_of (name 2) (hex_in Lower b)) (sym (held_field input.bytes))) in
    let t3 = one_more 2 _ _ r3 t2 answer.1 in
    let t4 = one_more 3 _ _ r4 t3 (out.whole ∙ ap (λ (b : List ℕ). line_of (name 4) (hex_in Lower b)) (sym (held_field out.bytes))) in
    (c, in_form, one_more 4 x e r5 t4 rounds.1)
