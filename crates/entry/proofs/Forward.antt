-- The entry of a record is read as this record.
use mathlib.Core.Path.{◌≡◌, refl, sym, ap, ◌∙◌, subst}
use mathlib.Core.Bool.{true}
use mathlib.Core.Logic.{inr}
use mathlib.Core.List.{List, ◌++◌}
use Prim.Native.Nat.{ℕ, zero, suc, ◌+◌, ◌-◌, ◌*◌, ◌≤◌, ◌<◌}
use native.Mathlib.Omega.{arith}
use lib.Dec.{eqb}
use lib.ListN.{length, take, drop, length-append}
use lib.Seq.{take_at, drop_at}
use borrow.Author.Tests.{eqb-true, not-false}
use Rattle.ascon.specs.Sets.{row_of}
use Rattle.ascon.specs.Rounds.{message_rounds}
use Rattle.digits.specs.declared.hex.Case.TheVariants.{Upper}
use Rattle.digits.specs.Hex.{hex_in}
use Rattle.digits.specs.Room.{line_of}
use Rattle.digits.proofs.Spelling.{and_both, length_hex, hex_append}
use Rattle.lines.specs.declared.kinds.Value.TheVariants.{Bytes}
use Rattle.lines.specs.Right.{Spells, Right}
use Rattle.lines.specs.Texts.{text_from}
use Rattle.lines.proofs.Texts.{Next, lines_rows}
use Rattle.lines.proofs.Values.{value_in_lem}
use Rattle.record.specs.declared.form.Form.TheVariants.{One}
use Rattle.record.specs.declared.form.Record.{Record}
use Rattle.record.specs.Form.{held, is_field, value_kind, keeps}
use Rattle.record.specs.Laws.{Spellable}
use Rattle.record.proofs.Fields.{bytes_append, bytes_take, held_most, held_length}
use Rattle.record.proofs.Lines.{field_spells, field_read}
use Rattle.record.proofs.InForm.{Shared, shared_keeps, in_form}
use Rattle.entry.specs.Form as form
use Rattle.entry.specs.Form.{largest_number, kind_at, bytes_at, line_text}
use Rattle.entry.specs.Calls.{field_in, with_line, begun, rounded, given}
use Rattle.entry.proofs.Table.{right_at, EntryRows, name_is, fit_kind}

-- what holds of the lines 1 to 7, one by one, holds of each
each_line : (P : ℕ → Type 0) → P 1 → P 2 → P 3 → P 4 → P 5 → P 6 → P 7 → (line : ℕ) → 1 ≤ line → line ≤ 7 → P line
each_line P a b c d e f g zero l m = absurd (omega arith)
each_line P a b c d e f g (suc zero) l m = a
each_line P a b c d e f g (suc (suc zero)) l m = b
each_line P a b c d e f g (suc (suc (suc zero))) l m = c
each_line P a b c d e f g (suc (suc (suc (suc zero)))) l m = d
each_line P a b c d e f g (suc (suc (suc (suc (suc zero))))) l m = e
each_line P a b c d e f g (suc (suc (suc (suc (suc (suc zero)))))) l m = f
each_line P a b c d e f g (suc (suc (suc (suc (suc (suc (suc zero))))))) l m = g
each_line P a b c d e f g (suc (suc (suc (suc (suc (suc (suc (suc n)))))))) l m = absurd (omega arith)

-- the record of the set with the first k lines of an entry
abbrev pub filled : Record → ℕ → Record
filled r zero = begun r.set
filled r (suc k) = with_line (1 + k) (filled r k) (hex_in Upper (bytes_at (1 + k) r))

module _ (r : Record) (s : Spellable One r) where
  -- each part keeps its rule
  rule : (part : ℕ) → Shared part → keeps part r ≡ true
  rule = shared_keeps One r s.in_form

  -- the ciphertext has at most 256 bytes
  cipher_few : length (held r.cipher) ≤ 256
  unfolding keeps value_kind
  cipher_few = held_most r.cipher (and_both (is_field r.cipher) _ (rule 8 (inr (omega arith, omega arith)))).0

  -- and the tag as many as a key
  tag_size : length (held r.tag) ≡ (row_of r.set).key
  unfolding keeps value_kind
  tag_size =
      (held_length r.tag (and_both (is_field r.tag) _ (rule 9 (inr (omega arith, omega arith)))).0 s.typed.tag.places).0
      ∙ (in_form One r s.in_form).tag

  -- one behind the other they are what CT may hold
  cipher_tag : Spells (Bytes (row_of r.set).key ((row_of r.set).key + 256) Upper) 0 (hex_in Upper (held r.cipher ++ held r.tag))
  cipher_tag =
      let c : List ℕ = held r.cipher in
      let t : List ℕ = held r.tag in (
        refl,
        c ++ t,
        bytes_append c t (bytes_take r.cipher.size r.cipher.bytes s.typed.cipher.bytes) (bytes_take r.tag.size r.tag.bytes s.typed.tag.bytes),
        omega (arith, length-append c t, tag_size),
        omega (arith, length-append c t, cipher_few, tag_size),
        refl,
      )

  -- each line spells what it may hold
  line_spells : (line : ℕ) → 1 ≤ line → line ≤ 7 → Spells (form.value_kind (row_of r.set).key line) 0 (hex_in Upper (bytes_at line r))
  unfolding form.value_kind bytes_at keeps value_kind
  line_spells =
      each_line (λ (line : ℕ). Spells (form.value_kind (row_of r.set).key line) 0 (hex_in Upper (bytes_at line r)))
      (refl, refl)
      (field_spells Upper r.key _ _ s.typed.key (rule 4 (inr (omega arith, omega arith))))
      (field_spells Upper r.nonce _ _ s.typed.nonce (rule 5 (inr (omega arith, omega arith))))
      (field_spells Upper r.text _ _ s.typed.text (rule 7 (inr (omega arith, omega arith))))
      (field_spells Upper r.ad _ _ s.typed.ad (rule 6 (inr (omega arith, omega arith))))
      cipher_tag
      (refl, refl)

  -- the ciphertext's digits are those before the tag's
  cut : length (hex_in Upper (held r.cipher ++ held r.tag)) - 2 * (row_of r.set).key ≡ length (hex_in Upper (held r.cipher))
  cut =
      let c : List ℕ = held r.cipher in
      let t : List ℕ = held r.tag in
      omega (arith, length_hex Upper (c ++ t), length_hex Upper c, length-append c t, tag_size)

  -- all lines give the record, but for its rounds
  pub filled_all : rounded (filled r 7) ≡ rounded r
  unfolding keeps value_kind with_line begun rounded bytes_at
  filled_all =
      let parts = hex_append Upper (held r.cipher) (held r.tag) in
      let digits : List ℕ = hex_in Upper (held r.cipher ++ held r.tag) in
      let size : length (hex_in Upper (held r.cipher)) ≡ length digits - 2 * (row_of r.set).key = sym cut in
      let none : r.chip ≡ 0 = eqb-true r.chip 0 (not-false (eqb r.chip 0) s.kept) in
      let key : field_in (hex_in Upper (held r.key)) ≡ r.key = field_read Upper r.key _ (rule 4 (inr (omega arith, omega arith))) s.typed.key in
      let nonce : field_in (hex_in Upper (held r.nonce)) ≡ r.nonce = field_read Upper r.nonce _ (rule 5 (inr (omega arith, omega arith))) s.typed.nonce in
      let ad : field_in (hex_in Upper (held r.ad)) ≡ r.ad = field_read Upper r.ad _ (rule 6 (inr (omega arith, omega arith))) s.typed.ad in
      let text : field_in (hex_in Upper (held r.text)) ≡ r.text = field_read Upper r.text _ (rule 7 (inr (omega arith, omega arith))) s.typed.text in
      let cipher : field_in (take (length digits - 2 * (row_of r.set).key) digits) ≡ r.cipher =
      ap field_in (ap (take (length digits - 2 * (row_of r.set).key)) parts ∙ take_at (hex_in Upper (held r.cipher)) (hex_in Upper (held r.tag)) _ size)
      ∙ field_read Upper r.cipher _ (rule 8 (inr (omega arith, omega arith))) s.typed.cipher in
      let tag : field_in (drop (length digits - 2 * (row_of r.set).key) digits) ≡ r.tag =
      ap field_in (ap (drop (length digits - 2 * (row_of r.set).key)) parts ∙ drop_at (hex_in Upper (held r.cipher)) (hex_in Upper (held r.tag)) _ size)
      ∙ field_read Upper r.tag _ (rule 9 (inr (omega arith, omega arith))) s.typed.tag in
      λ j. record {
        set = r.set;
        chip = sym none j;
        key = key j;
        nonce = nonce j;
        ad = ad j;
        text = text j;
        cipher = cipher j;
        tag = tag j;
        rounds = message_rounds (row_of r.set) (ad j).size (text j).size;
      }

  -- a line of the entry is right
  line_right : (number : ℕ) → number ≤ largest_number → (line : ℕ) → 1 ≤ line → line ≤ 7
      → Right (kind_at r.set number line) (line_text number line r) 0
  unfolding kind_at line_text
  line_right number h line l m =
      record {
        value = hex_in Upper (bytes_at line r);
        spelled = line_spells line l m;
        whole = ap (λ (x : List ℕ). line_of x (hex_in Upper (bytes_at line r))) (sym (name_is number h r.set line));
      }

  -- behind the first k lines the next is right, and they give the record with it
  next : (number : ℕ) → number ≤ largest_number → (k : ℕ) → k < 7
      → Next (right_at r.set number) (given r.set number) (begun r.set) (line_text number) r (filled r) k
  unfolding given line_right
  next number h k few =
      let right = line_right number h (1 + k) (omega arith) (omega arith) in
      let value = value_in_lem (kind_at r.set number (1 + k)) (line_text number (1 + k) r) 0 (fit_kind number h r.set (1 + k)) right in
      record { says = 0; right = right; gives = ap (with_line (1 + k) (filled r k)) (sym value) }

  -- the first k lines of the entry are right in the record's set, and give the record so far
  pub rows_text : (set number : ℕ) → r.set ≡ set → number ≤ largest_number → (k : ℕ) → k ≤ 7 → EntryRows set number k (text_from (line_text number) k 1 r) (filled r k)
  rows_text set number e h k m =
      subst (λ (n : ℕ). EntryRows n number k (text_from (line_text number) k 1 r) (filled r k)) e
      (lines_rows (right_at r.set number) (given r.set number) (begun r.set) (line_text number) r 7 (filled r) refl (next number h) k m)
