-- Seven right lines are the entry of a record.
use mathlib.Core.Path.{◌≡◌, refl, sym, ap, ◌∙◌}
use mathlib.Core.Bool.{Bool, true, false, cond}
use mathlib.Core.List.{List, [], ◌++◌}
use Prim.Native.Nat.{ℕ, ◌+◌, ◌-◌, ◌*◌, ◌/◌, ◌≤◌}
use native.Mathlib.Nat.{div-le_self, mul-le-mul_right}
use native.Mathlib.Omega.{arith}
use lib.Dec.{eqb}
use lib.ListN.{length, take, drop, take-append-drop, length-take, length-drop}
use borrow.Author.Tests.{le-leb}
use Rattle.permutation.specs.Runs.{rounds_of, constants_of, constants}
use Rattle.ascon.specs.Sets.{is_set, row_of}
use Rattle.ascon.specs.Rounds.{ad_blocks, text_blocks, message_rounds}
use Rattle.sets.proofs.Rows.{row_sizes}
use Rattle.digits.specs.declared.hex.Case.TheVariants.{Upper}
use Rattle.digits.specs.Hex.{hex_in}
use Rattle.digits.specs.Room.{line_of}
use Rattle.lines.specs.declared.kinds.Value.TheVariants.{Fixed, Bytes}
use Rattle.lines.specs.Right.{Spells, Right}
use Rattle.lines.specs.Texts.{text_from}
use Rattle.lines.proofs.Texts.{rows_lines}
use Rattle.lines.proofs.Values.{BytesLine, bytes_line_lem}
use Rattle.record.specs.declared.form.Form.TheVariants.{One}
use Rattle.record.specs.declared.form.Record.{Record}
use Rattle.record.specs.Form.{field_of, held, value_kind, keeps, broken}
use Rattle.record.specs.Laws.{Typed}
use Rattle.record.proofs.Fields.{bytes_take, bytes_drop, whole_field, held_field}
use Rattle.record.proofs.Lines.{field_allowed}
use Rattle.entry.specs.Form as form
use Rattle.entry.specs.Form.{largest_number, name, kind_at, bytes_at, line_text}
use Rattle.entry.specs.Calls.{begun, given}
use Rattle.entry.specs.Laws.{Portable}
use Rattle.entry.proofs.Table.{right_at, EntryRows, name_is}

-- at most 256 bytes of data have few blocks
few_blocks : (r n : ℕ) → n ≤ 256 → ad_blocks r n ≤ 257
unfolding ad_blocks
few_blocks r n h = go (eqb n 0)
  where
    go : (z : Bool) → cond z 0 (n / r + 1) ≤ 257
    go true = omega arith
    go false = omega (arith, div-le_self n r)

-- a message of at most 256 bytes of data and of text has rounds of at most seven digits
few_rounds : (set a t : ℕ) → a ≤ 256 → t ≤ 256 → message_rounds (row_of set) a t ≤ 9_999_999
unfolding message_rounds text_blocks rounds_of constants_of constants
few_rounds set a t h k =
    let row = row_of set in
    let blocks : ℕ = ad_blocks row.block a + (t / row.block + 1) - 1 in
    let bound : blocks ≤ 513 = omega (arith, few_blocks row.block a h, div-le_self t row.block) in
    let most : rounds_of row.between * blocks ≤ 8 * blocks = mul-le-mul_right blocks (row_sizes set).rounds in
    rw (row_sizes set).ends (omega arith)

module _ (set number : ℕ) (known : is_set set ≡ true) (h : number ≤ largest_number) where
  -- ---- a line

  -- a line of bytes, at least and at most so many
  abbrev LineOf : ℕ → ℕ → ℕ → List ℕ → Type 0
  LineOf line least most x = BytesLine (name number line) least most Upper x

  -- a right line of bytes is one
  line_bytes : (line least most : ℕ) (x : List ℕ) (says : ℕ) → form.value_kind (row_of set).key line ≡ Bytes least most Upper → Right (kind_at set number line) x says
      → LineOf line least most x
  unfolding kind_at
  line_bytes line least most x says e right = bytes_line_lem (kind_at set number line) (name number line) least most Upper (name_is number h set line) e right

  -- it is the line of a record that has its bytes there
  line-line_of : (line : ℕ) {least most : ℕ} {x : List ℕ} (l : LineOf line least most x) (r : Record) → bytes_at line r ≡ l.bytes → x ≡ line_text number line r
  unfolding line_text
  line-line_of line l r e = l.whole ∙ ap (λ (b : List ℕ). line_of (name number line) (hex_in Upper b)) (sym e)

  -- a right line of nothing but its name
  name_line : (line : ℕ) (x : List ℕ) (says : ℕ) → form.value_kind (row_of set).key line ≡ Fixed 0 → Right (kind_at set number line) x says
      → x ≡ line_of (name number line) []
  unfolding kind_at
  name_line line x says e right =
      let s : Spells (Fixed 0) says right.value = rw e at right.spelled in
      right.whole ∙ (λ j. line_of (name_is number h set line j) (s.1 j))

  -- ---- the record of the lines Key, Nonce, PT, AD and CT

  module _ {x2 x3 x4 x5 x6 : List ℕ} (key : LineOf 2 (row_of set).key (row_of set).key x2) (nonce : LineOf 3 (row_of set).key (row_of set).key x3)
      (text : LineOf 4 0 256 x4) (ad : LineOf 5 0 256 x5) (ct : LineOf 6 (row_of set).key ((row_of set).key + 256) x6) where
    -- the ciphertext
    abbrev cipher : List ℕ
    cipher = take (length ct.bytes - (row_of set).key) ct.bytes

    -- the tag
    abbrev tag : List ℕ
    tag = drop (length ct.bytes - (row_of set).key) ct.bytes

    -- the rounds
    abbrev rounds : ℕ
    rounds = message_rounds (row_of set) (length ad.bytes) (length text.bytes)

    -- the record
    abbrev record_of : Record
    record_of =
        record {
          set = set;
          chip = 0;
          key = field_of key.bytes;
          nonce = field_of nonce.bytes;
          ad = field_of ad.bytes;
          text = field_of text.bytes;
          cipher = field_of cipher;
          tag = field_of tag;
          rounds = rounds;
        }

    -- a ciphertext has at most 256 bytes
    cipher_few : length cipher ≤ 256
    cipher_few = omega (arith, length-take (length ct.bytes - (row_of set).key) ct.bytes)

    -- and a tag as many as a key
    tag_size : length tag ≡ (row_of set).key
    tag_size = omega (arith, length-drop (length ct.bytes - (row_of set).key) ct.bytes)

    -- the record is in form
    lines_in_form : broken One record_of ≡ 0
    unfolding broken keeps value_kind is_set
    lines_in_form =
        let most = (row_sizes set).key in
        rw (
          known,
          field_allowed key.bytes (row_of set).key (row_of set).key (omega arith) key.at_least key.at_most,
          field_allowed nonce.bytes (row_of set).key (row_of set).key (omega arith) nonce.at_least nonce.at_most,
          field_allowed ad.bytes 0 256 (omega arith) ad.at_least ad.at_most,
          field_allowed text.bytes 0 256 (omega arith) text.at_least text.at_most,
          field_allowed cipher 0 256 (omega arith) (omega arith) cipher_few,
          field_allowed tag (row_of set).key (row_of set).key (omega arith) (omega (arith, tag_size)) (omega (arith, tag_size)),
          le-leb 0 rounds (omega arith),
          le-leb rounds 9_999_999 (few_rounds set (length ad.bytes) (length text.bytes) ad.at_most text.at_most),
        )

    -- and of bytes
    lines_typed : Typed record_of
    lines_typed =
        let most = (row_sizes set).key in
        record {
          key = whole_field key.bytes (omega arith) key.are;
          nonce = whole_field nonce.bytes (omega arith) nonce.are;
          ad = whole_field ad.bytes (omega arith) ad.are;
          text = whole_field text.bytes (omega arith) text.are;
          cipher = whole_field cipher cipher_few (bytes_take (length ct.bytes - (row_of set).key) ct.bytes ct.are);
          tag = whole_field tag (omega (arith, tag_size)) (bytes_drop (length ct.bytes - (row_of set).key) ct.bytes ct.are);
        }

    -- so an entry can stand for it
    lines_listed : Portable set record_of
    unfolding field_of
    lines_listed = record { spellable = record { in_form = lines_in_form; kept = refl; typed = lines_typed }; of_set = refl; right_rounds = refl }

    -- the bytes of CT are its ciphertext and its tag
    cipher_tag : held record_of.cipher ++ held record_of.tag ≡ ct.bytes
    cipher_tag = rw (held_field cipher, held_field tag) (take-append-drop (length ct.bytes - (row_of set).key) ct.bytes)

  -- ---- seven lines

  -- seven right lines are the entry of a record
  pub rows_entry : (x : List ℕ) (e : Record) → EntryRows set number 7 x e → (r : Record) × Portable set r × (x ≡ text_from (line_text number) 7 1 r)
  unfolding form.value_kind line_text bytes_at
  rows_entry x e r7 =
      let r6 = r7.rows in
      let r5 = r6.rows in
      let r4 = r5.rows in
      let r3 = r4.rows in
      let r2 = r3.rows in
      let r1 = r2.rows in
      let key = line_bytes 2 (row_of set).key (row_of set).key r2.line r2.says refl r2.right in
      let nonce = line_bytes 3 (row_of set).key (row_of set).key r3.line r3.says refl r3.right in
      let text = line_bytes 4 0 256 r4.line r4.says refl r4.right in
      let ad = line_bytes 5 0 256 r5.line r5.says refl r5.right in
      let ct = line_bytes 6 (row_of set).key ((row_of set).key + 256) r6.line r6.says refl r6.right in
      let r : Record = record_of key nonce text ad ct in
      let one_more = rows_lines (right_at set number) (given set number) (begun set) (line_text number) r in
      let t1 = one_more 0 _ _ r1 r1.rows.0 (name_line 1 r1.line r1.says refl r1.right) in
      let t2 = one_more 1 _ _ r2 t1 (line-line_of 2 key r (held_field key.bytes)) in
      let t3 = one_more 2 _ _ r3 t2 (line-line_of 3 nonce r (held_field nonce.bytes)) in
      let t4 = one_more 3 _ _ r4 t3 (line-line_of 4 text r (held_field text.bytes)) in
      let t5 = one_more 4 _ _ r5 t4 (line-line_of 5 ad r (held_field ad.bytes)) in
      let t6 = one_more 5 _ _ r6 t5 (line-line_of 6 ct r (cipher_tag key nonce text ad ct)) in
      (r, lines_listed key nonce text ad ct, one_more 6 x e r7 t6 (name_line 7 r7.line r7.says refl r7.right))
