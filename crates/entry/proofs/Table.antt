-- The table of an entry: the kind of each line fits, so that the reader's law holds of it.
use mathlib.Core.Path.{◌≡◌, refl}
use mathlib.Core.Bool.{true, not}
use lib.Dec.{eqb}
use mathlib.Core.List.{List, [], ◌∷◌, ◌++◌}
use Prim.Native.Nat.{ℕ, zero, suc, ◌+◌, ◌-◌, ◌/◌, ◌%◌, ◌≤◌}
use native.Mathlib.Omega.{arith}
use lib.ListN.{length, get_or, length-append}
use borrow.Author.Tests.{leb-true, le-leb, ne_eqb}
use Rattle.ascon.specs.Sets.{row_of}
use Rattle.digits.specs.declared.hex.Case.TheVariants.{Upper}
use Rattle.digits.specs.Ascii.{ascii}
use Rattle.digits.specs.Numbers.{places, decimals, numeral}
use Rattle.digits.proofs.Numerals.{places_least, length_numeral}
use Rattle.digits.proofs.Spelling.{and_both}
use Rattle.lines.specs.declared.kinds.Value.TheVariants.{Fixed, Bytes}
use Rattle.lines.specs.Steps.{Found}
use Rattle.lines.specs.Right.{name_of, Right, Lines}
use Rattle.lines.specs.Laws.{fits, plain, Fit, FoundIn, OneFeed}
use Rattle.lines.proofs.Rows.{Rows}
use Rattle.lines.proofs.Laws.{reads_lines, some_line}
use Rattle.lines.proofs.Names.{named_is, named_fit}
use Rattle.record.specs.declared.form.Record.{Record}
use Rattle.entry.specs.Form.{largest_number, name, value_kind, kind_at}
use Rattle.entry.specs.Calls.{begun, read_at, given}

-- ---- right lines

-- a line is right by its kind, whatever the lines before it gave
abbrev pub right_at : ℕ → ℕ → ℕ → Record → List ℕ → ℕ → Type 0
right_at set number line r = Right (kind_at set number line)

-- the rows of an entry
abbrev pub EntryRows : ℕ → ℕ → ℕ → List ℕ → Record → Type 0
EntryRows set number = Rows (right_at set number) (given set number) (begun set)

-- ---- names

-- texts without a line feed, one behind the other, have none
plain_append : (x y : List ℕ) → plain x ≡ true → plain y ≡ true → plain (x ++ y) ≡ true
plain_append [] y e f = f
plain_append (c ∷ x) y e f =
    let b = and_both (not (eqb c 0x0a)) (plain x) e in
    rw b.0 (plain_append x y b.1 f)

-- digits have none
plain_decimals : (count n : ℕ) → plain (decimals count n) ≡ true
plain_decimals zero n = refl
plain_decimals (suc count) n =
    plain_append (decimals count (n / 10)) ((0x30 + n % 10) ∷ []) (plain_decimals count (n / 10)) (rw (ne_eqb (0x30 + n % 10) 0x0a (λ e. omega arith)))

-- a number of 64 bits has at most 20 digits
pub few_digits : (number : ℕ) → number ≤ largest_number → length (numeral number) ≤ 20
few_digits number h = omega (arith, length_numeral number, places_least number 19 (omega arith))

-- a name of at most 28 bytes, with no line feed
record IsName (x : List ℕ) : Type 0 where
  few : length x ≤ 28
  plainly : plain x ≡ true

module _ (number : ℕ) (h : number ≤ largest_number) where
  -- each line's name is one
  is_name : (line : ℕ) → IsName (name number line)
  unfolding name numeral
  is_name line = go (line - 1)
    where
      go : (i : ℕ) → IsName (get_or ((ascii "Count = " ++ numeral number) ∷ ascii "Key = " ∷ ascii "Nonce = " ∷ ascii "PT = " ∷ ascii "AD = " ∷ ascii "CT = " ∷ []) i [])
      go zero =
          record {
            few = omega (arith, length-append (ascii "Count = ") (numeral number), few_digits number h);
            plainly = plain_append (ascii "Count = ") (numeral number) refl (plain_decimals (places number) number);
          }
      go (suc zero) = record { few = leb-true 6 28 refl; plainly = refl }
      go (suc (suc zero)) = record { few = leb-true 8 28 refl; plainly = refl }
      go (suc (suc (suc zero))) = record { few = leb-true 5 28 refl; plainly = refl }
      go (suc (suc (suc (suc zero)))) = record { few = leb-true 5 28 refl; plainly = refl }
      go (suc (suc (suc (suc (suc zero))))) = record { few = leb-true 5 28 refl; plainly = refl }
      go (suc (suc (suc (suc (suc (suc i)))))) = record { few = leb-true 0 28 refl; plainly = refl }

  -- it has at most 28 bytes
  pub name_few : (line : ℕ) → length (name number line) ≤ 28
  name_few line = (is_name line).few

  -- ---- kinds

  -- the name of a line's kind is the line's
  pub name_is : (set line : ℕ) → name_of (kind_at set number line) ≡ name number line
  unfolding kind_at
  name_is set line = named_is (name number line) (omega (arith, name_few line)) (value_kind (row_of set).key line)

  -- what a line may hold fits
  value_fits : (key line : ℕ) → fits (value_kind key line) ≡ true
  unfolding value_kind
  value_fits key line = go (line - 1)
    where
      go : (i : ℕ)
          → fits (get_or (Fixed 0 ∷ Bytes key key Upper ∷ Bytes key key Upper ∷ Bytes 0 256 Upper ∷ Bytes 0 256 Upper ∷ Bytes key (key + 256) Upper ∷ []) i (Fixed 0)) ≡ true
      go zero = refl
      go (suc zero) = le-leb key key (omega arith)
      go (suc (suc zero)) = le-leb key key (omega arith)
      go (suc (suc (suc zero))) = refl
      go (suc (suc (suc (suc zero)))) = refl
      go (suc (suc (suc (suc (suc zero))))) = le-leb key (key + 256) (omega arith)
      go (suc (suc (suc (suc (suc (suc i)))))) = refl

  -- the kind of each line fits
  pub fit_kind : (set line : ℕ) → Fit (kind_at set number line)
  unfolding kind_at
  fit_kind set line =
      named_fit (name number line) (omega (arith, name_few line)) (value_kind (row_of set).key line) (is_name line).plainly (value_fits (row_of set).key line)

  -- ---- readings

  -- what they say is so
  pub told : (set line : ℕ) (r : Record) (text : List ℕ) → FoundIn (right_at set number line r) text (read_at set number line r text)
  told set line r text = reads_lines.told (kind_at set number line) text (fit_kind set line)

  -- and nothing else is
  pub only : (set line : ℕ) (r : Record) (text : List ℕ) (f : Found) → FoundIn (right_at set number line r) text f → read_at set number line r text ≡ f
  only set line r text f = reads_lines.only (kind_at set number line) text f (fit_kind set line)

  -- each line can be right
  pub some : (set line : ℕ) (r : Record) → (text : List ℕ) × (says : ℕ) × right_at set number line r text says
  some set line r = some_line (kind_at set number line) (fit_kind set line)

  -- right lines end with their one line feed
  pub one_feed : (set line : ℕ) (r : Record) → OneFeed (Lines (right_at set number line r))
  one_feed set line r = reads_lines.one_feed (kind_at set number line) (fit_kind set line)
