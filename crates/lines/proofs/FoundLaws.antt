-- What is so of a text is one: lines that end with their one line feed and tell their number begin a text in one way, or it leaves them at one column.
use mathlib.Core.Path.{◌≡◌, sym, ap, ◌∙◌, subst}
use mathlib.Core.List.{List, [], ◌∷◌, ◌++◌, append_assoc}
use mathlib.Core.Logic.{⊎_elim}
use Prim.Native.Nat.{ℕ, ◌≤◌, ◌<◌}
use native.Mathlib.Omega.{arith}
use lib.ListN.{length, take, drop, take-append-drop, length-append}
use lib.Seq.{take-take, length-take-le}
use Rattle.digits.specs.Room.{line_of}
use Rattle.lines.specs.declared.kinds.Kind.{Kind}
use Rattle.lines.specs.Right.{name_of, Right, Lines}
use Rattle.std.specs.Prelude.{Ok, Err}
use Rattle.lines.specs.Steps.{Found, a_line, no_line}
use Rattle.lines.specs.Laws.{Fit, FoundIn, Either, OneFeed}
use Rattle.lines.proofs.Columns.{one_column}
use Rattle.lines.proofs.Feeds.{one_feed}

-- a set of lines that end with their one line feed, and whose text tells the number that they say
pub record Telling (number : List ℕ → ℕ) (right : List ℕ → ℕ → Type 0) : Type 0 where
  pub feeds : OneFeed (Lines right)
  pub ends : (line : List ℕ) → Lines right line → (x : List ℕ) × (line ≡ x ++ 0x0a ∷ [])
  pub tells : (line : List ℕ) (says : ℕ) → right line says → says ≡ number line

-- the right lines of a kind are such a set, where their text tells the number
pub kind_telling : (number : List ℕ → ℕ) (kind : Kind) → Fit kind → ((line : List ℕ) (says : ℕ) → Right kind line says → says ≡ number line)
    → Telling number (Right kind)
unfolding line_of
kind_telling number kind fit tells =
    record {
      feeds = one_feed kind fit;
      ends = λ line (says, r). (name_of kind ++ r.value, r.whole ∙ sym (append_assoc (name_of kind) r.value (0x0a ∷ [])));
      tells = tells;
    }

-- and so are the lines of two such sets
pub either_telling : (number : List ℕ → ℕ) (left right : List ℕ → ℕ → Type 0) → Telling number left → Telling number right → Telling number (Either left right)
either_telling number left right p q =
    record {
      feeds = λ a b (says, l). ⊎_elim (λ x. p.feeds a b (says, x)) (λ x. q.feeds a b (says, x)) l;
      ends = λ line (says, l). ⊎_elim (λ x. p.ends line (says, x)) (λ x. q.ends line (says, x)) l;
      tells = λ line says l. ⊎_elim (p.tells line says) (q.tells line says) l;
    }

module _ (number : List ℕ → ℕ) (right : List ℕ → ℕ → Type 0) (telling : Telling number right) (text : List ℕ) where
  -- a text that begins with a right line begins with no longer one
  no_longer : (m n : ℕ) → n ≤ length text → Lines right (take m text) → Lines right (take n text) → m < n → ⊥
  no_longer m n h l r less =
      let line = telling.ends (take m text) l in
      let more : List ℕ = drop m (take n text) in
      let parts : take n text ≡ line.0 ++ 0x0a ∷ more =
      sym (take-append-drop m (take n text))
      ∙ ap (λ (x : List ℕ). x ++ more) (take-take m n text (omega arith) ∙ line.1)
      ∙ append_assoc line.0 (0x0a ∷ []) more in
      let none : more ≡ [] = telling.feeds line.0 more (subst (Lines right) parts r) in
      absurd (omega (
        arith,
        length-take-le n text h,
        length-take-le m text (omega arith),
        ap length line.1,
        ap length parts,
        ap length none,
        length-append line.0 (0x0a ∷ []),
        length-append line.0 (0x0a ∷ more),
      ))

  -- what is so of a text is one
  pub one_found : (f g : Found) → FoundIn right text f → FoundIn right text g → f ≡ g
  one_found (Ok l) (Ok k) p q =
      let size : l.size ≡ k.size =
      omega (arith, no_longer l.size k.size q.0 (l.number, p.1) (k.number, q.1), no_longer k.size l.size p.0 (k.number, q.1) (l.number, p.1)) in
      let number_is : l.number ≡ k.number =
      telling.tells (take l.size text) l.number p.1 ∙ ap (λ (n : ℕ). number (take n text)) size ∙ sym (telling.tells (take k.size text) k.number q.1) in
      λ j. a_line (size j) (number_is j)
  one_found (Ok l) (Err d) p q = absurd (q.none l.size (record { inside = p.0; whole = (l.number, p.1) }))
  one_found (Err c) (Ok k) p q = absurd (p.none k.size (record { inside = q.0; whole = (k.number, q.1) }))
  one_found (Err c) (Err d) p q = ap no_line (one_column text c.column d.column p q)
