-- Texts of things, line by line: the text of a thing's lines, which texts begin with one, and at which line and column a text stops being one.
use Rattle.std.specs.Prelude.{List, [], ◌++◌, ◌≡◌, ℕ, zero, suc, ◌+◌, ◌-◌, ◌≤◌}
use Rattle.lines.specs.Column.{LeavesAt}

-- things with their lines, by number from 1
module _ {C : Type 0} (line_text : ℕ → C → List ℕ) where
  -- `count` lines of a thing, from a line on, each straight after the one before
  abbrev pub text_from : ℕ → ℕ → C → List ℕ
  text_from zero line c = []
  text_from (suc count) line c = line_text line c ++ text_from count (line + 1) c

-- things in form
module _ {C : Type 0} (InForm : C → Type 0) where
  -- a text begins with that of such a thing
  pub record Begun (text_of : C → List ℕ) (text : List ℕ) : Type 0 where
    pub content : C
    pub in_form : InForm content
    pub rest : List ℕ
    pub parts : text ≡ text_of content ++ rest

  module _ (line_text : ℕ → C → List ℕ) where
    -- a text is the first lines, `count` of them, of such a thing
    pub record FirstLines (count : ℕ) (text : List ℕ) : Type 0 where
      pub content : C
      pub in_form : InForm content
      pub lines : text_from line_text count 1 content ≡ text

    -- a text is wrong at a line and column: the lines before it are the first lines of such a thing, and behind them the text leaves the right lines at the column. A
    -- line is right there where it and the lines before it are the first lines of some such thing
    pub record WrongAt (last : ℕ) (text : List ℕ) (line column : ℕ) : Type 0 where
      pub first : 1 ≤ line
      pub to_last : line ≤ last
      pub before : List ℕ
      pub rest : List ℕ
      pub parts : before ++ rest ≡ text
      pub right : FirstLines (line - 1) before
      pub wrong : LeavesAt (λ next. FirstLines line (before ++ next)) rest column
