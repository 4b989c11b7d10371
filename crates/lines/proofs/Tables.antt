-- The laws of every table: lines are read one after another; what stops a reading; what decides it; and that a text which only ended too early can go on.
use mathlib.Core.Path.{◌≡◌, refl, sym, ap, ◌∙◌, subst}
use mathlib.Core.Bool.{Bool, true, false}
use mathlib.Core.List.{List, [], ◌++◌, append_assoc}
use Prim.Native.Nat.{ℕ, zero, suc, ◌+◌, ◌-◌, ◌≤◌, ◌<◌}
use native.Mathlib.Omega.{arith}
use lib.Dec.{ltb}
use lib.ListN.{length, take, drop, length-append, length-drop}
use lib.Seq.{take_all, take-length, take-append-le, drop-append-le, drop-append_seam}
use borrow.Author.Tests.{ltb-true, ltb-false, le-ltb}
use Rattle.lines.specs.Laws.{FoundIn}
use Rattle.std.specs.Prelude.{Ok, Err}
use Rattle.lines.specs.Steps.{Found, a_line, no_line}
use Rattle.lines.specs.Tables.{Outcome, whole, broken_at, go_on, lines_from}
use Rattle.lines.proofs.Columns.{column_early}

module _ {E : Type 0} (read_at : ℕ → E → List ℕ → Found) (given : ℕ → E → ℕ → List ℕ → E) where
  -- ---- one line after another

  -- a line more, where the lines before it were read
  abbrev pub and_line : ℕ → List ℕ → Outcome E → Outcome E
  and_line line text (whole end last) =
      go_on line (drop end text) (read_at line last (drop end text)) (λ size says. whole (end + size) (given line last says (take size (drop end text))))
  and_line line text (broken_at bad column early) = broken_at bad column early

  -- one line more than n is read behind n lines
  pub lines_more : (n line taken : ℕ) (e : E) (text : List ℕ)
      → lines_from read_at given (suc n) line taken e text ≡ and_line (line + n) text (lines_from read_at given n line taken e text)
  lines_more zero line taken e text = let here : line + 0 ≡ line = omega arith in rw here
  lines_more (suc n) line taken e text = go (read_at line e (drop taken text)) (λ size says. lines_more n (line + 1) (taken + size) (given line e says (take size (drop taken text))) text)
    where
      there : line + suc n ≡ line + 1 + n
      there = omega arith

      from : ℕ → ℕ → ℕ → Outcome E
      from count size says = lines_from read_at given count (line + 1) (taken + size) (given line e says (take size (drop taken text))) text

      go : (f : Found) → ((size says : ℕ) → from (suc n) size says ≡ and_line (line + 1 + n) text (from n size says))
          → go_on line (drop taken text) f (from (suc n)) ≡ and_line (line + suc n) text (go_on line (drop taken text) f (from n))
      go (Ok read) rest = rest read.size read.number ∙ ap (λ (m : ℕ). and_line m text (from n read.size read.number)) (sym there)
      go (Err stopped) rest = refl

  -- what each line keeps, lines that were read keep
  pub kept : (Kept : E → Type 0) → ((line : ℕ) (e : E) (says : ℕ) (text : List ℕ) → Kept e → Kept (given line e says text))
      → (n line taken : ℕ) (e : E) (text : List ℕ) (end : ℕ) (last : E) → Kept e → lines_from read_at given n line taken e text ≡ whole end last → Kept last
  kept Kept keeps zero line taken e text end last k is = let same : e ≡ last = cc in subst Kept same k
  kept Kept keeps (suc n) line taken e text end last k is =
      go (read_at line e (drop taken text)) (λ size says. kept Kept keeps n (line + 1) (taken + size) (given line e says (take size (drop taken text))) text end last) is
    where
      from : ℕ → ℕ → Outcome E
      from size says = lines_from read_at given n (line + 1) (taken + size) (given line e says (take size (drop taken text))) text

      go : (f : Found) → ((size says : ℕ) → Kept (given line e says (take size (drop taken text))) → from size says ≡ whole end last → Kept last)
          → go_on line (drop taken text) f from ≡ whole end last
          → Kept last
      go (Ok read) rest is = rest read.size read.number (keeps line e read.number (take read.size (drop taken text)) k) is
      go (Err stopped) rest is = absurd cc

  module _ (line : ℕ) (first : E) where
    -- the first n lines of a text
    abbrev pub up_to : ℕ → List ℕ → Outcome E
    up_to n text = lines_from read_at given n line 0 first text

    -- a reading stopped at a line: those before it were read, and it was not
    pub record Stop (n : ℕ) (text : List ℕ) (bad column : ℕ) (early : Bool) : Type 0 where
      pub before : ℕ
      pub fewer : before < n
      pub number : bad ≡ line + before
      pub end : ℕ
      pub last : E
      pub read : up_to before text ≡ whole end last
      pub stopped : read_at bad last (drop end text) ≡ no_line column
      pub over : early ≡ ltb (length (drop end text)) column

    -- a broken outcome was stopped at its line
    pub stopped_at : (n : ℕ) (text : List ℕ) (bad column : ℕ) (early : Bool) → up_to n text ≡ broken_at bad column early → Stop n text bad column early
    stopped_at zero text bad column early e = absurd cc
    stopped_at (suc n) text bad column early e = go (up_to n text) refl (sym (lines_more n line 0 first text) ∙ e) (stopped_at n text)
      where
        at : (end : ℕ) (last : E) → up_to n text ≡ whole end last → (f : Found) → read_at (line + n) last (drop end text) ≡ f
            → go_on (line + n) (drop end text) f (λ size says. whole (end + size) (given (line + n) last says (take size (drop end text)))) ≡ broken_at bad column early
            → Stop (suc n) text bad column early
        at end last r (Ok read) s f = absurd cc
        at end last r (Err c) s f =
            let number : line + n ≡ bad = cc in
            let same : c.column ≡ column = cc in
            record {
              before = n;
              fewer = omega arith;
              number = sym number;
              end = end;
              last = last;
              read = r;
              stopped = rw (← number, ← same) s;
              over = (let over : ltb (length (drop end text)) c.column ≡ early = cc in rw (← same) (sym over));
            }

        go : (o : Outcome E) → up_to n text ≡ o → and_line (line + n) text o ≡ broken_at bad column early
            → ((b c : ℕ) (p : Bool) → up_to n text ≡ broken_at b c p → Stop n text b c p) → Stop (suc n) text bad column early
        go (whole end last) r f rest = at end last r (read_at (line + n) last (drop end text)) refl f
        go (broken_at b c p) r f rest =
            let s = rest bad column early (r ∙ f) in
            record {
              before = s.before;
              fewer = omega (arith, s.fewer);
              number = s.number;
              end = s.end;
              last = s.last;
              read = s.read;
              stopped = s.stopped;
              over = s.over;
            }

    -- a line more that was read
    pub read_more_lem : (n end : ℕ) (last : E) (text : List ℕ) (size says : ℕ) → up_to n text ≡ whole end last → read_at (line + n) last (drop end text) ≡ a_line size says
        → up_to (suc n) text ≡ whole (end + size) (given (line + n) last says (take size (drop end text)))
    read_more_lem n end last text size says r f =
        lines_more n line 0 first text
        ∙ ap (and_line (line + n) text) r
        ∙ ap (λ (g : Found). go_on (line + n) (drop end text) g (λ size says. whole (end + size) (given (line + n) last says (take size (drop end text))))) f

    -- a line more that was not
    pub read_no_more : (n end : ℕ) (last : E) (text : List ℕ) (column : ℕ) → up_to n text ≡ whole end last → read_at (line + n) last (drop end text) ≡ no_line column
        → up_to (suc n) text ≡ broken_at (line + n) column (ltb (length (drop end text)) column)
    read_no_more n end last text column r f =
        lines_more n line 0 first text
        ∙ ap (and_line (line + n) text) r
        ∙ ap (λ (g : Found). go_on (line + n) (drop end text) g (λ size says. whole (end + size) (given (line + n) last says (take size (drop end text))))) f

    -- the line before the last of those that were read
    pub record More (n end : ℕ) (last : E) (text : List ℕ) : Type 0 where
      pub at : ℕ
      pub earlier : E
      pub read : up_to n text ≡ whole at earlier
      pub size : ℕ
      pub says : ℕ
      pub found : read_at (line + n) earlier (drop at text) ≡ a_line size says
      pub ends : end ≡ at + size
      pub gives : last ≡ given (line + n) earlier says (take size (drop at text))

    pub last_line : (n end : ℕ) (last : E) (text : List ℕ) → up_to (suc n) text ≡ whole end last → More n end last text
    last_line n end last text e = go (up_to n text) refl (sym (lines_more n line 0 first text) ∙ e)
      where
        at : (from : ℕ) (earlier : E) → up_to n text ≡ whole from earlier → (f : Found) → read_at (line + n) earlier (drop from text) ≡ f
            → go_on (line + n) (drop from text) f (λ size says. whole (from + size) (given (line + n) earlier says (take size (drop from text)))) ≡ whole end last
            → More n end last text
        at from earlier r (Ok l) s f =
            let ends : from + l.size ≡ end = cc in
            let gives : given (line + n) earlier l.number (take l.size (drop from text)) ≡ last = cc in
            record { at = from; earlier = earlier; read = r; size = l.size; says = l.number; found = s; ends = sym ends; gives = sym gives }
        at from earlier r (Err c) s f = absurd cc

        go : (o : Outcome E) → up_to n text ≡ o → and_line (line + n) text o ≡ whole end last → More n end last text
        go (whole from earlier) r f = at from earlier r (read_at (line + n) earlier (drop from text)) refl f
        go (broken_at b c p) r f = absurd cc

    -- what is broken stays so
    pub stays_broken : (more n : ℕ) (text : List ℕ) (bad column : ℕ) (early : Bool) → up_to n text ≡ broken_at bad column early → up_to (more + n) text ≡ broken_at bad column early
    stays_broken zero n text bad column early e = let same : 0 + n ≡ n = omega arith in rw same e
    stays_broken (suc more) n text bad column early e =
        let same : suc more + n ≡ suc (more + n) = omega arith in
        rw same (lines_more (more + n) line 0 first text ∙ ap (and_line (line + (more + n)) text) (stays_broken more n text bad column early e))

    -- ---- readings that tell what is so

    module _ (right_at : ℕ → E → List ℕ → ℕ → Type 0)
        (told : (n : ℕ) (e : E) (text : List ℕ) → FoundIn (right_at n e) text (read_at n e text))
        (only : (n : ℕ) (e : E) (text : List ℕ) (f : Found) → FoundIn (right_at n e) text f → read_at n e text ≡ f) where
      -- a line that was found is found before more text, too
      found_before : (n : ℕ) (e : E) (x more : List ℕ) (size says : ℕ) → read_at n e x ≡ a_line size says → (size ≤ length x) × (read_at n e (x ++ more) ≡ a_line size says)
      found_before n e x more size says f =
          let t : FoundIn (right_at n e) x (a_line size says) = rw f at (told n e x) in
          (t.0, only n e (x ++ more) (a_line size says) (omega (arith, length-append x more, t.0), rw (take-append-le size x more t.0) t.1))

      -- lines that were read are read before more text, too, and are no longer than the text
      pub read_before : (n : ℕ) (text more : List ℕ) (end : ℕ) (last : E) → up_to n text ≡ whole end last → (end ≤ length text) × (up_to n (text ++ more) ≡ whole end last)
      read_before zero text more end last e = let z : 0 ≡ end = cc in (omega arith, e)
      read_before (suc n) text more end last e =
          let m = last_line n end last text e in
          let r = read_before n text more m.at m.earlier m.read in
          let behind : drop m.at (text ++ more) ≡ drop m.at text ++ more = drop-append-le m.at text more r.0 in
          let f = found_before (line + n) m.earlier (drop m.at text) more m.size m.says m.found in
          let same : take m.size (drop m.at (text ++ more)) ≡ take m.size (drop m.at text) =
          ap (take m.size) behind ∙ take-append-le m.size (drop m.at text) more f.0 in (
            omega (arith, m.ends, f.0, length-drop m.at text, r.0),
            read_more_lem n m.at m.earlier (text ++ more) m.size m.says r.1 (rw behind f.1)
                ∙ ap (λ (x : List ℕ). whole (m.at + m.size) (given (line + n) m.earlier m.says x)) same
                ∙ (λ j. whole (sym m.ends j) (sym m.gives j)),
          )

      -- a character that is wrong is wrong before more text, too
      pub broken_before : (n : ℕ) (text more : List ℕ) (bad column : ℕ) → up_to n text ≡ broken_at bad column false → up_to n (text ++ more) ≡ broken_at bad column false
      broken_before n text more bad column e =
          let s = stopped_at n text bad column false e in
          let x : List ℕ = drop s.end text in
          let r = read_before s.before text more s.end s.last s.read in
          let behind : drop s.end (text ++ more) ≡ x ++ more = drop-append-le s.end text more r.0 in
          let inside : column ≤ length x = ltb-false (length x) column (sym s.over) in
          let wrong : FoundIn (right_at bad s.last) x (no_line column) = rw s.stopped at (told bad s.last x) in
          let later : read_at bad s.last (x ++ more) ≡ no_line column =
          only bad s.last (x ++ more) (no_line column) (column_early x (x ++ more) column inside (take-append-le column x more inside) wrong) in
          let here : up_to (suc s.before) (text ++ more) ≡ broken_at bad column false =
          read_no_more s.before s.end s.last (text ++ more) column r.1 (rw (behind, ← s.number) later)
          ∙ rw (behind, le-ltb (length (x ++ more)) column (omega (arith, length-append x more)), ← s.number) in
          let count : n - suc s.before + suc s.before ≡ n = omega (arith, s.fewer) in
          rw count at (stays_broken (n - suc s.before) (suc s.before) (text ++ more) bad column false here)

      -- ---- what can still come

      module _ (some : (n : ℕ) (e : E) → (text : List ℕ) × (says : ℕ) × right_at n e text says) where
        -- a right line behind what was read
        right_behind : (n : ℕ) (text next : List ℕ) (last : E) (says : ℕ) → up_to n text ≡ whole (length text) last → right_at (line + n) last next says
            → (e : E) × (up_to (suc n) (text ++ next) ≡ whole (length (text ++ next)) e)
        right_behind n text next last says r l =
            let b = read_before n text next (length text) last r in
            let behind : drop (length text) (text ++ next) ≡ next = drop-append_seam text next in
            let f : read_at (line + n) last next ≡ a_line (length next) says = only (line + n) last next (a_line (length next) says) (omega arith, rw (take-length next) l) in (
              given (line + n) last says (take (length next) (drop (length text) (text ++ next))),
              read_more_lem n (length text) last (text ++ next) (length next) says b.1 (rw behind f)
                  ∙ ap (λ (k : ℕ). whole k (given (line + n) last says (take (length next) (drop (length text) (text ++ next))))) (sym (length-append text next)),
            )

        -- behind lines that were read there can be as many more as wanted
        pub completed : (more n : ℕ) (text : List ℕ) (last : E) → up_to n text ≡ whole (length text) last
            → (rest : List ℕ) × (e : E) × (up_to (more + n) (text ++ rest) ≡ whole (length (text ++ rest)) e)
        completed zero n text last r =
            let same : 0 + n ≡ n = omega arith in
            let b = read_before n text [] (length text) last r in
            ([], last, rw same (b.1 ∙ ap (λ (k : ℕ). whole k last) (omega (arith, length-append text []))))
        completed (suc more) n text last r =
            let l = some (line + n) last in
            let b = right_behind n text l.0 last l.1 r l.2 in
            let c = completed more (suc n) (text ++ l.0) b.0 b.1 in
            let same : suc more + n ≡ more + suc n = omega arith in
            (l.0 ++ c.0, c.1, rw (same, ← append_assoc text l.0 c.0) c.2)

        -- a text that only ended too early can go on to all lines
        pub mended : (n : ℕ) (text : List ℕ) (bad column : ℕ) → up_to n text ≡ broken_at bad column true
            → (rest : List ℕ) × (e : E) × (up_to n (text ++ rest) ≡ whole (length (text ++ rest)) e)
        mended n text bad column e =
            let s = stopped_at n text bad column true e in
            let x : List ℕ = drop s.end text in
            let wrong : FoundIn (right_at bad s.last) x (no_line column) = rw s.stopped at (told bad s.last x) in
            let past : length x < column = ltb-true (length x) column (sym s.over) in
            let all : take (column - 1) x ≡ x = take_all (column - 1) x (omega arith) in
            let v = wrong.before in
            let next : right_at bad s.last (x ++ v.rest) v.goes_on.0 = rw all at v.goes_on.1 in
            let r = read_before s.before text v.rest s.end s.last s.read in
            let behind : drop s.end (text ++ v.rest) ≡ x ++ v.rest = drop-append-le s.end text v.rest r.0 in
            let f : read_at bad s.last (x ++ v.rest) ≡ a_line (length (x ++ v.rest)) v.goes_on.0 =
            only bad s.last (x ++ v.rest) (a_line (length (x ++ v.rest)) v.goes_on.0) (omega arith, rw (take-length (x ++ v.rest)) next) in
            let size : s.end + length (x ++ v.rest) ≡ length (text ++ v.rest) =
            omega (arith, length-append x v.rest, length-append text v.rest, length-drop s.end text, r.0) in
            let here = read_more_lem s.before s.end s.last (text ++ v.rest) (length (x ++ v.rest)) v.goes_on.0 r.1 (rw (behind, ← s.number) f) in
            let c = completed (n - suc s.before) (suc s.before) (text ++ v.rest) _ (rw size at here) in
            let count : n - suc s.before + suc s.before ≡ n = omega (arith, s.fewer) in
            (v.rest ++ c.0, c.1, rw (← append_assoc text v.rest c.0) (rw count at c.2))
