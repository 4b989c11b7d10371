-- What a stage or a verdict is by the number of its variant, and what a match tells of a stage in an arm that names two.
use mathlib.Core.Path.{◌≡◌, refl, ap}
use mathlib.Core.Logic.{◌⊎◌, inl, inr}
use mathlib.Core.Bool.{true, false}
use mathlib.Core.List.{[], ◌∷◌}
use Prim.Native.Nat.{◌+◌}
use types.Run.{OneOf, miss}
use denote.Enum.Declared.{tag_of}
use Rattle.report.specs.declared.Verdict.{Verdict}
use Rattle.report.specs.declared.Verdict.TheVariants.{Equal, Rounds, Cipher, Tag, Unread}
use Rattle.report.specs.contracts.Verdict as verdict
use Rattle.turns.specs.declared.Stage.{Stage}
use Rattle.turns.specs.declared.Stage.TheVariants.{Judge, Close, Read, Write, Say, Over}
use Rattle.turns.specs.contracts.Stage as stage
use Rattle.turns.specs.declared.Tally.{Tally}
use Rattle.turns.specs.Tallies.{counted_with}
use Rattle.turns.specs.Run.{is_judging, is_closing, is_writing, behind, failed}
use Rattle.bench.specs.declared.system.Sink.TheVariants.{Output}
use Rattle.bench.specs.Progress.{sink_of}

-- a stage that is not `Judge` does not judge
pub not_judging : (s : Stage) → OneOf (1 ∷ 2 ∷ 3 ∷ 4 ∷ 5 ∷ []) (tag_of stage.the_type s) → is_judging s ≡ false
not_judging Judge k = absurd (miss (1 ∷ 2 ∷ 3 ∷ 4 ∷ 5 ∷ []) 0 tt k)
not_judging Close k = refl
not_judging Read k = refl
not_judging Write k = refl
not_judging Say k = refl
not_judging (Over ending) k = refl

-- one that is not `Close` does not close
pub not_closing : (s : Stage) → OneOf (0 ∷ 2 ∷ 3 ∷ 4 ∷ 5 ∷ []) (tag_of stage.the_type s) → is_closing s ≡ false
not_closing Judge k = refl
not_closing Close k = absurd (miss (0 ∷ 2 ∷ 3 ∷ 4 ∷ 5 ∷ []) 1 tt k)
not_closing Read k = refl
not_closing Write k = refl
not_closing Say k = refl
not_closing (Over ending) k = refl

-- `Write` and `Say` write
pub writing : (s : Stage) → OneOf (3 ∷ 4 ∷ []) (tag_of stage.the_type s) → is_writing s ≡ true
writing Judge k = absurd (miss (3 ∷ 4 ∷ []) 0 tt k)
writing Close k = absurd (miss (3 ∷ 4 ∷ []) 1 tt k)
writing Read k = absurd (miss (3 ∷ 4 ∷ []) 2 tt k)
writing Write k = refl
writing Say k = refl
writing (Over ending) k = absurd (miss (3 ∷ 4 ∷ []) 5 tt k)

-- the same, of a stage that is one of the two
pub write_or_say : (s : Stage) → (s ≡ Write) ⊎ (s ≡ Say) → is_writing s ≡ true
write_or_say s (inl e) = ap is_writing e
write_or_say s (inr e) = ap is_writing e

-- what neither writes nor says stays as it is when a text is written
pub stays_behind : (s : Stage) → OneOf (0 ∷ 1 ∷ 2 ∷ 5 ∷ []) (tag_of stage.the_type s) → s ≡ behind s
stays_behind Judge k = refl
stays_behind Close k = refl
stays_behind Read k = refl
stays_behind Write k = absurd (miss (0 ∷ 1 ∷ 2 ∷ 5 ∷ []) 3 tt k)
stays_behind Say k = absurd (miss (0 ∷ 1 ∷ 2 ∷ 5 ∷ []) 4 tt k)
stays_behind (Over ending) k = refl

-- what makes no call stays as it is when a call fails
pub stays_failed : (s : Stage) → OneOf (0 ∷ 1 ∷ 5 ∷ []) (tag_of stage.the_type s) → s ≡ failed s
stays_failed Judge k = refl
stays_failed Close k = refl
stays_failed Read k = absurd (miss (0 ∷ 1 ∷ 5 ∷ []) 2 tt k)
stays_failed Write k = absurd (miss (0 ∷ 1 ∷ 5 ∷ []) 3 tt k)
stays_failed Say k = absurd (miss (0 ∷ 1 ∷ 5 ∷ []) 4 tt k)
stays_failed (Over ending) k = refl

-- all but `Say` go to standard output
pub to_output_lem : (s : Stage) → OneOf (0 ∷ 1 ∷ 2 ∷ 3 ∷ 5 ∷ []) (tag_of stage.the_type s) → Output ≡ sink_of s
to_output_lem Judge k = refl
to_output_lem Close k = refl
to_output_lem Read k = refl
to_output_lem Write k = refl
to_output_lem Say k = absurd (miss (0 ∷ 1 ∷ 2 ∷ 3 ∷ 5 ∷ []) 4 tt k)
to_output_lem (Over ending) k = refl

-- a verdict that names a field is counted as a difference
pub differing : (t : Tally) (v : Verdict) → OneOf (1 ∷ 2 ∷ 3 ∷ []) (tag_of verdict.the_type v)
    → record { equal = t.equal; differ = t.differ + 1; unread = t.unread; line = t.line; column = t.column } ≡ counted_with t v
differing t Equal k = absurd (miss (1 ∷ 2 ∷ 3 ∷ []) 0 tt k)
differing t Rounds k = refl
differing t Cipher k = refl
differing t Tag k = refl
differing t (Unread line column) k = absurd (miss (1 ∷ 2 ∷ 3 ∷ []) 4 tt k)
