-- Which stage it is that reads, judges or closes.
use mathlib.Core.Path.{◌≡◌, refl}
use mathlib.Core.Bool.{true, false≢true}
use Rattle.turns.specs.declared.Stage.{Stage}
use Rattle.turns.specs.declared.Stage.TheVariants.{Judge, Close, Read, Write, Say, Over}
use Rattle.turns.specs.Run.{is_judging, is_closing, is_reading}

-- the stage that reads
pub reading_is : (s : Stage) → is_reading s ≡ true → s ≡ Read
reading_is Judge h = absurd (false≢true h)
reading_is Close h = absurd (false≢true h)
reading_is Read h = refl
reading_is Write h = absurd (false≢true h)
reading_is Say h = absurd (false≢true h)
reading_is (Over ending) h = absurd (false≢true h)

-- the stage that judges
pub judging_is : (s : Stage) → is_judging s ≡ true → s ≡ Judge
judging_is Judge h = refl
judging_is Close h = absurd (false≢true h)
judging_is Read h = absurd (false≢true h)
judging_is Write h = absurd (false≢true h)
judging_is Say h = absurd (false≢true h)
judging_is (Over ending) h = absurd (false≢true h)

-- the stage that closes
pub closing_is : (s : Stage) → is_closing s ≡ true → s ≡ Close
closing_is Judge h = absurd (false≢true h)
closing_is Close h = refl
closing_is Read h = absurd (false≢true h)
closing_is Write h = absurd (false≢true h)
closing_is Say h = absurd (false≢true h)
closing_is (Over ending) h = absurd (false≢true h)
