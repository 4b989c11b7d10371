-- `bench::moves::refused_words` meets its contract.
use mathlib.Core.Path.{◌≡◌, refl}
use mathlib.Core.Bool.{false}
use mathlib.Core.List.{append_assoc}
use Rattle.std.proofs.Common.{Err}
use Rattle.answers.specs.Numbers.{is_done}
use Rattle.moving.specs.declared.all.UnmovedAll.{UnmovedAll}
use Rattle.moving.specs.declared.all.UnmovedAll.TheVariants.{UnknownSet, Broken, ChipLost, NoRoom}
use Rattle.moving.specs.Moves.{refused_all, moving_all_of}
use Rattle.bench.specs.Moves.{moved_words}
use Rattle.bench.proofs.moves.refused_words.Goals as goal

-- a refusal is not done
refuses : (r : UnmovedAll) → is_done (moving_all_of (Err r)).answer ≡ false
unfolding refused_all
refuses UnknownSet = refl
refuses (Broken number line column) = refl
refuses (ChipLost number) = refl
refuses NoRoom = refl

pub returns : goal.returns
unfolding moved_words
returns c =
    rw (refuses c.args.refused)
    (simp (c.text.ensures, c.put_place.ensures.words, c.numbered.ensures.words, c.number.ensures, c.from.ensures, c.new-words.ensures, append_assoc))
