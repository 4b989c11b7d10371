-- `stream::Stream::sound` meets its contract, where the state is compared with the ended one.
use mathlib.Core.Path.{◌≡◌, ◌∙◌, refl}
use mathlib.Core.Bool.{◌&&◌}
use lib.Dec.{eqb}
use borrow.Author.Rules.{rules}
use denote.Enum.Declared.{tag_of}
use Rattle.stream.specs.contracts.Direction.{the_type}
use Rattle.stream.specs.declared.Direction.{Direction}
use Rattle.stream.specs.declared.Direction.TheVariants.{Sealing, Checking, Opening}
use Rattle.stream.specs.State.{is_direction, all_zero, is_sound_ended, is_sound}
use Rattle.stream.proofs.Tests.{pointwise_zeros, reordered}
use Rattle.stream.proofs.Stream.sound.Goals as goal

-- a direction is compared by its rank
compared : (d : Direction) → eqb (tag_of the_type d) 0 ≡ is_direction Sealing d
compared Sealing = refl
compared Checking = refl
compared Opening = refl

pub returns-in-Ended : goal.returns-in-Ended
unfolding is_sound is_sound_ended
returns-in-Ended c =
    let s = c.args.self in
    c.eq.ensures
    ∙ rw (c.ended.ensures, c.in-Ended.is, pointwise_zeros s.words 5 (search rules), pointwise_zeros s.key 16 (search rules), compared s.direction)
    (reordered (all_zero s.words) (eqb s.set 1) (is_direction Sealing s.direction) (all_zero s.key) (eqb s.ad 0 && (eqb s.text 0 && (eqb s.place 0 && eqb s.limit 0))))
