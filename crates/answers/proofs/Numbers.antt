-- The numbers of the answers: 0 is that of Done alone, and all are small.
use mathlib.Core.Path.{◌≡◌, refl}
use mathlib.Core.Bool.{true, false≢true}
use Prim.Native.Nat.{◌≤◌}
use lib.Dec.{lit≤}
use Rattle.answers.specs.declared.Answer.{Answer}
use Rattle.answers.specs.declared.Answer.TheVariants.{Done, UnknownSet, KeyLength, NonceLength, TagLength, PastLimit, NoRoom, OutOfPhase, BrokenState, TagDiffers, BrokenRecord, ChipLost}
use Rattle.answers.specs.Numbers.{number_of, is_done}

-- an answer that is done is Done
pub done_is : (answer : Answer) → is_done answer ≡ true → answer ≡ Done
done_is Done e = refl
done_is UnknownSet e = absurd (false≢true e)
done_is KeyLength e = absurd (false≢true e)
done_is NonceLength e = absurd (false≢true e)
done_is TagLength e = absurd (false≢true e)
done_is PastLimit e = absurd (false≢true e)
done_is NoRoom e = absurd (false≢true e)
done_is OutOfPhase e = absurd (false≢true e)
done_is BrokenState e = absurd (false≢true e)
done_is TagDiffers e = absurd (false≢true e)
done_is BrokenRecord e = absurd (false≢true e)
done_is ChipLost e = absurd (false≢true e)

-- every number has four bits
pub number_small : (answer : Answer) → number_of answer ≤ 15
number_small Done = lit≤ tt
number_small UnknownSet = lit≤ tt
number_small KeyLength = lit≤ tt
number_small NonceLength = lit≤ tt
number_small TagLength = lit≤ tt
number_small PastLimit = lit≤ tt
number_small NoRoom = lit≤ tt
number_small OutOfPhase = lit≤ tt
number_small BrokenState = lit≤ tt
number_small TagDiffers = lit≤ tt
number_small BrokenRecord = lit≤ tt
number_small ChipLost = lit≤ tt
