-- The number of each answer, as the rules list them.
use Rattle.std.specs.Prelude.{Bool, ℕ, eqb}
use Rattle.answers.specs.declared.Answer.{Answer}
use Rattle.answers.specs.declared.Answer.TheVariants.{Done, UnknownSet, KeyLength, NonceLength, TagLength, PastLimit, NoRoom, OutOfPhase, BrokenState, TagDiffers, BrokenRecord, ChipLost}

abbrev pub number_of : Answer → ℕ
number_of Done = 0
number_of UnknownSet = 1
number_of KeyLength = 2
number_of NonceLength = 3
number_of TagLength = 4
number_of PastLimit = 5
number_of NoRoom = 6
number_of OutOfPhase = 7
number_of BrokenState = 8
number_of TagDiffers = 9
number_of BrokenRecord = 10
number_of ChipLost = 11

abbrev pub is_done : Answer → Bool
is_done answer = eqb (number_of answer) 0
