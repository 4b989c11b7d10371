-- The third demand: the cut does not matter; neither does it in an area of bytes, through the C boundary.
use Rattle.history.specs.History.{Streams, NeverRefused, PastRefused, Limited}
use Rattle.history.specs.Cuts.{CuttingDoesNotMatter}
use Rattle.gateway.specs.Laws.{OneToOne}
use Rattle.areas.specs.Areas.{Areas, Spelled, AreaLaw, AreasTake}
use Rattle.areas.specs.Cuts.{AreaCutting, AreaCuts, AreaWalks}

-- In `history/specs/Cuts.antt`, in the order of the demand: `Message` is a message and a cutting of it (`Cut`) on a stream as a done start gives it, its data within
-- the limit of data and its text within the limit that the start chose, with room for each piece, empty pieces, and calls refused with 4 to 8 in between;
-- `Whole` is the end of it in any direction: the joined output, the answer of the finish under every tag, the tag, the sum of the rounds and the ended state.
-- `SealedWhole`, `CheckedWhole` and `OpenedWhole` say it of each direction in the demand's own words: what is sealed; when a checking says yes; what an opening hands
-- out, unverified until its finish, and when that finish says yes. `states` says that two cuttings of one start hold equal states.
pub record Third (m : Streams) : Type 0 where
  pub cutting : CuttingDoesNotMatter m
  -- and there are such cuttings: a piece in its phase and direction, within the limits and with room, is always taken
  pub taken : NeverRefused m
  -- and one of text past the limit that the start chose is refused with 5
  pub past : PastRefused m
  -- and what a stream has taken is counted, and its limit stays, so that both limits hold for all pieces together
  pub limited : Limited m

-- The same of streams whose states the caller keeps in areas, in the numbers and bytes that the caller sees. `Spelled` and `cuts` tie them to a model of streams.
pub record AreaThird (m : Areas) (s : Streams) : Type 0 where
  -- each state has one spelling, and each spelling is one state's
  pub spellings : OneToOne
  -- a call on an area is the stream's call on the state that it spells, and so is any list of data, text and finish calls
  pub spelled : Spelled m s
  -- after any calls the bytes of the area are a function of start, phase, data and text; so are the joined output and the rounds while the stream is open
  pub law : AreaLaw m
  -- a piece in its phase and direction, within the limits and with room, is always taken; one of text past the limit that the start chose is refused with 5
  pub taken : AreasTake m
  -- however what was taken came: the joined output, the answer under every tag, the tag, the sum of the rounds, the ended state; and two cuttings leave equal areas
  pub cutting : AreaCutting m
  -- the same of a message and a cutting of it, by the demand's own words for that
  pub cuts : AreaCuts m s
  -- a second walk in another area agrees with the first
  pub walks : AreaWalks m
