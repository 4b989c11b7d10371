-- The second walk: an opening stream agrees with the checking stream before it, and with the opening of the whole message.
use Rattle.std.specs.Prelude.{List, ◌≡◌, ℕ, ◌+◌, ◌≤◌, length, take}
use Rattle.answers.specs.declared.Answer.TheVariants.{Done}
use Rattle.ascon.specs.Sets.{row_of}
use Rattle.stream.specs.declared.Direction.TheVariants.{Opening}
use Rattle.stream.specs.Calls.{Start}
use Rattle.history.specs.History.{Call, begun, after}
use Rattle.history.specs.Cuts.{Message, start_towards, WalksAgree}
use Rattle.letter.specs.Model.{Model}

pub record SecondWalk (m : Model) : Type 0 where
  -- a checking and an opening whose starts differ in direction alone: their finishes answer every tag alike, and after the checking's yes all that the opening hands
  -- out is plaintext
  pub walks : WalksAgree m.streams
  -- the opening of the whole message, with room for it, answers every tag as the stream's finish does; where that is done, it hands out what the stream's pieces are,
  -- joined; and where the tag's length is the set's, it reports what the stream's rounds add up to
  pub whole : (start : Start) (A C : List ℕ) (calls : List Call) (tag out : List ℕ) → Message m.streams (start_towards Opening start) A C calls → length C ≤ length out
      → let h = after m.streams (begun m.streams (start_towards Opening start)) calls in
      let finish = (m.streams.finish Opening h.stream tag).outcome in
      let leaves = m.messages.unseal start.set start.key start.nonce A C tag out in
      (leaves.outcome.answer ≡ finish.answer)
      × (finish.answer ≡ Done → take (length C) leaves.out ≡ h.out)
      × (length tag ≡ (row_of start.set).key → leaves.outcome.rounds ≡ h.rounds + finish.rounds)
