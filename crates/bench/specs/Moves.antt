-- What the program says of a moving.
use Rattle.std.specs.Prelude.{cond, Result, Ok, Err, List, [], ◌++◌, ◌≡◌, ℕ, eqb, length}
use Rattle.answers.specs.declared.Answer.TheVariants.{Done, UnknownSet, BrokenRecord, ChipLost}
use Rattle.answers.specs.Numbers.{number_of, is_done}
use Rattle.digits.specs.Ascii.{ascii}
use Rattle.moving.specs.declared.all.MovedAll.{MovedAll}
use Rattle.moving.specs.Moves.{MovingAll, moving_all_of, Numbered, refused_all}
use Rattle.turns.specs.Tallies.{numbered}
use Rattle.bench.specs.declared.moves.NotCarried.{NotCarried}
use Rattle.bench.specs.declared.moves.NotCarried.TheVariants as not_carried
use Rattle.bench.specs.declared.whole.Unread.{Unread}

-- a place of so many bytes. The checker must not count a million of them one by one, and so does not look inside
unfoldable pub Places : ℕ → List ℕ → Type 0
Places n place = n ≡ length place

-- how a moving of all of the input ended, as the code says it: with an answer on its records, or input that was not all read
abbrev pub carried_of : Result MovedAll NotCarried → Result MovingAll Unread
carried_of (Ok moved) = Ok (moving_all_of (Ok moved))
carried_of (Err (not_carried.Unmoved refused)) = Ok (moving_all_of (Err refused))
carried_of (Err (not_carried.Unread why)) = Err why

-- a record that is refused has a number and, where it is wrong, a line from 1 on
abbrev pub NumberedIn : Result MovedAll NotCarried → Type 0
NumberedIn (Ok moved) = Unit {0}
NumberedIn (Err (not_carried.Unmoved refused)) = Numbered (Err refused)
NumberedIn (Err (not_carried.Unread why)) = Unit {0}

-- how many bytes of the output were written
abbrev pub written_in : Result MovingAll Unread → ℕ
written_in (Ok moved) = moved.written
written_in (Err why) = 0

-- the number of the record that is refused, where there is one
unfoldable pub record_words : MovingAll → List ℕ
record_words moved = cond (eqb moved.records 0) [] (numbered (ascii " record=") moved.records)

-- the line and column of a refusal, where there are any
unfoldable pub place_words : MovingAll → List ℕ
place_words moved = cond (eqb moved.line 0) [] (numbered (ascii " line=") moved.line ++ numbered (ascii " column=") moved.column)

-- how many records were moved; or the answer, and what there is of the record that is refused, its line and its column
unfoldable pub moved_words : MovingAll → List ℕ
moved_words moved =
    cond (is_done moved.answer) (numbered (ascii "bench: done: records=") moved.records ++ ascii "\n")
    (numbered (ascii "bench: refused: answer=") (number_of moved.answer) ++ (record_words moved ++ (place_words moved ++ ascii "\n")))

-- the words, spelled out: two records moved; none, of an empty input; the second broken; the third with a chip that would be lost; a set that is not known
pub record Spelled : Type 0 where
  pub done : moved_words (record { answer = Done; records = 2; line = 0; column = 0; written = 322 }) ≡ ascii "bench: done: records=2\n"
  pub empty : moved_words (record { answer = Done; records = 0; line = 0; column = 0; written = 0 }) ≡ ascii "bench: done: records=0\n"
  pub broken : moved_words (refused_all BrokenRecord 2 4 7) ≡ ascii "bench: refused: answer=10 record=2 line=4 column=7\n"
  pub chip : moved_words (refused_all ChipLost 3 0 0) ≡ ascii "bench: refused: answer=11 record=3\n"
  pub set : moved_words (refused_all UnknownSet 0 0 0) ≡ ascii "bench: refused: answer=1\n"
