-- What each call answers: the tests in their order, the rounds, the next state, and what each lent place then holds.
use Rattle.std.specs.Prelude.{Bool, cond, not, ◌&&◌, List, [], ◌∷◌, ◌++◌, ℕ, ◌+◌, ◌-◌, ◌*◌, ◌/◌, ◌%◌, eqb, leb, length, drop}
use Rattle.answers.specs.declared.Answer.{Answer}
use Rattle.answers.specs.declared.Answer.TheVariants.{Done, TagLength, PastLimit, NoRoom, OutOfPhase, BrokenState, TagDiffers}
use Rattle.answers.specs.Numbers.{is_done}
use Rattle.answers.specs.Order.{Choice, ◌when◌, first}
use Rattle.permutation.specs.Runs.{rounds_of}
use Rattle.permutation.specs.Strings.{zeros, same, words_of_string}
use Rattle.ascon.specs.Sets.{ParameterSet, row_of, ad_limit, text_limit}
use Rattle.ascon.specs.Mode.{initialise}
use Rattle.sets.specs.Start.{start_faults}
use Rattle.sponge.specs.declared.Way.TheVariants.{Seal}
use Rattle.sponge.specs.Sponge.{absorbed, given, ad_closed, tag_of}
use Rattle.stream.specs.declared.Direction.{Direction}
use Rattle.stream.specs.declared.Phase.TheVariants.{Ad, Text}
use Rattle.stream.specs.declared.Stream.{Stream}
use Rattle.stream.specs.declared.Outcome.{Outcome}
use Rattle.stream.specs.State.{way_of, gives_text, gives_tag, is_ad, fits, ended, is_sound}

-- ---- refusals

-- 0 rounds, and the state as it was
abbrev pub refused : Answer → Stream → Outcome
refused answer s = record { answer = answer; rounds = 0; next = s }

-- done where the answer is 0, refused where it is not
abbrev pub decided : Answer → Stream → Outcome → Outcome
decided answer s done = cond (is_done answer) done (refused answer s)

-- ---- the tests, in their order

-- a start, by its set, the lengths of key and nonce, and its limit: 1, 2, 3, and 5 behind those
abbrev pub limited_start_faults : ℕ → ℕ → ℕ → ℕ → List (Choice Answer)
limited_start_faults set key nonce limit = start_faults set key nonce ++ PastLimit when not (leb limit text_limit) ∷ []

unfoldable pub limited_start_test : ℕ → ℕ → ℕ → ℕ → Answer
limited_start_test set key nonce limit = first Done (limited_start_faults set key nonce limit)

-- a piece, with so many bytes taken then: 8, 7, 5
abbrev pub piece_faults : Stream → Bool → ℕ → ℕ → List (Choice Answer)
piece_faults s fit taken limit = BrokenState when not (is_sound s) ∷ OutOfPhase when not fit ∷ PastLimit when not (leb taken limit) ∷ []

unfoldable pub piece_test : Stream → Bool → ℕ → ℕ → ℕ → Answer
piece_test s fit count n limit = first Done (piece_faults s fit (count + n) limit)

-- a piece of n bytes of text for a direction, within the stream's own limit, with so much room: 6 behind those
abbrev pub text_faults : Direction → Stream → ℕ → ℕ → List (Choice Answer)
text_faults d s n room = piece_faults s (fits d s) (s.text + n) s.limit ++ NoRoom when (gives_text d && not (leb n room)) ∷ []

unfoldable pub text_test : Direction → Stream → ℕ → ℕ → Answer
text_test d s n room = first Done (text_faults d s n room)

-- a finish in a direction with a tag of n bytes: 8, 7, 4
abbrev pub finish_faults : Direction → Stream → ℕ → List (Choice Answer)
finish_faults d s n = BrokenState when not (is_sound s) ∷ OutOfPhase when not (fits d s) ∷ TagLength when not (eqb n (row_of s.set).key) ∷ []

unfoldable pub finish_test : Direction → Stream → ℕ → Answer
finish_test d s n = first Done (finish_faults d s n)

-- ---- the rounds

-- of the blocks that n bytes fill after `count`
unfoldable pub filled_rounds : ParameterSet → ℕ → ℕ → ℕ
filled_rounds row count n = rounds_of row.between * ((count + n) / row.block - count / row.block)

-- of closing the associated data, where it is open and not empty
unfoldable pub closing_rounds : Stream → ℕ
closing_rounds s = cond (is_ad s.phase) (cond (eqb s.ad 0) 0 (rounds_of (row_of s.set).between)) 0

-- ---- the calls

-- what a start is given; the limit is that of the stream's text
pub record Start : Type 0 where
  pub direction : Direction
  pub set : ℕ
  pub limit : ℕ
  pub key : List ℕ
  pub nonce : List ℕ

-- a start; a refused one gives the ended state
unfoldable pub start_call : Start → Outcome
start_call start =
    decided (limited_start_test start.set (length start.key) (length start.nonce) start.limit) ended
    (record {
      answer = Done;
      rounds = 12;
      next = record {
        words = words_of_string (initialise (row_of start.set) start.key start.nonce);
        set = start.set;
        direction = start.direction;
        phase = Ad;
        key = start.key ++ zeros (16 - length start.key);
        ad = 0;
        text = 0;
        place = 0;
        limit = start.limit;
      };
    })

-- a piece of the associated data that is taken
abbrev pub took_ad : Stream → List ℕ → Outcome
took_ad s piece =
    let row = row_of s.set in
    let n = length piece in
    record {
      answer = Done;
      rounds = filled_rounds row s.ad n;
      next = record {
        words = absorbed row Seal s.words s.ad piece;
        set = s.set;
        direction = s.direction;
        phase = s.phase;
        key = s.key;
        ad = s.ad + n;
        text = s.text;
        place = (s.ad + n) % row.block;
        limit = s.limit;
      };
    }

-- a piece of the associated data
unfoldable pub ad_call : Stream → List ℕ → Outcome
ad_call s piece = decided (piece_test s (is_ad s.phase) s.ad (length piece) ad_limit) s (took_ad s piece)

-- the words at the text: the associated data is closed where it is open
unfoldable pub text_words : Stream → List ℕ
text_words s = cond (is_ad s.phase) (ad_closed (row_of s.set) s.words s.ad) s.words

-- a text call that took n bytes and left these words
unfoldable pub took_text : Stream → List ℕ → ℕ → Outcome
took_text s words n =
    record {
      answer = Done;
      rounds = closing_rounds s + filled_rounds (row_of s.set) s.text n;
      next = record {
        words = words;
        set = s.set;
        direction = s.direction;
        phase = Text;
        key = s.key;
        ad = s.ad;
        text = s.text + n;
        place = (s.text + n) % (row_of s.set).block;
        limit = s.limit;
      };
    }

-- an outcome, and what the lent place then holds
pub record Called : Type 0 where
  pub outcome : Outcome
  pub lent : List ℕ

abbrev pub called : Outcome → List ℕ → Called
called outcome lent = record { outcome = outcome; lent = lent }

-- what a piece of text gives in a direction, at the front of `out`; in an opening it is unverified until the finish
abbrev pub given_text : Direction → Stream → List ℕ → List ℕ → List ℕ
given_text d s piece out = cond (gives_text d) (given (row_of s.set) (way_of d) (text_words s) s.text piece ++ drop (length piece) out) out

-- a piece of text in a direction
unfoldable pub text_call : Direction → Stream → List ℕ → List ℕ → Called
text_call d s piece out =
    let answer = text_test d s (length piece) (length out) in
    cond (is_done answer)
    (called (took_text s (absorbed (row_of s.set) (way_of d) (text_words s) s.text piece) (length piece)) (given_text d s piece out))
    (called (refused answer s) out)

-- the tag of the text so far
abbrev pub own_tag : Stream → List ℕ
own_tag s = tag_of (row_of s.set) (text_words s) s.text s.key

-- a tag that is given to be compared, and is not the stream's own: 9
abbrev pub tag_faults : Direction → Stream → List ℕ → List (Choice Answer)
tag_faults d s tag = TagDiffers when (not (gives_tag d) && not (same tag (own_tag s))) ∷ []

-- the end of the stream with an answer: closing, and twelve rounds
abbrev pub finished_with : Answer → Stream → Outcome
finished_with answer s = record { answer = answer; rounds = closing_rounds s + 12; next = ended }

-- a finish in a direction: a sealing puts its tag into the place, another direction leaves the place as it is
unfoldable pub finish_call : Direction → Stream → List ℕ → Called
finish_call d s tag =
    let answer = finish_test d s (length tag) in
    cond (is_done answer) (called (finished_with (first Done (tag_faults d s tag)) s) (cond (gives_tag d) (own_tag s) tag)) (called (refused answer s) tag)
