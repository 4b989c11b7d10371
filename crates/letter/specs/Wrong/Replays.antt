-- Wrong answers of the calls that read and replay a chip's log.
use Rattle.std.specs.Prelude.{◌≡◌, Bool, true, false, List, [], ◌++◌, ℕ, take, replicate}
use Rattle.answers.specs.declared.Answer.TheVariants.{Done, BrokenRecord}
use Rattle.permutation.specs.Strings.{zeros}
use Rattle.digits.specs.Ascii.{ascii}
use Rattle.chip_log.specs.Calls.{Reading, refused_at}
use Rattle.stream.specs.declared.Direction.TheVariants.{Sealing}
use Rattle.stream.specs.declared.Phase.TheVariants as phase
use Rattle.stream.specs.declared.Stream.{Stream}
use Rattle.stream.specs.State.{ended}
use Rattle.replay.specs.declared.cursor.Log.{Log}
use Rattle.replay.specs.declared.whole.Conclusion.{Conclusion}
use Rattle.replay.specs.declared.window.Stretch.{Stretch}
use Rattle.replay.specs.declared.window.Verdict.{Verdict}
use Rattle.replay.specs.declared.window.Verdict.TheVariants.{Agrees, Answer, Out, Rounds, Unread, Open}
use Rattle.replay.specs.Cursor.{log_at}
use Rattle.replay.specs.Replays.{is_agreed, told}
use Rattle.replay.proofs as replay-crate
use Rattle.letter.specs.Calls.{Lent, lent, Never}
use Rattle.letter.specs.Replays.{line_of, read_learnt, open_learnt, moved_learnt, entry_seen}

-- ---- entries

-- a piece of text before any start, refused as it is due; and said to be done
abbrev pub text_refused : List ℕ
text_refused = ascii "call=text\ndata=\nanswer=7\nout=\nrounds=0\n"

abbrev pub text_done : List ℕ
text_done = ascii "call=text\ndata=\nanswer=0\nout=\nrounds=0\n"

-- the finish, refused
abbrev pub finish_refused : List ℕ
finish_refused = ascii "call=finish\ndata=\nanswer=7\nout=\nrounds=0\n"

-- so many zeros as the data of a piece of associated data, without the line feed
abbrev pub ad_of : ℕ → List ℕ
ad_of digits = ascii "call=ad\ndata=" ++ replicate digits 0x30

-- a start in set 1 with a key and a nonce of zeros
abbrev pub start_done : List ℕ
start_done = ascii "call=start1\ndata=0000000000000000000000000000000000000000000000000000000000000000\nanswer=0\nout=\nrounds=12\n"

-- behind it, a byte of associated data, and the text that closes it
abbrev pub ad_then_text : List ℕ
ad_then_text = ascii "call=ad\ndata=00\nanswer=0\nout=\nrounds=0\ncall=text\ndata=\nanswer=0\nout=\nrounds=6\n"

-- behind it, two bytes of text with some output; the second program's is 27e7
abbrev pub text_with : List ℕ → List ℕ
text_with out = start_done ++ (ascii "call=text\ndata=0001\nanswer=0\nout=" ++ (out ++ ascii "\nrounds=0\n"))

-- behind it, the finish, with the second program's tag
abbrev pub finished : List ℕ
finished = start_done ++ ascii "call=finish\ndata=\nanswer=0\nout=7b019b75f415d1d7d86542ad7fa46b47\nrounds=12\n"

-- a start and the finish in set 2
abbrev pub finished_two : List ℕ
finished_two =
    ascii "call=start2\ndata=000000000000000000000000000000000000000000000000\nanswer=0\nout=\nrounds=12\ncall=finish\ndata=\nanswer=0\nout=89e0dddb6a8cfa0b86ce4d07\nrounds=12\n"

-- behind the byte of associated data and the text that closed it, a byte of associated data, refused; then a byte of text and the finish, with the second program's output and tag
abbrev pub ad_behind_text : List ℕ
ad_behind_text =
    ascii "call=ad\ndata=01\nanswer=7\nout=\nrounds=0\ncall=text\ndata=00\nanswer=0\nout=f8\nrounds=0\ncall=finish\ndata=\nanswer=0\nout=d8e670e695ccefebac651a6526dbf7e1\nrounds=12\n"

-- a start in set 1 whose key begins with 01, and a byte of text with some output; the second program's is 56, and d7 where the nonce begins so, and not the key
abbrev pub keyed_with : List ℕ → List ℕ
keyed_with out =
    ascii "call=start1\ndata=0100000000000000000000000000000000000000000000000000000000000000\nanswer=0\nout=\nrounds=12\ncall=text\ndata=00\nanswer=0\nout=" ++ (out ++ ascii "\nrounds=0\n")

-- behind it, the finish, with the second program's tag
abbrev pub keyed_finish : List ℕ
keyed_finish = ascii "call=finish\ndata=\nanswer=0\nout=04f550d13ecc8cfd5d89170a22715331\nrounds=12\n"

-- a sealing stream of set 1 inside its text, with words, key and counts of zeros and the largest limit
abbrev pub inside_text : Stream
inside_text = record { words = zeros 5; set = 1; direction = Sealing; phase = phase.Text; key = zeros 16; ad = 0; text = 0; place = 0; limit = 1_048_576 }

-- what is told of an entry
abbrev pub named : ℕ → Verdict → Conclusion
named entry verdict = record { entry = entry; verdict = verdict }

pub record Wrong : Type 0 where
  -- ---- one entry

  -- nothing is told of `call=start3` but that the 3 is at fault, since two calls begin with what stands before it
  pub log_call : (r : Reading) → (r ≡ refused_at 1 11 false → ⊥)
      → Never read_learnt (lent (ascii "call=start3\n"), tt) r
  -- data of a finish is at fault from its first digit, on line 2
  pub log_finish : (r : Reading) → (r ≡ refused_at 2 6 false → ⊥)
      → Never read_learnt (lent (ascii "call=finish\ndata=00\nanswer=7\nout=\nrounds=0\n"), tt) r
  -- 25 bytes are one too many for a start in set 2: its first digit is at fault
  pub log_start2 : (r : Reading) → (r ≡ refused_at 2 54 false → ⊥)
      → Never read_learnt (lent (ascii "call=start2\ndata=00000000000000000000000000000000000000000000000000\n"), tt) r
  -- 24 bytes are too few for one in set 1: the line feed is at fault
  pub log_start1 : (r : Reading) → (r ≡ refused_at 2 54 false → ⊥)
      → Never read_learnt (lent (ascii "call=start1\ndata=000000000000000000000000000000000000000000000000\n"), tt) r
  -- 256 bytes are not refused, and of 257 the first digit too many is at fault
  pub log_most : (line column : ℕ) (early : Bool)
      → Never read_learnt (lent (ad_of 512 ++ ascii "\nanswer=7\nout=\nrounds=0\n"), tt) (refused_at line column early)
  pub log_long : (r : Reading) → (r ≡ refused_at 2 518 false → ⊥)
      → Never read_learnt (lent (ad_of 514), tt) r
  -- a digit in upper case is at fault
  pub log_upper : (r : Reading) → (r ≡ refused_at 2 6 false → ⊥)
      → Never read_learnt (lent (ascii "call=ad\ndata=A0\n"), tt) r
  -- in `answer=007` the second zero is at fault
  pub log_zeros : (r : Reading) → (r ≡ refused_at 3 9 false → ⊥)
      → Never read_learnt (lent (ascii "call=ad\ndata=\nanswer=007\n"), tt) r
  -- a number has at most seven digits: the eighth is at fault
  pub log_digits : (r : Reading) → (r ≡ refused_at 3 15 false → ⊥)
      → Never read_learnt (lent (ascii "call=ad\ndata=\nanswer=10000000\n"), tt) r
  -- no line stands in another's place
  pub log_order : (r : Reading) → (r ≡ refused_at 2 1 false → ⊥)
      → Never read_learnt (lent (ascii "call=ad\nanswer=7\ndata=\nout=\nrounds=0\n"), tt) r
  -- a text that ended behind a line can go on
  pub log_cut : (r : Reading) → (r ≡ refused_at 2 1 true → ⊥) → Never read_learnt (lent (ascii "call=ad\n"), tt) r
  -- what stands behind an entry is not taken
  pub log_behind : (r : Reading) → (r.taken ≡ 39 → ⊥) → Never read_learnt (lent (text_refused ++ ascii "x"), tt) r
  -- whatever the text, it is not refused at line 0, nor at column 0
  pub log_line_nought : (text : List ℕ) (r : Reading) → r.answer ≡ BrokenRecord → r.line ≡ 0 → Never read_learnt (lent text, tt) r
  pub log_column_nought : (text : List ℕ) (r : Reading) → r.answer ≡ BrokenRecord → r.column ≡ 0 → Never read_learnt (lent text, tt) r
  -- ---- a log and its place

  -- a log is not opened elsewhere than at its beginning, nor over other bytes
  pub open_place : (bytes : Lent) (r : Log) → (r.place ≡ 0 → ⊥) → Never open_learnt (bytes, tt) r
  pub open_bytes : (bytes : Lent) (r : Log) → (r.bytes ≡ bytes → ⊥) → Never open_learnt (bytes, tt) r
  -- nor moved to another place than asked, also past its end, nor to other bytes
  pub moved_place : (log : Log) (place : ℕ) (r : Log) → (r.place ≡ place → ⊥) → Never moved_learnt (log, (place, tt)) r
  pub moved_bytes : (log : Log) (place : ℕ) (r : Log) → (r.bytes ≡ log.bytes → ⊥) → Never moved_learnt (log, (place, tt)) r
  -- the entry is the one at the place, and not the log's first
  pub entry_first : (line column : ℕ) (early : Bool) → Never entry_seen (log_at (lent (ascii "x" ++ text_refused)) 1, tt) (refused_at line column early)
  -- past the end there is none
  pub entry_past : (r : Reading) → r.answer ≡ Done → Never entry_seen (log_at (lent text_refused) 40, tt) r
  -- ---- a whole log

  -- a log with a broken entry does not agree, whatever the count
  pub replay_broken : (entries : ℕ) → Never replay-crate.replay.Reads.Learnt (lent (text_refused ++ ascii "x"), tt) (told entries Agrees)
  -- nor does one that is cut off behind a line of an entry, or before the last line feed
  pub replay_cut : (entries : ℕ) → Never replay-crate.replay.Reads.Learnt (lent (text_refused ++ ascii "call=text\n"), tt) (told entries Agrees)
  pub replay_cut_feed : (entries : ℕ) → Never replay-crate.replay.Reads.Learnt (lent (take 38 text_refused), tt) (told entries Agrees)
  -- the first difference is named, and not the last, and not a broken entry behind it
  pub replay_last : (verdict : Verdict) → Never replay-crate.replay.Reads.Learnt (lent (text_done ++ text_done), tt) (named 2 verdict)
  pub replay_broken_last : (entry line column : ℕ) → Never replay-crate.replay.Reads.Learnt (lent (text_done ++ ascii "x"), tt) (named entry (Unread line column))
  -- the output is compared before the rounds, and the answer before the output
  pub replay_rounds_first : (entry : ℕ) → Never replay-crate.replay.Reads.Learnt (lent (ascii "call=text\ndata=\nanswer=7\nout=00\nrounds=1\n"), tt) (named entry Rounds)
  pub replay_out_first : (entry : ℕ) → Never replay-crate.replay.Reads.Learnt (lent (ascii "call=text\ndata=\nanswer=0\nout=00\nrounds=0\n"), tt) (named entry Out)
  -- text with our output agrees
  pub replay_out : (r : Conclusion) → (r ≡ told 2 Agrees → ⊥) → Never replay-crate.replay.Reads.Learnt (lent (text_with (ascii "27e7")), tt) r
  -- an output that is a beginning of ours does not agree, nor one that goes on behind ours, nor the text itself
  pub replay_out_begun : (entries : ℕ) → Never replay-crate.replay.Reads.Learnt (lent (text_with (ascii "27")), tt) (told entries Agrees)
  pub replay_out_longer : (entries : ℕ) → Never replay-crate.replay.Reads.Learnt (lent (text_with (ascii "27e700")), tt) (told entries Agrees)
  pub replay_out_text : (entries : ℕ) → Never replay-crate.replay.Reads.Learnt (lent (text_with (ascii "0001")), tt) (told entries Agrees)
  -- a refused call leaves the state: text before a start leaves the stream ended, and a byte of associated data behind text leaves it inside its text, with the words that it had
  pub replay_refused : (r : Conclusion) → (r ≡ told 3 Agrees → ⊥)
      → Never replay-crate.replay.Reads.Learnt (lent (text_refused ++ (finish_refused ++ text_refused)), tt) r
  pub replay_refused_open : (r : Conclusion) → (r ≡ told 6 Agrees → ⊥)
      → Never replay-crate.replay.Reads.Learnt (lent (start_done ++ (ad_then_text ++ ad_behind_text)), tt) r
  -- a start needs no finish before it: behind the text of an open stream it is done, with 12 rounds, and text and tag are then those of the new key
  pub replay_start : (r : Conclusion) → (r ≡ told 5 Agrees → ⊥)
      → Never replay-crate.replay.Reads.Learnt (lent (text_with (ascii "27e7") ++ (keyed_with (ascii "56") ++ keyed_finish)), tt) r
  -- the first text has the rounds that close the associated data, 6 in set 1, and a second text has none
  pub replay_closing : (r : Conclusion) → (r ≡ told 4 Agrees → ⊥)
      → Never replay-crate.replay.Reads.Learnt (lent (start_done ++ (ad_then_text ++ text_done)), tt) r
  -- entries are counted from 1, in any log; those that agree, one by one
  pub replay_nought : (log : List ℕ) (verdict : Verdict) → is_agreed verdict ≡ false → Never replay-crate.replay.Reads.Learnt (lent log, tt) (named 0 verdict)
  pub replay_count : (entries : ℕ) → (entries ≡ 2 → ⊥) → Never replay-crate.replay.Reads.Learnt (lent (text_refused ++ finish_refused), tt) (told entries Agrees)
  -- a log does not end with its first finish: nothing is told but the entry behind it, whose answer differs
  pub replay_finish : (r : Conclusion) → (r ≡ named 3 Answer → ⊥) → Never replay-crate.replay.Reads.Learnt (lent (finished ++ text_done), tt) r
  -- the tag of set 2 has 12 bytes, and agrees
  pub replay_tag : (r : Conclusion) → (r ≡ told 2 Agrees → ⊥)
      → Never replay-crate.replay.Reads.Learnt (lent finished_two, tt) r
  -- the data of a start is the key and then the nonce, which agrees, and not the other way round, which does not
  pub replay_key : (r : Conclusion) → (r ≡ told 2 Agrees → ⊥) → Never replay-crate.replay.Reads.Learnt (lent (keyed_with (ascii "56")), tt) r
  pub replay_key_behind : (entries : ℕ) → Never replay-crate.replay.Reads.Learnt (lent (keyed_with (ascii "d7")), tt) (told entries Agrees)
  -- an empty log is not unread
  pub replay_empty : (entry line column : ℕ) → Never replay-crate.replay.Reads.Learnt (lent [], tt) (named entry (Unread line column))
  -- an answer that is no number of ours can be read
  pub replay_number : (entry line column : ℕ)
      → Never replay-crate.replay.Reads.Learnt (lent (ascii "call=text\ndata=\nanswer=99\nout=\nrounds=0\n"), tt) (named entry (Unread line column))
  -- the start data of set 1 is too long for set 2: line 2, and nothing else is told
  pub replay_start2 : (entry : ℕ) (verdict : Verdict) → (line_of verdict ≡ 2 → ⊥)
      → Never replay-crate.replay.Reads.Learnt
      (lent (ascii "call=start2\ndata=0000000000000000000000000000000000000000000000000000000000000000\nanswer=0\nout=\nrounds=12\n"), tt) (named entry verdict)
  -- data on a finish: line 2, and nothing else is told
  pub replay_finish_data : (entry : ℕ) (verdict : Verdict) → (line_of verdict ≡ 2 → ⊥)
      → Never replay-crate.replay.Reads.Learnt (lent (ascii "call=finish\ndata=00\nanswer=7\nout=\nrounds=0\n"), tt) (named entry verdict)
  -- the rounds of a refusal are compared, too
  pub replay_rounds : (entries : ℕ) → Never replay-crate.replay.Reads.Learnt (lent (ascii "call=text\ndata=\nanswer=7\nout=\nrounds=12\n"), tt) (told entries Agrees)
  -- whatever the log, no more of it is wanted
  pub replay_open : (log : List ℕ) (entry : ℕ) → Never replay-crate.replay.Reads.Learnt (lent log, tt) (named entry Open)
  -- ---- a window

  -- while the log goes on, no window agrees, whatever it holds, and whatever the state
  pub window_agrees : (window : List ℕ) (s : Stream) (r : Stretch) → r.verdict ≡ Agrees → Never replay-crate.replay_window.Reads.Learnt (lent window, (false, (s, tt))) r
  -- what can still become an entry is not called broken
  pub window_early : (r : Stretch) (line column : ℕ) → r.verdict ≡ Unread line column
      → Never replay-crate.replay_window.Reads.Learnt (lent (take 38 text_refused), (false, (ended, tt))) r
  -- what no more of the log can mend is not waited on
  pub window_at_once : (r : Stretch) → r.verdict ≡ Open → Never replay-crate.replay_window.Reads.Learnt (lent (ascii "x"), (false, (ended, tt))) r
  -- an entry that differs is not taken, and leaves the state that it found: a start with 13 rounds
  pub window_taken : (r : Stretch) → (r.taken ≡ 39 → ⊥) → Never replay-crate.replay_window.Reads.Learnt (lent (text_refused ++ text_done), (true, (ended, tt))) r
  pub window_state : (r : Stretch) → r.stream.phase ≡ phase.Ad
      → Never replay-crate.replay_window.Reads.Learnt (lent (take 104 start_done ++ ascii "3\n"), (true, (ended, tt))) r
  -- a start of the log has the largest limit, and no other
  pub window_limit : (r : Stretch) → (r.stream.limit ≡ 1_048_576 → ⊥) → Never replay-crate.replay_window.Reads.Learnt (lent start_done, (false, (ended, tt))) r
  -- the state that is handed over is gone on from, and not the ended one
  pub window_from : (r : Stretch) → r.verdict ≡ Answer → Never replay-crate.replay_window.Reads.Learnt (lent text_done, (true, (inside_text, tt))) r
