-- Wrong answers of the calls of first differences, verdicts, reports and steps.
use Rattle.std.specs.Prelude.{◌≡◌, true, false, List, [], ◌∷◌, ℕ, suc, Some, None}
use Rattle.answers.specs.declared.Answer.TheVariants.{Done}
use Rattle.permutation.specs.Strings.{bytes_of, zeros}
use Rattle.ascon.specs.Known.{counting}
use Rattle.digits.specs.Ascii.{ascii}
use Rattle.record.specs.declared.form.Record.{Record}
use Rattle.record.specs.Form.{field_of, held, with_number, with_field, blank}
use Rattle.report.specs.declared.Verdict.TheVariants.{Equal, Tag, Unread}
use Rattle.judge.specs.declared.difference.Comparison.{Comparison}
use Rattle.judge.specs.declared.stepping.Step.TheVariants.{Stopped, Wait}
use Rattle.judge.specs.Verdicts.{our_sealing}
use Rattle.judge.proofs as judge
use Rattle.letter.specs.Calls.{Lent, lent, lent_mut, Never, Only, NeverLeaves, NoSet}
use Rattle.letter.specs.Judging.{report_learnt, compare_learnt}
use Rattle.letter.specs.Wrong.Records.{case_of}

-- the rules' whole case with the right rounds and a text of one byte; its cipher is empty
abbrev pub cut_off : Record
cut_off = with_field 7 (field_of (0 ∷ [])) (case_of 24)

-- a published answer as a record: its set, text, ciphertext and tag, under the published key and nonce, without data
abbrev pub published_in : ℕ → List ℕ → List ℕ → List ℕ → Record
published_in set text cipher tag =
    let key = field_of counting in
    record { set = set; chip = 0; key = key; nonce = key; ad = field_of []; text = field_of text; cipher = field_of cipher; tag = field_of tag; rounds = 24 }

pub record Wrong : Type 0 where
  -- a text that is cut off is not the same
  pub difference_cut : Never judge.first_difference.Reads.Learnt (lent (1 ∷ 2 ∷ []), (lent (1 ∷ []), tt)) None
  -- nor is one that goes on
  pub difference_longer : Never judge.first_difference.Reads.Learnt (lent (1 ∷ []), (lent (1 ∷ 2 ∷ []), tt)) None
  -- nor another of the same length
  pub difference_byte : Never judge.first_difference.Reads.Learnt (lent (1 ∷ []), (lent (2 ∷ []), tt)) None
  -- the place is not one too far
  pub difference_far : Never judge.first_difference.Reads.Learnt (lent (1 ∷ 2 ∷ []), (lent (1 ∷ []), tt)) (Some 2)
  -- nor that of the last difference
  pub difference_last : Never judge.first_difference.Reads.Learnt (lent (1 ∷ 2 ∷ []), (lent (3 ∷ 4 ∷ []), tt)) (Some 1)
  -- a text that is the same has no difference at its end
  pub difference_end : Never judge.first_difference.Reads.Learnt (lent (1 ∷ []), (lent (1 ∷ []), tt)) (Some 1)
  -- the part of a text that goes on is not its empty end
  pub tail_longer : (part : Lent) → part.now ≡ [] → Never judge.difference_tail.Reads.Learnt (lent (1 ∷ []), (lent (1 ∷ 2 ∷ []), tt)) part
  -- the part does not begin one too far
  pub tail_far : (part : Lent) → part.now ≡ [] → Never judge.difference_tail.Reads.Learnt (lent (1 ∷ []), (lent (2 ∷ []), tt)) part
  -- nor at the last difference
  pub tail_last : (part : Lent) → part.now ≡ 4 ∷ [] → Never judge.difference_tail.Reads.Learnt (lent (1 ∷ 2 ∷ []), (lent (3 ∷ 4 ∷ []), tt)) part
  -- it does not have the wanted text's bytes
  pub tail_wanted : (part : Lent) → part.now ≡ 2 ∷ [] → Never judge.difference_tail.Reads.Learnt (lent (1 ∷ 2 ∷ []), (lent (1 ∷ []), tt)) part
  -- nor does it lie in other memory than the found text, also where it is empty
  pub tail_elsewhere : (wanted found part : Lent) → (part.ref_ptr.0 ≡ found.ref_ptr.0 → ⊥) → Never judge.difference_tail.Reads.Learnt (wanted, (found, tt)) part
  -- the empty part of a text that is cut off does not lie at its beginning
  pub tail_begin : (part : Lent) → part.ref_ptr.1 ≡ 0 → Never judge.difference_tail.Reads.Learnt (lent (1 ∷ 2 ∷ []), (lent (1 ∷ []), tt)) part
  -- in a comparison, too, a text that is cut off is not the same
  pub compare_cut : (r : Comparison) → r.difference ≡ None → Never compare_learnt (lent (1 ∷ 2 ∷ []), (lent (1 ∷ []), tt)) r
  -- and the part belongs to the place: where the texts differ at 1, it does not lie at the beginning
  pub compare_part : (r : Comparison) → r.part.ref_ptr.1 ≡ 0 → Never compare_learnt (lent (1 ∷ 2 ∷ []), (lent (1 ∷ 3 ∷ []), tt)) r
  -- fields differ where one holds a beginning of what the other holds, either way round
  pub fields_begun : Never judge.fields_differ.Reads.Learnt (field_of (1 ∷ 2 ∷ []), (field_of (1 ∷ []), tt)) false
  pub fields_longer : Never judge.fields_differ.Reads.Learnt (field_of (1 ∷ []), (field_of (1 ∷ 2 ∷ []), tt)) false
  -- what stands in a field behind its bytes is not compared
  pub fields_behind : Never judge.fields_differ.Reads.Learnt (record { bytes = 1 ∷ 2 ∷ zeros 254; size = 1 }, (field_of (1 ∷ []), tt)) true
  -- nor is a size over 256: such a field holds all of its places
  pub fields_size : Never judge.fields_differ.Reads.Learnt (record { bytes = zeros 256; size = 257 }, (field_of (zeros 256), tt)) true
  -- a record whose cipher is not our own sealing's is not equal: cut off, too long, or of other bytes
  pub judge_cipher : (r : Record) → (held r.cipher ≡ (our_sealing r).cipher → ⊥) → Never judge.judge.Reads.Learnt (r, tt) Equal
  -- a text of one byte and no cipher: the cipher is named, and not the tag
  pub judge_cut_off : Never judge.judge.Reads.Learnt (cut_off, tt) Tag
  -- rounds are compared before the tag: the rules' whole case
  pub judge_rounds : Never judge.judge.Reads.Learnt (case_of 25, tt) Tag
  -- a record whose tag is not our own sealing's is not equal
  pub judge_tag : (r : Record) → (held r.tag ≡ (our_sealing r).tag → ⊥) → Never judge.judge.Reads.Learnt (r, tt) Equal
  -- a published answer of set 3, and one of set 4, is equal, and nothing else
  pub judge_three : Only judge.judge.Reads.Learnt (published_in 3 (0 ∷ []) (0xbc ∷ []) (bytes_of 16 0x18c3f4e39eca7222490d967c79bffc92), tt) Equal
  pub judge_four : Only judge.judge.Reads.Learnt (published_in 4 [] [] (bytes_of 16 0x7a834e6f09210957067b10fd831f0078), tt) Equal
  -- a record of a number that no set has is unread, by its first line
  pub judge_set : (set : ℕ) → NoSet set → Only judge.judge.Reads.Learnt (with_number 2 set (case_of 24), tt) (Unread 1 0)
  -- a chip is not judged: one over 65,535 does not make a record unread
  pub judge_chip : Never judge.judge.Reads.Learnt (with_number 3 65_536 (case_of 25), tt) (Unread 3 0)
  -- a record that is handed over has no column
  pub judge_column : (line column : ℕ) → Never judge.judge.Reads.Learnt (blank, tt) (Unread line (suc column))
  -- and its line is told
  pub judge_line : Never judge.judge.Reads.Learnt (blank, tt) (Unread 0 0)
  -- at the end of the input nothing is waited for
  pub step_end : Never judge.judge_window.Reads.Learnt (lent [], (true, (1, (lent_mut [], tt)))) Wait
  -- a window that is wrong at its first column is not stopped at its second
  pub step_column : (written : ℕ) → Never judge.judge_window.Reads.Learnt (lent (ascii "x"), (true, (1, (lent_mut (zeros 32), tt)))) (Stopped 1 2 written)
  -- what no input can mend is not waited on
  pub step_at_once : Never judge.judge_window.Reads.Learnt (lent (ascii "x"), (false, (1, (lent_mut (zeros 32), tt)))) Wait
  -- what can still become a record is not called broken
  pub step_early : (line column written : ℕ) → Never judge.judge_window.Reads.Learnt (lent (ascii "set=1\nkey=0"), (false, (1, (lent_mut (zeros 32), tt)))) (Stopped line column written)
  -- nor is what can still become a record of form 2
  pub step_inside : (line column written : ℕ) → Never judge.judge_window.Reads.Learnt (lent (ascii "form"), (false, (1, (lent_mut (zeros 32), tt)))) (Stopped line column written)
  -- where the input has ended, it is of form 1, and at fault in its first column
  pub step_inside_end : (written : ℕ) → Never judge.judge_window.Reads.Learnt (lent (ascii "form"), (true, (1, (lent_mut (zeros 32), tt)))) (Stopped 1 5 written)
  -- a report without room is not done
  pub report_room : Never report_learnt (1, (Equal, (lent_mut [], tt))) (record { answer = Done; written = 0 })
  -- the field of an unread record is its line, and not its column
  pub report_column : NeverLeaves report_learnt (1, (Unread 4 7, (lent_mut (zeros 32), tt))) (record { answer = Done; written = 32 })
      (1, (Unread 4 7, (lent_mut (ascii "record=1\nverdict=unread\nfield=7\n"), tt)))
