-- The calls below the families, answers, permutation, sets, sponge and tags, and the timing program's C boundary.
use Rattle.answers.specs.Numbers.{number_of, is_done}
use Rattle.permutation.specs.Round.{round}
use Rattle.permutation.specs.Runs.{rounds_of, permute, permute_words}
use Rattle.timing.specs.Call as timed
use Rattle.ascon.specs.Sets.{is_set, row_of}
use Rattle.ascon.specs.Rounds.{message_rounds}
use Rattle.permutation.specs.Strings.{value_of, same}
use Rattle.sponge.specs.Sponge.{started, absorbed, crypted, crypted_of, ad_closed, finished}
use Rattle.tags.specs.Tags.{sixteen_of, given_tag}
use Rattle.answers.proofs as answers
use Rattle.permutation.proofs as permutation
use Rattle.timing.proofs as timing
use Rattle.sets.proofs as sets
use Rattle.sponge.proofs as sponge
use Rattle.tags.proofs as tags
use Rattle.letter.specs.Calls.{Answered}

-- each public call below the families, of which theirs are built
pub record EveryCall : Type 2 where
  -- ---- answers
  pub answers_number : Answered answers.number.Statement.statement answers.number.Reads.Asked answers.number.Reads.Learnt (λ r e. r) (λ (answer, _). number_of answer)
  pub answers_is_done : Answered answers.is_done.Statement.statement answers.is_done.Reads.Asked answers.is_done.Reads.Learnt (λ r e. r) (λ (answer, _). is_done answer)
  -- ---- permutation
  pub permutation_rounded : Answered permutation.rounded.Statement.statement permutation.rounded.Reads.Asked permutation.rounded.Reads.Learnt (λ r e. r) (λ (s, (c, _)). round c s)
  pub permutation_permuted : Answered permutation.permuted.Statement.statement permutation.permuted.Reads.Asked permutation.permuted.Reads.Learnt (λ r e. r) (λ (s, (run, _)). permute run s)
  pub permutation_permute_words : Answered permutation.permute_words.Statement.statement permutation.permute_words.Reads.Asked permutation.permute_words.Reads.Learnt
      (λ r (words, _). words.now) (λ (words, (run, _)). permute_words run words.now)
  -- ---- timing
  pub timing_kvistmaur_permute : Answered timing.kvistmaur_permute.Statement.statement timing.kvistmaur_permute.Reads.Asked timing.kvistmaur_permute.Reads.Learnt
      (λ r (rounds, (words, _)). timed.called r words.now) (λ (rounds, (words, _)). timed.permute_call rounds words.now)
  pub timing_kvistmaur_read_digits : Answered timing.kvistmaur_read_digits.Statement.statement timing.kvistmaur_read_digits.Reads.Asked timing.kvistmaur_read_digits.Reads.Learnt
      (λ r (text, _). timed.called r text.now) (λ (text, _). timed.read_digits text.now)
  -- ---- sets
  pub sets_is_set : Answered sets.is_set.Statement.statement sets.is_set.Reads.Asked sets.is_set.Reads.Learnt (λ r e. r) (λ (set, _). is_set set)
  pub sets_key_length : Answered sets.key_length.Statement.statement sets.key_length.Reads.Asked sets.key_length.Reads.Learnt (λ r e. r) (λ (set, _). (row_of set).key)
  pub sets_block_length : Answered sets.block_length.Statement.statement sets.block_length.Reads.Asked sets.block_length.Reads.Learnt (λ r e. r) (λ (set, _). (row_of set).block)
  pub sets_between : Answered sets.between.Statement.statement sets.between.Reads.Asked sets.between.Reads.Learnt (λ r e. r) (λ (set, _). (row_of set).between)
  pub sets_rounds_between : Answered sets.rounds_between.Statement.statement sets.rounds_between.Reads.Asked sets.rounds_between.Reads.Learnt
      (λ r e. r) (λ (set, _). rounds_of (row_of set).between)
  pub sets_first_word : Answered sets.first_word.Statement.statement sets.first_word.Reads.Asked sets.first_word.Reads.Learnt (λ r e. r) (λ (set, _). value_of (row_of set).word)
  pub sets_message_rounds : Answered sets.message_rounds.Statement.statement sets.message_rounds.Reads.Asked sets.message_rounds.Reads.Learnt
      (λ r e. r) (λ (set, (ad, (text, _))). message_rounds (row_of set) ad text)
  -- ---- sponge
  pub sponge_start : Answered sponge.start.Statement.statement sponge.start.Reads.Asked sponge.start.Reads.Learnt
      (λ r e. r) (λ (set, (key, (nonce, _))). started (row_of set) key nonce)
  pub sponge_absorb : Answered sponge.absorb.Statement.statement sponge.absorb.Reads.Asked sponge.absorb.Reads.Learnt
      (λ r e. r) (λ (set, (way, (words, (count, (piece, _))))). absorbed (row_of set) way words count piece.now)
  pub sponge_crypt : Answered sponge.crypt.Statement.statement sponge.crypt.Reads.Asked sponge.crypt.Reads.Learnt
      (λ r (set, (way, (words, (count, (piece, (out, _)))))). crypted r out.now)
      (λ (set, (way, (words, (count, (piece, (out, _)))))). crypted_of (row_of set) way words count piece.now out.now)
  pub sponge_close_ad : Answered sponge.close_ad.Statement.statement sponge.close_ad.Reads.Asked sponge.close_ad.Reads.Learnt
      (λ r e. r) (λ (set, (words, (count, _))). ad_closed (row_of set) words count)
  pub sponge_finish : Answered sponge.finish.Statement.statement sponge.finish.Reads.Asked sponge.finish.Reads.Learnt
      (λ r e. r) (λ (set, (words, (count, (key, _)))). finished (row_of set) words count key)
  -- ---- tags
  pub tags_sixteen : Answered tags.sixteen.Statement.statement tags.sixteen.Reads.Asked tags.sixteen.Reads.Learnt (λ r e. r) (λ (string, _). sixteen_of string.now)
  pub tags_give_tag : Answered tags.give_tag.Statement.statement tags.give_tag.Reads.Asked tags.give_tag.Reads.Learnt
      (λ r (ours, (tag, _)). tag.now) (λ (ours, (tag, _)). given_tag ours tag.now)
  pub tags_same_tag : Answered tags.same_tag.Statement.statement tags.same_tag.Reads.Asked tags.same_tag.Reads.Learnt
      (λ r e. r) (λ (ours, (theirs, _)). same theirs.now ours.now)
