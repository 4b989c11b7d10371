-- Every public call below the families is proved, asks nothing, and has one outcome.
use Rattle.answers.proofs as answers
use Rattle.permutation.proofs as permutation
use Rattle.timing.proofs as timing
use Rattle.sets.proofs as sets
use Rattle.sponge.proofs as sponge
use Rattle.tags.proofs as tags
use Rattle.letter.specs.Engine.{EveryCall}
use Rattle.letter.proofs.Calls.{answered}

-- each is answered
pub every_call : EveryCall
every_call =
    record {
      answers_number = answered (λ M. answers.number.Met.met) (λ κ a. tt) (λ κ a r e p. p);
      answers_is_done = answered (λ M. answers.is_done.Met.met) (λ κ a. tt) (λ κ a r e p. p);
      permutation_rounded = answered (λ M. permutation.rounded.Met.met) (λ κ a. tt) (λ κ a r e p. p);
      permutation_permuted = answered (λ M. permutation.permuted.Met.met) (λ κ a. tt) (λ κ a r e p. p);
      permutation_permute_words = answered (λ M. permutation.permute_words.Met.met) (λ κ a. tt) (λ κ a r e p. p);
      timing_kvistmaur_permute = answered (λ M. timing.kvistmaur_permute.Met.met) (λ κ a. tt) (λ κ a r e p. p);
      timing_kvistmaur_read_digits = answered (λ M. timing.kvistmaur_read_digits.Met.met) (λ κ a. tt) (λ κ a r e p. p);
      sets_is_set = answered (λ M. sets.is_set.Met.met) (λ κ a. tt) (λ κ a r e p. p);
      sets_key_length = answered (λ M. sets.key_length.Met.met) (λ κ a. tt) (λ κ a r e p. p);
      sets_block_length = answered (λ M. sets.block_length.Met.met) (λ κ a. tt) (λ κ a r e p. p);
      sets_between = answered (λ M. sets.between.Met.met) (λ κ a. tt) (λ κ a r e p. p);
      sets_rounds_between = answered (λ M. sets.rounds_between.Met.met) (λ κ a. tt) (λ κ a r e p. p);
      sets_first_word = answered (λ M. sets.first_word.Met.met) (λ κ a. tt) (λ κ a r e p. p);
      sets_message_rounds = answered (λ M. sets.message_rounds.Met.met) (λ κ a. tt) (λ κ a r e p. p);
      sponge_start = answered (λ M. sponge.start.Met.met) (λ κ a. tt) (λ κ a r e p. p);
      sponge_absorb = answered (λ M. sponge.absorb.Met.met) (λ κ a. tt) (λ κ a r e p. p);
      sponge_crypt = answered (λ M. sponge.crypt.Met.met) (λ κ a. tt) (λ κ a r e p. p);
      sponge_close_ad = answered (λ M. sponge.close_ad.Met.met) (λ κ a. tt) (λ κ a r e p. p);
      sponge_finish = answered (λ M. sponge.finish.Met.met) (λ κ a. tt) (λ κ a r e p. p.0);
      tags_sixteen = answered (λ M. tags.sixteen.Met.met) (λ κ a. tt) (λ κ a r e p. p);
      tags_give_tag = answered (λ M. tags.give_tag.Met.met) (λ κ a. tt) (λ κ a r e p. p);
      tags_same_tag = answered (λ M. tags.same_tag.Met.met) (λ κ a. tt) (λ κ a r e p. p);
    }
