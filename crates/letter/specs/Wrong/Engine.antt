-- Wrong answers of the calls below the families.
use Rattle.std.specs.Prelude.{true, false, List, [], ◌∷◌, ◌++◌, ℕ, ◌≤◌, replicate}
use Rattle.answers.specs.declared.Answer.TheVariants.{Done, TagDiffers}
use Rattle.permutation.specs.declared.Run.TheVariants.{Twelve, FirstEight, FirstSix, LastEight, LastSix}
use Rattle.permutation.specs.Runs.{rounds, permute, of_words, to_words, permute_words}
use Rattle.permutation.specs.Strings.{bytes_of, zeros}
use Rattle.ascon.specs.Sets.{first_word_v1}
use Rattle.ascon.specs.Known.{counting, counting_on}
use Rattle.sponge.specs.declared.Way.TheVariants.{Seal, Open}
use Rattle.sponge.specs.Sponge.{started, finished}
use Rattle.answers.proofs as answers
use Rattle.permutation.proofs as permutation
use Rattle.timing.proofs as timing
use Rattle.sets.proofs as sets
use Rattle.sponge.proofs as sponge
use Rattle.tags.proofs as tags
use Rattle.letter.specs.Calls.{lent, lent_mut, Never, Only, OnlyFrom, NeverLeaves, NoSet}

-- the second program's answers: the words after a start of sets 3 and 4 under the key and the nonce that count, those after nine ones in set 3 from zeros, and the tag of
-- set 4 behind nine bytes of text and words of zeros
abbrev pub started_three : List ℕ
started_three = 0xcba43b0a331b0ae5 ∷ 0xd0b1251e0aae45b2 ∷ 0x38a513833140c3d8 ∷ 0x9a7e53e8fcfb3832 ∷ 0x51df9d8eccf77b4f ∷ []

abbrev pub started_four : List ℕ
started_four = 0x89d098be2b2b225c ∷ 0x1cb8a65e22eb3671 ∷ 0x5c34ab7444d1ef2e ∷ 0xac2ec59cd1a131f3 ∷ 0x66423ade9c6503da ∷ []

abbrev pub nine_three : List ℕ
nine_three = 0xdc7ac9f7f1127c03 ∷ 0xd0af5be19ec9f900 ∷ 0x5eef1b6c714c5dff ∷ 0xdabd3362ffc066da ∷ 0x986d5d5ccf8693e1 ∷ []

abbrev pub nine_tag : List ℕ
nine_tag = bytes_of 16 0x48cfd7da1bb3a71401d0b91348a21129

pub record Wrong : Type 0 where
  -- done is not 1
  pub number_done : Never answers.number.Reads.Learnt (Done, tt) 1
  -- 9 is not done
  pub is_done_differs : Never answers.is_done.Reads.Learnt (TagDiffers, tt) true
  -- 0 is done
  pub is_done_done : Never answers.is_done.Reads.Learnt (Done, tt) false
  -- x2 is complemented: a round does not leave zeros
  pub rounded_complement : Never permutation.rounded.Reads.Learnt (of_words (zeros 5), (0, tt)) (of_words (zeros 5))
  -- x0 is turned by 19, and not by 18
  pub rounded_turn_x0 : (x1 x2 x3 x4 : ℕ) → Never permutation.rounded.Reads.Learnt (of_words (zeros 5), (1, tt)) (record { x0 = 0x0000401000000001; x1 = x1; x2 = x2; x3 = x3; x4 = x4 })
  -- x1 is turned by 61, and not by 60
  pub rounded_turn_x1 : (x0 x2 x3 x4 : ℕ) → Never permutation.rounded.Reads.Learnt (of_words (zeros 4 ++ (1 ∷ [])), (0, tt)) (record { x0 = x0; x1 = 0x0000000002000011; x2 = x2; x3 = x3; x4 = x4 })
  -- x2 is turned by 1, and not by 2
  pub rounded_turn_x2 : (x0 x1 x3 x4 : ℕ) → Never permutation.rounded.Reads.Learnt (of_words (zeros 4 ++ (1 ∷ [])), (0, tt)) (record { x0 = x0; x1 = x1; x2 = 0xbbfffffffffffffe; x3 = x3; x4 = x4 })
  -- x3 is turned by 10, and not by 11
  pub rounded_turn_x3 : (x0 x1 x2 x4 : ℕ) → Never permutation.rounded.Reads.Learnt (of_words (zeros 4 ++ (1 ∷ [])), (0, tt)) (record { x0 = x0; x1 = x1; x2 = x2; x3 = 0x0020800000000001; x4 = x4 })
  -- x4 is turned by 7, and not by 8
  pub rounded_turn_x4 : (x0 x1 x2 x3 : ℕ) → Never permutation.rounded.Reads.Learnt (of_words (zeros 4 ++ (1 ∷ [])), (0, tt)) (record { x0 = x0; x1 = x1; x2 = x2; x3 = x3; x4 = 0x0100000000800001 })
  -- v1's runs do not take the last constants, nor the later edition's the first
  pub permuted_last_eight : Never permutation.permuted.Reads.Learnt (of_words (zeros 5), (FirstEight, tt)) (permute LastEight (of_words (zeros 5)))
  pub permuted_last_six : Never permutation.permuted.Reads.Learnt (of_words (zeros 5), (FirstSix, tt)) (permute LastSix (of_words (zeros 5)))
  pub permuted_first_eight : Never permutation.permuted.Reads.Learnt (of_words (zeros 5), (LastEight, tt)) (permute FirstEight (of_words (zeros 5)))
  pub permuted_first_six : Never permutation.permuted.Reads.Learnt (of_words (zeros 5), (LastSix, tt)) (permute FirstSix (of_words (zeros 5)))
  -- x0 and x1 do not change places
  pub permute_words_swapped : let s = permute FirstSix (of_words (zeros 5)) in
      NeverLeaves permutation.permute_words.Reads.Learnt (lent_mut (zeros 5), (FirstSix, tt)) tt (lent_mut (s.x1 ∷ s.x0 ∷ s.x2 ∷ s.x3 ∷ s.x4 ∷ []), (FirstSix, tt))
  -- the constants do not fall by 10: round 1 does not take e0
  pub permute_words_constant : NeverLeaves permutation.permute_words.Reads.Learnt (lent_mut (zeros 5), (FirstSix, tt)) tt
      (lent_mut (to_words (rounds (0xf0 ∷ 0xe0 ∷ 0xd0 ∷ 0xc0 ∷ 0xb0 ∷ 0xa0 ∷ []) (of_words (zeros 5)))), (FirstSix, tt))
  -- seven rounds are not run
  pub permute_seven : Never timing.kvistmaur_permute.Reads.Learnt (7, (lent_mut (zeros 5), tt)) 7
  -- reading does not go on behind `g`
  pub read_digits_past : Never timing.kvistmaur_read_digits.Reads.Learnt (lent_mut (0x30 ∷ 0x67 ∷ 0x31 ∷ []), tt) 3
  -- a digit's place does not keep the character
  pub read_digits_kept : NeverLeaves timing.kvistmaur_read_digits.Reads.Learnt (lent_mut (0x31 ∷ []), tt) 1 (lent_mut (0x31 ∷ []), tt)
  -- 0 is no set, nor is any number over 4: not 5, and not one whose low bits are a set's
  pub is_set_none : (set : ℕ) → NoSet set → Never sets.is_set.Reads.Learnt (set, tt) true
  -- and 1 to 4 are sets
  pub is_set_each : (set : ℕ) → 1 ≤ set → set ≤ 4 → Never sets.is_set.Reads.Learnt (set, tt) false
  -- sets 1 to 4 have no other key, block, run between, number of rounds, or first word than these: set 4 no block of 8, set 3 not the first constants, and set 1 not the last
  pub key_lengths : OnlyFrom sets.key_length.Reads.Learnt 1 (16 ∷ 12 ∷ 16 ∷ 16 ∷ [])
  pub block_lengths : OnlyFrom sets.block_length.Reads.Learnt 1 (8 ∷ 16 ∷ 8 ∷ 16 ∷ [])
  pub runs_between : OnlyFrom sets.between.Reads.Learnt 1 (FirstSix ∷ FirstEight ∷ LastSix ∷ LastEight ∷ [])
  pub rounds_between : OnlyFrom sets.rounds_between.Reads.Learnt 1 (6 ∷ 8 ∷ 6 ∷ 8 ∷ [])
  pub first_words : OnlyFrom sets.first_word.Reads.Learnt 1 (0x800c060000000000 ∷ 0x600c080000000000 ∷ 0x80400c0600000000 ∷ 0x80800c0800000000 ∷ [])
  -- a message of nothing has its rounds at the start and at the end
  pub message_rounds_none : Never sets.message_rounds.Reads.Learnt (1, (0, (0, tt))) 0
  -- data of a whole block has a block more, and so has text, which runs only between
  pub message_rounds_block : Never sets.message_rounds.Reads.Learnt (1, (8, (0, tt))) 30
  pub message_rounds_text : Never sets.message_rounds.Reads.Learnt (1, (1, (8, tt))) 30
  -- set 2 has eight rounds between
  pub message_rounds_two : Never sets.message_rounds.Reads.Learnt (2, (16, (15, tt))) 36
  -- set 3 has six, and blocks of 8; set 4 has eight, and blocks of 16
  pub message_rounds_three : Only sets.message_rounds.Reads.Learnt (3, (7, (8, tt))) 36
  pub message_rounds_four : Only sets.message_rounds.Reads.Learnt (4, (15, (16, tt))) 40
  -- a start under zeros does not leave zeros
  pub start_zeros : Never sponge.start.Reads.Learnt (1, (zeros 16, (zeros 16, tt))) (zeros 5)
  -- the first word of set 2 does not say six rounds between
  pub start_other_word : Never sponge.start.Reads.Learnt (2, (zeros 16, (zeros 16, tt)))
      (started (record { key = 12; block = 16; ends = Twelve; between = FirstSix; word = first_word_v1 12 Twelve FirstSix; key_at = 16 }) (zeros 16) (zeros 16))
  -- a start of sets 3 and 4 makes no other state than the second program's: the key stands behind the first word, also where the block is longer, and the nonce behind the key
  pub start_three : Only sponge.start.Reads.Learnt (3, (counting, (counting_on, tt)))
      started_three
  pub start_four : Only sponge.start.Reads.Learnt (4, (counting, (counting_on, tt)))
      started_four
  -- the ninth byte goes into the first word, and not on into the second
  pub absorb_next_block : Never sponge.absorb.Reads.Learnt (1, (Seal, (zeros 5, (0, (lent (zeros 8 ++ (1 ∷ [])), tt)))))
      (0x202caaa308f6e2b0 ∷ 0xfee8b912453958f1 ∷ 0x36d35fb0ba000b3e ∷ 0xe52a057258368019 ∷ 0xecff298d481ed95d ∷ [])
  -- a block is run when it is full, with its set's constants, and the next byte goes into the first word: the words are the second program's. Sets 1 and 3 have run behind their eighth byte,
  -- set 4 behind its sixteenth, and not before
  pub absorb_one : Only sponge.absorb.Reads.Learnt (1, (Seal, (zeros 5, (0, (lent (replicate 9 1), tt)))))
      (0x705ccbffbfee79d2 ∷ 0x0ee40746a7b7f520 ∷ 0x3cc4f8432d464a1b ∷ 0xd80491d82511771b ∷ 0x66e53d0098d8bf50 ∷ [])
  pub absorb_three : Only sponge.absorb.Reads.Learnt (3, (Seal, (zeros 5, (0, (lent (replicate 9 1), tt)))))
      nine_three
  pub absorb_four : Only sponge.absorb.Reads.Learnt (4, (Seal, (zeros 5, (0, (lent (replicate 15 1), tt))))) (0x0101010101010101 ∷ 0x0101010101010100 ∷ zeros 3)
  pub absorb_four_full : Only sponge.absorb.Reads.Learnt (4, (Seal, (zeros 5, (0, (lent (replicate 16 1), tt)))))
      (0x38c6c01cc449bd51 ∷ 0x4c1340dc5a76151e ∷ 0x3ee0b92c26e0456d ∷ 0xa3af97b4a40892cc ∷ 0x5143de7a4cf45d5a ∷ [])
  -- opening, no bit of the old byte stays
  pub absorb_old_bit : Never sponge.absorb.Reads.Learnt (1, (Open, (0x8000000000000000 ∷ zeros 4, (0, (lent (0 ∷ []), tt))))) (0x8000000000000000 ∷ zeros 4)
  -- what goes out at the ninth byte is the first word's, and not the second's
  pub crypt_next_block : NeverLeaves sponge.crypt.Reads.Learnt (1, (Seal, (zeros 5, (0, (lent (zeros 9), (lent_mut (zeros 9), tt)))))) (permute_words FirstSix (zeros 5))
      (1, (Seal, (zeros 5, (0, (lent (zeros 9), (lent_mut (zeros 8 ++ (0xff ∷ [])), tt))))))
  -- a piece behind the first is not copied
  pub crypt_later_copied : NeverLeaves sponge.crypt.Reads.Learnt (1, (Seal, (0x0001000000000000 ∷ zeros 4, (1, (lent (0 ∷ []), (lent_mut (0 ∷ []), tt)))))) (0x0001000000000000 ∷ zeros 4)
      (1, (Seal, (0x0001000000000000 ∷ zeros 4, (1, (lent (0 ∷ []), (lent_mut (0 ∷ []), tt))))))
  -- closing empty data flips the last bit
  pub close_no_flip : Never sponge.close_ad.Reads.Learnt (1, (zeros 5, (0, tt))) (zeros 5)
  -- closing empty data does not flip a bit of the first word
  pub close_other_end : Never sponge.close_ad.Reads.Learnt (1, (zeros 5, (0, tt))) (1 ∷ zeros 4)
  -- the key of set 2 goes behind a block of 16 bytes, and not of 8
  pub finish_key_at_eight : Never sponge.finish.Reads.Learnt (2, (zeros 5, (0, (replicate 12 1 ++ zeros 4, tt))))
      (finished (record { key = 12; block = 8; ends = Twelve; between = FirstEight; word = first_word_v1 12 Twelve FirstEight; key_at = 16 }) (zeros 5) 0 (replicate 12 1 ++ zeros 4))
  -- that of set 3 behind 8 bytes, and that of set 4 behind 16: the tags are the second program's, and no others
  pub finish_three : Only sponge.finish.Reads.Learnt (3, (zeros 5, (9, (counting, tt)))) (bytes_of 16 0x6577460c2d4fbc2187967d497f709898)
  pub finish_four : Only sponge.finish.Reads.Learnt (4, (zeros 5, (9, (counting, tt)))) nine_tag
  -- a short string is not dropped
  pub sixteen_short : Never tags.sixteen.Reads.Learnt (lent (1 ∷ []), tt) (zeros 16)
  -- a string of 17 bytes is not cut to 16
  pub sixteen_long : Never tags.sixteen.Reads.Learnt (lent (replicate 17 1), tt) (replicate 16 1)
  -- a place of 12 does not stay as it was
  pub give_tag_nothing : NeverLeaves tags.give_tag.Reads.Learnt (replicate 16 1, (lent_mut (zeros 12), tt)) tt (replicate 16 1, (lent_mut (zeros 12), tt))
  -- a place of 17 stays as it was
  pub give_tag_long : NeverLeaves tags.give_tag.Reads.Learnt (replicate 16 1, (lent_mut (zeros 17), tt)) tt (replicate 16 1, (lent_mut (replicate 17 1), tt))
  -- the beginning of a tag is not the tag
  pub same_tag_short : Never tags.same_tag.Reads.Learnt (lent (zeros 16), (lent (zeros 12), tt)) true
  -- the empty string is not the tag
  pub same_tag_empty : Never tags.same_tag.Reads.Learnt (lent (zeros 16), (lent [], tt)) true
  -- a tag with a byte more is not the tag
  pub same_tag_long : Never tags.same_tag.Reads.Learnt (lent (zeros 16), (lent (zeros 17), tt)) true
  -- a tag whose last byte differs is not the tag
  pub same_tag_last : Never tags.same_tag.Reads.Learnt (lent (zeros 16), (lent (zeros 15 ++ (1 ∷ [])), tt)) true
