-- An answer and its rounds in one word.
use Rattle.std.specs.Prelude.{ℕ, ◌+◌, ◌*◌}
use Rattle.answers.specs.declared.Answer.{Answer}
use Rattle.answers.specs.Numbers.{number_of}
use Rattle.message.specs.declared.Outcome.{Outcome}

-- 16 × rounds + answer
abbrev pub one_word : Answer → ℕ → ℕ
one_word answer rounds = 16 * rounds + number_of answer

-- the word of a whole message's outcome
abbrev pub word_of : Outcome → ℕ
word_of outcome = one_word outcome.answer outcome.rounds
