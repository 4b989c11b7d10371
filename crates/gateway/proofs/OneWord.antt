-- What a word says: the remainder by 16 is the answer's number, the rest the rounds.
use mathlib.Core.Path.{◌≡◌}
use Prim.Native.Nat.{ℕ, ◌/◌, ◌%◌}
use native.Mathlib.Omega.{arith}
use Rattle.answers.specs.declared.Answer.{Answer}
use Rattle.answers.specs.Numbers.{number_of}
use Rattle.answers.proofs.Numbers.{number_small}
use Rattle.gateway.specs.Word.{one_word}

pub word_answer : (answer : Answer) (rounds : ℕ) → one_word answer rounds % 16 ≡ number_of answer
word_answer answer rounds = omega (arith, number_small answer)

pub word_rounds : (answer : Answer) (rounds : ℕ) → one_word answer rounds / 16 ≡ rounds
word_rounds answer rounds = omega (arith, number_small answer)
