-- What sealing and opening a whole message answer: the tests in their order, the rounds, and what each lent place then holds.
use Rattle.std.specs.Prelude.{Bool, true, false, cond, not, ◌||◌, List, [], ◌∷◌, ◌++◌, ℕ, eqb, leb, length, drop}
use Rattle.std.proofs.Math.Option.{Option, some, none}
use Rattle.answers.specs.declared.Answer.{Answer}
use Rattle.answers.specs.declared.Answer.TheVariants.{Done, TagLength, PastLimit, NoRoom, TagDiffers}
use Rattle.answers.specs.Numbers.{is_done}
use Rattle.answers.specs.Order.{Choice, ◌when◌, first}
use Rattle.ascon.specs.Sets.{row_of, ad_limit, text_limit}
use Rattle.permutation.specs.Strings.{zeros}
use Rattle.ascon.specs.Mode.{sealed, opened}
use Rattle.ascon.specs.Rounds.{message_rounds}
use Rattle.sets.specs.Start.{start_faults}
use Rattle.message.specs.declared.Outcome.{Outcome}

-- ---- the tests, in their order

-- of lengths: 1, 2, 3 as a start has them, then 4, 5, 6
abbrev pub faults : ℕ → ℕ → ℕ → ℕ → ℕ → ℕ → ℕ → List (Choice Answer)
faults set key nonce tag ad text out =
    start_faults set key nonce
    ++ TagLength when not (eqb tag (row_of set).key)
    ∷ PastLimit when (not (leb ad ad_limit) || not (leb text text_limit))
    ∷ NoRoom when not (leb text out)
    ∷ []

unfoldable pub message_test : ℕ → ℕ → ℕ → ℕ → ℕ → ℕ → ℕ → Answer
message_test set key nonce tag ad text out = first Done (faults set key nonce tag ad text out)

-- ---- sealing

-- an outcome, and what the places of the ciphertext and of the tag then hold
pub record SealLeaves : Type 0 where
  pub outcome : Outcome
  pub out : List ℕ
  pub tag : List ℕ

abbrev pub seal_leaves : Outcome → List ℕ → List ℕ → SealLeaves
seal_leaves outcome out tag = record { outcome = outcome; out = out; tag = tag }

-- the published ciphertext and tag; bytes of `out` beyond the text stay
unfoldable pub seal_call : ℕ → List ℕ → List ℕ → List ℕ → List ℕ → List ℕ → List ℕ → SealLeaves
seal_call set K N A P out tag =
    let answer = message_test set (length K) (length N) (length tag) (length A) (length P) (length out) in
    let message = sealed (row_of set) K N A P in
    cond (is_done answer)
    (seal_leaves (record { answer = Done; rounds = message_rounds (row_of set) (length A) (length P) }) (message.cipher ++ drop (length P) out) message.tag)
    (seal_leaves (record { answer = answer; rounds = 0 }) out tag)

-- ---- opening

-- an outcome, and what the place of the plaintext then holds
pub record OpenLeaves : Type 0 where
  pub outcome : Outcome
  pub out : List ℕ

abbrev pub open_leaves : Outcome → List ℕ → OpenLeaves
open_leaves outcome out = record { outcome = outcome; out = out }

-- nothing was opened
abbrev pub is_none : Option (List ℕ) → Bool
is_none (some P) = false
is_none none = true

-- behind the tests, of what was opened: 9
abbrev pub open_faults : Option (List ℕ) → List (Choice Answer)
open_faults opening = TagDiffers when is_none opening ∷ []

-- the plaintext, or n zeros
abbrev pub or_zeros : Option (List ℕ) → ℕ → List ℕ
or_zeros (some P) n = P
or_zeros none n = zeros n

-- an opening of n bytes; bytes of `out` beyond them stay
abbrev pub judged : Option (List ℕ) → ℕ → ℕ → List ℕ → OpenLeaves
judged opening rounds n out = open_leaves (record { answer = first Done (open_faults opening); rounds = rounds }) (or_zeros opening n ++ drop n out)

-- the published opening
unfoldable pub open_call : ℕ → List ℕ → List ℕ → List ℕ → List ℕ → List ℕ → List ℕ → OpenLeaves
open_call set K N A C T out =
    let answer = message_test set (length K) (length N) (length T) (length A) (length C) (length out) in
    cond (is_done answer) (judged (opened (row_of set) K N A C T) (message_rounds (row_of set) (length A) (length C)) (length C) out)
    (open_leaves (record { answer = answer; rounds = 0 }) out)
