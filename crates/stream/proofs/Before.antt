-- With the largest limit, the tests of streams are those of before.
use mathlib.Core.Path.{◌≡◌, refl, sym, ◌∙◌}
use mathlib.Core.Bool.{Bool, true, false, cond}
use Rattle.answers.specs.declared.Answer.{Answer}
use Rattle.answers.specs.declared.Answer.TheVariants.{Done}
use Rattle.answers.specs.Numbers.{is_done}
use Rattle.answers.proofs.Numbers.{done_is}
use Rattle.sets.specs.Start.{start_test}
use Rattle.stream.specs.State.{is_sound_open}
use Rattle.stream.specs.Before.{AsBefore}
use Rattle.stream.proofs.Tests.{limited_start_test_is}

-- `Done` in the place of a done answer changes nothing
done_or : (answer : Answer) → cond (is_done answer) Done answer ≡ answer
done_or answer = go (is_done answer) refl
  where
    go : (t : Bool) → is_done answer ≡ t → cond t Done answer ≡ answer
    go true e = sym (done_is answer e)
    go false e = refl

pub as_before : AsBefore
unfolding is_sound_open
as_before =
    record {
      start = λ set key nonce. limited_start_test_is set key nonce _ ∙ done_or (start_test set key nonce);
      sound = λ s count e. rw e;
      text = λ d s n room o e. rw e;
    }
