-- `stream::Stream::took_text` meets its contract.
use Prim.Native.Nat.{◌+◌, ◌%◌}
use native.Mathlib.Omega.{arith}
use Rattle.answers.specs.declared.Answer.TheVariants.{Done}
use Rattle.ascon.specs.Sets.{row_of}
use Rattle.sets.proofs.Rows.{row_sizes}
use Rattle.stream.specs.declared.Phase.TheVariants.{Text}
use Rattle.stream.specs.Calls.{took_text}
use Rattle.stream.proofs.Tests.{rounds_bound, closing_bound}
use Rattle.stream.proofs.Stream.took_text.Goals as goal

pub overflow_add-result : goal.overflow_add-result
overflow_add-result c =
    let a = c.args in
    omega (arith, closing_bound a.self, rounds_bound (row_of a.self.set) (row_sizes a.self.set) a.self.text a.n (omega arith))

pub returns : goal.returns
unfolding took_text
returns c =
    let a = c.args in
    let s = a.self in
    λ j. record {
      answer = Done;
      rounds = c.closing_rounds.ensures j + c.filled_rounds.ensures j;
      next = record {
        words = a.words;
        set = s.set;
        direction = s.direction;
        phase = Text;
        key = s.key;
        ad = s.ad;
        text = s.text + a.n;
        place = (s.text + a.n) % c.block_length.ensures j;
        limit = s.limit;
      };
    }
