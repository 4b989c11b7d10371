-- `tags::same_tag` meets its contract. The loop's invariant: what was found and what is left decide.
use Rattle.std.proofs.Common.{◌≡◌, ◌&&◌, length, drop}
use Rattle.permutation.specs.Strings.{same}
use Rattle.tags.proofs.same_tag.Given as goal

abbrev pub invariant-loop-their : goal.invariant-loop-their
invariant-loop-their l = let n = length l.yielded in (l.equal && same (drop n l.theirs) (drop n l.ours)) ≡ same l.theirs l.ours
