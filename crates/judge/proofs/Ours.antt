-- Our own sealing, in its parts.
use mathlib.Core.Path.{◌≡◌, ap, ◌∙◌}
use Rattle.record.specs.declared.form.Record.{Record}
use Rattle.record.specs.Form.{held}
use Rattle.record.proofs.Fields.{held_field}
use Rattle.judge.specs.declared.verdict.Ours.{Ours}
use Rattle.judge.specs.Verdicts.{our_sealing, our_rounds, ours_by, ours_of}

-- the rounds, the cipher and the tag
pub our_rounds_are : (r : Record) (ours : Ours) → ours ≡ ours_of r → ours.rounds ≡ our_rounds r
unfolding ours_of ours_by our_rounds
our_rounds_are r ours e = ap (λ (o : Ours). o.rounds) e

pub our_cipher_is : (r : Record) (ours : Ours) → ours ≡ ours_of r → held ours.cipher ≡ (our_sealing r).cipher
unfolding ours_of ours_by our_sealing
our_cipher_is r ours e = ap (λ (o : Ours). held o.cipher) e ∙ held_field (our_sealing r).cipher

pub our_tag_is : (r : Record) (ours : Ours) → ours ≡ ours_of r → held ours.tag ≡ (our_sealing r).tag
unfolding ours_of ours_by our_sealing
our_tag_is r ours e = ap (λ (o : Ours). held o.tag) e ∙ held_field (our_sealing r).tag
