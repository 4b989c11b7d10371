-- `rewriting::Spelling::write_in` meets its contract: no more is written than there is room.
use Rattle.std.proofs.Common.{◌≡◌, ℕ, ◌≤◌, Bool, true, false, cond, not, eqb, leb, List, [], ◌∷◌, ◌++◌, length, take, drop, refl, ap, arith, length-take, rules, leb-true}
use Rattle.io.proofs.Counting.{prefix_len_of_le}
use Rattle.answers.specs.declared.Answer.TheVariants.{Done, NoRoom, BrokenRecord, ChipLost}
use Rattle.answers.specs.Numbers.{is_done}
use Rattle.answers.specs.Order.{◌when◌, first}
use Rattle.record.specs.declared.form.Form.{Form}
use Rattle.record.specs.declared.form.Record.{Record}
use Rattle.record.specs.Form.{broken, loses_chip}
use Rattle.record.specs.Text.{text_of}
use Rattle.record.specs.Calls.{WriteLeaves, write_leaves, refused_with, write_call}
use Rattle.rewriting.proofs.Spelling.write_in.Goals as goal

-- no more is written than there is room
written_inside : (form : Form) (r : Record) (out : List ℕ) → (write_call form r out).outcome.written ≤ length out
unfolding write_call refused_with
written_inside form r out = go (eqb (broken form r) 0) (loses_chip form r) (leb (length text) (length out)) refl
  where
    text : List ℕ
    text = text_of form r

    go : (t lost room : Bool) → leb (length text) (length out) ≡ room
        → let answer = first Done (BrokenRecord when not t ∷ ChipLost when lost ∷ NoRoom when not room ∷ []) in
        (cond (is_done answer)
        (write_leaves (record { answer = Done; line = 0; column = 0; written = length text }) (text ++ drop (length text) out))
        (write_leaves (refused_with answer (broken form r)) out)).outcome.written ≤ length out
    go true false true u = leb-true (length text) (length out) u
    go true false false u = omega arith
    go true true room u = omega arith
    go false lost room u = omega arith

pub returns : goal.returns
returns c =
    let a = c.args in
    let part = take a.room a.places.now in
    let written = ap (λ (l : WriteLeaves). l.outcome.written) c.write.ensures in
    let same_length : length c.write.new.out ≡ length part = search rules in
    prefix_len_of_le _ _ (omega (arith, written, written_inside a.self.form a.self.entry part, length-take a.room a.places.now, same_length))
