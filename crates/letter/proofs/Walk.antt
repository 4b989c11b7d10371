-- The second walk agrees with the first, and with the opening of the whole message: from the second and the third demand, and what is listed and reported.
use mathlib.Core.Path.{◌≡◌, refl, sym, ◌∙◌, subst}
use mathlib.Core.Bool.{Bool, true, false, cond, not}
use mathlib.Core.List.{List}
use mathlib.Core.Logic.{inl, inr}
use Prim.Native.Nat.{ℕ, ◌≤◌}
use native.Mathlib.Omega.{arith}
use lib.ListN.{length}
use borrow.Author.Tests.{eq-eqb, le-leb}
use Rattle.answers.specs.declared.Answer.TheVariants.{Done, TagDiffers}
use Rattle.permutation.specs.Strings.{same}
use Rattle.ascon.specs.Sets.{row_of, ad_limit, text_limit}
use Rattle.ascon.specs.Mode.{decrypted, sealed}
use Rattle.stream.specs.declared.Direction.TheVariants.{Opening}
use Rattle.stream.specs.Calls.{Start}
use Rattle.history.specs.History.{Call, History, begun, after}
use Rattle.history.specs.History as histories
use Rattle.history.specs.Cuts.{start_towards, finish_answer, Message}
use Rattle.history.proofs.History.{passed}
use Rattle.history.proofs.Cuts.{whole}
use Rattle.history.proofs.Directions.{cutting_does_not_matter, walks_agree}
use Rattle.letter.specs.Calls.{Through}
use Rattle.letter.specs.Messages as messages
use Rattle.letter.specs.Model.{Model, ours, Keeps}
use Rattle.letter.specs.Walk.{SecondWalk}
use Rattle.letter.proofs.Messages.{listed, none_opened, reported}
use Rattle.letter.proofs.Second.{unrefused, second_demand}
use Rattle.letter.proofs.Model.{keeps, of_kept}

module _ (start : Start) (A C : List ℕ) (calls : List Call) (tag out : List ℕ) (m : Message histories.ours (start_towards Opening start) A C calls) (room : length C ≤ length out) where
  abbrev set : ℕ
  set = start.set

  abbrev h : History
  h = after histories.ours (begun histories.ours (start_towards Opening start)) calls

  abbrev published : List ℕ
  published = (sealed (row_of set) start.key start.nonce A (decrypted (row_of set) start.key start.nonce A C).out).tag

  -- the opening of the whole message is answered as a finish
  whole_answer : ((messages.ours).unseal set start.key start.nonce A C tag out).outcome.answer ≡ finish_answer Opening (row_of set) published tag
  whole_answer =
      let ok = passed (start_towards Opening start) m.started in
      let short : length C ≤ text_limit = omega (arith, m.text_within, ok.within) in
      listed.unseal set start.key start.nonce A C tag out
      ∙ rw (
        ok.start.known,
        eq-eqb (length start.key) (row_of set).key ok.start.key_fits,
        eq-eqb (length start.nonce) (row_of set).key ok.start.nonce_fits,
        le-leb (length A) ad_limit m.ad_within,
        le-leb (length C) text_limit short,
        le-leb (length C) (length out) room,
        none_opened set start.key start.nonce A C tag ok.start.key_fits,
      )

  -- with a tag of the set's length it is done, or 9
  through : length tag ≡ (row_of set).key → Through (finish_answer Opening (row_of set) published tag)
  through e = rw (eq-eqb (length tag) (row_of set).key e) (go (same tag published))
    where
      go : (t : Bool) → Through (cond (not t) TagDiffers Done)
      go true = inl refl
      go false = inr refl

-- the second walk
pub second_walk : (m : Model) → Keeps m → SecondWalk m
second_walk =
    of_kept SecondWalk
    (record {
      walks = walks_agree;
      whole = λ start A C calls tag out m room.
          let w = whole (start_towards Opening start) A C calls m tag in
          let answer = whole_answer start A C calls tag out m room in
          let o = cutting_does_not_matter.opens (start_towards Opening start) A C calls tag refl m in (
            answer ∙ sym w.answer,
            λ done.
                (((second_demand ours keeps).opens start.set start.key start.nonce A C tag out (unrefused _ (inl (answer ∙ sym w.answer ∙ done)))
                (h start A C calls tag out m room).out).1 ((o.plaintext _).0 (done, refl))).1,
            λ e.
                reported.unseal start.set start.key start.nonce A C tag out (subst Through (sym answer) (through start A C calls tag out m room e)) ∙ sym (w.rounds e),
          );
    })
