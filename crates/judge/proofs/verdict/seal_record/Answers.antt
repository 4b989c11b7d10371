-- `judge::verdict::seal_record` meets its contract.
use mathlib.Core.Path.{◌≡◌, sym, ap, ap₂, ◌∙◌}
use mathlib.Core.List.{List, ◌++◌}
use Prim.Native.Nat.{ℕ, ◌-◌, ◌≤◌}
use native.Mathlib.Omega.{arith}
use lib.ListN.{length, take, drop}
use lib.Seq.{length-take-le}
use Rattle.ascon.specs.Sets.{row_of}
use Rattle.permutation.specs.Strings.{zeros}
use Rattle.ascon.specs.Mode.{sealed}
use Rattle.permutation.proofs.Strings.{drop_zeros}
use Rattle.sets.proofs.Rows.{row_sizes}
use Rattle.message.specs.declared.Outcome.{Outcome}
use Rattle.message.specs.Message.{SealLeaves, seal_leaves, seal_call}
use Rattle.message.proofs.Promise.{length_cipher, length_sealed_tag, seal_done}
use Rattle.record.specs.declared.field.Field.{Field}
use Rattle.record.specs.declared.form.Form.TheVariants.{One}
use Rattle.record.specs.declared.form.Record.{Record}
use Rattle.record.specs.Form.{field_of, held, broken}
use Rattle.record.proofs.InForm.{in_form}
use Rattle.judge.specs.Verdicts.{ours_by, ours_of}
use Rattle.judge.proofs.verdict.seal_record.Goals as goal

-- a field of at most 256 bytes holds as many as it says
full : (f : Field) → length f.bytes ≡ 256 → f.size ≤ 256 → length (held f) ≡ f.size
full f whole most = length-take-le f.size f.bytes (omega arith)

-- the key of a record in form has at most 256 bytes
key-most : (r : Record) → broken One r ≡ 0 → r.key.size ≤ 256
key-most r sound = omega (arith, (in_form One r sound).key, (row_sizes r.set).key)

-- what the promise gives is our sealing in two fields
ours-are : (r : Record) (out tag : List ℕ) (o : Outcome) → broken One r ≡ 0
    → length r.key.bytes ≡ 256 → length r.nonce.bytes ≡ 256 → length r.ad.bytes ≡ 256 → length r.text.bytes ≡ 256
    → seal_leaves o out tag ≡ seal_call r.set (held r.key) (held r.nonce) (held r.ad) (held r.text) (zeros 256) (take r.key.size (zeros 256))
    → record {
      rounds = o.rounds;
      cipher = record { bytes = out; size = r.text.size };
      tag = record { bytes = tag ++ drop r.key.size (zeros 256); size = r.key.size };
    }
    ≡ ours_of r
unfolding ours_of ours_by field_of
ours-are r out tag o sound k n a t promised =
    let f = in_form One r sound in
    let most = key-most r sound in
    let K = held r.key in
    let N = held r.nonce in
    let A = held r.ad in
    let P = held r.text in
    let keyed = full r.key k most ∙ f.key in
    let nonced = full r.nonce n (omega (arith, f.key, f.nonce)) ∙ f.nonce in
    let aded = full r.ad a f.ad in
    let texted = full r.text t f.text in
    let whole = length-take-le r.key.size (zeros 256) (omega arith) in
    let done =
    promised
    ∙ seal_done r.set K N A P keyed (zeros 256) (take r.key.size (zeros 256)) f.known nonced (whole ∙ f.key) (omega (arith, aded, f.ad)) (omega (arith, texted, f.text)) (omega (arith, texted, f.text)) in
    let cipher = length_cipher r.set K N A P keyed in
    let tagged = length_sealed_tag r.set K N A P keyed in
    let message = sealed (row_of r.set) K N A P in
    let in-cipher : out ≡ message.cipher ++ zeros (256 - length message.cipher) =
    ap (λ (l : SealLeaves). l.out) done ∙ ap (λ (y : List ℕ). message.cipher ++ y) (drop_zeros (length P) 256 ∙ ap (λ (i : ℕ). zeros (256 - i)) (sym cipher)) in
    let in-tag : tag ++ drop r.key.size (zeros 256) ≡ message.tag ++ zeros (256 - length message.tag) =
    ap₂ (λ (x y : List ℕ). x ++ y) (ap (λ (l : SealLeaves). l.tag) done) (drop_zeros r.key.size 256 ∙ ap (λ (i : ℕ). zeros (256 - i)) (f.key ∙ sym tagged)) in
    λ j. record {
      rounds = ap (λ (l : SealLeaves). l.outcome.rounds) done j;
      cipher = record { bytes = in-cipher j; size = (sym texted ∙ sym cipher) j };
      tag = record { bytes = in-tag j; size = (f.key ∙ sym tagged) j };
    }

pub slice_bounds-tag-end : goal.slice_bounds-tag-end
slice_bounds-tag-end c = key-most c.args.entry c.requires

pub slice_bounds-seal-end-2 : goal.slice_bounds-seal-end-2
slice_bounds-seal-end-2 c = sym (length-take-le _ _ (key-most c.args.entry c.requires))

pub returns : goal.returns
returns c =
    let entry = c.args.entry in
    let fields = c.well_formed.0.1.1.1.1 in
    ours-are entry _ _ c.seal-outcome.result c.requires
    fields.0.1.1.0.1.0.1
    fields.1.0.1.1.0.1.0.1
    fields.1.1.0.1.1.0.1.0.1
    fields.1.1.1.0.1.1.0.1.0.1
    (c.seal-outcome.ensures ∙ (λ j. seal_call entry.set (c.held.ensures j) (c.held-2.ensures j) (c.held-3.ensures j) (c.held-4.ensures j) (zeros 256) (take entry.key.size (zeros 256))))
