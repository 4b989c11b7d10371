-- `message::process` meets its contract.
use mathlib.Core.Path.{◌≡◌, ap, ap₂, ◌∙◌}
use mathlib.Core.List.{List, ◌++◌}
use Prim.Native.Nat.{ℕ, ◌-◌}
use native.Mathlib.Omega.{arith}
use lib.ListN.{length}
use Rattle.permutation.specs.Strings.{Bytes, words_of_string, zeros}
use Rattle.ascon.specs.Sets.{row_of}
use Rattle.ascon.specs.Mode.{initialise, before_text}
use Rattle.sponge.specs.declared.Way.TheVariants.{Seal}
use Rattle.sponge.specs.Sponge.{started, absorbed, ad_closed, crypted_of, Crypted, finished}
use Rattle.sets.proofs.Rows.{row_fits, row_sizes}
use Rattle.tags.proofs.Compared.{sixteen_is}
use Rattle.message.proofs.Whole.{started_is, before_is, crypted_is, tagged_is}
use Rattle.message.proofs.Message.process.Goals as goal

pub returns : goal.returns
returns c =
    let a = c.args.self in
    let pre = c.requires in
    let row = row_of a.set in
    let fits = row_fits a.set in
    let K = a.key.now in
    let N = a.nonce.now in
    let A = a.ad.now in
    let X = a.text.now in
    let key : length K ≡ row.key = pre.key_len in
    let nonce : length N ≡ row.key = pre.nonce_len in
    let kb : Bytes K = pre.bytes.0 in
    let ab : Bytes A = pre.bytes.1.0 in
    let xb : Bytes X = pre.bytes.1.1 in
    let k : c.sixteen-key16.result ≡ K ++ zeros (16 - length K) =
    c.sixteen-key16.ensures ∙ sixteen_is K (omega (arith, key, (row_sizes a.set).key)) in
    let n : c.sixteen.result ≡ N ++ zeros (16 - length N) =
    c.sixteen.ensures ∙ sixteen_is N (omega (arith, nonce, (row_sizes a.set).key)) in
    let first : c.start-started.result ≡ words_of_string (initialise row K N) =
    c.start-started.ensures ∙ ap₂ (λ (x y : List ℕ). started row x y) k n
    ∙ started_is row fits K N key nonce kb in
    let before : c.close_ad-before.result ≡ words_of_string (before_text row K N A) =
    c.close_ad-before.ensures
    ∙ ap (λ (w : List ℕ). ad_closed row w (length A))
    (c.absorb-absorbed.ensures ∙ ap (λ (w : List ℕ). absorbed row Seal w 0 A) first)
    ∙ before_is row fits K N key nonce kb A ab in
    let text =
    c.crypt-after.ensures
    ∙ ap (λ (w : List ℕ). crypted_of row c.args.way w 0 X c.args.out.now) before
    ∙ crypted_is row fits K N key nonce kb c.args.way A X c.args.out.now pre.text_in_bounds in
    let tag =
    c.finish.ensures.value
    ∙ ap₂ (λ (w x : List ℕ). finished row w (length X) x) (ap (λ (z : Crypted). z.words) text) k
    ∙ ap (λ (t : List ℕ). t ++ zeros (16 - row.key)) (tagged_is row fits K N key nonce kb c.args.way A X xb) in
    record { value = tag; out_after = ap (λ (z : Crypted). z.out) text }
