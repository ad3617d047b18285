use Rattle.std.proofs.Common.{ℕ, ◌≡◌, ◌≢◌, ◌<◌, ◌+◌, List, Bool, cond, sym, ap, arith, ◌∙◌, eqb, get_or}
use borrow.Author.Tests.{ne_eqb}
use lib.Bits.{bit_and, and_le_r}
use Rattle.hypercube.specs.Bits.{width}
use Rattle.record.specs.Layout.{decode}
use Rattle.record.proofs.Round.{sized-decode, encoded_long}
use Rattle.nodes.specs.Words.{words_of}
use Rattle.nodes.specs.Lowest.{LowestOf}
use Rattle.nodes.proofs.Among.{among_sum, top_below}
use Rattle.nodes.proofs.Parts.{words_end}
use Rattle.nodes.proofs.Sweeps.{sweeping_none, sweeping_encoded, sweeping_put, sweeping_all, word_next}
use Rattle.nodes.proofs.give_words.Invariants.{given_at}
use Rattle.nodes.proofs.give_words.Goals as goal

top : (s b : ℕ) → LowestOf s b → b + s < 1024
top s b L = top_below width s b L.stars_below L.low_below (λ i l. L.lowest i)

module _ (l : List ℕ) (s b v : ℕ) (L : LowestOf s b) (k : ℕ) (h : k < 1024) where
  by_sum : cond (eqb (b + bit_and k s) k) v (get_or l k 0) ≡ given_at l s b v k
  by_sum = ap (λ (t : Bool). cond t v (get_or l k 0)) (sym (among_sum width s b (λ i l. L.lowest i) L.low_below k h))

  keeps : b + bit_and k s ≢ k → get_or l k 0 ≡ given_at l s b v k
  keeps e = rw (ne_eqb (b + bit_and k s) k e) at by_sum

pub loop-y-init : goal.loop-y-init
loop-y-init c =
    let l = words_of c.args.at (decode c.args.bytes.now) in
    let L = c.requires.lowest_of in
    let t = top _ _ L in sweeping_none c.requires.encoded.0 (λ k h. keeps l _ _ _ L k (omega arith) (λ e. omega arith))

pub word-requires : goal.word-requires
word-requires c =
    omega (arith, words_end _ c.requires.encoded.1, encoded_long c.requires.encoded.0, top _ _ c.requires.lowest_of)

pub after_grant-w-requires : goal.after_grant-w-requires
after_grant-w-requires c = let t = top _ _ c.requires.lowest_of in (omega arith, c.requires.lowest_of.low_below)

pub set_word-requires : goal.set_word-requires
set_word-requires c =
    let t = top _ _ c.requires.lowest_of in
    (sweeping_encoded (sized-decode _) c.loop-y.invariant, (omega arith, c.requires.encoded.1))

pub loop-y-preserved : goal.loop-y-preserved
loop-y-preserved c =
    let l = words_of c.args.at (decode c.args.bytes.now) in
    let s = c.args.stars in
    let b = c.args.low.0 in
    let v = c.args.v in
    let y = c.loop-y.y in
    let z = sized-decode c.args.bytes.now in
    let W = c.loop-y.invariant in
    let t = top _ _ c.requires.lowest_of in
    let w = c.after_grant-w.ensures
    ∙ ap (λ (h : ℕ). cond (eqb (b + bit_and y s) y) v h)
    (c.word.ensures ∙ word_next c.args.at z W (omega arith) c.requires.encoded.1)
    ∙ by_sum l s b v c.requires.lowest_of y (omega arith) in
    sweeping_put z W c.set_word.ensures (omega arith) w

pub returns : goal.returns
returns c =
    let s = c.args.stars in
    let t = top _ _ c.requires.lowest_of in
    sweeping_all (sized-decode c.args.bytes.now) c.loop-y.invariant
    (λ k a h. keeps (words_of c.args.at (decode c.args.bytes.now)) s c.args.low.0 c.args.v c.requires.lowest_of k h
    (λ q. omega (arith, and_le_r k s)))
