use Rattle.std.proofs.Common.{ℕ, ◌≡◌, List, Bool, true, false, cond, refl, arith, ◌∙◌, eqb, get_or}
use mathlib.Core.Path.{ap₂}
use Rattle.record.specs.Layout.{decode}
use Rattle.record.proofs.Round.{sized-decode, encoded_long}
use Rattle.nodes.specs.Words.{words_of}
use Rattle.nodes.proofs.Parts.{words_end}
use Rattle.nodes.proofs.Sweeps.{sweeping_encoded, sweeping_put, sweeping_all, word_next, holder_next}
use Rattle.nodes.proofs.clear_words.Invariants.{cleared_at}
use Rattle.nodes.proofs.clear_words.Goals as goal

stays : (l hs : List ℕ) (j k : ℕ) → get_or l k 0 ≡ 0 → get_or l k 0 ≡ cleared_at l hs j k
stays l hs j k z = go (eqb (get_or hs k 0) j)
  where
    go : (b : Bool) → get_or l k 0 ≡ cond b 0 (get_or l k 0)
    go true = z
    go false = refl

pub word-requires : goal.word-requires
word-requires c = omega (arith, encoded_long c.requires.encoded.0)

pub word-requires-in-loop-x : goal.word-requires-in-loop-x
word-requires-in-loop-x c = omega (arith, words_end _ c.requires.encoded.1, encoded_long c.requires.encoded.0)

pub set_word-requires : goal.set_word-requires
set_word-requires c = (sweeping_encoded (sized-decode _) c.loop-x.invariant, (omega arith, c.requires.encoded.1))

pub loop-x-preserved : goal.loop-x-preserved
loop-x-preserved c =
    let j = c.args.job in
    let z = sized-decode c.args.bytes.now in
    let W = c.loop-x.invariant in
    let w = c.without-w.ensures
    ∙ ap₂ (λ (h v : ℕ). cond (eqb h j) 0 v) (c.word.ensures ∙ holder_next c.args.at z W (omega arith))
    (c.word-in-loop-x.ensures ∙ word_next c.args.at z W (omega arith) c.requires.encoded.1) in
    sweeping_put z W c.set_word.ensures (omega arith) w

pub returns : goal.returns
returns c =
    let s = decode c.args.bytes.now in
    sweeping_all (sized-decode c.args.bytes.now) c.loop-x.invariant
    (λ k a b. stays (words_of c.args.at s) s.holders c.args.job k (c.requires.empty_from.empty k (omega arith) b))
