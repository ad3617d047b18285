use Rattle.std.proofs.Common.{List, ℕ, ◌+◌, ◌*◌, sym, ap, ◌∙◌, arith}
use Rattle.hypercube.specs.Words.{put_word}
use Rattle.record.proofs.Round.{sized-decode, encoded_long}
use Rattle.nodes.proofs.Parts.{words_end}
use Rattle.nodes.proofs.InPlace.{set-word-entry}
use Rattle.nodes.proofs.set_word.Goals as goal

pub put_word-requires : goal.put_word-requires
put_word-requires c = omega (arith, encoded_long c.requires.0, words_end _ c.requires.1.1)

pub returns : goal.returns
returns c =
    let at = c.args.at in
    let x = c.args.x in
    let v = c.args.v in
    c.put_word.ensures ∙ ap (λ (l : List ℕ). put_word l (at + 2 * x) v) (sym c.requires.0)
    ∙ set-word-entry _ (sized-decode _) at c.requires.1.1 x v c.requires.1.0
