-- The holders first, then the star bits.
use Rattle.std.proofs.Common.{refl, ap, ◌∙◌, inl, inr, rules}
use Rattle.hypercube.specs.Bits.{width}
use Rattle.hypercube.specs.Subcubes.{vertices}
use Rattle.hypercube.proofs.Lists.{length_of}
use Rattle.state.specs.declared.State.{State}
use Rattle.state.specs.States.{with_stars, given}
use Rattle.record.specs.Layout.{holders_at, encode}
use Rattle.record.proofs.Round.{encode-decode, sized-decode}
use Rattle.nodes.proofs.Parts.{decode-words, words_encoded}
use Rattle.nodes.proofs.give.Goals as goal

pub give_words-requires : goal.give_words-requires
give_words-requires c = record {
  encoded = (encode-decode _ c.requires.bytes_len.0 (λ i. search rules) c.requires.bytes_len.1, inl refl);
  lowest_of = c.requires.lowest_of;
}

pub give_words-requires-2 : goal.give_words-requires-2
give_words-requires-2 c = record {
  encoded = (words_encoded holders_at _ (sized-decode _) _ (length_of _ 0 1024) c.give_words.ensures, inr refl);
  lowest_of = c.requires.lowest_of;
}

pub returns : goal.returns
returns c =
    let xs = vertices width c.args.stars c.args.low.0 in
    c.give_words-2.ensures
    ∙ ap (λ (s : State). encode (with_stars s (given s.stars xs c.args.stars)))
    (decode-words holders_at _ (sized-decode _) _ (length_of _ 0 1024) c.give_words.ensures)
