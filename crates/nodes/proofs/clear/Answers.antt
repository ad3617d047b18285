-- The star bits first, while the holders say whose they are, then the holders.
use Rattle.std.proofs.Common.{refl, ap, ◌∙◌, inl, inr, rules}
use Rattle.hypercube.proofs.Lists.{length_of}
use Rattle.state.specs.declared.State.{State}
use Rattle.state.specs.States.{with_holders, cleared}
use Rattle.record.specs.Layout.{stars_at, encode}
use Rattle.record.proofs.Round.{encode-decode, sized-decode}
use Rattle.nodes.proofs.Parts.{decode-words, words_encoded}
use Rattle.nodes.proofs.clear.Goals as goal

pub clear_words-requires : goal.clear_words-requires
clear_words-requires c = record {
  encoded = (encode-decode _ c.requires.bytes_len.0 (λ i. search rules) c.requires.bytes_len.1, inr refl);
  empty_from = c.requires.empty_from.1;
}

pub clear_words-requires-2 : goal.clear_words-requires-2
clear_words-requires-2 c = record {
  encoded = (words_encoded stars_at _ (sized-decode _) _ (length_of _ 0 1024) c.clear_words.ensures, inl refl);
  empty_from = rw (decode-words stars_at _ (sized-decode _) _ (length_of _ 0 1024) c.clear_words.ensures) c.requires.empty_from.0;
}

pub returns : goal.returns
returns c =
    let j = c.args.job in
    c.clear_words-2.ensures
    ∙ ap (λ (s : State). encode (with_holders s (cleared s.holders s.holders j)))
    (decode-words stars_at _ (sized-decode _) _ (length_of _ 0 1024) c.clear_words.ensures)
