-- `record::load` meets its contract. Assumes nothing.
use borrow.Author.Rules.{rules}
use Rattle.record.specs.Layout.{decode}
use Rattle.record.proofs.Round.{decode_parts}
use Rattle.record.proofs.load.Statement.{statement}
use Rattle.record.proofs.load.Tie as tie

dimension_requires : tie.Need-dimension-n-requires
dimension_requires c κs = search rules

load_map_requires : tie.Need-load_map-map-requires
load_map_requires c κs = search rules

load_words_requires : tie.Need-load_words-holders-requires
load_words_requires c κs = search rules

load_conditions_requires : tie.Need-load_conditions-conditions-requires
load_conditions_requires c κs = search rules

load_words_requires_2 : tie.Need-load_words-stars-requires
load_words_requires_2 c κs = search rules

returns : tie.Need-returns
unfolding decode
returns c =
    decode_parts _ _ _ _ _ _ c.dimension-n.ensures c.load_map-map.ensures c.load_words-holders.ensures
    c.load_conditions-conditions.ensures c.load_words-stars.ensures

pub load_spec : {M : Type 1} → statement M
load_spec =
    tie.close
    (tie.spec
    dimension_requires
    load_map_requires
    load_words_requires
    load_conditions_requires
    load_words_requires_2
    returns)
