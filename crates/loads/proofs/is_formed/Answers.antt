use Rattle.std.proofs.Common.{◌≡◌, arith, ◌∙◌}
use Rattle.record.specs.Says.{dimension_of}
use Rattle.loads.proofs.Formed.{long, small, few_nodes, not_whole, by_alone}
use Rattle.loads.proofs.is_formed.Goals as goal

pub dimension-requires : goal.dimension-requires
dimension-requires c = long _ c.requires

pub pow2-size-requires : goal.pow2-size-requires
pow2-size-requires c = omega (arith, c.dimension.ensures, c.from-n.ensures, small _ c.requires)

pub all_whole-requires : goal.all_whole-requires
all_whole-requires c =
    let n : c.from-n.result ≡ dimension_of c.args.bytes.now = c.from-n.ensures ∙ c.dimension.ensures in
    let few = few_nodes _ c.requires n c.pow2-size.ensures in
    (long _ c.requires, (omega (arith, small _ c.requires), omega (arith, small _ c.requires)))

pub one_lowest-requires : goal.one_lowest-requires
one_lowest-requires c =
    (long _ c.requires, few_nodes _ c.requires (c.from-n.ensures ∙ c.dimension.ensures) c.pow2-size.ensures)

pub returns-then-all_whole : goal.returns-then-all_whole
returns-then-all_whole c =
    by_alone _ c.requires (c.from-n.ensures ∙ c.dimension.ensures) c.pow2-size.ensures c.all_whole.ensures c.if-all_whole.true c.one_lowest.ensures

pub returns-else-all_whole : goal.returns-else-all_whole
returns-else-all_whole c =
    c.if-all_whole.false
    ∙ not_whole _ c.requires (c.from-n.ensures ∙ c.dimension.ensures) c.pow2-size.ensures c.all_whole.ensures c.if-all_whole.false
