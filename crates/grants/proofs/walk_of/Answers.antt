-- The flags by node, moved to their labels, are the walk's.
use Rattle.std.proofs.Common.{◌∙◌, arith}
use Rattle.labels.proofs.Flags.{empty_zeros}
use Rattle.record.specs.Layout.{decode}
use Rattle.steps.proofs.Ways.{state_valid, whole}
use Rattle.grants.proofs.Grants.{walk_asked, walked}
use Rattle.grants.proofs.walk_of.Goals as goal

pub dimension-requires : goal.dimension-requires
dimension-requires c = (whole _ c.requires.0).0

pub flags_by_node-requires-clause-bytes_len : goal.flags_by_node-requires-clause-bytes_len
flags_by_node-requires-clause-bytes_len c = ((whole _ c.requires.0).0, c.nodes_of-size.ensures.1)

pub flags_by_node-requires-clause-empty_from : goal.flags_by_node-requires-clause-empty_from
flags_by_node-requires-clause-empty_from c = empty_zeros _ c.nodes_of-size.ensures.1

pub flags_by_label-requires : goal.flags_by_label-requires
flags_by_label-requires c =
    let asked =
    walk_asked (decode c.args.rec.now) (state_valid _ c.requires.0) c.args.job (c.from-n.ensures ∙ c.dimension.ensures)
    c.requires.1.0 c.nodes_of-size.ensures.0
    c.flags_by_node.ensures
    in
    record { n_bound = asked.0; empty_from = asked.1 }

pub choose-requires : goal.choose-requires
choose-requires c =
    let small = (state_valid _ c.requires.0).small in
    (omega (arith, c.from.ensures, c.from-n.ensures, c.dimension.ensures, c.requires.1.1), omega (arith, c.from-n.ensures, c.dimension.ensures, small))

pub returns : goal.returns
returns c =
    walked (decode c.args.rec.now) (state_valid _ c.requires.0) c.args.job (c.from-n.ensures ∙ c.dimension.ensures)
    c.requires.1.0 c.nodes_of-size.ensures.0
    c.flags_by_node.ensures c.flags_by_label.ensures c.args.k c.args.strategy c.requires.1.1
    (rw c.from.ensures at c.choose.ensures)
