use Rattle.std.proofs.Common.{ap, arith}
use Rattle.hypercube.specs.Labels.{size}
use Rattle.hypercube.proofs.Relabels.{size_le}
use Rattle.labels.specs.Relabelling.{not_good}
use Rattle.labels.proofs.relabel.Goals as goal

pub assigned-map-requires : goal.assigned-map-requires
assigned-map-requires c =
    let a = c.args in
    let counted = ap size c.differing_bits-mask.ensures in
    (c.requires.0, omega (arith, c.count_of-size.ensures, counted, size_le a.n (not_good a.conditions.now)))
