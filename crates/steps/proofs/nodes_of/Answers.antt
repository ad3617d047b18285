-- A record that is one is long enough for its dimension to be read, and its n is at most 10.
use Rattle.std.proofs.Common.{arith}
use Rattle.record.proofs.Round.{record_says}
use Rattle.steps.proofs.Ways.{state_valid}
use Rattle.steps.proofs.nodes_of.Goals as goal

pub dimension-n-requires : goal.dimension-n-requires
dimension-n-requires c = (record_says _ c.requires).long

pub node_count-requires : goal.node_count-requires
node_count-requires c = omega (arith, c.dimension-n.ensures, (state_valid _ c.requires).small)
