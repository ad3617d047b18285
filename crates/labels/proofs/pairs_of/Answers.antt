use Rattle.labels.proofs.Pairs.{paired_none}
use Rattle.labels.proofs.pairs_of.Goals as goal

pub loop-x-init : goal.loop-x-init
loop-x-init c = paired_none _ _
