use Rattle.std.proofs.Common.{◌∙◌}
use Rattle.hypercube.specs.Lists.{over}
use Rattle.labels.proofs.Directions.{equals_identity}
use Rattle.labels.proofs.is_identity.Goals as goal

pub returns : goal.returns
unfolding over
returns c = c.eq.ensures ∙ equals_identity c.args.map.now c.told-map
