use Rattle.record.proofs.Parts.{any_held_lem}
use Rattle.nodes.proofs.any_held.Goals as goal

pub returns : goal.returns
returns c = any_held_lem _ _ c.requires.0 c.requires.1 c.all_zero.ensures
