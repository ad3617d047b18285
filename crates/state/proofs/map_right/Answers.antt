use Rattle.std.proofs.Common.{◌∙◌}
use Rattle.labels.proofs.Directions.{own_of}
use Rattle.state.proofs.Valid.{own_right}
use Rattle.state.proofs.map_right.Goals as goal

pub returns-then-is_identity : goal.returns-then-is_identity
returns-then-is_identity c = c.if-is_identity.true ∙ own_right _ _ (own_of _ c.is_identity.ensures c.if-is_identity.true)
