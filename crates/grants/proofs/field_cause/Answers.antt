-- A record that is one is long enough for its dimension to be read.
use Rattle.steps.proofs.Ways.{whole}
use Rattle.grants.proofs.field_cause.Goals as goal

pub dimension-n-requires : goal.dimension-n-requires
dimension-n-requires c = (whole _ c.requires).0
