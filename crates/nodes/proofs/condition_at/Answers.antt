use Rattle.std.proofs.Common.{sym}
use Rattle.record.proofs.Round.{decode_condition}
use Rattle.nodes.proofs.condition_at.Goals as goal

pub returns : goal.returns
returns c = rw c.from.ensures (sym (decode_condition _ _ c.requires.1))
