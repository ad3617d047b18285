use Rattle.lines.proofs.Puts.{last_put}
use Rattle.lines.proofs.put_last.Goals as goal

pub returns : goal.returns
returns c = last_put _ _ c.put_item-end.ensures c.put_byte.ensures
