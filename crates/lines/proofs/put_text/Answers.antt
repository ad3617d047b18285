use Rattle.lines.proofs.Puts.{part_put}
use Rattle.lines.proofs.put_text.Goals as goal

pub returns : goal.returns
returns c = part_put _ c.copy_from_slice.ensures.after c.requires
