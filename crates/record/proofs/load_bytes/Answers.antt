use Rattle.std.proofs.Common.{◌∙◌}
use Rattle.record.proofs.Maximum.{part_each}
use Rattle.record.proofs.load_bytes.Goals as goal

pub returns : goal.returns
returns g c = c.copy_from_slice.ensures.after ∙ part_each c.args.bytes.now c.args.at g.row.N c.requires
