use Rattle.std.proofs.Common.{arith, sym}
use Rattle.loads.proofs.Few.{few_alone}
use Rattle.loads.proofs.one_lowest.Goals as goal

pub returns-then-lowest_nodes-lt2 : goal.returns-then-lowest_nodes-lt2
returns-then-lowest_nodes-lt2 c = sym (few_alone c.args.bytes.now c.args.size (omega (arith, c.lowest_nodes.ensures)))
