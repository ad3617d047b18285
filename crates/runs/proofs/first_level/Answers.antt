use Rattle.std.proofs.Common.{arith}
use Rattle.std.proofs.lemmas.Grind.{common_steps}
use Rattle.runs.proofs.Levels.{flags_made}
use Rattle.runs.proofs.first_level.Goals as goal

pub returns : goal.returns
returns c = flags_made c.args.flags.now c.args.n _ (grind (arith, common_steps)) (λ x h. grind (arith, common_steps))
