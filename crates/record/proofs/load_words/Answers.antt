use Rattle.hypercube.proofs.Filled.{filled_all}
use Rattle.record.proofs.load_words.Goals as goal

pub returns : goal.returns
returns c = filled_all c.loop-x.invariant c.loop-x-test.false
