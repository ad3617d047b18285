use Rattle.record.proofs.Stored.{laid_word}
use Rattle.record.proofs.put_words.Goals as goal

pub loop-x-preserved : goal.loop-x-preserved
loop-x-preserved c = rw c.put_word.ensures (laid_word _ _ c.loop-x.invariant c.loop-x-test.true c.requires)
