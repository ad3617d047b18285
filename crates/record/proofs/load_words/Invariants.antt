-- The loop fills the words from the front.
use Rattle.std.proofs.Common.{◌+◌, ◌*◌}
use Rattle.hypercube.specs.Words.{word}
use Rattle.hypercube.specs.Filled.{Filled}
use Rattle.record.proofs.load_words.Given as goal

abbrev pub invariant-loop-x : goal.invariant-loop-x
invariant-loop-x l = Filled (λ k. word l.bytes (l.at + 2 * k)) 0 1024 l.x l.words
