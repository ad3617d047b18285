-- The nodes passed have their words.
use Rattle.std.proofs.Common.{ℕ, List, cond, get_or}
use Rattle.hypercube.specs.Bits.{width}
use Rattle.hypercube.specs.Lists.{among}
use Rattle.hypercube.specs.Subcubes.{vertices}
use Rattle.record.specs.Layout.{decode}
use Rattle.nodes.specs.Words.{words_of}
use Rattle.nodes.proofs.Sweeps.{Sweeping}
use Rattle.nodes.proofs.give_words.Given as goal

-- node k's word after the call
abbrev pub given_at : List ℕ → ℕ → ℕ → ℕ → ℕ → ℕ
given_at l s b v k = cond (among k (vertices width s b)) v (get_or l k 0)

abbrev pub invariant-loop-y : goal.invariant-loop-y
invariant-loop-y l =
    let s = decode l.initial.bytes in
    Sweeping l.at s (given_at (words_of l.at s) l.stars l.first l.v) l.y l.bytes
