-- Those of the nodes passed that are the job's have 0.
use Rattle.std.proofs.Common.{ℕ, List, cond, eqb, get_or}
use Rattle.record.specs.Layout.{decode}
use Rattle.nodes.specs.Words.{words_of}
use Rattle.nodes.proofs.Sweeps.{Sweeping}
use Rattle.nodes.proofs.clear_words.Given as goal

-- node k's word after the call; 0 stays 0
abbrev pub cleared_at : List ℕ → List ℕ → ℕ → ℕ → ℕ
cleared_at l hs j k = cond (eqb (get_or hs k 0) j) 0 (get_or l k 0)

abbrev pub invariant-loop-x : goal.invariant-loop-x
invariant-loop-x l =
    let s = decode l.initial.bytes in Sweeping l.at s (cleared_at (words_of l.at s) s.holders l.job) l.x l.bytes
