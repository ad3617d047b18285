use Rattle.walks.proofs.+free.Given as goal

-- the dimension falls at each call
abbrev pub decreases-free : goal.decreases-free
decreases-free l = l.k
