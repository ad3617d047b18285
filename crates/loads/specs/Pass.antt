-- What the functions of the loading test find at a node, by the holder h and the star bits s that were read there. Where these are the node's own,
-- it is what hypercube/specs/ByNodes says.
use Rattle.std.specs.Prelude.{ℕ, ◌^◌, Bool, not, ◌&&◌, ◌||◌, List, eqb, ltb}
use Rattle.std.specs.Int.Bits.{bit_and}
use Rattle.hypercube.specs.ByNodes.{next, whole, alone}
use Rattle.record.specs.Says.{says}

-- in the record r: node y has them
abbrev pub is_like : List ℕ → ℕ → ℕ → ℕ → Bool
is_like r h s y = eqb ((says r).holder y) h && eqb ((says r).stars y) s

abbrev pub is_whole : List ℕ → ℕ → ℕ → ℕ → ℕ → Bool
is_whole r n h s x = eqb h 0 || (ltb s (2 ^ n) && is_like r h s (next x s))

-- node x is the lowest of a job's subcube
abbrev pub is_lowest : ℕ → ℕ → ℕ → Bool
is_lowest h s x = not (eqb h 0) && eqb (bit_and x s) 0

-- seen: whether the lowest node of a subcube of the same job came before
abbrev pub is_alone : ℕ → ℕ → ℕ → Bool → Bool
is_alone h s x seen = eqb h 0 || (not (eqb (bit_and x s) 0) || not seen)

-- at node x, by its own holder and star bits
abbrev pub whole_at : List ℕ → ℕ → ℕ → Bool
whole_at r n x = (whole n (says r).holder (says r).stars x).test

abbrev pub lowest_at : List ℕ → ℕ → Bool
lowest_at r x = is_lowest ((says r).holder x) ((says r).stars x) x

-- node y is the lowest of a subcube of job j
abbrev pub lowest_for : List ℕ → ℕ → ℕ → Bool
lowest_for r j y = eqb (bit_and y ((says r).stars y)) 0 && eqb ((says r).holder y) j

abbrev pub alone_at : List ℕ → ℕ → Bool
alone_at r x = (alone (says r).holder (says r).stars x).test
