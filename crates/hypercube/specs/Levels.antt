-- Levels: which of buddy's members of dimension d are free, by their places α, where f tells which labels are. A level is made of the one below it
-- by pairs: a pair's two places are a member's halves.
use Rattle.std.specs.Prelude.{ℕ, zero, suc, ◌+◌, ◌*◌, Bool, true, false, not, cond, ◌&&◌}

-- both halves of α are free
abbrev pub joined : (ℕ → Bool) → ℕ → Bool
joined f α = f (2 * α) && f (2 * α + 1)

-- buddy's member α of dimension d is free (the law level-free)
unfoldable pub level : (ℕ → Bool) → ℕ → ℕ → Bool
level f zero = f
level f (suc d) = level (joined f) d

-- exactly one half of α is free, and its place: at level d, that half is a maximal free block (the law lone-maximal)
abbrev pub lone : (ℕ → Bool) → ℕ → Bool
lone f α = cond (f (2 * α)) (not (f (2 * α + 1))) (f (2 * α + 1))

abbrev pub free_half : (ℕ → Bool) → ℕ → ℕ
free_half f α = cond (f (2 * α)) (2 * α) (2 * α + 1)
