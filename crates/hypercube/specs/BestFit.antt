-- Best fit among buddies, strategy 4. Document 02, (a): "Strategy 4 looks at the maximal free blocks: free buddy members in no larger free buddy
-- member. Of those with dimension at least k it takes the smallest, then the lowest label, and grants that block's lowest part. Tried is the number
-- of maximal free blocks, granted or not." What each of these sentences means, in quantifiers, is specs/Maximal.
use Rattle.std.specs.Prelude.{ℕ, zero, suc, ◌+◌, ◌-◌, ◌*◌, ◌^◌, Bool, true, false, cond, List, [], ◌∷◌, ◌++◌, leb, length}
use Rattle.std.proofs.Math.Option.{Option, none, some}
use Rattle.hypercube.specs.Lists.{only}
use Rattle.hypercube.specs.Subcubes.{subcube, is_free}
use Rattle.hypercube.specs.Families.{buddy_member}
use Rattle.hypercube.specs.declared.Subcube.{Subcube}
use Rattle.hypercube.specs.declared.Walk.{Walk}
use Rattle.hypercube.specs.declared.Walk.TheVariants.{Found, NoneFree}

-- the maximal free blocks within buddy's member α of dimension d, by lowest label ascending, where f tells which labels are free: that member alone
-- where it is free, since all others lie in it; else those of its two halves
unfoldable pub maximal_in : (ℕ → Bool) → ℕ → ℕ → List Subcube
maximal_in f zero α = only (is_free f (buddy_member 0 α)) (buddy_member 0 α)
maximal_in f (suc d) α = elim (is_free f (buddy_member (suc d) α)) [
  | true ↦ buddy_member (suc d) α ∷ []
  | false ↦ maximal_in f d (2 * α) ++ maximal_in f d (2 * α + 1)
]

-- those of a cube of dimension n (the law maximal_blocks)
abbrev pub maximal : ℕ → (ℕ → Bool) → List Subcube
maximal n f = maximal_in f n 0

-- the smaller of two blocks, of which the first has the lower label: a block of dimension d has the star bits 2^d - 1
abbrev pub smaller : Subcube → Option Subcube → Option Subcube
smaller c none = some c
smaller c (some m) = cond (leb c.stars m.stars) (some c) (some m)

-- "Of those with dimension at least k it takes the smallest, then the lowest label": of blocks by label ascending
unfoldable pub smallest : ℕ → List Subcube → Option Subcube
smallest k [] = none
smallest k (c ∷ cs) = cond (leb (2 ^ k - 1) c.stars) (smaller c (smallest k cs)) (smallest k cs)

-- "that block's lowest part", of dimension k
abbrev pub lowest_part : ℕ → Subcube → Subcube
lowest_part k c = subcube c.low.0 (2 ^ k - 1)

-- t is the number of the maximal free blocks, "granted or not"
abbrev pub part : ℕ → ℕ → Option Subcube → Walk
part k t none = NoneFree t
part k t (some c) = Found (lowest_part k c) t

abbrev pub best_fit : ℕ → ℕ → (ℕ → Bool) → Walk
best_fit n k f = part k (length (maximal n f)) (smallest k (maximal n f))
