-- What best fit means, in quantifiers: a maximal free block, how many there are, and which one is taken. Document 02, (a). Free tells which members
-- are free. That the definitions of specs/BestFit mean this are the laws maximal_blocks (proofs/Maximal) and found_best (proofs/BestFit).
use Rattle.std.specs.Prelude.{ℕ, ◌-◌, ◌^◌, ◌<◌, ◌≤◌, ◌≡◌, ◌↔◌, ◌⊎◌, ◌≢◌, List, length}
use Rattle.hypercube.specs.Lists.{In, Distinct}
use Rattle.hypercube.specs.Subcubes.{labels}
use Rattle.hypercube.specs.Families.{buddy}
use Rattle.hypercube.specs.declared.Subcube.{Subcube}

-- every label of c is one of m
abbrev pub Within : Subcube → Subcube → Type 0
Within c m = (y : ℕ) → In y (labels c) → In y (labels m)

-- c has dimension d and is one of the "free buddy members in no larger free buddy member" of a cube of dimension n
pub record MaximalFree (n : ℕ) (Free : Subcube → Type 0) (d : ℕ) (c : Subcube) : Type 0 where
  pub fits : d ≤ n
  pub member : In c (buddy n d)
  pub free : Free c
  pub in_no_larger : (e : ℕ) → d < e → e ≤ n → (m : Subcube) → In m (buddy n e) → Free m → ¬ Within c m

-- t is "the number of maximal free blocks": they are a list of so many, each once
pub record Counts (n : ℕ) (Free : Subcube → Type 0) (t : ℕ) : Type 0 where
  pub blocks : List Subcube
  pub exactly : (c : Subcube) → In c blocks ↔ ((d : ℕ) × MaximalFree n Free d c)
  pub distinct : Distinct blocks
  pub number : t ≡ length blocks

-- c is the lowest part, of dimension k, of a maximal free block with dimension at least k such that every other such block is larger, or as large
-- with a higher lowest label
pub record BestPart (n k : ℕ) (Free : Subcube → Type 0) (c : Subcube) : Type 0 where
  pub dimension : ℕ
  pub block : Subcube
  pub at_least : k ≤ dimension
  pub maximal_free : MaximalFree n Free dimension block
  pub others : (e : ℕ) (m : Subcube) → k ≤ e → MaximalFree n Free e m → m ≢ block
      → (dimension < e) ⊎ ((dimension ≡ e) × (block.low.0 < m.low.0))
  pub lowest : c.low.0 ≡ block.low.0
  pub stars : c.stars ≡ 2 ^ k - 1
