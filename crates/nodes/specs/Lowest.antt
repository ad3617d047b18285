-- What `give` asks of a subcube's lowest node and its star bits.
use Rattle.std.specs.Prelude.{ℕ, ◌<◌, ◌≡◌}
use Rattle.hypercube.specs.Bits.{bit}

-- numbers of ten bits, and no star in the lowest node
pub record LowestOf (stars low : ℕ) : Type 0 where
  pub stars_below : stars < 1024
  pub low_below : low < 1024
  pub lowest : (i : ℕ) → bit stars i ≡ 1 → bit low i ≡ 0
