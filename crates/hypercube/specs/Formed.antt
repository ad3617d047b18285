-- Whether the nodes that each job holds are a subcube. Document 02, (g): "tests that each job's nodes are exactly a subcube with the stored star
-- bits".
use Rattle.std.specs.Prelude.{ℕ, ◌^◌}
use Rattle.std.proofs.Math.Decide.{ℕ_discrete}
use Rattle.std.specs.Int.Bits.{bit_and}
use Rattle.hypercube.specs.Bits.{width}
use Rattle.hypercube.specs.Conditions.{Condition, ◌is◌, ◌is_not◌, ◌below◌, ◌and◌, ◌or◌, some_below, each_below, every_of, among_of}
use Rattle.hypercube.specs.Subcubes.{vertices}

-- in a cube of dimension n, where f gives each node's holder, 0 for none, and v its star bits
module _ (n : ℕ) (f v : ℕ → ℕ) where
  -- job j's nodes are exactly those of the subcube whose lowest node is b and whose star bits are s, and each of them stores s; no star is in b
  abbrev pub forms : ℕ → ℕ → ℕ → Condition
  forms j b s =
      bit_and b s is 0
      and every_of (vertices width s b) (λ x. x below 2 ^ n and f x is j and v x is s)
      and each_below (2 ^ n) (λ x. f x is_not j or among_of ℕ_discrete x (vertices width s b))

  -- so it is with every job that holds a node, for some lowest node and star bits of the cube
  abbrev pub formed : Condition
  formed = each_below (2 ^ n) (λ x. f x is 0 or some_below (2 ^ n) (λ b. some_below (2 ^ n) (λ s. forms (f x) b s)))
