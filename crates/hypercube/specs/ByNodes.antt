-- The test of specs/Formed node by node, as passes over the nodes make it: `by_nodes_lem` in proofs/ByNodes says that it is the same.
-- f gives each node's holder, 0 for none, and v its star bits.
use Rattle.std.specs.Prelude.{ℕ, ◌-◌, ◌^◌, cond, eqb}
use Rattle.std.specs.Int.Bits.{bit_and, bit_xor}
use Rattle.hypercube.specs.Conditions.{Condition, ◌is◌, ◌below◌, not_so, ◌and◌, ◌or◌, some_below, each_below}

-- x without the bits of s
abbrev pub base : ℕ → ℕ → ℕ
base x s = bit_xor x (bit_and x s)

-- the numbers made of bits of s, one after the other downwards: the next one after t, and s itself after 0
abbrev pub lower : ℕ → ℕ → ℕ
lower t s = cond (eqb t 0) s (bit_and (t - 1) s)

-- the node with the next lower star bits in x's subcube: from any node, step by step, all of them are reached
abbrev pub next : ℕ → ℕ → ℕ
next x s = bit_xor (base x s) (lower (bit_and x s) s)

module _ (f v : ℕ → ℕ) where
  -- node y has x's holder and x's star bits
  abbrev pub like : ℕ → ℕ → Condition
  like x y = f y is f x and v y is v x

  -- node x is the lowest of its subcube
  abbrev pub lowest : ℕ → Condition
  lowest x = bit_and x (v x) is 0

  -- if a held node is the lowest of its subcube, no node before it is one of the same job
  abbrev pub alone : ℕ → Condition
  alone x = f x is 0 or not_so (lowest x) or not_so (some_below x (λ y. lowest y and f y is f x))

-- in a cube of dimension n
module _ (n : ℕ) (f v : ℕ → ℕ) where
  -- a held node's star bits are the cube's, and the next node of its subcube is like it
  abbrev pub whole : ℕ → Condition
  whole x = f x is 0 or v x below 2 ^ n and like f v x (next x (v x))

  abbrev pub formed_by_nodes : Condition
  formed_by_nodes = each_below (2 ^ n) whole and each_below (2 ^ n) (alone f v)
