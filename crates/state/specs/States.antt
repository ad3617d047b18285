-- A cube's state, and the few ways in which a call changes it. Document 01, "Node and record".
use Rattle.std.specs.Prelude.{ℕ, cond, List, map, eqb, get_or, set, replicate}
use Rattle.hypercube.specs.Lists.{from, among}
use Rattle.hypercube.specs.Labels.{identity}
use Rattle.state.specs.declared.State.{State}

-- "A fresh cube has all 1024 nodes unheld and unconfirmed, and each direction maps to itself."
abbrev pub fresh_state : ℕ → State
fresh_state n = record { n = n; map = identity; holders = replicate 1024 0; conditions = replicate 1024 0; stars = replicate 1024 0 }

-- a node's condition set
abbrev pub with_condition : State → ℕ → ℕ → State
with_condition s x v = record { n = s.n; map = s.map; holders = s.holders; conditions = set s.conditions x v; stars = s.stars }

-- the map set
abbrev pub with_map : State → List ℕ → State
with_map s ds = record { n = s.n; map = ds; holders = s.holders; conditions = s.conditions; stars = s.stars }

-- the holders, or the star bits, set
abbrev pub with_holders : State → List ℕ → State
with_holders s hs = record { n = s.n; map = s.map; holders = hs; conditions = s.conditions; stars = s.stars }

abbrev pub with_stars : State → List ℕ → State
with_stars s vs = record { n = s.n; map = s.map; holders = s.holders; conditions = s.conditions; stars = vs }

-- the entries of 1024 nodes: v at each of the nodes xs; 0 at each node that job j holds by hs; else l's
abbrev pub given : List ℕ → List ℕ → ℕ → List ℕ
given l xs v = map (λ x. cond (among x xs) v (get_or l x 0)) (from 0 1024)

abbrev pub cleared : List ℕ → List ℕ → ℕ → List ℕ
cleared l hs j = map (λ x. cond (eqb (get_or hs x 0) j) 0 (get_or l x 0)) (from 0 1024)

-- every node of job j unheld, and without star bits
abbrev pub lost : State → ℕ → State
lost s j = with_holders (with_stars s (cleared s.stars s.holders j)) (cleared s.holders s.holders j)

-- job j made the holder of each of the nodes xs, with star bits v
abbrev pub taken : State → List ℕ → ℕ → ℕ → State
taken s xs j v = with_stars (with_holders s (given s.holders xs j)) (given s.stars xs v)
