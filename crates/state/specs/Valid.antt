-- What refusal 1 tests of a state. Document 01, "Node and record": "Nodes from 2^n up have holder and condition 0; map entries above n are i itself,
-- the first n permute 1 to n. Refusal 1 tests this, n up to 10 and conditions up to 2; below 2^n any holders pass." Document 02, (f): "refusal 1 also
-- meets star bits at an unheld node."
use Rattle.std.specs.Prelude.{ℕ, ◌+◌, ◌^◌, ◌<◌, ◌≤◌, ◌≡◌, Bool, true, not, cond, ◌&&◌, List, eqb, ltb, leb, get_or}
use Rattle.hypercube.specs.Bits.{width}
use Rattle.hypercube.specs.Lists.{all_below}
use Rattle.hypercube.specs.Labels.{Permutes}
use Rattle.state.specs.declared.State.{State}

-- the entry at place i: of the first n it is 1 to n and none of those before it, of the others it is its own
unfoldable pub entry_right : List ℕ → ℕ → ℕ → Bool
entry_right ds n i =
    cond (ltb i n)
    (leb 1 (get_or ds i 0) && (leb (get_or ds i 0) n && all_below (λ j. not (eqb (get_or ds j 0) (get_or ds i 0))) i))
    (eqb (get_or ds i 0) (i + 1))

unfoldable pub map_right : List ℕ → ℕ → Bool
map_right ds n = all_below (entry_right ds n) width

-- node x: its condition is up to 2 below N, and from N up it has condition and holder 0
unfoldable pub node_right : List ℕ → List ℕ → ℕ → ℕ → Bool
node_right hs cs N x = cond (ltb x N) (leb (get_or cs x 0) 2) (eqb (get_or hs x 0) 0 && eqb (get_or cs x 0) 0)

unfoldable pub nodes_right : List ℕ → List ℕ → ℕ → Bool
nodes_right hs cs N = all_below (node_right hs cs N) 1024

-- node x: it has star bits only where it has a holder; these may be any
unfoldable pub star_right : ℕ → ℕ → Bool
star_right h v = cond (eqb h 0) (eqb v 0) true

unfoldable pub stars_right : List ℕ → List ℕ → Bool
stars_right hs vs = all_below (λ x. star_right (get_or hs x 0) (get_or vs x 0)) 1024

unfoldable pub valid : State → Bool
valid s =
    leb s.n 10 && (map_right s.map s.n && (nodes_right s.holders s.conditions (2 ^ s.n) && stars_right s.holders s.stars))

-- what that test finds of a state, as facts (the law means_valid)
pub record Valid (s : State) : Type 0 where
  pub small : s.n ≤ 10
  pub permutes : Permutes s.n s.map
  pub conditions : (x : ℕ) → x < 2 ^ s.n → get_or s.conditions x 0 ≤ 2
  pub no_conditions : (x : ℕ) → 2 ^ s.n ≤ x → x < 1024 → get_or s.conditions x 0 ≡ 0
  pub no_holders : (x : ℕ) → 2 ^ s.n ≤ x → x < 1024 → get_or s.holders x 0 ≡ 0
  pub unstarred : (x : ℕ) → x < 1024 → get_or s.holders x 0 ≡ 0 → get_or s.stars x 0 ≡ 0
