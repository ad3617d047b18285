-- What refusal 1's test says of a state, as facts; and that the test holds exactly where the facts do. Assumes nothing.
use Prim.Native.Nat.{ℕ, ◌+◌, ◌^◌, ◌<◌, ◌≤◌}
use mathlib.Core.Logic.{⊎_elim}
use mathlib.Core.Path.{◌≡◌, refl, sym}
use mathlib.Core.Bool.{Bool, true, false, not, cond, ◌&&◌, false≢true}
use mathlib.Core.List.{List}
use native.Mathlib.Omega.{arith}
use native.Mathlib.Nat.{lt_of_lt_of_le}
use borrow.Author.Tests.{eqb-true, eqb-false, lt-ltb, le-ltb, lt-leb, le-leb}
use lib.Dec.{eqb, ltb}
use lib.ListN.{length, get_or}
use lib.Pow.{pow_mono}
use Rattle.hypercube.specs.Bits.{width}
use Rattle.hypercube.specs.Labels.{Permutes}
use Rattle.hypercube.proofs.Bits.{lt_or}
use Rattle.hypercube.proofs.Below.{means_each}
use Rattle.hypercube.proofs.Lists.{length_of}
use Rattle.hypercube.specs.Tests.{cases, Means, means_iff, means_eq, means_le, means_not, means_and}
use Rattle.labels.proofs.Directions.{Own}
use Rattle.state.specs.declared.State.{State}
pub use Rattle.state.specs.Valid.{Valid}
use Rattle.state.specs.States.{lost, taken}
use Rattle.state.specs.Valid.{entry_right, map_right, node_right, nodes_right, star_right, stars_right, valid}

-- a state's arrays have their lengths, as the code's always do
pub record Sized (s : State) : Type 0 where
  pub directions : length s.map ≡ 10
  pub holders : length s.holders ≡ 1024
  pub conditions : length s.conditions ≡ 1024
  pub stars : length s.stars ≡ 1024

-- a job's nodes lost, or nodes taken over: the lengths are the same
module _ {s : State} (z : Sized s) where
  pub lost-sized : (j : ℕ) → Sized (lost s j)
  lost-sized j = record { directions = z.directions; holders = length_of _ 0 1024; conditions = z.conditions; stars = length_of _ 0 1024 }

  pub taken-sized : (xs : List ℕ) (j v : ℕ) → Sized (taken s xs j v)
  taken-sized xs j v = record { directions = z.directions; holders = length_of _ 0 1024; conditions = z.conditions; stars = length_of _ 0 1024 }

-- a test that goes by whether x is below N
means_either : (x N : ℕ) {a b : Bool} {P Q : Type 0} → Means a P → Means b Q
    → Means (cond (ltb x N) a b) ((x < N → P) × (N ≤ x → Q))
means_either x N {a} {b} {P} {Q} m k =
    ⊎_elim (λ l. rw (lt-ltb x N l) (means_iff m (λ p. (λ i. p, λ g. absurd (omega arith)), λ h. h.0 l)))
    (λ g. rw (le-ltb x N g) (means_iff k (λ q. (λ l. absurd (omega arith), λ i. q), λ h. h.1 g)))
    (lt_or x N)

-- ---- the map

-- what the test of one entry says
abbrev Entry : List ℕ → ℕ → ℕ → Type 0
Entry ds n i =
    (i < n → (1 ≤ get_or ds i 0) × ((get_or ds i 0 ≤ n) × ((j : ℕ) → j < i → ¬ (get_or ds j 0 ≡ get_or ds i 0))))
    × (n ≤ i → get_or ds i 0 ≡ i + 1)

means_entry : (ds : List ℕ) (n i : ℕ) → Means (entry_right ds n i) (Entry ds n i)
unfolding entry_right
means_entry ds n i =
    means_either i n
    (means_and (means_le 1 (get_or ds i 0))
    (means_and (means_le (get_or ds i 0) n)
    (means_each (λ j. not (eqb (get_or ds j 0) (get_or ds i 0))) (λ j. ¬ (get_or ds j 0 ≡ get_or ds i 0)) i
    (λ j l. means_not (means_eq (get_or ds j 0) (get_or ds i 0))))))
    (means_eq (get_or ds i 0) (i + 1))

-- the entries, n of them at most ten, are right where the map permutes
module _ (ds : List ℕ) (n : ℕ) (small : n ≤ 10) (long : length ds ≡ 10) where
  permutes_of : ((i : ℕ) → i < width → Entry ds n i) → Permutes n ds
  permutes_of h = record {
    entries = long;
    within = λ i l. (((h i (omega arith)).0 l).0, ((h i (omega arith)).0 l).1.0);
    distinct = λ i j a b e.
        ⊎_elim (λ l. absurd (((h j (omega arith)).0 b).1.1 i l e))
        (λ g. ⊎_elim (λ l. absurd (((h i (omega arith)).0 a).1.1 j l (sym e))) (λ k. omega arith) (lt_or j i)) (lt_or i j);
    own = λ i a b. (h i b).1 a;
  }

  entries_of : Permutes n ds → (i : ℕ) → i < width → Entry ds n i
  entries_of P i b = (
    λ l. ((P.within i l).0, ((P.within i l).1, λ j k e. omega (arith, P.distinct j i (omega arith) l e))),
    λ a. P.own i a b,
  )

  pub means_map : Means (map_right ds n) (Permutes n ds)
  unfolding map_right
  means_map =
      means_iff (means_each (entry_right ds n) (Entry ds n) width (λ i l. means_entry ds n i)) (permutes_of, entries_of)

-- the identity is right for every n
pub own_right : (ds : List ℕ) (n : ℕ) → Own ds → true ≡ map_right ds n
unfolding map_right
own_right ds n own =
    sym
    ((means_each (entry_right ds n) (Entry ds n) width (λ i l. means_entry ds n i)).shows
    (λ i l. (λ b. (omega (arith, own i l), (omega (arith, own i l), λ j k e. omega (arith, own i l, own j (omega arith)))), λ g. own i l)))

-- ---- the nodes

abbrev OfNode : List ℕ → List ℕ → ℕ → ℕ → Type 0
OfNode hs cs N x = (x < N → get_or cs x 0 ≤ 2) × (N ≤ x → (get_or hs x 0 ≡ 0) × (get_or cs x 0 ≡ 0))

pub means_nodes : (hs cs : List ℕ) (N : ℕ) → Means (nodes_right hs cs N) ((x : ℕ) → x < 1024 → OfNode hs cs N x)
unfolding nodes_right node_right
means_nodes hs cs N =
    means_each (node_right hs cs N) (OfNode hs cs N) 1024
    (λ x l. means_either x N (means_le (get_or cs x 0) 2) (means_and (means_eq (get_or hs x 0) 0) (means_eq (get_or cs x 0) 0)))

-- ---- the star bits

pub means_star : (h v : ℕ) → Means (star_right h v) (h ≡ 0 → v ≡ 0)
unfolding star_right
means_star h v =
    cases (eqb h 0)
    (λ e. rw e (means_iff (means_eq v 0) (λ z o. z, λ f. f (eqb-true h 0 e))))
    (λ e. rw e (record { holds = λ t z. absurd (eqb-false h 0 e z); shows = λ f. refl }))

pub means_stars : (hs vs : List ℕ) → Means (stars_right hs vs) ((x : ℕ) → x < 1024 → get_or hs x 0 ≡ 0 → get_or vs x 0 ≡ 0)
unfolding stars_right
means_stars hs vs =
    means_each (λ x. star_right (get_or hs x 0) (get_or vs x 0)) (λ x. get_or hs x 0 ≡ 0 → get_or vs x 0 ≡ 0) 1024
    (λ x l. means_star (get_or hs x 0) (get_or vs x 0))

-- ---- the state

-- a second test that is read where the first holds
means_then : {a b : Bool} {P Q : Type 0} → Means a P → (P → Means b Q) → Means (a && b) (P × Q)
means_then {a} {b} {P} {Q} m k = record { holds = go a m; shows = back a m }
  where
    go : (a : Bool) → Means a P → a && b ≡ true → P × Q
    go true m e = let p = m.holds refl in (p, (k p).holds e)
    go false m e = absurd (false≢true e)

    back : (a : Bool) → Means a P → P × Q → a && b ≡ true
    back true m h = (k h.0).shows h.1
    back false m h = m.shows h.0

abbrev Parts : State → Type 0
Parts s =
    (s.n ≤ 10)
    × (Permutes s.n s.map
    × (((x : ℕ) → x < 1024 → OfNode s.holders s.conditions (2 ^ s.n) x)
    × ((x : ℕ) → x < 1024 → get_or s.holders x 0 ≡ 0 → get_or s.stars x 0 ≡ 0)))

pub means_valid : (s : State) → length s.map ≡ 10 → Means (valid s) (Valid s)
unfolding valid
means_valid s long =
    means_iff
    (means_then (means_le s.n 10)
    (λ small. means_and (means_map s.map s.n small long)
    (means_and (means_nodes s.holders s.conditions (2 ^ s.n)) (means_stars s.holders s.stars))))
    (together, apart)
  where
    together : Parts s → Valid s
    together h = record {
      small = h.0;
      permutes = h.1.0;
      conditions = λ x l. (h.1.1.0 x (lt_of_lt_of_le l (pow_mono h.0))).0 l;
      no_conditions = λ x g l. ((h.1.1.0 x l).1 g).1;
      no_holders = λ x g l. ((h.1.1.0 x l).1 g).0;
      unstarred = h.1.1.1;
    }

    apart : Valid s → Parts s
    apart v = (v.small, (v.permutes, (λ x l. (v.conditions x, λ g. (v.no_holders x g l, v.no_conditions x g l)), v.unstarred)))

-- ---- the test, part by part

module _ (s : State) where
  pub not_small : 10 < s.n → false ≡ valid s
  unfolding valid
  not_small h = rw (lt-leb s.n 10 h)

  module _ (h : s.n ≤ 10) where
    pub not_permuted : map_right s.map s.n ≡ false → false ≡ valid s
    unfolding valid
    not_permuted e = rw (le-leb s.n 10 h, e)

    module _ (e : map_right s.map s.n ≡ true) where
      pub not_nodes : nodes_right s.holders s.conditions (2 ^ s.n) ≡ false → false ≡ valid s
      unfolding valid
      not_nodes d = rw (le-leb s.n 10 h, e, d)

      pub by_stars : nodes_right s.holders s.conditions (2 ^ s.n) ≡ true → stars_right s.holders s.stars ≡ valid s
      unfolding valid
      by_stars d = rw (le-leb s.n 10 h, e, d)
