-- Where fewer than two nodes are the lowest of a job's subcube, no job has two. Assumes nothing.
use Prim.Native.Nat.{ℕ, ◌<◌}
use mathlib.Core.Logic.{◌≢◌, inl, inr}
use mathlib.Core.Path.{◌≡◌, sym, ◌∙◌}
use mathlib.Core.Bool.{true}
use mathlib.Core.List.{List}
use native.Mathlib.Decide.{ℕ_discrete}
use native.Mathlib.Omega.{arith}
use borrow.Author.Tests.{eq-eqb, ne_eqb}
use lib.Bits.{bit_and}
use Rattle.hypercube.specs.Lists.{all_below, count_below}
use Rattle.hypercube.specs.ByNodes.{alone}
use Rattle.hypercube.proofs.Below.{means_all}
use Rattle.state.proofs.Below.{count_grows}
use Rattle.record.specs.Says.{says}
use Rattle.loads.specs.Pass.{lowest_at, alone_at}

module _ (r : List ℕ) where
  is_lowest_lem : (x : ℕ) → (says r).holder x ≢ 0 → bit_and x ((says r).stars x) ≡ 0 → lowest_at r x ≡ true
  is_lowest_lem x d e = rw (ne_eqb ((says r).holder x) 0 d, eq-eqb (bit_and x ((says r).stars x)) 0 e)

  pub few_alone : (N : ℕ) → count_below N (lowest_at r) < 2 → all_below (alone_at r) N ≡ true
  few_alone N few =
      (means_all (alone_at r) N).shows (λ x l. at x l (ℕ_discrete ((says r).holder x) 0) (ℕ_discrete (bit_and x ((says r).stars x)) 0))
    where
      at : (x : ℕ) → x < N → Dec ((says r).holder x ≡ 0) → Dec (bit_and x ((says r).stars x) ≡ 0) → alone_at r x ≡ true
      at x l (yes z) b = (alone (says r).holder (says r).stars x).means.shows (inl z)
      at x l (no d) (no e) = (alone (says r).holder (says r).stars x).means.shows (inr (inl e))
      at x l (no d) (yes e) = (alone (says r).holder (says r).stars x).means.shows (inr (inr (λ y.
          omega (
            arith,
            count_grows (lowest_at r) N x l (is_lowest_lem x d e),
            count_grows (lowest_at r) x y.0 y.1 (is_lowest_lem y.0 (λ z. d (sym y.2.1 ∙ z)) y.2.0),
          ))))
