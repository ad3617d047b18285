-- Tests of the numbers below N: the facts that they stand for, and how many pass. Assumes nothing.
use Prim.Native.Nat.{ℕ, zero, suc, ◌+◌, ◌<◌}
use mathlib.Core.Path.{◌≡◌, refl, ap₂}
use mathlib.Core.Bool.{Bool, true, cond}
use native.Mathlib.Omega.{arith}
use Rattle.hypercube.specs.Lists.{Some, all_below, any_below, count_below}
use Rattle.hypercube.specs.Conditions.{so, means_some, means_each_below}
use Rattle.hypercube.specs.Tests.{Means, means_iff}

pub means_all : (test : ℕ → Bool) (N : ℕ) → Means (all_below test N) ((x : ℕ) → x < N → test x ≡ true)
means_all test N = means_each_below N (λ x. so (test x))

pub means_any : (test : ℕ → Bool) (N : ℕ) → Means (any_below test N) (Some N (λ x. test x ≡ true))
means_any test N = means_some N (λ x. so (test x))

-- a test at each number below N stands for a fact of each
pub means_each : (test : ℕ → Bool) (P : ℕ → Type 0) (N : ℕ) → ((x : ℕ) → x < N → Means (test x) (P x))
    → Means (all_below test N) ((x : ℕ) → x < N → P x)
means_each test P N m =
    means_iff (means_all test N) (λ h x l. (m x l).holds (h x l), λ h x l. (m x l).shows (h x l))

-- two tests that agree below N are passed by as many
pub count_same : (N : ℕ) (p q : ℕ → Bool) → ((x : ℕ) → x < N → p x ≡ q x) → count_below N p ≡ count_below N q
unfolding count_below
count_same zero p q h = refl
count_same (suc N) p q h = ap₂ (λ (b : Bool) (k : ℕ). cond b 1 0 + k) (h N (omega arith)) (count_same N p q (λ x l. h x (omega arith)))
