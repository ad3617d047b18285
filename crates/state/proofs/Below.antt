-- Where a loop that tests or counts the numbers below N, one after the other, stands, and what it has at the end. Assumes nothing.
use Prim.Native.Nat.{ℕ, zero, suc, ◌+◌, ◌<◌, ◌≤◌}
use mathlib.Core.Path.{◌≡◌, refl, sym, ap, ◌∙◌, subst}
use mathlib.Core.Bool.{Bool, true, false, not, cond, ◌&&◌, ◌||◌, or-true, or-false}
use native.Mathlib.Decide.{ℕ_discrete}
use native.Mathlib.Numerals.{add-one}
use native.Mathlib.Omega.{arith}
use borrow.Author.Tests.{ne_eqb}
use lib.Dec.{eqb}
use Rattle.hypercube.specs.Lists.{all_below, any_below, count_below}
use Rattle.hypercube.specs.Tests.{fails, refutes}
use Rattle.hypercube.proofs.Below.{means_all}

-- what a loop has at i it has at N, once it is left
ends : {A : Type 0} (f : ℕ → A) (N i : ℕ) (b : A) → b ≡ f i → i ≤ N → N ≤ i → b ≡ f N
ends f N i b e h k = subst (λ (m : ℕ). b ≡ f m) (omega arith) e

not_and : (a b : Bool) → not a || not b ≡ not (a && b)
not_and true b = refl
not_and false b = refl

module _ (test : ℕ → Bool) where
  pub all_next : (i : ℕ) (b : Bool) → b ≡ all_below test i → b && test i ≡ all_below test (i + 1)
  unfolding all_below
  all_next i b e = rw (add-one i, e)

  pub all_ends : (N i : ℕ) (b : Bool) → b ≡ all_below test i → i ≤ N → N ≤ i → b ≡ all_below test N
  all_ends = ends (all_below test)

  -- one that fails, fails for all above
  pub not_all : (a N : ℕ) → a ≤ N → all_below test a ≡ false → all_below test N ≡ false
  not_all a N h e = refutes (means_all test N) (λ all. fails (means_all test a) e (λ x l. all x (omega arith)))

  pub any_next : (i : ℕ) (b : Bool) → b ≡ any_below test i → b || test i ≡ any_below test (i + 1)
  unfolding any_below
  any_next i b e = rw (add-one i, e)

  pub any_ends : (N i : ℕ) (b : Bool) → b ≡ any_below test i → i ≤ N → N ≤ i → b ≡ any_below test N
  any_ends = ends (any_below test)

  pub count_next : (i k : ℕ) → k ≡ count_below i test → k + cond (test i) 1 0 ≡ count_below (i + 1) test
  unfolding count_below
  count_next i k e = rw (add-one i) (omega arith)

  pub count_ends : (N i k : ℕ) → k ≡ count_below i test → i ≤ N → N ≤ i → k ≡ count_below N test
  count_ends = ends (λ m. count_below m test)

  -- a count grows at each number that passes
  pub count_grows : (N x : ℕ) → x < N → test x ≡ true → count_below x test < count_below N test
  unfolding count_below
  count_grows zero x l t = absurd (omega arith)
  count_grows (suc N) x l t = go (λ k. count_grows N x k t) (ℕ_discrete x N)
    where
      go : (x < N → count_below x test < count_below N test) → Dec (x ≡ N) → count_below x test < cond (test N) 1 0 + count_below N test
      go up (yes e) = rw (← e, t) (omega arith)
      go up (no d) = let u = up (omega arith) in omega arith

  -- some number passes where the count is not 0
  pub any_counted : (N : ℕ) → any_below test N ≡ not (eqb (count_below N test) 0)
  unfolding any_below count_below
  any_counted zero = refl
  any_counted (suc N) = go (test N) (any_counted N)
    where
      go : (b : Bool) → any_below test N ≡ not (eqb (count_below N test) 0) → any_below test N || b ≡ not (eqb (cond b 1 0 + count_below N test) 0)
      go true e = or-true (any_below test N) ∙ ap not (sym (ne_eqb (1 + count_below N test) 0 (λ z. omega arith)))
      go false e =
          let z : count_below N test ≡ 0 + count_below N test = omega arith in
          or-false (any_below test N) ∙ e ∙ ap (λ (m : ℕ). not (eqb m 0)) z

  -- some number fails where not all pass
  pub any_not : (N : ℕ) → any_below (λ x. not (test x)) N ≡ not (all_below test N)
  unfolding any_below all_below
  any_not zero = refl
  any_not (suc N) = ap (λ (b : Bool). b || not (test N)) (any_not N) ∙ not_and (all_below test N) (test N)
