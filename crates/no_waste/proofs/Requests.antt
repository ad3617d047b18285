-- No waste by the history, for every list of plain requests by best fit from a cube with at most one node not good and nothing held. Assumes nothing.
use Prim.Native.Nat.{ℕ, ◌+◌, ◌^◌, ◌<◌, ◌≤◌}
use mathlib.Core.Logic.{◌≢◌, inl, inr, ⊎_elim}
use mathlib.Core.Path.{◌≡◌, sym, ◌∙◌}
use mathlib.Core.Bool.{true, false, true≢false}
use native.Mathlib.Omega.{arith}
use Rattle.hypercube.specs.Lists.{In, Distinct}
use Rattle.hypercube.specs.Labels.{node}
use Rattle.hypercube.proofs.Bits.{lt_or}
use Rattle.history.specs.Calls.{Call, job, Log, start, ◌then◌}
use Rattle.history.specs.Account.{History}
use Rattle.history.specs.Verdicts.{after, verdicts}
use Rattle.history.specs.Claims.{Bounded, Begins}
use Rattle.history.proofs.Theorem.{history_right}
use Rattle.no_waste.specs.NoWaste.{OneDead, Plain, AllPlain, jobs, free_nodes, sizes_granted, NoWaste}
use Rattle.no_waste.proofs.OneEach.{OneEach, one_bad}
use Rattle.no_waste.proofs.FreeLabels.{free_labels, inside, free_within, node_within, node_once}
use Rattle.no_waste.proofs.Request.{job-set, exact, step_left}

module _ (n : ℕ) (small : n ≤ 10) (s : History) (B : Begins n s) (D : OneDead n s) where
  bounded : (l : Log) → Bounded n (after n s l)
  bounded l = (history_right n small s B l).begins.bounded

  -- after a list of such requests at most one pair is lone at each level, only jobs of the list hold nodes, and the count is what they left
  record Standing (l : Log) : Type 0 where
    one : OneEach (free_labels n (after n s l))
    theirs : (j : ℕ) → j ≢ 0 → ¬ In j (jobs l) → (x : ℕ) → (after n s l).holder x ≢ j
    left : free_nodes n (after n s l) + sizes_granted (verdicts n s) l ≡ free_nodes n s

  at_start : Standing start
  at_start = record {
    one = one_bad n (free_labels n s) (inside n s) (λ x y a b p q.
        node_once n small s B.bounded x y a b (D.at_most_one (node s.directions x) (node s.directions y)
        (node_in x a) (node_in y b) (dead x a p) (dead y b q)));
    theirs = λ j set new x e. set (sym e ∙ unheld x);
    left = omega arith;
  }
    where
      node_in : (x : ℕ) → x < 2 ^ n → node s.directions x < 2 ^ n
      node_in = node_within n small s B.bounded

      unheld : (x : ℕ) → s.holder x ≡ 0
      unheld x = ⊎_elim (D.nothing_held x) (B.bounded.no_holders x) (lt_or x (2 ^ n))

      dead : (x : ℕ) → x < 2 ^ n → free_labels n s x ≡ false → s.condition (node s.directions x) ≢ 1
      dead x b e g = true≢false (sym (free_within n s x b ∙ rw (g, unheld (node s.directions x))) ∙ e)

  -- the next request's job holds nothing
  module _ (l : Log) (T : Standing l) (c : Call) (p : Plain n (after n s l) c) (other : ¬ In (job c) (jobs l)) where
    new : (x : ℕ) → (after n s l).holder x ≢ job c
    new = T.theirs (job c) (job-set n (after n s l) c p) other

    next : Standing (l then c)
    next =
        let L = step_left n small (after n s l) (bounded l) c p new T.one in
        record {
          one = L.one_each;
          theirs = λ j set out x. L.holders j x (λ e. out (inl (sym e))) (T.theirs j set (λ i. out (inr i)) x);
          left = omega (arith, L.count, T.left);
        }

  standing : (l : Log) → AllPlain n s l → Distinct (jobs l) → Standing l
  standing start p d = at_start
  standing (l then c) p d = next l (standing l p.0 d.1) c p.1 d.0

  pub no_waste : NoWaste n s
  no_waste = record {
    each = λ l c R.
        let T = standing l R.plain.0 R.distinct.1 in
        exact n small (after n s l) (bounded l) c R.plain.1 (new l T c R.plain.1 R.distinct.0) T.one;
    left = λ l R. (standing l R.plain R.distinct).left;
  }
