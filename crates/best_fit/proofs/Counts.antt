-- How many numbers below N pass a test, and the first that does, as loops find them. Assumes nothing.
use Prim.Native.Nat.{ℕ, zero, suc, ◌+◌, ◌*◌, ◌<◌, ◌≤◌, min}
use mathlib.Core.Logic.{◌≢◌}
use mathlib.Core.Path.{◌≡◌, refl, ap, ap₂, ◌∙◌}
use mathlib.Core.Bool.{Bool, true, false, not, cond, ◌&&◌}
use native.Mathlib.Decide.{ℕ_discrete}
use native.Mathlib.Numerals.{add-one}
use native.Mathlib.Omega.{arith}
use borrow.Author.Tests.{ltb-true, ltb-false}
use lib.Dec.{ltb}
use Rattle.hypercube.specs.Lists.{count_below}
use Rattle.hypercube.specs.Levels.{joined, lone}
use Rattle.hypercube.specs.Tests.{cases}
use Rattle.best_fit.specs.Seen.{lesser, placed, first_below}

-- ---- counts

pub count_none : (test : ℕ → Bool) → count_below 0 test ≡ 0
unfolding count_below
count_none test = refl

pub count_more : (test : ℕ → Bool) (i : ℕ) → count_below i test + cond (test i) 1 0 ≡ count_below (i + 1) test
unfolding count_below
count_more test i = rw (add-one i) (omega arith)

pub one_le : (t : Bool) → cond t 1 0 ≤ 1
one_le true = omega arith
one_le false = omega arith

pub count_le : (test : ℕ → Bool) (N : ℕ) → count_below N test ≤ N
unfolding count_below
count_le test zero = omega arith
count_le test (suc N) = omega (arith, count_le test N, one_le (test N))

pair_count : (a b : Bool) → cond b 1 0 + cond a 1 0 ≡ cond (cond a (not b) b) 1 0 + 2 * cond (a && b) 1 0
pair_count true true = refl
pair_count true false = refl
pair_count false true = refl
pair_count false false = refl

-- by pairs: those with one half alone, and twice those with both
pub count_pairs : (g : ℕ → Bool) (N : ℕ) → count_below (2 * N) g ≡ count_below N (lone g) + 2 * count_below N (joined g)
unfolding count_below
count_pairs g zero = refl
count_pairs g (suc N) =
    let e : 2 * suc N ≡ suc (suc (2 * N)) = omega arith in
    let s : suc (2 * N) ≡ 2 * N + 1 = omega arith in
    rw (e, count_below) (omega (arith, ap {B = ℕ} (λ (z : ℕ). cond (g z) 1 0) s, pair_count (g (2 * N)) (g (2 * N + 1)), count_pairs g N))

-- none passes where the count is 0; some does where it is not
pub none_counted : (test : ℕ → Bool) (N : ℕ) → count_below N test ≡ 0 → (x : ℕ) → x < N → test x ≡ false
unfolding count_below
none_counted test zero e x l = absurd (omega arith)
none_counted test (suc N) e x l = go (test N) refl (ℕ_discrete x N) (none_counted test N)
  where
    go : (t : Bool) → test N ≡ t → Dec (x ≡ N) → (count_below N test ≡ 0 → (y : ℕ) → y < N → test y ≡ false) → test x ≡ false
    go true t i up = absurd (omega (arith, e, ap {B = ℕ} (λ (b : Bool). cond b 1 0) t))
    go false t (yes i) up = ap test i ∙ t
    go false t (no i) up = up (omega (arith, e, ap {B = ℕ} (λ (b : Bool). cond b 1 0) t)) x (omega arith)

-- ---- the first that passes

pub first_none : (test : ℕ → Bool) → first_below 0 test ≡ 512
unfolding first_below
first_none test = refl

-- the lesser of two, as `min` gives it
least : (a b : ℕ) → min a b ≡ lesser a b
least a b = cases (ltb a b) (λ t. rw t (omega (arith, ltb-true a b t))) (λ t. rw t (omega (arith, ltb-false a b t)))

pub first_more : (test : ℕ → Bool) (i : ℕ) → min (first_below i test) (placed (test i) i) ≡ first_below (i + 1) test
unfolding first_below
first_more test i = rw (add-one i) (least (first_below i test) (placed (test i) i))

pub first_same : (N : ℕ) (p q : ℕ → Bool) → ((x : ℕ) → x < N → p x ≡ q x) → first_below N p ≡ first_below N q
unfolding first_below
first_same zero p q h = refl
first_same (suc N) p q h =
    ap₂ (λ (k : ℕ) (b : Bool). lesser k (placed b N)) (first_same N p q (λ x l. h x (omega arith))) (h N (omega arith))

-- what is first: it passes, none before it does, and it is below N unless none passes
pub record First (test : ℕ → Bool) (N r : ℕ) : Type 0 where
  pub passes : r < 512 → test r ≡ true
  pub within : r < 512 → r < N
  pub before : (x : ℕ) → x < N → x < r → test x ≡ false

pub is_first : (test : ℕ → Bool) (N : ℕ) → N ≤ 512 → First test N (first_below N test)
unfolding first_below
is_first test zero h = record { passes = λ l. absurd (omega arith); within = λ l. absurd (omega arith); before = λ x l. absurd (omega arith) }
is_first test (suc N) h = go (test N) refl (first_below N test) (is_first test N (omega arith))
  where
    go : (t : Bool) → test N ≡ t → (r : ℕ) → First test N r → First test (suc N) (lesser r (placed t N))
    go true t r F =
        cases (ltb r N)
        (λ e. rw e (record {
          passes = F.passes;
          within = λ l. omega (arith, F.within l);
          before = λ x l m. F.before x (omega (arith, ltb-true r N e)) m;
        }))
        (λ e. rw e (record { passes = λ l. t; within = λ l. omega arith; before = λ x l m. F.before x m (omega (arith, ltb-false r N e)) }))
    go false t r F =
        cases (ltb r 512)
        (λ e. rw e (record {
          passes = F.passes;
          within = λ l. omega (arith, F.within l);
          before = λ x l m. F.before x (omega (arith, F.within (ltb-true r 512 e))) m;
        }))
        (λ e. rw e (record {
          passes = λ l. absurd (omega arith);
          within = λ l. absurd (omega arith);
          before = λ x l m. last x l (ℕ_discrete x N) e;
        }))
      where
        last : (x : ℕ) → x < suc N → Dec (x ≡ N) → ltb r 512 ≡ false → test x ≡ false
        last x l (yes i) e = ap test i ∙ t
        last x l (no i) e = F.before x (omega arith) (omega (arith, ltb-false r 512 e))

none_passes : (test : ℕ → Bool) (N : ℕ) → ((x : ℕ) → x < N → test x ≡ false) → count_below N test ≡ 0
unfolding count_below
none_passes test zero h = refl
none_passes test (suc N) h = rw (h N (omega arith)) (omega (arith, none_passes test N (λ x l. h x (omega arith))))

-- some passes, so the first is below 512
pub first_below_lem : (test : ℕ → Bool) (N : ℕ) → N ≤ 512 → count_below N test ≢ 0 → first_below N test < 512
first_below_lem test N h e =
    cases (ltb (first_below N test) 512) (λ t. ltb-true (first_below N test) 512 t)
    (λ t. absurd (e (none_passes test N (λ x l. (is_first test N h).before x l (omega (arith, ltb-false (first_below N test) 512 t))))))
