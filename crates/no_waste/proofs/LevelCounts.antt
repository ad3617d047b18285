-- Counting by levels. With at most one lone pair at each level, a block of dimension k is free exactly when 2^k labels are: if F blocks of that
-- dimension are free, the free labels number at least F * 2^k, and less than (F + 1) * 2^k. Assumes nothing.
use Prim.Native.Nat.{ℕ, zero, suc, ◌+◌, ◌*◌, ◌^◌, ◌<◌, ◌≤◌}
use mathlib.Core.Logic.{◌↔◌}
use mathlib.Core.Path.{◌≡◌}
use mathlib.Core.Bool.{Bool, true}
use native.Mathlib.Nat.{pow-succ'}
use native.Mathlib.Omega.{arith}
use Rattle.hypercube.specs.Lists.{Some, count_below}
use Rattle.hypercube.specs.Levels.{joined, level, lone}
use Rattle.hypercube.proofs.Bits.{double}
use Rattle.best_fit.proofs.Counts.{count_pairs}
use Rattle.no_waste.proofs.CountBelow.{count_unique, some_counted, counted_some}
use Rattle.no_waste.proofs.OneEach.{OneEach}

-- the free labels of a cube of dimension k + 1 + m: twice the free pairs, and the lone ones
count_joined : (k m : ℕ) (f : ℕ → Bool)
    → count_below (2 ^ (suc k + m)) f ≡ count_below (2 ^ (k + m)) (lone f) + 2 * count_below (2 ^ (k + m)) (joined f)
count_joined k m f =
    let e : suc k + m ≡ suc (k + m) = omega arith in
    rw (e, pow-succ' 2 (k + m)) (count_pairs f (2 ^ (k + m)))

-- each free block of dimension k has 2^k free labels
count_least : (k m : ℕ) (f : ℕ → Bool) → count_below (2 ^ m) (level f k) * 2 ^ k ≤ count_below (2 ^ (k + m)) f
unfolding level
count_least zero m f = let e : 0 + m ≡ m = omega arith in rw e (omega arith)
count_least (suc k) m f =
    rw (double (count_below (2 ^ m) (level (joined f) k)) k) (omega (arith, count_least k m (joined f), count_joined k m f))

-- and there are not 2^k more
count_most : (k m : ℕ) (f : ℕ → Bool) → OneEach f → count_below (2 ^ (k + m)) f < (count_below (2 ^ m) (level f k) + 1) * 2 ^ k
unfolding level
count_most zero m f one = let e : 0 + m ≡ m = omega arith in rw e (omega arith)
count_most (suc k) m f one =
    rw (double (count_below (2 ^ m) (level (joined f) k) + 1) k)
    (omega (arith, count_most k m (joined f) (λ d. one (suc d)), count_joined k m f, count_unique (2 ^ (k + m)) (lone f) (one 0)))

-- so some block of dimension k is free exactly when 2^k labels are
pub room : (k m : ℕ) (f : ℕ → Bool) → OneEach f → Some (2 ^ m) (λ a. level f k a ≡ true) ↔ (2 ^ k ≤ count_below (2 ^ (k + m)) f)
room k m f one = (
  λ r. least (count_below (2 ^ m) (level f k)) (2 ^ k) (some_counted (2 ^ m) (level f k) r.0 r.1 r.2) (count_least k m f),
  λ b. counted_some (2 ^ m) (level f k) (most (count_below (2 ^ m) (level f k)) (2 ^ k) b (count_most k m f one)),
)
  where
    least : (c p : ℕ) → 1 ≤ c → c * p ≤ count_below (2 ^ (k + m)) f → p ≤ count_below (2 ^ (k + m)) f
    least zero p h l = absurd (omega arith)
    least (suc c) p h l = omega arith

    most : (c p : ℕ) → p ≤ count_below (2 ^ (k + m)) f → count_below (2 ^ (k + m)) f < (c + 1) * p → 1 ≤ c
    most zero p h l = absurd (omega arith)
    most (suc c) p h l = omega arith
