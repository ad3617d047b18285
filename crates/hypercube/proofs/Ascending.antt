-- The maximal free blocks stand by lowest label ascending, so none stands twice. Assumes nothing.
use Prim.Native.Nat.{ℕ, zero, suc, ◌+◌, ◌-◌, ◌*◌, ◌/◌, ◌^◌, ◌<◌, ◌≤◌}
use mathlib.Core.Logic.{inl, inr, ⊎_elim}
use mathlib.Core.Path.{◌≡◌, refl}
use mathlib.Core.Bool.{Bool, true, false}
use mathlib.Core.List.{List, [], ◌∷◌, ◌++◌}
use native.Mathlib.Nat.{div-lt_iff_lt-mul, le-div_iff_mul-le}
use native.Mathlib.Omega.{arith}
use lib.Pow.{pow_pos}
use Rattle.hypercube.specs.Lists.{In, Distinct, only}
use Rattle.hypercube.specs.Bits.{width}
use Rattle.hypercube.specs.Families.{buddy_member}
use Rattle.hypercube.specs.BestFit.{maximal_in, maximal}
use Rattle.hypercube.specs.Levels.{level}
use Rattle.hypercube.specs.Tests.{cases}
use Rattle.hypercube.specs.declared.Subcube.{Subcube}
use Rattle.hypercube.proofs.Lists.{in_either}
use Rattle.hypercube.proofs.Blocks.{maximal_one, maximal-whole, maximal_halves, lowest_within, in_maximal}

-- each entry's lowest label is below that of every later entry
abbrev pub Ascending : List Subcube → Type 0
Ascending [] = Unit {0}
Ascending (c ∷ cs) = ((m : Subcube) → In m cs → c.low.0 < m.low.0) × Ascending cs

ascending_only : (b : Bool) (c : Subcube) → Ascending (only b c)
ascending_only true c = (λ m i. absurd i, tt)
ascending_only false c = tt

ascending_append : (s t : List Subcube) → Ascending s → Ascending t
    → ((c m : Subcube) → In c s → In m t → c.low.0 < m.low.0)
    → Ascending (s ++ t)
ascending_append [] t a b h = b
ascending_append (c ∷ s) t a b h =
    (λ m i. ⊎_elim (a.0 m) (h c m (inl refl)) (in_either m s t i), ascending_append s t a.1 b (λ x m i. h x m (inr i)))

pub ascending_distinct : (cs : List Subcube) → Ascending cs → Distinct cs
ascending_distinct [] a = tt
ascending_distinct (c ∷ cs) a = (λ i. omega (arith, a.0 c i), ascending_distinct cs a.1)

-- what has a lower place in a dimension is lower
lower_place : (d x y α : ℕ) → x / 2 ^ d ≡ α → α < y / 2 ^ d → x < y
lower_place d x y α e l =
    let p : 0 < 2 ^ d = pow_pos d in
    omega (arith, (div-lt_iff_lt-mul {k = 2 ^ d} {x = x} {y = suc α} p).0 (omega arith), (le-div_iff_mul-le {k = 2 ^ d} {x = suc α} {y = y} p).0 l)

pub ascending : (f : ℕ → Bool) (d α : ℕ) → d ≤ width → Ascending (maximal_in f d α)
ascending f zero α h = rw (maximal_one f α) (ascending_only (f α) (buddy_member 0 α))
ascending f (suc d) α h =
    cases (level f (suc d) α) (λ t. rw (maximal-whole f d α h t) (ascending_only true (buddy_member (suc d) α)))
    (λ t.
    rw (maximal_halves f d α h t)
    (ascending_append (maximal_in f d (2 * α)) (maximal_in f d (2 * α + 1))
    (ascending f d (2 * α) (omega arith)) (ascending f d (2 * α + 1) (omega arith))
    (λ c m i j. lower_place d c.low.0 m.low.0 (2 * α) (at (2 * α) c i) (omega (arith, at (2 * α + 1) m j)))))
  where
    at : (η : ℕ) (c : Subcube) → In c (maximal_in f d η) → c.low.0 / 2 ^ d ≡ η
    at η c i = lowest_within f d η c ((in_maximal f d η (omega arith) c).0 i)

-- so no entry stands twice
pub maximal_distinct : (n : ℕ) (f : ℕ → Bool) → n ≤ width → Distinct (maximal n f)
maximal_distinct n f h = ascending_distinct (maximal n f) (ascending f n 0 h)
