-- Best fit on the labels of a cube with at most one lone pair at each level: it finds a block of dimension k exactly when 2^k labels are free, and
-- that block lies in a smallest one. Assumes nothing.
use Prim.Native.Nat.{ℕ, zero, suc, ◌+◌, ◌-◌, ◌*◌, ◌/◌, ◌^◌, ◌<◌, ◌≤◌}
use mathlib.Core.Logic.{⊎_elim}
use mathlib.Core.Path.{◌≡◌, refl, sym, ap, ◌∙◌, subst}
use mathlib.Core.Bool.{Bool, true, false, true≢false}
use native.Mathlib.Nat.{pow-succ'}
use native.Mathlib.Omega.{arith}
use lib.Pow.{pow-lt, high, shr_lt}
use Rattle.hypercube.specs.Lists.{Some, count_below}
use Rattle.hypercube.specs.Bits.{width}
use Rattle.hypercube.specs.Subcubes.{is_free}
use Rattle.hypercube.specs.Families.{buddy_member}
use Rattle.hypercube.specs.BestFit.{maximal, lowest_part, best_fit}
use Rattle.hypercube.specs.Levels.{joined, level, lone, free_half}
use Rattle.hypercube.specs.Tests.{cases, refutes}
use Rattle.hypercube.specs.declared.Subcube.{Subcube}
use Rattle.hypercube.specs.declared.Walk.TheVariants.{Found, NoneFree}
use Rattle.hypercube.proofs.Bits.{lt_or}
use Rattle.hypercube.proofs.Members.{in_buddy}
use Rattle.hypercube.proofs.Levels.{half_shr, level-suc, means_level, level-free, lowest_block}
use Rattle.hypercube.proofs.Blocks.{Block, in_maximal}
use Rattle.hypercube.proofs.Maximal.{buddy_in}
use Rattle.hypercube.proofs.Smallest.{Before, Least, stars_lt, stars_le, dimension_le}
use Rattle.hypercube.proofs.ByLevels.{lone-free, half_lone, lone-maximal}
use Rattle.hypercube.proofs.BestFit.{part_member, found_least, found_member, none_best}
use Rattle.no_waste.proofs.OneEach.{OneEach, Inside, inside_below, InSmallest}
use Rattle.no_waste.proofs.LevelCounts.{room}

-- ---- levels of levels

level-level : (k i : ℕ) (f : ℕ → Bool) → level (level f k) i ≡ level f (k + i)
unfolding level
level-level zero i f = let e : 0 + i ≡ i = omega arith in rw e
level-level (suc k) i f = let e : suc k + i ≡ suc (k + i) = omega arith in rw e (level-level k i (joined f))

-- a place in a lone pair j levels up, where none is lone on the levels below that
in_smallest : (j : ℕ) (f : ℕ → Bool) (a : ℕ) → ((d β : ℕ) → d < j → lone (level f d) β ≡ false) → lone (level f j) (a / 2 ^ j / 2) ≡ true
    → InSmallest f a j
unfolding level
in_smallest zero f a none t = let e : a / 2 ^ 0 ≡ a = omega arith in rw e at t
in_smallest (suc j) f a none t =
    (λ β. none 0 β (omega arith), in_smallest j (joined f) (a / 2) (λ d β l. none (suc d) β (omega arith)) (rw (half_shr a j) at t))

-- ---- the blocks of a cube

module _ (n : ℕ) (f : ℕ → Bool) (I : Inside n f) where
  level_below : (d α : ℕ) → d ≤ n → level f d α ≡ true → α < 2 ^ (n - d)
  level_below d α h t =
      let z : n ≡ n - d + d = omega arith in
      let b : α * 2 ^ d < 2 ^ n = inside_below n f I (α * 2 ^ d) ((means_level d f α).holds t (α * 2 ^ d) (lowest_block d α)) in
      subst (λ (v : ℕ). v < 2 ^ (n - d)) (lowest_block d α) (shr_lt (n - d) d (subst (λ (v : ℕ). α * 2 ^ d < 2 ^ v) z b))

  -- no block is larger than the cube
  level_beyond : (α : ℕ) → level f (suc n) α ≡ false
  level_beyond α = refutes (means_level (suc n) f α) (λ h.
      let l : ℕ = α * 2 ^ suc n + 2 ^ n in
      let b : l < 2 ^ n = inside_below n f I l (h l (high α (suc n) (pow-lt (omega arith)))) in
      omega arith)

  lone_within : (d β : ℕ) → d < n → lone (level f d) β ≡ true → β < 2 ^ (n - suc d)
  lone_within d β h t =
      let r = lone-free (level f d) β t in
      let z : n - d ≡ suc (n - suc d) = omega arith in
      let e : 2 ^ (n - d) ≡ 2 * 2 ^ (n - suc d) = ap (λ (v : ℕ). 2 ^ v) z ∙ pow-succ' 2 (n - suc d) in
      omega (arith, level_below d (free_half (level f d) β) (omega arith) r.0, r.2)

  -- a maximal free block is the free half of a lone pair, the whole cube too
  block_lone : (c : Subcube) (B : Block f n 0 c) → lone (level f B.e) (B.β / 2) ≡ true
  block_lone c B = (half_lone (level f B.e) (B.β / 2) B.β refl B.free (sym (level-suc B.e f (B.β / 2)) ∙ above)).0
    where
      above : level f (suc B.e) (B.β / 2) ≡ false
      above =
          ⊎_elim B.alone
          (λ g.
          let z : B.e ≡ n = omega (arith, B.at_most) in
          ap (λ (v : ℕ). level f (suc v) (B.β / 2)) z ∙ level_beyond (B.β / 2)) (lt_or B.e n)

module _ (n k : ℕ) (f : ℕ → Bool) (small : n ≤ width) (fits : k ≤ n) (I : Inside n f) where
  -- ---- what is found lies in a smallest block

  pub record Part (c : Subcube) : Type 0 where
    pub a : ℕ
    pub j : ℕ
    pub is : c ≡ buddy_member k a
    pub smallest : InSmallest (level f k) a j

  -- below the least block's dimension no pair is lone
  none_below : (m : Subcube) → Least k (maximal n f) m → (B : Block f n 0 m) → (d β : ℕ) → k ≤ d → d < B.e → lone (level f d) β ≡ false
  none_below m L B d β h l = cases (lone (level f d) β) (λ t. absurd (smaller t)) (λ t. t)
    where
      before : Before m (buddy_member d (free_half (level f d) β)) → ⊥
      before b =
          let s : m.stars ≡ 2 ^ B.e - 1 = ap (λ (c : Subcube). c.stars) B.is in
          ⊎_elim (λ p. omega (arith, stars_lt d B.e l)) (λ p. omega (arith, p.0, stars_lt d B.e l)) b

      smaller : lone (level f d) β ≡ true → ⊥
      smaller t =
          let below : d < n = omega (arith, B.at_most) in
          let entry = lone-maximal n d β f small below (lone_within n f I d β below t) t in
          before (L.others (buddy_member d (free_half (level f d) β)) entry (stars_le k d h))

  pub found_part : (c : Subcube) (t : ℕ) → best_fit n k f ≡ Found c t → Part c
  found_part c t e =
      let r = found_least n k f small c t e in
      let B = (in_maximal f n 0 small r.0).0 r.1.entry in
      let h : k ≤ B.e = dimension_le k B.e (subst (λ (c : Subcube). 2 ^ k - 1 ≤ c.stars) B.is r.1.at_least) in
      let z : k + (B.e - k) ≡ B.e = omega arith in
      let a : ℕ = B.β * 2 ^ (B.e - k) in
      record {
        a = a;
        j = B.e - k;
        is = r.2 ∙ ap (lowest_part k) B.is ∙ part_member k B.e B.β h;
        smallest = in_smallest (B.e - k) (level f k) a
            (λ d β l. rw (level-level k d f) (none_below r.0 r.1 B (k + d) β (omega arith) (omega arith)))
            (rw (level-level k (B.e - k) f, z, lowest_block (B.e - k) B.β) (block_lone n f I r.0 B));
      }

  -- ---- a block is found exactly when 2^k labels are free

  module _ (one : OneEach f) where
    block_room : (Some (2 ^ (n - k)) (λ a. level f k a ≡ true) → 2 ^ k ≤ count_below (2 ^ n) f)
        × (2 ^ k ≤ count_below (2 ^ n) f → Some (2 ^ (n - k)) (λ a. level f k a ≡ true))
    block_room = let z : k + (n - k) ≡ n = omega arith in rw z at (room k (n - k) f one)

    pub found_room : (c : Subcube) (t : ℕ) → best_fit n k f ≡ Found c t → 2 ^ k ≤ count_below (2 ^ n) f
    found_room c t e =
        let r = found_member n k f small c t e in
        let b = in_buddy n k c r.0 in
        block_room.0 (b.0, b.1, sym (level-free f k b.0 (omega arith)) ∙ ap (is_free f) (sym b.2) ∙ r.1)

    pub none_room : (t : ℕ) → best_fit n k f ≡ NoneFree t → count_below (2 ^ n) f < 2 ^ k
    none_room t e = ⊎_elim (λ l. l) (λ g.
        let r = block_room.1 g in
        absurd (true≢false (sym (level-free f k r.0 (omega arith) ∙ r.2)
        ∙ (none_best n k f small fits t e).1 (buddy_member k r.0) (buddy_in n k r.0 r.1)))) (lt_or (count_below (2 ^ n) f) (2 ^ k))
