-- What best fit takes, found level by level: at the first level from k on with a lone pair, the free half of its first; else the whole cube.
-- Assumes nothing.
use Prim.Native.Nat.{ℕ, suc, ◌+◌, ◌-◌, ◌*◌, ◌/◌, ◌^◌, ◌<◌, ◌≤◌}
use mathlib.Core.Logic.{◌⊎◌, inl, inr, ⊎_elim}
use mathlib.Core.Path.{◌≡◌, refl, sym, ap, ◌∙◌, subst}
use mathlib.Core.Bool.{Bool, true, false, not, cond, ◌&&◌, true≢false, false≢true}
use mathlib.Core.Option.{none, some}
use native.Mathlib.Nat.{mul-le-mul_right, div-eq_of_lt}
use native.Mathlib.Omega.{arith}
use lib.Pow.{pow_pos}
use Rattle.hypercube.specs.Lists.{In}
use Rattle.hypercube.specs.Bits.{width}
use Rattle.hypercube.specs.Families.{buddy_member}
use Rattle.hypercube.specs.Levels.{joined, level, lone, free_half}
use Rattle.hypercube.specs.BestFit.{maximal, smallest}
use Rattle.hypercube.specs.declared.Subcube.{Subcube}
use Rattle.hypercube.proofs.Bits.{lt_or, shift_injective, pow_injective}
use Rattle.hypercube.proofs.Levels.{half_of, half_shr, level-suc}
use Rattle.hypercube.proofs.Blocks.{Block, in_maximal}
use Rattle.hypercube.proofs.Ascending.{ascending}
use Rattle.hypercube.proofs.Maximal.{below_block}
use Rattle.hypercube.proofs.Smallest.{Before, stars_lt, stars_le, dimension_le, least_taken, none_taken}

-- ---- lone pairs

-- no pair is lone at the levels k to d - 1 of a cube of dimension n
abbrev pub NoLone : ℕ → (ℕ → Bool) → ℕ → ℕ → Type 0
NoLone n f k d = (e β : ℕ) → k ≤ e → e < d → β < 2 ^ (n - suc e) → lone (level f e) β ≡ false

-- of a lone pair one half is free, not both
pub lone-free : (f : ℕ → Bool) (β : ℕ) → lone f β ≡ true → (f (free_half f β) ≡ true) × (joined f β ≡ false) × (free_half f β / 2 ≡ β)
lone-free f β t = go (f (2 * β)) (f (2 * β + 1)) refl refl t
  where
    go : (a b : Bool) → f (2 * β) ≡ a → f (2 * β + 1) ≡ b → cond a (not b) b ≡ true
        → (f (cond a (2 * β) (2 * β + 1)) ≡ true) × ((a && b) ≡ false) × (cond a (2 * β) (2 * β + 1) / 2 ≡ β)
    go true true p q z = absurd (false≢true z)
    go true false p q z = (p, refl, omega arith)
    go false true p q z = (q, refl, omega arith)
    go false false p q z = absurd (false≢true z)

-- a free half, when not both are, makes the pair lone
pub half_lone : (f : ℕ → Bool) (β α : ℕ) → α / 2 ≡ β → f α ≡ true → joined f β ≡ false → (lone f β ≡ true) × (α ≡ free_half f β)
half_lone f β α e t n = go (f (2 * β)) (f (2 * β + 1)) refl refl n (half_of α β e)
  where
    go : (a b : Bool) → f (2 * β) ≡ a → f (2 * β + 1) ≡ b → (a && b) ≡ false → (α ≡ 2 * β) ⊎ (α ≡ 2 * β + 1)
        → (cond a (not b) b ≡ true) × (α ≡ cond a (2 * β) (2 * β + 1))
    go true true p q z h = absurd (true≢false z)
    go true false p q z (inl h) = (refl, h)
    go true false p q z (inr h) = absurd (false≢true (sym q ∙ ap f (sym h) ∙ t))
    go false true p q z (inl h) = absurd (false≢true (sym p ∙ ap f (sym h) ∙ t))
    go false true p q z (inr h) = (refl, h)
    go false false p q z h = absurd (false≢true (⊎_elim (λ h. sym p ∙ ap f (sym h) ∙ t) (λ h. sym q ∙ ap f (sym h) ∙ t) h))

-- the free halves of pairs stand in the pairs' order
half_le : (f : ℕ → Bool) (β γ : ℕ) → β ≤ γ → free_half f β ≤ free_half f γ
half_le f β γ h = ⊎_elim (λ l. go (f (2 * β)) (f (2 * γ)) l) (λ l. let z : β ≡ γ = omega arith in rw z (omega arith)) (lt_or β γ)
  where
    go : (a b : Bool) → β < γ → cond a (2 * β) (2 * β + 1) ≤ cond b (2 * γ) (2 * γ + 1)
    go true true l = omega arith
    go true false l = omega arith
    go false true l = omega arith
    go false false l = omega arith

-- the free half of a lone pair is a maximal free block
pub lone-maximal : (n d β : ℕ) (f : ℕ → Bool) → n ≤ width → d < n → β < 2 ^ (n - suc d) → lone (level f d) β ≡ true
    → In (buddy_member d (free_half (level f d) β)) (maximal n f)
lone-maximal n d β f small l b t =
    let r = lone-free (level f d) β t in
    let z : n - d ≡ suc (n - suc d) = omega arith in
    (in_maximal f n 0 small (buddy_member d (free_half (level f d) β))).1 (record {
      e = d;
      β = free_half (level f d) β;
      at_most = omega arith;
      within = ap (λ (v : ℕ). free_half (level f d) β / 2 ^ v) z ∙ half_shr (free_half (level f d) β) (n - suc d)
          ∙ ap (λ (v : ℕ). v / 2 ^ (n - suc d)) r.2 ∙ div-eq_of_lt b;
      free = r.0;
      alone = λ _. ap (level f (suc d)) r.2 ∙ level-suc d f β ∙ r.1;
      is = refl;
    })

-- a maximal free block other than the whole cube is the free half of a lone pair: as a block, and as an entry
block_lone : (n : ℕ) (f : ℕ → Bool) (c : Subcube) (B : Block f n 0 c) → B.e < n
    → (B.β / 2 < 2 ^ (n - suc B.e)) × (lone (level f B.e) (B.β / 2) ≡ true) × (B.β ≡ free_half (level f B.e) (B.β / 2))
block_lone n f c B l =
    let z : n - B.e ≡ suc (n - suc B.e) = omega arith in
    let w : B.β / 2 / 2 ^ (n - suc B.e) ≡ 0 = sym (half_shr B.β (n - suc B.e)) ∙ ap (λ (v : ℕ). B.β / 2 ^ v) (sym z) ∙ B.within in
    let r = half_lone (level f B.e) (B.β / 2) B.β refl B.free (sym (level-suc B.e f (B.β / 2)) ∙ B.alone l) in
    (below_block (n - suc B.e) (B.β / 2) w, r.0, r.1)

pub maximal-lone : (n d α : ℕ) (f : ℕ → Bool) → n ≤ width → d < n → In (buddy_member d α) (maximal n f)
    → (α / 2 < 2 ^ (n - suc d)) × (lone (level f d) (α / 2) ≡ true) × (α ≡ free_half (level f d) (α / 2))
maximal-lone n d α f small l i =
    let B = (in_maximal f n 0 small (buddy_member d α)).0 i in
    let p : 2 ^ d - 1 ≡ 2 ^ B.e - 1 = ap (λ (c : Subcube). c.stars) B.is in
    let z : B.e ≡ d = pow_injective B.e d (omega (arith, pow_pos d, pow_pos B.e)) in
    let q : α * 2 ^ d ≡ B.β * 2 ^ B.e = ap (λ (c : Subcube). c.low.0) B.is in
    let y : B.β ≡ α = shift_injective d B.β α (ap (λ (v : ℕ). B.β * 2 ^ v) (sym z) ∙ sym q) in
    subst (Half d) y (subst (λ (e : ℕ). Half e B.β) z (block_lone n f (buddy_member d α) B (omega arith)))
  where
    Half : ℕ → ℕ → Type 0
    Half e a = (a / 2 < 2 ^ (n - suc e)) × (lone (level f e) (a / 2) ≡ true) × (a ≡ free_half (level f e) (a / 2))

-- ---- what is taken

module _ (n k : ℕ) (f : ℕ → Bool) where
  -- a block of dimension at least k stands at a level from k on
  block_from : (m : Subcube) (B : Block f n 0 m) → 2 ^ k - 1 ≤ m.stars → k ≤ B.e
  block_from m B h = dimension_le k B.e (subst (λ (c : Subcube). 2 ^ k - 1 ≤ c.stars) B.is h)

  -- with no lone pair at the levels k to d - 1, no block of dimension at least k has a smaller one than d
  none_smaller : (d : ℕ) → d ≤ n → NoLone n f k d → (m : Subcube) (B : Block f n 0 m) → 2 ^ k - 1 ≤ m.stars → d ≤ B.e
  none_smaller d h none_lone m B g =
      ⊎_elim
      (λ l.
      let r = block_lone n f m B (omega arith) in
      absurd (false≢true (sym (none_lone B.e (B.β / 2) (block_from m B g) l r.0) ∙ r.1)))
      (λ l. l) (lt_or B.e d)

-- the free half of the first lone pair, at the first level from k on that has one
pub best_at : (n k d β : ℕ) (f : ℕ → Bool) → n ≤ width → k ≤ d → d < n → NoLone n f k d → β < 2 ^ (n - suc d) → lone (level f d) β ≡ true
    → ((γ : ℕ) → γ < β → lone (level f d) γ ≡ false) → smallest k (maximal n f) ≡ some (buddy_member d (free_half (level f d) β))
best_at n k d β f small h l none_lone b t first =
    least_taken k (maximal n f) (ascending f n 0 small) (buddy_member d (free_half (level f d) β)) (record {
      entry = lone-maximal n d β f small l b t;
      at_least = stars_le k d h;
      others = λ m i g. by_level m ((in_maximal f n 0 small m).0 i) g;
    })
  where
    level_of : (m : Subcube) (B : Block f n 0 m) → B.e ≡ d → free_half (level f d) β ≤ B.β
    level_of m B z =
        let r = block_lone n f m B (omega arith) in
        let t : lone (level f d) (B.β / 2) ≡ true = ap (λ (v : ℕ). lone (level f v) (B.β / 2)) (sym z) ∙ r.1 in
        let q : B.β ≡ free_half (level f d) (B.β / 2) = r.2 ∙ ap (λ (v : ℕ). free_half (level f v) (B.β / 2)) z in
        let o : β ≤ B.β / 2 = ⊎_elim (λ c. absurd (false≢true (sym (first (B.β / 2) c) ∙ t))) (λ c. c) (lt_or (B.β / 2) β) in
        subst (λ (v : ℕ). free_half (level f d) β ≤ v) (sym q) (half_le (level f d) β (B.β / 2) o)

    by_level : (m : Subcube) → Block f n 0 m → 2 ^ k - 1 ≤ m.stars → Before (buddy_member d (free_half (level f d) β)) m
    by_level m B g =
        subst (Before (buddy_member d (free_half (level f d) β))) (sym B.is)
        (⊎_elim (λ c. inl (stars_lt d B.e c))
        (λ c.
        let z : B.e ≡ d = omega (arith, none_smaller n k f d (omega arith) none_lone m B g) in
        rw z (inr (refl, mul-le-mul_right (2 ^ d) (level_of m B z))))
        (lt_or d B.e))

-- the whole cube, where it is free
pub best_top : (n k : ℕ) (f : ℕ → Bool) → n ≤ width → k ≤ n → NoLone n f k n → level f n 0 ≡ true → smallest k (maximal n f) ≡ some (buddy_member n 0)
best_top n k f small h none_lone t =
    least_taken k (maximal n f) (ascending f n 0 small) (buddy_member n 0) (record {
      entry = (in_maximal f n 0 small (buddy_member n 0)).1 (record {
        e = n;
        β = 0;
        at_most = omega arith;
        within = div-eq_of_lt (pow_pos (n - n));
        free = t;
        alone = λ l. absurd (omega arith);
        is = refl;
      });
      at_least = stars_le k n h;
      others = λ m i g. whole m ((in_maximal f n 0 small m).0 i) g;
    })
  where
    whole : (m : Subcube) → Block f n 0 m → 2 ^ k - 1 ≤ m.stars → Before (buddy_member n 0) m
    whole m B g =
        let z : B.e ≡ n = omega (arith, B.at_most, none_smaller n k f n (omega arith) none_lone m B g) in
        subst (Before (buddy_member n 0)) (sym B.is) (inr (ap (λ (v : ℕ). 2 ^ v - 1) (sym z), omega arith))

-- nothing
pub best_none : (n k : ℕ) (f : ℕ → Bool) → n ≤ width → NoLone n f k n → level f n 0 ≡ false → smallest k (maximal n f) ≡ none
best_none n k f small none_lone t = none_taken k (maximal n f) (ascending f n 0 small) (λ m i. small_block m ((in_maximal f n 0 small m).0 i))
  where
    small_block : (m : Subcube) → Block f n 0 m → m.stars < 2 ^ k - 1
    small_block m B = ⊎_elim (λ l. l)
        (λ g.
        let z : B.e ≡ n = omega (arith, B.at_most, none_smaller n k f n (omega arith) none_lone m B g) in
        let w : n - B.e ≡ 0 = omega arith in
        let y : B.β ≡ 0 = omega (arith, below_block (n - B.e) B.β B.within, ap (λ (v : ℕ). 2 ^ v) w) in
        absurd (false≢true (sym t ∙ ap (level f n) (sym y) ∙ ap (λ (v : ℕ). level f v B.β) (sym z) ∙ B.free)))
        (lt_or m.stars (2 ^ k - 1))
