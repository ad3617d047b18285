-- Buddy's members by levels: member α of dimension d has the labels l with l / 2^d = α, and is free exactly where level d has α. Assumes nothing.
use Prim.Native.Nat.{ℕ, zero, suc, ◌+◌, ◌-◌, ◌*◌, ◌/◌, ◌%◌, ◌^◌, ◌<◌, ◌≤◌}
use mathlib.Core.Logic.{◌↔◌, ◌⊎◌, ◌≢◌, inl, inr, ⊎_elim}
use mathlib.Core.Path.{◌≡◌, refl, sym, ap, ap₂, ◌∙◌}
use mathlib.Core.Bool.{Bool, true, ◌&&◌}
use native.Mathlib.Nat.{pow-succ', div-div-eq-div-mul}
use native.Mathlib.Omega.{arith}
use borrow.Author.Tests.{eqb-true, eqb-false}
use lib.Dec.{eqb}
use lib.Pow.{shl-shr, shr-shr, ones_lt}
use Rattle.hypercube.specs.Lists.{In}
use Rattle.hypercube.specs.Bits.{width, bit}
use Rattle.hypercube.specs.Subcubes.{free_at, labels, is_free}
use Rattle.hypercube.specs.Families.{buddy_member}
use Rattle.hypercube.specs.Levels.{joined, level}
use Rattle.hypercube.specs.Tests.{cases, Means, means_true, means_iff, means_and, same_test}
use Rattle.hypercube.proofs.Bits.{lt_or, bit_shr, bit_high, bits_equal, is_clear, not_clear, bit-ones, shifted_high, shifted_low, double}
use Rattle.hypercube.proofs.Vertices.{Fixed, Outside, in_vertices, vertices_in}

-- ---- halves

-- what has half β is 2β or 2β + 1
pub half_of : (α β : ℕ) → α / 2 ≡ β → (α ≡ 2 * β) ⊎ (α ≡ 2 * β + 1)
half_of α β e =
    cases (eqb (α % 2) 0) (λ t. inl (omega (arith, eqb-true (α % 2) 0 t)))
    (λ t. let ne : α % 2 ≢ 0 = eqb-false (α % 2) 0 t in inr (omega arith))

pub half_shr : (l k : ℕ) → l / 2 ^ suc k ≡ l / 2 / 2 ^ k
half_shr l k = ap (λ (z : ℕ). l / z) (pow-succ' 2 k) ∙ sym (div-div-eq-div-mul l 2 (2 ^ k))

-- ---- levels

-- a level is made of the one below
pub level-suc : (d : ℕ) (f : ℕ → Bool) (α : ℕ) → level f (suc d) α ≡ joined (level f d) α
unfolding level
level-suc zero f α = refl
level-suc (suc d) f α = level-suc d (joined f) α

means_joined : (f : ℕ → Bool) (β : ℕ) → Means (joined f β) ((α : ℕ) → α / 2 ≡ β → f α ≡ true)
means_joined f β =
    means_iff (means_and means_true means_true)
    (λ h α e. ⊎_elim (λ z. rw z h.0) (λ z. rw z h.1) (half_of α β e), λ h. (h (2 * β) (omega arith), h (2 * β + 1) (omega arith)))

-- level d has α exactly where every label of that block is free
pub means_level : (d : ℕ) (f : ℕ → Bool) (α : ℕ) → Means (level f d α) ((l : ℕ) → l / 2 ^ d ≡ α → f l ≡ true)
unfolding level
means_level zero f α = record { holds = λ e l h. let z : l ≡ α = omega arith in rw z e; shows = λ h. h α (omega arith) }
means_level (suc d) f α =
    means_iff (means_level d (joined f) α) (
      λ h l e. (means_joined f (l / 2)).holds (h (l / 2) (sym (half_shr l d) ∙ e)) l refl,
      λ h b e. (means_joined f b).shows (λ l q. h l (half_shr l d ∙ ap (λ (z : ℕ). z / 2 ^ d) q ∙ e)),
    )

-- ---- the free test of a member goes by the levels

-- the bits of 2^d - 1 from d up are no stars
free_narrow : (f : ℕ → Bool) (d m b : ℕ) → free_at f (d + m) (2 ^ d - 1) b ≡ free_at f d (2 ^ d - 1) b
unfolding free_at
free_narrow f d zero b = let e : d + 0 ≡ d = omega arith in rw e
free_narrow f d (suc m) b =
    let e : d + suc m ≡ suc (d + m) = omega arith in
    rw (e, free_at) (rw (is_clear (2 ^ d - 1) (d + m) (bit_high (2 ^ d - 1) d (d + m) (ones_lt d) (omega arith))) (free_narrow f d m b))

free-level : (f : ℕ → Bool) (d s α : ℕ) → ((i : ℕ) → i < d → bit s i ≡ 1) → free_at f d s (α * 2 ^ d) ≡ level f d α
unfolding free_at level
free-level f zero s α h = ap f (omega arith)
free-level f (suc d) s α h =
    let lower : α * 2 ^ suc d ≡ 2 * α * 2 ^ d = double α d ∙ omega arith in
    let upper : 2 * α * 2 ^ d + 2 ^ d ≡ (2 * α + 1) * 2 ^ d = omega arith in
    rw (not_clear s d (h d (omega arith)), free_at)
    (rw (lower, upper) (ap₂ ◌&&◌ (free-level f d s (2 * α) (λ i l. h i (omega arith))) (free-level f d s (2 * α + 1) (λ i l. h i (omega arith)))
    ∙ sym (level-suc d f α)))

pub level-free : (f : ℕ → Bool) (d α : ℕ) → d ≤ width → is_free f (buddy_member d α) ≡ level f d α
level-free f d α h =
    let e : width ≡ d + (width - d) = omega arith in
    ap (λ (w : ℕ). free_at f w (2 ^ d - 1) (α * 2 ^ d)) e ∙ free_narrow f d (width - d) (α * 2 ^ d) ∙ free-level f d (2 ^ d - 1) α (bit-ones d)

-- ---- a member's labels

-- the bits from d up are the label's
pub in_block : (d α y : ℕ) → d ≤ width → In y (labels (buddy_member d α)) ↔ (y / 2 ^ d ≡ α)
in_block d α y h = (
  λ m. bits_equal (y / 2 ^ d) α (λ i.
      sym (bit_shr y d i)
      ∙ in_vertices width (2 ^ d - 1) (α * 2 ^ d) y fixed m (d + i) (inr (bit_high (2 ^ d - 1) d (d + i) (ones_lt d) (omega arith)))
      ∙ shifted_high α d i),
  λ e. vertices_in width (2 ^ d - 1) (α * 2 ^ d) y fixed (λ i o. ⊎_elim (λ l. absurd (star i l o)) (λ g. above e i g) (lt_or i d)),
)
  where
    fixed : Fixed width (2 ^ d - 1) (α * 2 ^ d)
    fixed i l o = ⊎_elim (λ b. shifted_low α d i b) (λ g. absurd (omega (arith, bit_high (2 ^ d - 1) d i (ones_lt d) g))) (lt_or i d)

    star : (i : ℕ) → i < d → Outside width (2 ^ d - 1) i → ⊥
    star i l (inl w) = omega arith
    star i l (inr z) = omega (arith, bit-ones d i l)

    above : y / 2 ^ d ≡ α → (i : ℕ) → d ≤ i → bit y i ≡ bit (α * 2 ^ d) i
    above e i g =
        let z : i ≡ d + (i - d) = omega arith in
        rw z (bit_shr y d (i - d) ∙ ap (λ (v : ℕ). bit v (i - d)) e ∙ sym (shifted_high α d (i - d)))

-- a label's block of dimension e, by its block of dimension d
pub wider_block : (d e l : ℕ) → d ≤ e → l / 2 ^ e ≡ l / 2 ^ d / 2 ^ (e - d)
wider_block d e l h = let z : e ≡ d + (e - d) = omega arith in ap (λ (v : ℕ). l / 2 ^ v) z ∙ sym (shr-shr l d (e - d))

pub lowest_block : (d α : ℕ) → α * 2 ^ d / 2 ^ d ≡ α
lowest_block d α = shl-shr α d
