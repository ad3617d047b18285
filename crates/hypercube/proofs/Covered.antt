-- The maximal free blocks hold exactly the free labels, each in one. Assumes nothing.
use Prim.Native.Nat.{ℕ, zero, suc, ◌+◌, ◌-◌, ◌*◌, ◌/◌, ◌^◌, ◌<◌, ◌≤◌}
use mathlib.Core.Logic.{◌↔◌, inl, ⊎_elim}
use mathlib.Core.Path.{◌≡◌, refl, sym, ap, ap₂, ◌∙◌}
use mathlib.Core.Bool.{Bool, true}
use native.Mathlib.Nat.{div-eq_of_lt}
use native.Mathlib.Omega.{arith}
use Rattle.hypercube.specs.Lists.{In}
use Rattle.hypercube.specs.Bits.{width}
use Rattle.hypercube.specs.Subcubes.{labels}
use Rattle.hypercube.specs.Families.{buddy_member}
use Rattle.hypercube.specs.BestFit.{maximal_in, maximal}
use Rattle.hypercube.specs.Levels.{level}
use Rattle.hypercube.specs.Tests.{cases}
use Rattle.hypercube.specs.declared.Subcube.{Subcube}
use Rattle.hypercube.proofs.Bits.{lt_or}
use Rattle.hypercube.proofs.Lists.{in_left, in_right, only_in}
use Rattle.hypercube.proofs.Levels.{half_of, means_level, in_block, wider_block}
use Rattle.hypercube.proofs.Blocks.{Block, next_block, maximal_one, maximal-whole, maximal_halves, no_larger, block_label, in_maximal}
use Rattle.hypercube.proofs.Maximal.{below_block}

-- a free label of a member lies in a block of it
covered : (f : ℕ → Bool) (d α y : ℕ) → d ≤ width → f y ≡ true → y / 2 ^ d ≡ α → (c : Subcube) × In c (maximal_in f d α) × In y (labels c)
covered f zero α y h t e =
    let z : α ≡ y = omega arith in
    (buddy_member 0 α, rw (maximal_one f α) (only_in (f α) (buddy_member 0 α) (ap f z ∙ t)), (in_block 0 α y h).1 e)
covered f (suc d) α y h t e =
    cases (level f (suc d) α) (λ l. (buddy_member (suc d) α, rw (maximal-whole f d α h l) (inl refl), (in_block (suc d) α y h).1 e))
    (λ l. ⊎_elim (λ p.
    let r = covered f d (2 * α) y (omega arith) t p in
    (r.0, rw (maximal_halves f d α h l) (in_left r.0 (maximal_in f d (2 * α)) (maximal_in f d (2 * α + 1)) r.1), r.2))
    (λ p.
    let r = covered f d (2 * α + 1) y (omega arith) t p in
    (r.0, rw (maximal_halves f d α h l) (in_right r.0 (maximal_in f d (2 * α)) (maximal_in f d (2 * α + 1)) r.1), r.2))
    (half_of (y / 2 ^ d) α (sym (next_block y d) ∙ e)))

-- the labels of the blocks are the free labels of the cube
pub blocks_cover : (n : ℕ) (f : ℕ → Bool) → n ≤ width → (y : ℕ)
    → ((c : Subcube) × In c (maximal n f) × In y (labels c)) ↔ ((y < 2 ^ n) × (f y ≡ true))
blocks_cover n f h y = (
  λ r.
      let B = (in_maximal f n 0 h r.0).0 r.1 in
      let p : y / 2 ^ B.e ≡ B.β = block_label f n 0 r.0 B h y r.2 in (
        below_block n y (wider_block B.e n y B.at_most ∙ ap (λ (v : ℕ). v / 2 ^ (n - B.e)) p ∙ B.within),
        (means_level B.e f B.β).holds B.free y p,
      ),
  λ r. covered f n 0 y h r.1 (div-eq_of_lt r.0),
)

-- of two that share a label, the second is no larger
no_smaller : (f : ℕ → Bool) (d α : ℕ) → d ≤ width → (c m : Subcube) (B : Block f d α c) (M : Block f d α m)
    → (y : ℕ) → In y (labels c) → In y (labels m) → M.e ≤ B.e
no_smaller f d α h c m B M y p q =
    ⊎_elim (λ l. absurd (no_larger f d α c B M.e M.β l M.at_most (around l) M.free)) (λ g. g) (lt_or B.e M.e)
  where
    around : B.e < M.e → B.β / 2 ^ (M.e - B.e) ≡ M.β
    around l =
        ap (λ (v : ℕ). v / 2 ^ (M.e - B.e)) (sym (block_label f d α c B h y p)) ∙ sym (wider_block B.e M.e y (omega arith))
        ∙ block_label f d α m M h y q

-- so two that share a label are equal
pub blocks_disjoint : (n : ℕ) (f : ℕ → Bool) → n ≤ width → (c m : Subcube) → In c (maximal n f) → In m (maximal n f)
    → (y : ℕ) → In y (labels c) → In y (labels m) → c ≡ m
blocks_disjoint n f h c m i j y p q =
    let B = (in_maximal f n 0 h c).0 i in
    let M = (in_maximal f n 0 h m).0 j in
    let e : B.e ≡ M.e = omega (arith, no_smaller f n 0 h c m B M y p q, no_smaller f n 0 h m c M B y q p) in
    let b : B.β ≡ M.β = sym (block_label f n 0 c B h y p) ∙ ap (λ (v : ℕ). y / 2 ^ v) e ∙ block_label f n 0 m M h y q in
    B.is ∙ ap₂ buddy_member e b ∙ sym M.is
