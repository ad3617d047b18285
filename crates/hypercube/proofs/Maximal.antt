-- The blocks are the "free buddy members in no larger free buddy member", so the length of their list is their number. Assumes nothing.
use Prim.Native.Nat.{ℕ, suc, ◌+◌, ◌-◌, ◌*◌, ◌/◌, ◌^◌, ◌<◌, ◌≤◌}
use mathlib.Core.Logic.{◌↔◌, inl}
use mathlib.Core.Path.{◌≡◌, refl, sym, ap, ◌∙◌, subst}
use mathlib.Core.Bool.{Bool, true}
use mathlib.Core.List.{[], ◌∷◌}
use native.Mathlib.Nat.{div-eq_of_lt, div-lt_iff_lt-mul}
use native.Mathlib.Omega.{arith}
use lib.ListN.{length}
use lib.Pow.{pow_pos, shr_lt}
use Rattle.hypercube.specs.Lists.{In}
use Rattle.hypercube.specs.Bits.{width}
use Rattle.hypercube.specs.Subcubes.{is_free}
use Rattle.hypercube.specs.Families.{buddy_member, buddy}
use Rattle.hypercube.specs.BestFit.{maximal}
use Rattle.hypercube.specs.Maximal.{Within, MaximalFree, Counts}
use Rattle.hypercube.specs.Levels.{level}
use Rattle.hypercube.specs.Tests.{cases}
use Rattle.hypercube.specs.declared.Subcube.{Subcube}
use Rattle.hypercube.proofs.Lists.{over_in}
use Rattle.hypercube.proofs.Members.{in_buddy}
use Rattle.hypercube.proofs.Levels.{level-free, in_block, wider_block, lowest_block}
use Rattle.hypercube.proofs.Blocks.{Block, no_larger, in_maximal}
use Rattle.hypercube.proofs.Ascending.{maximal_distinct}

pub buddy_in : (n k α : ℕ) → α < 2 ^ (n - k) → In (buddy_member k α) (buddy n k)
buddy_in n k α l = over_in (λ α. buddy_member k α ∷ []) (2 ^ (n - k)) 0 α (buddy_member k α) (omega arith) (omega arith) (inl refl)

-- the member of dimension e around a member of dimension d lies in the cube
pub wider_below : (n d e α : ℕ) → d ≤ e → e ≤ n → α < 2 ^ (n - d) → α / 2 ^ (e - d) < 2 ^ (n - e)
wider_below n d e α a b l = let z : n - d ≡ n - e + (e - d) = omega arith in shr_lt (n - e) (e - d) (subst (λ (v : ℕ). α < 2 ^ v) z l)

pub below_block : (m x : ℕ) → x / 2 ^ m ≡ 0 → x < 2 ^ m
below_block m x z = omega (arith, (div-lt_iff_lt-mul {k = 2 ^ m} {x = x} {y = 1} (pow_pos m)).0 (omega arith))

module _ (n : ℕ) (f : ℕ → Bool) (small : n ≤ width) where
  -- a member within another: its place in the other's dimension
  around : (d e β γ : ℕ) → d ≤ e → e ≤ n → Within (buddy_member d β) (buddy_member e γ) → β / 2 ^ (e - d) ≡ γ
  around d e β γ a b w =
      ap (λ (v : ℕ). v / 2 ^ (e - d)) (sym (lowest_block d β)) ∙ sym (wider_block d e (β * 2 ^ d) a)
      ∙ (in_block e γ (β * 2 ^ d) (omega arith)).0 (w (β * 2 ^ d) ((in_block d β (β * 2 ^ d) (omega arith)).1 (lowest_block d β)))

  inside : (d e β γ : ℕ) → d ≤ e → e ≤ n → β / 2 ^ (e - d) ≡ γ → Within (buddy_member d β) (buddy_member e γ)
  inside d e β γ a b w y i =
      (in_block e γ y (omega arith)).1 (wider_block d e y a ∙ ap (λ (v : ℕ). v / 2 ^ (e - d)) ((in_block d β y (omega arith)).0 i) ∙ w)

  -- a block is maximal free, of its dimension
  pub block_free : (c : Subcube) (B : Block f n 0 c) → MaximalFree n (λ m. is_free f m ≡ true) B.e c
  block_free c B = rw B.is (record {
    fits = B.at_most;
    member = buddy_in n B.e B.β (below_block (n - B.e) B.β B.within);
    free = level-free f B.e B.β (omega (arith, B.at_most)) ∙ B.free;
    in_no_larger = λ e l h m i t w.
        let r = in_buddy n e m i in
        no_larger f n 0 c B e r.0 l h (around B.e e B.β r.0 (omega arith) h (subst (Within (buddy_member B.e B.β)) r.2 w))
        (sym (level-free f e r.0 (omega arith)) ∙ ap (is_free f) (sym r.2) ∙ t);
  })

  -- each maximal free member is a block, of that dimension
  pub free_block : (d : ℕ) (c : Subcube) → MaximalFree n (λ m. is_free f m ≡ true) d c → (B : Block f n 0 c) × (B.e ≡ d)
  free_block d c M =
      let r = in_buddy n d c M.member in (
        record {
          e = d;
          β = r.0;
          at_most = M.fits;
          within = div-eq_of_lt r.1;
          free = sym (level-free f d r.0 (omega (arith, M.fits))) ∙ ap (is_free f) (sym r.2) ∙ M.free;
          alone = λ l. cases (level f (suc d) (r.0 / 2)) (λ t. absurd (larger r.0 r.1 r.2 l t)) (λ t. t);
          is = r.2;
        },
        refl,
      )
    where
      larger : (β : ℕ) → β < 2 ^ (n - d) → c ≡ buddy_member d β → d < n → level f (suc d) (β / 2) ≡ true → ⊥
      larger β b z l t =
          let o : suc d - d ≡ 1 = omega arith in
          M.in_no_larger (suc d) (omega arith) l (buddy_member (suc d) (β / 2))
          (buddy_in n (suc d) (β / 2) (subst (λ (v : ℕ). β / 2 ^ v < 2 ^ (n - suc d)) o (wider_below n d (suc d) β (omega arith) l b)))
          (level-free f (suc d) (β / 2) (omega arith) ∙ t)
          (subst (λ (c : Subcube). Within c (buddy_member (suc d) (β / 2))) (sym z)
          (inside d (suc d) β (β / 2) (omega arith) l (ap (λ (v : ℕ). β / 2 ^ v) o)))

  -- the blocks are the maximal free ones, of any dimension
  pub maximal_free : (c : Subcube) → Block f n 0 c ↔ ((d : ℕ) × MaximalFree n (λ m. is_free f m ≡ true) d c)
  maximal_free c = (λ B. (B.e, block_free c B), λ r. (free_block r.0 c r.1).0)

  -- so the length of the list is the number of maximal free blocks
  pub maximal_blocks : Counts n (λ m. is_free f m ≡ true) (length (maximal n f))
  maximal_blocks = record {
    blocks = maximal n f;
    exactly = λ c. (
      λ i. (maximal_free c).0 ((in_maximal f n 0 small c).0 i),
      λ r. (in_maximal f n 0 small c).1 ((maximal_free c).1 r),
    );
    distinct = maximal_distinct n f small;
    number = refl;
  }
