-- The list of maximal free blocks has exactly the blocks: the free members whose next larger one is not free, or is beyond. Assumes nothing.
use Prim.Native.Nat.{ℕ, zero, suc, ◌+◌, ◌-◌, ◌*◌, ◌/◌, ◌^◌, ◌<◌, ◌≤◌}
use mathlib.Core.Logic.{◌↔◌, inl, ⊎_elim}
use mathlib.Core.Path.{◌≡◌, refl, sym, ap, ap₂, ◌∙◌, subst}
use mathlib.Core.Bool.{Bool, true, false, true≢false}
use mathlib.Core.List.{[], ◌∷◌, ◌++◌}
use native.Mathlib.Omega.{arith}
use Rattle.hypercube.specs.Lists.{In, only}
use Rattle.hypercube.specs.Bits.{width}
use Rattle.hypercube.specs.Subcubes.{labels}
use Rattle.hypercube.specs.Families.{buddy_member}
use Rattle.hypercube.specs.BestFit.{maximal_in}
use Rattle.hypercube.specs.Levels.{level}
use Rattle.hypercube.specs.Tests.{cases}
use Rattle.hypercube.specs.declared.Subcube.{Subcube}
use Rattle.hypercube.proofs.Bits.{lt_or}
use Rattle.hypercube.proofs.Lists.{in_left, in_right, in_either, single, in_only, only_in}
use Rattle.hypercube.proofs.Levels.{half_of, half_shr, means_level, level-free, in_block, wider_block, lowest_block}

-- c is buddy's member β of dimension e, within member α of dimension d; it is free, and the next larger one is not or is beyond that
pub record Block (f : ℕ → Bool) (d α : ℕ) (c : Subcube) : Type 0 where
  pub e : ℕ
  pub β : ℕ
  pub at_most : e ≤ d
  pub within : β / 2 ^ (d - e) ≡ α
  pub free : level f e β ≡ true
  pub alone : e < d → level f (suc e) (β / 2) ≡ false
  pub is : c ≡ buddy_member e β

-- ---- the list by the levels

pub level-zero : (f : ℕ → Bool) (α : ℕ) → level f 0 α ≡ f α
unfolding level
level-zero f α = refl

pub maximal_one : (f : ℕ → Bool) (α : ℕ) → maximal_in f 0 α ≡ only (f α) (buddy_member 0 α)
unfolding maximal_in
maximal_one f α = ap (λ (b : Bool). only b (buddy_member 0 α)) (level-free f 0 α (omega arith) ∙ level-zero f α)

-- a free member is the only block within it
pub maximal-whole : (f : ℕ → Bool) (d α : ℕ) → suc d ≤ width → level f (suc d) α ≡ true → maximal_in f (suc d) α ≡ buddy_member (suc d) α ∷ []
unfolding maximal_in
maximal-whole f d α h t = rw (level-free f (suc d) α h ∙ t, maximal_in)

-- any other has those of its halves
pub maximal_halves : (f : ℕ → Bool) (d α : ℕ) → suc d ≤ width → level f (suc d) α ≡ false
    → maximal_in f (suc d) α ≡ maximal_in f d (2 * α) ++ maximal_in f d (2 * α + 1)
unfolding maximal_in
maximal_halves f d α h t = rw (level-free f (suc d) α h ∙ t, maximal_in)

-- ---- members in members

-- the place of the next larger member, last
pub next_block : (l k : ℕ) → l / 2 ^ suc k ≡ l / 2 ^ k / 2
next_block l k = let z : suc k - k ≡ 1 = omega arith in wider_block k (suc k) l (omega arith) ∙ ap (λ (v : ℕ). l / 2 ^ k / 2 ^ v) z

-- what lies in a free member is free
pub level_within : (f : ℕ → Bool) (d e α β : ℕ) → e ≤ d → β / 2 ^ (d - e) ≡ α → level f d α ≡ true → level f e β ≡ true
level_within f d e α β h w t =
    (means_level e f β).shows (λ l q. (means_level d f α).holds t l (wider_block e d l h ∙ ap (λ (v : ℕ). v / 2 ^ (d - e)) q ∙ w))

-- a member within itself
own_block : (d α : ℕ) → α / 2 ^ (d - d) ≡ α
own_block d α = let z : d - d ≡ 0 = omega arith in rw z (omega arith)

-- the half in which a smaller member lies
half_block : (d e β : ℕ) → e ≤ d → β / 2 ^ (suc d - e) ≡ β / 2 ^ (d - e) / 2
half_block d e β h = let z : suc d - e ≡ suc (d - e) = omega arith in rw z (next_block β (d - e))

-- a smaller member's next larger one lies in the same
next_within : (d e β : ℕ) → e < d → β / 2 ^ (d - e) ≡ β / 2 / 2 ^ (d - suc e)
next_within d e β h = let z : d - e ≡ suc (d - suc e) = omega arith in rw z (half_shr β (d - suc e))

-- ---- the list has exactly the blocks

-- a free member is a block of it
whole : (f : ℕ → Bool) (d α : ℕ) → level f d α ≡ true → Block f d α (buddy_member d α)
whole f d α t = record {
  e = d;
  β = α;
  at_most = omega arith;
  within = own_block d α;
  free = t;
  alone = λ l. absurd (omega arith);
  is = refl;
}

module _ (f : ℕ → Bool) (d α : ℕ) (c : Subcube) (B : Block f d α c) where
  -- a block as large as the member is the member
  top : d ≤ B.e → (B.e ≡ d) × (B.β ≡ α)
  top g = let z : d - B.e ≡ 0 = omega arith in (omega (arith, B.at_most), omega (arith, rw z at B.within))

  top_free : d ≤ B.e → (level f d α ≡ true) × (c ≡ buddy_member d α)
  top_free g =
      let r = top g in
      (sym (ap₂ (level f) r.0 r.1) ∙ B.free, B.is ∙ ap₂ buddy_member r.0 r.1)

  -- it lies in no larger free member
  pub no_larger : (e γ : ℕ) → B.e < e → e ≤ d → B.β / 2 ^ (e - B.e) ≡ γ → level f e γ ≡ true → ⊥
  no_larger e γ l h w t =
      true≢false (sym (level_within f e (suc B.e) γ (B.β / 2) l (sym (next_within e B.e B.β l) ∙ w) t) ∙ B.alone (omega arith))

  -- its lowest label lies in the member
  pub lowest_within : c.low.0 / 2 ^ d ≡ α
  lowest_within =
      ap (λ (m : Subcube). m.low.0 / 2 ^ d) B.is ∙ wider_block B.e d (B.β * 2 ^ B.e) B.at_most
      ∙ ap (λ (v : ℕ). v / 2 ^ (d - B.e)) (lowest_block B.e B.β) ∙ B.within

  -- its labels have its place in its dimension
  pub block_label : d ≤ width → (y : ℕ) → In y (labels c) → y / 2 ^ B.e ≡ B.β
  block_label h y i = (in_block B.e B.β y (omega (arith, B.at_most))).0 (subst (λ (m : Subcube). In y (labels m)) B.is i)

-- a block of a half is one of the member, where that is not free
of_half : (f : ℕ → Bool) (d α η : ℕ) → η / 2 ≡ α → level f (suc d) α ≡ false → (c : Subcube) → Block f d η c → Block f (suc d) α c
of_half f d α η p t c B = record {
  e = B.e;
  β = B.β;
  at_most = omega (arith, B.at_most);
  within = half_block d B.e B.β B.at_most ∙ ap (λ (v : ℕ). v / 2) B.within ∙ p;
  free = B.free;
  alone = λ _. ⊎_elim B.alone largest (lt_or B.e d);
  is = B.is;
}
  where
    largest : d ≤ B.e → level f (suc B.e) (B.β / 2) ≡ false
    largest g = let r = top f d η c B g in ap₂ (λ (x y : ℕ). level f (suc x) (y / 2)) r.0 r.1 ∙ ap (level f (suc d)) p ∙ t

-- and a smaller block of the member is one of a half
in_half : (f : ℕ → Bool) (d α η : ℕ) (c : Subcube) (B : Block f (suc d) α c) → B.e ≤ d → B.β / 2 ^ (d - B.e) ≡ η → Block f d η c
in_half f d α η c B l w = record {
  e = B.e;
  β = B.β;
  at_most = l;
  within = w;
  free = B.free;
  alone = λ m. B.alone (omega arith);
  is = B.is;
}

-- the two cases: the member is free, or the blocks are those of its halves
in_whole : (f : ℕ → Bool) (d α : ℕ) (c : Subcube) → level f (suc d) α ≡ true → In c (buddy_member (suc d) α ∷ []) ↔ Block f (suc d) α c
in_whole f d α c t = (
  λ i. subst (Block f (suc d) α) (sym (single (buddy_member (suc d) α) c i)) (whole f (suc d) α t),
  λ B.
      ⊎_elim (λ l. absurd (no_larger f (suc d) α c B (suc d) α l (omega arith) B.within t))
      (λ g. inl (top_free f (suc d) α c B g).1) (lt_or B.e (suc d)),
)

in_halves : (f : ℕ → Bool) (d α : ℕ) (c : Subcube) → level f (suc d) α ≡ false
    → ((η : ℕ) → In c (maximal_in f d η) ↔ Block f d η c)
    → In c (maximal_in f d (2 * α) ++ maximal_in f d (2 * α + 1)) ↔ Block f (suc d) α c
in_halves f d α c t ih = (
  λ i.
      ⊎_elim (λ j. of_half f d α (2 * α) (omega arith) t c ((ih (2 * α)).0 j))
      (λ j. of_half f d α (2 * α + 1) (omega arith) t c ((ih (2 * α + 1)).0 j))
      (in_either c (maximal_in f d (2 * α)) (maximal_in f d (2 * α + 1)) i),
  λ B.
      ⊎_elim (λ l. smaller B (omega arith)) (λ g. absurd (true≢false (sym (top_free f (suc d) α c B g).0 ∙ t))) (lt_or B.e (suc d)),
)
  where
    smaller : (B : Block f (suc d) α c) → B.e ≤ d → In c (maximal_in f d (2 * α) ++ maximal_in f d (2 * α + 1))
    smaller B l =
        ⊎_elim (λ w. in_left c (maximal_in f d (2 * α)) (maximal_in f d (2 * α + 1)) ((ih (2 * α)).1 (in_half f d α (2 * α) c B l w)))
        (λ w. in_right c (maximal_in f d (2 * α)) (maximal_in f d (2 * α + 1)) ((ih (2 * α + 1)).1 (in_half f d α (2 * α + 1) c B l w)))
        (half_of (B.β / 2 ^ (d - B.e)) α (sym (half_block d B.e B.β l) ∙ B.within))

-- an entry of the list is a block, and each block is an entry
pub in_maximal : (f : ℕ → Bool) (d α : ℕ) → d ≤ width → (c : Subcube) → In c (maximal_in f d α) ↔ Block f d α c
in_maximal f zero α h c = (
  λ i.
      let o = in_only (f α) (buddy_member 0 α) c (subst (In c) (maximal_one f α) i) in
      subst (Block f 0 α) (sym o.1) (whole f 0 α (level-zero f α ∙ o.0)),
  λ B.
      let r = top_free f 0 α c B (omega arith) in
      rw (maximal_one f α, r.1) (only_in (f α) (buddy_member 0 α) (sym (level-zero f α) ∙ r.0)),
)
in_maximal f (suc d) α h c =
    cases (level f (suc d) α) (λ t. rw (maximal-whole f d α h t) (in_whole f d α c t))
    (λ t. rw (maximal_halves f d α h t) (in_halves f d α c t (λ η. in_maximal f d η (omega arith) c)))
