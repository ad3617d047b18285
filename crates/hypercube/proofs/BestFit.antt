-- Best fit means what specs/Maximal says: what is found is the lowest part of the smallest maximal free block with dimension at least k, a free
-- buddy member; none is found exactly where no buddy member of dimension k is free; and the choice goes by the labels below 2^n. Assumes nothing.
use Prim.Native.Nat.{ℕ, zero, suc, ◌+◌, ◌-◌, ◌*◌, ◌/◌, ◌^◌, ◌<◌, ◌≤◌}
use mathlib.Core.Logic.{◌⊎◌, ◌≢◌, inl, inr, ⊎_elim}
use mathlib.Core.Path.{◌≡◌, refl, sym, ap, ap₂, ◌∙◌, subst}
use mathlib.Core.Bool.{Bool, true, false, false≢true}
use mathlib.Core.List.{List, [], ◌∷◌, ◌++◌}
use mathlib.Core.Option.{Option, none, some}
use native.Mathlib.Nat.{div-eq_of_lt}
use native.Mathlib.Omega.{arith}
use lib.ListN.{length}
use lib.Pow.{pow_pos, pow-add, shl_lt}
use Rattle.hypercube.specs.Lists.{In, only}
use Rattle.hypercube.specs.Bits.{width}
use Rattle.hypercube.specs.Subcubes.{subcube, is_free}
use Rattle.hypercube.specs.Families.{buddy_member, buddy}
use Rattle.hypercube.specs.Levels.{level}
use Rattle.hypercube.specs.BestFit.{maximal_in, maximal, smallest, lowest_part, part, best_fit}
use Rattle.hypercube.specs.Maximal.{MaximalFree, BestPart}
use Rattle.hypercube.specs.Tests.{cases, same_test}
use Rattle.hypercube.specs.declared.Subcube.{Subcube}
use Rattle.hypercube.specs.declared.Walk.TheVariants.{Found, NoneFree}
use Rattle.hypercube.proofs.Bits.{lt_or, pow_injective}
use Rattle.hypercube.proofs.Members.{in_buddy}
use Rattle.hypercube.proofs.Levels.{half_shr, means_level, level-free, lowest_block}
use Rattle.hypercube.proofs.Blocks.{Block, next_block, level_within, in_maximal}
use Rattle.hypercube.proofs.Ascending.{ascending}
use Rattle.hypercube.proofs.Maximal.{buddy_in, below_block, maximal_free}
use Rattle.hypercube.proofs.Smallest.{Before, Least, dimension_le, stars_le, one_low, taken_least, none_large}

-- ---- parts of blocks

-- the lowest part of a block is a member of dimension k
pub part_member : (k j α : ℕ) → k ≤ j → lowest_part k (buddy_member j α) ≡ buddy_member k (α * 2 ^ (j - k))
part_member k j α h =
    let z : j ≡ j - k + k = omega arith in
    let e : α * 2 ^ j ≡ α * 2 ^ (j - k) * 2 ^ k = ap (λ (v : ℕ). α * 2 ^ v) z ∙ ap (λ (v : ℕ). α * v) (pow-add 2 (j - k) k) ∙ omega arith in
    ap (λ (v : ℕ). subcube v (2 ^ k - 1)) e

-- the lowest part of a maximal free block is a free member
part_of : (n k : ℕ) (f : ℕ → Bool) → n ≤ width → (m : Subcube) (B : Block f n 0 m) → k ≤ B.e
    → In (lowest_part k m) (buddy n k) × (is_free f (lowest_part k m) ≡ true)
part_of n k f small m B h =
    let α : ℕ = B.β * 2 ^ (B.e - k) in
    let w : α / 2 ^ (B.e - k) ≡ B.β = lowest_block (B.e - k) B.β in
    let p : lowest_part k m ≡ buddy_member k α = ap (lowest_part k) B.is ∙ part_member k B.e B.β h in
    let z : n - k ≡ n - B.e + (B.e - k) = omega (arith, B.at_most) in
    let b : α < 2 ^ (n - k) = subst (λ (v : ℕ). α < 2 ^ v) (sym z) (shl_lt (n - B.e) (B.e - k) (below_block (n - B.e) B.β B.within)) in (
      subst (λ (c : Subcube). In c (buddy n k)) (sym p) (buddy_in n k α b),
      ap (is_free f) p ∙ level-free f k α (omega (arith, B.at_most)) ∙ level_within f B.e k B.β α h w B.free,
    )

-- a free member lies in a maximal free block: the member alone, where the next larger one is not free, or else that one's
alone_block : (f : ℕ → Bool) (n k α : ℕ) → k ≤ n → α / 2 ^ (n - k) ≡ 0 → level f k α ≡ true → (k < n → level f (suc k) (α / 2) ≡ false)
    → (c : Subcube) × (B : Block f n 0 c) × (k ≤ B.e)
alone_block f n k α h b t a = (buddy_member k α, record { e = k; β = α; at_most = h; within = b; free = t; alone = a; is = refl }, omega arith)

around : (f : ℕ → Bool) (n j k α : ℕ) → k + j ≡ n → α / 2 ^ j ≡ 0 → level f k α ≡ true → (c : Subcube) × (B : Block f n 0 c) × (k ≤ B.e)
around f n zero k α e b t = let z : n - k ≡ 0 = omega arith in alone_block f n k α (omega arith) (rw z b) t (λ l. absurd (omega arith))
around f n (suc j) k α e b t =
    cases (level f (suc k) (α / 2))
    (λ u. let r = around f n j (suc k) (α / 2) (omega arith) (sym (half_shr α j) ∙ b) u in (r.0, r.1, omega (arith, r.2)))
    (λ u. let z : n - k ≡ suc j = omega arith in alone_block f n k α (omega arith) (rw z b) t (λ l. u))

-- ---- what is found

-- a maximal free block's stars are its dimension's
stars_is : (n d : ℕ) (Free : Subcube → Type 0) (c : Subcube) → MaximalFree n Free d c → c.stars ≡ 2 ^ d - 1
stars_is n d Free c M = let r = in_buddy n d c M.member in ap (λ (z : Subcube). z.stars) r.2

found_not_none : (c : Subcube) (t s : ℕ) → NoneFree s ≡ Found c t → ⊥
found_not_none c t s q = let o : ◌≡◌ {A = ℕ} 0 1 = cc q in omega arith

module _ (n k : ℕ) (f : ℕ → Bool) (small : n ≤ width) where
  -- the least block's lowest part is the best
  least_best : (m : Subcube) → Least k (maximal n f) m → BestPart n k (λ m. is_free f m ≡ true) (lowest_part k m)
  least_best m L =
      let r = (maximal_free n f small m).0 ((in_maximal f n 0 small m).0 L.entry) in
      let s : m.stars ≡ 2 ^ r.0 - 1 = stars_is n r.0 (λ m. is_free f m ≡ true) m r.1 in
      record {
        dimension = r.0;
        block = m;
        at_least = dimension_le k r.0 (subst (λ (v : ℕ). 2 ^ k - 1 ≤ v) s L.at_least);
        maximal_free = r.1;
        others = λ e x h M ne. by_size r.0 s e x h M ne;
        lowest = refl;
        stars = refl;
      }
    where
      by_size : (d : ℕ) → m.stars ≡ 2 ^ d - 1 → (e : ℕ) (x : Subcube) → k ≤ e → MaximalFree n (λ m. is_free f m ≡ true) e x → x ≢ m
          → (d < e) ⊎ ((d ≡ e) × (m.low.0 < x.low.0))
      by_size d s e x h M ne =
          let i : In x (maximal n f) = (in_maximal f n 0 small x).1 ((maximal_free n f small x).1 (e, M)) in
          let q : x.stars ≡ 2 ^ e - 1 = stars_is n e (λ m. is_free f m ≡ true) x M in
          go i q (L.others x i (subst (λ (v : ℕ). 2 ^ k - 1 ≤ v) (sym q) (stars_le k e h)))
        where
          go : In x (maximal n f) → x.stars ≡ 2 ^ e - 1 → Before m x → (d < e) ⊎ ((d ≡ e) × (m.low.0 < x.low.0))
          go i q (inl l) = ⊎_elim inl (λ g. absurd (omega (arith, stars_le e d g))) (lt_or d e)
          go i q (inr p) =
              let one : x.low.0 ≤ m.low.0 → x ≡ m = λ g. one_low (maximal n f) (ascending f n 0 small) x m i L.entry (omega (arith, p.1)) in
              let same : d ≡ e = pow_injective d e (omega (arith, p.0, pow_pos d, pow_pos e)) in
              inr (same, ⊎_elim (λ l. l) (λ g. absurd (ne (one g))) (lt_or m.low.0 x.low.0))

  -- what is found comes of the least block
  pub found_least : (c : Subcube) (t : ℕ) → best_fit n k f ≡ Found c t
      → (m : Subcube) × Least k (maximal n f) m × (c ≡ lowest_part k m) × (t ≡ length (maximal n f))
  found_least c t e = go (smallest k (maximal n f)) refl e
    where
      go : (o : Option Subcube) → smallest k (maximal n f) ≡ o → part k (length (maximal n f)) o ≡ Found c t
          → (m : Subcube) × Least k (maximal n f) m × (c ≡ lowest_part k m) × (t ≡ length (maximal n f))
      go none z q = absurd (found_not_none c t (length (maximal n f)) q)
      go (some m) z q = (m, taken_least k (maximal n f) (ascending f n 0 small) m z, cc q, cc q)

  -- "Of those with dimension at least k it takes the smallest, then the lowest label, and grants that block's lowest part. Tried is the number"
  pub found_best : (c : Subcube) (t : ℕ) → best_fit n k f ≡ Found c t → BestPart n k (λ m. is_free f m ≡ true) c × (t ≡ length (maximal n f))
  found_best c t e =
      let r = found_least c t e in
      (subst (BestPart n k (λ m. is_free f m ≡ true)) (sym r.2) (least_best r.0 r.1), r.3)

  -- it is a free buddy member of dimension k
  pub found_member : (c : Subcube) (t : ℕ) → best_fit n k f ≡ Found c t → In c (buddy n k) × (is_free f c ≡ true)
  found_member c t e =
      let r = found_least c t e in
      let B = (in_maximal f n 0 small r.0).0 r.1.entry in
      let h : k ≤ B.e = dimension_le k B.e (subst (λ (c : Subcube). 2 ^ k - 1 ≤ c.stars) B.is r.1.at_least) in
      subst (λ (c : Subcube). In c (buddy n k) × (is_free f c ≡ true)) (sym r.2) (part_of n k f small r.0 B h)

  -- where none is found, no buddy member of dimension k is free; and where none is free, none is found
  pub none_best : k ≤ n → (t : ℕ) → best_fit n k f ≡ NoneFree t → (t ≡ length (maximal n f)) × ((c : Subcube) → In c (buddy n k) → is_free f c ≡ false)
  none_best h t e = go (smallest k (maximal n f)) refl e
    where
      not_free : smallest k (maximal n f) ≡ none → (c : Subcube) → In c (buddy n k) → is_free f c ≡ false
      not_free z c i = cases (is_free f c)
          (λ u.
          let r = in_buddy n k c i in
          let w : level f k r.0 ≡ true = sym (level-free f k r.0 (omega arith)) ∙ ap (is_free f) (sym r.2) ∙ u in
          let a = around f n (n - k) k r.0 (omega arith) (div-eq_of_lt r.1) w in
          let l = none_large k (maximal n f) (ascending f n 0 small) z a.0 ((in_maximal f n 0 small a.0).1 a.1) in
          absurd (omega (arith, stars_le k a.1.e a.2, ap (λ (c : Subcube). c.stars) a.1.is)))
          (λ u. u)

      go : (o : Option Subcube) → smallest k (maximal n f) ≡ o → part k (length (maximal n f)) o ≡ NoneFree t
          → (t ≡ length (maximal n f)) × ((c : Subcube) → In c (buddy n k) → is_free f c ≡ false)
      go none z q = (cc q, not_free z)
      go (some m) z q = absurd (found_not_none (lowest_part k m) (length (maximal n f)) t (sym q))

  pub best_none_free : ((c : Subcube) → In c (buddy n k) → is_free f c ≡ false) → best_fit n k f ≡ NoneFree (length (maximal n f))
  best_none_free none_free = go (smallest k (maximal n f)) refl
    where
      go : (o : Option Subcube) → smallest k (maximal n f) ≡ o → part k (length (maximal n f)) o ≡ NoneFree (length (maximal n f))
      go none z = refl
      go (some m) z =
          let r = found_member (lowest_part k m) (length (maximal n f)) (ap (part k (length (maximal n f))) z) in
          absurd (false≢true (sym (none_free (lowest_part k m) r.0) ∙ r.1))

-- ---- the choice goes by the labels below 2^n

-- the free tests of a member, where its labels are alike
level_same : (f g : ℕ → Bool) (d α : ℕ) → ((l : ℕ) → l / 2 ^ d ≡ α → f l ≡ g l) → level f d α ≡ level g d α
level_same f g d α e = same_test (means_level d f α) (means_level d g α) (λ h l q. sym (e l q) ∙ h l q, λ h l q. e l q ∙ h l q)

member_same : (f g : ℕ → Bool) (d α : ℕ) → d ≤ width → ((l : ℕ) → l / 2 ^ d ≡ α → f l ≡ g l) → is_free f (buddy_member d α) ≡ is_free g (buddy_member d α)
member_same f g d α h e = level-free f d α h ∙ level_same f g d α e ∙ sym (level-free g d α h)

-- the maximal free blocks within it
maximal_same : (f g : ℕ → Bool) (d α : ℕ) → d ≤ width → ((l : ℕ) → l / 2 ^ d ≡ α → f l ≡ g l) → maximal_in f d α ≡ maximal_in g d α
unfolding maximal_in
maximal_same f g zero α h e = ap (λ (b : Bool). only b (buddy_member 0 α)) (member_same f g 0 α h e)
maximal_same f g (suc d) α h e =
    ap₂ (λ (b : Bool) (cs : List Subcube). elim b as (λ _. List Subcube) [ true ↦ buddy_member (suc d) α ∷ [] | false ↦ cs ])
    (member_same f g (suc d) α h e)
    (ap₂ ◌++◌ (maximal_same f g d (2 * α) (omega arith) (λ l q. e l (omega (arith, next_block l d))))
    (maximal_same f g d (2 * α + 1) (omega arith) (λ l q. e l (omega (arith, next_block l d)))))

-- the choice, where the labels below 2^n are alike
pub best_same : (n k : ℕ) (f g : ℕ → Bool) → n ≤ width → ((l : ℕ) → l < 2 ^ n → f l ≡ g l) → best_fit n k f ≡ best_fit n k g
best_same n k f g small e =
    ap (λ (cs : List Subcube). part k (length cs) (smallest k cs)) (maximal_same f g n 0 small (λ l q. e l (below_block n l q)))
