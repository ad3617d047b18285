-- Rows without a free member, from the free blocks of all α. Assumes nothing.
use Prim.Native.Nat.{ℕ, zero, suc, ◌+◌, ◌-◌, ◌*◌, ◌^◌, ◌<◌, ◌≤◌}
use mathlib.Core.Logic.{⊎_elim}
use mathlib.Core.Path.{◌≡◌, sym, ap, subst, ◌∙◌}
use mathlib.Core.Bool.{Bool, false}
use mathlib.Core.List.{List}
use native.Mathlib.Nat.{pow-succ'}
use native.Mathlib.Omega.{arith}
use lib.Pow.{pow_mono, pow-add, ones_lt, high_ones}
use Rattle.hypercube.specs.Bits.{width, bit}
use Rattle.hypercube.specs.Subcubes.{subcube, is_free, IsSubcube}
use Rattle.hypercube.specs.Families.{tree_member}
use Rattle.hypercube.proofs.Bits.{lt_or, wider, bit_high, bit_below, shifted_low, set_same, set_other}
use Rattle.hypercube.proofs.Members.{tree_member_lem}
use Rattle.planes.specs.Rows.{NoMember}
use Rattle.planes.specs.Planes.{Across, NoPair, Empty, Lowest, Folded, tops, ZeroBelow, Opened}
use Rattle.planes.proofs.Folds.{folded_next, folded_none, empty_pair, empty_across, bottom_start, bottom_end, bottom_empty}

-- ---- the rows of one d

pub tops-low : (n d l : ℕ) → l + d ≤ n → ZeroBelow l (tops n d)
tops-low n d l h i b = shifted_low (2 ^ d - 1) (n - d) i (omega arith)

module _ (f : ℕ → Bool) (bs : List ℕ) (n d l : ℕ) (h : l + d < n) (w : n ≤ width) (F : Folded f (tops n d + (2 ^ l - 1)) bs) where
  member_none : (α p : ℕ) → p < n - l - d → α < 2 ^ (n - l - d) → bit α p ≡ 0 → NoPair (l + p) bs → is_free f (tree_member n d l α p) ≡ false
  member_none α p b v z N =
      let M : IsSubcube n (d + l + 1) (tree_member n d l α p) =
      tree_member_lem {n = n} {d = d} {l = l} {α = α} {p = p} (record { digits = n - l - d; sum = omega arith; value = v; place = b; zero-digit = z }) in
      let stars : (tree_member n d l α p).stars ≡ tops n d + (2 ^ l - 1) + 2 ^ (l + p) = omega arith in
      let c : bit (tops n d + (2 ^ l - 1)) (l + p) ≡ 0 =
      bit_below (2 ^ d - 1) (n - d) (l + p) (2 ^ l - 1) (omega arith) ∙ bit_high (2 ^ l - 1) l (l + p) (ones_lt l) (omega arith) in
      ap (λ (s : ℕ). is_free f (subcube (α * 2 ^ l) s)) stars
      ∙ folded_none f (tops n d + (2 ^ l - 1)) (l + p) bs (omega arith) c F N (α * 2 ^ l) (wider w M.low_below)
      (subst (λ (s : ℕ). Lowest s (α * 2 ^ l)) stars M.lowest)

  pub rows_none : (first : ℕ) → ((i : ℕ) → l + first ≤ i → i < n - d → NoPair i bs) → NoMember f n d l first
  rows_none first N α p a b v z = member_none α p b v z (N (l + p) (omega arith) (omega arith))

-- ---- one d more

tops_is : (n d : ℕ) → d ≤ n → tops n d ≡ 2 ^ n - 2 ^ (n - d)
tops_is n d h = let e : d + (n - d) ≡ n = omega arith in sym (high_ones d (n - d)) ∙ ap (λ (z : ℕ). 2 ^ z - 2 ^ (n - d)) e

pub tops_next : (f : ℕ → Bool) (bs cs : List ℕ) (n d : ℕ) → 1 ≤ d → d ≤ n → n ≤ width → Folded f (tops n (d - 1)) bs → Across (n - d) bs cs
    → Folded f (tops n d) cs
tops_next f bs cs n d a b w F A =
    let s : n - (d - 1) ≡ suc (n - d) = omega arith in
    let top : 2 ^ (n - (d - 1)) ≡ 2 * 2 ^ (n - d) = ap (λ (z : ℕ). 2 ^ z) s ∙ pow-succ' 2 (n - d) in
    let e : tops n (d - 1) + 2 ^ (n - d) ≡ tops n d =
    omega (arith, tops_is n (d - 1) (omega arith), tops_is n d b, pow_mono {i = n - (d - 1)} {j = n} (omega arith)) in
    subst (λ (z : ℕ). Folded f z cs) e
    (folded_next f (tops n (d - 1)) (n - d) bs (omega arith) (shifted_low (2 ^ (d - 1) - 1) (n - (d - 1)) (n - d) (omega arith)) F cs A)

module _ (f : ℕ → Bool) (bs : List ℕ) (E : Empty bs) (n : ℕ) (w : n ≤ width) where
  empty_tops : (c d : ℕ) → d + c ≤ n → Folded f (tops n d) bs → Folded f (tops n (d + c)) bs
  empty_tops zero d h F = let e : d ≡ d + 0 = omega arith in subst (λ (z : ℕ). Folded f (tops n z) bs) e F
  empty_tops (suc c) d h F =
      let e : d + 1 + c ≡ d + suc c = omega arith in
      let p : d ≡ d + 1 - 1 = omega arith in
      subst (λ (z : ℕ). Folded f (tops n z) bs) e
      (empty_tops c (d + 1) (omega arith)
      (tops_next f bs bs n (d + 1) (omega arith) (omega arith) w (subst (λ (z : ℕ). Folded f (tops n z) bs) p F) (empty_across bs E (n - (d + 1)))))

  -- where no block of the top d stars is free, no member of d is, nor of a further one
  pub empty_none : (d e l first : ℕ) → d ≤ e → l + e < n → Folded f (tops n d) bs → NoMember f n e l first
  empty_none d e l first a h F =
      let q : d + (e - d) ≡ e = omega arith in
      let G : Folded f (tops n e) bs = subst (λ (z : ℕ). Folded f (tops n z) bs) q (empty_tops (e - d) d (omega arith) F) in
      let B = bottom_empty {bs = bs} l (omega arith) E (bottom_start (tops-low n e l (omega arith)) G) in
      rows_none f bs n e l h w (bottom_end B) first (λ i b c. empty_pair bs E i)

-- ---- the mask

-- bs has the top d - 1 stars folded, and `mask` tells of the rows of the d passed
pub record Looked (f : ℕ → Bool) (n low d mask : ℕ) (bs : List ℕ) : Type 0 where
  pub small : mask < 2 ^ d
  pub none : (e : ℕ) → 1 ≤ e → e < d → bit mask e ≡ 0 → NoMember f n e (low - e) 1
  pub folded : Folded f (tops n (d - 1)) bs

module _ {f : ℕ → Bool} {n low d mask : ℕ} {bs : List ℕ} (cs : List ℕ) (a : 1 ≤ d) (b : d ≤ low) (h : low < n) (w : n ≤ width)
    (L : Looked f n low d mask bs) (A : Across (n - d) bs cs) where
  now_folded : Folded f (tops n d) cs
  now_folded = tops_next f bs cs n d a (omega arith) w L.folded A

  pub looked_next : (r : ℕ) → Opened cs n d (low - d) r → Looked f n low (d + 1) (mask + r) cs
  looked_next r O = ⊎_elim closed opened O.power
    where
      last : d ≡ d + 1 - 1
      last = omega arith

      next : Folded f (tops n (d + 1 - 1)) cs
      next = subst (λ (z : ℕ). Folded f (tops n z) cs) last now_folded

      double : 2 ^ (d + 1) ≡ 2 * 2 ^ d
      double = pow-add 2 d 1 ∙ omega arith

      closed : r ≡ 0 → Looked f n low (d + 1) (mask + r) cs
      closed q =
          let m : mask + r ≡ mask = omega arith in
          rw m (record {
            small = omega (arith, L.small, double);
            none = λ e i j z.
                ⊎_elim (λ p. L.none e i p z) (λ g. let k : e ≡ d = omega arith in rw k (O.none q f now_folded)) (lt_or e d);
            folded = next;
          })

      opened : r ≡ 2 ^ d → Looked f n low (d + 1) (mask + r) cs
      opened q =
          let c : bit mask d ≡ 0 = bit_high mask d d L.small (omega arith) in
          rw q (record {
            small = omega (arith, L.small, double);
            none = λ e i j z.
                ⊎_elim (λ p. L.none e i p (sym (set_other d e mask (λ k. omega arith) c) ∙ z))
                (λ g. let k : e ≡ d = omega arith in absurd (omega (arith, set_same d mask c, rw k at z))) (lt_or e d);
            folded = next;
          })

  -- an empty set: no further d has a free member
  pub looked_empty : Empty cs → (e : ℕ) → 1 ≤ e → e ≤ low → bit mask e ≡ 0 → NoMember f n e (low - e) 1
  looked_empty E e i j z =
      ⊎_elim (λ p. L.none e i p z) (λ g. empty_none f cs E n w d e (low - e) 1 g (omega arith) now_folded) (lt_or e d)
