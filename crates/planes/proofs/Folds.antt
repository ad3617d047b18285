-- The free subcubes of a set of stars, and of one star more. Assumes nothing.
use Prim.Native.Nat.{ℕ, zero, suc, ◌+◌, ◌-◌, ◌/◌, ◌%◌, ◌^◌, ◌<◌, ◌≤◌}
use mathlib.Core.Logic.{◌≢◌}
use mathlib.Core.Path.{◌≡◌, refl, sym, ap, ap₂, subst, ◌∙◌}
use mathlib.Core.Bool.{Bool, false, ◌&&◌, and-false}
use mathlib.Core.List.{List, [], ◌∷◌}
use native.Mathlib.Nat.{pow-succ'}
use native.Mathlib.Omega.{arith}
use borrow.Author.Tests.{ne_eqb}
use lib.Bits.{bit_or, or_add_and, and_le_l, and_le_r}
use lib.ListN.{get_or, take}
use Rattle.std.specs.List.{fold}
use Rattle.std.proofs.lemmas.List.{get_or-take}
use lib.Pow.{pow_pos}
use Rattle.hypercube.specs.Bits.{width, bit, clear}
use Rattle.hypercube.specs.Subcubes.{subcube, is_free}
use Rattle.hypercube.proofs.Bits.{bit-zero, is_clear, set_same, set_other, set_lt}
use Rattle.hypercube.proofs.Halves.{across_any}
use Rattle.planes.specs.Planes.{in_planes, paired, Across, NoPair, Empty, Lowest, Folded, ZeroBelow}

module _ (f : ℕ → Bool) (s i : ℕ) (bs : List ℕ) (h : i < width) (z : bit s i ≡ 0) (F : Folded f s bs) where
  -- two that are the star 2^i apart make the subcube of that star too
  pair-free : (x : ℕ) → x < 2 ^ width → Lowest (s + 2 ^ i) x → paired bs i x ≡ is_free f (subcube x (s + 2 ^ i))
  pair-free x b o =
      let ne : (j : ℕ) → bit s j ≡ 1 → j ≢ i = λ j q e. omega (arith, ap (bit s) e) in
      let c : bit x i ≡ 0 = o i (set_same i s z) in
      let lower : Lowest s x = λ j q. o j (set_other i j s (ne j q) z ∙ q) in
      let upper : Lowest s (x + 2 ^ i) = λ j q. set_other i j x (ne j q) c ∙ lower j q in
      ap (λ (t : Bool). t && (in_planes bs x && in_planes bs (x + 2 ^ i))) (is_clear x i c)
      ∙ ap₂ ◌&&◌ (F x b lower) (F (x + 2 ^ i) (set_lt width i x h b c) upper)
      ∙ sym (across_any f width s i x h z)

  pub folded_next : (cs : List ℕ) → Across i bs cs → Folded f (s + 2 ^ i) cs
  folded_next cs A x b o = A x b ∙ pair-free x b o

  pub folded_none : NoPair i bs → (x : ℕ) → x < 2 ^ width → Lowest (s + 2 ^ i) x → is_free f (subcube x (s + 2 ^ i)) ≡ false
  folded_none N x b o = sym (pair-free x b o) ∙ N x b

-- ---- the empty set

or_zero : (a b : ℕ) → bit_or a b ≡ 0 → (a ≡ 0) × (b ≡ 0)
or_zero a b e = (omega (arith, or_add_and a b, and_le_r a b), omega (arith, or_add_and a b, and_le_l a b))

-- so it is of a whole list
or_all : (a : ℕ) (xs : List ℕ) → fold bit_or a xs ≡ 0 → (a ≡ 0) × ((k : ℕ) → get_or xs k 0 ≡ 0)
or_all a [] e = (e, λ k. refl)
or_all a (x ∷ xs) e =
    let more = or_all (bit_or a x) xs e in
    let both = or_zero a x more.0 in
    (both.0, go both.1 more.1)
  where
    go : x ≡ 0 → ((k : ℕ) → get_or xs k 0 ≡ 0) → (k : ℕ) → get_or (x ∷ xs) k 0 ≡ 0
    go h m zero = h
    go h m (suc k) = m k

zeros_empty : (bs : List ℕ) → ((e : ℕ) → e < 128 → get_or bs e 0 ≡ 0) → Empty bs
zeros_empty bs Z x b = rw (Z (x % 128) (omega arith)) (ne_eqb (bit 0 (x / 128)) 1 (λ q. omega (arith, bit-zero (x / 128))))

-- the first 128 entries have nothing in any
pub none_empty : (bs : List ℕ) → fold bit_or 0 (take 128 bs) ≡ 0 → Empty bs
none_empty bs q = zeros_empty bs (λ e h. sym (get_or-take 128 bs e 0 h) ∙ (or_all 0 (take 128 bs) q).1 e)

-- it is itself across any star
module _ (bs : List ℕ) (E : Empty bs) where
  pub empty_pair : (i : ℕ) → NoPair i bs
  empty_pair i x b = rw (E x b) (and-false (clear x i))

  pub empty_across : (i : ℕ) → Across i bs bs
  empty_across i x b = E x b ∙ sym (empty_pair i x b)

-- ---- the lowest l stars, from the highest down: those from i on are folded, beside s

pub record Bottom (f : ℕ → Bool) (s l i : ℕ) (bs : List ℕ) : Type 0 where
  pub stars : ℕ
  pub sum : stars + 2 ^ i ≡ s + 2 ^ l
  pub low : ZeroBelow i stars
  pub folded : Folded f stars bs

module _ {f : ℕ → Bool} {s l : ℕ} {bs : List ℕ} where
  pub bottom_start : ZeroBelow l s → Folded f s bs → Bottom f s l l bs
  bottom_start z F = record { stars = s; sum = refl; low = z; folded = F }

  pub bottom_next : (i : ℕ) (cs : List ℕ) → i < width → Bottom f s l (suc i) bs → Across i bs cs → Bottom f s l i cs
  bottom_next i cs h B A =
      let z : bit B.stars i ≡ 0 = B.low i (omega arith) in
      record {
        stars = B.stars + 2 ^ i;
        sum = omega (arith, B.sum, pow-succ' 2 i);
        low = λ j b. set_other i j B.stars (λ e. omega arith) z ∙ B.low j (omega arith);
        folded = folded_next f B.stars i bs h z B.folded cs A;
      }

  pub bottom_end : Bottom f s l 0 bs → Folded f (s + (2 ^ l - 1)) bs
  bottom_end B =
      let e : B.stars ≡ s + (2 ^ l - 1) = omega (arith, B.sum, pow_pos l) in
      subst (λ (t : ℕ). Folded f t bs) e B.folded

pub bottom_empty : {f : ℕ → Bool} {s l : ℕ} {bs : List ℕ} (i : ℕ) → i ≤ width → Empty bs → Bottom f s l i bs → Bottom f s l 0 bs
bottom_empty zero h E B = B
bottom_empty {bs = bs} (suc i) h E B = bottom_empty i (omega arith) E (bottom_next i bs (omega arith) B (empty_across bs E i))
