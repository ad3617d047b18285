-- The free test by halves: with no star it is the lowest label's, else both halves' across any star. Assumes nothing.
use Prim.Native.Nat.{ℕ, zero, suc, ◌+◌, ◌-◌, ◌*◌, ◌^◌, ◌<◌, ◌≤◌}
use mathlib.Core.Logic.{⊎_elim}
use mathlib.Core.Path.{◌≡◌, refl, sym, ap, ap₂, ◌∙◌}
use mathlib.Core.Bool.{Bool, true, false, ◌&&◌, and-false}
use native.Mathlib.Nat.{pow-succ'}
use native.Mathlib.Omega.{arith}
use borrow.Author.Tests.{eq-eqb, ne_eqb}
use Rattle.hypercube.specs.Bits.{bit, ones}
use Rattle.hypercube.specs.Subcubes.{free_at}
use Rattle.hypercube.proofs.Bits.{lt_or, bit_cases, bit_high, bit_above, bit_below, set_same, set_other}

-- ---- the test goes down the bits: past a 0, across a star

swap : (a b c d : Bool) → (a && b) && (c && d) ≡ (a && c) && (b && d)
swap true true c d = refl
swap true false true d = refl
swap true false false d = refl
swap false b c d = refl

-- a number of e + 1 bits, by its highest
clear_lt : (e s : ℕ) → s < 2 * 2 ^ e → bit s e ≡ 0 → s < 2 ^ e
clear_lt e s l z = ⊎_elim (λ h. h) (λ g. absurd (omega (arith, div_one e s g l))) (lt_or s (2 ^ e))
  where
    div_one : (e s : ℕ) → 2 ^ e ≤ s → s < 2 * 2 ^ e → bit s e ≡ 1
    div_one e s g l =
        let r = s - 2 ^ e in
        let parts : s ≡ 1 * 2 ^ e + r = omega arith in
        let z : e + 0 ≡ e = omega arith in
        ap (λ (x : ℕ). bit x e) parts ∙ (rw z at (bit_above 1 e 0 r (omega arith)))

set_le : (e s : ℕ) → bit s e ≡ 1 → 2 ^ e ≤ s
set_le e s o = ⊎_elim (λ h. absurd (omega (arith, bit_high s e e h (omega arith)))) (λ g. g) (lt_or s (2 ^ e))

module _ (f : ℕ → Bool) where
  pub past : (e s b : ℕ) → bit s e ≡ 0 → free_at f (suc e) s b ≡ free_at f e s b
  unfolding free_at
  past e s b z = rw (eq-eqb (bit s e) 0 z, free_at)

  pub across : (e s b : ℕ) → bit s e ≡ 1 → free_at f (suc e) s b ≡ free_at f e s b && free_at f e s (b + 2 ^ e)
  unfolding free_at
  across e s b o = rw (ne_eqb (bit s e) 0 (λ z. omega arith), free_at)

  -- it goes by the lowest e bits alone
  pub by_bits : (e s t b : ℕ) → ((i : ℕ) → i < e → bit s i ≡ bit t i) → free_at f e s b ≡ free_at f e t b
  unfolding free_at
  by_bits zero s t b h = refl
  by_bits (suc e) s t b h =
      let here : bit s e ≡ bit t e = h e (omega arith) in
      let lower : (c : ℕ) → free_at f e s c ≡ free_at f e t c = λ c. by_bits e s t c (λ i l. h i (omega arith)) in
      ⊎_elim (λ z. past e s b z ∙ lower b ∙ sym (past e t b (sym here ∙ z)))
      (λ o. across e s b o ∙ ap₂ ◌&&◌ (lower b) (lower (b + 2 ^ e)) ∙ sym (across e t b (sym here ∙ o)))
      (bit_cases s e)

  -- no star
  pub free-node : (e s b : ℕ) → ones e s ≡ 0 → free_at f e s b ≡ f b
  unfolding free_at ones
  free-node zero s b h = refl
  free-node (suc e) s b h = past e s b (omega arith) ∙ free-node e s b (omega arith)

  -- where its lowest label is not free, no subcube is
  pub lowest_first : (e s b : ℕ) → f b ≡ false → free_at f e s b ≡ false
  unfolding free_at
  lowest_first zero s b h = h
  lowest_first (suc e) s b h =
      ⊎_elim (λ z. past e s b z ∙ lowest_first e s b h)
      (λ o. across e s b o ∙ ap (λ (x : Bool). x && free_at f e s (b + 2 ^ e)) (lowest_first e s b h)) (bit_cases s e)

  -- across the star 2^i, where s are the others
  pub across_any : (e s i b : ℕ) → i < e → bit s i ≡ 0 → free_at f e (s + 2 ^ i) b ≡ free_at f e s b && free_at f e s (b + 2 ^ i)
  across_any zero s i b h z = absurd (omega arith)
  across_any (suc e) s i b h z = ⊎_elim (below (across_any e s i)) (λ g. highest (omega arith)) (lt_or i e)
    where
      highest : i ≡ e → free_at f (suc e) (s + 2 ^ i) b ≡ free_at f (suc e) s b && free_at f (suc e) s (b + 2 ^ i)
      highest q =
          let clear : bit s e ≡ 0 = rw q at z in
          let rest : (c : ℕ) → free_at f e (s + 2 ^ e) c ≡ free_at f (suc e) s c =
          λ c. by_bits e (s + 2 ^ e) s c (λ j l. set_other e j s (λ r. omega arith) clear) ∙ sym (past e s c clear) in
          rw q (across e (s + 2 ^ e) b (set_same e s clear) ∙ ap₂ ◌&&◌ (rest b) (rest (b + 2 ^ e)))

      below : ((c : ℕ) → i < e → bit s i ≡ 0 → free_at f e (s + 2 ^ i) c ≡ free_at f e s c && free_at f e s (c + 2 ^ i))
          → i < e → free_at f (suc e) (s + 2 ^ i) b ≡ free_at f (suc e) s b && free_at f (suc e) s (b + 2 ^ i)
      below again l =
          let same : bit (s + 2 ^ i) e ≡ bit s e = set_other i e s (λ r. omega arith) z in
          let order : b + 2 ^ e + 2 ^ i ≡ b + 2 ^ i + 2 ^ e = omega arith in
          ⊎_elim (λ c. past e (s + 2 ^ i) b (same ∙ c) ∙ again b l z ∙ ap₂ ◌&&◌ (sym (past e s b c)) (sym (past e s (b + 2 ^ i) c)))
          (λ o.
          across e (s + 2 ^ i) b (same ∙ o) ∙ ap₂ ◌&&◌ (again b l z) (again (b + 2 ^ e) l z)
          ∙ swap (free_at f e s b) (free_at f e s (b + 2 ^ i)) (free_at f e s (b + 2 ^ e)) (free_at f e s (b + 2 ^ e + 2 ^ i))
          ∙ ap₂ ◌&&◌ (sym (across e s b o)) (ap (λ (c : ℕ). free_at f e s (b + 2 ^ i) && free_at f e s c) order ∙ sym (across e s (b + 2 ^ i) o)))
          (bit_cases s e)

  -- nor where its highest label is not
  pub highest_first : (e s b : ℕ) → s < 2 ^ e → f (b + s) ≡ false → free_at f e s b ≡ false
  unfolding free_at
  highest_first zero s b l h = let z : b + s ≡ b = omega arith in rw z at h
  highest_first (suc e) s b l h =
      let two : 2 ^ suc e ≡ 2 * 2 ^ e = pow-succ' 2 e in
      ⊎_elim (λ z. past e s b z ∙ highest_first e s b (clear_lt e s (omega arith) z) h)
      (λ o.
      let r = s - 2 ^ e in
      let least : 2 ^ e ≤ s = set_le e s o in
      let parts : s ≡ 1 * 2 ^ e + r = omega arith in
      let top : b + 2 ^ e + r ≡ b + s = omega arith in
      across e s b o
      ∙ ap (λ (x : Bool). free_at f e s b && x)
      (by_bits e s r (b + 2 ^ e) (λ i k. ap (λ (x : ℕ). bit x i) parts ∙ bit_below 1 e i r k)
      ∙ highest_first e r (b + 2 ^ e) (omega arith) (rw top h))
      ∙ and-false (free_at f e s b))
      (bit_cases s e)
