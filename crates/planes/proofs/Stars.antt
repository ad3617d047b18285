-- Both halves across one star, entry by entry. Assumes nothing.
use Prim.Native.Nat.{ℕ, zero, suc, ◌+◌, ◌-◌, ◌*◌, ◌/◌, ◌%◌, ◌^◌, ◌<◌, ◌≤◌, min}
use mathlib.Core.Logic.{⊎_elim}
use mathlib.Core.Path.{◌≡◌, refl, sym, ap, ap₂, ◌∙◌}
use mathlib.Core.Bool.{Bool, true, false, ◌&&◌, and-false, and-true}
use mathlib.Core.List.{List, map}
use native.Mathlib.Omega.{arith}
use borrow.Author.Tests.{eq-eqb, ne_eqb}
use lib.Bits.{bit_and, and_high}
use lib.Dec.{eqb}
use lib.ListN.{get_or}
use lib.Pow.{pow-add, pow_pos}
use Rattle.hypercube.specs.Lists.{over, from}
use Rattle.hypercube.specs.Bits.{width, bit, clear}
use Rattle.hypercube.specs.Filled.{Filled}
use Rattle.hypercube.proofs.Bits.{bit_cases, bit-zero, bit_shr, bit_below, bit-ones, bit-and, clear_zero, is_clear, not_clear, set_lt}
use Rattle.hypercube.proofs.Lists.{get_or_each}
use Rattle.planes.specs.Planes.{in_planes, paired, Across, High, planes_of}

-- ---- masks

both_bits : (a b : ℕ) → a < 2 → b < 2 → eqb (min a b) 1 ≡ eqb a 1 && eqb b 1
both_bits zero zero ha hb = refl
both_bits zero (suc zero) ha hb = refl
both_bits zero (suc (suc b)) ha hb = absurd (omega arith)
both_bits (suc zero) zero ha hb = refl
both_bits (suc zero) (suc zero) ha hb = refl
both_bits (suc zero) (suc (suc b)) ha hb = absurd (omega arith)
both_bits (suc (suc a)) b ha hb = absurd (omega arith)

-- a bit is in both numbers
in_both : (a b i : ℕ) → eqb (bit (bit_and a b) i) 1 ≡ eqb (bit a i) 1 && eqb (bit b i) 1
in_both a b i = ap (λ (z : ℕ). eqb z 1) (bit-and a b i) ∙ both_bits (bit a i) (bit b i) (omega arith) (omega arith)

-- a number has the bit 2^i where its bit i is 1
one_bit : (e i : ℕ) → bit_and e (2 ^ i) ≡ bit e i * 2 ^ i
one_bit e i = let q : 2 ^ (1 + i) - 2 ^ i ≡ 2 ^ i = omega (arith, pow-add 2 1 i) in ap (bit_and e) (sym q) ∙ and_high e 1 i

-- of a and b at bit i, what the mask c keeps: t tells whether it does, and u is then b's bit
masked : (a b c i : ℕ) (t u : Bool) → eqb (bit c i) 1 ≡ t → (t ≡ true → eqb (bit b i) 1 ≡ u)
    → eqb (bit (bit_and (bit_and a b) c) i) 1 ≡ t && (eqb (bit a i) 1 && u)
masked a b c i t u e h = in_both (bit_and a b) c i ∙ ap₂ ◌&&◌ (in_both a b i) e ∙ go t h
  where
    go : (t : Bool) → (t ≡ true → eqb (bit b i) 1 ≡ u) → (eqb (bit a i) 1 && eqb (bit b i) 1) && t ≡ t && (eqb (bit a i) 1 && u)
    go true h = and-true (eqb (bit a i) 1 && eqb (bit b i) 1) ∙ ap (λ (w : Bool). eqb (bit a i) 1 && w) (h refl)
    go false h = and-false (eqb (bit a i) 1 && eqb (bit b i) 1)

-- ---- the lowest seven stars part entries

abbrev pub low_at : List ℕ → ℕ → ℕ → ℕ
low_at bs star e = bit_and (bit_and (get_or bs e 0) (get_or bs (e + star) 0)) (planes_of e star)

all_planes : (e i b : ℕ) → b < 8 → eqb (bit (planes_of e (2 ^ i)) b) 1 ≡ clear e i
all_planes e i b h =
    ⊎_elim
    (λ z.
    let n : bit_and e (2 ^ i) ≡ 0 * 2 ^ i = one_bit e i ∙ ap (λ (w : ℕ). w * 2 ^ i) z in
    rw (eq-eqb (bit_and e (2 ^ i)) 0 (omega arith), is_clear e i z) (eq-eqb (bit 255 b) 1 (bit-ones 8 b h)))
    (λ o.
    let n : bit_and e (2 ^ i) ≡ 1 * 2 ^ i = one_bit e i ∙ ap (λ (w : ℕ). w * 2 ^ i) o in
    rw (ne_eqb (bit_and e (2 ^ i)) 0 (λ z. omega (arith, pow_pos i)), not_clear e i o) (ne_eqb (bit 0 b) 1 (λ q. omega (arith, bit-zero b))))
    (bit_cases e i)

module _ (i x : ℕ) (h : i < 7) where
  in_entry : bit (x % 128) i ≡ bit x i
  in_entry = let e : x / 128 * 2 ^ 7 + x % 128 ≡ x = omega arith in sym (bit_below (x / 128) 7 i (x % 128) h) ∙ ap (λ (z : ℕ). bit z i) e

  pub low-pair : (bs : List ℕ) → x < 2 ^ width → eqb (bit (low_at bs (2 ^ i) (x % 128)) (x / 128)) 1 ≡ paired bs i x
  low-pair bs b =
      masked (get_or bs (x % 128) 0) (get_or bs (x % 128 + 2 ^ i) 0) (planes_of (x % 128) (2 ^ i)) (x / 128) (clear x i) (in_planes bs (x + 2 ^ i))
      (all_planes (x % 128) i (x / 128) (omega arith) ∙ ap (λ (z : ℕ). eqb z 0) in_entry) other
    where
      other : clear x i ≡ true → eqb (bit (get_or bs (x % 128 + 2 ^ i) 0) (x / 128)) 1 ≡ in_planes bs (x + 2 ^ i)
      other t =
          let inside : x % 128 + 2 ^ i < 128 = set_lt 7 i (x % 128) h (omega arith) (in_entry ∙ clear_zero x i t) in
          let e : x % 128 + 2 ^ i ≡ (x + 2 ^ i) % 128 = omega arith in
          let p : x / 128 ≡ (x + 2 ^ i) / 128 = omega arith in
          ap₂ (λ (y z : ℕ). eqb (bit (get_or bs y 0) z) 1) e p

module _ (bs to : List ℕ) (star e : ℕ) (F : Filled (low_at bs star) 0 192 e to) (g : 128 ≤ e) where
  pub low_across : (i : ℕ) → i < 7 → star ≡ 2 ^ i → Across i bs to
  low_across i h q x b =
      ap (λ (v : ℕ). eqb (bit v (x / 128)) 1) (F.front (x % 128) (omega arith) ∙ ap (λ (s : ℕ). low_at bs s (x % 128)) q) ∙ low-pair i x h bs b

-- ---- the highest three part planes

abbrev pub high_at : List ℕ → ℕ → ℕ → ℕ → ℕ
high_at bs shift keep e = bit_and (bit_and (get_or bs e 0) (get_or bs e 0 / 2 ^ shift)) keep

module _ {i shift keep : ℕ} (H : High i shift keep) (x : ℕ) (b : x < 2 ^ width) where
  of_plane : bit x i ≡ bit (x / 128) (i - 7)
  of_plane = let e : i ≡ 7 + (i - 7) = omega (arith, H.least) in ap (bit x) e ∙ bit_shr x 7 (i - 7)

  kept_clear : eqb (bit keep (x / 128)) 1 ≡ clear x i
  kept_clear =
      let k : bit keep (x / 128) ≡ 1 - bit x i = H.kept (x / 128) (omega arith) ∙ ap (λ (z : ℕ). 1 - z) (sym of_plane) in
      ⊎_elim (λ z. eq-eqb (bit keep (x / 128)) 1 (omega arith) ∙ sym (is_clear x i z))
      (λ o. ne_eqb (bit keep (x / 128)) 1 (λ q. omega arith) ∙ sym (not_clear x i o))
      (bit_cases x i)

  pub high-pair : (bs : List ℕ) → eqb (bit (high_at bs shift keep (x % 128)) (x / 128)) 1 ≡ paired bs i x
  high-pair bs =
      masked (get_or bs (x % 128) 0) (get_or bs (x % 128) 0 / 2 ^ shift) keep (x / 128) (clear x i) (in_planes bs (x + 2 ^ i)) kept_clear (λ t. other)
    where
      other : eqb (bit (get_or bs (x % 128) 0 / 2 ^ shift) (x / 128)) 1 ≡ in_planes bs (x + 2 ^ i)
      other =
          let i7 : i ≡ 7 + (i - 7) = omega (arith, H.least) in
          let s : 2 ^ i ≡ 128 * shift = ap (λ (z : ℕ). 2 ^ z) i7 ∙ pow-add 2 7 (i - 7) ∙ ap (λ (z : ℕ). 128 * z) (sym H.step) in
          let e : x % 128 ≡ (x + 2 ^ i) % 128 = omega arith in
          let p : shift + x / 128 ≡ (x + 2 ^ i) / 128 = omega arith in
          ap (λ (z : ℕ). eqb z 1) (sym (bit_shr (get_or bs (x % 128) 0) shift (x / 128)))
          ∙ ap₂ (λ (y z : ℕ). eqb (bit (get_or bs y 0) z) 1) e p

module _ (bs to : List ℕ) (shift keep e : ℕ) (F : Filled (high_at bs shift keep) 0 192 e to) (g : 128 ≤ e) where
  pub high_across : (i : ℕ) → High i shift keep → Across i bs to
  high_across i H x b = ap (λ (v : ℕ). eqb (bit v (x / 128)) 1) (F.front (x % 128) (omega arith)) ∙ high-pair H x b bs

-- two functions that have one list of values below n
same_below : (f g : ℕ → ℕ) (n : ℕ) → map f (from 0 n) ≡ map g (from 0 n) → (j : ℕ) → j < n → f j ≡ g j
same_below f g n e j h = sym (get_or_each f 0 n j h) ∙ ap (λ (l : List ℕ). get_or l j 0) e ∙ get_or_each g 0 n j h

pub high_7 : High 7 1 85
unfolding over
high_7 = record { least = omega arith; step = refl; kept = same_below (bit 85) (λ j. 1 - bit j 0) 8 refl }

pub high_8 : High 8 2 51
unfolding over
high_8 = record { least = omega arith; step = refl; kept = same_below (bit 51) (λ j. 1 - bit j 1) 8 refl }

pub high_9 : High 9 4 15
unfolding over
high_9 = record { least = omega arith; step = refl; kept = same_below (bit 15) (λ j. 1 - bit j 2) 8 refl }
