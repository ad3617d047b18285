-- The star bits of a number: where it has none, and what it is without them. Assumes nothing.
use Prim.Native.Nat.{ℕ, ◌^◌, ◌<◌}
use mathlib.Core.Path.{◌≡◌, refl, sym, ap, ◌∙◌}
use mathlib.Core.Logic.{◌↔◌, ⊎_elim}
use native.Mathlib.Omega.{arith}
use lib.Bits.{bit_and}
use Rattle.hypercube.specs.Bits.{bit}
use Rattle.hypercube.specs.ByNodes.{base}
use Rattle.hypercube.proofs.Bits.{bit_cases, bit_high, bit-zero, bit-and, bit-xor, bits_equal, below_of_bits}

-- a bit of x & s, by whether it is a star
pub no_star : (x s i : ℕ) → bit s i ≡ 0 → bit (bit_and x s) i ≡ 0
no_star x s i z = omega (arith, bit-and x s i, z)

pub at_star : (x s i : ℕ) → bit s i ≡ 1 → bit (bit_and x s) i ≡ bit x i
at_star x s i o = omega (arith, bit-and x s i, o)

-- x has no star, all bits together and bit by bit
pub starless : (x s : ℕ) → (bit_and x s ≡ 0) ↔ ((i : ℕ) → bit s i ≡ 1 → bit x i ≡ 0)
starless x s = (
  λ e i o. sym (at_star x s i o) ∙ ap (λ (z : ℕ). bit z i) e ∙ bit-zero i,
  λ h. bits_equal (bit_and x s) 0 (λ i. ⊎_elim (no_star x s i) (λ o. at_star x s i o ∙ h i o) (bit_cases s i) ∙ sym (bit-zero i)),
)

-- ---- x without its star bits

pub base_star : (x s i : ℕ) → bit s i ≡ 1 → bit (base x s) i ≡ 0
base_star x s i o = omega (arith, bit-xor x (bit_and x s) i, at_star x s i o)

pub base_other : (x s i : ℕ) → bit s i ≡ 0 → bit (base x s) i ≡ bit x i
base_other x s i z = omega (arith, bit-xor x (bit_and x s) i, no_star x s i z)

pub base_starless : (x s : ℕ) → bit_and (base x s) s ≡ 0
base_starless x s = (starless (base x s) s).1 (base_star x s)

pub base_below : (n x s : ℕ) → x < 2 ^ n → base x s < 2 ^ n
base_below n x s l = below_of_bits n (base x s) (λ i h.
    ⊎_elim (λ z. base_other x s i z ∙ bit_high x n i l h) (base_star x s i) (bit_cases s i))

-- it is b, if that has no star and x's other bits
pub base_is : (x s b : ℕ) → ((i : ℕ) → bit s i ≡ 1 → bit b i ≡ 0) → ((i : ℕ) → bit s i ≡ 0 → bit x i ≡ bit b i) → base x s ≡ b
base_is x s b none same = bits_equal (base x s) b (λ i.
    ⊎_elim (λ z. base_other x s i z ∙ same i z) (λ o. base_star x s i o ∙ sym (none i o)) (bit_cases s i))

pub base_own : (x s : ℕ) → bit_and x s ≡ 0 → base x s ≡ x
base_own x s e = base_is x s x ((starless x s).0 e) (λ i z. refl)
