-- Step by step downwards, and round, every number made of bits of s is reached; so is every node of a subcube. Assumes nothing.
use Prim.Native.Nat.{ℕ, zero, suc, ◌+◌, ◌-◌, ◌*◌, ◌/◌, ◌%◌, ◌^◌, ◌<◌, ◌≤◌, min}
use mathlib.Core.Path.{◌≡◌, sym, ap, ap₂, ◌∙◌, subst}
use mathlib.Core.Logic.{◌≢◌, ⊎_elim, by_cases}
use native.Mathlib.Omega.{arith}
use native.Mathlib.Nat.{pow-succ'}
use native.Mathlib.Decide.{ℕ_discrete}
use borrow.Author.Tests.{eq-eqb, ne_eqb}
use lib.Bits.{bit_and, bit_xor, and_step, and_le_l, and_le_r}
use Rattle.hypercube.specs.Bits.{bit}
use Rattle.hypercube.specs.ByNodes.{base, lower, next}
use Rattle.hypercube.proofs.Bits.{lt_or, bit_cases, bit-and, bit-xor, bits_equal, below_power, below_of_bits, bit_high, xor_cancel}
use Rattle.hypercube.proofs.StarBits.{no_star, at_star, starless, base_other, base_below, base_is}

-- t is made of bits of s
abbrev pub Made : ℕ → ℕ → Type 0
Made s t = bit_and t s ≡ t

pub made_and : (s x : ℕ) → Made s (bit_and x s)
made_and s x = bits_equal (bit_and (bit_and x s) s) (bit_and x s) (λ i. bit-and (bit_and x s) s i ∙ omega (arith, bit-and x s i))

pub made_none : (s t i : ℕ) → Made s t → bit s i ≡ 0 → bit t i ≡ 0
made_none s t i e z = ap (λ (k : ℕ). bit k i) (sym e) ∙ no_star t s i z

-- of those below t the highest is the next one
under : (w s t m : ℕ) → t < 2 ^ w → Made s t → Made s m → m < t → m ≤ bit_and (t - 1) s
under zero s t m b et em l = absurd (omega arith)
under (suc w) s t m b et em l = ⊎_elim odd (even (under w (s / 2) (t / 2) (m / 2))) (lt_or 0 (t % 2))
  where
    step : (k : ℕ) → (t - 1) / 2 ≡ k → bit_and (t - 1) s ≡ bit_and k (s / 2) * 2 + min ((t - 1) % 2) (s % 2)
    step k e = and_step (t - 1) s ∙ ap (λ (k : ℕ). bit_and k (s / 2) * 2 + min ((t - 1) % 2) (s % 2)) e

    half : (x : ℕ) → Made s x → Made (s / 2) (x / 2)
    half x e = omega (arith, and_step x s, e)

    odd : 0 < t % 2 → m ≤ bit_and (t - 1) s
    odd o = omega (arith, step (t / 2) (omega arith), half t et, o, l)

    even : (t / 2 < 2 ^ w → Made (s / 2) (t / 2) → Made (s / 2) (m / 2) → m / 2 < t / 2 → m / 2 ≤ bit_and (t / 2 - 1) (s / 2))
        → t % 2 ≤ 0 → m ≤ bit_and (t - 1) s
    even halved z =
        let halves : t / 2 < 2 ^ w = omega (arith, pow-succ' 2 w) in
        let low = halved halves (half t et) (half m em) (omega arith) in
        omega (arith, step (t / 2 - 1) (omega arith), low, and_step m s, em, l, z)

-- from t on downwards all are reached
descend : (s : ℕ) (P : ℕ → Type 0) → ((t : ℕ) → Made s t → t ≢ 0 → P t → P (bit_and (t - 1) s))
    → (c t m : ℕ) → t < c → Made s t → Made s m → m ≤ t → P t → P m
descend s P down zero t m b et em l p = absurd (omega arith)
descend s P down (suc c) t m b et em l p = by_cases (ℕ_discrete m t) (λ e. subst P (sym e) p) (λ d.
    let less : m < t = omega arith in
    let some : t ≢ 0 = λ z. omega arith in
    descend s P down c (bit_and (t - 1) s) m (omega (arith, and_le_l (t - 1) s)) (made_and s (t - 1)) em
    (under (0 + t) s t m (below_power 0 t) et em less) (down t et some p))

-- and round, from any of them
pub all_reached : (s : ℕ) (P : ℕ → Type 0) → ((t : ℕ) → Made s t → P t → P (lower t s)) → (t m : ℕ) → Made s t → Made s m → P t → P m
all_reached s P step t m et em p =
    let down : (t : ℕ) → Made s t → t ≢ 0 → P t → P (bit_and (t - 1) s) =
    λ t e d p. rw (ne_eqb t 0 d) at (step t e p) in
    let bottom : P 0 = descend s P down (suc t) t 0 (omega arith) et (made_and s 0) (omega arith) p in
    let top : P s = step 0 (made_and s 0) bottom in
    descend s P down (suc s) s m (omega arith) (made_self s) em (subst (λ (k : ℕ). k ≤ s) em (and_le_r m s)) top
  where
    made_self : (s : ℕ) → Made s s
    made_self s = bits_equal (bit_and s s) s (λ i. bit-and s s i ∙ omega arith)

-- ---- the node with the star bits t in the subcube of b

module _ (b s t : ℕ) (none : bit_and b s ≡ 0) (made : Made s t) where
  star_bit : (i : ℕ) → bit s i ≡ 1 → bit (bit_xor b t) i ≡ bit t i
  star_bit i o = bit-xor b t i ∙ omega (arith, (starless b s).0 none i o)

  other_bit : (i : ℕ) → bit s i ≡ 0 → bit (bit_xor b t) i ≡ bit b i
  other_bit i z = bit-xor b t i ∙ omega (arith, made_none s t i made z)

  has_stars : bit_and (bit_xor b t) s ≡ t
  has_stars = bits_equal (bit_and (bit_xor b t) s) t (λ i.
      ⊎_elim (λ z. no_star (bit_xor b t) s i z ∙ sym (made_none s t i made z)) (λ o. at_star (bit_xor b t) s i o ∙ star_bit i o) (bit_cases s i))

  has_base : base (bit_xor b t) s ≡ b
  has_base = base_is (bit_xor b t) s b ((starless b s).0 none) other_bit

  pub next_at : next (bit_xor b t) s ≡ bit_xor b (lower t s)
  next_at = ap₂ (λ (c u : ℕ). bit_xor c (lower u s)) has_base has_stars

-- any node is one
pub by_base : (x s : ℕ) → bit_xor (base x s) (bit_and x s) ≡ x
by_base x s = xor_cancel x (bit_and x s)

lower_le : (t s : ℕ) → lower t s ≤ s
lower_le t s = by_cases (ℕ_discrete t 0) (λ e. rw (eq-eqb t 0 e) (omega arith)) (λ d. rw (ne_eqb t 0 d) (and_le_r (t - 1) s))

-- the next node lies in the cube, and differs in star bits only
pub next_below : (n x s : ℕ) → x < 2 ^ n → s < 2 ^ n → next x s < 2 ^ n
next_below n x s lx ls = below_of_bits n (next x s) (λ i h.
    bit-xor (base x s) (lower (bit_and x s) s) i
    ∙ omega (
      arith,
      bit_high (base x s) n i (base_below n x s lx) h,
      bit_high (lower (bit_and x s) s) n i (omega (arith, lower_le (bit_and x s) s, ls)) h,
    ))

pub next_other : (x s i : ℕ) → bit s i ≡ 0 → bit (next x s) i ≡ bit x i
next_other x s i z =
    bit-xor (base x s) (lower (bit_and x s) s) i ∙ omega (arith, base_other x s i z, lower_none (bit_and x s))
  where
    lower_none : (t : ℕ) → bit (lower t s) i ≡ 0
    lower_none t = by_cases (ℕ_discrete t 0) (λ e. rw (eq-eqb t 0 e) z) (λ d. rw (ne_eqb t 0 d) (no_star (t - 1) s i z))
