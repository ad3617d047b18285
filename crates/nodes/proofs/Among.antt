-- Which numbers a subcube has, by one sum: y is one of them exactly where the lowest and y's stars make y. Assumes nothing.
use Prim.Native.Nat.{ℕ, zero, suc, ◌+◌, ◌*◌, ◌/◌, ◌^◌, ◌<◌}
use mathlib.Core.Logic.{◌↔◌, inr, ⊎_elim}
use mathlib.Core.Path.{◌≡◌, sym, ◌∙◌}
use native.Mathlib.Nat.{pow-succ'}
use native.Mathlib.Omega.{arith}
use lib.Dec.{eqb}
use lib.Bits.{bit_and, and_step, and_le_l}
use Rattle.hypercube.specs.Bits.{bit}
use Rattle.hypercube.specs.Lists.{In, among}
use Rattle.hypercube.specs.Subcubes.{vertices}
use Rattle.hypercube.proofs.Bits.{lt_or, bit-suc, bit_high, bit_cases}
use Rattle.hypercube.specs.Tests.{means_eq, same_test}
use Rattle.hypercube.proofs.Vertices.{Fixed, in_vertices, vertices_in}
use Rattle.hypercube.specs.Conditions.{means_among}

-- y's bits other than the stars are b's
abbrev Agrees : ℕ → ℕ → ℕ → ℕ → Type 0
Agrees e s b y = (i : ℕ) → i < e → bit s i ≡ 0 → bit y i ≡ bit b i

halves : (e s b : ℕ) → Fixed (suc e) s b → Fixed e (s / 2) (b / 2)
halves e s b f i l o = sym (bit-suc b i) ∙ f (suc i) (omega arith) (bit-suc s i ∙ o)

sum_of : (e s b y : ℕ) → b < 2 ^ e → y < 2 ^ e → Fixed e s b → Agrees e s b y → b + bit_and y s ≡ y
sum_of zero s b y hb hy f h = omega (arith, and_le_l y s)
sum_of (suc e) s b y hb hy f h =
    let p : 2 ^ suc e ≡ 2 * 2 ^ e = pow-succ' 2 e in
    let r : b / 2 + bit_and (y / 2) (s / 2) ≡ y / 2 =
    sum_of e (s / 2) (b / 2) (y / 2) (omega arith) (omega arith) (halves e s b f)
    (λ i l z. sym (bit-suc y i) ∙ h (suc i) (omega arith) (bit-suc s i ∙ z) ∙ bit-suc b i) in
    ⊎_elim (λ z. omega (arith, and_step y s, h 0 (omega arith) z)) (λ o. omega (arith, and_step y s, f 0 (omega arith) o)) (bit_cases s 0)

of_sum : (e s b y : ℕ) → Fixed e s b → b + bit_and y s ≡ y → Agrees e s b y
of_sum zero s b y f q i l z = absurd (omega arith)
of_sum (suc e) s b y f q zero l z = omega (arith, and_step y s)
of_sum (suc e) s b y f q (suc i) l z =
    let r : b / 2 + bit_and (y / 2) (s / 2) ≡ y / 2 =
    ⊎_elim (λ z. omega (arith, and_step y s)) (λ o. omega (arith, and_step y s, f 0 (omega arith) o)) (bit_cases s 0) in
    bit-suc y i ∙ of_sum e (s / 2) (b / 2) (y / 2) (halves e s b f) r i (omega arith) (sym (bit-suc s i) ∙ z) ∙ sym (bit-suc b i)

-- its highest number, all stars set
pub top_below : (e s b : ℕ) → s < 2 ^ e → b < 2 ^ e → Fixed e s b → b + s < 2 ^ e
top_below zero s b hs hb f = omega arith
top_below (suc e) s b hs hb f =
    let p : 2 ^ suc e ≡ 2 * 2 ^ e = pow-succ' 2 e in
    let r : b / 2 + s / 2 < 2 ^ e = top_below e (s / 2) (b / 2) (omega arith) (omega arith) (halves e s b f) in
    ⊎_elim (λ z. omega arith) (λ o. omega (arith, f 0 (omega arith) o)) (bit_cases s 0)

-- ---- a subcube of numbers of e bits

module _ (e s b : ℕ) (f : Fixed e s b) (below : b < 2 ^ e) where
  in_sum : (y : ℕ) → y < 2 ^ e → In y (vertices e s b) ↔ (b + bit_and y s ≡ y)
  in_sum y h = (
    λ m. sum_of e s b y below h f (λ i l z. in_vertices e s b y f m i (inr z)),
    λ q. vertices_in e s b y f (λ i o.
        ⊎_elim (λ l. of_sum e s b y f q i l (⊎_elim (λ g. absurd (omega arith)) (λ z. z) o))
        (λ g. bit_high y e i h g ∙ sym (bit_high b e i below g)) (lt_or i e)),
  )

  pub among_sum : (y : ℕ) → y < 2 ^ e → among y (vertices e s b) ≡ eqb (b + bit_and y s) y
  among_sum y h = same_test (means_among y (vertices e s b)) (means_eq (b + bit_and y s) y) (in_sum y h)
