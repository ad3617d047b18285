-- A block whose stars are the lowest l bits and some others is a run of the blocks that have the others alone. Assumes nothing.
use Prim.Native.Nat.{ℕ, zero, suc, ◌+◌, ◌-◌, ◌*◌, ◌^◌, ◌<◌, ◌≤◌}
use mathlib.Core.Path.{◌≡◌, refl, sym, ap, ap₂, ◌∙◌}
use mathlib.Core.List.{List}
use mathlib.Core.Bool.{Bool, true, false, cond, ◌&&◌, and-false, and-true}
use native.Mathlib.Nat.{pow-succ'}
use native.Mathlib.Numerals.{add-one}
use native.Mathlib.Omega.{arith}
use borrow.Author.Tests.{ne_eqb}
use lib.Bits.{bit_or, or_add_and, and_le_l, and_zero_r}
use lib.Dec.{eqb}
use lib.ListN.{get_or, take, drop}
use Rattle.std.proofs.lemmas.List.{get_or-take, get_or-drop}
use lib.Pow.{ones_lt, pow_pos}
use Rattle.hypercube.specs.Bits.{width, bit}
use Rattle.hypercube.specs.Subcubes.{free_at}
use Rattle.hypercube.proofs.Bits.{bit_high, bit_below, ones-zero}
use Rattle.hypercube.proofs.Halves.{free-node, across_any}
use Rattle.runs.specs.Flagged.{flagged, run_free}

and_assoc : (a b c : Bool) → (a && b) && c ≡ a && (b && c)
and_assoc true b c = refl
and_assoc false b c = refl

module _ (f : ℕ → Bool) where
  run_split : (b c d : ℕ) → run_free f b (c + d) ≡ run_free f b c && run_free f (b + c) d
  unfolding run_free
  run_split b c zero = let e : c + 0 ≡ c = omega arith in rw (e, and-true (run_free f b c))
  run_split b c (suc d) =
      let e : c + suc d ≡ suc (c + d) = omega arith in
      let g : b + c + d ≡ b + (c + d) = omega arith in
      rw (e, g) (ap (λ (x : Bool). x && f (b + (c + d))) (run_split b c d) ∙ and_assoc (run_free f b c) (run_free f (b + c) d) (f (b + (c + d))))

  pub run_more : (b c : ℕ) → run_free f b (c + 1) ≡ run_free f b c && f (b + c)
  unfolding run_free
  run_more b c = rw (add-one c)

  pub run_none : (b : ℕ) → run_free f b 0 ≡ true
  unfolding run_free
  run_none b = refl

  -- the first fails
  pub run_first : (b c : ℕ) → f b ≡ false → 0 < c → run_free f b c ≡ false
  run_first b c h p =
      let e : 1 + (c - 1) ≡ c = omega arith in
      let z : b + 0 ≡ b = omega arith in
      let one : run_free f b 1 ≡ false = run_more b 0 ∙ rw (run_none b, z) h in
      rw e at (run_split b 1 (c - 1) ∙ ap (λ (x : Bool). x && run_free f (b + 1) (c - 1)) one)

-- it goes by the numbers that it passes; `off` is how far the second stands from the first
pub run_same : (f g : ℕ → Bool) (off b c : ℕ) → ((x : ℕ) → b ≤ x → x < b + c → f (off + x) ≡ g x) → run_free f (off + b) c ≡ run_free g b c
unfolding run_free
run_same f g off b zero h = refl
run_same f g off b (suc c) h =
    let e : off + b + c ≡ off + (b + c) = omega arith in
    ap₂ ◌&&◌ (run_same f g off b c (λ x l r. h x l (omega arith))) (ap f e ∙ h (b + c) (omega arith) (omega arith))

-- the stars of hi above m bits, and the lowest l
pub low_run : (f : ℕ → Bool) (hi m l b : ℕ) → l ≤ m → m ≤ width
    → free_at f width (2 ^ l - 1 + hi * 2 ^ m) b ≡ run_free (λ x. free_at f width (hi * 2 ^ m) x) b (2 ^ l)
unfolding run_free
low_run f hi m zero b h w =
    let e : b + 0 ≡ b = omega arith in
    let z : 2 ^ 0 - 1 + hi * 2 ^ m ≡ hi * 2 ^ m = omega arith in
    rw (e, z)
low_run f hi m (suc l) b h w =
    let s = 2 ^ l - 1 + hi * 2 ^ m in
    let p : 2 ^ suc l ≡ 2 ^ l + 2 ^ l = omega (arith, pow-succ' 2 l) in
    let stars : 2 ^ suc l - 1 + hi * 2 ^ m ≡ s + 2 ^ l = omega (arith, p, pow_pos l) in
    let swapped : s ≡ hi * 2 ^ m + (2 ^ l - 1) = omega arith in
    let no_star : bit s l ≡ 0 =
    ap (λ (x : ℕ). bit x l) swapped ∙ bit_below hi m l (2 ^ l - 1) (omega arith) ∙ bit_high (2 ^ l - 1) l l (ones_lt l) (omega arith) in
    let g : ℕ → Bool = λ x. free_at f width (hi * 2 ^ m) x in
    ap (λ (x : ℕ). free_at f width x b) stars
    ∙ across_any f width s l b (omega arith) no_star
    ∙ ap₂ ◌&&◌ (low_run f hi m l b (omega arith) w) (low_run f hi m l (b + 2 ^ l) (omega arith) w)
    ∙ sym (rw p (run_split g b (2 ^ l) (2 ^ l)))

-- no star but the lowest k
pub is_run : (f : ℕ → Bool) (k b : ℕ) {u s : ℕ} → k ≤ width → u ≡ 2 ^ k → s ≡ u - 1 → run_free f b u ≡ free_at f width s b
is_run f k b {u} {s} h e t =
    let stars : 2 ^ k - 1 + 0 * 2 ^ width ≡ s = omega (arith, e) in
    let n : 0 * 2 ^ width ≡ 0 = omega arith in
    let z : (x : ℕ) → 0 + x ≡ x = λ x. omega arith in
    let none : (x : ℕ) → f (0 + x) ≡ free_at f width (0 * 2 ^ width) x =
    λ x. ap f (z x) ∙ rw n (sym (free-node f width 0 x (ones-zero width))) in
    ap (λ (x : ℕ). run_free f x u) (sym (z b))
    ∙ run_same f (λ x. free_at f width (0 * 2 ^ width) x) 0 b u (λ x l r. none x)
    ∙ ap (run_free (λ x. free_at f width (0 * 2 ^ width) x) b) e
    ∙ sym (low_run f 0 width k b h (omega arith)) ∙ ap (λ (z : ℕ). free_at f width z b) stars

-- one flag more
lacks : (m : ℕ) (t : Bool) → eqb (bit_or m (cond t 0 1)) 0 ≡ eqb m 0 && t
lacks m true =
    let e : bit_or m 0 ≡ m = omega (arith, or_add_and m 0, and_zero_r m) in
    ap (λ (x : ℕ). eqb x 0) e ∙ sym (and-true (eqb m 0))
lacks m false =
    ne_eqb (bit_or m 1) 0 (λ z. omega (arith, or_add_and m 1, and_le_l m 1)) ∙ sym (and-false (eqb m 0))

-- one flag more, of a part of c
pub run_flag : (fs : List ℕ) (b c i m v : ℕ) → i < c → v ≡ cond (eqb (get_or (take c (drop b fs)) i 0) 1) 0 1
    → eqb m 0 ≡ run_free (flagged fs) b i → eqb (bit_or m v) 0 ≡ run_free (flagged fs) b (i + 1)
run_flag fs b c i m v h e o =
    let at : get_or (take c (drop b fs)) i 0 ≡ get_or fs (b + i) 0 = rw (get_or-take, get_or-drop) in
    rw (e, at) (lacks m (flagged fs (b + i)) ∙ ap (λ (t : Bool). t && flagged fs (b + i)) o ∙ sym (run_more (flagged fs) b i))
