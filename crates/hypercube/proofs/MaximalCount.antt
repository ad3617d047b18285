-- How many maximal free blocks there are, level by level. Assumes nothing.
use Prim.Native.Nat.{ℕ, zero, suc, ◌+◌, ◌-◌, ◌*◌, ◌/◌, ◌^◌, ◌≤◌}
use mathlib.Core.Path.{◌≡◌, refl, sym, ap, ◌∙◌}
use mathlib.Core.Bool.{Bool, true, false, cond, not, ◌&&◌, true≢false, false≢true}
use native.Mathlib.Nat.{pow-succ'}
use native.Mathlib.Omega.{arith}
use lib.ListN.{length, length-append}
use lib.Pow.{pow_pos, high}
use Rattle.hypercube.specs.Lists.{only, count_below}
use Rattle.hypercube.specs.Bits.{width}
use Rattle.hypercube.specs.Families.{buddy_member}
use Rattle.hypercube.specs.BestFit.{maximal_in, maximal}
use Rattle.hypercube.specs.Levels.{joined, level, lone}
use Rattle.hypercube.specs.Tests.{cases}
use Rattle.hypercube.proofs.Lists.{sum, sum_level}
use Rattle.hypercube.proofs.Levels.{means_level}
use Rattle.hypercube.proofs.Blocks.{level-zero, maximal_one, maximal-whole, maximal_halves}

-- ---- sums

sum_two : (f : ℕ → ℕ) (c d i : ℕ) → sum f (c + d) i ≡ sum f c i + sum f d (i + c)
unfolding sum
sum_two f zero d i =
    let e : 0 + d ≡ d = omega arith in
    let z : i + 0 ≡ i = omega arith in
    rw (e, z) (omega arith)
sum_two f (suc c) d i =
    let e : suc c + d ≡ suc (c + d) = omega arith in
    let z : i + suc c ≡ i + 1 + c = omega arith in
    rw (e, z) (omega (arith, sum_two f c d (i + 1)))

-- how many of the numbers from i on pass the test, c of them
abbrev pub tally : (ℕ → Bool) → ℕ → ℕ → ℕ
tally test c i = sum (λ x. cond (test x) 1 0) c i

pub count_tally : (test : ℕ → Bool) (N : ℕ) → count_below N test ≡ tally test N 0
unfolding count_below sum
count_tally test zero = refl
count_tally test (suc N) =
    let e : suc N ≡ N + 1 = omega arith in
    let z : 0 + N ≡ N = omega arith in
    let last : sum (λ x. cond (test x) 1 0) 1 N ≡ cond (test N) 1 0 = omega arith in
    sym (ap (λ (c : ℕ). tally test c 0) e ∙ rw z at (sum_two (λ x. cond (test x) 1 0) N 1 0) ∙ omega (arith, count_tally test N))

-- ---- lengths

pub only_length : {A : Type 0} (b : Bool) (x : A) → length (only b x) ≡ cond b 1 0
only_length true x = refl
only_length false x = refl

one_length : (f : ℕ → Bool) (α : ℕ) → length (maximal_in f 0 α) ≡ cond (f α) 1 0
one_length f α = ap length (maximal_one f α) ∙ only_length (f α) (buddy_member 0 α)

whole_length : (f : ℕ → Bool) (d α : ℕ) → suc d ≤ width → level f (suc d) α ≡ true → length (maximal_in f (suc d) α) ≡ 1
whole_length f d α h t = ap length (maximal-whole f d α h t)

halves_length : (f : ℕ → Bool) (d α : ℕ) → suc d ≤ width → level f (suc d) α ≡ false
    → length (maximal_in f (suc d) α) ≡ length (maximal_in f d (2 * α)) + length (maximal_in f d (2 * α + 1))
halves_length f d α h t = ap length (maximal_halves f d α h t) ∙ length-append (maximal_in f d (2 * α)) (maximal_in f d (2 * α + 1))

-- ---- the blocks are those of the level above, and one for each pair with one half free

level-joined : (f : ℕ → Bool) (d α : ℕ) → level f (suc d) α ≡ level (joined f) d α
unfolding level
level-joined f d α = refl

pair_one : (x y : Bool) → x && y ≡ false → cond x 1 0 + cond y 1 0 ≡ cond (cond x (not y) y) 1 0
pair_one true true e = absurd (true≢false e)
pair_one true false e = refl
pair_one false true e = refl
pair_one false false e = refl

pair_both : (x y : Bool) → x && y ≡ true → cond x (not y) y ≡ false
pair_both true true e = refl
pair_both true false e = absurd (false≢true e)
pair_both false y e = absurd (false≢true e)

-- in a free member no pair has one half free
none_lone : (f : ℕ → Bool) (d α : ℕ) → level (joined f) d α ≡ true → tally (lone f) (2 ^ d) (α * 2 ^ d) ≡ 0
none_lone f d α t =
    sum_level (λ β. cond (lone f β) 1 0) 0 (2 ^ d) (α * 2 ^ d) (λ β a b.
    let e : β ≡ α * 2 ^ d + (β - α * 2 ^ d) = omega arith in
    let q : β / 2 ^ d ≡ α = ap (λ (v : ℕ). v / 2 ^ d) e ∙ high α d (omega arith) in
    ap (λ (x : Bool). cond x 1 0) (pair_both (f (2 * β)) (f (2 * β + 1)) ((means_level d (joined f) α).holds t β q)))
    ∙ omega arith

-- the pairs within a member are those within its halves
tally_halves : (test : ℕ → Bool) (d α : ℕ)
    → tally test (2 ^ suc d) (α * 2 ^ suc d) ≡ tally test (2 ^ d) (2 * α * 2 ^ d) + tally test (2 ^ d) ((2 * α + 1) * 2 ^ d)
tally_halves test d α =
    let e : 2 ^ suc d ≡ 2 ^ d + 2 ^ d = pow-succ' 2 d ∙ omega arith in
    let lower : α * (2 ^ d + 2 ^ d) ≡ 2 * α * 2 ^ d = omega arith in
    let upper : 2 * α * 2 ^ d + 2 ^ d ≡ (2 * α + 1) * 2 ^ d = omega arith in
    rw (e, lower, ← upper) (sum_two (λ x. cond (test x) 1 0) (2 ^ d) (2 ^ d) (2 * α * 2 ^ d))

-- within one pair
count_pair : (f : ℕ → Bool) (α : ℕ) → length (maximal_in f 1 α) ≡ length (maximal_in (joined f) 0 α) + cond (lone f α) 1 0
count_pair f α =
    cases (joined f α)
    (λ t. omega (arith, whole_length f 0 α (omega arith) (at ∙ t), above, number t, number (pair_both (f (2 * α)) (f (2 * α + 1)) t)))
    (λ t.
    omega (
      arith,
      halves_length f 0 α (omega arith) (at ∙ t),
      above,
      number t,
      one_length f (2 * α),
      one_length f (2 * α + 1),
      pair_one (f (2 * α)) (f (2 * α + 1)) t,
    ))
  where
    at : level f 1 α ≡ joined f α
    at = level-joined f 0 α ∙ level-zero (joined f) α

    above : length (maximal_in (joined f) 0 α) ≡ cond (joined f α) 1 0
    above = one_length (joined f) α

    number : {x y : Bool} → x ≡ y → cond {A = ℕ} x 1 0 ≡ cond {A = ℕ} y 1 0
    number e = ap (λ (z : Bool). cond {A = ℕ} z 1 0) e

-- within member α of dimension d + 1
count_in : (f : ℕ → Bool) (d α : ℕ) → suc d ≤ width
    → length (maximal_in f (suc d) α) ≡ length (maximal_in (joined f) d α) + tally (lone f) (2 ^ d) (α * 2 ^ d)
unfolding sum
count_in f zero α h = let z : α * 1 ≡ α = omega arith in rw z (omega (arith, count_pair f α))
count_in f (suc d) α h =
    cases (level (joined f) (suc d) α)
    (λ t.
    omega (
      arith,
      whole_length f (suc d) α h (level-joined f (suc d) α ∙ t),
      whole_length (joined f) d α (omega arith) t,
      none_lone f (suc d) α t,
    ))
    (λ t.
    omega (
      arith,
      halves_length f (suc d) α h (level-joined f (suc d) α ∙ t),
      halves_length (joined f) d α (omega arith) t,
      tally_halves (lone f) d α,
      count_in f d (2 * α) (omega arith),
      count_in f d (2 * α + 1) (omega arith),
    ))

-- of the whole cube
pub count_next : (n : ℕ) (f : ℕ → Bool) → suc n ≤ width → length (maximal (suc n) f) ≡ length (maximal n (joined f)) + count_below (2 ^ n) (lone f)
count_next n f h = let z : 0 * 2 ^ n ≡ 0 = omega arith in rw (count_tally (lone f) (2 ^ n)) (rw z at (count_in f n 0 h))

-- at the last level there is one label
pub count_last : (g : ℕ → Bool) → length (maximal 0 g) ≡ cond (g 0) 1 0
count_last g = one_length g 0

-- no more blocks than labels
count_most : (f : ℕ → Bool) (d α : ℕ) → d ≤ width → length (maximal_in f d α) ≤ 2 ^ d
count_most f zero α h = cases (f α) (λ t. omega (arith, rw t at (one_length f α))) (λ t. omega (arith, rw t at (one_length f α)))
count_most f (suc d) α h =
    cases (level f (suc d) α) (λ t. omega (arith, whole_length f d α h t, pow_pos (suc d)))
    (λ t. omega (arith, halves_length f d α h t, pow-succ' 2 d, count_most f d (2 * α) (omega arith), count_most f d (2 * α + 1) (omega arith)))

pub count_bound : (n : ℕ) (f : ℕ → Bool) → n ≤ width → length (maximal n f) ≤ 2 ^ n
count_bound n f h = count_most f n 0 h
