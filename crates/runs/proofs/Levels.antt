-- A loop that fills a list from a place on, and what it is where levels are made. Assumes nothing.
use Prim.Native.Nat.{ℕ, zero, suc, ◌+◌, ◌-◌, ◌*◌, ◌^◌, ◌<◌, ◌≤◌}
use mathlib.Core.Logic.{⊎_elim}
use mathlib.Core.Path.{◌≡◌, refl, sym, ap, ap₂, subst, ◌∙◌}
use mathlib.Core.Bool.{Bool, true, false, cond, ◌&&◌}
use mathlib.Core.List.{List}
use native.Mathlib.Nat.{pow-succ', mul-le-mul_right}
use native.Mathlib.Numerals.{add-one}
use native.Mathlib.Omega.{arith}
use borrow.Author.Count.{below_more}
use lib.Bits.{bit_or, or_add_and, and_le_l, and_le_r}
use lib.Dec.{eqb}
use lib.ListN.{length, get_or, set, length-set}
use lib.Pow.{pow_pos, pow_mono, pow-add}
use lib.Seq.{get_or-set_same, get_or-set_other}
use Rattle.hypercube.specs.Bits.{width, bit}
use Rattle.hypercube.specs.Subcubes.{free_at, subcube, is_free}
use Rattle.hypercube.proofs.Bits.{lt_or, bit_high, set_same, set_other, ones-zero, shifted_low}
use Rattle.hypercube.proofs.Halves.{free-node, across_any}
use Rattle.runs.specs.Flagged.{flagged, run_free}
use Rattle.runs.specs.Levels.{both_flags, top_stars, level_start, at_level, Level, NextLevel, Made, Levels}
use Rattle.runs.proofs.Runs.{run_same, low_run}

-- as long as hs; from the place `off` on stand f 0, f 1, .., i of them, and before it hs's
pub record Laid (hs : List ℕ) (off : ℕ) (f : ℕ → ℕ) (i : ℕ) (l : List ℕ) : Type 0 where
  pub long : length l ≡ length hs
  pub front : (k : ℕ) → k < i → get_or l (off + k) 0 ≡ f k
  pub below : (k : ℕ) → k < off → get_or l k 0 ≡ get_or hs k 0

module _ {hs : List ℕ} {off : ℕ} {f : ℕ → ℕ} where
  pub laid_none : Laid hs off f 0 hs
  laid_none = record { long = refl; front = λ k h. absurd (omega arith); below = λ k h. refl }

  pub laid_next : {i : ℕ} {l : List ℕ} (v : ℕ) → Laid hs off f i l → off + i < length hs → v ≡ f i → Laid hs off f (i + 1) (set l (off + i) v)
  laid_next {i} {l} v L h e = record {
    long = length-set l (off + i) v ∙ L.long;
    front = below_more (λ k. get_or (set l (off + i) v) (off + k) 0 ≡ f k) i
        (λ k q. get_or-set_other l (off + i) (off + k) v 0 (λ s. omega arith) ∙ L.front k q)
        (get_or-set_same l (off + i) v 0 (omega (arith, L.long)) ∙ e);
    below = λ k q. get_or-set_other l (off + i) k v 0 (λ s. omega arith) ∙ L.below k q;
  }

-- ---- level 0

level_flags : (f : ℕ → Bool) (n x : ℕ) → f x ≡ is_free f (subcube x (top_stars n 0))
level_flags f n x =
    let z : top_stars n 0 ≡ 0 = omega arith in
    rw z (sym (free-node f width 0 x (ones-zero width)))

-- ---- level d, of the one before it

module _ (n d : ℕ) (p : 1 ≤ d) (q : d ≤ n) where
  -- the level before it is twice as long
  pub twice : 2 ^ (n - (d - 1)) ≡ 2 ^ (n - d) + 2 ^ (n - d)
  twice = let e : n - (d - 1) ≡ suc (n - d) = omega arith in rw e (omega (arith, pow-succ' 2 (n - d)))

  -- and its stars are all but the new one
  pub star_more : top_stars n d ≡ top_stars n (d - 1) + 2 ^ (n - d)
  star_more =
      let e : d ≡ suc (d - 1) = omega arith in
      let a = 2 ^ (d - 1) in
      let b = 2 ^ (n - d) in
      let both : 2 ^ d ≡ a + a = omega (arith, ap (λ (z : ℕ). 2 ^ z) e, pow-succ' 2 (d - 1)) in
      rw (both, twice) (parts a b (pow_pos (d - 1)))
    where
      parts : (a b : ℕ) → 0 < a → (a + a - 1) * b ≡ (a - 1) * (b + b) + b
      parts zero b h = elim h [ ]
      parts (suc a) b h = let e : suc a + suc a - 1 ≡ suc (a + a) = omega arith in let g : suc a - 1 ≡ a = omega arith in rw (e, g) (omega arith)

  pub level_across : (f : ℕ → Bool) (x : ℕ) → n ≤ width
      → is_free f (subcube x (top_stars n d))
      ≡ is_free f (subcube x (top_stars n (d - 1))) && is_free f (subcube (x + 2 ^ (n - d)) (top_stars n (d - 1)))
  level_across f x w =
      ap (λ (s : ℕ). free_at f width s x) star_more
      ∙ across_any f width (top_stars n (d - 1)) (n - d) x (omega arith) (shifted_low (2 ^ (d - 1) - 1) (n - (d - 1)) (n - d) (omega arith))

  pub level_next : (f : ℕ → Bool) {ls ls' : List ℕ} {some : Bool} → n ≤ width → Level f n (d - 1) ls → NextLevel n d ls some ls' → Level f n d ls'
  level_next f w L N x h =
      N.made x h ∙ ap₂ ◌&&◌ (L x (omega (arith, twice))) (L (x + 2 ^ (n - d)) (omega (arith, twice))) ∙ sym (level_across f x w)

  pub before : (e x : ℕ) → e < d → n ≤ width → x < 2 ^ (n - e) → level_start n e + x < level_start n d
  before e x lt w h =
      omega (arith, twice, pow_mono {i = n - (d - 1)} {j = n - e} (omega arith), pow_mono {i = n - e} {j = width} (omega arith))

  -- a level that stands before it stays
  pub level_stays : (f : ℕ → Bool) (e : ℕ) {ls ls' : List ℕ} {some : Bool} → e < d → n ≤ width → NextLevel n d ls some ls' → Level f n e ls
      → Level f n e ls'
  level_stays f e lt w N L x h = ap (λ (v : ℕ). eqb v 1) (N.kept (level_start n e + x) (before e x lt w h)) ∙ L x h

-- level d lies in the array, which has as much room again as level 0
pub level_fits : (n d : ℕ) → n ≤ width → (2 ^ (n - d) ≤ 1024) × (level_start n d + 2 ^ (n - d) ≤ 2048)
level_fits n d w =
    let small : 2 ^ (n - d) ≤ 1024 = pow_mono {i = n - d} {j = 10} (omega arith) in
    (small, omega arith)

-- ---- flags of both

-- the entry that a level gets at k, of the level at `before`
abbrev pub both_at : List ℕ → ℕ → ℕ → ℕ → ℕ
both_at ls before size k = both_flags (get_or ls (before + k) 0) (get_or ls (before + size + k) 0)

-- an 'or' is 0 where both are
or_zero : (a b : ℕ) → bit_or a b ≡ 0 → (a ≡ 0) × (b ≡ 0)
or_zero a b e = (omega (arith, or_add_and a b, and_le_r a b), omega (arith, or_add_and a b, and_le_l a b))

pub none_more : (f : ℕ → ℕ) (some x v : ℕ) → v ≡ f x → (some ≡ 0 → (k : ℕ) → k < x → f k ≡ 0)
    → bit_or some v ≡ 0 → (k : ℕ) → k < x + 1 → f k ≡ 0
none_more f some x v e h o = below_more (λ k. f k ≡ 0) x (h (or_zero some v o).0) (sym e ∙ (or_zero some v o).1)

pub flag_of_lem : (t : Bool) → eqb (cond t 1 0) 1 ≡ t
flag_of_lem true = refl
flag_of_lem false = refl

-- ---- the levels, one more

-- level 0 is the flags, for which there is room
pub flags_fit : (n : ℕ) → n ≤ width → (2 ^ n ≤ 1024) × (level_start n 0 + 2 ^ n ≤ 2048)
flags_fit n w =
    let small : 2 ^ n ≤ 1024 = pow_mono {i = n} {j = 10} (omega arith) in
    let z : 2 ^ (n - 0) ≡ 2 ^ n = ap (λ k. 2 ^ k) (omega arith) in
    (small, omega arith)

pub flags_made : (fs : List ℕ) (n : ℕ) (ls : List ℕ) → length ls ≡ 2048
    → ((x : ℕ) → x < 2 ^ n → get_or ls (level_start n 0 + x) 0 ≡ get_or fs x 0) → Made (flagged fs) n 1 0 ls
flags_made fs n ls e h =
    let z : n - 0 ≡ n = omega arith in
    let L : Level (flagged fs) n 0 ls = λ x b. ap (λ (v : ℕ). eqb v 1) (h x (rw z at b)) ∙ level_flags (flagged fs) n x in
    record {
      long = e;
      level = λ e l. let same : 0 ≡ e = omega arith in subst (λ (x : ℕ). Level (flagged fs) n x ls) same L;
      full = λ e l r. absurd (omega arith);
      small = omega arith;
    }

module _ (f : ℕ → Bool) (n d mask : ℕ) {ls ls' : List ℕ} {some : Bool} (p : 1 ≤ d) (q : d ≤ n) (w : n ≤ width)
    (M : Made f n d mask ls) (N : NextLevel n d ls some ls') where
  pub made_more : Made f n (d + 1) (mask + 2 ^ d) ls'
  made_more =
      let none : bit mask d ≡ 0 = bit_high mask d d M.small (omega arith) in
      record {
        long = N.long ∙ M.long;
        level = λ e l.
            ⊎_elim (λ b. level_stays n d p q f e b w N (M.level e b))
            (λ g. let same : d ≡ e = omega arith in subst (λ (x : ℕ). Level f n x ls') same (level_next n d p q f w (M.level (d - 1)
            (omega arith)) N))
            (lt_or e d);
        full = λ e l r.
            ⊎_elim (λ b. set_other d e mask (λ s. omega arith) none
            ∙ M.full e l b) (λ g. let same : e ≡ d = omega arith in rw same (set_same d mask none)) (lt_or e d);
        small = rw (add-one d) (omega (arith, M.small, pow-succ' 2 d));
      }

  -- level d has no free block, and so no later one has
  above : some ≡ false → (k x : ℕ) → d + k ≤ n → x < 2 ^ (n - (d + k)) → is_free f (subcube x (top_stars n (d + k))) ≡ false
  above o zero x h l =
      let z : d + 0 ≡ d = omega arith in
      let l' : x < 2 ^ (n - d) = rw z at l in
      rw z (sym (level_next n d p q f w (M.level (d - 1) (omega arith)) N x l') ∙ N.empty o x l')
  above o (suc k) x h l =
      let e : d + suc k - 1 ≡ d + k = omega arith in
      let two = twice n (d + suc k) (omega arith) h in
      level_across n (d + suc k) (omega arith) h f x w
      ∙ ap (λ (b : Bool). b && is_free f (subcube (x + 2 ^ (n - (d + suc k))) (top_stars n (d + suc k - 1))))
      {x = is_free f (subcube x (top_stars n (d + suc k - 1)))} {y = false}
      (let less : x < 2 ^ (n - (d + k)) = omega (arith, l, rw e at two) in rw e (above o k x (omega arith) less))

  pub levels_end : (deep : ℕ) → deep ≤ n → d ≤ deep → some ≡ false → Levels f n deep mask ls'
  levels_end deep h i o = record {
    level = λ e l r b.
        ⊎_elim (λ s. level_stays n d p q f e s w N (M.level e s)) (λ g. absurd (omega (arith, bit_high mask d e M.small g))) (lt_or e d);
    empty = λ e l r b x k.
        ⊎_elim (λ s. absurd (omega (arith, M.full e l s)))
        (λ g. let same : d + (e - d) ≡ e = omega arith in rw same at (above o (e - d) x (omega arith) (rw same k)))
        (lt_or e d);
  }

pub levels_all : (f : ℕ → Bool) (n deep mask : ℕ) {ls : List ℕ} → Made f n (deep + 1) mask ls → Levels f n deep mask ls
levels_all f n deep mask M = record {
  level = λ e l r b. M.level e (omega arith);
  empty = λ e l r b. absurd (omega (arith, M.full e l (omega arith)));
}

-- ---- a block is a run of its level

pub in_level : (n d l α : ℕ) → l + d ≤ n → α < 2 ^ (n - l - d) → α * 2 ^ l + 2 ^ l ≤ 2 ^ (n - d)
in_level n d l α h v =
    let e : n - l - d + l ≡ n - d = omega arith in
    let more : (α + 1) * 2 ^ l ≤ 2 ^ (n - l - d) * 2 ^ l = mul-le-mul_right (2 ^ l) (omega arith) in
    omega (arith, more, rw e at (pow-add 2 (n - l - d) l))

pub block_inside : (n d l α : ℕ) → l + d ≤ n → n ≤ width → α < 2 ^ (n - l - d)
    → (level_start n d + α * 2 ^ l + 2 ^ l ≤ 2048) × (1 ≤ 2 ^ l)
block_inside n d l α h w v = (omega (arith, in_level n d l α h v, level_fits n d w), pow_pos l)

-- that of α, whose stars are the top d and the bottom l
pub block_run : (f : ℕ → Bool) (n d l α : ℕ) (ls : List ℕ) → l + d ≤ n → n ≤ width → α < 2 ^ (n - l - d) → Level f n d ls
    → run_free (at_level n d ls) (α * 2 ^ l) (2 ^ l) ≡ is_free f (subcube (α * 2 ^ l) (2 ^ l - 1 + top_stars n d))
block_run f n d l α ls h w v L =
    let z : 0 + α * 2 ^ l ≡ α * 2 ^ l = omega arith in
    let inside : α * 2 ^ l + 2 ^ l ≤ 2 ^ (n - d) = in_level n d l α h v in
    rw z at (run_same (at_level n d ls) (λ x. free_at f width (top_stars n d) x) 0 (α * 2 ^ l) (2 ^ l)
    (λ x lo hi. let y : 0 + x ≡ x = omega arith in rw y (L x (omega arith))))
    ∙ sym (low_run f (2 ^ d - 1) (n - d) l (α * 2 ^ l) (omega arith) (omega arith))
