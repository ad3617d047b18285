-- The levels of a cube's flags: at level d, for each label of n - d bits, whether the block of the top d stars there is free. Level 0 is the flags.
use Rattle.std.specs.Prelude.{ℕ, ◌+◌, ◌-◌, ◌*◌, ◌^◌, ◌<◌, ◌≤◌, ◌≡◌, Bool, cond, false, ◌&&◌, List, eqb, length, get_or}
use Rattle.hypercube.specs.Bits.{bit}
use Rattle.hypercube.specs.Subcubes.{subcube, is_free}
use Rattle.runs.specs.Flagged.{flagged}

-- 1 where both flags are, else 0
abbrev pub both_flags : ℕ → ℕ → ℕ
both_flags a b = cond (eqb a 1 && eqb b 1) 1 0

-- the top d of n bits
abbrev pub top_stars : ℕ → ℕ → ℕ
top_stars n d = (2 ^ d - 1) * 2 ^ (n - d)

-- where a level begins: each behind the one before it, the last bit's level at the end
abbrev pub level_start : ℕ → ℕ → ℕ
level_start n d = 2048 - 2 * 2 ^ (n - d)

abbrev pub at_level : ℕ → ℕ → List ℕ → ℕ → Bool
at_level n d ls x = flagged ls (level_start n d + x)

-- the entries of level d are those of the flags f
abbrev pub Level : (ℕ → Bool) → ℕ → ℕ → List ℕ → Type 0
Level f n d ls = (x : ℕ) → x < 2 ^ (n - d) → at_level n d ls x ≡ is_free f (subcube x (top_stars n d))

-- level d was made of the one before it, and those before it stay; `some` tells whether any block of level d is free
pub record NextLevel (n d : ℕ) (ls : List ℕ) (some : Bool) (ls' : List ℕ) : Type 0 where
  pub long : length ls' ≡ length ls
  pub made : (x : ℕ) → x < 2 ^ (n - d) → at_level n d ls' x ≡ at_level n (d - 1) ls x && at_level n (d - 1) ls (x + 2 ^ (n - d))
  pub kept : (i : ℕ) → i < level_start n d → get_or ls' i 0 ≡ get_or ls i 0
  pub empty : some ≡ false → (x : ℕ) → x < 2 ^ (n - d) → at_level n d ls' x ≡ false

-- the levels below d stand, and bit e of the mask is 1 for each of them but level 0
pub record Made (f : ℕ → Bool) (n d mask : ℕ) (ls : List ℕ) : Type 0 where
  pub long : length ls ≡ 2048
  pub level : (e : ℕ) → e < d → Level f n e ls
  pub full : (e : ℕ) → 1 ≤ e → e < d → bit mask e ≡ 1
  pub small : mask < 2 ^ d

-- of the levels from 1 to `deep`, those of the mask stand, and no other has a free block
pub record Levels (f : ℕ → Bool) (n deep mask : ℕ) (ls : List ℕ) : Type 0 where
  pub level : (d : ℕ) → 1 ≤ d → d ≤ deep → bit mask d ≡ 1 → Level f n d ls
  pub empty : (d : ℕ) → 1 ≤ d → d ≤ deep → bit mask d ≡ 0 → (x : ℕ) → x < 2 ^ (n - d) → is_free f (subcube x (top_stars n d)) ≡ false
