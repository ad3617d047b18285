-- A level in an array: an entry for each member, 1 where it is free, else 0.
use Rattle.std.specs.Prelude.{ℕ, ◌<◌, ◌≡◌, Bool, cond, List, length, get_or}
use Rattle.hypercube.specs.Lists.{count_below}
use Rattle.runs.specs.Flagged.{flagged}

-- the first N entries tell g
abbrev pub Entries : (ℕ → Bool) → ℕ → List ℕ → Type 0
Entries g N ls = (x : ℕ) → x < N → get_or ls x 0 ≡ cond (g x) 1 0

-- the first N entries are 0 or 1
abbrev pub ZeroOne : ℕ → List ℕ → Type 0
ZeroOne N ls = Entries (flagged ls) N ls

-- the first N entries tell g, which is true of so many
pub record Laid (g : ℕ → Bool) (N size free : ℕ) (ls : List ℕ) : Type 0 where
  pub long : length ls ≡ size
  pub tells : Entries g N ls
  pub count : free ≡ count_below N g

-- the first N entries are those of the level above
pub record Risen (above : List ℕ) (N : ℕ) (ls : List ℕ) : Type 0 where
  pub long : length ls ≡ 1024
  pub same : (x : ℕ) → x < N → get_or ls x 0 ≡ get_or above x 0
