-- What a loop has stored in a record, and what it left.
use Rattle.std.specs.Prelude.{ℕ, ◌+◌, ◌<◌, ◌≤◌, ◌≡◌, List, length, get_or}
use Rattle.hypercube.specs.Filled.{Filled}
use Rattle.state.specs.declared.State.{State}
use Rattle.record.specs.Layout.{record_size, encode}

-- l is as long as a record, and its first i bytes are those of the state's
abbrev pub Begun : State → ℕ → List ℕ → Type 0
Begun s i l = Filled (λ k. get_or (encode s) k 0) 0 record_size i l

-- the same of l, and the bytes from i on are those of r
pub record Stored (s : State) (r : List ℕ) (i : ℕ) (l : List ℕ) : Type 0 where
  pub begun : Begun s i l
  pub rest : (k : ℕ) → i ≤ k → get_or l k 0 ≡ get_or r k 0

-- l is as long as r; from place at on it has the first i of the bytes bs, and else it is r
pub record Laid (bs : List ℕ) (at i : ℕ) (r l : List ℕ) : Type 0 where
  pub long : length l ≡ length r
  pub before : (k : ℕ) → k < at → get_or l k 0 ≡ get_or r k 0
  pub laid : (k : ℕ) → k < i → get_or l (at + k) 0 ≡ get_or bs k 0
  pub rest : (k : ℕ) → at + i ≤ k → get_or l k 0 ≡ get_or r k 0
