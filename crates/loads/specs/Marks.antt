-- A mark for each job number, a bit of 8192 bytes.
use Rattle.std.specs.Prelude.{ℕ, ◌/◌, ◌%◌, ◌≡◌, Bool, ◌&&◌, ◌||◌, List, eqb, length, get_or}
use Rattle.hypercube.specs.Bits.{bit}

abbrev pub is_marked : List ℕ → ℕ → Bool
is_marked l j = eqb (bit (get_or l (j / 8) 0) (j % 8)) 1

-- l' has the marks of l, and job j's if b
pub record MarkedIf (b : Bool) (j : ℕ) (l l' : List ℕ) : Type 0 where
  pub long : length l' ≡ length l
  pub marks : (k : ℕ) → is_marked l' k ≡ is_marked l k || (b && eqb j k)
