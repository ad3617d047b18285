-- The highest of a list's numbers, 0 for none.
use Rattle.std.specs.Prelude.{ℕ, max, Bool, List, [], ◌∷◌, eqb}

unfoldable pub highest_of : List ℕ → ℕ
highest_of [] = 0
highest_of (x ∷ xs) = max x (highest_of xs)

-- every number is 0: the highest is
abbrev pub all_zero : List ℕ → Bool
all_zero l = eqb (highest_of l) 0
