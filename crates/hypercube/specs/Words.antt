-- A number as two bytes, little-endian.
use Rattle.std.specs.Prelude.{ℕ, ◌+◌, ◌*◌, ◌%◌, ◌/◌, List, [], ◌∷◌, get_or, set}

-- the two bytes from place i on
unfoldable pub word : List ℕ → ℕ → ℕ
word f i = get_or f i 0 + 256 * get_or f (i + 1) 0

-- two bytes of each number
unfoldable pub words : List ℕ → List ℕ
words [] = []
words (x ∷ xs) = (x % 256) ∷ (x / 256) ∷ words xs

-- p with the two bytes of x from place i on
abbrev pub put_word : List ℕ → ℕ → ℕ → List ℕ
put_word p i x = set (set p i (x % 256)) (i + 1) (x / 256)
