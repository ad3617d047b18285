-- What is known of extended's rows before they are walked: their levels, and which d have no free member.
use Rattle.std.specs.Prelude.{ℕ, ◌-◌, ◌≤◌, ◌≡◌, Bool, List}
use Rattle.hypercube.specs.Bits.{bit}
use Rattle.runs.specs.Levels.{Level}
use Rattle.planes.specs.Rows.{NoMember}

-- the levels of the mask, up to `low`, are those of f
abbrev pub Leveled : (ℕ → Bool) → ℕ → ℕ → ℕ → List ℕ → Type 0
Leveled f n low mask ls = (d : ℕ) → 1 ≤ d → d ≤ low → bit mask d ≡ 1 → Level f n d ls

-- the second mask has no bit that the first has not
abbrev pub Narrowed : ℕ → ℕ → Type 0
Narrowed mask less = (d : ℕ) → bit less d ≡ 1 → bit mask d ≡ 1

-- a d whose bit of the mask is 0 is closed: its rows have no free member
abbrev pub Closed : (ℕ → Bool) → ℕ → ℕ → ℕ → Type 0
Closed f n low mask = (d : ℕ) → 1 ≤ d → d ≤ low → bit mask d ≡ 0 → NoMember f n d (low - d) 1
