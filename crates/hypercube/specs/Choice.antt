-- What each strategy chooses, where f tells which labels are free, and what refusal 14 says was tried. Document 01, "Families and their order";
-- document 02, (a).
use Rattle.std.specs.Prelude.{ℕ, Bool, true, false, length, eqb}
use Rattle.hypercube.specs.Subcubes.{is_free}
use Rattle.hypercube.specs.Families.{family, first_free}
use Rattle.hypercube.specs.BestFit.{maximal, best_fit}
use Rattle.hypercube.specs.declared.Walk.{Walk}

-- strategy 4 is best fit; the others take the first free member of their family
abbrev pub is_best_fit : ℕ → Bool
is_best_fit strategy = eqb strategy 4

-- "'Tried' is the granted member's place in that order, from 1. A walk that meets no free member gives refusal 14 with the family's whole count."
abbrev pub choice_by : Bool → ℕ → ℕ → ℕ → (ℕ → Bool) → Walk
choice_by true strategy n k f = best_fit n k f
choice_by false strategy n k f = first_free (is_free f) (family strategy n k) 0

abbrev pub choice : ℕ → ℕ → ℕ → (ℕ → Bool) → Walk
choice strategy n k f = choice_by (is_best_fit strategy) strategy n k f

-- "the family's whole count"; for best fit "the number of maximal free blocks, granted or not"
abbrev pub whole_by : Bool → ℕ → ℕ → ℕ → (ℕ → Bool) → ℕ
whole_by true strategy n k f = length (maximal n f)
whole_by false strategy n k f = length (family strategy n k)

abbrev pub whole : ℕ → ℕ → ℕ → (ℕ → Bool) → ℕ
whole strategy n k f = whole_by (is_best_fit strategy) strategy n k f
