-- A call's checks in order: each the number of a cause, and whether the call meets it.
use Rattle.std.specs.Prelude.{ℕ, zero, suc, ◌≡◌, Bool, true, false, cond, List, [], ◌∷◌}
use Rattle.std.proofs.Math.Option.{Option, some}

pub record Check : Type 0 where
  pub number : ℕ
  pub met : Bool

infix 70 ◌check◌
abbrev pub ◌check◌ : ℕ → Bool → Check
◌check◌ m b = record { number = m; met = b }

-- the number of the first check that is met, or else o
unfoldable pub first_met : List Check → Option ℕ → Option ℕ
first_met [] o = o
first_met (k ∷ ks) o = cond k.met (some k.number) (first_met ks o)

-- that number, or else 0
unfoldable pub first_number : List Check → ℕ
first_number [] = 0
first_number (k ∷ ks) = cond k.met k.number (first_number ks)

-- none of them is met
abbrev pub Clear : List Check → Type 0
Clear [] = Unit {0}
Clear (k ∷ ks) = (k.met ≡ false) × Clear ks

-- the check at place i, from 0, is met, and none before it; and its number
abbrev pub StopsAt : List Check → ℕ → Type 0
StopsAt [] i = ⊥
StopsAt (k ∷ ks) zero = k.met ≡ true
StopsAt (k ∷ ks) (suc i) = (k.met ≡ false) × StopsAt ks i

abbrev pub number_at : List Check → ℕ → ℕ
number_at [] i = 0
number_at (k ∷ ks) zero = k.number
number_at (k ∷ ks) (suc i) = number_at ks i
