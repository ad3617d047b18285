-- The strategies of a request and of a growth are those up to 4. Assumes nothing.
use Prim.Native.Nat.{ℕ, zero, suc, ◌≤◌}
use mathlib.Core.Path.{◌≡◌, refl}
use mathlib.Core.Logic.{inl, inr, ⊎_elim}
use native.Mathlib.Omega.{arith}
use lib.Dec.{leb}
use Rattle.hypercube.specs.Lists.{In, among}
use Rattle.hypercube.specs.Conditions.{means_among}
use Rattle.hypercube.specs.Tests.{means_le, same_test}
use Rattle.history.specs.Calls.{strategies}

up_to_4 : (f : ℕ) → f ≤ 4 → In f strategies
up_to_4 zero h = inl refl
up_to_4 (suc zero) h = inr (inl refl)
up_to_4 (suc (suc zero)) h = inr (inr (inl refl))
up_to_4 (suc (suc (suc zero))) h = inr (inr (inr (inl refl)))
up_to_4 (suc (suc (suc (suc zero)))) h = inr (inr (inr (inr (inl refl))))
up_to_4 (suc (suc (suc (suc (suc f))))) h = absurd (omega arith)

at_most_4 : (f : ℕ) → In f strategies → f ≤ 4
at_most_4 f =
    ⊎_elim (λ e. omega arith)
    (⊎_elim (λ e. omega arith) (⊎_elim (λ e. omega arith) (⊎_elim (λ e. omega arith) (⊎_elim (λ e. omega arith) absurd))))

-- document 02, (a): "Refusal 9 now means above 4"
pub offered_below : (f : ℕ) → among f strategies ≡ leb f 4
offered_below f = same_test (means_among f strategies) (means_le f 4) (at_most_4 f, up_to_4 f)
