-- The first of a list of checks that is met, by place and by number. Assumes nothing.
use Prim.Native.Nat.{ℕ, zero, suc}
use mathlib.Core.Path.{◌≡◌, refl, sym, ◌∙◌}
use mathlib.Core.Bool.{Bool, true, not, ◌&&◌}
use mathlib.Core.List.{List, [], ◌∷◌}
use borrow.Author.Tests.{eqb-false, not-true}
use lib.Dec.{eqb}
use Rattle.hypercube.specs.Tests.{cases, means_true, means_and}
use Rattle.hypercube.specs.Checks.{Check, first_number, Clear, StopsAt, number_at}

-- its number, where there is one; and 0 where none is met
pub number_first : (ks : List Check) (i : ℕ) → StopsAt ks i → number_at ks i ≡ first_number ks
unfolding first_number
number_first [] i e = absurd e
number_first (k ∷ ks) zero e = rw e
number_first (k ∷ ks) (suc i) e = rw e.0 (number_first ks i e.1)

pub none_first : (ks : List Check) → Clear ks → 0 ≡ first_number ks
unfolding first_number
none_first [] e = refl
none_first (k ∷ ks) e = rw e.0 (none_first ks e.1)

-- no check has the number 0
abbrev pub numbered : List Check → Bool
numbered [] = true
numbered (k ∷ ks) = not (eqb k.number 0) && numbered ks

-- then it is 0 only where none is met
pub clear_by : (ks : List Check) → numbered ks ≡ true → first_number ks ≡ 0 → Clear ks
unfolding first_number
clear_by [] b e = tt
clear_by (k ∷ ks) b e =
    let h = (means_and means_true means_true).holds b in
    cases k.met (λ m. absurd (eqb-false k.number 0 (not-true _ h.0) (rw m at e))) (λ m. (m, clear_by ks h.1 (rw m at e)))
