-- Which kinds have an effect: what holds of each row of the table of kinds holds of every kind, and is found by computing. Assumes nothing.
use mathlib.Core.Path.{◌≡◌, refl, subst}
use mathlib.Core.Logic.{⊎_elim}
use mathlib.Core.Bool.{true}
use mathlib.Core.List.{[], ◌∷◌}
use native.Mathlib.Decide.{ℕ_discrete}
use Rattle.hypercube.specs.Lists.{In}
use Rattle.hypercube.specs.Conditions.{Condition, so, ◌at_most◌, ◌and◌, among_of, all_of, every_of}
use Rattle.history.specs.Calls.{Kind, release, ◌of◌, reporting, naming, asking, starting}
use Rattle.history.specs.Calls.{Effect, Effect-discrete, sets, relabels, grants, releases, nothing, kinds, is_row, effect}
use Rattle.history.proofs.KindTable.{found}

pub only_one : {A : Type 0} {x y : A} → In x (y ∷ []) → x ≡ y
only_one i = ⊎_elim (λ e. e) (λ z. absurd z) i

-- a kind k whose effect is e
abbrev fits : Kind → Effect → Condition
fits k (sets v) = (k of reporting) and (v at_most 2)
fits k relabels = so true
fits k grants = (k of asking) and (k of naming)
fits k releases = k of (release ∷ [])
fits k nothing = so true

pub by_effect : (k : Kind) {e : Effect} → effect k ≡ e → (fits k e).Met
unfolding all_of
by_effect k e =
    subst (λ (x : Effect). (fits k x).Met) e
    (⊎_elim (λ z. rw z refl)
    (λ f.
    let same = only_one ((k of (f.0.kind ∷ [])).means.holds f.2) in
    rw (f.3, same) ((every_of kinds (λ r. fits r.kind r.effect)).means.holds refl f.0 f.1))
    (found (λ r. r.effect) nothing (is_row k) kinds))

-- a call that asks grants
pub asking_grants : (k : Kind) → In k asking → effect k ≡ grants
unfolding all_of
asking_grants k i =
    only_one ((every_of asking (λ j. among_of (Effect-discrete ℕ_discrete) (effect j) (grants ∷ []))).means.holds refl k i)

-- a call of a job that holds none names its job
pub starting_names : (k : Kind) → In k starting → In k naming
unfolding all_of
starting_names = (every_of starting (λ j. j of naming)).means.holds refl
