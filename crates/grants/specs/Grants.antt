-- A request or a growth that meets no cause before 14: the walk's answer, done to a record.
use Rattle.std.specs.Prelude.{ℕ, ◌≡◌, ◌≢◌, true, List, Result}
use Rattle.hypercube.specs.declared.Refusal.{Refusal}
use Rattle.hypercube.specs.declared.Reply.{Reply}
use Rattle.history.specs.Calls.{strategies}
use Rattle.state.specs.declared.Step.{Step}
use Rattle.state.specs.Checks.{held_by, field_checks}
use Rattle.state.specs.Effects.{walk_of, grant_step}
use Rattle.state.specs.Acts.{guarded}
use Rattle.record.specs.Layout.{decode, valid_record}
use Rattle.steps.specs.Carried.{Does}
use Rattle.grants.specs.Checked.{checked, replied}

-- r is a record, and its job j has so many nodes
pub record Holding (r : List ℕ) (j held : ℕ) : Type 0 where
  pub right : valid_record r ≡ true
  pub set : j ≢ 0
  pub counted : held ≡ held_by (decode r) j

abbrev pub Grants : List ℕ → ℕ → ℕ → ℕ → Reply → List ℕ → Type 0
Grants r j k f told r' = Does r (grant_step (decode r) j (walk_of (decode r) j k f)) told r'

-- a request or a growth whose job's number of nodes is checked by P: after its fields' checks, the step t that P's answer leads to
abbrev pub Asked : (ℕ → Result (Unit {0}) Refusal → Type 0) → List ℕ → ℕ → ℕ → ℕ → Result Reply Refusal → List ℕ → Type 0
Asked P r j k f a r' =
    (t : Step)
    → ((held : ℕ) (b : Result (Unit {0}) Refusal) → held ≡ held_by (decode r) j → P held b
    → checked (decode r) b (grant_step (decode r) j (walk_of (decode r) j k f)) ≡ t)
    → Does r (guarded (decode r) (field_checks (decode r) strategies j k f) t) (replied a) r'
