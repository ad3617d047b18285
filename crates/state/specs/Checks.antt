-- What the checks of the calls are made of. Document 01, "When a call says no".
use Rattle.std.specs.Prelude.{ℕ, ◌^◌, Bool, false, not, cond, List, [], ◌∷◌, eqb, ltb, leb, get_or}
use Rattle.hypercube.specs.Lists.{among, any_below, count_below}
use Rattle.hypercube.specs.Checks.{Check, ◌check◌, first_number}
use Rattle.state.specs.declared.State.{State}

-- how many nodes there are; whether a job holds any, and how many; whether any is held
abbrev pub node_count : State → ℕ
node_count s = 2 ^ s.n

abbrev pub holds : State → ℕ → Bool
holds s j = any_below (λ x. eqb (get_or s.holders x 0) j) (node_count s)

abbrev pub held_by : State → ℕ → ℕ
held_by s j = count_below (node_count s) (λ x. eqb (get_or s.holders x 0) j)

abbrev pub any_held : State → Bool
any_held s = any_below (λ x. not (eqb (get_or s.holders x 0) 0)) (node_count s)

-- a report that sets condition v, of a node in condition c: "'good' on a faulty node, 'repaired' on one not faulty"
abbrev pub barred : ℕ → ℕ → Bool
barred v c = cond (eqb v 2) false (cond (eqb v 1) (eqb c 2) (not (eqb c 2)))

abbrev pub report_checks : State → ℕ → ℕ → List Check
report_checks s x v = 8 check leb (node_count s) x ∷ 12 check barred v (get_or s.conditions x 0) ∷ []

-- of the fields of a request or a growth that takes the strategies fs: "job 0", "k above n", another strategy; and the first of these causes that
-- they meet, or 0
abbrev pub field_checks : State → List ℕ → ℕ → ℕ → ℕ → List Check
field_checks s fs j k f = 6 check eqb j 0 ∷ 7 check ltb s.n k ∷ 9 check not (among f fs) ∷ []

unfoldable pub field_cause : State → List ℕ → ℕ → ℕ → ℕ → ℕ
field_cause s fs j k f = first_number (field_checks s fs j k f)
