-- What follows a check's answer, by its number; and the checks of a request and of a growth. Assumes nothing.
use Prim.Native.Nat.{ℕ, ◌^◌}
use mathlib.Core.Logic.{◌≢◌}
use mathlib.Core.Path.{◌≡◌, refl, sym, ap}
use mathlib.Core.Bool.{true, not}
use Rattle.std.proofs.Math.Bool.{not-not}
use mathlib.Core.List.{List, [], ◌∷◌}
use lib.Dec.{eqb, leb}
use lib.ListN.{get_or}
use Rattle.std.proofs.Common.{Result, Ok, Err, arith}
use Rattle.hypercube.specs.Tests.{cases}
use Rattle.hypercube.specs.Checks.{Check, ◌check◌, first_number}
use Rattle.hypercube.specs.Refusals.{refusal_number}
use Rattle.hypercube.specs.declared.Refusal.{Refusal}
use Rattle.hypercube.proofs.Checks.{numbered, clear_by}
use Rattle.state.specs.declared.State.{State}
use Rattle.state.specs.declared.Step.{Step}
use Rattle.state.specs.Checks.{node_count, holds, held_by}
use Rattle.state.specs.Acts.{refuse, guarded}
use Rattle.state.proofs.Below.{any_counted}
use Rattle.state.proofs.Steps.{runs}
use Rattle.grants.specs.Checked.{cause_number, checked, request_checks, growth_checks}

pub refusal_numbered : (e : Refusal) → refusal_number e ≢ 0
refusal_numbered e z = grind arith

module _ (s : State) (t : Step) where
  first_refused : (ks : List Check) {m : ℕ} → m ≡ first_number ks → m ≢ 0 → refuse s m ≡ guarded s ks t
  unfolding guarded first_number
  first_refused [] e p = absurd (p e)
  first_refused (k ∷ ks) e p = cases k.met (λ d. rw d (ap (refuse s) (rw d at e))) (λ d. rw d (first_refused ks (rw d at e) p))

  by_number : (ks : List Check) → numbered ks ≡ true → (b : Result (Unit {0}) Refusal) → cause_number b ≡ first_number ks
      → checked s b t ≡ guarded s ks t
  by_number ks n (Ok x) e = runs s ks t (clear_by ks n (sym e)) refl
  by_number ks n (Err r) e = first_refused ks e (refusal_numbered r)

  module _ (j : ℕ) {held : ℕ} (h : held ≡ held_by s j) (b : Result (Unit {0}) Refusal) where
    pub as_request : cause_number b ≡ first_number (request_checks held) → checked s b t ≡ guarded s (10 check holds s j ∷ []) t
    as_request e = rw (any_counted (λ x. eqb (get_or s.holders x 0) j) (node_count s), ← h) (by_number (request_checks held) refl b e)

    pub as_growth : (k : ℕ) → cause_number b ≡ first_number (growth_checks held k)
        → checked s b t ≡ guarded s (11 check not (holds s j) ∷ 17 check leb (2 ^ k) (held_by s j) ∷ []) t
    as_growth k e = rw (any_counted (λ x. eqb (get_or s.holders x 0) j) (node_count s), ← h) (by_number (11 check not (not (eqb held 0)) ∷ 17 check leb (2 ^ k) held ∷ []) refl b (rw not-not e))
