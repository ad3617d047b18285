-- What a call does to a state, and is told, is what the history says of it: at each kind the call's checks compute to the table's rows. Assumes
-- nothing.
use mathlib.Core.Path.{◌≡◌, refl, ap}
use mathlib.Core.Bool.{Bool, true, false, not, ◌&&◌}
use mathlib.Core.List.{List, [], ◌∷◌, ◌++◌}
use mathlib.Core.Option.{Option, none, some}
use Prim.Native.Nat.{ℕ}
use lib.Dec.{eqb, leb}
use Rattle.hypercube.specs.Tests.{cases, means_true, means_eq, means_le, means_not, means_and}
use Rattle.hypercube.specs.Checks.{Check, first_met, Clear}
use Rattle.history.specs.Calls.{Call, Kind, good, fault, repaired, relabel, request, release, grow, other, ◌of◌, kind, node_field, job, dimension}
use Rattle.history.specs.Calls.{strategy, effect}
use Rattle.history.specs.Causes.{checks, call_rows, last}
use Rattle.state.specs.declared.State.{State}
use Rattle.state.specs.declared.Call as alloc
use Rattle.state.specs.declared.Call.TheVariants.{Good, Fault, Repaired, Relabel, Request, Release, Grow}
use Rattle.state.specs.declared.Step.{Step}
use Rattle.state.specs.Effects.{effected}
use Rattle.state.specs.Acts.{call_of, checks_of, effect_of, guarded, acted}
use Rattle.state.proofs.Valid.{Sized, Valid}
use Rattle.state.specs.View.{view}
use Rattle.state.proofs.Effected.{Does, refuses, does_sets, does_relabels, does_releases, does_grants}

-- checks with numbers from 3 on, and not 14
abbrev plain : List Check → Bool
plain [] = true
plain (k ∷ ks) = (leb 3 k.number && not (eqb k.number 14)) && plain ks

module _ (s : State) (z : Sized s) (w : Valid s) (c : Call) where
  -- the first check that is met is the first cause; where none is met, what the call does decides
  does_guarded : (ks : List Check) → plain ks ≡ true → {t : Step} {o : Option ℕ} → (Clear ks → Does s c t o)
      → Does s c (guarded s ks t) (first_met ks o)
  unfolding guarded first_met
  does_guarded [] f D = D tt
  does_guarded (k ∷ ks) f D =
      let b = (means_and (means_and (means_le 3 k.number) (means_not (means_eq k.number 14))) means_true).holds f in
      cases k.met
      (λ e. rw e (refuses s z w c k.number b.0))
      (λ e. rw e (does_guarded ks b.1 (λ q. D (e, q))))

  -- the rows from 6 on, for a call of kind k
  abbrev pub from_6 : Kind → Option ℕ
  from_6 k = first_met (checks (call_rows s.n ++ last s.n ∷ []) (view s) k c) none

  -- a frame of kind k that is read as a call does what the history says of it; `other` alone is none
  abbrev pub Reads : Option alloc.Call → Kind → Type 0
  Reads none k = (k of (other ∷ [])).test ≡ true
  Reads (some a) k = ((k of (other ∷ [])).test ≡ false) × Does s c (acted s a) (from_6 k)

  checked : (a : alloc.Call) → plain (checks_of s a) ≡ true → {o : Option ℕ} → (Clear (checks_of s a) → Does s c (effected s (effect_of a)) o)
      → Does s c (acted s a) (first_met (checks_of s a) o)
  checked a p D = does_guarded (checks_of s a) p D

  pub reads : (k : Kind) → kind c ≡ k → Reads (call_of c.frame k) k
  unfolding call_of node_field job dimension strategy call_rows last first_met
  reads good e = (refl, checked (Good (record { 0 = node_field c })) refl (λ q. does_sets s z w c 1 (ap effect e) q.0))
  reads fault e = (refl, checked (Fault (record { 0 = node_field c })) refl (λ q. does_sets s z w c 2 (ap effect e) q.0))
  reads repaired e = (refl, checked (Repaired (record { 0 = node_field c })) refl (λ q. does_sets s z w c 0 (ap effect e) q.0))
  reads relabel e = (refl, checked Relabel refl (λ q. does_relabels s z w c (ap effect e)))
  reads request e = (refl, checked (Request (job c) (dimension c) (strategy c)) refl (λ q. does_grants s z w c (ap effect e) q.1.0))
  reads release e = (refl, checked (Release (job c)) refl (λ q. does_releases s z w c (ap effect e)))
  reads grow e = (refl, checked (Grow (job c) (dimension c) (strategy c)) refl (λ q. does_grants s z w c (ap effect e) q.1.0))
  reads other e = refl
