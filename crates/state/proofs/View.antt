-- What a call changes in a state, it changes in the history that the state says. Assumes nothing.
use mathlib.Core.Path.{◌≡◌, refl, sym, ap, ap₂, ◌∙◌, subst, fun_ext}
use mathlib.Core.Logic.{◌↔◌, ⊎_elim}
use mathlib.Core.Bool.{Bool, cond}
use mathlib.Core.List.{List, map}
use Prim.Native.Nat.{ℕ, ◌<◌, ◌≤◌}
use native.Mathlib.Omega.{arith}
use borrow.Author.Tests.{eqb-true, eqb-false}
use lib.Dec.{eqb}
use lib.ListN.{length, get_or, set, get_or-eq_default}
use lib.Seq.{get_or-set_same, get_or-set_other}
use Rattle.hypercube.specs.Lists.{In, among, from}
use Rattle.hypercube.proofs.Bits.{lt_or}
use Rattle.hypercube.proofs.Lists.{length_of, get_or_each}
use Rattle.hypercube.specs.Tests.{cases, either_way, refutes, same_test}
use Rattle.history.specs.Account.{put, put_all, wipe, with_held, lose, take_over}
use Rattle.hypercube.specs.Conditions.{means_among}
use Rattle.state.specs.declared.State.{State}
use Rattle.state.specs.States.{given, cleared, lost, taken}
use Rattle.state.specs.View.{entry, view}
use Rattle.state.proofs.Valid.{Sized}

-- ---- the changes of a list

pub entry_set : (l : List ℕ) (x v : ℕ) → x < length l → entry (set l x v) ≡ put (entry l) x v
entry_set l x v b = fun_ext (λ y.
    cases (eqb y x)
    (λ e. rw e (subst (λ (z : ℕ). get_or (set l x v) z 0 ≡ v) (sym (eqb-true y x e)) (get_or-set_same l x v 0 b)))
    (λ e. rw e (get_or-set_other l x y v 0 (eqb-false y x e))))

-- a list made by node is g where its entries are g's, and g is 0 beyond it
entry_each : (f g : ℕ → ℕ) → ((y : ℕ) → y < 1024 → f y ≡ g y) → ((y : ℕ) → 1024 ≤ y → g y ≡ 0) → entry (map f (from 0 1024)) ≡ g
entry_each f g inside beyond = fun_ext (λ y.
    ⊎_elim (λ h. get_or_each f 0 1024 y h ∙ inside y h)
    (λ h. get_or-eq_default (map f (from 0 1024)) 0 {n = y} (omega (arith, length_of f 0 1024)) ∙ sym (beyond y h))
    (lt_or y 1024))

module _ (l : List ℕ) (e : length l ≡ 1024) where
  none_beyond : (y : ℕ) → 1024 ≤ y → get_or l y 0 ≡ 0
  none_beyond y h = get_or-eq_default l 0 {n = y} (omega arith)

  entry-cleared : (hs : List ℕ) (j : ℕ) → entry (cleared l hs j) ≡ wipe (entry l) (entry hs) j
  entry-cleared hs j =
      entry_each (λ x. cond (eqb (get_or hs x 0) j) 0 (get_or l x 0)) (wipe (entry l) (entry hs) j) (λ y h. refl)
      (λ y h. rw (none_beyond y h) (either_way (eqb (get_or hs y 0) j) 0))

  -- the nodes are xs to the one and ys to the other
  entry-given : (xs ys : List ℕ) (v : ℕ) → ((y : ℕ) → In y xs ↔ In y ys) → ((y : ℕ) → In y xs → y < 1024)
      → entry (given l xs v) ≡ put_all (entry l) ys v
  entry-given xs ys v same b =
      entry_each (λ x. cond (among x xs) v (get_or l x 0)) (put_all (entry l) ys v)
      (λ y h. ap {B = ℕ} (λ (d : Bool). cond d v (get_or l y 0)) (listed y))
      (λ y h. rw (sym (listed y) ∙ refutes (means_among y xs) (λ i. omega (arith, b y i))) (none_beyond y h))
    where
      listed : (y : ℕ) → among y xs ≡ among y ys
      listed y = same_test (means_among y xs) (means_among y ys) (same y)

-- ---- a job's nodes lost, and nodes taken over

module _ (s : State) (z : Sized s) where
  pub view-lost : (j : ℕ) → view (lost s j) ≡ lose (view s) j
  view-lost j =
      ap₂ (with_held (view s)) (entry-cleared s.holders z.holders s.holders j) (entry-cleared s.stars z.stars s.holders j)

  pub view-taken : (xs ys : List ℕ) (j v : ℕ) → ((y : ℕ) → In y xs ↔ In y ys) → ((y : ℕ) → In y xs → y < 1024)
      → view (taken s xs j v) ≡ take_over (view s) ys j v
  view-taken xs ys j v same b =
      ap₂ (with_held (view s)) (entry-given s.holders z.holders xs ys j same b) (entry-given s.stars z.stars xs ys v same b)
