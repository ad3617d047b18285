-- Rows of the table by their numbers: a call that meets none up to m, and none of those after m either, meets none. Assumes nothing.
use Prim.Native.Nat.{ℕ, ◌≤◌}
use mathlib.Core.Path.{◌≡◌, refl}
use mathlib.Core.Bool.{Bool, true, false}
use mathlib.Core.List.{List, [], ◌∷◌, ◌++◌}
use native.Mathlib.Omega.{arith}
use borrow.Author.Tests.{eqb-true, ltb-false}
use lib.Dec.{eqb, ltb}
use Rattle.history.specs.Calls.{Call}
use Rattle.history.specs.Account.{History}
use Rattle.history.specs.Causes.{Row, Met, NoneMet}
use Rattle.history.proofs.Rows.{And-if, Unmet}
use Rattle.no_waste.specs.NoWaste.{NoneUpTo}

module _ (h : History) (c : Call) (m : ℕ) where
  -- the rows of one such number are not met
  pub unmet_to : (k : ℕ) → k ≤ m → (rs : List Row) → NoneUpTo m rs h c → Unmet h c k rs
  unmet_to k l [] f = tt
  unmet_to k l (r ∷ rs) f = go (eqb r.number k) refl (unmet_to k l rs f.1)
    where
      go : (b : Bool) → eqb r.number k ≡ b → Unmet h c k rs → And-if b (¬ Met r h c) (Unmet h c k rs)
      go true e u = (f.0 (omega (arith, eqb-true r.number k e)), u)
      go false e u = u

  -- the rows numbered above m are not met
  abbrev pub NoneAbove : List Row → Type 0
  NoneAbove [] = Unit {0}
  NoneAbove (r ∷ rs) = And-if (ltb m r.number) (¬ Met r h c) (NoneAbove rs)

  pub none_met : (rs ts : List Row) → NoneUpTo m (rs ++ ts) h c → NoneAbove rs → NoneMet rs h c
  none_met [] ts f g = tt
  none_met (r ∷ rs) ts f g = go (ltb m r.number) refl (none_met rs ts f.1) g
    where
      go : (b : Bool) → ltb m r.number ≡ b → (NoneAbove rs → NoneMet rs h c) → And-if b (¬ Met r h c) (NoneAbove rs) → NoneMet (r ∷ rs) h c
      go true e rest g = (g.0, rest g.1)
      go false e rest g = (f.0 (ltb-false m r.number e), rest g)
