-- Each part that document 01's table names follows from demand 3, whatever the program. Assumes nothing.
use Prim.Native.Nat.{ℕ, ◌≤◌}
use mathlib.Core.Path.{◌≡◌, refl}
use mathlib.Core.Logic.{inl}
use mathlib.Core.List.{List}
use lib.ListN.{length}
use Rattle.record.specs.Layout.{record_size}
use Rattle.cube.specs.Called.{Program}
use Rattle.cube.specs.Start.{set_up}
use Rattle.cube.specs.Demand3.{ListRight, Demand3}
use Rattle.weak.specs.Parts.{NoneFreeRight, RefusalRight, HeldDisjoint, HoldersRight, ReplyRight, Breaks}

module _ (P : Program) (n : ℕ) (b : List ℕ) (d : ListRight P (set_up P n b)) where
  pub none_free : NoneFreeRight P n b
  none_free es e asks first said = ((d.calls es e).none_free asks first).0 said

  pub refusal : RefusalRight P n b
  refusal es e = (d.calls es e).refusal

  pub disjoint : HeldDisjoint P n b
  disjoint es = (d.held es).disjoint

  pub holders : HoldersRight P n b
  holders es = (d.recorded es).holders

  pub replied : ReplyRight P n b
  replied es e = (d.calls es e).replied

-- a program without a part that follows is without demand 3
pub breaks : (Part : Program → ℕ → List ℕ → Type 0)
    → ((P : Program) (n : ℕ) (b : List ℕ) → n ≤ 10 → length b ≡ record_size → Demand3 P → Part P n b)
    → (P : Program) (n : ℕ) (b : List ℕ) → n ≤ 10 → length b ≡ record_size → ¬ Part P n b → Breaks Part P n b
breaks Part follows P n b small whole broken =
    record { follows = follows; part = broken; demand = λ d. broken (follows P n b small whole d) }

-- the same of a part that is said of lists on a cube set up
pub breaks_list : (Part : Program → ℕ → List ℕ → Type 0) → ((P : Program) (n : ℕ) (b : List ℕ) → ListRight P (set_up P n b) → Part P n b)
    → (P : Program) (n : ℕ) (b : List ℕ) → n ≤ 10 → length b ≡ record_size → ¬ Part P n b → Breaks Part P n b
breaks_list Part follows = breaks Part (λ P n b small whole d.
    follows P n b (d.lists (set_up P n b) (inl (record { n = n; buffer = b; small = small; whole = whole; is = refl }))))
