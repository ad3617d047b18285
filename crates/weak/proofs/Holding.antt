-- The dimension in a record, and whether a node of a state is held. Assumes nothing.
use Prim.Native.Nat.{ℕ, ◌<◌}
use mathlib.Core.Path.{◌≡◌, refl}
use mathlib.Core.Bool.{true, false, not, false≢true}
use mathlib.Core.List.{List}
use lib.Dec.{eqb}
use lib.ListN.{get_or}
use Rattle.hypercube.specs.Tests.{refutes}
use Rattle.hypercube.proofs.Below.{means_any}
use Rattle.state.specs.declared.State.{State}
use Rattle.state.specs.Checks.{node_count, any_held}
use Rattle.record.specs.Layout.{decode}

pub dimension_of_lem : (r : List ℕ) → (decode r).n ≡ get_or r 4 0
unfolding decode
dimension_of_lem r = refl

module _ (s : State) where
  pub none_held : ((x : ℕ) → x < node_count s → get_or s.holders x 0 ≡ 0) → any_held s ≡ false
  none_held h = refutes (means_any (λ x. not (eqb (get_or s.holders x 0) 0)) (node_count s)) (λ p. false≢true (rw (h p.0 p.1) at p.2))

  pub some_held : (x : ℕ) → x < node_count s → get_or s.holders x 0 ≡ 1 → any_held s ≡ true
  some_held x l h = (means_any (λ x. not (eqb (get_or s.holders x 0) 0)) (node_count s)).shows (x, l, rw h refl)
