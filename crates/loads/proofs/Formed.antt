-- The passes over a record that refusal 1 does not meet, way out by way out. Assumes nothing.
use Prim.Native.Nat.{ℕ, ◌^◌, ◌≤◌}
use mathlib.Core.Path.{◌≡◌, sym, ◌∙◌}
use mathlib.Core.Bool.{Bool, true, false, ◌&&◌}
use mathlib.Core.List.{List}
use native.Mathlib.Omega.{arith}
use lib.ListN.{length}
use lib.Pow.{pow_mono}
use Rattle.hypercube.specs.Lists.{all_below}
use Rattle.hypercube.specs.Tests.{same_test}
use Rattle.hypercube.specs.ByNodes.{formed_by_nodes}
use Rattle.hypercube.proofs.ByNodes.{by_nodes_lem}
use Rattle.state.proofs.Valid.{means_valid}
use Rattle.record.specs.Layout.{record_size, decode, valid_record}
use Rattle.record.specs.Says.{says, dimension_of, formed_record}
use Rattle.record.proofs.Round.{record_says, sized-decode}
use Rattle.loads.specs.Pass.{whole_at, alone_at}

module _ (r : List ℕ) (valid : valid_record r ≡ true) where
  pub long : length r ≡ record_size
  long = (record_says r valid).long

  pub small : dimension_of r ≤ 10
  small = ((means_valid (decode r) (sized-decode r).directions).holds (record_says r valid).state).small

  -- the number N of nodes, by the dimension n that was read
  pub few_nodes : {n N : ℕ} → n ≡ dimension_of r → N ≡ 2 ^ n → N ≤ 1024
  few_nodes en eN = rw eN (pow_mono {j = 10} (omega (arith, en, small)))

  two_passes : all_below (whole_at r (dimension_of r)) (2 ^ dimension_of r) && all_below (alone_at r) (2 ^ dimension_of r) ≡ (formed_record r).test
  two_passes =
      same_test (formed_by_nodes (dimension_of r) (says r).holder (says r).stars).means (formed_record r).means
      (by_nodes_lem (dimension_of r) (says r).holder (says r).stars small)

  -- by the dimension n and the number N of nodes that were read
  module _ {n N : ℕ} {b : Bool} (en : n ≡ dimension_of r) (eN : N ≡ 2 ^ n) (e : b ≡ all_below (whole_at r n) N) where
    first : all_below (whole_at r (dimension_of r)) (2 ^ dimension_of r) ≡ b
    first = rw (← en, ← eN) (sym e)

    pub not_whole : b ≡ false → false ≡ (formed_record r).test
    not_whole z = rw (← two_passes, first, z)

    pub by_alone : b ≡ true → {t : Bool} → t ≡ all_below (alone_at r) N → t ≡ (formed_record r).test
    by_alone z g = g ∙ rw (← two_passes, first, z, ← en, ← eN)
