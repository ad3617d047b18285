-- A node, by the test whether it is beyond the nodes of a record's cube. Assumes nothing.
use Prim.Native.Nat.{ℕ, ◌<◌}
use mathlib.Core.Path.{◌≡◌, sym, ap, ◌∙◌}
use mathlib.Core.Bool.{Bool, true, false}
use mathlib.Core.List.{List}
use native.Mathlib.Nat.{lt_of_lt_of_le}
use borrow.Author.Tests.{leb-false}
use lib.Dec.{leb}
use lib.ListN.{length}
use lib.Pow.{pow_mono}
use Rattle.state.specs.Checks.{node_count, barred}
use Rattle.record.specs.Layout.{record_size, decode, head_right, valid_record}
use Rattle.record.proofs.Round.{record_says}
use Rattle.steps.proofs.Ways.{state_valid}

module _ (r : List ℕ) (x : ℕ) {b : Bool} (e : b ≡ leb (node_count (decode r)) x) where
  inside : b ≡ false → x < node_count (decode r)
  inside h = leb-false _ _ (sym e ∙ h)

  module _ (v : valid_record r ≡ true) (h : b ≡ false) where
    -- it is one of the 1024
    pub node-asked : (length r ≡ record_size) × (x < 1024)
    node-asked = ((record_says r v).long, lt_of_lt_of_le (inside h) (pow_mono (state_valid r v).small))

    pub node-written : (length r ≡ record_size) × ((x < 1024) × (head_right r ≡ true))
    node-written = (node-asked.0, (node-asked.1, (record_says r v).head))

-- a report of v, by the condition that was read
pub barred_is : (v : ℕ) {c d : ℕ} → c ≡ d → {b y : Bool} → b ≡ barred v c → b ≡ y → barred v d ≡ y
barred_is v e q h = ap (barred v) (sym e) ∙ sym q ∙ h
