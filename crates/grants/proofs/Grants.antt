-- The walk of a request or a growth over the flags of a state, and the member that it finds: its nodes are a subcube's, with no star in the lowest.
-- Assumes nothing.
use Prim.Native.Nat.{ℕ, ◌^◌, ◌<◌, ◌≤◌}
use mathlib.Core.Path.{◌≡◌, ap, ◌∙◌}
use mathlib.Core.List.{List}
use native.Mathlib.Nat.{lt_of_lt_of_le}
use lib.Dec.{eqb}
use lib.Pow.{pow_mono}
use Rattle.hypercube.specs.Labels.{node}
use Rattle.hypercube.specs.Subcubes.{subcube, IsSubcube}
use Rattle.hypercube.specs.Choice.{choice}
use Rattle.hypercube.specs.declared.Subcube.{Subcube}
use Rattle.hypercube.specs.declared.Walk.{Walk}
use Rattle.hypercube.specs.declared.Walk.TheVariants.{Found}
use Rattle.hypercube.proofs.Families.{family_subcubes, choice_same, choice-free}
use Rattle.hypercube.proofs.Moved.{moved_subcube}
use Rattle.labels.specs.Directions.{Directions}
use Rattle.labels.specs.Flags.{EmptyFrom, flag, by_node, by_label}
use Rattle.labels.proofs.Directions.{directions}
use Rattle.labels.proofs.Flags.{empty_by_node, flags_moved, flag_test}
use Rattle.runs.specs.Flagged.{flagged}
use Rattle.state.specs.declared.State.{State}
use Rattle.state.specs.Valid.{Valid}
use Rattle.state.specs.Checks.{node_count}
use Rattle.state.specs.Effects.{free_label, walk_of}
use Rattle.nodes.specs.Lowest.{LowestOf}

-- ---- the flags of the state s where job j asks, by node and moved to their labels

abbrev by_nodes : State → ℕ → List ℕ
by_nodes s j = by_node (2 ^ s.n) (flag s.conditions s.holders j)

abbrev by_labels : State → ℕ → List ℕ
by_labels s j = by_label s.n s.map (by_nodes s j)

module _ (s : State) (v : Valid s) (j : ℕ) where
  -- a label's flag is 1 where the label is free
  flagged-free : (l : ℕ) → l < 2 ^ s.n → flagged (by_labels s j) l ≡ free_label s j l
  flagged-free l b =
      ap (λ (z : ℕ). eqb z 1) (flags_moved s.n s.map (flag s.conditions s.holders j) v.small v.permutes l b)
      ∙ flag_test s.conditions s.holders j (node s.map l)

  -- so what is chosen by the flags is the walk
  by_flags : (k f : ℕ) → k ≤ s.n → choice f s.n k (flagged (by_labels s j)) ≡ walk_of s j k f
  by_flags k f h = choice_same f s.n k (flagged (by_labels s j)) (free_label s j) v.small h flagged-free

-- ---- n, the map and the flags by node of the state s, as they were read

module _ (s : State) (v : Valid s) (j : ℕ) {n : ℕ} (en : n ≡ s.n) {ds : List ℕ} (ed : ds ≡ s.map)
    {N : ℕ} (eN : N ≡ node_count s) {fs : List ℕ} (ef : fs ≡ by_node N (flag s.conditions s.holders j)) where
  made : fs ≡ by_nodes s j
  made = ef ∙ ap (λ (m : ℕ). by_node m (flag s.conditions s.holders j)) eN

  pub walk_asked : ((n ≤ 10) × Directions ds) × EmptyFrom fs (2 ^ n)
  walk_asked =
      rw (en, ed, made)
      ((v.small, directions s.n s.map v.small v.permutes), empty_by_node s.n (flag s.conditions s.holders j) v.small)

  pub walked : {gs : List ℕ} → gs ≡ by_label n ds fs → (k f : ℕ) → k ≤ s.n → {w : Walk} → w ≡ choice f n k (flagged gs) → w ≡ walk_of s j k f
  walked e k f h q = q ∙ rw (e, en, ed, made) (by_flags s v j k f h)

-- ---- the member found

module _ (s : State) (v : Valid s) (j k f : ℕ) (h : k ≤ s.n) (c : Subcube) (t : ℕ) (e : walk_of s j k f ≡ Found c t) where
  member : IsSubcube s.n k (subcube (node s.map c.low.0) (node s.map c.stars))
  member =
      moved_subcube s.n s.map v.small v.permutes k c
      (family_subcubes f s.n k h c (choice-free f s.n k (free_label s j) v.small c t e).0)

  below : (x : ℕ) → x < 2 ^ s.n → x < 1024
  below x l = lt_of_lt_of_le l (pow_mono {i = s.n} {j = 10} v.small)

  pub lowest_of : {ds : List ℕ} → ds ≡ s.map → {low stars : ℕ} → low ≡ node ds c.low.0 → stars ≡ node ds c.stars → LowestOf stars low
  lowest_of ed el es =
      rw (el, es, ed) (record {
        stars_below = below (node s.map c.stars) member.stars_below;
        low_below = below (node s.map c.low.0) member.low_below;
        lowest = member.lowest;
      })
