-- Flags read and put in pairs: an even label's and the next one's. Assumes nothing.
use Prim.Native.Nat.{ℕ, zero, suc, ◌+◌, ◌-◌, ◌*◌, ◌/◌, ◌%◌, ◌^◌, ◌<◌, ◌≤◌}
use mathlib.Core.Path.{◌≡◌, refl, sym, ap, ◌∙◌}
use mathlib.Core.Logic.{⊎_elim}
use mathlib.Core.List.{List}
use native.Mathlib.Nat.{pow-succ'}
use native.Mathlib.Omega.{arith}
use lib.ListN.{length, get_or, replicate, length-replicate, get_or-replicate}
use lib.Pow.{pow-add}
use Rattle.hypercube.specs.Labels.{node}
use Rattle.hypercube.specs.declared.Node.{Node}
use Rattle.hypercube.proofs.Bits.{lt_or}
use Rattle.hypercube.proofs.Filled.{Swept}
use Rattle.labels.specs.Directions.{Directions}
use Rattle.labels.specs.Flags.{numbered, nodes_from, EmptyFrom, moved_at, by_label, Paired, even_from, pair_from, PairsPut}
use Rattle.labels.proofs.Directions.{node_small}
use Rattle.labels.proofs.Doubling.{node_sum, node-zero, node_from}
use Rattle.labels.proofs.Flags.{swept_empty}

-- ---- the pairs, of which the first i are made; the others are 0

pub record PairedTo (step : ℕ) (fs : List ℕ) (i : ℕ) (ps : List ℕ) : Type 0 where
  pub long : length ps ≡ 1024
  pub first : (k : ℕ) → k < i → get_or ps k 0 % 256 ≡ get_or fs k 0
  pub second : (k : ℕ) → k < i → get_or ps k 0 / 256 ≡ get_or fs (k + step) 0
  pub rest : (k : ℕ) → i ≤ k → k < 1024 → get_or ps k 0 ≡ 0

pub paired_none : (step : ℕ) (fs : List ℕ) → PairedTo step fs 0 (replicate 1024 0)
paired_none step fs = record {
  long = length-replicate {A = ℕ} 1024 0;
  first = λ k b. absurd (omega arith);
  second = λ k b. absurd (omega arith);
  rest = λ k g b. get_or-replicate {A = ℕ} 1024 k 0 0 b;
}

-- ---- pairs put

module _ {pair : ℕ → ℕ} {at c : ℕ} {old new : List ℕ} (t : PairsPut pair at c old new) where
  -- what the pairs say is what was meant
  pub put_swept : {f : ℕ → ℕ} {hs : List ℕ} → Swept f 0 hs at old → ((l : ℕ) → l < c → pair l % 256 ≡ f (at + 2 * l))
      → ((l : ℕ) → l < c → pair l / 256 ≡ f (at + 2 * l + 1)) → Swept f 0 hs (at + 2 * c) new
  put_swept {f} S even odd = record {
    filled = record {
      long = t.entries ∙ S.filled.long;
      front = λ k b.
          ⊎_elim (λ q. t.before k q ∙ S.filled.front k q)
          (λ g.
          let l = (k - at) / 2 in
          ⊎_elim
          (λ z.
          let e : k ≡ at + 2 * l = omega arith in
          let q : l < c = omega arith in
          ap (λ (x : ℕ). get_or new x 0) e ∙ t.first l q ∙ even l q ∙ ap f (sym e))
          (λ o.
          let e : k ≡ at + 2 * l + 1 = omega arith in
          let q : l < c = omega arith in
          ap (λ (x : ℕ). get_or new x 0) e ∙ t.second l q ∙ odd l q ∙ ap f (sym e))
          (lt_or ((k - at) % 2) 1))
          (lt_or k at);
    };
    rest = λ k g. t.after k g ∙ S.rest k (omega arith);
  }

-- ---- a row of labels from `at` on: their nodes are the node `base` of `at` and the lowest labels' nodes

pub record Row (ds fs ps : List ℕ) (ns : List Node) (base at : ℕ) : Type 0 where
  pub directions : Directions ds
  pub lowest : ns ≡ nodes_from 0 ds
  pub paired : Paired (get_or ns 1 (numbered 0)).0 fs ps
  pub sums : (i : ℕ) → i < 32 → node ds (at + i) ≡ base + node ds i

module _ {ds fs ps : List ℕ} {ns : List Node} {base at : ℕ} (r : Row ds fs ps ns base at) where
  lowest-node : (l : ℕ) → l < 32 → (get_or ns l (numbered 0)).0 ≡ node ds l
  lowest-node l b =
      let e : l * 2 ^ 0 ≡ l = omega arith in
      rw r.lowest (node_from ds 0 l b ∙ ap (node ds) e)

  even : (l : ℕ) → l < 16 → even_from base ns l ≡ node ds (at + 2 * l)
  even l b = omega (arith, r.sums (2 * l) (omega arith), lowest-node (2 * l) (omega arith))

  odd : (l : ℕ) → l < 16 → even_from base ns l + (get_or ns 1 (numbered 0)).0 ≡ node ds (at + 2 * l + 1)
  odd l b =
      let e : l * 2 ^ 1 ≡ 2 * l = omega arith in
      let s = rw e at (node_sum ds 1 l 1 (omega arith)) in
      let a : at + (2 * l + 1) ≡ at + 2 * l + 1 = omega arith in
      omega (arith, r.sums (2 * l + 1) (omega arith), ap (node ds) a, s, lowest-node (2 * l) (omega arith), lowest-node 1 (omega arith))

  pub even_below : (l : ℕ) → l < 16 → even_from base ns l < 1024
  even_below l b = rw (even l b) (node_small 0 (at + 2 * l) r.directions)

  odd_below : (l : ℕ) → l < 16 → even_from base ns l + (get_or ns 1 (numbered 0)).0 < 1024
  odd_below l b = rw (odd l b) (node_small 0 (at + 2 * l + 1) r.directions)

  pub row_swept : {c : ℕ} {old new : List ℕ} → c ≤ 16 → Swept (moved_at ds fs) 0 fs at old → PairsPut (pair_from ps base ns) at c old new
      → Swept (moved_at ds fs) 0 fs (at + 2 * c) new
  row_swept h S t =
      put_swept t S
      (λ l b.
      let q : l < 16 = omega arith in
      r.paired.first (even_from base ns l) (odd_below l q) ∙ ap (λ (x : ℕ). get_or fs x 0) (even l q))
      (λ l b.
      let q : l < 16 = omega arith in
      r.paired.second (even_from base ns l) (odd_below l q) ∙ ap (λ (x : ℕ). get_or fs x 0) (odd l q))

-- the lowest row, and that of 32 labels from 32 h on
module _ {ds fs ps : List ℕ} {ns : List Node} (D : Directions ds) (low : ns ≡ nodes_from 0 ds) (P : Paired (get_or ns 1 (numbered 0)).0 fs ps) where
  pub row-lowest : Row ds fs ps ns 0 0
  row-lowest = record { directions = D; lowest = low; paired = P; sums = λ i b. let e : 0 + i ≡ i = omega arith in omega (arith, ap (node ds) e) }

  pub row_of : {hs : List Node} → hs ≡ nodes_from 5 ds → (h : ℕ) → h < 32 → Row ds fs ps ns (get_or hs h (numbered 0)).0 (32 * h)
  row_of {hs} high h b = record {
    directions = D;
    lowest = low;
    paired = P;
    sums = λ i q.
        let e : h * 2 ^ 5 + i ≡ 32 * h + i = omega arith in
        let base : (get_or hs h (numbered 0)).0 ≡ node ds (h * 2 ^ 5) = rw high (node_from ds 5 h b) in
        omega (arith, node_sum ds 5 h i q, ap (node ds) e, base);
  }

-- label 0 stays
swept_first : (ds fs : List ℕ) {l : List ℕ} → Swept (moved_at ds fs) 0 fs 0 l → Swept (moved_at ds fs) 0 fs 1 l
swept_first ds fs S = record {
  filled = record {
    long = S.filled.long;
    front = λ k b.
        let e : k ≡ 0 = omega arith in
        S.rest k (omega arith) ∙ ap (λ (x : ℕ). get_or fs x 0) (rw e (sym (node-zero ds)));
  };
  rest = λ k g. S.rest k (omega arith);
}

-- all pairs of a cube are put: of a cube of one node none, and that node stays
pub pairs_all : (n : ℕ) (ds fs : List ℕ) {l : List ℕ} → EmptyFrom fs (2 ^ n) → {i : ℕ} → Swept (moved_at ds fs) 0 fs i l → i ≡ 2 * (2 ^ n / 2)
    → l ≡ by_label n ds fs
pairs_all zero ds fs E S e = swept_empty E (swept_first ds fs (rw e at S)) refl
pairs_all (suc n) ds fs E S e = swept_empty E S (omega (arith, pow-succ' 2 n))

-- all rows of a cube of 32 nodes or more are put
rows_whole : (n : ℕ) → 5 ≤ n → 32 * (2 ^ n / 32) ≡ 2 ^ n
rows_whole n h =
    let e : n ≡ 5 + (n - 5) = omega arith in
    let s : 2 ^ n ≡ 32 * 2 ^ (n - 5) = ap (λ (k : ℕ). 2 ^ k) e ∙ pow-add 2 5 (n - 5) in
    omega (arith, s)

pub rows_all : (n : ℕ) (ds fs : List ℕ) {l : List ℕ} → 5 ≤ n → EmptyFrom fs (2 ^ n) → {i : ℕ} → Swept (moved_at ds fs) 0 fs i l
    → i ≡ 32 * (2 ^ n / 32) → l ≡ by_label n ds fs
rows_all n ds fs h E S e = swept_empty E S (e ∙ rows_whole n h)
