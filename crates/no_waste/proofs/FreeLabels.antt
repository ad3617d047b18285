-- The labels of a cube whose nodes are free by the history: as many as free nodes, and what a grant leaves of both. Assumes nothing.
use Prim.Native.Nat.{ℕ, ◌+◌, ◌/◌, ◌^◌, ◌<◌, ◌≤◌}
use mathlib.Core.Logic.{◌≢◌, ⊎_elim}
use mathlib.Core.Path.{◌≡◌, sym, ap, ◌∙◌, subst}
use mathlib.Core.Bool.{Bool, true, false, cond, not, ◌&&◌, and-true, and-false}
use mathlib.Core.List.{List}
use native.Mathlib.Omega.{arith}
use borrow.Author.Tests.{lt-ltb, le-ltb, ne_eqb}
use lib.Dec.{eqb, ltb}
use lib.ListN.{length-map}
use Rattle.hypercube.specs.Lists.{In, Distinct, among, count_below}
use Rattle.hypercube.specs.Conditions.{means_among}
use Rattle.hypercube.specs.Labels.{node}
use Rattle.hypercube.specs.Subcubes.{labels, IsSubcube}
use Rattle.hypercube.specs.Families.{buddy_member}
use Rattle.hypercube.specs.Tests.{refutes}
use Rattle.hypercube.specs.declared.Subcube.{Subcube}
use Rattle.hypercube.specs.declared.Walk.TheVariants.{Found}
use Rattle.hypercube.proofs.Bits.{lt_or, in_width}
use Rattle.hypercube.proofs.Lists.{in_map, of_map, distinct_map}
use Rattle.hypercube.proofs.Labels.{node_below, node_injective}
use Rattle.hypercube.proofs.Levels.{in_block}
use Rattle.hypercube.proofs.Vertices.{length-labels, distinct_labels, labels_below}
use Rattle.hypercube.proofs.Below.{count_same}
use Rattle.history.specs.Account.{History, member_nodes}
use Rattle.history.specs.Verdicts.{give}
use Rattle.history.specs.Claims.{Bounded}
use Rattle.no_waste.specs.NoWaste.{free_to_any, free_nodes}
use Rattle.no_waste.proofs.CountBelow.{count_without, count_permuted}
use Rattle.no_waste.proofs.OneEach.{Inside, Less}

abbrev pub node_free : History → ℕ → Bool
node_free h x = (free_to_any h x).test

-- a label of the cube, and its node is free
abbrev pub free_labels : ℕ → History → ℕ → Bool
free_labels n h l = ltb l (2 ^ n) && node_free h (node h.directions l)

module _ (n : ℕ) (h : History) where
  pub inside : Inside n (free_labels n h)
  inside l b = rw (le-ltb l (2 ^ n) b)

  pub free_within : (l : ℕ) → l < 2 ^ n → free_labels n h l ≡ node_free h (node h.directions l)
  free_within l b = rw (lt-ltb l (2 ^ n) b)

module _ (n : ℕ) (small : n ≤ 10) (h : History) (B : Bounded n h) where
  abbrev node_of : ℕ → ℕ
  node_of = node h.directions

  pub node_within : (l : ℕ) → l < 2 ^ n → node_of l < 2 ^ n
  node_within = node_below n h.directions small B.permutes

  pub node_once : (l m : ℕ) → l < 2 ^ n → m < 2 ^ n → node_of l ≡ node_of m → l ≡ m
  node_once l m a b = node_injective n h.directions small B.permutes l m (in_width n l small a) (in_width n m small b)

  pub free_count : count_below (2 ^ n) (free_labels n h) ≡ free_nodes n h
  free_count =
      count_same (2 ^ n) (free_labels n h) (λ l. node_free h (node_of l)) (free_within n h)
      ∙ count_permuted (2 ^ n) node_of node_within node_once (node_free h)

  -- ---- what a grant of the member c to job j leaves, which held nothing

  module _ (j : ℕ) (set : j ≢ 0) (new : (x : ℕ) → h.holder x ≢ j) (k : ℕ) (c : Subcube) (t : ℕ) (S : IsSubcube n k c) where
    abbrev given : History
    given = give n h j (Found c t)

    abbrev nodes : List ℕ
    nodes = member_nodes h c

    pub holder_left : (x : ℕ) → given.holder x ≡ cond (among x nodes) j (h.holder x)
    holder_left x = rw (ne_eqb (h.holder x) j (new x))

    left : (x : ℕ) → node_free given x ≡ (node_free h x && not (among x nodes))
    left x = ap (λ (v : ℕ). eqb (h.condition x) 1 && eqb v 0) (holder_left x) ∙ go (among x nodes)
      where
        go : (b : Bool) → (eqb (h.condition x) 1 && eqb (cond b j (h.holder x)) 0) ≡ (node_free h x && not b)
        go true = rw (ne_eqb j 0 set, and-false (node_free h x)) (and-false (eqb (h.condition x) 1))
        go false = sym (and-true (node_free h x))

    -- by nodes: its size less
    distinct : Distinct nodes
    distinct =
        distinct_map node_of (labels c) (λ x y p q. node_once x y (labels_below n k c small S x p) (labels_below n k c small S y q))
        (distinct_labels n k c small S)

    pub count_left : ((x : ℕ) → In x nodes → node_free h x ≡ true) → free_nodes n given + 2 ^ k ≡ free_nodes n h
    count_left free =
        ap (λ (v : ℕ). v + 2 ^ k) (count_same (2 ^ n) (node_free given) (λ x. node_free h x && not (among x nodes)) (λ x _. left x))
        ∙ ap (λ (v : ℕ). count_below (2 ^ n) (λ x. node_free h x && not (among x nodes)) + v)
        (sym (length-map (labels c) node_of ∙ length-labels n k c small S))
        ∙ count_without (2 ^ n) (node_free h) nodes distinct (λ x i. (below x i, free x i))
      where
        below : (x : ℕ) → In x nodes → x < 2 ^ n
        below x i =
            let r = of_map node_of x (labels c) i in
            subst (λ (v : ℕ). v < 2 ^ n) (sym r.2) (node_within r.0 (labels_below n k c small S r.0 r.1))

    -- by labels: without its block
    pub labels_left : (a : ℕ) → k ≤ n → c ≡ buddy_member k a → Less (free_labels n h) (free_labels n given) k a
    labels_left a fits block = record {
      taken = taken;
      kept = λ l ne. ⊎_elim (λ b. kept l b ne) (λ g. inside n given l g ∙ sym (inside n h l g)) (lt_or l (2 ^ n));
    }
      where
        in_labels : (l : ℕ) → l / 2 ^ k ≡ a → In l (labels c)
        in_labels l e = subst (λ (m : Subcube). In l (labels m)) (sym block) ((in_block k a l (omega (arith, small))).1 e)

        of_labels : (l : ℕ) → In l (labels c) → l / 2 ^ k ≡ a
        of_labels l i = (in_block k a l (omega (arith, small))).0 (subst (λ (m : Subcube). In l (labels m)) block i)

        taken : (l : ℕ) → l / 2 ^ k ≡ a → free_labels n given l ≡ false
        taken l e =
            let x : ℕ = node_of l in
            let i : among x nodes ≡ true = (means_among x nodes).shows (in_map node_of l (labels c) (in_labels l e)) in
            let z : node_free given x ≡ false = left x ∙ ap (λ (b : Bool). node_free h x && not b) i ∙ and-false (node_free h x) in
            ap (λ (b : Bool). ltb l (2 ^ n) && b) z ∙ and-false (ltb l (2 ^ n))

        outside : (l : ℕ) → l < 2 ^ n → l / 2 ^ k ≢ a → ¬ In (node_of l) nodes
        outside l b ne i =
            let r = of_map node_of (node_of l) (labels c) i in
            let e : l ≡ r.0 = node_once l r.0 b (labels_below n k c small S r.0 r.1) r.2 in
            ne (of_labels l (subst (λ (v : ℕ). In v (labels c)) (sym e) r.1))

        kept : (l : ℕ) → l < 2 ^ n → l / 2 ^ k ≢ a → free_labels n given l ≡ free_labels n h l
        kept l b ne =
            let x : ℕ = node_of l in
            let o : among x nodes ≡ false = refutes (means_among x nodes) (outside l b ne) in
            ap (λ (f : Bool). ltb l (2 ^ n) && f) (left x ∙ ap (λ (b : Bool). node_free h x && not b) o ∙ and-true (node_free h x))
