-- How many numbers below N pass a test: one at most, some, without those of a list, and after a one-to-one map. Assumes nothing.
use Prim.Native.Nat.{ℕ, zero, suc, ◌+◌, ◌<◌, ◌≤◌}
use mathlib.Core.Logic.{◌↔◌, inl, inr}
use mathlib.Core.Path.{◌≡◌, refl, sym, ap, ◌∙◌, subst}
use mathlib.Core.Bool.{Bool, true, false, cond, not, ◌&&◌, and-true, and-false, true≢false}
use mathlib.Core.List.{List, [], ◌∷◌, map}
use native.Mathlib.Omega.{arith}
use borrow.Author.Tests.{eq-eqb, ne_eqb}
use lib.ListN.{length, length-map}
use Rattle.hypercube.specs.Lists.{In, Distinct, only, passing, among, count_below}
use Rattle.hypercube.specs.Conditions.{means_among}
use Rattle.hypercube.specs.Tests.{cases, refutes}
use Rattle.hypercube.proofs.Lists.{OneToOne, in_map, of_map, in_passing, length_sum, distinct_map, distinct_passing}
use Rattle.hypercube.proofs.Pigeonhole.{reaches, distinct_length}
use Rattle.hypercube.proofs.Below.{count_same}
use Rattle.hypercube.proofs.MaximalCount.{only_length, count_tally}
use Rattle.history.proofs.Counting.{none_below, count_one}
use Rattle.best_fit.proofs.Counts.{none_counted}

-- ---- one at most, and some

pub count_unique : (N : ℕ) (p : ℕ → Bool) → ((x y : ℕ) → p x ≡ true → p y ≡ true → x ≡ y) → count_below N p ≤ 1
unfolding count_below
count_unique zero p h = omega arith
count_unique (suc N) p h = cases (p N) (λ t. rw (t, none t) (omega arith)) (λ t. rw t (omega (arith, count_unique N p h)))
  where
    below : p N ≡ true → (x : ℕ) → x < N → p x ≡ false
    below t x l = cases (p x) (λ s. let e : x ≡ N = h x N s t in absurd (omega arith)) (λ s. s)

    none : p N ≡ true → count_below N p ≡ 0
    none t = count_same N p (λ x. false) (below t) ∙ none_below N

pub some_counted : (N : ℕ) (p : ℕ → Bool) (x : ℕ) → x < N → p x ≡ true → 1 ≤ count_below N p
some_counted N p x l t =
    let no : ¬ (count_below N p ≡ 0) = λ z. true≢false (sym t ∙ none_counted p N z x l) in
    omega arith

pub counted_some : (N : ℕ) (p : ℕ → Bool) → 1 ≤ count_below N p → (x : ℕ) × (x < N) × (p x ≡ true)
unfolding count_below
counted_some zero p h = absurd (omega arith)
counted_some (suc N) p h =
    cases (p N) (λ t. (N, omega arith, t))
    (λ t. let r = counted_some N p (omega (arith, rw t at h)) in (r.0, omega (arith, r.1), r.2))

-- ---- without the entries of a list

pub count_without : (N : ℕ) (p : ℕ → Bool) (xs : List ℕ) → Distinct xs → ((x : ℕ) → In x xs → (x < N) × (p x ≡ true))
    → count_below N (λ y. p y && not (among y xs)) + length xs ≡ count_below N p
unfolding among
count_without N p [] d h = omega (arith, count_same N (λ y. p y && true) p (λ y l. and-true (p y)))
count_without N p (x ∷ xs) d h =
    let ih = count_without N p xs d.1 (λ y i. h y (inr i)) in
    let apart : among x xs ≡ false = refutes (means_among x xs) d.0 in
    let now : p x && not (among x (x ∷ xs)) ≡ false = rw (eq-eqb x x refl) (and-false (p x)) in
    let was : p x && not (among x xs) ≡ true = rw (apart, (h x (inl refl)).1) in
    let one = count_one N (λ y. p y && not (among y (x ∷ xs))) (λ y. p y && not (among y xs)) x (h x (inl refl)).0 now was
    (λ y ne. rw (ne_eqb y x ne)) in
    omega (arith, one, ih)

-- ---- after a one-to-one map of the numbers below N

length-passing : (p : ℕ → Bool) (N : ℕ) → length (passing p N) ≡ count_below N p
length-passing p N = length_sum (λ x. only (p x) x) (λ x. cond (p x) 1 0) (λ x. only_length (p x) x) N 0 ∙ sym (count_tally p N)

module _ (N : ℕ) (m : ℕ → ℕ) (into : (x : ℕ) → x < N → m x < N) (once : OneToOne N m) (p : ℕ → Bool) where
  abbrev before : List ℕ
  before = passing (λ x. p (m x)) N

  same_entries : (y : ℕ) → In y (map m before) ↔ In y (passing p N)
  same_entries y = (
    λ i.
        let r = of_map m y before i in
        let q = (in_passing (λ x. p (m x)) N r.0).0 r.1 in
        subst (λ (v : ℕ). In v (passing p N)) (sym r.2) ((in_passing p N (m r.0)).1 (into r.0 q.0, q.1)),
    λ i.
        let q = (in_passing p N y).0 i in
        let r = reaches N m into once y q.0 in
        subst (λ (v : ℕ). In v (map m before)) r.2
        (in_map m r.0 before ((in_passing (λ x. p (m x)) N r.0).1 (r.1, ap p r.2 ∙ q.1))),
  )

  images : Distinct (map m before)
  images =
      let below : (x : ℕ) → In x before → x < N = λ x i. ((in_passing (λ x. p (m x)) N x).0 i).0 in
      distinct_map m before (λ x y i j. once x y (below x i) (below y j)) (distinct_passing (λ x. p (m x)) N)

  pub count_permuted : count_below N (λ x. p (m x)) ≡ count_below N p
  count_permuted =
      sym (length-passing (λ x. p (m x)) N) ∙ sym (length-map before m)
      ∙ distinct_length (map m before) (passing p N) images (distinct_passing p N) same_entries
      ∙ length-passing p N
