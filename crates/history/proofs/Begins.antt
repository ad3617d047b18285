-- Where a list may begin, holders and star bits are those of the subcubes held there; and where a list ends, another may begin. Assumes nothing.
use mathlib.Core.Path.{◌≡◌, refl, sym, ap₂, ◌∙◌, subst}
use mathlib.Core.Logic.{inl, inr, ◌↔◌, ◌≢◌, ⊎_elim, by_cases}
use mathlib.Core.List.{List, [], ◌∷◌, map}
use mathlib.Core.Option.{none-ne-some}
use Prim.Native.Nat.{ℕ, ◌^◌, ◌<◌, ◌≤◌}
use native.Mathlib.Omega.{arith}
use native.Mathlib.Decide.{ℕ_discrete}
use Rattle.hypercube.specs.Bits.{width, ones}
use Rattle.hypercube.specs.Lists.{In, Distinct, passing}
use Rattle.hypercube.specs.Subcubes.{subcube, vertices, IsSubcube}
use Rattle.hypercube.specs.Formed.{formed}
use Rattle.hypercube.proofs.Bits.{lt_or}
use Rattle.hypercube.proofs.Lists.{in_map, of_map, in_passing, distinct_passing}
use Rattle.hypercube.proofs.Vertices.{lowest_in, lowest_le}
use Rattle.hypercube.proofs.Formed.{Forms, forms_below, formed_is}
use Rattle.history.specs.Account.{History}
use Rattle.history.specs.Held.{Held, nodes, leads, held_from, held_before}
use Rattle.history.specs.Calls.{Log}
use Rattle.history.specs.Verdicts.{after}
use Rattle.history.specs.Claims.{Begins, HeldRight}
use Rattle.history.proofs.Holders.{Apart, value_of, unheld, value_is}
use Rattle.history.proofs.Grants.{Fair, Kept}

-- subcubes of nodes that are apart two by two
apart_map : (g : ℕ → Held) (xs : List ℕ) → Distinct xs
    → ((x y : ℕ) → In x xs → In y xs → x ≢ y → ((g y).holder ≢ (g x).holder) × ((z : ℕ) → In z (nodes (g x)) → ¬ In z (nodes (g y))))
    → Apart (map g xs)
apart_map g [] d h = tt
apart_map g (x ∷ xs) d h = (
  λ k i.
      let r = of_map g k xs i in
      subst (λ (k : Held). (k.holder ≢ (g x).holder) × ((z : ℕ) → In z (nodes (g x)) → ¬ In z (nodes k))) (sym r.2)
      (h x r.0 (inl refl) (inr r.1) (λ e. d.0 (subst (λ (y : ℕ). In y xs) (sym e) r.1))),
  apart_map g xs d.1 (λ x y i j. h x y (inr i) (inr j)),
)

module _ (n : ℕ) (s : History) (small : n ≤ 10) (B : Begins n s) where
  abbrev leading : List ℕ
  leading = passing (λ x. (leads s x).test) (2 ^ n)

  formed_at : (x : ℕ) → x < 2 ^ n → s.holder x ≢ 0 → Forms n s.holder s.stars (s.holder x)
  formed_at = (formed_is n s.holder s.stars).0 B.formed

  inside : (x : ℕ) → s.holder x ≢ 0 → x < 2 ^ n
  inside x held = ⊎_elim (λ l. l) (λ g. absurd (held (B.bounded.no_holders x g))) (lt_or x (2 ^ n))

  -- ---- a node that leads

  record Leading (x : ℕ) : Type 0 where
    below : x < 2 ^ n
    leads : (leads s x).Met
    its : (y : ℕ) → In y (nodes (held_from s x)) ↔ (s.holder y ≡ s.holder x)
    same : (y : ℕ) → s.holder y ≡ s.holder x → s.stars y ≡ s.stars x
    fair : Fair n s (held_from s x)

  leading_at : (x : ℕ) → In x leading → Leading x
  leading_at x i =
      let p = (in_passing (λ x. (leads s x).test) (2 ^ n) x).0 i in
      let h = (leads s x).means.holds p.1 in
      let F = formed_at x p.0 h.0 in
      let at_low : s.holder F.low ≡ s.holder x = (F.exactly F.low F.is_subcube.low_below).0 (lowest_in width F.stars F.low) in
      let le : F.low ≤ x = lowest_le width F.stars F.low x ((F.exactly x p.0).1 refl) in
      let not_less : ¬ (F.low < x) = λ l. h.1 F.low l at_low in
      let is_low : F.low ≡ x = omega arith in
      let is_stars : F.stars ≡ s.stars x = sym (F.starred x p.0 refl) in
      let theirs : vertices width F.stars F.low ≡ nodes (held_from s x) = ap₂ (vertices width) is_stars is_low in
      record {
        below = p.0;
        leads = h;
        its = λ y. (
          λ m. let k = subst (In y) (sym theirs) m in (F.exactly y (forms_below n s.holder s.stars F y k)).0 k,
          λ e. subst (In y) theirs ((F.exactly y (inside y (λ z. h.0 (sym e ∙ z)))).1 e),
        );
        same = λ y e. F.starred y (inside y (λ z. h.0 (sym e ∙ z))) e ∙ is_stars;
        fair = record {
          job-set = h.0;
          is_subcube = subst (λ (b : ℕ). IsSubcube n (ones n (s.stars x)) (subcube b (s.stars x))) is_low
              (subst (λ (t : ℕ). IsSubcube n (ones n t) (subcube F.low t)) is_stars F.is_subcube);
          was_good = λ b e. absurd (none-ne-some b e);
          from_before = λ e. in_map (held_from s) x leading i;
        };
      }

  of_held : (g : Held) → In g (held_before n s) → (x : ℕ) × Leading x × (g ≡ held_from s x)
  of_held g i = let r = of_map (held_from s) g leading i in (r.0, leading_at r.0 r.1, r.2)

  -- two of them have different jobs
  jobs-differ : (x y : ℕ) → Leading x → Leading y → x ≢ y → s.holder y ≢ s.holder x
  jobs-differ x y X Y ne e =
      ⊎_elim (λ l. Y.leads.1 x l (sym e)) (λ g. X.leads.1 y (omega arith) e) (lt_or x y)

  leading_apart : Apart (held_before n s)
  leading_apart = apart_map (held_from s) leading (distinct_passing (λ x. (leads s x).test) (2 ^ n)) (λ x y i j ne.
      let X = leading_at x i in
      let Y = leading_at y j in
      (jobs-differ x y X Y ne, λ z a b. jobs-differ x y X Y ne (sym ((Y.its z).0 b) ∙ (X.its z).0 a)))

  -- ---- a value that is 0 at unheld nodes, and the same at all nodes of a job

  valued : (v : Held → ℕ) (f : ℕ → ℕ) → ((x : ℕ) → v (held_from s x) ≡ f x) → ((x : ℕ) → s.holder x ≡ 0 → f x ≡ 0)
      → ((x y : ℕ) → Leading x → s.holder y ≡ s.holder x → f y ≡ f x) → (x : ℕ) → f x ≡ value_of v (held_before n s) x
  valued v f reads none_held same x = by_cases (ℕ_discrete (s.holder x) 0) free taken
    where
      free : s.holder x ≡ 0 → f x ≡ value_of v (held_before n s) x
      free z = none_held x z ∙ sym (unheld v (held_before n s) x (λ g i m.
          let r = of_held g i in
          r.1.leads.0 (sym ((r.1.its x).0 (subst (λ (k : Held). In x (nodes k)) r.2 m)) ∙ z)))

      taken : s.holder x ≢ 0 → f x ≡ value_of v (held_before n s) x
      taken held =
          let F = formed_at x (inside x held) held in
          let low = F.is_subcube.low_below in
          let at_low : s.holder F.low ≡ s.holder x = (F.exactly F.low low).0 (lowest_in width F.stars F.low) in
          let first : (leads s F.low).Met = (
            λ z. held (sym at_low ∙ z),
            λ y l e.
                omega (arith, l, lowest_le width F.stars F.low y ((F.exactly y (omega (arith, l, low))).1 (e ∙ at_low))),
          ) in
          let i : In F.low leading = (in_passing (λ x. (leads s x).test) (2 ^ n) F.low).1 (low, (leads s F.low).means.shows first) in
          let L = leading_at F.low i in
          sym (value_is v (held_before n s) leading_apart (held_from s F.low) (in_map (held_from s) F.low leading i) x ((L.its x).1 (sym at_low))
          ∙ reads F.low ∙ sym (same F.low x L (sym at_low)))

  pub begins_kept : Kept n s s.holder s.stars (held_before n s)
  begins_kept = record {
    fair = λ g i. let r = of_held g i in subst (Fair n s) (sym r.2) r.1.fair;
    apart = leading_apart;
    holders = valued (λ g. g.holder) s.holder (λ x. refl) (λ x z. z) (λ x y L e. e);
    stars = valued (λ g. g.stars) s.stars (λ x. refl) B.bounded.unstarred (λ x y L e. L.same y e);
  }

-- each job's nodes are the subcube that is held
pub held-formed : (n : ℕ) (s : History) (l : Log) (gs : List Held) → HeldRight n s l gs → (formed n (after n s l).holder (after n s l).stars).Met
held-formed n s l gs H = (formed_is n (after n s l).holder (after n s l).stars).1 (λ x b held.
    let r = H.all_of_them x held in
    let g = r.0 in
    let job : (after n s l).holder x ≡ g.holder = (H.theirs g r.1 x).0 r.2 in
    record {
      low = g.low;
      stars = g.stars;
      is_subcube = H.subcubes g r.1;
      exactly = λ y k. (λ m. (H.theirs g r.1 y).0 m ∙ sym job, λ e. (H.theirs g r.1 y).1 (e ∙ job));
      starred = λ y k e. H.starred g r.1 y ((H.theirs g r.1 y).1 (e ∙ job));
    })
