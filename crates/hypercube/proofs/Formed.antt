-- That a job's nodes are a subcube, as facts of it. Assumes nothing.
use Prim.Native.Nat.{ℕ, ◌^◌, ◌<◌, ◌≤◌}
use mathlib.Core.Path.{◌≡◌, refl, sym, ◌∙◌}
use mathlib.Core.Logic.{◌↔◌, ◌≢◌, ◌⊎◌, inl, inr, ⊎_elim, by_cases}
use native.Mathlib.Decide.{ℕ_discrete}
use Rattle.hypercube.specs.Bits.{width, bit, ones}
use Rattle.hypercube.specs.Lists.{In}
use Rattle.hypercube.specs.Subcubes.{subcube, vertices, IsSubcube}
use Rattle.hypercube.specs.Formed.{forms, formed}
use Rattle.hypercube.specs.ByNodes.{base}
use Rattle.hypercube.proofs.StarBits.{starless, base_is}
use Rattle.hypercube.proofs.Vertices.{in_vertices, vertices_below}

module _ (n : ℕ) (f v : ℕ → ℕ) where
  -- job j's nodes are exactly those of a subcube of the cube, and each of them stores its star bits
  pub record Forms (j : ℕ) : Type 0 where
    pub low : ℕ
    pub stars : ℕ
    pub is_subcube : IsSubcube n (ones n stars) (subcube low stars)
    pub exactly : (x : ℕ) → x < 2 ^ n → In x (vertices width stars low) ↔ (f x ≡ j)
    pub starred : (x : ℕ) → x < 2 ^ n → f x ≡ j → v x ≡ stars

  module _ {j : ℕ} (F : Forms j) where
    pub forms_below : (x : ℕ) → In x (vertices width F.stars F.low) → x < 2 ^ n
    forms_below x m =
        let I = F.is_subcube in
        vertices_below n width F.stars F.low x I.stars_below I.low_below (λ i l. I.lowest i) m

    -- each of its nodes, without the star bits, is the lowest
    pub forms-base : (x : ℕ) → x < 2 ^ n → f x ≡ j → base x F.stars ≡ F.low
    forms-base x l e =
        let I = F.is_subcube in
        base_is x F.stars F.low I.lowest
        (λ i z. in_vertices width F.stars F.low x (λ k b. I.lowest k) ((F.exactly x l).1 e) i (inr z))

    forms_met : (forms n f v j F.low F.stars).Met
    forms_met = (
      (starless F.low F.stars).1 F.is_subcube.lowest,
      (
        λ x m. let l = forms_below x m in let e = (F.exactly x l).0 m in (l, (e, F.starred x l e)),
        λ x l. by_cases (ℕ_discrete (f x) j) (λ e. inr ((F.exactly x l).1 e)) inl,
      ),
    )

  met_forms : (j b s : ℕ) → b < 2 ^ n → s < 2 ^ n → (forms n f v j b s).Met → Forms j
  met_forms j b s lb ls m = record {
    low = b;
    stars = s;
    is_subcube = record { low_below = lb; stars_below = ls; dimension = refl; lowest = (starless b s).0 m.0 };
    exactly = λ x l. (λ i. (m.1.0 x i).1.0, inside x l);
    starred = λ x l e. (m.1.0 x (inside x l e)).1.1;
  }
    where
      inside : (x : ℕ) → x < 2 ^ n → f x ≡ j → In x (vertices width s b)
      inside x l e = ⊎_elim (λ d. absurd (d e)) (λ i. i) (m.1.1 x l)

  -- so it is of every job that holds a node
  pub formed_is : (formed n f v).Met ↔ ((x : ℕ) → x < 2 ^ n → f x ≢ 0 → Forms (f x))
  formed_is = (
    λ h x l held. ⊎_elim (λ z. absurd (held z)) (λ m. met_forms (f x) m.0 m.2.0 m.1 m.2.1 m.2.2) (h x l),
    λ h x l. by_cases (ℕ_discrete (f x) 0) inl (λ held. inr (
        let F = h x l held in
        (F.low, F.is_subcube.low_below, (F.stars, F.is_subcube.stars_below, forms_met F))
        )),
  )
