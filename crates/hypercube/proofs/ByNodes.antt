-- Each job's nodes are a subcube exactly where the nodes, one by one, are right. Assumes nothing.
use Prim.Native.Nat.{ℕ, ◌^◌, ◌<◌, ◌≤◌}
use mathlib.Core.Path.{◌≡◌, refl, sym, ap, ◌∙◌, subst}
use mathlib.Core.Logic.{◌↔◌, ◌≢◌, inl, inr, ⊎_elim, by_cases}
use native.Mathlib.Omega.{arith}
use native.Mathlib.Decide.{ℕ_discrete, dec_lt}
use lib.Bits.{bit_and, bit_xor}
use Rattle.hypercube.specs.Bits.{width, bit}
use Rattle.hypercube.specs.Lists.{In}
use Rattle.hypercube.specs.Subcubes.{vertices}
use Rattle.hypercube.specs.Formed.{formed}
use Rattle.hypercube.specs.ByNodes.{base, lower, next, like, lowest, alone, whole, formed_by_nodes}
use Rattle.hypercube.proofs.Bits.{bit_high, bit-xor, bit-zero, bits_equal, in_width}
use Rattle.hypercube.proofs.StarBits.{base_star, base_other, base_starless, base_below, base_is, base_own}
use Rattle.hypercube.proofs.Next.{Made, made_and, all_reached, next_at, by_base, next_below, next_other}
use Rattle.hypercube.proofs.Vertices.{Fixed, Outside, in_vertices, vertices_in}
use Rattle.hypercube.proofs.Formed.{Forms, forms_below, forms-base, formed_is}

module _ (n : ℕ) (f v : ℕ → ℕ) (small : n ≤ width) where
  -- a bit that is no star of the cube's is none of s
  outside : (s i : ℕ) → s < 2 ^ n → Outside width s i → bit s i ≡ 0
  outside s i l = ⊎_elim (bit_high s width i (in_width n s small l)) (λ z. z)

  -- ---- from the nodes to the subcube

  module _ (T : (formed_by_nodes n f v).Met) where
    -- what is known of a held node
    record Right (x : ℕ) : Type 0 where
      stars_below : v x < 2 ^ n
      goes_on : (like f v x (next x (v x))).Met

    right : (x : ℕ) → x < 2 ^ n → f x ≢ 0 → Right x
    right x l held = ⊎_elim (λ z. absurd (held z)) (λ h. record { stars_below = h.0; goes_on = h.1 }) (T.0 x l)

    -- two lowest nodes of a job are one
    not_before : (x y : ℕ) → y < 2 ^ n → f y ≢ 0 → f x ≡ f y → (lowest f v x).Met → (lowest f v y).Met → ¬ (x < y)
    not_before x y l held e a b less = ⊎_elim (λ z. held z) (λ h. ⊎_elim (λ d. d b) (λ d. d (x, less, (a, e))) h) (T.1 y l)

    one_lowest : (x y : ℕ) → x < 2 ^ n → y < 2 ^ n → f y ≢ 0 → f x ≡ f y → (lowest f v x).Met → (lowest f v y).Met → x ≡ y
    one_lowest x y lx ly held e a b = go (dec_lt x y) (dec_lt y x)
      where
        go : Dec (x < y) → Dec (y < x) → x ≡ y
        go (yes l) d = absurd (not_before x y ly held e a b l)
        go (no g) (yes l) = absurd (not_before y x lx (λ z. held (sym e ∙ z)) (sym e) b a l)
        go (no g) (no k) = omega arith

    -- of x's subcube, the node with star bits m has x's holder and x's star bits
    module _ (x : ℕ) (l : x < 2 ^ n) (held : f x ≢ 0) where
      abbrev b : ℕ
      b = base x (v x)

      Its : ℕ → Type 0
      Its m = (bit_xor b m < 2 ^ n) × ((f (bit_xor b m) ≡ f x) × (v (bit_xor b m) ≡ v x))

      step : (t : ℕ) → Made (v x) t → Its t → Its (lower t (v x))
      unfolding Its
      step t made h =
          let z = bit_xor b t in
          let R = right z h.0 (λ e. held (sym h.1.0 ∙ e)) in
          let stars : v z ≡ v x = h.1.1 in
          let is : next z (v z) ≡ bit_xor b (lower t (v x)) = ap (next z) stars ∙ next_at b (v x) t (base_starless x (v x)) made in (
            subst (λ (y : ℕ). y < 2 ^ n) is (next_below n z (v z) h.0 R.stars_below),
            (ap f (sym is) ∙ R.goes_on.0 ∙ h.1.0, ap v (sym is) ∙ R.goes_on.1 ∙ stars),
          )

      its : (m : ℕ) → Made (v x) m → Its m
      unfolding Its
      its m made =
          all_reached (v x) Its step (bit_and x (v x)) m (made_and (v x) x) made (rw (by_base x (v x)) (l, (refl, refl)))

      -- its lowest, and one with the lowest's fixed bits
      at_base : (f b ≡ f x) × (v b ≡ v x)
      unfolding Its
      at_base =
          let zero : bit_xor b 0 ≡ b = bits_equal (bit_xor b 0) b (λ i. bit-xor b 0 i ∙ omega (arith, bit-zero i)) in
          let h = its 0 (made_and (v x) 0) in
          (ap f (sym zero) ∙ h.1.0, ap v (sym zero) ∙ h.1.1)

      vertex : (y : ℕ) → In y (vertices width (v x) b) → (f y ≡ f x) × (v y ≡ v x)
      unfolding Its
      vertex y m =
          let same : base y (v x) ≡ b =
          base_is y (v x) b (base_star x (v x)) (λ i z. in_vertices width (v x) b y (λ k b. base_star x (v x) k) m i (inr z)) in
          let is : bit_xor b (bit_and y (v x)) ≡ y = ap (λ (c : ℕ). bit_xor c (bit_and y (v x))) (sym same) ∙ by_base y (v x) in
          let h = its (bit_and y (v x)) (made_and (v x) y) in
          (ap f (sym is) ∙ h.1.0, ap v (sym is) ∙ h.1.1)

    forms_of : (x : ℕ) → x < 2 ^ n → f x ≢ 0 → Forms n f v (f x)
    forms_of x l held = record {
      low = base x (v x);
      stars = v x;
      is_subcube = record {
        low_below = base_below n x (v x) l;
        stars_below = (right x l held).stars_below;
        dimension = refl;
        lowest = base_star x (v x);
      };
      exactly = λ y k. (λ m. (vertex x l held y m).0, λ e. inside y k e);
      starred = λ y k e. (vertex x l held y (inside y k e)).1;
    }
      where
        inside : (y : ℕ) → y < 2 ^ n → f y ≡ f x → In y (vertices width (v x) (base x (v x)))
        inside y k e =
            let held_y : f y ≢ 0 = λ z. held (sym e ∙ z) in
            let X = at_base x l held in
            let Y = at_base y k held_y in
            let bottom : (z : ℕ) → v (base z (v z)) ≡ v z → (lowest f v (base z (v z))).Met = λ z q. rw q (base_starless z (v z)) in
            let same : base y (v y) ≡ base x (v x) =
            one_lowest (base y (v y)) (base x (v x)) (base_below n y (v y) k) (base_below n x (v x) l) (λ z. held (sym X.0 ∙ z))
            (Y.0 ∙ e ∙ sym X.0) (bottom y Y.1) (bottom x X.1) in
            let stars : v y ≡ v x = sym Y.1 ∙ ap v same ∙ X.1 in
            vertices_in width (v x) (base x (v x)) y (λ i b. base_star x (v x) i) (λ i o.
            let z : bit (v y) i ≡ 0 = ap (λ (u : ℕ). bit u i) stars ∙ outside (v x) i (right x l held).stars_below o in
            sym (base_other y (v y) i z) ∙ ap (λ (u : ℕ). bit u i) same)

  -- ---- from the subcubes to the nodes

  module _ (G : (x : ℕ) → x < 2 ^ n → f x ≢ 0 → Forms n f v (f x)) (x : ℕ) (l : x < 2 ^ n) (held : f x ≢ 0) where
    abbrev F : Forms n f v (f x)
    F = G x l held

    mine : v x ≡ F.stars
    mine = F.starred x l refl

    -- a lowest node of the job is the subcube's
    is_low : (y : ℕ) → y < 2 ^ n → f y ≡ f x → (lowest f v y).Met → y ≡ F.low
    is_low y k e a = sym (base_own y F.stars (ap (bit_and y) (sym (F.starred y k e)) ∙ a)) ∙ forms-base n f v F y k e

    whole_of : (whole n f v x).Met
    whole_of =
        let fixed : Fixed width F.stars F.low = λ k b. F.is_subcube.lowest k in
        let m : In (next x (v x)) (vertices width F.stars F.low) =
        vertices_in width F.stars F.low (next x (v x)) fixed (λ i o.
        let z : bit (v x) i ≡ 0 = ap (λ (u : ℕ). bit u i) mine ∙ outside F.stars i F.is_subcube.stars_below o in
        next_other x (v x) i z ∙ in_vertices width F.stars F.low x fixed ((F.exactly x l).1 refl) i o) in
        let k = forms_below n f v F (next x (v x)) m in
        let e = (F.exactly (next x (v x)) k).0 m in
        inr (rw mine F.is_subcube.stars_below, (e, F.starred (next x (v x)) k e ∙ sym mine))

    alone_of : (alone f v x).Met
    alone_of =
        inr
        (by_cases (ℕ_discrete (bit_and x (v x)) 0)
        (λ a. inr (λ t. omega (arith, is_low x l refl a, is_low t.0 (omega (arith, t.1, l)) t.2.1 t.2.0, t.1))) inl)

  pub by_nodes_lem : (formed_by_nodes n f v).Met ↔ (formed n f v).Met
  by_nodes_lem = (
    λ T. (formed_is n f v).1 (forms_of T),
    λ h.
        let G = (formed_is n f v).0 h in
        (λ x l. by_cases (ℕ_discrete (f x) 0) inl (whole_of G x l), λ x l. by_cases (ℕ_discrete (f x) 0) inl (alone_of G x l)),
  )
