-- A loading call that says 0 to all, one that says 18 to all, and one that tests star bits and not the nodes break demand 3. Assumes nothing.
use Prim.Native.Nat.{ℕ, ◌^◌, ◌<◌, ◌≤◌}
use mathlib.Core.Path.{◌≡◌, refl, sym, ap, ◌∙◌}
use mathlib.Core.Logic.{inl, inr, by_cases}
use mathlib.Core.Bool.{true}
use mathlib.Core.List.{List, []}
use native.Mathlib.Omega.{arith}
use native.Mathlib.Decide.{ℕ_discrete}
use lib.ListN.{length, get_or}
use Rattle.hypercube.specs.Bits.{width}
use Rattle.hypercube.specs.Lists.{In}
use Rattle.hypercube.specs.Subcubes.{vertices}
use Rattle.hypercube.proofs.Vertices.{lowest_le}
use Rattle.hypercube.proofs.Formed.{formed_is}
use Rattle.history.specs.Account.{fresh}
use Rattle.state.specs.declared.State.{State}
use Rattle.state.specs.States.{taken}
use Rattle.state.proofs.Valid.{taken-sized}
use Rattle.record.specs.Layout.{record_size, encode, decode, valid_record}
use Rattle.record.specs.Says.{dimension_of, says, formed_record}
use Rattle.record.proofs.Round.{sized-decode, decode-encode, decode_holder}
use Rattle.steps.proofs.Ways.{state_valid}
use Rattle.cube.specs.Called.{Program, setup_record}
use Rattle.cube.specs.Start.{set_up, loaded}
use Rattle.cube.specs.Run.{begin}
use Rattle.cube.specs.Demand3.{Recorded, Demand3}
use Rattle.cube.proofs.Theorem.{from_set_up}
use Rattle.weak.specs.Loads.{loading_by, passes_all, refuses_all, same_stars, stars_only, LoadedRecorded, LeftLoads, LoadedFormed, LoadsRefuted}
use Rattle.weak.proofs.Parts.{breaks, breaks_list}
use Rattle.weak.proofs.Holding.{dimension_of_lem}
use Rattle.weak.proofs.OneNode.{entry-given, entry_left, stays_valid}

differ : ◌≡◌ {A = ℕ} 0 1 → ⊥
differ e = omega arith

at_most : {x : ℕ} → x ≤ 0 → x ≡ 0
at_most l = omega arith

-- each part follows
loaded_recorded : (P : Program) (n : ℕ) (b : List ℕ) → Demand3 P → LoadedRecorded P n b
loaded_recorded P n b d r bytes passed =
    (d.lists (loaded r) (inr (record { lent = r; bytes = bytes; passed = passed; is = refl }))).recorded begin

loaded-formed : (P : Program) (n : ℕ) (b : List ℕ) → Demand3 P → LoadedFormed P n b
loaded-formed P n b d r passed = ((d.loading r).passed.0 passed).1

-- ---- 0 to all: the empty list is no record

passes_wrong : (b : List ℕ) → ¬ LoadedRecorded (loading_by passes_all) 0 b
passes_wrong b claim = let wrong : ◌≡◌ {A = ℕ} 0 record_size = (claim [] (λ i. omega arith) refl).whole in absurd (omega arith)

-- ---- 18 to all: set-up's record doesn't load

refuses_wrong : (b : List ℕ) → ¬ LeftLoads (loading_by refuses_all) 0 b
refuses_wrong b claim = let wrong : ◌≡◌ {A = ℕ} 18 0 = claim begin in absurd (omega arith)

-- ---- star bits only: job 1 holds node 0 of two with the star bits of both

module _ (b : List ℕ) (whole : length b ≡ record_size) where
  fresh_one : Recorded 1 fresh (setup_record b 1) (setup_record b 1)
  fresh_one = (from_set_up 1 (omega arith) b whole).recorded begin

  abbrev two : State
  two = decode (setup_record b 1)

  abbrev torn : State
  torn = taken two (vertices width 0 0) 1 1

  abbrev r : List ℕ
  r = encode torn

  valid : valid_record r ≡ true
  valid = stays_valid two (sized-decode (setup_record b 1)) (state_valid (setup_record b 1) fresh_one.valid) 1 1 (λ e. absurd (omega arith))

  back : decode r ≡ torn
  back = decode-encode torn (taken-sized (sized-decode (setup_record b 1)) (vertices width 0 0) 1 1)

  nodes_two : 2 ^ dimension_of r ≡ 2
  nodes_two = ap (λ (s : State). 2 ^ s.n) back ∙ ap (λ (n : ℕ). 2 ^ n) (dimension_of_lem (setup_record b 1) ∙ fresh_one.dimension)

  holder_0 : (says r).holder 0 ≡ 1
  holder_0 = ap (λ (s : State). get_or s.holders 0 0) back ∙ entry-given two.holders 1

  stars_0 : (says r).stars 0 ≡ 1
  stars_0 = ap (λ (s : State). get_or s.stars 0 0) back ∙ entry-given two.stars 1

  holder_1 : (says r).holder 1 ≡ 0
  holder_1 =
      ap (λ (s : State). get_or s.holders 1 0) back ∙ entry_left two.holders 1 1 (omega arith) (omega arith)
      ∙ decode_holder (setup_record b 1) 1 (omega arith) ∙ fresh_one.holders 1 (omega arith)

  same_stars_lem : (same_stars (dimension_of r) (says r).holder (says r).stars).Met
  same_stars_lem x l =
      by_cases (ℕ_discrete x 0)
      (λ z. inr (
        rw (z, stars_0, nodes_two) (omega arith),
        λ y k. by_cases (ℕ_discrete y 0) (λ e. inr (ap (says r).stars (e ∙ sym z))) (λ ne. inl (λ q.
            let one : y ≡ 1 = omega (arith, nodes_two) in
            differ (sym holder_1 ∙ ap (says r).holder (sym one) ∙ q ∙ ap (says r).holder z ∙ holder_0))),
      ))
      (λ ne. let one : x ≡ 1 = omega (arith, nodes_two) in inl (ap (says r).holder one ∙ holder_1))

  passed : stars_only r ≡ 0
  passed = rw (valid, (same_stars (dimension_of r) (says r).holder (says r).stars).means.shows same_stars_lem)

  zero_in : 0 < 2 ^ dimension_of r
  zero_in = rw nodes_two (omega arith)

  one_in : 1 < 2 ^ dimension_of r
  one_in = rw nodes_two (omega arith)

  not_formed : ¬ (formed_record r).Met
  unfolding vertices
  not_formed m =
      let F = (formed_is (dimension_of r) (says r).holder (says r).stars).0 m 0 zero_in (λ z. differ (sym z ∙ holder_0)) in
      let low : F.low ≡ 0 = at_most (lowest_le width F.stars F.low 0 ((F.exactly 0 zero_in).1 refl)) in
      let stars : F.stars ≡ 1 = sym (F.starred 0 zero_in refl) ∙ stars_0 in
      let both : In 1 (vertices width F.stars F.low) = rw (low, stars) (inr (inl refl)) in
      differ (sym holder_1 ∙ (F.exactly 1 one_in).0 both ∙ holder_0)

  stars_wrong : ¬ LoadedFormed (loading_by stars_only) 1 b
  stars_wrong claim = not_formed (claim r passed)

  pub loads_refuted : LoadsRefuted b
  loads_refuted = record {
    to_all_0 = breaks LoadedRecorded (λ P n b s w. loaded_recorded P n b) (loading_by passes_all) 0 b (omega arith) whole (passes_wrong b);
    to_all_18 = breaks_list LeftLoads (λ P n b d. d.loads) (loading_by refuses_all) 0 b (omega arith) whole (refuses_wrong b);
    by_stars_only = breaks LoadedFormed (λ P n b s w. loaded-formed P n b) (loading_by stars_only) 1 b (omega arith) whole stars_wrong;
  }
