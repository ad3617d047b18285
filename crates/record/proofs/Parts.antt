-- Tests of the nodes by the bytes of parts of a record: the highest, and whether all are 0. Assumes nothing.
use Prim.Native.Nat.{ℕ, ◌+◌, ◌*◌, ◌-◌, ◌<◌, ◌≤◌}
use mathlib.Core.Logic.{⊎_elim}
use mathlib.Core.Path.{◌≡◌, refl, sym, ap, ◌∙◌}
use mathlib.Core.Bool.{Bool, true, false, not, cond, ◌&&◌}
use mathlib.Core.List.{List}
use native.Mathlib.Omega.{arith}
use borrow.Author.Tests.{le-leb, lt-leb}
use lib.Bits.{bit_or}
use lib.Dec.{eqb, leb}
use lib.ListN.{length, get_or}
use Rattle.hypercube.specs.Words.{word}
use Rattle.hypercube.specs.Lists.{all_below, any_below}
use Rattle.hypercube.proofs.Bits.{lt_or}
use Rattle.hypercube.proofs.Below.{means_each}
use Rattle.hypercube.specs.Tests.{Means, means_iff, means_eq, means_le, means_and, same_test}
use Rattle.state.specs.Valid.{nodes_right, star_right, stars_right}
use Rattle.state.proofs.Below.{any_not}
use Rattle.state.proofs.Valid.{means_nodes, means_star, means_stars}
use Rattle.record.specs.Highest.{highest_of, all_zero}
use Rattle.record.specs.Layout.{holders_at, conditions_at, stars_at, record_size, decode, star_of}
use Rattle.record.proofs.Round.{decode_holder, decode_condition, decode_star, each_word}
use Rattle.record.proofs.Maximum.{part, part_within}
use Rattle.record.proofs.Halves.{or_zero}

-- N nodes, of 1024; the highest byte of the conditions below N; whether those from N up, and the holders from N up, are all 0
module _ (r : List ℕ) (N : ℕ) (long : length r ≡ record_size) (few : N ≤ 1024) where
  abbrev pub conditions_below : ℕ
  conditions_below = highest_of (part r conditions_at (conditions_at + N))

  abbrev pub conditions_beyond : Bool
  conditions_beyond = all_zero (part r (conditions_at + N) stars_at)

  abbrev pub holders_beyond : Bool
  holders_beyond = all_zero (part r (holders_at + 2 * N) conditions_at)

  -- every byte from place a up to place e is 0
  means_none : (a e : ℕ) → e ≤ record_size → Means (all_zero (part r a e)) ((i : ℕ) → a ≤ i → i < e → get_or r i 0 ≤ 0)
  means_none a e h =
      let w = part_within r a e (omega arith) 0 in
      means_iff (means_eq (highest_of (part r a e)) 0) (λ z. w.0 (omega arith), λ f. omega (arith, w.1 f))

  means_below : Means (leb conditions_below 2) ((i : ℕ) → conditions_at ≤ i → i < conditions_at + N → get_or r i 0 ≤ 2)
  means_below = means_iff (means_le conditions_below 2) (part_within r conditions_at (conditions_at + N) (omega arith) 2)

  -- a byte among the conditions, by its node
  at_condition : (P : ℕ → Type 0) (i : ℕ) → i < stars_at → conditions_at ≤ i → P (get_or (decode r).conditions (i - conditions_at) 0) → P (get_or r i 0)
  at_condition P i b a p =
      let e : conditions_at + (i - conditions_at) ≡ i = omega arith in
      rw e at (rw (decode_condition r (i - conditions_at) (omega arith)) at p)

  -- l are the words from place at on; those of the nodes from a up to e are 0 where all their bytes are
  module _ (at : ℕ) (l : List ℕ) (fits : at + 2048 ≤ record_size) (said : (x : ℕ) → x < 1024 → get_or l x 0 ≡ word r (at + 2 * x)) where
    means_unset : (a e : ℕ) → e ≤ 1024
        → Means (all_zero (part r (at + 2 * a) (at + 2 * e))) ((x : ℕ) → a ≤ x → x < e → get_or l x 0 ≡ 0)
    unfolding word
    means_unset a e h =
        means_iff (means_none (at + 2 * a) (at + 2 * e) (omega arith)) (
          λ p x g l.
              omega (
                arith,
                said x (omega arith),
                p (at + 2 * x) (omega arith) (omega arith),
                p (at + 2 * x + 1) (omega arith) (omega arith),
              ),
          λ q i g l. each_word at (λ k. get_or r k 0 ≤ 0) i (omega arith) (omega arith) (λ x b u v.
              let z = said x b in
              let e = q x (omega arith) (omega arith) in
              (omega arith, omega arith)),
        )

  pub means_unheld : (a e : ℕ) → e ≤ 1024
      → Means (all_zero (part r (holders_at + 2 * a) (holders_at + 2 * e))) ((x : ℕ) → a ≤ x → x < e → get_or (decode r).holders x 0 ≡ 0)
  means_unheld = means_unset holders_at (decode r).holders (omega arith) (decode_holder r)

  -- whether any of the N nodes is held, by their holders' bytes
  pub any_held_lem : {b : Bool} → b ≡ all_zero (part r holders_at (holders_at + 2 * N))
      → not b ≡ any_below (λ x. not (eqb (get_or (decode r).holders x 0) 0)) N
  any_held_lem e =
      let test : ℕ → Bool = λ x. eqb (get_or (decode r).holders x 0) 0 in
      ap not (e ∙ same_test (means_unheld 0 N few) (means_each test (λ x. get_or (decode r).holders x 0 ≡ 0) N
      (λ x l. means_eq (get_or (decode r).holders x 0) 0))
      (λ h x l. h x (omega arith) l, λ h x g l. h x l))
      ∙ sym (any_not test N)

  pub three_parts : (leb conditions_below 2 && (conditions_beyond && holders_beyond)) ≡ nodes_right (decode r).holders (decode r).conditions N
  three_parts =
      same_test (means_and means_below (means_and (means_none (conditions_at + N) stars_at (omega arith)) (means_unheld N 1024 (omega arith))))
      (means_nodes (decode r).holders (decode r).conditions N) (
        λ p x l. (
          λ b. rw (decode_condition r x l) (p.0 (conditions_at + x) (omega arith) (omega arith)),
          λ g. (p.1.1 x g l, omega (arith, decode_condition r x l, p.1.0 (conditions_at + x) (omega arith) (omega arith))),
        ),
        λ q. (
          λ i a b. at_condition (λ y. y ≤ 2) i (omega arith) a ((q (i - conditions_at) (omega arith)).0 (omega arith)),
          (
            λ i a b. omega (arith, at_condition (λ y. y ≡ 0) i (omega arith) (omega arith) ((q (i - conditions_at) (omega arith)).1 (omega arith)).1),
            λ x g l. ((q x l).1 g).0,
          ),
        ),
      )

  -- ---- the test, way out by way out, from what was found of the parts

  pub not_below : {m : ℕ} → m ≡ conditions_below → 2 < m → false ≡ nodes_right (decode r).holders (decode r).conditions N
  not_below {m} e h = rw (← three_parts, ← e, lt-leb m 2 h)

  module _ {m : ℕ} {b : Bool} (e : m ≡ conditions_below) (h : m ≤ 2) (f : b ≡ conditions_beyond) where
    pub not_beyond : b ≡ false → false ≡ nodes_right (decode r).holders (decode r).conditions N
    not_beyond z = rw (← three_parts, ← e, ← f, le-leb m 2 h, z)

    pub by_holders : {t : Bool} → b ≡ true → t ≡ holders_beyond → t ≡ nodes_right (decode r).holders (decode r).conditions N
    by_holders {t} z g = rw (← three_parts, ← e, ← f, ← g, le-leb m 2 h, z)

-- ---- the star bits

-- a loop that takes the 'or' of the star bits of unheld nodes has 0 where each node before it is right
pub stray_next : (any h v : ℕ) → eqb (bit_or any (cond (eqb h 0) v 0)) 0 ≡ eqb any 0 && star_right h v
unfolding star_right
stray_next any h v =
    same_test (means_eq (bit_or any stars) 0) (means_and (means_eq any 0) (means_eq stars 0)) (or_zero any stars)
    ∙ ap (λ (b : Bool). eqb any 0 && b) (by_test (eqb h 0))
  where
    stars : ℕ
    stars = cond (eqb h 0) v 0

    by_test : (b : Bool) → eqb (cond b v 0) 0 ≡ cond b (eqb v 0) true
    by_test true = refl
    by_test false = refl

-- where no node from N up is held

module _ (r : List ℕ) (N : ℕ) (long : length r ≡ record_size) (few : N ≤ 1024)
    (unheld : (x : ℕ) → N ≤ x → x < 1024 → get_or (decode r).holders x 0 ≡ 0) where
  abbrev pub stars_beyond : Bool
  stars_beyond = all_zero (part r (stars_at + 2 * N) record_size)

  means_star_at : (x : ℕ) → x < 1024 → Means (star_of r x) (get_or (decode r).holders x 0 ≡ 0 → get_or (decode r).stars x 0 ≡ 0)
  means_star_at x h =
      rw (decode_holder r x h, decode_star r x h) (means_star (word r (holders_at + 2 * x)) (word r (stars_at + 2 * x)))

  two_parts : (stars_beyond && all_below (star_of r) N) ≡ stars_right (decode r).holders (decode r).stars
  two_parts =
      same_test (means_and (means_unset r N long few stars_at (decode r).stars (omega arith) (decode_star r) N 1024 (omega arith))
      (means_each (star_of r) (λ x. get_or (decode r).holders x 0 ≡ 0 → get_or (decode r).stars x 0 ≡ 0) N (λ x l. means_star_at x (omega arith))))
      (means_stars (decode r).holders (decode r).stars) (
        λ p x l z. ⊎_elim (λ b. p.1 x b z) (λ g. p.0 x g l) (lt_or x N),
        λ q. (λ x g l. q x l (unheld x g l), λ x l z. q x (omega arith) z),
      )

  module _ {b : Bool} (e : b ≡ stars_beyond) where
    pub not_beyond_stars : b ≡ false → false ≡ stars_right (decode r).holders (decode r).stars
    not_beyond_stars z = rw (← two_parts, ← e, z)

    pub by_stars : {t : Bool} → b ≡ true → t ≡ all_below (star_of r) N → t ≡ stars_right (decode r).holders (decode r).stars
    by_stars {t} z g = rw (← two_parts, ← e, ← g, z)
