-- At most one lone pair at each level: so it is where at most one label of a cube is not free, and taking a part of a smallest maximal free block
-- keeps it so. A pair is lone where one of its halves is free, and not both. Assumes nothing.
use Prim.Native.Nat.{ℕ, zero, suc, ◌+◌, ◌*◌, ◌/◌, ◌^◌, ◌<◌, ◌≤◌}
use mathlib.Core.Logic.{◌≢◌, ⊎_elim, by_cases}
use mathlib.Core.Path.{◌≡◌, refl, sym, ap, ◌∙◌, subst, fun_ext}
use mathlib.Core.Bool.{Bool, true, false, true≢false, false≢true, and-false}
use native.Mathlib.Nat.{pow-succ'}
use native.Mathlib.Decide.{ℕ_discrete}
use native.Mathlib.Omega.{arith}
use Rattle.hypercube.specs.Levels.{joined, level, lone, free_half}
use Rattle.hypercube.specs.Tests.{cases}
use Rattle.hypercube.proofs.Bits.{lt_or}
use Rattle.hypercube.proofs.Levels.{half_of, half_shr}
use Rattle.hypercube.proofs.ByLevels.{lone-free}

abbrev pub OneEach : (ℕ → Bool) → Type 0
OneEach f = (d β γ : ℕ) → lone (level f d) β ≡ true → lone (level f d) γ ≡ true → β ≡ γ

-- ---- a cube: nothing is free beyond it

abbrev pub Inside : ℕ → (ℕ → Bool) → Type 0
Inside n f = (l : ℕ) → 2 ^ n ≤ l → f l ≡ false

pub inside_below : (n : ℕ) (f : ℕ → Bool) → Inside n f → (l : ℕ) → f l ≡ true → l < 2 ^ n
inside_below n f I l t = ⊎_elim (λ b. b) (λ b. absurd (true≢false (sym t ∙ I l b))) (lt_or l (2 ^ n))

inside_joined : (n : ℕ) (f : ℕ → Bool) → Inside (suc n) f → Inside n (joined f)
inside_joined n f I l b = let e : 2 ^ suc n ≡ 2 * 2 ^ n = pow-succ' 2 n in rw (I (2 * l) (omega arith))

-- a lone pair of a cube lies in it
lone_below : (n : ℕ) (f : ℕ → Bool) → Inside n f → (β : ℕ) → lone f β ≡ true → 2 * β < 2 ^ n
lone_below n f I β t =
    let r = lone-free f β t in
    omega (arith, inside_below n f I (free_half f β) r.0, r.2)

-- a cube of one label has no free pair, and so none on any level
single-joined : (f : ℕ → Bool) → Inside 0 f → (α : ℕ) → joined f α ≡ false
single-joined f I α = rw (I (2 * α + 1) (omega arith)) (and-false (f (2 * α)))

none_lone : (d : ℕ) (f : ℕ → Bool) → ((α : ℕ) → f α ≡ false) → (β : ℕ) → lone (level f d) β ≡ false
unfolding level
none_lone zero f h β = rw (h (2 * β), h (2 * β + 1))
none_lone (suc d) f h β = none_lone d (joined f) (λ α. rw (h (2 * α))) β

-- ---- at most one label of the cube is not free

abbrev pub OneBad : ℕ → (ℕ → Bool) → Type 0
OneBad n f = (x y : ℕ) → x < 2 ^ n → y < 2 ^ n → f x ≡ false → f y ≡ false → x ≡ y

-- a pair that is not free has a half that is not
bad_half : (f : ℕ → Bool) (β : ℕ) → joined f β ≡ false → (x : ℕ) × (x / 2 ≡ β) × (f x ≡ false)
bad_half f β e = cases (f (2 * β)) (λ t. (2 * β + 1, omega arith, rw t at e)) (λ t. (2 * β, omega arith, t))

-- so at most one pair is not
bad_joined : (n : ℕ) (f : ℕ → Bool) → OneBad (suc n) f → OneBad n (joined f)
bad_joined n f O x y a b p q =
    let e : 2 ^ suc n ≡ 2 * 2 ^ n = pow-succ' 2 n in
    let r = bad_half f x p in
    let s = bad_half f y q in
    let z : r.0 ≡ s.0 = O r.0 s.0 (omega (arith, r.1)) (omega (arith, s.1)) r.2 s.2 in
    sym r.1 ∙ ap (λ (v : ℕ). v / 2) z ∙ s.1

pub one_bad : (n : ℕ) (f : ℕ → Bool) → Inside n f → OneBad n f → OneEach f
unfolding level
one_bad zero f I O zero β γ B C = omega (arith, lone_below 0 f I β B, lone_below 0 f I γ C)
one_bad zero f I O (suc d) β γ B C = absurd (false≢true (sym (none_lone d (joined f) (single-joined f I) β) ∙ B))
one_bad (suc n) f I O zero β γ B C =
    let e : 2 ^ suc n ≡ 2 * 2 ^ n = pow-succ' 2 n in
    bad_joined n f O β γ (omega (arith, lone_below (suc n) f I β B)) (omega (arith, lone_below (suc n) f I γ C))
    (lone-free f β B).1 (lone-free f γ C).1
one_bad (suc n) f I O (suc d) β γ B C = one_bad n (joined f) (inside_joined n f I) (bad_joined n f O) d β γ B C

-- ---- g is f without the block a of dimension k

pub record Less (f g : ℕ → Bool) (k a : ℕ) : Type 0 where
  pub taken : (l : ℕ) → l / 2 ^ k ≡ a → g l ≡ false
  pub kept : (l : ℕ) → l / 2 ^ k ≢ a → g l ≡ f l

-- where both halves are as before, so is the pair
module _ (f g : ℕ → Bool) (β : ℕ) (same : (α : ℕ) → α / 2 ≡ β → g α ≡ f α) where
  joined_kept : joined g β ≡ joined f β
  joined_kept = rw (same (2 * β) (omega arith), same (2 * β + 1) (omega arith))

  lone_kept : lone g β ≡ lone f β
  lone_kept = rw (same (2 * β) (omega arith), same (2 * β + 1) (omega arith))

-- the pairs outside a block of dimension k + 1 are as before, and those in it have no half free
module _ (f g : ℕ → Bool) (k a : ℕ) (L : Less f g (suc k) a) where
  pairs_kept : (β : ℕ) → β / 2 ^ k ≢ a → (α : ℕ) → α / 2 ≡ β → g α ≡ f α
  pairs_kept β ne α h = L.kept α (λ e. ne (ap (λ (z : ℕ). z / 2 ^ k) (sym h) ∙ sym (half_shr α k) ∙ e))

  pairs_taken : (β : ℕ) → β / 2 ^ k ≡ a → (α : ℕ) → α / 2 ≡ β → g α ≡ false
  pairs_taken β e α h = L.taken α (half_shr α k ∙ ap (λ (z : ℕ). z / 2 ^ k) h ∙ e)

  less_joined : Less (joined f) (joined g) k a
  less_joined = record {
    taken = λ β e. rw (pairs_taken β e (2 * β) (omega arith));
    kept = λ β ne. joined_kept f g β (pairs_kept β ne);
  }

  lone_before : (β : ℕ) → lone g β ≡ true → lone f β ≡ true
  lone_before β t =
      by_cases (ℕ_discrete (β / 2 ^ k) a)
      (λ e.
      let no : lone g β ≡ false = rw (pairs_taken β e (2 * β) (omega arith), pairs_taken β e (2 * β + 1) (omega arith)) in
      absurd (false≢true (sym no ∙ t)))
      (λ ne. sym (lone_kept f g β (pairs_kept β ne)) ∙ t)

-- of one label: the pair that it is a half of is no longer free, and the others are as before
module _ (f g : ℕ → Bool) (a : ℕ) (L : Less f g 0 a) where
  others_kept : (β : ℕ) → β ≢ a / 2 → (α : ℕ) → α / 2 ≡ β → g α ≡ f α
  others_kept β ne α h = L.kept α (λ e. ne (omega arith))

  pair-taken : joined g (a / 2) ≡ false
  pair-taken =
      let t : g a ≡ false = L.taken a (omega arith) in
      ⊎_elim (λ e. let z : g (2 * (a / 2)) ≡ false = ap g (sym e) ∙ t in rw z)
      (λ e. let z : g (2 * (a / 2) + 1) ≡ false = ap g (sym e) ∙ t in rw z (and-false (g (2 * (a / 2))))) (half_of a (a / 2) refl)

  less_half : Less (joined f) (joined g) 0 (a / 2)
  less_half = record {
    taken = λ β e. let z : β ≡ a / 2 = omega arith in rw z pair-taken;
    kept = λ β ne. joined_kept f g β (others_kept β (λ e. ne (omega arith)));
  }

-- ---- taking a part of a smallest block keeps one each

-- a lies in a maximal free block j levels up, the free half of a lone pair, and no pair is lone on the levels below that
abbrev pub InSmallest : (ℕ → Bool) → ℕ → ℕ → Type 0
InSmallest f a zero = lone f (a / 2) ≡ true
InSmallest f a (suc j) = ((β : ℕ) → lone f β ≡ false) × InSmallest (joined f) (a / 2) j

-- a label, the free half of a lone pair: the levels above stay as they were
module _ (f g : ℕ → Bool) (a : ℕ) (one : OneEach f) (A : lone f (a / 2) ≡ true) (L : Less f g 0 a) where
  above : (β : ℕ) → joined g β ≡ joined f β
  above β =
      by_cases (ℕ_discrete β (a / 2)) (λ z. rw z (pair-taken f g a L ∙ sym (lone-free f (a / 2) A).1))
      (λ ne. joined_kept f g β (others_kept f g a L β ne))

  was_lone : (β : ℕ) → lone g β ≡ true → lone f β ≡ true
  was_lone β t = by_cases (ℕ_discrete β (a / 2)) (λ z. rw z A) (λ ne. sym (lone_kept f g β (others_kept f g a L β ne)) ∙ t)

  keeps_half : OneEach g
  unfolding level
  keeps_half zero β γ B C = one 0 β γ (was_lone β B) (was_lone γ C)
  keeps_half (suc d) β γ B C =
      subst (λ (h : ℕ → Bool). lone (level h d) β ≡ true → lone (level h d) γ ≡ true → β ≡ γ) (sym (fun_ext above)) (one (suc d) β γ) B C

-- a label, where no pair is lone: its own pair is now, and no other
lone_now : (f g : ℕ → Bool) (a : ℕ) → ((β : ℕ) → lone f β ≡ false) → Less f g 0 a → (β : ℕ) → lone g β ≡ true → β ≡ a / 2
lone_now f g a none L β t =
    by_cases (ℕ_discrete β (a / 2)) (λ e. e)
    (λ ne. absurd (true≢false (sym t ∙ lone_kept f g β (others_kept f g a L β ne) ∙ none β)))

keeps_label : (j : ℕ) (f g : ℕ → Bool) (a : ℕ) → OneEach f → InSmallest f a j → Less f g 0 a → OneEach g
unfolding level
keeps_label zero f g a one S L d β γ B C = keeps_half f g a one S L d β γ B C
keeps_label (suc j) f g a one S L zero β γ B C = lone_now f g a S.0 L β B ∙ sym (lone_now f g a S.0 L γ C)
keeps_label (suc j) f g a one S L (suc d) β γ B C =
    keeps_label j (joined f) (joined g) (a / 2) (λ d. one (suc d)) S.1 (less_half f g a L) d β γ B C

-- a block of dimension k: below that dimension no pair becomes lone
pub keeps : (k j : ℕ) (f g : ℕ → Bool) (a : ℕ) → OneEach f → InSmallest (level f k) a j → Less f g k a → OneEach g
unfolding level
keeps zero j f g a one S L d β γ B C = keeps_label j f g a one S L d β γ B C
keeps (suc k) j f g a one S L zero β γ B C = one 0 β γ (lone_before f g k a L β B) (lone_before f g k a L γ C)
keeps (suc k) j f g a one S L (suc d) β γ B C =
    keeps k j (joined f) (joined g) a (λ d. one (suc d)) S (less_joined f g k a L) d β γ B C
