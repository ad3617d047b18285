-- A condition: a proposition, the test of it, and that the two agree. What a table of causes is written with.
use Rattle.std.specs.Prelude.{ℕ, zero, suc, ◌<◌, ◌≤◌, ◌≡◌, refl, ◌⊎◌, ◌≢◌, Bool, true, false, not, ◌&&◌, ◌||◌, List, [], ◌∷◌, eqb, ltb, leb}
use Rattle.std.proofs.Common.{sym, subst, inl, inr, ⊎_elim, arith}
use Rattle.std.proofs.Math.Logic.{ite}
use Rattle.std.proofs.lemmas.Bool.{false≢true}
use Rattle.std.proofs.Math.Decide.{ℕ_discrete}
use Rattle.hypercube.specs.Lists.{In, Some, among, all_below, any_below}
use Rattle.hypercube.specs.Tests.{Means, means_true, means_iff, means_eq, means_lt, means_le, means_not, means_and, means_or}

pub record Condition : Type 1 where
  pub Met : Type 0
  pub test : Bool
  pub means : Means test Met

-- that a test passes
abbrev pub so : Bool → Condition
so b = record { Met = b ≡ true; test = b; means = means_true }

-- ---- of numbers

infix 50 ◌is◌ ◌is_not◌ ◌below◌ ◌at_most◌
abbrev pub ◌is◌ : ℕ → ℕ → Condition
◌is◌ a b = record { Met = a ≡ b; test = eqb a b; means = means_eq a b }

abbrev pub ◌is_not◌ : ℕ → ℕ → Condition
◌is_not◌ a b = record { Met = a ≢ b; test = not (eqb a b); means = means_not (means_eq a b) }

abbrev pub ◌below◌ : ℕ → ℕ → Condition
◌below◌ a b = record { Met = a < b; test = ltb a b; means = means_lt a b }

abbrev pub ◌at_most◌ : ℕ → ℕ → Condition
◌at_most◌ a b = record { Met = a ≤ b; test = leb a b; means = means_le a b }

-- ---- of conditions

abbrev pub not_so : Condition → Condition
not_so a = record { Met = ¬ a.Met; test = not a.test; means = means_not a.means }

infixr 35 ◌and◌
abbrev pub ◌and◌ : Condition → Condition → Condition
◌and◌ a b = record { Met = a.Met × b.Met; test = a.test && b.test; means = means_and a.means b.means }

infixr 30 ◌or◌
abbrev pub ◌or◌ : Condition → Condition → Condition
◌or◌ a b = record { Met = a.Met ⊎ b.Met; test = a.test || b.test; means = means_or a.means b.means }

-- ---- of some number below N, of each, and of every entry of a list

pub means_some : (N : ℕ) (P : ℕ → Condition) → Means (any_below (λ x. (P x).test) N) (Some N (λ x. (P x).Met))
unfolding any_below
means_some zero P = record { holds = λ e. absurd (false≢true e); shows = λ h. absurd (omega (arith, h.1)) }
means_some (suc N) P = means_iff (means_or (means_some N P) (P N).means) (
  ⊎_elim (λ s. (s.0, omega arith, s.2)) (λ p. (N, omega arith, p)),
  λ s. go s (ℕ_discrete s.0 N),
)
  where
    go : (s : Some (suc N) (λ x. (P x).Met)) → Dec (s.0 ≡ N) → Some N (λ x. (P x).Met) ⊎ (P N).Met
    go s (yes e) = inr (subst (λ (x : ℕ). (P x).Met) e s.2)
    go s (no d) = inl (s.0, omega arith, s.2)

abbrev pub some_below : ℕ → (ℕ → Condition) → Condition
some_below N P = record { Met = Some N (λ x. (P x).Met); test = any_below (λ x. (P x).test) N; means = means_some N P }

pub means_each_below : (N : ℕ) (P : ℕ → Condition) → Means (all_below (λ x. (P x).test) N) ((x : ℕ) → x < N → (P x).Met)
unfolding all_below
means_each_below zero P = record { holds = λ e x l. absurd (omega arith); shows = λ h. refl }
means_each_below (suc N) P = means_iff (means_and (means_each_below N P) (P N).means) (
  λ h x l. go h x l (ℕ_discrete x N),
  λ h. (λ x l. h x (omega arith), h N (omega arith)),
)
  where
    go : ((x : ℕ) → x < N → (P x).Met) × (P N).Met → (x : ℕ) → x < suc N → Dec (x ≡ N) → (P x).Met
    go h x l (yes e) = subst (λ (y : ℕ). (P y).Met) (sym e) h.1
    go h x l (no d) = h.0 x (omega arith)

abbrev pub each_below : ℕ → (ℕ → Condition) → Condition
each_below N P = record { Met = (x : ℕ) → x < N → (P x).Met; test = all_below (λ x. (P x).test) N; means = means_each_below N P }

unfoldable pub all_of : {A : Type 0} → (A → Bool) → List A → Bool
all_of test [] = true
all_of test (x ∷ xs) = test x && all_of test xs

pub means_every : {A : Type 0} (xs : List A) (P : A → Condition) → Means (all_of (λ x. (P x).test) xs) ((x : A) → In x xs → (P x).Met)
unfolding all_of
means_every [] P = record { holds = λ e x i. absurd i; shows = λ h. refl }
means_every {A} (x ∷ xs) P = means_iff (means_and (P x).means (means_every xs P)) (λ h y i. go h y i, λ h. (h x (inl refl), λ y i. h y (inr i)))
  where
    go : (P x).Met × ((y : A) → In y xs → (P y).Met) → (y : A) → (y ≡ x) ⊎ In y xs → (P y).Met
    go h y (inl e) = subst (λ (z : A). (P z).Met) (sym e) h.0
    go h y (inr i) = h.1 y i

abbrev pub every_of : {A : Type 0} → List A → (A → Condition) → Condition
every_of {A} xs P = record { Met = (x : A) → In x xs → (P x).Met; test = all_of (λ x. (P x).test) xs; means = means_every xs P }

-- ---- that x is one of a list of numbers, and of a list whose entries are told apart by d

pub means_among : (x : ℕ) (xs : List ℕ) → Means (among x xs) (In x xs)
unfolding among
means_among x [] = record { holds = λ e. false≢true e; shows = λ i. absurd i }
means_among x (y ∷ ys) = means_or (means_eq x y) (means_among x ys)

infix 50 ◌is_one_of◌
abbrev pub ◌is_one_of◌ : ℕ → List ℕ → Condition
◌is_one_of◌ x xs = record { Met = In x xs; test = among x xs; means = means_among x xs }

means_dec : {P : Type 0} (d : Dec P) → Means (ite d true false) P
means_dec (yes p) = record { holds = λ e. p; shows = λ q. refl }
means_dec (no h) = record { holds = λ e. absurd (false≢true e); shows = λ p. absurd (h p) }

abbrev pub one_of : {A : Type 0} → ((x y : A) → Dec (x ≡ y)) → A → List A → Bool
one_of d x [] = false
one_of d x (y ∷ ys) = ite (d x y) true false || one_of d x ys

pub means_in : {A : Type 0} (d : (x y : A) → Dec (x ≡ y)) (x : A) (ys : List A) → Means (one_of d x ys) (In x ys)
means_in d x [] = record { holds = λ e. false≢true e; shows = λ i. absurd i }
means_in d x (y ∷ ys) = means_or (means_dec (d x y)) (means_in d x ys)

abbrev pub among_of : {A : Type 0} → ((x y : A) → Dec (x ≡ y)) → A → List A → Condition
among_of d x ys = record { Met = In x ys; test = one_of d x ys; means = means_in d x ys }
