-- What the counts of a list of lines are: of all lines, and of those of each outcome, each no more than 4294967295. Assumes nothing.
use Prim.Native.Nat.{ℕ, ◌+◌, ◌≤◌, min}
use mathlib.Core.Path.{◌≡◌, refl, ◌∙◌}
use mathlib.Core.Bool.{Bool, true, false, cond}
use mathlib.Core.List.{List, [], ◌∷◌}
use native.Mathlib.Omega.{arith}
use lib.ListN.{length}
use Rattle.tally.specs.declared.Outcome.{Outcome}
use Rattle.tally.specs.declared.Outcome.TheVariants.{Setup, Done, Granted, Refused}
use Rattle.tally.specs.declared.Tally.{Tally}
use Rattle.tally.specs.Counts.{more, none, counted, counted_all}

-- how many of the lines are of a kind
abbrev pub how_many : (Outcome → Bool) → List Outcome → ℕ
how_many q [] = 0
how_many q (o ∷ os) = cond (q o) 1 0 + how_many q os

-- the lines of each outcome
abbrev pub is_setup : Outcome → Bool
is_setup o = elim o [ Setup n ↦ true | Done v ↦ false | Granted j low stars t ↦ false | Refused m t ↦ false ]

abbrev pub is_done : Outcome → Bool
is_done o = elim o [ Setup n ↦ false | Done v ↦ true | Granted j low stars t ↦ false | Refused m t ↦ false ]

abbrev pub is_granted : Outcome → Bool
is_granted o = elim o [ Setup n ↦ false | Done v ↦ false | Granted j low stars t ↦ true | Refused m t ↦ false ]

abbrev pub is_refused : Outcome → Bool
is_refused o = elim o [ Setup n ↦ false | Done v ↦ false | Granted j low stars t ↦ false | Refused m t ↦ true ]

-- a count that goes up by one at each line of a kind, and at no other
module _ (count : Tally → ℕ) (q : Outcome → Bool)
    (each : (t : Tally) (o : Outcome) → count (counted t o) ≡ cond (q o) (more (count t)) (count t)) where
  one_line : (b : Bool) (t : Tally) (o : Outcome) (k : ℕ) → count (counted t o) ≡ cond b (more (count t)) (count t)
      → min (count (counted t o) + k) 4294967295 ≡ min (count t + (cond b 1 0 + k)) 4294967295
  one_line true t o k e = omega arith
  one_line false t o k e = omega arith

  from_here : (t : Tally) (os : List Outcome) → count t ≤ 4294967295 → count (counted_all t os) ≡ min (count t + how_many q os) 4294967295
  from_here t [] h = omega arith
  from_here t (o ∷ os) h = from_here (counted t o) os (bounded (q o) (each t o)) ∙ one_line (q o) t o (how_many q os) (each t o)
    where
      bounded : (b : Bool) → count (counted t o) ≡ cond b (more (count t)) (count t) → count (counted t o) ≤ 4294967295
      bounded true e = omega arith
      bounded false e = omega arith

  from_none : count none ≡ 0 → (os : List Outcome) → count (counted_all none os) ≡ min (how_many q os) 4294967295
  from_none z os = from_here none os (omega arith) ∙ (rw z (omega arith))

-- the same, where the count goes up by computation for each outcome
module _ (count : Tally → ℕ) (q : Outcome → Bool) where
  abbrev GoesUp : Tally → Outcome → Type 0
  GoesUp t o = count (counted t o) ≡ cond (q o) (more (count t)) (count t)

  counts : count none ≡ 0 → ((t : Tally) (n : ℕ) → GoesUp t (Setup n)) → ((t : Tally) (v : ℕ) → GoesUp t (Done v))
      → ((t : Tally) (j low stars k : ℕ) → GoesUp t (Granted j low stars k)) → ((t : Tally) (m k : ℕ) → GoesUp t (Refused m k))
      → (os : List Outcome) → count (counted_all none os) ≡ min (how_many q os) 4294967295
  counts z s d g r = from_none count q each z
    where
      each : (t : Tally) (o : Outcome) → GoesUp t o
      each t (Setup n) = s t n
      each t (Done v) = d t v
      each t (Granted j low stars k) = g t j low stars k
      each t (Refused m k) = r t m k

every_line : (os : List Outcome) → how_many (λ o. true) os ≡ length os
every_line [] = refl
every_line (o ∷ os) = omega (arith, every_line os)

module _ (os : List Outcome) where
  pub total_is : (counted_all none os).total ≡ min (length os) 4294967295
  total_is = rw (← every_line os) (counts (λ t. t.total) (λ o. true) refl (λ t n. refl) (λ t v. refl) (λ t j low stars k. refl) (λ t m k. refl) os)

  pub setup_is : (counted_all none os).setup ≡ min (how_many is_setup os) 4294967295
  setup_is = counts (λ t. t.setup) is_setup refl (λ t n. refl) (λ t v. refl) (λ t j low stars k. refl) (λ t m k. refl) os

  pub done_is : (counted_all none os).done ≡ min (how_many is_done os) 4294967295
  done_is = counts (λ t. t.done) is_done refl (λ t n. refl) (λ t v. refl) (λ t j low stars k. refl) (λ t m k. refl) os

  pub granted_is : (counted_all none os).granted ≡ min (how_many is_granted os) 4294967295
  granted_is = counts (λ t. t.granted) is_granted refl (λ t n. refl) (λ t v. refl) (λ t j low stars k. refl) (λ t m k. refl) os

  pub refused_is : (counted_all none os).refused ≡ min (how_many is_refused os) 4294967295
  refused_is = counts (λ t. t.refused) is_refused refl (λ t n. refl) (λ t v. refl) (λ t j low stars k. refl) (λ t m k. refl) os
