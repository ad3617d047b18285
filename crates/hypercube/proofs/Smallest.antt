-- Of blocks by lowest label ascending: the one taken is the smallest of those with dimension at least k, the lowest among equals, and there is one
-- wherever a block is that large. A block of dimension d has the star bits 2^d - 1. Assumes nothing.
use Prim.Native.Nat.{ℕ, ◌-◌, ◌^◌, ◌<◌, ◌≤◌}
use mathlib.Core.Logic.{◌⊎◌, inl, inr, ⊎_elim}
use mathlib.Core.Path.{◌≡◌, refl, sym, ap, ◌∙◌, subst}
use mathlib.Core.Bool.{Bool, true, false, cond}
use mathlib.Core.List.{List, [], ◌∷◌}
use mathlib.Core.Option.{Option, none, some}
use native.Mathlib.Omega.{arith}
use borrow.Author.Tests.{leb-true, leb-false}
use lib.Dec.{leb}
use lib.Pow.{pow_pos, pow-lt}
use Rattle.hypercube.specs.Lists.{In}
use Rattle.hypercube.specs.BestFit.{smaller, smallest}
use Rattle.hypercube.specs.declared.Subcube.{Subcube}
use Rattle.hypercube.proofs.Bits.{lt_or}
use Rattle.hypercube.proofs.Ascending.{Ascending}

-- c comes before m, or is as good: it is smaller, or as large and not higher
abbrev pub Before : Subcube → Subcube → Type 0
Before c m = (c.stars < m.stars) ⊎ ((c.stars ≡ m.stars) × (c.low.0 ≤ m.low.0))

-- c is the smallest of the blocks with dimension at least k, the lowest among equals
pub record Least (k : ℕ) (cs : List Subcube) (c : Subcube) : Type 0 where
  pub entry : In c cs
  pub at_least : 2 ^ k - 1 ≤ c.stars
  pub others : (m : Subcube) → In m cs → 2 ^ k - 1 ≤ m.stars → Before c m

-- ---- the star bits of dimensions

pub stars_lt : (d e : ℕ) → d < e → 2 ^ d - 1 < 2 ^ e - 1
stars_lt d e l = omega (arith, pow_pos d, pow-lt l)

pub stars_le : (d e : ℕ) → d ≤ e → 2 ^ d - 1 ≤ 2 ^ e - 1
stars_le d e l = ⊎_elim (λ b. omega (arith, stars_lt d e b)) (λ b. let z : d ≡ e = omega arith in rw z (omega arith)) (lt_or d e)

pub dimension_le : (d e : ℕ) → 2 ^ d - 1 ≤ 2 ^ e - 1 → d ≤ e
dimension_le d e h = ⊎_elim (λ b. absurd (omega (arith, stars_lt e d b))) (λ b. b) (lt_or e d)

-- ---- what an answer says of the list

abbrev Says : ℕ → List Subcube → Option Subcube → Type 0
Says k cs none = (m : Subcube) → In m cs → m.stars < 2 ^ k - 1
Says k cs (some c) = Least k cs c

stars_of_lem : (c m : Subcube) → m ≡ c → m.stars ≡ c.stars
stars_of_lem c m e = ap (λ (z : Subcube). z.stars) e

low_of : (c m : Subcube) → m ≡ c → m.low.0 ≡ c.low.0
low_of c m e = ap (λ (z : Subcube). z.low.0) e

before_self : (c m : Subcube) → m ≡ c → Before c m
before_self c m e = inr (omega (arith, stars_of_lem c m e), omega (arith, low_of c m e))

-- one more block before the list, that is too small
says_more : (k : ℕ) (c : Subcube) (cs : List Subcube) → c.stars < 2 ^ k - 1 → (o : Option Subcube) → Says k cs o → Says k (c ∷ cs) o
says_more k c cs l none r = all
  where
    all : (m : Subcube) → In m (c ∷ cs) → m.stars < 2 ^ k - 1
    all m (inl e) = omega (arith, stars_of_lem c m e)
    all m (inr i) = r m i
says_more k c cs l (some d) r = record { entry = inr r.entry; at_least = r.at_least; others = others }
  where
    others : (m : Subcube) → In m (c ∷ cs) → 2 ^ k - 1 ≤ m.stars → Before d m
    others m (inl e) h = absurd (omega (arith, stars_of_lem c m e))
    others m (inr i) h = r.others m i h

-- one that is large enough
says-smaller : (k : ℕ) (c : Subcube) (cs : List Subcube) → Ascending (c ∷ cs) → 2 ^ k - 1 ≤ c.stars → (o : Option Subcube) → Says k cs o
    → Says k (c ∷ cs) (smaller c o)
says-smaller k c cs a h none r = record { entry = inl refl; at_least = h; others = others }
  where
    others : (m : Subcube) → In m (c ∷ cs) → 2 ^ k - 1 ≤ m.stars → Before c m
    others m (inl e) l = before_self c m e
    others m (inr i) l = absurd (omega (arith, r m i))
says-smaller k c cs a h (some d) r = go (leb c.stars d.stars) refl
  where
    first : c.stars ≤ d.stars → (m : Subcube) → In m (c ∷ cs) → 2 ^ k - 1 ≤ m.stars → Before c m
    first l m (inl e) g = before_self c m e
    first l m (inr i) g =
        ⊎_elim (λ b. inl (omega arith))
        (λ b. ⊎_elim inl (λ z. inr (omega (arith, b.0), omega (arith, a.0 m i))) (lt_or c.stars m.stars)) (r.others m i g)

    later : d.stars < c.stars → (m : Subcube) → In m (c ∷ cs) → 2 ^ k - 1 ≤ m.stars → Before d m
    later l m (inl e) g = inl (omega (arith, stars_of_lem c m e))
    later l m (inr i) g = r.others m i g

    go : (b : Bool) → leb c.stars d.stars ≡ b → Says k (c ∷ cs) (cond b (some c) (some d))
    go true e = record { entry = inl refl; at_least = h; others = first (leb-true c.stars d.stars e) }
    go false e = record { entry = inr r.entry; at_least = r.at_least; others = later (leb-false c.stars d.stars e) }

says : (k : ℕ) (cs : List Subcube) → Ascending cs → Says k cs (smallest k cs)
unfolding smallest
says k [] a = λ m i. absurd i
says k (c ∷ cs) a = go (leb (2 ^ k - 1) c.stars) refl (says k cs a.1)
  where
    go : (b : Bool) → leb (2 ^ k - 1) c.stars ≡ b → Says k cs (smallest k cs)
        → Says k (c ∷ cs) (cond b (smaller c (smallest k cs)) (smallest k cs))
    go true e r = says-smaller k c cs a (leb-true (2 ^ k - 1) c.stars e) (smallest k cs) r
    go false e r = says_more k c cs (leb-false (2 ^ k - 1) c.stars e) (smallest k cs) r

-- ---- there is one least block at most

-- blocks of one lowest label are one
pub one_low : (cs : List Subcube) → Ascending cs → (c d : Subcube) → In c cs → In d cs → c.low.0 ≡ d.low.0 → c ≡ d
one_low [] a c d i j e = absurd i
one_low (x ∷ xs) a c d (inl p) (inl q) e = p ∙ sym q
one_low (x ∷ xs) a c d (inl p) (inr j) e = absurd (omega (arith, a.0 d j, low_of x c p))
one_low (x ∷ xs) a c d (inr i) (inl q) e = absurd (omega (arith, a.0 c i, low_of x d q))
one_low (x ∷ xs) a c d (inr i) (inr j) e = one_low xs a.1 c d i j e

module _ (k : ℕ) (cs : List Subcube) (a : Ascending cs) where
  pub one_least : (c d : Subcube) → Least k cs c → Least k cs d → c ≡ d
  one_least c d C D = one_low cs a c d C.entry D.entry (same (C.others d D.entry D.at_least) (D.others c C.entry C.at_least))
    where
      same : Before c d → Before d c → c.low.0 ≡ d.low.0
      same (inl p) (inl q) = absurd (omega arith)
      same (inl p) (inr q) = absurd (omega (arith, q.0))
      same (inr p) (inl q) = absurd (omega (arith, p.0))
      same (inr p) (inr q) = omega (arith, p.1, q.1)

  -- ---- what is taken is the least, and nothing only where no block is large enough

  pub taken_least : (c : Subcube) → smallest k cs ≡ some c → Least k cs c
  taken_least c e = subst (Says k cs) e (says k cs a)

  pub none_large : smallest k cs ≡ none → (m : Subcube) → In m cs → m.stars < 2 ^ k - 1
  none_large e = subst (Says k cs) e (says k cs a)

  pub least_taken : (c : Subcube) → Least k cs c → smallest k cs ≡ some c
  least_taken c C = go (smallest k cs) (says k cs a)
    where
      go : (o : Option Subcube) → Says k cs o → o ≡ some c
      go none r = absurd (omega (arith, r c C.entry, C.at_least))
      go (some d) r = ap some (one_least d c r C)

  pub none_taken : ((m : Subcube) → In m cs → m.stars < 2 ^ k - 1) → smallest k cs ≡ none
  none_taken h = go (smallest k cs) (says k cs a)
    where
      go : (o : Option Subcube) → Says k cs o → o ≡ none
      go none r = refl
      go (some d) r = absurd (omega (arith, h d r.entry, r.at_least))
