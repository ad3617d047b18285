-- What is said of maximal free blocks holds too where 'free' is said in other words. Assumes nothing.
use Prim.Native.Nat.{ℕ}
use mathlib.Core.Logic.{◌↔◌}
use Rattle.hypercube.specs.Maximal.{MaximalFree, Counts, BestPart}
use Rattle.hypercube.specs.declared.Subcube.{Subcube}

pub maximal_as : (n : ℕ) (P Q : Subcube → Type 0) → ((m : Subcube) → P m ↔ Q m) → (d : ℕ) (c : Subcube) → MaximalFree n P d c → MaximalFree n Q d c
maximal_as n P Q e d c M = record {
  fits = M.fits;
  member = M.member;
  free = (e c).0 M.free;
  in_no_larger = λ b l h m i q. M.in_no_larger b l h m i ((e m).1 q);
}

module _ (n : ℕ) (P Q : Subcube → Type 0) (e : (m : Subcube) → P m ↔ Q m) where
  there : (d : ℕ) (c : Subcube) → MaximalFree n P d c → MaximalFree n Q d c
  there = maximal_as n P Q e

  back : (d : ℕ) (c : Subcube) → MaximalFree n Q d c → MaximalFree n P d c
  back = maximal_as n Q P (λ m. ((e m).1, (e m).0))

  pub counts_as : (t : ℕ) → Counts n P t → Counts n Q t
  counts_as t C = record {
    blocks = C.blocks;
    exactly = λ c. (
      λ i. let r = (C.exactly c).0 i in (r.0, there r.0 c r.1),
      λ r. (C.exactly c).1 (r.0, back r.0 c r.1),
    );
    distinct = C.distinct;
    number = C.number;
  }

  pub best_as : (k : ℕ) (c : Subcube) → BestPart n k P c → BestPart n k Q c
  best_as k c B = record {
    dimension = B.dimension;
    block = B.block;
    at_least = B.at_least;
    maximal_free = there B.dimension B.block B.maximal_free;
    others = λ d m h M. B.others d m h (back d m M);
    lowest = B.lowest;
    stars = B.stars;
  }
