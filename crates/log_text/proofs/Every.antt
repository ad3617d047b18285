-- Every input has nothing, or begins wrong, or is a right set-up, frames and a rest. Assumes nothing.
use Prim.Native.Nat.{ℕ, zero, suc, ◌+◌, ◌<◌, ◌≤◌}
use mathlib.Core.Path.{◌≡◌, refl, sym, ap, ◌∙◌}
use mathlib.Core.Logic.{◌⊎◌, inl, inr, ◌≢◌}
use mathlib.Core.Bool.{true}
use mathlib.Core.List.{List, [], ◌∷◌, ◌++◌}
use native.Mathlib.Omega.{arith}
use borrow.Author.Tests.{eqb-true, eqb-false, leb-true, leb-false}
use lib.Dec.{eqb, leb}
use lib.ListN.{length, take, drop, take-append-drop}
use lib.Seq.{length-take-le}
use Rattle.hypercube.specs.Words.{word}
use Rattle.hypercube.specs.Tests.{cases}
use Rattle.frame_log.specs.declared.Cursor.{Cursor}
use Rattle.frame_log.specs.declared.Next.TheVariants.{Frame}
use Rattle.frame_log.specs.Next.{next_of}
use Rattle.frame_log.proofs.Nexts as nexts
use Rattle.frame_log.proofs.Nexts.{Case, case, framed}
use Rattle.log_text.specs.Right.{SetsUp, Whole, joined, Ends, lone, under, past, kind, size, dimension, Parts, nothing, wrong, right}
use Rattle.log_text.proofs.WrongFirst.{word-take}

-- ---- up to k frames at the front of an input, and the rest

record Split (k : ℕ) (l : List ℕ) : Type 0 where
  pub fs : List (List ℕ)
  pub rest : List ℕ
  pub whole : Whole fs
  pub same : l ≡ joined fs rest
  pub ends : (((c : Cursor) → next_of true 0 rest ≢ Frame c) × (length fs < k)) ⊎ (length fs ≡ k)

-- no frame at the front
none_there : (k : ℕ) (l : List ℕ) → ((c : Cursor) → Frame c ≡ next_of true 0 l → ⊥) → Split (suc k) l
none_there k l n = record { fs = []; rest = l; whole = tt; same = refl; ends = inl (λ c e. n c (sym e), omega arith) }

split : (k : ℕ) (l : List ℕ) → Split k l
split zero l = record { fs = []; rest = l; whole = tt; same = refl; ends = inr refl }
split (suc k) l = go (case l) (split k (drop (word l 0) l))
  where
    grown : (fs : List (List ℕ)) (rest : List ℕ) → (((c : Cursor) → next_of true 0 rest ≢ Frame c) × (length fs < k)) ⊎ (length fs ≡ k)
        → (((c : Cursor) → next_of true 0 rest ≢ Frame c) × (suc (length fs) < suc k)) ⊎ (suc (length fs) ≡ suc k)
    grown fs rest (inl h) = inl (h.0, omega (arith, h.1))
    grown fs rest (inr h) = inr (ap suc h)

    go : Case l → Split k (drop (word l 0) l) → Split (suc k) l
    go (nexts.none h) S = none_there k l (λ c e. omega (arith, (framed true 0 l c e).two))
    go (nexts.lone h) S = none_there k l (λ c e. omega (arith, (framed true 0 l c e).two))
    go (nexts.under w h) S = none_there k l (λ c e. omega (arith, (framed true 0 l c e).four))
    go (nexts.past w f h) S = none_there k l (λ c e. omega (arith, (framed true 0 l c e).there))
    go (nexts.whole w f h) S =
        let long : length (take (word l 0) l) ≡ word l 0 = length-take-le (word l 0) l h in
        record {
          fs = take (word l 0) l ∷ S.fs;
          rest = S.rest;
          whole = ((omega arith, word-take (word l 0) l 0 (omega arith) ∙ sym long), S.whole);
          same = sym (take-append-drop (word l 0) l) ∙ ap (λ (u : List ℕ). take (word l 0) l ++ u) S.same;
          ends = grown S.fs S.rest S.ends;
        }

-- ---- the first frame

module _ (l : List ℕ) (four : 4 ≤ word l 0) (there : word l 0 ≤ length l) (k : word l 2 ≡ 0x0301) (s : word l 0 ≡ 6) (h : word l 4 ≤ 10) where
  sets_up : SetsUp (word l 4) (take 6 l)
  sets_up = record {
    size = length-take-le 6 l (omega arith);
    length_field = word-take 6 l 0 (omega arith) ∙ s;
    kind = word-take 6 l 2 (omega arith) ∙ k;
    dimension = word-take 6 l 4 (omega arith);
  }

  later : (m : ℕ) → m + 1 ≡ 4294967295 → Split m (drop 6 l) → Parts l
  later m e S =
      right (word l 4) (take 6 l) S.fs S.rest h sets_up S.whole (all S.ends)
      (sym (take-append-drop 6 l) ∙ ap (λ (u : List ℕ). take 6 l ++ u) S.same)
    where
      all : (((c : Cursor) → next_of true 0 S.rest ≢ Frame c) × (length S.fs < m)) ⊎ (length S.fs ≡ m) → Ends S.fs S.rest
      all (inl q) = inl (q.0, omega (arith, q.1))
      all (inr q) = inr (omega arith)

pub parts : (l : List ℕ) → Parts l
parts [] = nothing refl
parts (x ∷ xs) = go (case l)
  where
    l : List ℕ
    l = x ∷ xs

    go : Case l → Parts l
    go (nexts.none h) = absurd (omega arith)
    go (nexts.lone h) = wrong 3 (lone h)
    go (nexts.under w h) = wrong 3 (under w h)
    go (nexts.past w f h) = wrong 3 (past w h)
    go (nexts.whole w f h) =
        cases (eqb (word l 2) 0x0301) (λ a.
        cases (eqb (word l 0) 6) (λ b.
        cases (leb (word l 4) 10)
        (λ c.
        later l f h (eqb-true (word l 2) 0x0301 a) (eqb-true (word l 0) 6 b) (leb-true (word l 4) 10 c) 4294967294 (omega arith)
        (split 4294967294 (drop 6 l)))
        (λ c. wrong 7 (dimension (f, h) (eqb-true (word l 2) 0x0301 a) (eqb-true (word l 0) 6 b) (leb-false (word l 4) 10 c)))
        ) (λ b. wrong 5 (size (f, h) (eqb-true (word l 2) 0x0301 a) (eqb-false (word l 0) 6 b)))
        ) (λ a. wrong 4 (kind (f, h) (eqb-false (word l 2) 0x0301 a)))
