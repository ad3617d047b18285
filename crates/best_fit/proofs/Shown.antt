-- What the levels have shown is best fit's choice so far, and in the end its answer. Assumes nothing.
use Prim.Native.Nat.{ℕ, suc, ◌+◌, ◌-◌, ◌*◌, ◌^◌, ◌<◌, ◌≤◌}
use mathlib.Core.Logic.{◌≢◌}
use mathlib.Core.Path.{◌≡◌, refl, sym, ap, ap₂, ◌∙◌, fun_ext, subst}
use mathlib.Core.Bool.{Bool, true, false, not, cond, ◌&&◌, false≢true}
use mathlib.Core.List.{List}
use mathlib.Core.Option.{none, some}
use Rattle.std.specs.declared.option.Option.{Option}
use Rattle.std.specs.declared.option.Option.TheVariants.{Some, None}
use Rattle.std.specs.Option.{is_none, option_or}
use native.Mathlib.Decide.{ℕ_discrete}
use native.Mathlib.Nat.{pow-succ', mul-le-mul_right}
use native.Mathlib.Omega.{arith}
use borrow.Author.Tests.{le-leb, leb-true, leb-false, eqb-true, eqb-false, not-true, not-false}
use lib.Dec.{eqb, leb}
use lib.ListN.{length}
use lib.Pow.{pow-add, pow_mono}
use Rattle.hypercube.specs.Bits.{width}
use Rattle.hypercube.specs.Lists.{count_below}
use Rattle.hypercube.specs.Levels.{joined, level, lone, free_half}
use Rattle.hypercube.specs.BestFit.{maximal, smallest, part, best_fit}
use Rattle.hypercube.specs.Subcubes.{subcube}
use Rattle.hypercube.specs.Tests.{cases}
use Rattle.hypercube.specs.Families.{buddy_member}
use Rattle.hypercube.specs.declared.Subcube.{Subcube}
use Rattle.hypercube.specs.declared.Walk.TheVariants.{Found, NoneFree}
use Rattle.hypercube.proofs.Levels.{level-suc}
use Rattle.hypercube.proofs.MaximalCount.{count_next, count_last, count_bound}
use Rattle.hypercube.proofs.ByLevels.{NoLone, best_at, best_top, best_none}
use Rattle.runs.specs.Flagged.{flagged}
use Rattle.best_fit.specs.declared.Seen.{Seen}
use Rattle.best_fit.specs.Entries.{Laid, Risen, ZeroOne}
use Rattle.best_fit.specs.Seen.{first_below, taking, after_level, seeing, at_top, answering}
use Rattle.hypercube.proofs.Below.{count_same}
use Rattle.best_fit.proofs.Counts.{count_pairs, none_counted, is_first, first_below_lem}
use Rattle.best_fit.proofs.Pairs.{told, zero_one, joined_same, lone_same, half_same}

-- ---- one level after the other

-- a level has twice the pairs' number
level_pairs : (n d : ℕ) → d < n → 2 ^ (n - d) ≡ 2 * 2 ^ (n - d - 1)
level_pairs n d h = let e : n - d ≡ suc (n - d - 1) = omega arith in ap (λ (z : ℕ). 2 ^ z) e ∙ pow-succ' 2 (n - d - 1)

-- the pairs of level d, in labels
pub pairs_fit : (n d : ℕ) → d < n → n ≤ 10 → 2 ^ (n - d - 1) * 2 ^ d ≤ 512
pairs_fit n d h w = omega (arith, pow-add 2 (n - d - 1) d, pow_mono {i = n - d - 1 + d} {j = 9} (omega arith))

pub pairs_small : (n d : ℕ) → d < n → n ≤ 10 → 2 ^ (n - d - 1) ≤ 512
pairs_small n d h w = pow_mono {i = n - d - 1} {j = 9} (omega arith)

-- the free half of a pair, as a label
pub half_fits : (g : ℕ → Bool) (x N u : ℕ) → x < N → N * u ≤ 512 → free_half g x * u ≤ 1024
half_fits g x N u l h = omega (arith, mul-le-mul_right u (inside (g (2 * x))))
  where
    inside : (t : Bool) → cond t (2 * x) (2 * x + 1) ≤ 2 * N
    inside true = omega arith
    inside false = omega arith

-- level 0 is the flags
pub laid_first : (f : ℕ → Bool) (n c free : ℕ) (ls : List ℕ) → c ≡ 2 ^ n → Laid f c 1024 free ls → Laid (level f 0) (2 ^ (n - 0)) 1024 free ls
unfolding level
laid_first f n c free ls e L =
    let z : n ≡ n - 0 = omega arith in
    subst (λ (v : ℕ). Laid f v 1024 free ls) (e ∙ ap (λ (v : ℕ). 2 ^ v) z) L

module _ (f : ℕ → Bool) (n d : ℕ) {ls : List ℕ} {free : ℕ} (h : d < n) (L : Laid (level f d) (2 ^ (n - d)) 1024 free ls) where
  -- the entries tell level d
  pub tells : (x : ℕ) → x < 2 * 2 ^ (n - d - 1) → flagged ls x ≡ level f d x
  tells x l = told (level f d) (2 ^ (n - d)) ls L.tells x (omega (arith, level_pairs n d h))

  pub pairs_zero_one : ZeroOne (2 * 2 ^ (n - d - 1)) ls
  pairs_zero_one x l = zero_one (level f d) (2 ^ (n - d)) ls L.tells x (omega (arith, level_pairs n d h))

  pub alone_count : free ≡ count_below (2 ^ (n - d - 1)) (lone (flagged ls)) + 2 * count_below (2 ^ (n - d - 1)) (joined (flagged ls))
  alone_count =
      L.count ∙ ap (λ (z : ℕ). count_below z (level f d)) (level_pairs n d h)
      ∙ sym (count_same (2 * 2 ^ (n - d - 1)) (flagged ls) (level f d) tells) ∙ count_pairs (flagged ls) (2 ^ (n - d - 1))

  above_same : (x : ℕ) → x < 2 ^ (n - d - 1) → joined (flagged ls) x ≡ level f (d + 1) x
  above_same x l =
      let e : suc d ≡ d + 1 = omega arith in
      joined_same (flagged ls) (level f d) (2 ^ (n - d - 1)) tells x l ∙ sym (level-suc d f x) ∙ ap (λ (z : ℕ). level f z x) e

  -- the level above, once it has risen
  pub laid_above : {above ls' : List ℕ} {both : ℕ} → Laid (joined (flagged ls)) (2 ^ (n - d - 1)) 512 both above
      → Risen above (2 ^ (n - d - 1)) ls' → Laid (level f (d + 1)) (2 ^ (n - (d + 1))) 1024 both ls'
  laid_above J R =
      let e : n - (d + 1) ≡ n - d - 1 = omega arith in
      rw e (record {
        long = R.long;
        tells = λ x l. R.same x l ∙ J.tells x l ∙ ap (λ (b : Bool). cond b 1 0) (above_same x l);
        count = J.count ∙ count_same (2 ^ (n - d - 1)) (joined (flagged ls)) (level f (d + 1)) above_same;
      })

-- ---- what is taken

and_both : (a b : Bool) → a && b ≡ true → (a ≡ true) × (b ≡ true)
and_both true b e = (refl, e)
and_both false b e = absurd (false≢true e)

none_yet : (o : Option ℕ) → is_none o ≡ true → o ≡ None
none_yet None e = refl
none_yet (Some low) e = absurd (false≢true e)

taking-true : (k d : ℕ) (o : Option ℕ) (c : ℕ) → taking k d o c ≡ true → (o ≡ None) × (k ≤ d) × (c ≢ 0)
taking-true k d o c e =
    let p = and_both (is_none o && leb k d) (not (eqb c 0)) e in
    let q = and_both (is_none o) (leb k d) p.0 in
    (none_yet o q.0, leb-true k d q.1, eqb-false c 0 (not-true (eqb c 0) p.1))

taking-false : (k d : ℕ) (o : Option ℕ) (c : ℕ) → taking k d o c ≡ false → o ≡ None → k ≤ d → c ≡ 0
taking-false k d (Some low) c e z h = cc
taking-false k d None c e z h = eqb-true c 0 (not-false (eqb c 0) (ap (λ (b : Bool). b && not (eqb c 0)) (sym (le-leb k d h)) ∙ e))

-- the block that is taken has this lowest label
abbrev Takes : ℕ → ℕ → (ℕ → Bool) → ℕ → Type 0
Takes n k f low = (m : Subcube) × (smallest k (maximal n f) ≡ some m) × (m.low.0 ≡ low)

-- the levels below d have shown s
pub record Shown (n k d : ℕ) (f : ℕ → Bool) (s : Seen) : Type 0 where
  pub count : s.tried + length (maximal (n - d) (level f d)) ≡ length (maximal n f)
  pub untaken : s.taken ≡ None → NoLone n f k d
  pub taken : (low : ℕ) → s.taken ≡ Some low → Takes n k f low

pub shown_first : (n k : ℕ) (f : ℕ → Bool) → Shown n k 0 f (record { tried = 0; taken = None })
unfolding level
shown_first n k f = record {
  count =
      let z : n - 0 ≡ n = omega arith in
      let same : length (maximal (n - 0) (level f 0)) ≡ length (maximal n f) = ap (λ (v : ℕ). length (maximal v f)) z in
      omega (arith, same);
  untaken = λ u e β p l. absurd (omega arith);
  taken = λ low e. cc;
}

-- what is tried is small
pub tried_small : (n k d : ℕ) (f : ℕ → Bool) (s : Seen) → n ≤ width → Shown n k d f s → s.tried ≤ 1024
tried_small n k d f s w S = omega (arith, S.count, count_bound n f w, pow_mono {i = n} {j = 10} w)

-- level d is looked at
module _ (n k d : ℕ) (f g : ℕ → Bool) (s : Seen) (w : n ≤ width) (h : d < n) (same : (x : ℕ) → x < 2 * 2 ^ (n - d - 1) → g x ≡ level f d x)
    (S : Shown n k d f s) where
  abbrev N : ℕ
  N = 2 ^ (n - d - 1)

  abbrev C : ℕ
  C = count_below N (lone g)

  same_lone : (x : ℕ) → x < N → lone g x ≡ lone (level f d) x
  same_lone = lone_same g (level f d) N same

  counted : s.tried + C + length (maximal (n - (d + 1)) (level f (d + 1))) ≡ length (maximal n f)
  counted =
      let e : n - d ≡ suc (n - d - 1) = omega arith in
      let e' : n - (d + 1) ≡ n - d - 1 = omega arith in
      let one : suc d ≡ d + 1 = omega arith in
      let up : joined (level f d) ≡ level f (d + 1) = fun_ext (λ x. sym (level-suc d f x)) ∙ ap (level f) one in
      let next : length (maximal (n - d) (level f d)) ≡ length (maximal (n - (d + 1)) (level f (d + 1))) + count_below N (lone (level f d)) =
      ap (λ (z : ℕ). length (maximal z (level f d))) e ∙ count_next (n - d - 1) (level f d) (omega arith)
      ∙ ap₂ (λ (z : ℕ) (p : ℕ → Bool). length (maximal z p) + count_below N (lone (level f d))) (sym e') up in
      omega (arith, S.count, next, count_same N (lone g) (lone (level f d)) same_lone)

  -- a level without a lone pair
  none_here : C ≡ 0 → NoLone n f k d → NoLone n f k (d + 1)
  none_here z before e β p l b = go (ℕ_discrete e d)
    where
      go : Dec (e ≡ d) → lone (level f e) β ≡ false
      go (yes i) =
          let same_pairs : n - suc e ≡ n - d - 1 = omega arith in
          let b' : β < N = rw same_pairs at b in
          rw i (sym (same_lone β b') ∙ none_counted (lone g) N z β b')
      go (no i) = before e β p (omega arith) b

  none_small : d < k → NoLone n f k d → NoLone n f k (d + 1)
  none_small q before e β p l b = before e β p (omega arith) b

  shown_after : (t : Bool) → taking k d s.taken C ≡ t → Shown n k (d + 1) f (after_level t (free_half g (first_below N (lone g)) * 2 ^ d) s C)
  shown_after true t =
      let T = taking-true k d s.taken C t in
      let β = first_below N (lone g) in
      let small : N ≤ 512 = pairs_small n d h w in
      let F = is_first (lone g) N small in
      let b : β < 512 = first_below_lem (lone g) N small T.2 in
      let inside : β < N = F.within b in
      let same_pairs : n - d - 1 ≡ n - suc d = omega arith in
      let block : smallest k (maximal n f) ≡ some (buddy_member d (free_half (level f d) β)) =
      best_at n k d β f w T.1 h (S.untaken T.0) (subst (λ (z : ℕ). β < 2 ^ z) same_pairs inside) (sym (same_lone β inside) ∙ F.passes b)
      (λ γ l. sym (same_lone γ (omega arith)) ∙ F.before γ (omega arith) l) in
      record {
        count = counted;
        untaken = λ e. cc;
        taken = λ low e.
            let lowest : free_half g β * 2 ^ d ≡ low = cc in (
              buddy_member d (free_half (level f d) β),
              block,
              ap (λ (z : ℕ). z * 2 ^ d) (sym (half_same g (level f d) N same β inside)) ∙ lowest,
            );
      }
  shown_after false t = record {
    count = counted;
    untaken = λ e.
        cases (leb k d) (λ q. none_here (taking-false k d s.taken C t e (leb-true k d q)) (S.untaken e))
        (λ q. none_small (leb-false k d q) (S.untaken e));
    taken = S.taken;
  }

  pub shown_next : Shown n k (d + 1) f (seeing k d N g s)
  shown_next = shown_after (taking k d s.taken C) refl

module _ (k d N : ℕ) (g : ℕ → Bool) (s : Seen) (alone : ℕ) (e : alone ≡ count_below N (lone g)) where
  -- the first lone pair is there
  pub block_place : N ≤ 512 → taking k d s.taken alone ≡ true → (first_below N (lone g) < 512) × (first_below N (lone g) < N)
  block_place small h =
      let b = first_below_lem (lone g) N small (λ z. (taking-true k d s.taken alone h).2 (e ∙ z)) in
      (b, (is_first (lone g) N small).within b)

-- ---- the answer

module _ (n k : ℕ) (f : ℕ → Bool) where
  answered : (o : Option ℕ) (tried : ℕ) → tried ≡ length (maximal n f) → (o ≡ None → smallest k (maximal n f) ≡ none)
      → ((low : ℕ) → o ≡ Some low → Takes n k f low) → answering k o tried ≡ best_fit n k f
  answered (Some low) tried e a b =
      let T = b low refl in
      ap₂ (λ (x y : ℕ). Found (subcube x (2 ^ k - 1)) y) (sym T.2) e ∙ ap (part k (length (maximal n f))) (sym T.1)
  answered None tried e a b = ap NoneFree e ∙ ap (part k (length (maximal n f))) (sym (a refl))

  pub shown_answer : (s : Seen) (t : Bool) → n ≤ width → k ≤ n → Shown n k n f s → t ≡ level f n 0
      → answering k (at_top t s).taken (at_top t s).tried ≡ best_fit n k f
  shown_answer s t w h S = go t
    where
      total : s.tried + cond (level f n 0) 1 0 ≡ length (maximal n f)
      total =
          let z : n - n ≡ 0 = omega arith in
          ap (λ (v : ℕ). s.tried + v) (sym (ap (λ (v : ℕ). length (maximal v (level f n))) z ∙ count_last (level f n))) ∙ S.count

      -- where the whole cube is free, a block is taken, the cube at the latest
      whole : (o : Option ℕ) → s.taken ≡ o → level f n 0 ≡ true → (low : ℕ) → option_or o (Some 0) ≡ Some low → Takes n k f low
      whole (Some x) b t low e = S.taken low (b ∙ e)
      whole None b t low e = let zero_is : 0 ≡ low = cc in (buddy_member n 0, best_top n k f w h (S.untaken b) t, omega (arith, zero_is))

      never : (o : Option ℕ) → option_or o (Some 0) ≡ None → smallest k (maximal n f) ≡ none
      never (Some x) e = cc
      never None e = cc

      go : (t : Bool) → t ≡ level f n 0 → answering k (at_top t s).taken (at_top t s).tried ≡ best_fit n k f
      go true e = answered (option_or s.taken (Some 0)) (s.tried + 1) (rw (← e) at total) (never s.taken) (whole s.taken refl (sym e))
      go false e =
          answered s.taken s.tried (omega (arith, rw (← e) at total)) (λ z. best_none n k f w (S.untaken z) (sym e)) S.taken
