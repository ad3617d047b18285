-- One plain request by best fit, by the history: it is granted exactly when its size is at most the count of free nodes, and what it leaves. Assumes
-- nothing.
use Prim.Native.Nat.{ℕ, ◌+◌, ◌^◌, ◌<◌, ◌≤◌}
use mathlib.Core.Logic.{◌≢◌, ◌⊎◌, inl, inr}
use mathlib.Core.Path.{◌≡◌, refl, sym, ap, ◌∙◌, subst}
use mathlib.Core.Bool.{Bool, true, false, cond, ◌&&◌, or-false}
use mathlib.Core.List.{List, [], ◌∷◌}
use mathlib.Core.Option.{some}
use native.Mathlib.Omega.{arith}
use borrow.Author.Tests.{ne_eqb}
use lib.Dec.{eqb}
use Rattle.hypercube.specs.Lists.{In, among}
use Rattle.hypercube.specs.Labels.{node}
use Rattle.hypercube.specs.BestFit.{best_fit}
use Rattle.hypercube.specs.Choice.{choice}
use Rattle.hypercube.specs.Replies.{number_of}
use Rattle.hypercube.specs.Tests.{fails}
use Rattle.hypercube.specs.declared.Reply.{Reply}
use Rattle.hypercube.specs.declared.Reply.TheVariants.{Granted, Refused, Done}
use Rattle.hypercube.specs.declared.Subcube.{Subcube}
use Rattle.hypercube.specs.declared.Walk.{Walk}
use Rattle.hypercube.specs.declared.Walk.TheVariants.{Found, NoneFree}
use Rattle.hypercube.proofs.Families.{family_subcubes, choice_same}
use Rattle.history.specs.Calls.{Call, Kind, good, repaired, relabel, request, grow, kind, job, dimension, strategy}
use Rattle.history.specs.Calls.{ask, asking, holding, ◌of◌, Effect}
use Rattle.history.specs.Account.{History, free_label, member_nodes}
use Rattle.history.specs.Causes.{NoneMet, NoMemberFree, earlier, last, causes}
use Rattle.history.specs.Verdicts.{chosen, give, accept, tried, step, verdict}
use Rattle.history.specs.Claims.{Accepted, Bounded}
use Rattle.history.proofs.Rows.{cause_first, cause_none}
use Rattle.history.proofs.Effects.{asking_grants}
use Rattle.history.proofs.Chosen.{chosen-free, chosen_none}
use Rattle.history.proofs.Judge.{judged}
use Rattle.no_waste.specs.NoWaste.{Plain, free_nodes, IsGranted, size_granted, Exact}
use Rattle.no_waste.proofs.RowNumbers.{unmet_to, none_met}
use Rattle.no_waste.proofs.OneEach.{OneEach, keeps}
use Rattle.no_waste.proofs.Found.{found_part, found_room, none_room}
use Rattle.no_waste.proofs.FreeLabels.{node_free, free_labels, inside, free_within, free_count, holder_left, count_left, labels_left}

-- of a subcube of dimension k, as told
granted-size : (c : Call) (v : Reply) → IsGranted v → size_granted c v ≡ 2 ^ dimension c
granted-size c (Granted j low stars t) g = refl
granted-size c (Refused m t) g = absurd g
granted-size c (Done v) g = absurd g

granted_accepted : (v : Reply) → IsGranted v → Accepted v
granted_accepted (Granted j low stars t) g = tt
granted_accepted (Refused m t) g = absurd g
granted_accepted (Done v) g = absurd g

-- row 6 is not met
pub job-set : (n : ℕ) (h : History) (c : Call) → Plain n h c → job c ≢ 0
unfolding causes
job-set n h c P z = (unmet_to h c 9 6 (omega arith) (causes n) P.meets_none).0 (inl P.requests, z)

module _ (n : ℕ) (small : n ≤ 10) (h : History) (B : Bounded n h) (c : Call) (P : Plain n h c) (new : (x : ℕ) → h.holder x ≢ job c) where
  abbrev k : ℕ
  k = dimension c

  abbrev free : ℕ → Bool
  free = free_labels n h

  asks : In (kind c) asking
  asks = inl P.requests

  -- ---- it meets no row before 14

  not_in : (ks : List Kind) → (request of ks).test ≡ false → ¬ In (kind c) ks
  not_in ks e i = fails (request of ks).means e (subst (λ (k : Kind). In k ks) P.requests i)

  -- of the rows after 9, row 10 since its job holds nothing, and the others since they are of other kinds
  none_earlier : NoneMet (earlier n) h c
  unfolding causes earlier
  none_earlier = none_met h c 9 (earlier n) (last n ∷ []) P.meets_none (
    λ g. new g.1.0 g.1.2,
    (
      λ g. not_in holding refl g.0,
      (
        λ g. not_in (grow ∷ []) refl g.0,
        (
          λ g. not_in (good ∷ []) refl g.0,
          (λ g. not_in (repaired ∷ []) refl g.0, (λ g. not_in (relabel ∷ []) refl g.0, tt)),
        ),
      ),
    ),
  )

  -- row 7 is not met
  fits : k ≤ n
  unfolding causes
  fits = let no : ¬ (n < k) = λ l. (unmet_to h c 9 7 (omega arith) (causes n) P.meets_none).0 (asks, l) in omega arith

  -- ---- what is chosen, and told

  asked-free : (l : ℕ) → l < 2 ^ n → free_label h (ask c) l ≡ free l
  asked-free l b =
      let x : ℕ = node h.directions l in
      let own : eqb (h.holder x) (job c) ≡ false = ne_eqb (h.holder x) (job c) (new x) in
      rw own (ap (λ (v : Bool). eqb (h.condition x) 1 && v) (or-false (eqb (h.holder x) 0))) ∙ sym (free_within n h l b)

  chosen_best : chosen n h (ask c) ≡ best_fit n k free
  chosen_best =
      choice_same (strategy c) n k (free_label h (ask c)) free small fits asked-free ∙ ap (λ (s : ℕ). choice s n k free) P.best_fit

  found_told : (m : Subcube) (t : ℕ) → chosen n h (ask c) ≡ Found m t → IsGranted (verdict n h c)
  found_told m t e =
      let r = chosen-free n h (ask c) small m t e in
      let some : ¬ NoMemberFree n h (ask c) = λ N. N m r.0 r.1 in
      subst IsGranted (sym ((judged n h c small).gets_first asks none_earlier some).told) tt

  none_told : (t : ℕ) → chosen n h (ask c) ≡ NoneFree t → verdict n h c ≡ Refused 14 (tried n h c 14)
  none_told t e = ((judged n h c small).none_free asks none_earlier).1 (chosen_none n h (ask c) small fits t e).1

  -- the account after it
  next : step n h c ≡ give n h (job c) (chosen n h (ask c))
  unfolding step accept
  next = go (chosen n h (ask c)) refl
    where
      go : (w : Walk) → chosen n h (ask c) ≡ w → step n h c ≡ give n h (job c) w
      go (Found m t) e =
          let met = (judged n h c small).accepted_by_none.1 (granted_accepted (verdict n h c) (found_told m t e)) in
          rw ((cause_none n h c).1 met) (ap (λ (x : Effect). accept n x h c) (asking_grants (kind c) asks) ∙ ap (give n h (job c)) e)
      go (NoneFree t) e = rw ((cause_first n h c 14).1 ((judged n h c small).only_by_first 14 (tried n h c 14) (none_told t e)))

  -- ---- with at most one lone pair at each level

  module _ (one : OneEach free) where
    pub exact : Exact n h c (verdict n h c)
    exact = go (chosen n h (ask c)) refl
      where
        go : (w : Walk) → chosen n h (ask c) ≡ w → Exact n h c (verdict n h c)
        go (Found m t) e =
            let room = found_room n k free small fits (inside n h) one m t (sym chosen_best ∙ e) in
            let b : 2 ^ k ≤ free_nodes n h = omega (arith, room, free_count n small h B) in
            record { granted_when = (λ _. b, λ _. found_told m t e); else_none_free = λ l. absurd (omega arith) }
        go (NoneFree t) e =
            let room = none_room n k free small fits (inside n h) one t (sym chosen_best ∙ e) in
            let b : free_nodes n h < 2 ^ k = omega (arith, room, free_count n small h B) in
            let told = none_told t e in
            record { granted_when = (λ g. absurd (subst IsGranted told g), λ l. absurd (omega arith)); else_none_free = λ _. ap number_of told }

    -- what is left of free nodes and labels, and who holds nodes
    pub record Left (g : History) : Type 0 where
      pub count : free_nodes n g + size_granted c (verdict n h c) ≡ free_nodes n h
      pub one_each : OneEach (free_labels n g)
      pub holders : (j x : ℕ) → job c ≢ j → h.holder x ≢ j → g.holder x ≢ j

    given_left : (w : Walk) → chosen n h (ask c) ≡ w → Left (give n h (job c) w)
    given_left (Found m t) e =
        let r = chosen-free n h (ask c) small m t e in
        let S = family_subcubes (strategy c) n k fits m r.0 in
        let p = found_part n k free small fits (inside n h) m t (sym chosen_best ∙ e) in
        record {
          count = ap (λ (v : ℕ). free_nodes n (give n h (job c) (Found m t)) + v) (granted-size c (verdict n h c) (found_told m t e))
              ∙ count_left n small h B (job c) (job-set n h c P) new k m t S (λ x i. was_free x (r.1 x i));
          one_each = keeps k p.j free (free_labels n (give n h (job c) (Found m t))) p.a one p.smallest
              (labels_left n small h B (job c) (job-set n h c P) new k m t S p.a fits p.is);
          holders = λ j x a b. rw (holder_left n small h B (job c) (job-set n h c P) new k m t S x) (either (among x (member_nodes h m)) j x a b);
        }
      where
        was_free : (x : ℕ) → (h.condition x ≡ 1) × ((h.holder x ≡ 0) ⊎ (h.holder x ≡ job c)) → node_free h x ≡ true
        was_free x (g, inl z) = rw (g, z)
        was_free x (g, inr z) = absurd (new x z)

        either : (b : Bool) (j x : ℕ) → job c ≢ j → h.holder x ≢ j → cond b (job c) (h.holder x) ≢ j
        either true j x a b = a
        either false j x a b = b
    given_left (NoneFree t) e = record {
      count = rw (none_told t e) (omega arith);
      one_each = one;
      holders = λ j x a b. b;
    }

    pub step_left : Left (step n h c)
    step_left = subst Left (sym next) (given_left (chosen n h (ask c)) refl)
