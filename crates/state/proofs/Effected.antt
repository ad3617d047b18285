-- An effect done to a state, and what is told, is what the history says of a call that has it. Assumes nothing.
use mathlib.Core.Path.{◌≡◌, refl, sym, ap, ◌∙◌}
use mathlib.Core.Logic.Iff
use mathlib.Core.Logic.{◌≢◌, ◌⊎◌, inl, inr}
use mathlib.Core.Bool.{false, cond}
use mathlib.Core.Option.{Option, none, some}
use Prim.Native.Nat.{ℕ, ◌<◌, ◌≤◌}
use native.Mathlib.Nat.{lt_of_lt_of_le}
use native.Mathlib.Omega.{arith}
use borrow.Author.Tests.{leb-false, ltb-false, ne_eqb}
use lib.Dec.{ltb, leb}
use lib.ListN.{length}
use lib.Pow.{pow_mono}
use Rattle.hypercube.specs.Replies.{number_of}
use Rattle.hypercube.specs.Labels.{node}
use Rattle.hypercube.specs.declared.Walk.{Walk}
use Rattle.hypercube.specs.declared.Walk.TheVariants.{Found, NoneFree}
use Rattle.hypercube.specs.declared.Reply.{Reply}
use Rattle.hypercube.specs.declared.Reply.TheVariants.{Refused}
use Rattle.history.specs.Calls.{Call, ask, kind, node_field, job, dimension, strategy, Effect, sets, relabels, grants, releases, effect}
use Rattle.history.specs.Account.{History, member_nodes, with_condition, take_over}
use Rattle.history.specs.Causes.{no_member_free}
use Rattle.history.specs.Verdicts.{chosen, give, grant, accept, tell, step_by, verdict_by}
use Rattle.history.specs.Claims.{Accepted}
use Rattle.history.proofs.Chosen.{chosen-free, chosen_none, none_in, none_tested}
use Rattle.history.proofs.Granted.{told_nodes, granted-nodes}
use Rattle.state.specs.declared.State.{State}
use Rattle.state.specs.declared.Step.{Step}
use Rattle.state.specs.States as states
use Rattle.state.specs.Checks.{node_count}
use Rattle.state.specs.Effects.{step, Sets, Relabels, Grants, Releases, effected, grant_step}
use Rattle.state.specs.Acts.{refuse}
use Rattle.state.proofs.Valid.{Sized, lost-sized, Valid}
use Rattle.state.specs.View.{view}
use Rattle.state.proofs.View.{entry_set, view-lost, view-taken}

-- a step on the state s is what the history says of the call c whose first cause is o
pub record Does (s : State) (c : Call) (st : Step) (o : Option ℕ) : Type 0 where
  pub told : st.reply ≡ verdict_by s.n o (view s) c
  pub stands : view st.state ≡ step_by s.n o (view s) c
  -- accepted, or refused with a number from 3 on
  pub ends : Accepted st.reply ⊎ (3 ≤ number_of st.reply)

module _ (s : State) (z : Sized s) (w : Valid s) (c : Call) where
  -- a refusal with a number from 3 on, and not 14
  pub refuses : (m : ℕ) → (3 ≤ m) × (m ≢ 14) → Does s c (refuse s m) (some m)
  refuses m b = record { told = rw (ne_eqb m 14 b.1); stands = refl; ends = inr b.0 }

  -- a call of effect x that meets no cause
  accepts : (x : Effect) → effect (kind c) ≡ x → {t : State} {r : Reply} → Accepted r → r ≡ tell s.n x (view s) c
      → view t ≡ accept s.n x (view s) c → Does s c (step t r) none
  accepts x e a q h = record { told = rw e q; stands = rw e h; ends = inl a }

  pub does_sets : (v : ℕ) → effect (kind c) ≡ sets v → leb (node_count s) (node_field c) ≡ false → Does s c (effected s (Sets (node_field c) v)) none
  unfolding tell accept
  does_sets v e l =
      let b : node_field c < length s.conditions = rw z.conditions
      (lt_of_lt_of_le (leb-false (node_count s) (node_field c) l) (pow_mono w.small)) in
      accepts (sets v) e tt refl (ap (with_condition (view s)) (entry_set s.conditions (node_field c) v b))

  pub does_relabels : effect (kind c) ≡ relabels → Does s c (effected s Relabels) none
  unfolding tell accept
  does_relabels e = accepts relabels e tt refl refl

  pub does_releases : effect (kind c) ≡ releases → Does s c (effected s (Releases (job c))) none
  unfolding tell accept
  does_releases e = accepts releases e tt refl (view-lost s z (job c))

  -- by the walk's answer: what the call is told and does is the grant of that answer
  granted_or_none : effect (kind c) ≡ grants → dimension c ≤ s.n → (a : Walk) → chosen s.n (view s) (ask c) ≡ a
      → Does s c (grant_step s (job c) a) (cond (none_in a) (some 14) none)
  unfolding tell accept
  granted_or_none e fits (Found m t) q =
      let g = granted-nodes s.n (view s) (ask c) m w.small w.permutes fits (chosen-free s.n (view s) (ask c) w.small m t q).0 in
      let stars : ℕ = node s.map m.stars in
      let given = view-taken (states.lost s (job c)) (lost-sized z (job c)) (told_nodes (view s) m) (member_nodes (view s) m) (job c) stars
      (λ y. Iff.symm (g.same y)) (λ y i. lt_of_lt_of_le (g.below y i) (pow_mono w.small)) in
      let lost = ap (λ (h : History). take_over h (member_nodes (view s) m) (job c) stars) (view-lost s z (job c)) in
      accepts grants e tt (ap (grant s.n (view s) (job c)) (sym q))
      (given ∙ lost ∙ ap (give s.n (view s) (job c)) (sym q))
  granted_or_none e fits (NoneFree t) q = record {
    told = ap (Refused 14) (chosen_none s.n (view s) (ask c) w.small fits t q).0;
    stands = refl;
    ends = inr (omega arith);
  }

  -- the same as row 14 has it
  pub does_grants : effect (kind c) ≡ grants → ltb s.n (dimension c) ≡ false
      → Does s c (effected s (Grants (job c) (dimension c) (strategy c))) (cond (no_member_free s.n (view s) (ask c)).test (some 14) none)
  does_grants e l =
      let fits = ltb-false s.n (dimension c) l in
      rw (none_tested s.n (view s) (ask c) w.small fits (chosen s.n (view s) (ask c)) refl)
      (granted_or_none e fits (chosen s.n (view s) (ask c)) refl)
