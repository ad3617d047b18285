-- What every call keeps of a state: the arrays' lengths and n; and a refusal leaves it as it came. Assumes nothing.
use Prim.Native.Nat.{ℕ, ◌≤◌}
use mathlib.Core.Logic.{◌≢◌}
use mathlib.Core.Path.{◌≡◌, refl, ◌∙◌}
use mathlib.Core.List.{List, [], ◌∷◌}
use borrow.Author.Tests.{eqb-false}
use lib.Dec.{eqb}
use lib.ListN.{length-set}
use Rattle.hypercube.specs.Replies.{number_of}
use Rattle.hypercube.specs.Bits.{width}
use Rattle.hypercube.specs.declared.Walk.{Walk}
use Rattle.hypercube.specs.declared.Walk.TheVariants.{Found, NoneFree}
use Rattle.hypercube.specs.Tests.{cases}
use Rattle.hypercube.specs.Checks.{Check}
use Rattle.hypercube.proofs.Relabels.{relabel_permutes}
use Rattle.labels.specs.Relabelling.{not_good}
use Rattle.state.specs.declared.State.{State}
use Rattle.state.specs.declared.Call.{Call}
use Rattle.hypercube.specs.declared.Reply.{Reply}
use Rattle.state.specs.declared.Step.{Step}
use Rattle.state.specs.States.{with_condition}
use Rattle.state.specs.Effects.{step, Effect, Sets, Relabels, Grants, Releases, walk_of, grant_step, effected}
use Rattle.state.specs.Acts.{checks_of, effect_of, guarded, acted}
use Rattle.state.proofs.Valid.{Sized, lost-sized, taken-sized}
use Rattle.record.specs.Layout.{encode}
use Rattle.steps.specs.Carried.{stored}

pub record Kept (s : State) (t : Step) : Type 0 where
  pub sized : Sized t.state
  pub same_n : t.state.n ≡ s.n
  pub left : number_of t.reply ≢ 0 → t.state ≡ s

module _ (s : State) (z : Sized s) where
  -- nothing changed
  pub kept_all : (r : Reply) → Kept s (step s r)
  kept_all r = record { sized = z; same_n = refl; left = λ p. refl }

  kept_condition : (x v : ℕ) (r : Reply) → number_of r ≡ 0 → Kept s (step (with_condition s x v) r)
  kept_condition x v r e = record {
    sized = record {
      directions = z.directions;
      holders = z.holders;
      conditions = length-set s.conditions x v ∙ z.conditions;
      stars = z.stars;
    };
    same_n = refl;
    left = λ p. absurd (p e);
  }

  kept_grant : (j : ℕ) (w : Walk) → Kept s (grant_step s j w)
  kept_grant j (Found c t) = record { sized = taken-sized (lost-sized z j) _ j _; same_n = refl; left = λ p. absurd (p refl) }
  kept_grant j (NoneFree t) = kept_all _

  -- what a call does that no check stops
  kept_effect : s.n ≤ width → (e : Effect) → Kept s (effected s e)
  kept_effect small (Sets x v) = kept_condition x v _ refl
  kept_effect small Relabels = record {
    sized = record {
      directions = (relabel_permutes s.n small (not_good s.conditions)).entries;
      holders = z.holders;
      conditions = z.conditions;
      stars = z.stars;
    };
    same_n = refl;
    left = λ p. absurd (p refl);
  }
  kept_effect small (Grants j k f) = kept_grant j (walk_of s j k f)
  kept_effect small (Releases j) = record { sized = lost-sized z j; same_n = refl; left = λ p. absurd (p refl) }

  -- a check that stops it keeps all
  kept_guarded : (ks : List Check) {t : Step} → Kept s t → Kept s (guarded s ks t)
  unfolding guarded
  kept_guarded [] K = K
  kept_guarded (k ∷ ks) K = cases k.met (λ e. rw e (kept_all _)) (λ e. rw e (kept_guarded ks K))

  pub kept : s.n ≤ width → (c : Call) → Kept s (acted s c)
  kept small c = kept_guarded (checks_of s c) (kept_effect small (effect_of c))

  -- whatever it is told, the record of the state after it
  pub stored_kept : (t : Step) → Kept s t → stored (encode s) t ≡ encode t.state
  stored_kept t k = cases (eqb (number_of t.reply) 0) (λ e. rw e) (λ e. rw (e, k.left (eqb-false _ 0 e)))
