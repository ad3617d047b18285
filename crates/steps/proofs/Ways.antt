-- A record that is one, and each way out of a call on it. Assumes nothing.
use Prim.Native.Nat.{ℕ}
use mathlib.Core.Logic.{◌≢◌}
use mathlib.Core.Path.{◌≡◌, ap}
use mathlib.Core.Bool.{true}
use mathlib.Core.List.{List}
use borrow.Author.Tests.{eq-eqb, ne_eqb}
use lib.ListN.{length}
use Rattle.hypercube.specs.Replies.{number_of}
use Rattle.hypercube.specs.Checks.{Check, StopsAt, number_at}
use Rattle.state.specs.declared.State.{State}
use Rattle.hypercube.specs.declared.Reply.{Reply}
use Rattle.hypercube.specs.declared.Reply.TheVariants.{Refused}
use Rattle.state.specs.declared.Step.{Step}
use Rattle.state.specs.Valid.{Valid}
use Rattle.state.specs.Effects.{step}
use Rattle.state.specs.Acts.{refuse, guarded}
use Rattle.state.proofs.Valid.{means_valid}
use Rattle.state.proofs.Steps.{stopped}
use Rattle.record.specs.Layout.{record_size, encode, decode, head_right, valid_record}
use Rattle.record.proofs.Round.{sized-decode, record_says}
use Rattle.steps.specs.Carried.{Does}

-- ---- a record that is one

pub state_valid : (r : List ℕ) → valid_record r ≡ true → Valid (decode r)
state_valid r v = (means_valid (decode r) (sized-decode r).directions).holds (record_says r v).state

module _ (r : List ℕ) (v : valid_record r ≡ true) where
  pub whole : (length r ≡ record_size) × (head_right r ≡ true)
  whole = ((record_says r v).long, (record_says r v).head)

-- ---- a step done to a record

-- a refusal leaves the record as it came
pub told_only : (r : List ℕ) (s : State) (told : Reply) → number_of told ≢ 0 → {t : Step} → step s told ≡ t → Does r t told r
told_only r s told p {t} e = record {
  replied = ap (λ (u : Step). u.reply) e;
  left = rw (← e, ne_eqb (number_of told) 0 p);
}

pub refuses : (r : List ℕ) (m : ℕ) → m ≢ 0 → {t : Step} → refuse (decode r) m ≡ t → {told : Reply} → told ≡ Refused m 0 → Does r t told r
refuses r m p {t} e a = rw a (told_only r (decode r) (Refused m 0) p e)

-- by the check at place i, the first that is met
pub refuses_at : (r : List ℕ) (ks : List Check) (t : Step) (i : ℕ) → number_at ks i ≢ 0 → StopsAt ks i
    → {told : Reply} → told ≡ Refused (number_at ks i) 0 → Does r (guarded (decode r) ks t) told r
refuses_at r ks t i p e a = refuses r (number_at ks i) p (stopped (decode r) ks t i e) a

pub by_step : (r : List ℕ) {t u : Step} → t ≡ u → {told : Reply} {r' : List ℕ} → Does r t told r' → Does r u told r'
by_step r e h = rw (← e) h

-- an accepted call leaves the record of the state that it makes
pub accepts : (r : List ℕ) (s : State) (told : Reply) → number_of told ≡ 0 → {t : Step} → step s told ≡ t → {r' : List ℕ} → r' ≡ encode s
    → Does r t told r'
accepts r s told z {t} e h = record {
  replied = ap (λ (u : Step). u.reply) e;
  left = rw (← e, eq-eqb (number_of told) 0 z) h;
}
