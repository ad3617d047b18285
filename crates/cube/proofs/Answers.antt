-- A call on the bytes of a state is answered what the history says, and leaves the bytes of the state that the history goes on with. Assumes nothing.
use mathlib.Core.Path.{◌≡◌, refl, ap, ◌∙◌, subst}
use mathlib.Core.Bool.{true, false}
use mathlib.Core.List.{List}
use mathlib.Core.Option.{Option, none}
use Prim.Native.Nat.{ℕ, ◌≤◌}
use native.Mathlib.Omega.{arith}
use lib.Dec.{ltb}
use lib.ListN.{length, drop}
use Rattle.hypercube.specs.Tests.{cases}
use Rattle.hypercube.specs.Checks.{first_met}
use Rattle.history.specs.Calls.{kind}
use Rattle.history.specs.Account.{History}
use Rattle.history.specs.Causes.{checks, causes}
use Rattle.std.specs.Prelude.{Result, Ok, Err}
use Rattle.hypercube.specs.declared.Refusal.{Refusal}
use Rattle.hypercube.specs.declared.Reply.{Reply}
use Rattle.hypercube.specs.declared.Reply.TheVariants.{Refused}
use Rattle.history.specs.Verdicts.{cause, step_by, verdict_by, step, verdict}
use Rattle.history.specs.Claims.{Bounded}
use Rattle.state.specs.declared.State.{State}
use Rattle.state.specs.declared.Call.{Call}
use Rattle.state.specs.declared.Step.{Step}
use Rattle.state.proofs.Valid.{Sized, Valid, means_valid}
use Rattle.record.specs.Layout.{encode, valid_record}
use Rattle.record.proofs.Round.{decode-encode, valid-encode}
use Rattle.frames.specs.Parse.{parsed}
use Rattle.steps.proofs.Keeps.{Kept, kept_all, kept, stored_kept}
use Rattle.cube.specs.Called.{step_of, step_on, call_number, call_record, call_reply}
use Rattle.hypercube.specs.Replies.{number_of, replies}
use Rattle.cube.specs.Run.{Exchange, fed}
use Rattle.state.specs.View.{view}
use Rattle.state.proofs.Effected.{Does}
use Rattle.cube.proofs.Framed.{does}
use Rattle.cube.proofs.Heard.{Plain, plain_of, replies_all}

-- the bytes r are those of a state that the history h is read from
pub record Stands (n : ℕ) (h : History) (r : List ℕ) : Type 0 where
  pub state : State
  pub bytes : r ≡ encode state
  pub sized : Sized state
  pub dimension : state.n ≡ n
  pub viewed : view state ≡ h

-- the call e on the bytes r is answered v, and leaves bytes of the history h
pub record Answers (n : ℕ) (v : Reply) (h : History) (e : Exchange) (r : List ℕ) : Type 0 where
  pub plain : Plain v
  pub returned : call_number r e.frame e.buffer ≡ number_of v
  pub replied : call_reply r e.frame e.buffer ≡ replies v e.buffer
  pub next : Stands n h (call_record r e.frame e.buffer)

-- the record of a valid state passes refusal 1's test
passes : (s : State) → Sized s → Valid s → valid_record (encode s) ≡ true
passes s z w = valid-encode s z ∙ (means_valid s z.directions).shows w

module _ (s : State) (z : Sized s) (w : Valid s) (e : Exchange) where
  -- a reply buffer under 12 bytes
  short : ltb (length e.buffer) 12 ≡ true → Answers s.n (Refused 2 0) (view s) e (encode s)
  unfolding call_number call_reply call_record
  short l = record {
    plain = (omega arith, λ q. refl);
    returned = rw (passes s z w, l);
    replied = rw (passes s z w, l);
    next = record { state = s; bytes = rw (passes s z w, l); sized = z; dimension = refl; viewed = refl };
  }

  -- what any frame keeps
  kept_frame : (p : Result Call Refusal) → Kept s (step_of s p)
  kept_frame (Ok c) = kept s z w.small c
  kept_frame (Err e) = kept_all s z _

  -- with room: the first cause from row 3 on, and what the frame does
  abbrev first : Option ℕ
  first = first_met (checks (drop 1 (causes s.n)) (view s) (kind (fed e)) (fed e)) none

  long : ltb (length e.buffer) 12 ≡ false
      → Answers s.n (verdict_by s.n first (view s) (fed e)) (step_by s.n first (view s) (fed e)) e (encode s)
  unfolding call_number call_reply call_record step_on
  long l = record {
    plain = subst Plain D.told (plain_of t.reply D.ends);
    returned = rw (passes s z w, l, decode-encode s z) (ap number_of D.told);
    replied = rw (passes s z w, l, decode-encode s z)
        (replies_all t.reply e.buffer D.ends ∙ ap (λ (v : Reply). replies v e.buffer) D.told);
    next = record {
      state = t.state;
      bytes = rw (passes s z w, l, decode-encode s z) (stored_kept s z t K);
      sized = K.sized;
      dimension = K.same_n;
      viewed = D.stands;
    };
  }
    where
      t : Step
      t = step_of s (parsed e.frame)

      D : Does s (fed e) t first
      D = does s z w (fed e)

      K : Kept s t
      K = kept_frame (parsed e.frame)

  on_state : Answers s.n (verdict s.n (view s) (fed e)) (step s.n (view s) (fed e)) e (encode s)
  unfolding verdict step cause causes first_met
  on_state = cases (ltb (length e.buffer) 12) (λ l. rw l (short l)) (λ l. rw l (long l))

-- a history within its bounds is read from valid states only
valid_of : (s : State) → s.n ≤ 10 → Bounded s.n (view s) → Valid s
valid_of s small B = record {
  small = small;
  permutes = B.permutes;
  conditions = λ x l. B.conditions x;
  no_conditions = λ x g l. B.no_conditions x g;
  no_holders = λ x g l. B.no_holders x g;
  unstarred = λ x l. B.unstarred x;
}

valid_stands : {n : ℕ} {h : History} {r : List ℕ} → n ≤ 10 → Bounded n h → (S : Stands n h r) → Valid S.state
valid_stands small B S = valid_of S.state (rw S.dimension small) (rw (S.dimension, S.viewed) B)

-- so the bytes pass refusal 1's test
pub stands_valid : {n : ℕ} {h : History} {r : List ℕ} → n ≤ 10 → Bounded n h → Stands n h r → valid_record r ≡ true
stands_valid small B S = rw S.bytes (passes S.state S.sized (valid_stands small B S))

pub answers : (n : ℕ) (h : History) (r : List ℕ) → n ≤ 10 → Bounded n h → Stands n h r → (e : Exchange)
    → Answers n (verdict n h (fed e)) (step n h (fed e)) e r
answers n h r small B S e =
    rw (S.bytes, ← S.viewed, ← S.dimension) (on_state S.state S.sized (valid_stands small B S) e)
