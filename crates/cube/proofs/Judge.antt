-- A call that is answered with its verdict's number and bytes is answered right. Assumes nothing.
use mathlib.Core.Path.{◌≡◌, sym, ap, ◌∙◌}
use mathlib.Core.Logic.{◌≢◌}
use mathlib.Core.List.{List}
use Prim.Native.Nat.{ℕ}
use native.Mathlib.Omega.{arith}
use borrow.Author.Tests.{ne_eqb}
use Rattle.history.specs.Account.{History}
use Rattle.history.specs.Causes.{First, causes}
use Rattle.hypercube.specs.declared.Reply.{Reply}
use Rattle.hypercube.specs.declared.Reply.TheVariants.{Granted, Refused, Done}
use Rattle.hypercube.specs.Replies.{number_of, replies}
use Rattle.history.specs.Verdicts.{step, verdict}
use Rattle.history.specs.Claims.{Accepted}
use Rattle.history.specs.Claims as claims
use Rattle.cube.specs.Called.{call_number, call_record, call_reply}
use Rattle.cube.specs.Run.{Exchange, fed}
use Rattle.cube.specs.Demand3.{Judged}
use Rattle.cube.proofs.Heard.{Plain, accepted_zero}
use Rattle.cube.proofs.Answers.{Answers}

-- a number that is not 0 is a refusal's, and 0 is an accepted call's
refused_is : (v : Reply) (q : ℕ) → q ≢ 0 → number_of v ≡ q → (t : ℕ) × (v ≡ Refused q t)
refused_is (Granted j low stars t) q nz e = absurd (nz (sym e))
refused_is (Refused m t) q nz e = (t, ap (λ (k : ℕ). Refused k t) e)
refused_is (Done v) q nz e = absurd (nz (sym e))

zero_accepted : (v : Reply) → Plain v → number_of v ≡ 0 → Accepted v
zero_accepted (Granted j low stars t) w e = tt
zero_accepted (Refused m t) w e = omega (arith, w.0)
zero_accepted (Done v) w e = tt

-- a refusal leaves the record
left : (r f p : List ℕ) → call_number r f p ≢ 0 → call_record r f p ≡ r
unfolding call_record
left r f p nz = rw (ne_eqb (call_number r f p) 0 nz)

module _ (n : ℕ) (h : History) (e : Exchange) (r : List ℕ)
    (J : claims.Judged n h (fed e) (verdict n h (fed e))) (A : Answers n (verdict n h (fed e)) (step n h (fed e)) e r) where
  abbrev m : ℕ
  m = call_number r e.frame e.buffer

  abbrev v : Reply
  v = verdict n h (fed e)

  first : (q : ℕ) → q ≢ 0 → m ≡ q → First (causes n) h (fed e) q
  first q nz z = let s = refused_is v q nz (sym A.returned ∙ z) in J.only_by_first q s.0 s.1

  pub judged : Judged n h e m (call_reply r e.frame e.buffer) r (call_record r e.frame e.buffer)
  judged = record {
    refused_by_first = λ q nz. (first q nz, λ f. A.returned ∙ ap number_of (J.refused_by_first q f));
    accepted_by_none = (
      λ z. J.accepted_by_none.1 (zero_accepted v A.plain (sym A.returned ∙ z)),
      λ f. A.returned ∙ accepted_zero v (J.accepted_by_none.0 f),
    );
    returned = A.returned;
    replied = A.replied;
    left = left r e.frame e.buffer;
    refusal = λ q f. A.replied ∙ ap (λ (u : Reply). replies u e.buffer) (J.refused_by_first q f);
    all_tried = J.all_tried;
    none_free = λ k f. (
      λ z. (J.none_free k f).0 (J.refused_by_first 14 (first 14 (λ q. omega arith) z)),
      λ g. A.returned ∙ ap number_of ((J.none_free k f).1 g),
    );
    gets_first = λ k f g.
        let G = J.gets_first k f g in
        record {
          member = G.member;
          place = G.place;
          in_family = G.in_family;
          free = G.free;
          first = G.first;
          replied = A.replied ∙ ap (λ (u : Reply). replies u e.buffer) G.told;
        };
  }
