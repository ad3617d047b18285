-- A list of calls from any record that stands for a history at which a list may begin. Assumes nothing.
use mathlib.Core.Path.{◌≡◌, refl, sym, ap₂, ◌∙◌, subst}
use mathlib.Core.List.{List}
use Prim.Native.Nat.{ℕ, ◌≤◌}
use Rattle.hypercube.specs.Replies.{heard}
use Rattle.history.specs.Account.{History}
use Rattle.history.specs.Verdicts.{verdict, verdicts}
use Rattle.history.specs.Held.{held, held_after, held_before}
use Rattle.history.specs.Claims.{Bounded, Begins, HeldRight, Right}
use Rattle.history.proofs.Theorem.{history_right}
use Rattle.cube.specs.Called.{delivered}
use Rattle.cube.specs.Run.{Exchange, Exchanges, begin, ◌next◌, fed, feed, record_after, number, reply, held_at, history_from}
use Rattle.cube.specs.Demand3.{Recorded, ListRight}
use Rattle.cube.proofs.Heard.{heard_back}
use Rattle.cube.proofs.Answers.{Stands, Answers, answers}
use Rattle.cube.proofs.Judge.{judged}
use Rattle.cube.proofs.Loads.{stands_says, stands_loads}
use Rattle.cube.proofs.Records.{reads, recorded}

module _ (n : ℕ) (small : n ≤ 10) (r : List ℕ) (s : History) (S₀ : Stands n s r) (B₀ : Begins n s) where
  right : (es : Exchanges) → Right n s (feed es)
  right es = history_right n small s B₀ (feed es)

  bounded : (es : Exchanges) → Bounded n (history_from n s es)
  bounded es = (right es).begins.bounded

  -- each call leaves the history's record, and is answered as the history says
  stands : (es : Exchanges) → Stands n (history_from n s es) (record_after delivered r es)
  stands begin = S₀
  stands (es next e) = (answers n (history_from n s es) (record_after delivered r es) small (bounded es) (stands es) e).next

  answered : (es : Exchanges) (e : Exchange)
      → Answers n (verdict n (history_from n s es) (fed e)) (history_from n s (es next e)) e (record_after delivered r es)
  answered es e = answers n (history_from n s es) (record_after delivered r es) small (bounded es) (stands es) e

  -- what is heard of a call is its verdict, so the subcubes held are the history's
  pub heard_from : (es : Exchanges) (e : Exchange)
      → heard (number delivered r es e) (reply delivered r es e) ≡ verdict n (history_from n s es) (fed e)
  heard_from es e =
      let A = answered es e in
      rw (A.returned, A.replied) (heard_back (verdict n (history_from n s es) (fed e)) e.buffer A.plain)

  held_is : (es : Exchanges) → held_at delivered r (held_before n s) es ≡ held (verdicts n s) (held_before n s) (feed es)
  held_is begin = refl
  held_is (es next e) = ap₂ (held_after (feed es) (fed e)) (heard_from es e) (held_is es)

  held_now : (es : Exchanges) → HeldRight n s (feed es) (held_at delivered r (held_before n s) es)
  held_now es = subst (HeldRight n s (feed es)) (sym (held_is es)) (right es).held_right

  recorded_now : (es : Exchanges) → Recorded n (history_from n s es) r (record_after delivered r es)
  recorded_now es = recorded small S₀ B₀.bounded (stands es) (bounded es)

  pub list_right : ListRight delivered (record { dimension = n; bytes = r; history = s; held = held_before n s })
  list_right = record {
    calls = λ es e. judged n (history_from n s es) e (record_after delivered r es) ((right es).calls (fed e)) (answered es e);
    recorded = recorded_now;
    held = held_now;
    starred = λ es g i x m. (recorded_now es).stars x ((held_now es).within g i x m) ∙ (held_now es).starred g i x m;
    unstarred = λ es x l e. let R = reads (stands es) in R.stars x l ∙ (bounded es).unstarred x (sym (R.holders x l) ∙ e);
    loads = λ es. stands_loads (stands es) small (right es).begins;
    resumes = λ es. stands_says (stands es);
  }
