-- No waste, of every program that meets demand 3 and so of the delivered one: from every record that a list of calls leaves, wherever it began.
-- Assumes nothing.
use Prim.Native.Nat.{ℕ, ◌+◌, ◌^◌, ◌≤◌}
use mathlib.Core.Path.{◌≡◌, refl, sym, ap, ap₂, ◌∙◌, subst}
use mathlib.Core.List.{List}
use native.Mathlib.Omega.{arith}
use Rattle.hypercube.specs.Replies.{number_of, replies, heard}
use Rattle.hypercube.specs.declared.Reply.{Reply}
use Rattle.hypercube.specs.declared.Reply.TheVariants.{Granted, Refused, Done}
use Rattle.history.specs.Calls.{Call, dimension, ◌then◌}
use Rattle.history.specs.Account.{History}
use Rattle.history.specs.Verdicts.{step, verdict, verdicts}
use Rattle.history.specs.Claims.{Begins}
use Rattle.record.specs.Layout.{decode}
use Rattle.record.specs.Says.{dimension_of, says}
use Rattle.cube.specs.Called.{Program, delivered, load_number}
use Rattle.cube.specs.Start.{Start}
use Rattle.cube.specs.Run.{Exchange, Exchanges, begin, ◌next◌, fed, feed, record_after, number, reply, history_from}
use Rattle.cube.specs.Demand3.{ListRight, Demand3}
use Rattle.cube.proofs.Heard.{heard_back}
use Rattle.cube.proofs.Heard as heard-of
use Rattle.cube.proofs.Loads.{tests, loaded_small, loaded_begins}
use Rattle.cube.proofs.Theorem.{demand3}
use Rattle.no_waste.specs.NoWaste.{OneDead, Requests, free_nodes, size_granted, Exact}
use Rattle.no_waste.specs.NoWaste.{sizes_granted, NoWaste, replied, sizes_replied, NoWasteReplied, Promise}
use Rattle.no_waste.proofs.Requests.{no_waste}

-- ---- the calls es after the calls before

abbrev upon : Exchanges → Exchanges → Exchanges
upon before begin = before
upon before (es next e) = upon before es next e

module _ (P : Program) (a : Start) (R : ListRight P a) (before : Exchanges) where
  abbrev n : ℕ
  n = a.dimension

  abbrev r : List ℕ
  r = record_after P a.bytes before

  abbrev s : History
  s = history_from n a.history before

  record_upon : (es : Exchanges) → record_after P a.bytes (upon before es) ≡ record_after P r es
  record_upon begin = refl
  record_upon (es next e) = ap (λ (r : List ℕ). P.call_record r e.frame e.buffer) (record_upon es)

  history_upon : (es : Exchanges) → history_from n a.history (upon before es) ≡ history_from n s es
  history_upon begin = refl
  history_upon (es next e) = ap (λ (h : History). step n h (fed e)) (history_upon es)

  -- the record that the list left loads, so that another list may begin there
  module _ (D : Demand3 P) where
    loads : load_number r ≡ 0
    loads = (tests r).passed.1 ((D.loading r).passed.0 (R.loads before))

    its_dimension : dimension_of r ≡ n
    unfolding decode
    its_dimension = (R.recorded before).dimension

    small : n ≤ 10
    small = subst (λ (m : ℕ). m ≤ 10) its_dimension (loaded_small r loads)

    begins : Begins n s
    begins = subst (λ (h : History). Begins n h) (R.resumes before) (subst (λ (m : ℕ). Begins m (says r)) its_dimension (loaded_begins r loads))

    -- ---- what is heard of such a request is its verdict

    -- a grant, or a refusal by 14, is read back from its bytes
    read_back : (h : History) (c : Call) (v : Reply) → Exact n h c v → heard-of.Plain v
    read_back h c (Granted j low stars t) E = tt
    read_back h c (Refused m t) E =
        let no : ¬ (2 ^ dimension c ≤ free_nodes n h) = E.granted_when.1 in
        let z : m ≡ 14 = E.else_none_free (omega arith) in
        (omega arith, λ e. absurd (omega arith))
    read_back h c (Done v) E = tt

    module _ (one-dead : OneDead n s) where
      W : NoWaste n s
      W = no_waste n small s begins one-dead

      replied-verdict : (es : Exchanges) (e : Exchange) → Requests n s (feed es then fed e) → replied P r es e ≡ verdicts n s (feed es) (fed e)
      replied-verdict es e Q =
          let v : Reply = verdict n (history_from n s es) (fed e) in
          let J = R.calls (upon before es) e in
          let m : number P r es e ≡ number_of v =
          ap (λ (r : List ℕ). P.call_number r e.frame e.buffer) (sym (record_upon es)) ∙ J.returned
          ∙ ap (λ (h : History). number_of (verdict n h (fed e))) (history_upon es) in
          let p : reply P r es e ≡ replies v e.buffer =
          ap (λ (r : List ℕ). P.call_reply r e.frame e.buffer) (sym (record_upon es)) ∙ J.replied
          ∙ ap (λ (h : History). replies (verdict n h (fed e)) e.buffer) (history_upon es) in
          ap₂ heard m p ∙ heard_back v e.buffer (read_back (history_from n s es) (fed e) v (W.each (feed es) (fed e) Q))

      sizes-replied : (es : Exchanges) → Requests n s (feed es) → sizes_replied P r es ≡ sizes_granted (verdicts n s) (feed es)
      sizes-replied begin Q = refl
      sizes-replied (es next e) Q =
          ap₂ ◌+◌ (ap (size_granted (fed e)) (replied-verdict es e Q))
          (sizes-replied es (record { plain = Q.plain.0; distinct = Q.distinct.1 }))

      replied_too : NoWasteReplied P n r s
      replied_too = record {
        each = λ es e Q. subst (Exact n (history_from n s es) (fed e)) (sym (replied-verdict es e Q)) (W.each (feed es) (fed e) Q);
        left = λ es Q. ap (λ (v : ℕ). free_nodes n (history_from n s es) + v) (sizes-replied es Q) ∙ W.left (feed es) Q;
      }

-- ---- of any program that meets demand 3, and of the one delivered

pub follows : (P : Program) → Demand3 P → Promise P
follows P D = record { lists = λ a M before one-dead. replied_too P a (D.lists a M) before D one-dead }

pub promise : Promise delivered
promise = follows delivered demand3
