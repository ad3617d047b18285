-- Of three good nodes of four the program that takes the first free member gives node 0 to job 1, and refuses a pair to job 2 with two nodes free;
-- the one that answers 14 refuses the only node. So neither keeps what document 02, (n), promises, nor meets demand 3. Assumes nothing.
use Prim.Native.Nat.{ℕ, zero, suc, ◌<◌, ◌≤◌}
use mathlib.Core.Path.{◌≡◌, refl, sym, ap, ◌∙◌}
use mathlib.Core.Logic.{◌≢◌, inl, ⊎_elim}
use mathlib.Core.Bool.{true}
use mathlib.Core.List.{List, [], ◌∷◌}
use native.Mathlib.Omega.{arith}
use lib.ListN.{length}
use Rattle.hypercube.specs.Words.{word}
use Rattle.hypercube.specs.Replies.{number_of, heard}
use Rattle.history.specs.Calls.{Call, request, kind_of, kind, job, dimension, strategy}
use Rattle.history.specs.Account.{History}
use Rattle.history.specs.Causes.{Row, NoneMet, causes}
use Rattle.history.specs.Verdicts.{verdict}
use Rattle.state.specs.declared.Call.TheVariants.{Request}
use Rattle.record.specs.Layout.{record_size, valid_record}
use Rattle.cube.specs.Called.{Program, setup_record, delivered}
use Rattle.cube.specs.Run.{Exchange, Exchanges, begin, ◌next◌, fed, feed, record_after, number, history_at}
use Rattle.cube.specs.Start.{set_up}
use Rattle.cube.specs.Demand3.{ListRight, Demand3}
use Rattle.cube.proofs.Theorem.{from_set_up}
use Rattle.no_waste.specs.NoWaste.{OneDead, NoneUpTo, Plain, Requests, IsGranted}
use Rattle.no_waste.proofs.Theorem.{follows}
use Rattle.weak.specs.Programs.{requesting, by_requests, answers14}
use Rattle.weak.specs.BestFits.{first_fit}
use Rattle.weak.specs.Wastes.{NothingWasted, WastesRefuted}
use Rattle.weak.proofs.Parts.{breaks}
use Rattle.weak.proofs.Frames.{good, asks, fits, second_pair, one, two, three, parsed_asks, parsed_fits, parsed_second_pair, told}
use Rattle.weak.proofs.Made.{other_record, other_returned, number_is}
use Rattle.weak.proofs.BestFits.{at_report}

-- it follows from demand 3
wasted_not : (P : Program) (n : ℕ) (b : List ℕ) → n ≤ 10 → length b ≡ record_size → Demand3 P → NothingWasted P n b
wasted_not P n b small whole D =
    (follows P D).lists (set_up P n b) (inl (record { n = n; buffer = b; small = small; whole = whole; is = refl }))

-- a call that meets no row meets none up to m
none_up_to : (m : ℕ) (h : History) (c : Call) (rs : List Row) → NoneMet rs h c → NoneUpTo m rs h c
none_up_to m h c [] f = tt
none_up_to m h c (r ∷ rs) f = (λ _. f.0, none_up_to m h c rs f.1)

-- a refusal's number is heard as no grant
refused-heard : (m : ℕ) (p : List ℕ) → m ≡ 14 → ¬ IsGranted (heard m p)
unfolding heard
refused-heard m p e g = rw e at g

module _ (b : List ℕ) (whole : length b ≡ record_size) where
  -- a request by strategy 4 that the history accepts is a plain one
  plain : (n : ℕ) → ListRight delivered (set_up delivered n b) → (es : Exchanges) (e : Exchange) → kind (fed e) ≡ request → strategy (fed e) ≡ 4
      → number_of (verdict n (history_at n es) (fed e)) ≡ 0 → Plain n (history_at n es) (fed e)
  plain n R es e k s z = record {
    requests = k;
    best_fit = s;
    meets_none = none_up_to 9 _ _ (causes n) ((R.calls es e).accepted_by_none.0 ((R.calls es e).returned ∙ z));
  }

  -- ---- a pair is split

  four_nodes : ListRight delivered (set_up delivered 2 b)
  four_nodes = from_set_up 2 (omega arith) b whole

  -- node 3 is silent, and no other
  last_silent : OneDead 2 (history_at 2 three)
  last_silent = record { at_most_one = λ x y a b p q. silent x a p ∙ sym (silent y b q); nothing_held = λ x l. told.three_unheld x }
    where
      silent : (x : ℕ) → x < 4 → (history_at 2 three).condition x ≢ 1 → x ≡ 3
      silent zero l ne = absurd (ne told.three_good.0)
      silent (suc zero) l ne = absurd (ne told.three_good.1)
      silent (suc (suc zero)) l ne = absurd (ne told.three_good.2)
      silent (suc (suc (suc x))) l ne = omega arith

  fit_then_pair : Requests 2 (history_at 2 three) (feed (begin next fits next second_pair 4))
  unfolding kind job strategy word kind_of
  fit_then_pair = record {
    plain = (
      (tt, plain 2 four_nodes three fits refl refl (ap number_of told.best_fit)),
      plain 2 four_nodes (three next fits) (second_pair 4) refl refl (ap number_of told.pair_left),
    );
    distinct = (⊎_elim (λ z. omega arith) (λ i. i), (λ i. i, tt));
  }

  split_wrong : ¬ NothingWasted (by_requests first_fit) 2 b
  unfolding dimension
  split_wrong claim =
      let q = requesting first_fit in
      let r = setup_record b 2 in
      let at = at_report b whole first_fit 2 in
      let same = at two 2 (at (begin next good 0) 1 (at begin 0 refl)) in
      let split : record_after (by_requests first_fit) r (three next fits) ≡ record_after delivered r (three next asks 1) =
      other_record q _ fits (asks 1) (Request 1 0 4) (Request 1 0 0) parsed_fits (parsed_asks 1) refl
      ∙ ap (λ (r : List ℕ). delivered.call_record r (asks 1).frame (asks 1).buffer) same in
      let pair = second_pair 4 in
      let first = second_pair 0 in
      let refused : number (by_requests first_fit) r (three next fits) pair ≡ 14 =
      other_returned q _ pair first (Request 2 1 4) (Request 2 1 0) (parsed_second_pair 4) (parsed_second_pair 0) refl
      ∙ ap (λ (r : List ℕ). delivered.call_number r first.frame first.buffer) split
      ∙ (four_nodes.calls (three next asks 1) first).returned ∙ ap number_of told.pair_split in
      let granted = ((claim three last_silent).each (begin next fits) pair fit_then_pair).granted_when.1 (omega (arith, told.two_left)) in
      refused-heard _ _ refused granted

  -- ---- what fits is refused

  one_node : ListRight delivered (set_up delivered 0 b)
  one_node = from_set_up 0 (omega arith) b whole

  only_node : OneDead 0 (history_at 0 one)
  only_node = record { at_most_one = λ x y a b p q. omega arith; nothing_held = λ x l. told.one_unheld x }

  fit_alone : Requests 0 (history_at 0 one) (feed (begin next fits))
  unfolding kind job strategy word kind_of
  fit_alone = record { plain = (tt, plain 0 one_node one fits refl refl (ap number_of told.one_fits)); distinct = (λ i. i, tt) }

  refusal_wrong : ¬ NothingWasted (by_requests answers14) 0 b
  unfolding dimension
  refusal_wrong claim =
      let same = at_report b whole answers14 0 begin 0 refl in
      let valid : valid_record (record_after (by_requests answers14) (setup_record b 0) one) ≡ true = rw same (one_node.recorded one).valid in
      let refused = number_is (requesting answers14) _ fits (Request 1 0 4) parsed_fits valid refl in
      refused-heard _ _ refused (((claim one only_node).each begin fits fit_alone).granted_when.1 (omega (arith, told.one_left)))

  pub wastes_refuted : WastesRefuted b
  wastes_refuted = record {
    pair_split = breaks NothingWasted wasted_not (by_requests first_fit) 2 b (omega arith) whole split_wrong;
    fitting_refused = breaks NothingWasted wasted_not (by_requests answers14) 0 b (omega arith) whole refusal_wrong;
  }
