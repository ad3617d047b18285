-- Each of the six breaks the part that document 01's table names, and so demand 3, on every buffer of the record's size. Assumes nothing.
use Prim.Native.Nat.{ℕ, ◌+◌, ◌*◌, ◌^◌, ◌<◌, ◌≤◌}
use mathlib.Core.Path.{◌≡◌, refl, sym, ap, ap₂, ◌∙◌}
use mathlib.Core.Logic.{inl}
use mathlib.Core.Bool.{true, false, cond}
use mathlib.Core.List.{List, [], ◌∷◌, ◌++◌}
use native.Mathlib.Omega.{arith}
use native.Mathlib.Nat.{lt_of_lt_of_le}
use borrow.Author.Tests.{ne_eqb}
use lib.ListN.{length, get_or}
use lib.Pow.{pow_pos}
use Rattle.hypercube.specs.Bits.{width}
use Rattle.hypercube.specs.Lists.{over, among}
use Rattle.hypercube.specs.Subcubes.{vertices}
use Rattle.hypercube.specs.Words.{word, words}
use Rattle.hypercube.specs.declared.Reply.{Reply}
use Rattle.hypercube.specs.declared.Reply.TheVariants.{Granted, Refused, Done}
use Rattle.hypercube.specs.Replies.{granted, frame_of, written, number_of, replies, heard}
use Rattle.hypercube.specs.Tests.{cases}
use Rattle.hypercube.proofs.Lists.{get_or_each}
use Rattle.history.specs.Calls.{Call, strategy, dimension}
use Rattle.history.specs.Account.{History}
use Rattle.history.specs.Causes.{Row, NoneMet, earlier, last, causes}
use Rattle.history.specs.Held.{without}
use Rattle.history.proofs.Passed.{passed}
use Rattle.state.specs.declared.State.{State}
use Rattle.state.specs.declared.Call.TheVariants.{Good, Request}
use Rattle.state.specs.States.{given, taken}
use Rattle.state.specs.Valid.{Valid}
use Rattle.state.specs.Checks.{any_held}
use Rattle.state.proofs.Valid.{Sized, taken-sized, means_valid}
use Rattle.record.specs.Layout.{holders_at, record_size, encode, decode, valid_record}
use Rattle.record.proofs.Round.{decode_holder, sized-decode, word-says, says_holders, valid-encode}
use Rattle.cube.specs.Called.{setup_record, delivered}
use Rattle.cube.specs.Run.{Exchanges, begin, ◌next◌, fed, record_after, number, reply, history_at}
use Rattle.cube.specs.Start.{set_up}
use Rattle.cube.specs.Demand3.{ListRight}
use Rattle.steps.proofs.Ways.{state_valid}
use Rattle.cube.proofs.Heard.{heard_back}
use Rattle.cube.proofs.Theorem.{from_set_up}
use Rattle.weak.specs.Programs.{Asks, request_step, requesting, by_requests}
use Rattle.weak.specs.Programs.{answers14, unstarted, lowest, unrecorded, first_job, plausible, any_tried}
use Rattle.weak.specs.Parts.{NoneFreeRight, RefusalRight, HeldDisjoint, HoldersRight, ReplyRight, Refuted}
use Rattle.weak.proofs.Parts.{none_free, refusal, disjoint, holders, replied, breaks_list}
use Rattle.weak.proofs.Frames.{good, asks, one, two, parsed-good, parsed_asks, requests, told}
use Rattle.weak.proofs.Holding.{dimension_of_lem, none_held, some_held}
use Rattle.weak.proofs.OneNode.{stays_valid}
use Rattle.weak.proofs.Made.{same_call, number_is, reply_is, record_is, delivered-number, delivered-reply, same_record}

-- rows before others are not met where none is
front : (h : History) (c : Call) (rs ts : List Row) → NoneMet (rs ++ ts) h c → NoneMet rs h c
front h c [] ts m = tt
front h c (r ∷ rs) ts m = (m.0, front h c rs ts m.1)

earlier_none : (n : ℕ) (h : History) (c : Call) → NoneMet (causes n) h c → NoneMet (earlier n) h c
unfolding causes
earlier_none n h c m = front h c (earlier n) (last n ∷ []) m

-- a plausible 'tried' keeps the number, and is not the true one of the second member
same_number : (a : Reply) → number_of (plausible a) ≡ number_of a
same_number (Granted j low stars t) = refl
same_number (Refused m t) = refl
same_number (Done v) = refl

tried_two : (a : Reply) (p : List ℕ) → written (frame_of a) p ≡ replies (granted 2 1 0 2) p
    → written (frame_of (plausible a)) p ≡ replies (granted 2 1 0 2) p → ⊥
unfolding frame_of words word
tried_two (Granted j low stars t) p e w = let same : ◌≡◌ {A = ℕ} 1 2 = ap (λ (p : List ℕ). word p 10) w in absurd (omega arith)
tried_two (Refused m t) p e w = let same : ◌≡◌ {A = ℕ} 0x8002 0x8001 = ap (λ (p : List ℕ). word p 2) e in absurd (omega arith)
tried_two (Done v) p e w = let same : ◌≡◌ {A = ℕ} 0x8003 0x8001 = ap (λ (p : List ℕ). word p 2) e in absurd (omega arith)

module _ (b : List ℕ) (whole : length b ≡ record_size) where
  one_node : ListRight delivered (set_up delivered 0 b)
  one_node = from_set_up 0 (omega arith) b whole

  two_nodes : ListRight delivered (set_up delivered 1 b)
  two_nodes = from_set_up 1 (omega arith) b whole

  -- the record before the first request is the delivered program's
  module _ (q : Asks) where
    at_one : record_after (by_requests q) (setup_record b 0) one ≡ record_after delivered (setup_record b 0) one
    at_one = same_call (requesting q) _ (good 0) (Good (record { 0 = 0 })) (parsed-good 0) refl

    at_first : record_after (by_requests q) (setup_record b 1) (begin next good 0) ≡ record_after delivered (setup_record b 1) (begin next good 0)
    at_first = same_call (requesting q) _ (good 0) (Good (record { 0 = 0 })) (parsed-good 0) refl

    at_two : record_after (by_requests q) (setup_record b 1) two ≡ record_after delivered (setup_record b 1) two
    at_two =
        same_call (requesting q) _ (good 1) (Good (record { 0 = 1 })) (parsed-good 1) refl
        ∙ ap (λ (r : List ℕ). delivered.call_record r (good 1).frame (good 1).buffer) at_first

    valid_one : valid_record (record_after (by_requests q) (setup_record b 0) one) ≡ true
    valid_one = rw at_one (one_node.recorded one).valid

    -- and after it, where it is told the same number and leaves the same state
    module _ (s : State) (e : decode (record_after (by_requests q) (setup_record b 1) two) ≡ s)
        (a : number_of (q s 1 0 0).reply ≡ number_of (request_step s 1 0 0).reply)
        (left : (q s 1 0 0).state ≡ (request_step s 1 0 0).state) where
      at_later : record_after (by_requests q) (setup_record b 1) (two next asks 1) ≡ record_after delivered (setup_record b 1) (two next asks 1)
      at_later =
          same_record (requesting q) _ (asks 1) (Request 1 0 0) (parsed_asks 1) (rw at_two (two_nodes.recorded two).valid) refl (rw e a)
          (rw e left)
          ∙ ap (λ (r : List ℕ). delivered.call_record r (asks 1).frame (asks 1).buffer) at_two

      valid_later : valid_record (record_after (by_requests q) (setup_record b 1) (two next asks 1)) ≡ true
      valid_later = rw at_later (two_nodes.recorded (two next asks 1)).valid

  -- ---- a free member exists

  none_met : NoneMet (causes 0) (history_at 0 one) (fed (asks 1))
  none_met = (one_node.calls one (asks 1)).accepted_by_none.0 ((one_node.calls one (asks 1)).returned ∙ ap number_of told.one_granted)

  says_14 : (q : Asks) → ((s : State) → number_of (q s 1 0 0).reply ≡ 14) → ¬ NoneFreeRight (by_requests q) 0 b
  says_14 q e claim =
      (passed 0 (history_at 0 one) (fed (asks 1)) none_met).some_free requests
      (claim one (asks 1) requests (earlier_none 0 _ _ none_met)
      (number_is (requesting q) _ (asks 1) (Request 1 0 0) (parsed_asks 1) (valid_one q) refl ∙ e _))

  -- ---- 'tried' of a walk unstarted

  tried_wrong : ¬ RefusalRight (by_requests unstarted) 0 b
  unfolding word words frame_of over strategy dimension
  tried_wrong claim =
      let judged = one_node.calls begin (asks 1) in
      let refuses = (judged.refused_by_first 14 (λ z. absurd (omega arith))).0 (judged.returned ∙ ap number_of told.silent) in
      let said = reply_is (requesting unstarted) _ (asks 1) (Request 1 0 0) (parsed_asks 1) (one_node.recorded begin).valid refl in
      let same : ◌≡◌ {A = ℕ} 0 1 = ap (λ (p : List ℕ). word p 6) (sym said ∙ claim begin (asks 1) 14 refuses) in
      absurd (omega arith)

  -- ---- disjoint

  told-lowest : (es : Exchanges) → valid_record (record_after (by_requests lowest) (setup_record b 0) es) ≡ true → (j : ℕ)
      → heard (number (by_requests lowest) (setup_record b 0) es (asks j)) (reply (by_requests lowest) (setup_record b 0) es (asks j)) ≡ granted j 0 0 1
  told-lowest es v j =
      ap₂ heard
      (number_is (requesting lowest) _ (asks j) (Request j 0 0) (parsed_asks j) v refl)
      (reply_is (requesting lowest) _ (asks j) (Request j 0 0) (parsed_asks j) v refl)
      ∙ heard_back (granted j 0 0 1) (asks j).buffer tt

  valid_next : valid_record (record_after (by_requests lowest) (setup_record b 0) (one next asks 1)) ≡ true
  valid_next =
      let r = record_after (by_requests lowest) (setup_record b 0) one in
      rw (record_is (requesting lowest) r (asks 1) (Request 1 0 0) (parsed_asks 1) (valid_one lowest) refl refl)
      (stays_valid (decode r) (sized-decode r) (state_valid r (valid_one lowest)) 1 0 (λ e. refl))

  lowest_wrong : ¬ HeldDisjoint (by_requests lowest) 0 b
  unfolding without vertices
  lowest_wrong claim =
      let first = told-lowest one (valid_one lowest) 1 in
      let second = told-lowest (one next asks 1) valid_next 2 in
      let d = rw (first, second) at (claim (one next asks 1 next asks 2)) in
      d.0 _ (inl refl) 0 (inl refl) (inl refl)

  -- ---- the record after the call

  -- a record that is stored as it was has the holders that it had
  kept : (r : List ℕ) (x : ℕ) → x < 1024 → word (encode (decode r)) (holders_at + 2 * x) ≡ word r (holders_at + 2 * x)
  kept r x h = word-says (says_holders (decode r) (sized-decode r)) x h ∙ decode_holder r x h

  record_wrong : ¬ HoldersRight (by_requests unrecorded) 0 b
  record_wrong claim =
      let r = record_after (by_requests unrecorded) (setup_record b 0) one in
      let v = valid_one unrecorded in
      let accepted : number_of (request_step (decode r) 1 0 0).reply ≡ 0 =
      sym (delivered-number (requesting unrecorded) r (asks 1) (Request 1 0 0) (parsed_asks 1) v refl)
      ∙ ap (λ (r : List ℕ). delivered.call_number r (asks 1).frame (asks 1).buffer) (at_one unrecorded)
      ∙ (one_node.calls one (asks 1)).returned ∙ ap number_of told.one_granted in
      let left : word (record_after (by_requests unrecorded) (setup_record b 0) (one next asks 1)) 16 ≡ 0 =
      ap (λ (r : List ℕ). word r 16) (record_is (requesting unrecorded) r (asks 1) (Request 1 0 0) (parsed_asks 1) v refl accepted)
      ∙ kept r 0 (omega arith) ∙ ap (λ (r : List ℕ). word r 16) (at_one unrecorded)
      ∙ (one_node.recorded one).holders 0 (omega arith) ∙ told.one_free in
      let same : ◌≡◌ {A = ℕ} 0 1 = sym left ∙ claim (one next asks 1) 0 (omega arith) ∙ told.one_held in
      absurd (omega arith)

  -- ---- over the list

  over_list_wrong : ¬ HoldersRight (by_requests first_job) 1 b
  over_list_wrong claim =
      let later = two next asks 1 in
      let g = (asks 2).frame in
      let p = (asks 2).buffer in
      let before = two_nodes.recorded two in
      let after = two_nodes.recorded later in
      let none : any_held (decode (record_after (by_requests first_job) (setup_record b 1) two)) ≡ false =
      rw (at_two first_job)
      (none_held (decode (record_after delivered (setup_record b 1) two)) (λ x h.
      let l : x < 2 = rw (dimension_of_lem (record_after delivered (setup_record b 1) two), before.dimension) at h in
      decode_holder _ x (omega arith) ∙ before.holders x l ∙ told.none_held x)) in
      let same = at_later first_job _ refl (rw none refl) (rw none refl) in
      let v = valid_later first_job _ refl (rw none refl) (rw none refl) in
      let r = record_after (by_requests first_job) (setup_record b 1) later in
      let some : any_held (decode r) ≡ true =
      rw same
      (some_held (decode (record_after delivered (setup_record b 1) later)) 0 (pow_pos _)
      (decode_holder _ 0 (omega arith) ∙ after.holders 0 (omega arith) ∙ told.first_held.0)) in
      let accepted : number_of (first_job (decode r) 2 0 0).reply ≡ 0 =
      (rw some refl) ∙ sym (delivered-number (requesting first_job) r (asks 2) (Request 2 0 0) (parsed_asks 2) v refl)
      ∙ ap (λ (r : List ℕ). delivered.call_number r g p) same
      ∙ (two_nodes.calls later (asks 2)).returned ∙ ap number_of told.second_granted in
      let left : word (record_after (by_requests first_job) (setup_record b 1) (later next asks 2)) 18 ≡ 0 =
      ap (λ (r : List ℕ). word r 18) (record_is (requesting first_job) r (asks 2) (Request 2 0 0) (parsed_asks 2) v refl accepted)
      ∙ (rw some (kept r 1 (omega arith)))
      ∙ ap (λ (r : List ℕ). word r 18) same ∙ after.holders 1 (omega arith) ∙ told.first_held.1 in
      let wrong : ◌≡◌ {A = ℕ} 0 2 = sym left ∙ claim (later next asks 2) 1 (omega arith) ∙ told.second_held in
      absurd (omega arith)

  -- ---- place in the order

  tried_of_two : ¬ ReplyRight (by_requests any_tried) 1 b
  tried_of_two claim =
      let later = two next asks 1 in
      let g = (asks 2).frame in
      let p = (asks 2).buffer in
      let number = same_number (request_step (decode (record_after (by_requests any_tried) (setup_record b 1) two)) 1 0 0).reply in
      let same = at_later any_tried _ refl number refl in
      let v = valid_later any_tried _ refl number refl in
      let r = record_after (by_requests any_tried) (setup_record b 1) later in
      let right = ap (λ v. replies v p) told.second_granted in
      tried_two (request_step (decode r) 2 0 0).reply p
      (sym (delivered-reply (requesting any_tried) r (asks 2) (Request 2 0 0) (parsed_asks 2) v refl)
      ∙ ap (λ (r : List ℕ). delivered.call_reply r g p) same
      ∙ (two_nodes.calls later (asks 2)).replied ∙ right)
      (sym (reply_is (requesting any_tried) r (asks 2) (Request 2 0 0) (parsed_asks 2) v refl) ∙ claim later (asks 2) ∙ right)

  pub refuted : Refuted b
  refuted = record {
    a_free_member_exists = breaks_list NoneFreeRight none_free (by_requests answers14) 0 b (omega arith) whole (says_14 answers14 (λ s. refl));
    unstarted_free = breaks_list NoneFreeRight none_free (by_requests unstarted) 0 b (omega arith) whole (says_14 unstarted (λ s. refl));
    unstarted_tried = breaks_list RefusalRight refusal (by_requests unstarted) 0 b (omega arith) whole tried_wrong;
    not_disjoint = breaks_list HeldDisjoint disjoint (by_requests lowest) 0 b (omega arith) whole lowest_wrong;
    record_unchanged = breaks_list HoldersRight holders (by_requests unrecorded) 0 b (omega arith) whole record_wrong;
    over_the_list = breaks_list HoldersRight holders (by_requests first_job) 1 b (omega arith) whole over_list_wrong;
    place_in_the_order = breaks_list ReplyRight replied (by_requests any_tried) 1 b (omega arith) whole tried_of_two;
  }
