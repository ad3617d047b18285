-- The program that takes the first free member under best fit grants node 0 of four, where best fit grants the lone node 2; the one that counts large
-- blocks alone tells none tried on a cube of two nodes, one of them good. So both break demand 3. Assumes nothing.
use Prim.Native.Nat.{ℕ}
use mathlib.Core.Path.{◌≡◌, refl, sym, ap, ◌∙◌}
use mathlib.Core.List.{List}
use native.Mathlib.Omega.{arith}
use lib.ListN.{length}
use Rattle.hypercube.specs.Words.{word, words}
use Rattle.hypercube.specs.declared.Reply.{Reply}
use Rattle.hypercube.specs.declared.Reply.TheVariants.{Granted, Refused, Done}
use Rattle.hypercube.specs.Replies.{granted, frame_of, written, replies}
use Rattle.state.specs.declared.Call.TheVariants.{Good, Request}
use Rattle.record.specs.Layout.{record_size, decode}
use Rattle.cube.specs.Called.{setup_record, delivered}
use Rattle.cube.specs.Run.{Exchanges, begin, ◌next◌, record_after}
use Rattle.cube.specs.Start.{set_up}
use Rattle.cube.specs.Demand3.{ListRight}
use Rattle.cube.proofs.Theorem.{from_set_up}
use Rattle.weak.specs.Programs.{Asks, request_step, requesting, by_requests}
use Rattle.weak.specs.Parts.{ReplyRight}
use Rattle.weak.specs.BestFits.{first_fit, large_only, large_counted, BestFitsRefuted}
use Rattle.weak.proofs.Parts.{replied, breaks_list}
use Rattle.weak.proofs.Frames.{good, asks, fits, fits_pair, one, two, three, parsed-good, parsed_asks, parsed_fits, parsed_fits_pair, told}
use Rattle.weak.proofs.Made.{same_call, reply_is, delivered-reply}

-- 'none tried' is not the true number of blocks
tried_one : (a : Reply) (p : List ℕ) → written (frame_of a) p ≡ replies (Refused 14 1) p
    → written (frame_of (large_only a)) p ≡ replies (Refused 14 1) p → ⊥
unfolding frame_of words word
tried_one (Granted j low stars t) p e w = let same : ◌≡◌ {A = ℕ} 0x8001 0x8002 = ap (λ (p : List ℕ). word p 2) e in absurd (omega arith)
tried_one (Refused m t) p e w = let same : ◌≡◌ {A = ℕ} 0 1 = ap (λ (p : List ℕ). word p 6) w in absurd (omega arith)
tried_one (Done v) p e w = let same : ◌≡◌ {A = ℕ} 0x8003 0x8002 = ap (λ (p : List ℕ). word p 2) e in absurd (omega arith)

module _ (b : List ℕ) (whole : length b ≡ record_size) where
  -- a program that differs on requests alone leaves the delivered program's record at reports
  module _ (q : Asks) (n : ℕ) where
    pub at_report : (es : Exchanges) (x : ℕ) → record_after (by_requests q) (setup_record b n) es ≡ record_after delivered (setup_record b n) es
        → record_after (by_requests q) (setup_record b n) (es next good x) ≡ record_after delivered (setup_record b n) (es next good x)
    at_report es x e =
        same_call (requesting q) _ (good x) (Good (record { 0 = x })) (parsed-good x) refl
        ∙ ap (λ (r : List ℕ). delivered.call_record r (good x).frame (good x).buffer) e

  -- ---- the first free member

  four_nodes : ListRight delivered (set_up delivered 2 b)
  four_nodes = from_set_up 2 (omega arith) b whole

  first_wrong : ¬ ReplyRight (by_requests first_fit) 2 b
  unfolding frame_of words word
  first_wrong claim =
      let r = record_after delivered (setup_record b 2) three in
      let at = at_report first_fit 2 in
      let same = at two 2 (at (begin next good 0) 1 (at begin 0 refl)) in
      let v = (four_nodes.recorded three).valid in
      let first = delivered-reply (requesting first_fit) r (asks 1) (Request 1 0 0) (parsed_asks 1) v refl in
      let said = reply_is (requesting first_fit) r fits (Request 1 0 4) parsed_fits v refl in
      let bytes : replies (granted 1 0 0 1) (asks 1).buffer ≡ replies (granted 1 2 0 2) (asks 1).buffer =
      ap (λ v. replies v (asks 1).buffer) (sym told.first_fit) ∙ sym (four_nodes.calls three (asks 1)).replied ∙ first
      ∙ sym said ∙ (rw same at (claim three fits)) ∙ ap (λ v. replies v (asks 1).buffer) told.best_fit in
      let wrong : ◌≡◌ {A = ℕ} 0 2 = ap (λ (p : List ℕ). word p 6) bytes in
      absurd (omega arith)

  -- ---- blocks of dimension at least k alone

  two_nodes : ListRight delivered (set_up delivered 1 b)
  two_nodes = from_set_up 1 (omega arith) b whole

  large_wrong : ¬ ReplyRight (by_requests large_counted) 1 b
  large_wrong claim =
      let r = record_after delivered (setup_record b 1) one in
      let p = fits_pair.buffer in
      let same = at_report large_counted 1 begin 0 refl in
      let v = (two_nodes.recorded one).valid in
      let right = ap (λ v. replies v p) told.no_pair in
      tried_one (request_step (decode r) 1 1 4).reply p
      (sym (delivered-reply (requesting large_counted) r fits_pair (Request 1 1 4) parsed_fits_pair v refl)
      ∙ (two_nodes.calls one fits_pair).replied ∙ right)
      (sym (reply_is (requesting large_counted) r fits_pair (Request 1 1 4) parsed_fits_pair v refl) ∙ (rw same at (claim one fits_pair)) ∙ right)

  pub best_fits_refuted : BestFitsRefuted b
  best_fits_refuted = record {
    first_taken = breaks_list ReplyRight replied (by_requests first_fit) 2 b (omega arith) whole first_wrong;
    large_counted = breaks_list ReplyRight replied (by_requests large_counted) 1 b (omega arith) whole large_wrong;
  }
