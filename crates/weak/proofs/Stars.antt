-- The program that stores star bits at the lowest node only, and the one that leaves them at a release, break demand 3 on a cube of two nodes, both
-- granted to one job. Assumes nothing.
use Prim.Native.Nat.{ℕ, ◌+◌, ◌*◌}
use mathlib.Core.Path.{◌≡◌, refl, sym, ap, ap₂, ◌∙◌}
use mathlib.Core.Logic.{inl, inr}
use mathlib.Core.Bool.{cond}
use mathlib.Core.List.{List}
use native.Mathlib.Omega.{arith}
use lib.Dec.{eqb}
use lib.ListN.{length, get_or}
use Rattle.hypercube.specs.Lists.{over, among}
use Rattle.hypercube.specs.Subcubes.{vertices}
use Rattle.hypercube.specs.Words.{word, words}
use Rattle.hypercube.specs.declared.Reply.{Reply}
use Rattle.hypercube.specs.declared.Reply.TheVariants.{Granted, Refused, Done}
use Rattle.hypercube.specs.Replies.{granted, number_of, frame_of, written, replies, heard}
use Rattle.hypercube.proofs.Lists.{length_of, get_or_each}
use Rattle.history.specs.Held.{without}
use Rattle.state.specs.declared.State.{State}
use Rattle.state.specs.declared.Call.TheVariants.{Good, Request, Release}
use Rattle.state.specs.States.{with_holders, cleared}
use Rattle.state.proofs.Valid.{Sized}
use Rattle.record.specs.Layout.{holders_at, stars_at, record_size, encode, decode}
use Rattle.record.proofs.Round.{decode_holder, decode_star, word-says, says_holders, says_stars, sized-decode}
use Rattle.cube.specs.Called.{setup_record, delivered}
use Rattle.cube.specs.Run.{◌next◌, record_after, number, reply}
use Rattle.cube.specs.Start.{set_up}
use Rattle.cube.specs.Demand3.{ListRight}
use Rattle.cube.proofs.Heard.{heard_back}
use Rattle.cube.proofs.Theorem.{from_set_up}
use Rattle.weak.specs.Programs.{by, request_step}
use Rattle.weak.specs.Stars.{StarsRight, UnheldRight, marked, marking, leaving, StarsRefuted}
use Rattle.weak.proofs.Parts.{breaks_list}
use Rattle.weak.proofs.Frames.{good, pair, two, gives_back, parsed-good, parsed-pair, parsed-release, told}
use Rattle.weak.proofs.Made.{same_call, number_is, reply_is, record_is, delivered-number, delivered-reply}

-- ---- a state after a grant of nodes 0 and 1 whose star bits stand at node 0 only

sized-marked : (s : State) → Sized s → (a : Reply) → Sized (marked s a)
sized-marked s z (Granted j low stars t) =
    record { directions = z.directions; holders = length_of _ 0 1024; conditions = z.conditions; stars = length_of _ 0 1024 }
sized-marked s z (Refused m t) = z
sized-marked s z (Done v) = z

unmarked : (s : State) (a : Reply) (p : List ℕ) → written (frame_of a) p ≡ replies (granted 1 0 1 1) p
    → get_or (marked s a).stars 1 0 ≡ get_or s.stars 1 0
unfolding frame_of words word over among
unmarked s (Granted j low stars t) p e = let low_0 : low.0 ≡ 0 = omega (arith, ap (λ (p : List ℕ). word p 6) e) in rw low_0 refl
unmarked s (Refused m t) p e = refl
unmarked s (Done v) p e = refl

module _ (b : List ℕ) (whole : length b ≡ record_size) where
  right : ListRight delivered (set_up delivered 1 b)
  right = from_set_up 1 (omega arith) b whole

  abbrev r : List ℕ
  r = record_after delivered (setup_record b 1) two

  -- ---- at the lowest node only

  at_two : record_after (by marking) (setup_record b 1) two ≡ r
  at_two =
      same_call marking _ (good 1) (Good (record { 0 = 1 })) (parsed-good 1) refl
      ∙ ap (λ (r : List ℕ). delivered.call_record r (good 1).frame (good 1).buffer)
      (same_call marking _ (good 0) (Good (record { 0 = 0 })) (parsed-good 0) refl)

  abbrev answer : Reply
  answer = (request_step (decode r) 1 1 0).reply

  accepted : number_of answer ≡ 0
  accepted =
      sym (delivered-number marking r pair (Request 1 1 0) parsed-pair (right.recorded two).valid refl)
      ∙ (right.calls two pair).returned ∙ ap number_of told.pair-granted

  answered : written (frame_of answer) pair.buffer ≡ replies (granted 1 0 1 1) pair.buffer
  answered =
      sym (delivered-reply marking r pair (Request 1 1 0) parsed-pair (right.recorded two).valid refl)
      ∙ (right.calls two pair).replied ∙ ap (λ v. replies v pair.buffer) told.pair-granted

  tells_pair : heard (number (by marking) (setup_record b 1) two pair) (reply (by marking) (setup_record b 1) two pair) ≡ granted 1 0 1 1
  tells_pair =
      let v = (right.recorded two).valid in
      rw at_two (ap₂ heard
      (number_is marking r pair (Request 1 1 0) parsed-pair v refl ∙ accepted)
      (reply_is marking r pair (Request 1 1 0) parsed-pair v refl ∙ answered)
      ∙ heard_back (granted 1 0 1 1) pair.buffer tt)

  second_unmarked : word (record_after (by marking) (setup_record b 1) (two next pair)) (stars_at + 2 * 1) ≡ 0
  second_unmarked =
      let before = right.recorded two in
      rw at_two (ap (λ (l : List ℕ). word l (stars_at + 2 * 1)) (record_is marking r pair (Request 1 1 0) parsed-pair before.valid refl accepted)
      ∙ word-says (says_stars (marked (decode r) answer) (sized-marked (decode r) (sized-decode r) answer)) 1 (omega arith)
      ∙ unmarked (decode r) answer pair.buffer answered
      ∙ decode_star r 1 (omega arith) ∙ before.stars 1 (omega arith) ∙ told.none_starred)

  lowest_wrong : ¬ StarsRight (by marking) 1 b
  unfolding vertices without
  lowest_wrong claim =
      let claimed = rw tells_pair at (claim (two next pair)) in
      let wrong : ◌≡◌ {A = ℕ} 0 1 = sym second_unmarked ∙ claimed _ (inl refl) 1 (inr (inl refl)) in
      absurd (omega arith)

  -- ---- left at a release

  abbrev t : List ℕ
  t = record_after delivered (setup_record b 1) (two next pair)

  at_pair : record_after (by leaving) (setup_record b 1) (two next pair) ≡ t
  at_pair =
      same_call leaving _ pair (Request 1 1 0) parsed-pair refl
      ∙ ap (λ (r : List ℕ). delivered.call_record r pair.frame pair.buffer)
      (same_call leaving _ (good 1) (Good (record { 0 = 1 })) (parsed-good 1) refl
      ∙ ap (λ (r : List ℕ). delivered.call_record r (good 1).frame (good 1).buffer)
      (same_call leaving _ (good 0) (Good (record { 0 = 0 })) (parsed-good 0) refl))

  abbrev left : State
  left = with_holders (decode t) (cleared (decode t).holders (decode t).holders 1)

  left_sized : Sized left
  left_sized = let z = sized-decode t in
      record { directions = z.directions; holders = length_of _ 0 1024; conditions = z.conditions; stars = z.stars }

  released : record_after (by leaving) (setup_record b 1) (two next pair next gives_back) ≡ encode left
  released =
      let before = right.recorded (two next pair) in
      let done = sym (delivered-number leaving t gives_back (Release 1) parsed-release before.valid refl)
      ∙ (right.calls (two next pair) gives_back).returned ∙ ap number_of told.pair_released in
      rw at_pair (record_is leaving t gives_back (Release 1) parsed-release before.valid refl done)

  first_unheld : word (encode left) (holders_at + 2 * 0) ≡ 0
  first_unheld =
      let held : get_or (decode t).holders 0 0 ≡ 1 =
      decode_holder t 0 (omega arith) ∙ (right.recorded (two next pair)).holders 0 (omega arith) ∙ told.pair_held in
      word-says (says_holders left left_sized) 0 (omega arith)
      ∙ get_or_each (λ x. cond (eqb (get_or (decode t).holders x 0) 1) 0 (get_or (decode t).holders x 0)) 0 1024 0 (omega arith) ∙ (rw held refl)

  still_starred : word (encode left) (stars_at + 2 * 0) ≡ 1
  still_starred =
      word-says (says_stars left left_sized) 0 (omega arith)
      ∙ decode_star t 0 (omega arith) ∙ (right.recorded (two next pair)).stars 0 (omega arith) ∙ told.pair_starred

  release_wrong : ¬ UnheldRight (by leaving) 1 b
  release_wrong claim =
      let claimed = rw released at (claim (two next pair next gives_back) 0 (omega arith)) in
      let wrong : ◌≡◌ {A = ℕ} 1 0 = sym still_starred ∙ claimed first_unheld in
      absurd (omega arith)

  pub stars_refuted : StarsRefuted b
  stars_refuted = record {
    lowest_only = breaks_list StarsRight (λ P n b d. d.starred) (by marking) 1 b (omega arith) whole lowest_wrong;
    left_at_release = breaks_list UnheldRight (λ P n b d. d.unstarred) (by leaving) 1 b (omega arith) whole release_wrong;
  }
