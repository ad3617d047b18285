-- The program that leaves the old nodes held has a node held that the history has lost, on a cube of four nodes; the one that counts others' nodes as
-- free grants a held node, on a cube of two. So both break demand 3. Assumes nothing.
use Prim.Native.Nat.{ℕ, zero, suc, ◌+◌, ◌*◌, ◌≤◌}
use mathlib.Core.Path.{◌≡◌, refl, sym, ap, ap₂, ◌∙◌}
use mathlib.Core.Logic.{inl, inr}
use mathlib.Core.List.{List, []}
use native.Mathlib.Omega.{arith}
use lib.ListN.{length, get_or}
use Rattle.hypercube.specs.Lists.{over, among, any_below, count_below}
use Rattle.hypercube.specs.Labels.{Permutes}
use Rattle.hypercube.specs.Subcubes.{vertices, free_at}
use Rattle.hypercube.specs.Families.{first_free}
use Rattle.hypercube.specs.Words.{word, words}
use Rattle.hypercube.specs.declared.Reply.{Reply}
use Rattle.hypercube.specs.declared.Reply.TheVariants.{Granted, Refused, Done}
use Rattle.hypercube.specs.Replies.{granted, number_of, frame_of, written, replies, heard}
use Rattle.hypercube.proofs.Lists.{length_of}
use Rattle.labels.specs.Flags.{numbered}
use Rattle.labels.proofs.Directions.{Own, directions, node_own}
use Rattle.history.specs.Account.{fresh}
use Rattle.history.specs.Verdicts.{verdicts}
use Rattle.history.specs.Held.{without, held_after, held}
use Rattle.state.specs.declared.State.{State}
use Rattle.state.specs.declared.Call.{Call}
use Rattle.state.specs.declared.Call.TheVariants.{Good, Request, Grow}
use Rattle.state.specs.Acts.{guarded, acted}
use Rattle.state.specs.Valid.{Valid}
use Rattle.state.proofs.Valid.{Sized}
use Rattle.record.specs.Layout.{holders_at, record_size, decode}
use Rattle.record.proofs.Round.{decode_holder, decode_condition, word-says, says_holders, sized-decode}
use Rattle.steps.proofs.Ways.{state_valid}
use Rattle.std.specs.Prelude.{Ok}
use Rattle.frames.specs.Parse.{parsed}
use Rattle.cube.specs.Called.{setup_record, delivered}
use Rattle.cube.specs.Run.{Exchange, Exchanges, begin, ◌next◌, fed, feed, record_after, held_at}
use Rattle.cube.specs.Start.{set_up}
use Rattle.cube.specs.Demand3.{ListRight}
use Rattle.cube.proofs.Heard.{heard_back}
use Rattle.cube.proofs.Theorem.{heard_is, from_set_up}
use Rattle.weak.specs.Programs.{number_by, record_by, reply_by, by, Asks, grow_step}
use Rattle.weak.specs.Parts.{HeldDisjoint, HoldersRight}
use Rattle.weak.specs.Growths.{growing, keeping, old_kept, others_free, GrowthsRefuted}
use Rattle.weak.proofs.Parts.{disjoint, holders, breaks_list}
use Rattle.weak.proofs.Frames.{grows, outside, shared, parsed-good, parsed_asks, parsed-grow, told}
use Rattle.weak.proofs.Holding.{dimension_of_lem}
use Rattle.weak.proofs.Made.{same_call, same_returned, same_reply, number_is, reply_is, record_is, delivered-number, delivered-reply}

-- ---- a state after a growth

-- the old nodes held: the arrays have their sizes, and a grant of nodes 0 and 1 leaves node 2's holder
sized-keeping : (s : State) → Sized s → (a : Reply) → Sized (keeping s a)
sized-keeping s z (Granted j low stars t) =
    record { directions = z.directions; holders = length_of _ 0 1024; conditions = z.conditions; stars = length_of _ 0 1024 }
sized-keeping s z (Refused m t) = z
sized-keeping s z (Done v) = z

kept_holder : (s : State) (a : Reply) (p : List ℕ) → written (frame_of a) p ≡ replies (granted 1 0 1 1) p
    → get_or (keeping s a).holders 2 0 ≡ get_or s.holders 2 0
unfolding frame_of words word over among vertices
kept_holder s (Granted j low stars t) p e =
    let low_0 : low.0 ≡ 0 = omega (arith, ap (λ (p : List ℕ). word p 6) e) in
    let stars_1 : stars ≡ 1 = omega (arith, ap (λ (p : List ℕ). word p 8) e) in
    rw (low_0, stars_1) refl
kept_holder s (Refused m t) p e = refl
kept_holder s (Done v) p e = refl

-- on a cube of two nodes the map is the identity
own_two : (ds : List ℕ) → Permutes 1 ds → Own ds
own_two ds P zero l = omega (arith, (P.within 0 (omega arith)).0, (P.within 0 (omega arith)).1)
own_two ds P (suc i) l = P.own (suc i) (omega arith) l

-- others' nodes free: job 1 has node 0 and job 2 node 1, and job 1 is granted both
both_granted : (s : State) → Valid s → s.n ≡ 1 → get_or s.conditions 0 0 ≡ 1 → get_or s.conditions 1 0 ≡ 1 → get_or s.holders 0 0 ≡ 1
    → get_or s.holders 1 0 ≡ 2 → (others_free s 1 1 0).reply ≡ Granted 1 (numbered 0) 1 1
unfolding guarded over among any_below count_below free_at first_free
both_granted s v n c0 c1 h0 h1 =
    let P = rw n at v.permutes in
    let D = directions 1 s.map (omega arith) P in
    let own = own_two s.map P in
    let first = node_own D own 0 (omega arith) in
    let second = node_own D own 1 (omega arith) in
    rw (n, first, second, h0, h1, c0, c1, first_free) (ap₂ (λ (x y : ℕ). Granted 1 (numbered x) y 1) first second)

-- ---- a list of calls without a growth

-- a call that does what it does by the delivered program, and a list of them
abbrev Same : Asks → Exchange → Type 0
Same g x = (c : Call) × (parsed x.frame ≡ Ok c) × ((s : State) → growing g s c ≡ acted s c)

abbrev AllSame : Asks → Exchanges → Type 0
AllSame g begin = Unit {0}
AllSame g (es next x) = AllSame g es × Same g x

outside_same : (g : Asks) → AllSame g outside
outside_same g = (
  (((tt, (Good (numbered 2), parsed-good 2, λ s. refl)), (Request 1 0 0, parsed_asks 1, λ s. refl)), (Good (numbered 0), parsed-good 0, λ s. refl)),
  (Good (numbered 1), parsed-good 1, λ s. refl),
)

shared_same : (g : Asks) → AllSame g shared
shared_same g = (
  (((tt, (Good (numbered 0), parsed-good 0, λ s. refl)), (Good (numbered 1), parsed-good 1, λ s. refl)), (Request 1 0 0, parsed_asks 1, λ s. refl)),
  (Request 2 0 0, parsed_asks 2, λ s. refl),
)

module _ (b : List ℕ) (whole : length b ≡ record_size) where
  -- the record is the delivered program's
  same : (g : Asks) (n : ℕ) (es : Exchanges) → AllSame g es
      → record_after (by (growing g)) (setup_record b n) es ≡ record_after delivered (setup_record b n) es
  same g n begin u = refl
  same g n (es next x) u =
      same_call (growing g) _ x u.1.0 u.1.1 (u.1.2 _)
      ∙ ap (λ (r : List ℕ). delivered.call_record r x.frame x.buffer) (same g n es u.0)

  -- each call is heard what the history says, so the subcubes held are the history's
  same_held : (g : Asks) (n : ℕ) → n ≤ 10 → (es : Exchanges) → AllSame g es
      → held_at (by (growing g)) (setup_record b n) [] es ≡ held (verdicts n fresh) [] (feed es)
  same_held g n small begin u = refl
  same_held g n small (es next x) u =
      let r = record_after delivered (setup_record b n) es in
      let number = same_returned (growing g) r x u.1.0 u.1.1 (u.1.2 _) in
      let reply = same_reply (growing g) r x u.1.0 u.1.1 (u.1.2 _) in
      let says = ap₂ heard number reply ∙ heard_is n small b whole es x in
      rw (same g n es u.0) (ap₂ (held_after (feed es) (fed x)) says (same_held g n small es u.0))

  -- ---- the old nodes held

  four_nodes : ListRight delivered (set_up delivered 2 b)
  four_nodes = from_set_up 2 (omega arith) b whole

  abbrev r : List ℕ
  r = record_after delivered (setup_record b 2) outside

  abbrev answer : Reply
  answer = (grow_step (decode r) 1 1 0).reply

  accepted : number_of answer ≡ 0
  accepted =
      sym (delivered-number (growing old_kept) r grows (Grow 1 1 0) parsed-grow (four_nodes.recorded outside).valid refl)
      ∙ (four_nodes.calls outside grows).returned ∙ ap number_of told.outside_granted

  answered : written (frame_of answer) grows.buffer ≡ replies (granted 1 0 1 1) grows.buffer
  answered =
      sym (delivered-reply (growing old_kept) r grows (Grow 1 1 0) parsed-grow (four_nodes.recorded outside).valid refl)
      ∙ (four_nodes.calls outside grows).replied ∙ ap (λ v. replies v grows.buffer) told.outside_granted

  still_held : word (record_by (growing old_kept) r grows.frame grows.buffer) (holders_at + 2 * 2) ≡ 1
  still_held =
      let before = four_nodes.recorded outside in
      ap (λ (r : List ℕ). word r (holders_at + 2 * 2)) (record_is (growing old_kept) r grows (Grow 1 1 0) parsed-grow before.valid refl accepted)
      ∙ word-says (says_holders (keeping (decode r) answer) (sized-keeping (decode r) (sized-decode r) answer)) 2 (omega arith)
      ∙ kept_holder (decode r) answer grows.buffer answered
      ∙ decode_holder r 2 (omega arith) ∙ before.holders 2 (omega arith) ∙ told.outside_held

  old_kept_wrong : ¬ HoldersRight (by (growing old_kept)) 2 b
  old_kept_wrong claim =
      let claimed = rw (same old_kept 2 outside (outside_same old_kept)) at (claim (outside next grows) 2 (omega arith)) in
      let wrong : ◌≡◌ {A = ℕ} 1 0 = sym still_held ∙ claimed ∙ told.outside_lost in
      absurd (omega arith)

  -- ---- others' nodes free

  abbrev t : List ℕ
  t = record_after delivered (setup_record b 1) shared

  grants_both : (others_free (decode t) 1 1 0).reply ≡ Granted 1 (numbered 0) 1 1
  grants_both =
      let before = (from_set_up 1 (omega arith) b whole).recorded shared in
      both_granted (decode t) (state_valid t before.valid) (dimension_of_lem t ∙ before.dimension)
      (decode_condition t 0 (omega arith) ∙ before.conditions 0 (omega arith) ∙ told.both_good.0)
      (decode_condition t 1 (omega arith) ∙ before.conditions 1 (omega arith) ∙ told.both_good.1)
      (decode_holder t 0 (omega arith) ∙ before.holders 0 (omega arith) ∙ told.both_held.0)
      (decode_holder t 1 (omega arith) ∙ before.holders 1 (omega arith) ∙ told.both_held.1)

  tells_both : heard (number_by (growing others_free) t grows.frame grows.buffer) (reply_by (growing others_free) t grows.frame grows.buffer)
      ≡ granted 1 0 1 1
  tells_both =
      let v = ((from_set_up 1 (omega arith) b whole).recorded shared).valid in
      ap₂ heard
      (number_is (growing others_free) t grows (Grow 1 1 0) parsed-grow v refl ∙ ap number_of grants_both)
      (reply_is (growing others_free) t grows (Grow 1 1 0) parsed-grow v refl ∙ ap (λ a. written (frame_of a) grows.buffer) grants_both)
      ∙ heard_back (granted 1 0 1 1) grows.buffer tt

  others_free_wrong : ¬ HeldDisjoint (by (growing others_free)) 1 b
  unfolding vertices without
  others_free_wrong claim =
      let g = others_free in
      let d = rw (same g 1 shared (shared_same g), tells_both, same_held g 1 (omega arith) shared (shared_same g), told.shared_held)
      at (claim (shared next grows)) in
      d.0 _ (inl refl) 1 (inr (inl refl)) (inl refl)

  pub growths_refuted : GrowthsRefuted b
  growths_refuted = record {
    old_kept = breaks_list HoldersRight holders (by (growing old_kept)) 2 b (omega arith) whole old_kept_wrong;
    others_free = breaks_list HeldDisjoint disjoint (by (growing others_free)) 1 b (omega arith) whole others_free_wrong;
  }
