-- The programs that take D over other nodes tell its size wrong on a cube of two nodes, or set another map on one of four, and so break demand 3.
-- Assumes nothing.
use Prim.Native.Nat.{ℕ, ◌+◌, ◌^◌, ◌<◌, ◌≤◌}
use mathlib.Core.Path.{◌≡◌, refl, sym, ap, ◌∙◌}
use mathlib.Core.Bool.{false}
use mathlib.Core.List.{List}
use native.Mathlib.Omega.{arith}
use native.Mathlib.Nat.{lt_of_lt_of_le}
use lib.ListN.{length, get_or}
use Rattle.hypercube.specs.Lists.{over, some_of}
use Rattle.hypercube.specs.Labels.{differing, size, assign, relabelled}
use Rattle.hypercube.specs.Words.{word, words}
use Rattle.hypercube.specs.declared.Reply.TheVariants.{Done}
use Rattle.hypercube.specs.Replies.{frame_of, replies}
use Rattle.hypercube.proofs.Relabels.{relabel_permutes}
use Rattle.labels.specs.Relabelling.{not_good}
use Rattle.labels.proofs.Flags.{cube_le}
use Rattle.history.specs.Verdicts.{verdict}
use Rattle.state.specs.declared.Call.TheVariants.{Good, Relabel}
use Rattle.state.specs.States.{with_map}
use Rattle.state.specs.Checks.{any_held}
use Rattle.state.specs.Acts.{guarded}
use Rattle.record.specs.Layout.{record_size, map_at, decode}
use Rattle.state.proofs.Valid.{Sized}
use Rattle.record.proofs.Round.{decode_holder, decode_condition, encode-map, sized-decode}
use Rattle.cube.specs.Called.{setup_record, delivered}
use Rattle.cube.specs.Run.{Exchanges, begin, ◌next◌, fed, record_after, history_at}
use Rattle.cube.specs.Start.{set_up}
use Rattle.cube.specs.Demand3.{ListRight}
use Rattle.cube.proofs.Theorem.{from_set_up}
use Rattle.weak.specs.Programs.{by}
use Rattle.weak.specs.Parts.{ReplyRight}
use Rattle.weak.specs.Relabels.{Over, relabelling, faulty_only, not_faulty, MapRight, RelabelsRefuted}
use Rattle.weak.proofs.Parts.{replied, breaks_list}
use Rattle.weak.proofs.Frames.{good, one, across, relabels, parsed-good, parsed-relabel, told}
use Rattle.weak.proofs.Holding.{dimension_of_lem, none_held}
use Rattle.weak.proofs.Made.{same_call, reply_is, record_is}

module _ (b : List ℕ) (whole : length b ≡ record_size) where
  -- after calls that leave the delivered program's record, with no node held
  module _ (n : ℕ) (small : n ≤ 10) (mapped sized : Over) (es : Exchanges)
      (same : record_after (by (relabelling mapped sized)) (setup_record b n) es ≡ record_after delivered (setup_record b n) es)
      (unheld : (x : ℕ) → (history_at n es).holder x ≡ 0) where
    abbrev r : List ℕ
    r = record_after delivered (setup_record b n) es

    kept : ListRight delivered (set_up delivered n b)
    kept = from_set_up n small b whole

    below : (x : ℕ) → x < 2 ^ n → x < 1024
    below x h = lt_of_lt_of_le h (cube_le n small)

    dimension : (decode r).n ≡ n
    dimension = dimension_of_lem r ∙ (kept.recorded es).dimension

    none : any_held (decode r) ≡ false
    none =
        none_held (decode r)
        (λ x h. let l = (rw dimension at h) in decode_holder r x (below x l) ∙ (kept.recorded es).holders x l ∙ unheld x)

    -- the conditions of the record are the history's
    condition : (x : ℕ) → x < 2 ^ n → get_or (decode r).conditions x 0 ≡ (history_at n es).condition x
    condition x h = decode_condition r x (below x h) ∙ (kept.recorded es).conditions x h

    -- a relabel is told the size of the program's D, which the history's is by the claim
    sizes : (w : ℕ) → verdict n (history_at n es) (fed relabels) ≡ Done w → ReplyRight (by (relabelling mapped sized)) n b
        → size (differing n (sized (decode r).conditions)) ≡ w
    unfolding guarded frame_of words word
    sizes w says claim =
        let answer = reply_is (relabelling mapped sized) r relabels Relabel parsed-relabel (kept.recorded es).valid refl in
        let told = sym (rw (none, dimension) at answer) ∙ (rw same at (claim es relabels)) ∙ ap (λ v. replies v relabels.buffer) says in
        omega (arith, ap (λ (p : List ℕ). word p 4) told)

    -- and the record's map is by the program's other D
    moved : (i : ℕ) → i < 10
        → get_or (record_after (by (relabelling mapped sized)) (setup_record b n) (es next relabels)) (map_at + i) 0
        ≡ get_or (relabelled n (mapped (decode r).conditions)) i 0
    unfolding guarded
    moved i h =
        let z = sized-decode r in
        let stored = record_is (relabelling mapped sized) r relabels Relabel parsed-relabel (kept.recorded es).valid refl (rw none refl) in
        let map = relabelled (decode r).n (mapped (decode r).conditions) in
        let long = (relabel_permutes n small (mapped (decode r).conditions)).entries in
        let moved_sized : Sized (with_map (decode r) map) = record {
          directions = rw dimension long;
          holders = z.holders;
          conditions = z.conditions;
          stars = z.stars;
        } in
        rw same (rw (stored, none)
        (encode-map (with_map (decode r) map) (moved_sized) i h
        ∙ (rw dimension refl)))

  faulty_wrong : ¬ ReplyRight (by (relabelling faulty_only faulty_only)) 1 b
  unfolding over some_of size
  faulty_wrong claim =
      let small : 1 ≤ 10 = omega arith in
      let c = condition 1 small faulty_only faulty_only begin refl (λ x. refl) in
      let answer = sizes 1 small faulty_only faulty_only begin refl (λ x. refl) 1 told.both_silent claim in
      let same : ◌≡◌ {A = ℕ} 0 1 = rw (c 0 (omega arith), c 1 (omega arith)) at answer in
      absurd (omega arith)

  not_faulty_wrong : ¬ ReplyRight (by (relabelling not_faulty not_faulty)) 1 b
  unfolding over some_of size
  not_faulty_wrong claim =
      let small : 1 ≤ 10 = omega arith in
      let at_one = same_call (relabelling not_faulty not_faulty) _ (good 0) (Good (record { 0 = 0 })) (parsed-good 0) refl in
      let c = condition 1 small not_faulty not_faulty one at_one told.first_unheld in
      let answer = sizes 1 small not_faulty not_faulty one at_one told.first_unheld 0 told.second_silent claim in
      let first = c 0 (omega arith) ∙ told.first_good.0 in
      let second = c 1 (omega arith) ∙ told.first_good.1 in
      let same : ◌≡◌ {A = ℕ} 1 0 = rw (first, second) at answer in
      absurd (omega arith)

  map_wrong : ¬ MapRight (by (relabelling faulty_only not_good)) 2 b
  unfolding over some_of size assign
  map_wrong claim =
      let small : 2 ≤ 10 = omega arith in
      let acts = relabelling faulty_only not_good in
      let at-0 = same_call acts _ (good 0) (Good (record { 0 = 0 })) (parsed-good 0) refl in
      let at-2 = same_call acts _ (good 2) (Good (record { 0 = 2 })) (parsed-good 2) refl
      ∙ ap (λ (r : List ℕ). delivered.call_record r (good 2).frame (good 2).buffer) at-0 in
      let c = condition 2 small faulty_only not_good across at-2 told.across_unheld in
      let g = told.across_good in
      let stays = moved 2 small faulty_only not_good across at-2 told.across_unheld 0 (omega arith) in
      let own = rw (c 0 (omega arith) ∙ g.0, c 1 (omega arith) ∙ g.1, c 2 (omega arith) ∙ g.2, c 3 (omega arith) ∙ g.3) at stays in
      let same : ◌≡◌ {A = ℕ} 1 2 = sym own ∙ claim (across next relabels) 0 (omega arith) ∙ told.across_moved in
      absurd (omega arith)

  pub relabels_refuted : RelabelsRefuted b
  relabels_refuted = record {
    over_faulty = breaks_list ReplyRight replied (by (relabelling faulty_only faulty_only)) 1 b (omega arith) whole faulty_wrong;
    over_not_faulty = breaks_list ReplyRight replied (by (relabelling not_faulty not_faulty)) 1 b (omega arith) whole not_faulty_wrong;
    map_over_faulty =
        breaks_list MapRight (λ P n b d es. (d.recorded es).directions) (by (relabelling faulty_only not_good)) 2 b (omega arith) whole map_wrong;
  }
