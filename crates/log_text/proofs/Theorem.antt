-- What a log prints, for every input: after a right set-up what the history says of each frame, then the counts. Assumes nothing.
use Prim.Native.Nat.{ℕ, ◌+◌, ◌≤◌, min}
use mathlib.Core.Path.{◌≡◌, refl, sym, ap, ◌∙◌}
use mathlib.Core.Logic.{◌≢◌}
use mathlib.Core.Bool.{true}
use mathlib.Core.List.{List, [], ◌∷◌, ◌++◌}
use native.Mathlib.Omega.{arith}
use borrow.Author.Tests.{eq-eqb, ne_eqb}
use lib.ListN.{length, take, drop, length-append}
use lib.Seq.{take-append_seam, drop-append_seam}
use Rattle.hypercube.specs.Words.{word}
use Rattle.tally.specs.declared.Outcome.{Outcome}
use Rattle.tally.specs.declared.Outcome.TheVariants.{Setup, Done, Granted, Refused}
use Rattle.tally.specs.declared.Tally.{Tally}
use Rattle.tally.specs.Counts.{none, counted}
use Rattle.lines.specs.Text.{totals_of}
use Rattle.record.specs.Layout.{record_size}
use Rattle.cube.specs.Called.{setup_record, call_record, delivered}
use Rattle.cube.specs.Run.{Exchanges, begin, ◌next◌, record_after}
use Rattle.cube.proofs.Theorem.{heard_is, demand3}
use Rattle.frame_log.specs.declared.Cursor.{Cursor}
use Rattle.frame_log.specs.declared.Next.{Next}
use Rattle.frame_log.specs.declared.Next.TheVariants as next
use Rattle.frame_log.specs.declared.Step.TheVariants.{Line}
use Rattle.frame_log.specs.Next.{next_of}
use Rattle.frame_log.specs.Frames.{first_number, first_record, zeros, later_outcome, later_record, told}
use Rattle.frame_log.specs.Steps.{on_frame, on_record, step_of, step_record}
use Rattle.frame_log.proofs.Nexts.{framed, word_append, next_none, next_whole}
use Rattle.frame_log.proofs.Firsts.{set_up}
use Rattle.log_text.specs.Text.{Prints, ends, stops, goes}
use Rattle.log_text.proofs.Waits.{never_more}
use Rattle.log_text.proofs.WrongFirst.{wrong_first}
use Rattle.log_text.proofs.Every.{parts}
use Rattle.log_text.specs.Right.{SetsUp, Whole, joined, calls, ending, outcome_by, lines_by, log_by, LogRight}

-- ---- a whole frame at the front of the input

module _ (lines : ℕ) (r f more : List ℕ) (four : 4 ≤ length f) (right : word f 0 ≡ length f) (fewer : lines ≢ 4294967295) where
  its_size : word (f ++ more) 0 ≡ length f
  its_size = word_append f more (omega arith) ∙ right

  its_bytes : take (word (f ++ more) 0) (f ++ more) ≡ f
  its_bytes = rw its_size (take-append_seam f more)

  its_next : next_of true 0 (f ++ more) ≡ next.Frame (record { at = 0 + length f })
  its_next =
      rw its_size at
      (next_whole true 0 (f ++ more) (rw length-append (omega arith)) (rw its_size (omega arith)) (rw (its_size, length-append) (omega arith)))

  its_step : step_of lines r true 0 (f ++ more) ≡ on_frame lines r f (record { at = 0 + length f })
  unfolding step_of
  its_step = rw (ne_eqb lines 4294967295 fewer, its_next, its_bytes)

  its_record : step_record lines r true 0 (f ++ more) ≡ on_record lines r f
  unfolding step_record
  its_record = rw (ne_eqb lines 4294967295 fewer, its_next, its_bytes)

  its_rest : drop (0 + length f) (f ++ more) ≡ more
  its_rest = let z : 0 + length f ≡ length f = omega arith in rw z (drop-append_seam f more)

-- ---- a later frame

later_step : (lines : ℕ) (r f : List ℕ) → lines ≢ 0 → {c : Cursor} → on_frame lines r f c ≡ Line (later_outcome r f) c
unfolding on_frame
later_step lines r f z = rw (ne_eqb lines 0 z)

later_record_lem : (lines : ℕ) (r f : List ℕ) → lines ≢ 0 → on_record lines r f ≡ call_record r f zeros
unfolding on_record later_record
later_record_lem lines r f z = rw (ne_eqb lines 0 z)

total_more : (t : Tally) (o : Outcome) → (counted t o).total ≡ min (t.total + 1) 4294967295
total_more t (Setup n) = refl
total_more t (Done v) = refl
total_more t (Granted j low stars k) = refl
total_more t (Refused m k) = refl

-- ---- the whole log

module _ (n : ℕ) (small : n ≤ 10) (b : List ℕ) (whole : length b ≡ record_size) where
  -- a later frame is told what the history says
  later_told : (es : Exchanges) (f : List ℕ) → later_outcome (record_after delivered (setup_record b n) es) f ≡ outcome_by n es f
  unfolding later_outcome
  later_told es f = ap told (heard_is n small b whole es (calls f))

  -- the lines of the frames, up to m of them, and what is printed of the rest
  module _ (rest : List ℕ) (e : Next) (m : ℕ) (few : m ≤ 4294967295)
      (finish : (t : Tally) (r : List ℕ) → t.total ≡ m → Prints t r rest (ending t e)) where
    later_lines : (fs : List (List ℕ)) (t : Tally) (es : Exchanges) → Whole fs → t.total ≢ 0 → t.total + length fs ≡ m
        → Prints t (record_after delivered (setup_record b n) es) (joined fs rest) (lines_by n t es fs e)
    later_lines [] t es w z h = finish t (record_after delivered (setup_record b n) es) (omega arith)
    later_lines (f ∷ fs) t es w z h =
        let more = joined fs rest in
        let r = record_after delivered (setup_record b n) es in
        let o = outcome_by n es f in
        let below : t.total ≢ 4294967295 = λ k. omega arith in
        let up = total_more t o in
        goes t r (f ++ more) o (record { at = 0 + length f }) (lines_by n (counted t o) (es next calls f) fs e)
        (its_step t.total r f more w.0.0 w.0.1 below ∙ later_step t.total r f z ∙ ap
        (λ (u : Outcome). Line u (record { at = 0 + length f })) (later_told es f))
        (rw (
          its_record t.total r f more w.0.0 w.0.1 below,
          later_record_lem t.total r f z,
          its_rest t.total r f more w.0.0
              w.0.1 below,
        )
        (later_lines fs (counted t o) (es next calls f) w.1 (λ k. omega arith) (omega arith)))

  module _ (f : List ℕ) (S : SetsUp n f) where
    four : 4 ≤ length f
    four = omega (arith, S.size)

    right : word f 0 ≡ length f
    right = S.length_field ∙ sym S.size

    accepted : first_number b f ≡ 0
    accepted = set_up b f four right S.kind S.size ∙ rw S.dimension (demand3.set_up n small b whole)

    first_step : on_frame 0 b f (record { at = 0 + length f }) ≡ Line (Setup n) (record { at = 0 + length f })
    unfolding on_frame
    first_step = rw (accepted, S.dimension)

    first_record_lem : on_record 0 b f ≡ setup_record b n
    unfolding on_record first_record
    first_record_lem = rw (accepted, S.dimension)

  -- a right set-up, and m lines in all
  set_up_lines : (f : List ℕ) (fs : List (List ℕ)) (rest : List ℕ) (e : Next) → SetsUp n f → Whole fs → length fs + 1 ≤ 4294967295
      → ((t : Tally) (r : List ℕ) → t.total ≡ length fs + 1 → Prints t r rest (ending t e)) → Prints none b (f ++ joined fs rest) (log_by n fs e)
  set_up_lines f fs rest e S w few finish =
      let never : ◌≢◌ {A = ℕ} 0 4294967295 = λ k. omega arith in
      let more = joined fs rest in
      goes none b (f ++ more) (Setup n) (record { at = 0 + length f }) (lines_by n (counted none (Setup n)) begin fs e)
      (its_step 0 b f more (four f S) (right f S) never ∙ first_step f S)
      (rw (its_record 0 b f more (four f S) (right f S) never, first_record_lem f S, its_rest 0 b f more (four f S) (right f S) never)
      (later_lines rest e (length fs + 1) few finish fs (counted none (Setup n)) begin w (λ k. omega arith) (omega arith)))

-- ---- how the input ends

by_next : (rest : List ℕ) → ((c : Cursor) → next_of true 0 rest ≢ next.Frame c) → (t : Tally) (r : List ℕ) → t.total ≢ 4294967295
    → (e : Next) → next_of true 0 rest ≡ e → Prints t r rest (ending t e)
unfolding step_of
by_next rest cut t r h (next.Frame c) e = absurd (cut c e)
by_next rest cut t r h next.More e = absurd (never_more 0 rest e)
by_next rest cut t r h next.End e = ends t r rest (rw (ne_eqb t.total 4294967295 h, e))
by_next rest cut t r h next.Broken e = stops t r rest (Refused 3 0) (rw (ne_eqb t.total 4294967295 h, e))

-- nothing is read any more
at_ceiling : (rest : List ℕ) (t : Tally) (r : List ℕ) → t.total ≡ 4294967295 → Prints t r rest (totals_of t)
unfolding step_of
at_ceiling rest t r h = ends t r rest (rw (eq-eqb t.total 4294967295 h))

pub log_right : (b : List ℕ) → length b ≡ record_size → LogRight b
log_right b whole = record {
  empty =
      by_next [] (λ c e. omega (arith, (framed true 0 [] c (sym e)).two)) none b (λ k. omega arith) next.End (next_none true 0 [] refl);
  wrong_first = λ l m W. wrong_first b whole l m W;
  frames = λ n small f fs rest S w cut few.
      set_up_lines n small b whole f fs rest (next_of true 0 rest) S w (omega arith)
      (λ t r k. by_next rest cut t r (λ q. omega arith) (next_of true 0 rest) refl);
  ceiling = λ n small f fs rest S w full. set_up_lines n small b whole f fs rest next.End S w (omega arith) (λ t r k. at_ceiling rest t r (k ∙ full));
  every = parts;
}
