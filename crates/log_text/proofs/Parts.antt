-- A step is a part of a log, and parts make a whole. Assumes nothing.
use Prim.Native.Nat.{ℕ, ◌+◌, ◌-◌, ◌≤◌}
use mathlib.Core.Path.{◌≡◌, refl, sym, ap, ◌∙◌}
use mathlib.Core.Logic.{inl, inr, ◌≢◌}
use mathlib.Core.Bool.{Bool, true, false, true≢false}
use mathlib.Core.List.{List, [], ◌++◌}
use native.Mathlib.Omega.{arith}
use lib.Dec.{eqb}
use lib.ListN.{length, drop, take, length-drop}
use lib.Seq.{drop-drop, drop-append-le}
use Rattle.hypercube.specs.Tests.{cases}
use Rattle.hypercube.specs.Words.{word}
use Rattle.tally.specs.declared.Outcome.{Outcome}
use Rattle.tally.specs.Counts.{counted}
use Rattle.lines.specs.Text.{totals_of}
use Rattle.lines.specs.Put.{Put}
use Rattle.lines.proofs.Lengths.{line_length}
use Rattle.frame_log.specs.declared.Cursor.{Cursor}
use Rattle.frame_log.specs.declared.Next.{Next}
use Rattle.frame_log.specs.declared.Next.TheVariants as next
use Rattle.frame_log.specs.declared.Step.{Step}
use Rattle.frame_log.specs.declared.Step.TheVariants.{Line, Last, More, End}
use Rattle.frame_log.specs.Next.{next_of}
use Rattle.frame_log.specs.Frames.{first_number}
use Rattle.frame_log.specs.Steps.{on_frame, step_by, record_by, step_of, step_record, Stepped}
use Rattle.frame_log.proofs.Nexts.{Framed, framed}
use Rattle.log_text.specs.declared.Place.{Place}
use Rattle.log_text.specs.Text.{line_after, ends, stops, goes}
use Rattle.log_text.specs.Moves.{Added, Left, Turned}
use Rattle.log_text.proofs.Stays.{moved, step_stays}

-- ---- what a step says of the input

module _ (lines : ℕ) (r f : List ℕ) where
  on_line : (o : Outcome) (c d : Cursor) → on_frame lines r f d ≡ Line o c → d ≡ c
  unfolding on_frame
  on_line o c d e =
      cases (eqb lines 0) (λ a.
      cases (eqb (first_number r f) 0) (λ b. let k = rw (a, b) at e in cc) (λ b. let k = rw (a, b) at e in cc)
      ) (λ a. let k = rw a at e in cc)

  pub on_more : (d : Cursor) → on_frame lines r f d ≡ More → ⊥
  unfolding on_frame
  on_more d e =
      let z : ◌≡◌ {A = ℕ} 0 1 =
      cases (eqb lines 0) (λ a.
      cases (eqb (first_number r f) 0) (λ b. let k = rw (a, b) at e in cc) (λ b. let k = rw (a, b) at e in cc)
      ) (λ a. let k = rw a at e in cc)
      in omega arith

  by_line : (o : Outcome) (c : Cursor) (n : Next) → step_by lines r f n ≡ Line o c → n ≡ next.Frame c
  by_line o c (next.Frame d) e = ap next.Frame (on_line o c d e)
  by_line o c next.More e = cc
  by_line o c next.End e = cc
  by_line o c next.Broken e = cc

  by_more : (n : Next) → step_by lines r f n ≡ More → record_by lines r f n ≡ r
  by_more (next.Frame d) e = absurd (on_more d e)
  by_more next.More e = refl
  by_more next.End e = refl
  by_more next.Broken e = refl

module _ (lines : ℕ) (r : List ℕ) (last : Bool) (at : ℕ) (l : List ℕ) where
  -- a line that the log goes on after is a whole frame's
  pub line_frame : (o : Outcome) (c : Cursor) → step_of lines r last at l ≡ Line o c → Framed at l c
  unfolding step_of
  line_frame o c e =
      framed last at l c
      (sym (cases (eqb lines 4294967295) (λ a. let k = rw a at e in cc)
      (λ a. by_line lines r (take (word l 0) l) o c (next_of last at l) (rw a at e))))

  -- where more is wanted the record stays
  more_record : step_of lines r last at l ≡ More → step_record lines r last at l ≡ r
  unfolding step_of step_record
  more_record e = cases (eqb lines 4294967295) (λ a. rw a) (λ a. rw a (by_more lines r (take (word l 0) l) (next_of last at l) (rw a at e)))

-- ---- each way out of a step

module _ (w : List ℕ) (last : Bool) (p : Place) (r out : List ℕ) (s : Step) (r' : List ℕ) (on : p.ended ≡ false)
    (S : Stepped p.tally.total r last p.at (drop p.at w) s r') where
  abbrev l : List ℕ
  l = drop p.at w

  -- the same step on the whole input
  module _ (more : List ℕ) (end : last ≡ true → more ≡ []) (n : s ≢ More) where
    abbrev now : Step
    now = step_of p.tally.total r true 0 (l ++ more)

    now_step : now ≡ moved p.at s
    now_step = (step_stays p.tally.total r last p.at l more end (λ e. n (S.answered ∙ e))).0 ∙ ap (moved p.at) (sym S.answered)

    now_record : step_record p.tally.total r true 0 (l ++ more) ≡ r'
    now_record = (step_stays p.tally.total r last p.at l more end (λ e. n (S.answered ∙ e))).1 ∙ sym S.«record»

  module _ (room : p.put + 64 ≤ length out) (o : Outcome) (out' : List ℕ) (q : Place) where
    fits_line : (to : ℕ) (stop : Bool) → Added out p o to stop out' q → q.put ≤ length out
    fits_line to stop A = omega (arith, A.put.placed, line_length (counted p.tally o).total o)

    pub turned_line : (c : Cursor) → s ≡ Line o c → Added out p o c.at false out' q → Turned w last p r out q r' out'
    turned_line c e A = record {
      moves = record {
        bytes = line_after p.tally o;
        printed = A.put;
        completes = completes;
        inside = λ h. rw A.at inside;
        fits = λ h. fits_line c.at false A;
      };
      waiting = λ h. absurd (true≢false (sym h ∙ A.waits));
      falls = inr (inr (rw A.at (omega (arith, F.ends, F.four)), rw A.at inside));
    }
      where
        F : Framed p.at l c
        F = line_frame p.tally.total r last p.at l o c (sym S.answered ∙ e)

        left : length l ≡ length w - p.at
        left = length-drop p.at w

        inside : c.at ≤ length w
        inside = omega (arith, F.ends, F.there, F.four, left)

        size : c.at - p.at ≡ word l 0
        size = omega (arith, F.ends)

        rest : (more : List ℕ) → drop (c.at - p.at) (l ++ more) ≡ drop c.at w ++ more
        rest more = rw (size, drop-append-le (word l 0) l more F.there, drop-drop (word l 0) p.at w, F.ends)

        never : s ≢ More
        never k = let z : ◌≡◌ {A = ℕ} 0 1 = cc in omega arith

        completes : (more text : List ℕ) → (last ≡ true → more ≡ []) → Left q r' (drop q.at w ++ more) text
            → Left p r (l ++ more) (line_after p.tally o ++ text)
        completes more text end h =
            rw on
            (goes p.tally r (l ++ more) o (record { at = c.at - p.at }) text (now_step more end never ∙ ap (moved p.at) e)
            (rw (now_record more end never, rest more) (rw (A.ended, A.tally, A.at) at h)))

    pub turned_last : s ≡ Last o → Added out p o p.at true out' q → Turned w last p r out q r' out'
    turned_last e A = record {
      moves = record {
        bytes = line_after p.tally o;
        printed = A.put;
        completes = completes;
        inside = λ h. rw A.at h;
        fits = λ h. fits_line p.at true A;
      };
      waiting = λ h. absurd (true≢false (sym h ∙ A.waits));
      falls = inl A.ended;
    }
      where
        never : s ≢ More
        never k = let z : ◌≡◌ {A = ℕ} 0 1 = cc in omega arith

        completes : (more text : List ℕ) → (last ≡ true → more ≡ []) → Left q r' (drop q.at w ++ more) text
            → Left p r (l ++ more) (line_after p.tally o ++ text)
        completes more text end h =
            let k : text ≡ totals_of (counted p.tally o) = rw (A.ended, A.tally) at h in
            rw (on, k) (stops p.tally r (l ++ more) o (now_step more end never ∙ ap (moved p.at) e))

  nothing : Put out p.put [] out p.put
  nothing = record { stored = refl; placed = omega arith; long = refl }

  pub turned_more : s ≡ More → Turned w last p r out (record { at = p.at; put = p.put; tally = p.tally; ended = p.ended; waits = true }) r' out
  turned_more e = record {
    moves = record { bytes = []; printed = nothing; completes = λ more text end h. rw on (rw (on, kept) at h); inside = λ h. h; fits = λ h. h };
    waiting = λ h. rw kept (sym S.answered ∙ e);
    falls = inr (inl refl);
  }
    where
      kept : r' ≡ r
      kept = S.«record» ∙ more_record p.tally.total r last p.at l (sym S.answered ∙ e)

  pub turned_end : s ≡ End → Turned w last p r out (record { at = p.at; put = p.put; tally = p.tally; ended = true; waits = false }) r' out
  turned_end e = record {
    moves = record {
      bytes = [];
      printed = nothing;
      completes = λ more text end h. rw (on, h) (ends p.tally r (l ++ more) (now_step more end never ∙ ap (moved p.at) e));
      inside = λ h. h;
      fits = λ h. h;
    };
    waiting = λ h. absurd (true≢false (sym h));
    falls = inl refl;
  }
    where
      never : s ≢ More
      never k = let z : ◌≡◌ {A = ℕ} 0 1 = cc in omega arith
