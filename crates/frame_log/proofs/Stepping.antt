-- A step, by what the input has next. Assumes nothing.
use Prim.Native.Nat.{ℕ, ◌-◌, ◌≤◌}
use mathlib.Core.Path.{◌≡◌, sym, ◌∙◌}
use mathlib.Core.Logic.{◌≢◌}
use mathlib.Core.Bool.{Bool}
use mathlib.Core.List.{List}
use native.Mathlib.Omega.{arith}
use borrow.Author.Tests.{eq-eqb, ne_eqb}
use lib.ListN.{length, take, drop, length-drop}
use Rattle.hypercube.specs.Words.{word}
use Rattle.hypercube.specs.Replies.{heard}
use Rattle.tally.specs.declared.Outcome.{Outcome}
use Rattle.tally.specs.declared.Outcome.TheVariants.{Setup, Done, Granted, Refused}
use Rattle.cube.specs.Called.{delivered, Called}
use Rattle.frame_log.specs.declared.Cursor.{Cursor}
use Rattle.frame_log.specs.declared.Next.{Next}
use Rattle.frame_log.specs.declared.Next.TheVariants.{Frame}
use Rattle.frame_log.specs.declared.Step.{Step}
use Rattle.frame_log.specs.declared.Step.TheVariants.{Line, Last, End}
use Rattle.frame_log.specs.Next.{next_of}
use Rattle.frame_log.specs.Frames.{First, told, later_outcome, later_record, zeros, Later}
use Rattle.frame_log.specs.Steps.{on_frame, on_record, OnFrame, step_by, record_by, step_of, step_record, Stepped}
use Rattle.std.specs.Prelude.{Ok, Err}
use Rattle.hypercube.specs.declared.Refusal.{Refusal}
use Rattle.hypercube.specs.Refusals.{refusal_number}
use Rattle.frame_log.proofs.Nexts.{framed}
use Rattle.frame_log.proofs.Firsts.{some_number}

-- ---- the outcome that a number and a reply say

module _ (m : ℕ) (p : List ℕ) where
  pub reply-refused : (t : ℕ) → m ≢ 2 → m ≢ 0 → t ≡ word p 6 → Refused m t ≡ told (heard m p)
  unfolding heard
  reply-refused t y z e = rw (ne_eqb m 0 z, ne_eqb m 2 y, e)

  pub reply-granted : (j low stars t : ℕ) → m ≡ 0 → word p 2 ≡ 0x8001 → j ≡ word p 4 → low ≡ word p 6 → stars ≡ word p 8 → t ≡ word p 10
      → Granted j low stars t ≡ told (heard m p)
  unfolding heard
  reply-granted j low stars t z k a b d e = rw (eq-eqb m 0 z, eq-eqb (word p 2) 0x8001 k, a, b, d, e)

  pub reply_done : (v : ℕ) → m ≡ 0 → word p 2 ≢ 0x8001 → v ≡ word p 4 → Done v ≡ told (heard m p)
  unfolding heard
  reply_done v z k e = rw (eq-eqb m 0 z, ne_eqb (word p 2) 0x8001 k, e)

-- a call with a reply buffer of 12 zeros
pub later_told : (r f r' p' : List ℕ) (m : ℕ) (o : Outcome) → Called delivered r f zeros m r' p' → o ≡ told (heard m p') → Later r f o r'
unfolding later_outcome later_record
later_told r f r' p' m o c e = record { outcome = rw (e, c.returned, c.reply); «record» = c.«record» }

module _ (r f : List ℕ) (c : Cursor) where
  pub first_refused : (e : Refusal) (o : Outcome) (r' : List ℕ) → o ≡ Refused (refusal_number e) 0 → First r f (Err e) r'
      → OnFrame 0 r f c (Last o) r'
  unfolding on_frame on_record
  first_refused e o r' q h = record { answered = rw (q, ← h.0, ne_eqb (refusal_number e) 0 (some_number e)); «record» = h.1 }

  pub first_set : (n : ℕ) (r' : List ℕ) → n ≡ word f 4 → First r f (Ok tt) r' → OnFrame 0 r f c (Line (Setup n) c) r'
  unfolding on_frame on_record
  first_set n r' w h = record { answered = rw (← h.0, w); «record» = h.1 }

  pub later_line : (lines : ℕ) (o : Outcome) (r' : List ℕ) → lines ≢ 0 → Later r f o r' → OnFrame lines r f c (Line o c) r'
  unfolding on_frame on_record
  later_line lines o r' z l = record { answered = rw (ne_eqb lines 0 z, l.outcome); «record» = rw (ne_eqb lines 0 z) l.«record» }

-- the frame lies in the window
pub within : (last : Bool) (at : ℕ) (w : List ℕ) (n : Next) (c : Cursor) → n ≡ next_of last at (drop at w) → n ≡ Frame c
    → (at ≤ c.at) × (c.at ≤ length w)
within last at w n c e q =
    let F = framed last at (drop at w) c (sym q ∙ e) in
    let h : word (drop at w) 0 ≤ length w - at = rw (← length-drop at w) F.there in
    (omega (arith, F.ends), omega (arith, F.ends, F.four))

module _ (lines : ℕ) (r : List ℕ) (last : Bool) (at : ℕ) (l : List ℕ) where
  -- 4294967295 lines
  pub step_full : lines ≡ 4294967295 → Stepped lines r last at l End r
  unfolding step_of step_record
  step_full h = record { answered = rw (eq-eqb lines 4294967295 h); «record» = rw (eq-eqb lines 4294967295 h) }

  pub step_by_lem : lines ≢ 4294967295 → (n : Next) → n ≡ next_of last at l → (s : Step) (r' : List ℕ)
      → s ≡ step_by lines r (take (word l 0) l) n → r' ≡ record_by lines r (take (word l 0) l) n → Stepped lines r last at l s r'
  unfolding step_of step_record
  step_by_lem h n e s r' a b = record {
    answered = rw (ne_eqb lines 4294967295 h, ← e) a;
    «record» = rw (ne_eqb lines 4294967295 h, ← e) b;
  }

  -- a whole frame
  pub step_frame : lines ≢ 4294967295 → (n : Next) (c : Cursor) → n ≡ next_of last at l → n ≡ Frame c → (s : Step) (r' : List ℕ)
      → OnFrame lines r (take (c.at - at) l) c s r' → Stepped lines r last at l s r'
  step_frame h n c e q s r' f =
      let size : c.at - at ≡ word l 0 = omega (arith, (framed last at l c (sym q ∙ e)).ends) in
      let g : OnFrame lines r (take (word l 0) l) c s r' = rw size at f in
      step_by_lem h (Frame c) (sym q ∙ e) s r' g.answered g.«record»
