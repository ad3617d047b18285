-- What a turn, a read and a write keep of a run: what was written, what is in the output and the text of what is left make the whole text.
-- Assumes nothing.
use Prim.Native.Nat.{ℕ, ◌+◌, ◌-◌, ◌≤◌}
use mathlib.Core.Path.{◌≡◌, refl, sym, ap, ◌∙◌}
use mathlib.Core.Bool.{Bool, true, false, true≢false, false≢true}
use mathlib.Core.List.{List, [], ◌++◌, append_assoc}
use native.Mathlib.Omega.{arith}
use lib.Dec.{eqb}
use lib.ListN.{length, take, drop, length-append}
use lib.Seq.{length-take-le, take_at, drop_at, take-add, take-take, take-append-le}
use Rattle.tally.specs.Counts.{none}
use Rattle.lines.specs.Text.{totals_of}
use Rattle.lines.specs.Put.{Put}
use Rattle.lines.proofs.Puts.{put_whole}
use Rattle.lines.proofs.Lengths.{totals_length}
use Rattle.log_text.specs.declared.Place.{Place}
use Rattle.log_text.specs.Text.{Prints}
use Rattle.log_text.specs.Moves.{Left, Ran}
use Rattle.log_stream.specs.declared.Stream.{Stream}
use Rattle.log_stream.specs.Streams.{start, took, wrote, unwritten, room, Ready, Closed, Wanting}
use Rattle.log_stream.specs.Runs.{Given, piece}
use Rattle.log_stream.proofs.Turns.{room_long, at_kept, put_kept, long}

-- ---- lists

-- the front of a buffer up to the place after a put
pub put_front : {before after : List ℕ} {at next : ℕ} (bytes : List ℕ) → at + length bytes ≤ length before → Put before at bytes after next
    → take next after ≡ take at before ++ bytes
put_front {before} {after} {at} {next} bytes h P = rw (put_whole bytes h P) (take_at (take at before ++ bytes) (drop next before) next front)
  where
    front : length (take at before ++ bytes) ≡ next
    front = length-append (take at before) bytes ∙ omega (arith, length-take-le at before (omega arith), P.placed)

-- what lies between two places, taken in either order
pub between : (at end : ℕ) (w : List ℕ) → at ≤ end → end ≤ length w → drop at (take end w) ≡ take (end - at) (drop at w)
between at end w h k =
    let e : end ≡ at + (end - at) = omega arith in
    ap (λ (x : ℕ). drop at (take x w)) e ∙ ap (drop at) (take-add at (end - at) w)
    ∙ drop_at (take at w) (take (end - at) (drop at w)) at (length-take-le at w (omega arith))

-- ---- the invariant

pub record Holds (b input : List ℕ) (over : Bool) (written : List ℕ) (s : Stream) (r w out : List ℕ) : Type 0 where
  pub ready : Ready s (length w) (length out)
  pub ends : s.last ≡ over
  pub goes : s.place.ended ≡ false → (left text : List ℕ) → (over ≡ true → left ≡ [])
      → Prints s.place.tally r (drop s.place.at (take s.filled w) ++ left) text
      → Prints none b (input ++ left) (written ++ (unwritten s out ++ text))
  pub done : s.place.ended ≡ true → (left : List ℕ) → (over ≡ true → left ≡ []) → Prints none b (input ++ left) written

pub holds-start : (b w out : List ℕ) → 88 ≤ length out → Holds b [] false [] start b w out
holds-start b w out h = record {
  ready = record { at = omega arith; filled = omega arith; put = omega arith };
  ends = refl;
  goes = λ on left text end p. p;
  done = λ e. absurd (false≢true e);
}

-- ---- a turn

module _ {b input : List ℕ} {over : Bool} {written : List ℕ} {s : Stream} {r w out : List ℕ} (H : Holds b input over written s r w out)
    (on : s.place.ended ≡ false) (q : Place) (r' put : List ℕ)
    (A : Ran (take s.filled w) s.last s.place r (take (room out) out) q r' put) where
  -- the output after the lines
  abbrev lined : List ℕ
  lined = put ++ drop (room out) out

  lined_long : length lined ≡ length out
  lined_long = long s r w out q r' put H.ready A

  stop_fits : q.put + 88 ≤ length out
  stop_fits = omega (arith, put_kept s r w out q r' put H.ready A, H.ready.put)

  stop_inside : q.at ≤ s.filled
  stop_inside = at_kept s r w out q r' put H.ready A

  -- the lines stand behind what was in the output
  lines_front : take q.put lined ≡ unwritten s out ++ A.moves.bytes
  lines_front =
      let M = A.moves in
      let k = put_kept s r w out q r' put H.ready A in
      let l = room_long s r w out q r' put H.ready A in
      let p = M.printed.placed in
      let e : length put ≡ room out = M.printed.long ∙ l in
      take-append-le q.put put (drop (room out) out) (omega arith) ∙ put_front M.bytes (omega arith) M.printed
      ∙ ap (λ (u : List ℕ). u ++ M.bytes) (take-take s.place.put (room out) out (omega arith))

  -- what is left at the place where the log stopped completes the text
  stopped : (left text : List ℕ) → (over ≡ true → left ≡ []) → Left q r' (drop q.at (take s.filled w) ++ left) text
      → Prints none b (input ++ left) (written ++ (take q.put lined ++ text))
  stopped left text end L =
      rw (lines_front, append_assoc (unwritten s out) A.moves.bytes text)
      (H.goes on left (A.moves.bytes ++ text) end (rw on at (A.moves.completes left text (λ e. end (sym H.ends ∙ e)) L)))

  -- closed: all is written
  pub wrote_closed : (t : Stream) (out' : List ℕ) → q.ended ≡ true → Closed s q lined t out'
      → Holds b input over (written ++ unwritten t out') (wrote t) r' w out'
  wrote_closed t out' e C =
      let ended : t.place.ended ≡ true = ap (λ (x : Stream). x.place.ended) C.stream in
      let at : t.place.at ≡ q.at = ap (λ (x : Stream). x.place.at) C.stream in
      let filled : t.filled ≡ s.filled = ap (λ (x : Stream). x.filled) C.stream in
      let last : t.last ≡ s.last = ap (λ (x : Stream). x.last) C.stream in
      let inside = stop_inside in
      let wide = H.ready.filled in
      let high = H.ready.put in
      let same = lined_long in
      let fits : q.put + length (totals_of q.tally) ≤ length lined = omega (arith, totals_length q.tally, stop_fits) in
      record {
        ready = record { at = omega arith; filled = omega arith; put = omega (arith, C.counts.long) };
        ends = last ∙ H.ends;
        goes = λ on'. absurd (true≢false (sym ended ∙ on'));
        done = λ k left end. rw (put_front (totals_of q.tally) fits C.counts) (stopped left (totals_of q.tally) end (rw e refl));
      }

  -- full: the log goes on where it stopped
  pub wrote_full : q.ended ≡ false
      → Holds b input over (written ++ take q.put lined) (wrote (record { place = q; filled = s.filled; last = s.last })) r' w lined
  wrote_full e =
      let high = H.ready.put in
      let same = lined_long in
      record {
        ready = record { at = stop_inside; filled = H.ready.filled; put = omega arith };
        ends = H.ends;
        goes = λ on' left text end p. rw append_assoc (stopped left text end (rw e p));
        done = λ k. absurd (true≢false (sym k ∙ e));
      }

  -- wanting: what was read is next in the input
  pub took_wanting : (t : Stream) (w' : List ℕ) → q.ended ≡ false → s.last ≡ false → Wanting s q w t w' → (n : ℕ) (w'' : List ℕ) → Given t w' n w''
      → Holds b (input ++ piece t n w'') (eqb n 0) written (took t n) r' w'' lined
  took_wanting t w' e more W n w'' G =
      let at : t.place.at ≡ 0 = ap (λ (x : Stream). x.place.at) W.stream in
      let put : t.place.put ≡ q.put = ap (λ (x : Stream). x.place.put) W.stream in
      let tally : t.place.tally ≡ q.tally = ap (λ (x : Stream). x.place.tally) W.stream in
      let ended : t.place.ended ≡ false = ap (λ (x : Stream). x.place.ended) W.stream in
      let filled : t.filled ≡ s.filled - q.at = ap (λ (x : Stream). x.filled) W.stream in
      let same = lined_long in
      let fits = stop_fits in
      -- the window's input is what was left of it, and the piece
      let there : take (t.filled + n) w'' ≡ drop q.at (take s.filled w) ++ piece t n w'' =
      take-add t.filled n w'' ∙ ap (λ (u : List ℕ). u ++ piece t n w'')
      (G.kept ∙ W.front ∙ ap (λ (k : ℕ). take k (drop q.at w)) filled ∙ sym (between q.at s.filled w stop_inside H.ready.filled)) in
      record {
        ready = record { at = omega arith; filled = omega (arith, G.fits, G.long); put = omega arith };
        ends = refl;
        goes = λ on' left text end p.
            rw (append_assoc, put)
            (stopped (piece t n w'' ++ left) text (λ k. absurd (true≢false (sym k ∙ sym H.ends ∙ more)))
            (rw (e, ← append_assoc (drop q.at (take s.filled w)) (piece t n w'') left, ← there, ← tally) (rw at at p)));
        done = λ k. absurd (true≢false (sym k ∙ ended));
      }
