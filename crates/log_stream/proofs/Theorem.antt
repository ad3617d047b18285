-- What is claimed of every run of a log in pieces. Assumes nothing.
use Prim.Native.Nat.{ℕ, ◌+◌, ◌-◌, ◌<◌, ◌≤◌}
use mathlib.Core.Path.{◌≡◌, refl, sym, ap, subst, ◌∙◌}
use mathlib.Core.Bool.{Bool, true, false, cond}
use mathlib.Core.List.{List, [], ◌++◌, append-nil}
use native.Mathlib.Omega.{arith}
use borrow.Author.Tests.{eqb-false, ltb-true, ltb-false}
use lib.Dec.{eqb, ltb}
use lib.ListN.{length, get_or, take, drop, length-append, length-take, length-drop, get_or-eq_default}
use lib.Seq.{length-take-le, get_or-take, get_or-drop}
use Rattle.hypercube.specs.Words.{word}
use Rattle.hypercube.specs.Tests.{cases}
use Rattle.tally.specs.declared.Tally.{Tally}
use Rattle.lines.specs.Text.{item, totals_of}
use Rattle.lines.proofs.Lengths.{totals_length}
use Rattle.log_text.proofs.Once.{prints_some}
use Rattle.log_stream.specs.declared.Stream.{Stream}
use Rattle.log_stream.specs.Streams.{took, wrote, unwritten, room, Advanced}
use Rattle.log_stream.specs.Runs.{Given, piece, Run, begins, reads, writes, turns, Begun, RunRight}
use Rattle.log_stream.proofs.Turns.{put_kept, room_long}
use Rattle.log_stream.proofs.Dues.{Read, Write, closed, full, read, write, lined_long, read_long, write_long}
use Rattle.log_stream.proofs.Invariant.{Holds, holds-start, put_front, wrote_closed, wrote_full, took_wanting}

-- ---- the invariant of every run

module _ {b input : List ℕ} {over : Bool} {written : List ℕ} {s t : Stream} {r w out r' w' out' : List ℕ}
    (H : Holds b input over written s r w out) (on : s.place.ended ≡ false) (A : Advanced s r w out t r' w' out') where
  holds-took : t.place.waits ≡ true → (n : ℕ) (w'' : List ℕ) → Given t w' n w''
      → Holds b (input ++ piece t n w'') (eqb n 0) written (took t n) r' w'' out'
  holds-took k n w'' G =
      let D = read A k in
      subst (λ (o : List ℕ). Holds b (input ++ piece t n w'') (eqb n 0) written (took t n) r' w'' o) (sym D.same)
      (took_wanting H on A.stop r' A.put A.ran t w' D.goes D.short.goes_on D.wanting n w'' G)

  abbrev Wrote : Stream → List ℕ → List ℕ → Type 0
  Wrote x v o = Holds b input over (written ++ unwritten x o) (wrote x) r' v o

  holds_write : Write A → Wrote t w' out'
  holds_write (closed a C same) = subst (λ (v : List ℕ). Wrote t v out') (sym same) (wrote_closed H on A.stop r' A.put A.ran t out' a C)
  holds_write (full a h F) =
      subst (λ (x : Stream). Wrote x w' out') (sym F.stream)
      (subst (λ (v : List ℕ). Wrote (record { place = A.stop; filled = s.filled; last = s.last }) v out') (sym F.window)
      (subst (λ (o : List ℕ). Wrote (record { place = A.stop; filled = s.filled; last = s.last }) w o) (sym F.output)
      (wrote_full H on A.stop r' A.put A.ran a)))

  holds-wrote : t.place.waits ≡ false → Wrote t w' out'
  holds-wrote k = holds_write (write A k)

module _ {b window output : List ℕ} (wide : 88 ≤ length output) where
  pub holds : {input : List ℕ} {over : Bool} {written : List ℕ} {s : Stream} {r w out : List ℕ}
      → Run b window output input over written s r w out → Holds b input over written s r w out
  holds begins = holds-start b window output wide
  holds (reads n w'' R on A k G) = holds-took (holds R) on A k n w'' G
  holds (writes R on A k) = holds-wrote (holds R) on A k

  pub kept : {input : List ℕ} {over : Bool} {written : List ℕ} {s : Stream} {r w out : List ℕ}
      → Run b window output input over written s r w out → (length w ≡ length window) × (length out ≡ length output)
  kept begins = (refl, refl)
  kept (reads n w'' R on A k G) =
      let D = read_long (holds R).ready A (read A k) in (G.long ∙ D.0 ∙ (kept R).0, D.1 ∙ (kept R).1)
  kept (writes R on A k) = let D = write_long (holds R).ready A (write A k) in (D.0 ∙ (kept R).0, D.1 ∙ (kept R).1)

-- ---- a part of the window that has bytes has bytes

part_bytes : (w : List ℕ) (at end : ℕ) → ((i : ℕ) → get_or w i 0 < 256) → (i : ℕ) → get_or (drop at (take end w)) i 0 < 256
part_bytes w at end h i =
    rw (get_or-drop at (take end w) i 0)
    (cases (ltb (at + i) end) (λ a. rw (get_or-take end w (at + i) 0 (ltb-true (at + i) end a)) (h (at + i)))
    (λ a. rw (get_or-eq_default (take end w) 0 {n = at + i} (omega (arith, length-take end w, ltb-false (at + i) end a))) (omega arith)))

word_small : (l : List ℕ) → ((i : ℕ) → get_or l i 0 < 256) → word l 0 ≤ 65535
unfolding word
word_small l h = omega (arith, h 0, h 1)

module _ {b input : List ℕ} {over : Bool} {written : List ℕ} {s t : Stream} {r w out r' w' out' : List ℕ}
    (H : Holds b input over written s r w out) (A : Advanced s r w out t r' w' out') where
  -- fewer bytes than a frame can have
  read_short : Read A → ((i : ℕ) → get_or w i 0 < 256) → t.filled < 65535
  read_short D bytes =
      let l = drop A.stop.at (take s.filled w) in
      let few = D.short.short 65535 (omega arith) (word_small l (part_bytes w A.stop.at s.filled bytes)) in
      let size : length l ≡ s.filled - A.stop.at =
      length-drop A.stop.at (take s.filled w) ∙ ap (λ (k : ℕ). k - A.stop.at) (length-take-le s.filled w H.ready.filled) in
      let filled : t.filled ≡ s.filled - A.stop.at = ap (λ (x : Stream). x.filled) D.wanting.stream in omega arith

-- ---- each turn but one reads or writes something

totals_some : (t : Tally) → 0 < length (totals_of t)
unfolding totals_of item
totals_some t = simp length-append (omega arith)

module _ {b input : List ℕ} {over : Bool} {written : List ℕ} {s t : Stream} {r w out r' w' out' : List ℕ}
    (H : Holds b input over written s r w out) (on : s.place.ended ≡ false) (A : Advanced s r w out t r' w' out') where
  write_some : 152 ≤ length out → Write A → 0 < length (unwritten t out')
  write_some h (closed a C same) =
      let q = A.stop in
      let fits : q.put + length (totals_of q.tally) ≤ length (A.put ++ drop (room out) out) =
      omega (arith, totals_length q.tally, put_kept s r w out q r' A.put H.ready A.ran, lined_long H.ready A) in
      rw (put_front (totals_of q.tally) fits C.counts, length-append) (omega (arith, totals_some q.tally))
  write_some h (full a f F) =
      let q = A.stop in
      let put = put_kept s r w out q r' A.put H.ready A.ran in
      let part : length A.put ≡ room out = A.ran.moves.printed.long ∙ room_long s r w out q r' A.put H.ready A.ran in
      let same : t.place.put ≡ q.put = ap (λ (x : Stream). x.place.put) F.stream in
      rw (length-take-le t.place.put out' (omega (arith, ap length F.output, lined_long H.ready A))) (omega arith)

no_more : (k m : ℕ) (over : Bool) → over ≡ false → k ≤ m + cond over 1 0 → k ≤ m
no_more k m over e h = let z = rw e at h in omega arith

module _ {b window output : List ℕ} (wide : 152 ≤ length output) where
  pub moved : {input : List ℕ} {over : Bool} {written : List ℕ} {s : Stream} {r w out : List ℕ}
      → (R : Run b window output input over written s r w out) → turns R ≤ length input + length written + cond over 1 0
  moved begins = omega arith
  moved (reads {input} {over} {written} {t = t} n w'' R on A k G) =
      let H = holds (omega arith) R in
      let I = no_more (turns R) (length input + length written) over (sym H.ends ∙ (read A k).short.goes_on) (moved R) in
      let long : length (piece t n w'') ≡ n = length-take-le n (drop t.filled w'') (rw length-drop (omega (arith, G.fits, G.long))) in
      rw length-append
      (cases (eqb n 0) (λ a. rw a (omega arith)) (λ a. let z = eqb-false n 0 a in rw a (omega arith)))
  moved (writes {input} {over} {written} {t = t} {out = out} {out' = out'} R on A k) =
      let H = holds (omega arith) R in
      let some = write_some H on A (omega (arith, (kept (omega arith) R).1)) (write A k) in
      let I = moved R in
      rw (length-append written (unwritten t out')) (omega arith)

-- ---- the theorem

over_one : (b : Bool) → cond b 1 0 ≤ 1
over_one true = omega arith
over_one false = omega arith

begun : {b input : List ℕ} {over : Bool} {written : List ℕ} {s : Stream} {r w out : List ℕ} → Holds b input over written s r w out
    → (left : List ℕ) → (over ≡ true → left ≡ []) → Begun b (input ++ left) written
begun {written = written} {s} {r} {w} {out} H left end =
    cases s.place.ended (λ e. record { more = []; prints = rw (append-nil written) (H.done e left end) }) (λ e.
    let P = prints_some s.place.tally r (drop s.place.at (take s.filled w) ++ left) in
    record { more = unwritten s out ++ P.text; prints = H.goes e left P.text end P.prints }
    )

pub run_right : {b window output input : List ℕ} {over : Bool} {written : List ℕ} {s : Stream} {r w out : List ℕ}
    → 65535 ≤ length window → 152 ≤ length output → (R : Run b window output input over written s r w out) → RunRight R
run_right {over = over} large wide R =
    let H = holds (omega arith) R in
    record {
      text = λ e left end. H.done e left end;
      begun = λ left end. begun H left end;
      ready = H.ready;
      asked = λ on bytes A k.
          let D = read A k in omega (arith, read_short H A D bytes, (read_long H.ready A D).0, (kept (omega arith) R).0);
      moves = omega (arith, moved (omega arith) R, over_one over);
    }
