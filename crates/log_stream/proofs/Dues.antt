-- What is due after a turn, by what the stream says; it lies in the buffers, and they keep their lengths. Assumes nothing.
use Prim.Native.Nat.{ℕ, ◌+◌, ◌<◌, ◌≤◌}
use mathlib.Core.Path.{◌≡◌, refl, sym, ap, ◌∙◌}
use mathlib.Core.Logic.{◌⊎◌, inl, inr}
use mathlib.Core.Bool.{Bool, true, false, true≢false, false≢true}
use mathlib.Core.List.{List, ◌++◌}
use native.Mathlib.Omega.{arith}
use lib.ListN.{length, take, drop}
use Rattle.lines.proofs.Lengths.{totals_length}
use Rattle.log_text.proofs.Waits.{Short, step_short}
use Rattle.log_stream.specs.declared.Stream.{Stream}
use Rattle.log_stream.specs.Streams.{room, Ready, Closed, Wanting, Full, Due, Advanced}
use Rattle.log_stream.proofs.Turns.{put_kept, long}

module _ {s t : Stream} {r w out r' w' out' : List ℕ} (A : Advanced s r w out t r' w' out') where
  abbrev lined : List ℕ
  lined = A.put ++ drop (room out) out

  abbrev Owed : Bool → Bool → Type 0
  Owed e v = Due e v s A.stop w lined t w' out'

  -- a read
  pub record Read : Type 0 where
    pub goes : A.stop.ended ≡ false
    pub wanting : Wanting s A.stop w t w'
    pub same : out' ≡ lined
    pub short : Short s.last (drop A.stop.at (take s.filled w))

  read_due : (e v : Bool) → A.stop.ended ≡ e → A.stop.waits ≡ v → Owed e v → t.place.waits ≡ true → Read
  read_due true v a d D k = absurd (false≢true (sym (ap (λ (x : Stream). x.place.waits) D.0.stream) ∙ k))
  read_due false true a d D k = record {
    goes = a;
    wanting = D.0;
    same = D.1;
    short =
        step_short A.stop.tally.total r' s.last A.stop.at (drop A.stop.at (take s.filled w)) (A.ran.waiting d);
  }
  read_due false false a d D k = absurd (true≢false (sym k ∙ ap (λ (x : Stream). x.place.waits) D.stream ∙ d))

  pub read : t.place.waits ≡ true → Read
  read = read_due A.stop.ended A.stop.waits refl refl A.due

  -- a write
  pub data Write : Type 0 where
    closed : A.stop.ended ≡ true → Closed s A.stop lined t out' → w' ≡ w → Write
    full : A.stop.ended ≡ false → length A.put < A.stop.put + 64 → Full s A.stop w lined t w' out' → Write

  full_put : A.stop.ended ≡ false → A.stop.waits ≡ false
      → (A.stop.ended ≡ true) ⊎ ((A.stop.waits ≡ true) ⊎ (length A.put < A.stop.put + 64)) → length A.put < A.stop.put + 64
  full_put a d (inl e) = absurd (true≢false (sym e ∙ a))
  full_put a d (inr (inl e)) = absurd (true≢false (sym e ∙ d))
  full_put a d (inr (inr h)) = h

  write_due : (e v : Bool) → A.stop.ended ≡ e → A.stop.waits ≡ v → Owed e v → t.place.waits ≡ false → Write
  write_due true v a d D k = closed a D.0 D.1
  write_due false true a d D k = absurd (true≢false (sym (ap (λ (x : Stream). x.place.waits) D.0.stream) ∙ k))
  write_due false false a d D k = full a (full_put a d A.ran.stopped) D

  pub write : t.place.waits ≡ false → Write
  write = write_due A.stop.ended A.stop.waits refl refl A.due

module _ {s t : Stream} {r w out r' w' out' : List ℕ} (R : Ready s (length w) (length out)) (A : Advanced s r w out t r' w' out') where
  pub lined_long : length (A.put ++ drop (room out) out) ≡ length out
  lined_long = long s r w out A.stop r' A.put R A.ran

  pub read_long : Read A → (length w' ≡ length w) × (length out' ≡ length out)
  read_long D = (D.wanting.long, ap length D.same ∙ lined_long)

  pub write_long : Write A → (length w' ≡ length w) × (length out' ≡ length out)
  write_long (closed a C same) = (ap length same, C.counts.long ∙ lined_long)
  write_long (full a h F) = (ap length F.window, ap length F.output ∙ lined_long)

  pub read_inside : t.place.waits ≡ true → t.filled ≤ length w'
  read_inside k =
      let D = read A k in
      omega (arith, ap (λ (x : Stream). x.filled) D.wanting.stream, D.wanting.long, R.filled)

  pub write_inside : t.place.waits ≡ false → t.place.put ≤ length out'
  write_inside k = go (write A k)
    where
      stop : A.stop.put ≤ room out
      stop = put_kept s r w out A.stop r' A.put R A.ran

      go : Write A → t.place.put ≤ length out'
      go (closed a C same) =
          omega (arith, C.counts.placed, C.counts.long, lined_long, stop, R.put, totals_length A.stop.tally)
      go (full a h F) = omega (arith, ap (λ (x : Stream). x.place.put) F.stream, ap length F.output, lined_long, stop)
