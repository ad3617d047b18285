-- A turn of the program is a turn of a run, by what was due. Assumes nothing.
use Rattle.std.proofs.Common.{◌≡◌, ℕ, ◌+◌, ◌≤◌, true, false, List, [], ◌++◌, length, nat_eq, None, Some, inl, inr}
use Rattle.std.proofs.Common.{refl, sym, ap, subst, ◌∙◌, arith, append_assoc, append-nil}
use Rattle.std.specs.Prelude.{Result, Ok, Err, IfOk, is_ok}
use Rattle.std.proofs.lemmas.Bool.{false≢true}
use Rattle.std.specs.declared.option.Option.{Option}
use Rattle.std.specs.Io.KnownBytes.{Consumes, Appends}
use Rattle.log_stream.specs.declared.Stream.{Stream}
use Rattle.log_stream.specs.Streams.{start, wrote, unwritten, Ready, Advanced}
use Rattle.log_stream.specs.Runs.{piece, begins, reads, writes, Reached, turns}
use Rattle.log_stream.proofs.Theorem.{holds, run_right}
use Rattle.cube_run.specs.Turns.{Fed, after_write, OneMore, Finished}

-- ---- known bytes: none are read or written, and one piece after the other

consumes_none : (k : Option (List ℕ)) → Consumes k k []
consumes_none None = tt
consumes_none (Some xs) = refl

appends_none : (k : Option (List ℕ)) → Appends k k []
appends_none None = tt
appends_none (Some xs) = sym (append-nil xs)

consumes_more : (k l m : Option (List ℕ)) (xs ys : List ℕ) → Consumes k l xs → Consumes l m ys → Consumes k m (xs ++ ys)
consumes_more None l m xs ys c d = tt
consumes_more (Some ks) None m xs ys c d = absurd c
consumes_more (Some ks) (Some ls) None xs ys c d = absurd d
consumes_more (Some ks) (Some ls) (Some ms) xs ys c d = c ∙ ap (λ zs. xs ++ zs) d ∙ sym (append_assoc xs ys ms)

appends_more : (k l m : Option (List ℕ)) (xs ys : List ℕ) → Appends k l xs → Appends l m ys → Appends k m (xs ++ ys)
appends_more None l m xs ys c d = tt
appends_more (Some ks) None m xs ys c d = absurd c
appends_more (Some ks) (Some ls) None xs ys c d = absurd d
appends_more (Some ks) (Some ls) (Some ms) xs ys c d = d ∙ ap (λ zs. zs ++ ys) c ∙ append_assoc ks xs ys

-- a write whose answer is a stream was made, and a made one's stream is the one that it tells
written : {E : Type 0} (u t : Stream) (w : Result (Unit {0}) E) → after_write w u ≡ Ok t → is_ok w ≡ true
written u t (Ok x) e = refl
written u t (Err x) e = ap is_ok e

made : {E : Type 0} (u : Stream) (w : Result (Unit {0}) E) → is_ok w ≡ true → after_write w u ≡ Ok (wrote u)
made u (Ok x) h = refl
made u (Err x) h = absurd (false≢true h)

module _ {s u : Stream} {r w out r' w' out' : List ℕ} (A : Advanced s r w out u r' w' out') where
  pub reached_read : {t : Stream} {w'' : List ℕ} {left left' : Option (List ℕ)} (held : Option (List ℕ)) → u.place.waits ≡ true
      → Fed left left' u w' t w'' → s.place.ended ≡ false → (b window output : List ℕ) (R : Reached b window output s r w out)
      → OneMore R left left' held held t r' w'' out'
  reached_read {w'' = w''} {left} {left'} held k F on b window output R =
      subst (λ (x : Stream). OneMore R left left' held held x r' w'' out') (sym F.stream)
      (record {
        reached = record {
          input = R.input ++ piece u F.count w'';
          over = nat_eq F.count 0;
          written = R.written;
          run = reads F.count w'' R.run on A k F.given;
        };
        more = refl;
        read = piece u F.count w'';
        input = refl;
        consumed = F.consumed;
        put = [];
        written = sym (append-nil R.written);
        appended = appends_none held;
      })

  pub reached_write : {t : Stream} (left : Option (List ℕ)) {held held' : Option (List ℕ)} → u.place.waits ≡ false
      → (t ≡ wrote u) × Appends held held' (unwritten u out') → s.place.ended ≡ false → (b window output : List ℕ)
      (R : Reached b window output s r w out) → OneMore R left left held held' t r' w' out'
  reached_write left {held} {held'} k W on b window output R =
      subst (λ (x : Stream). OneMore R left left held held' x r' w' out') (sym W.0)
      (record {
        reached = record { input = R.input; over = R.over; written = R.written ++ unwritten u out'; run = writes R.run on A k };
        more = refl;
        read = [];
        input = sym (append-nil R.input);
        consumed = consumes_none left;
        put = unwritten u out';
        written = refl;
        appended = W.1;
      })

-- what holds of a made write's stream
pub if_made : {T E : Type 0} {P Q : T → Type 0} (t : Result T E) → ((u : T) → P u → Q u) → IfOk t P → IfOk t Q
if_made (Ok u) f h = f u h
if_made (Err e) f h = h

-- ---- the loop: n turns were taken

pub record Going (b window output : List ℕ) (left left' held held' : Option (List ℕ)) (s : Stream) (r w out : List ℕ) (n : ℕ) : Type 0 where
  pub reached : Reached b window output s r w out
  pub count : turns reached.run ≡ n
  pub consumed : Consumes left left' reached.input
  pub appended : Appends held held' reached.written

pub going_start : (b w out : List ℕ) (left held : Option (List ℕ)) (s : Stream) → s ≡ start → Going b w out left left held held s b w out 0
going_start b w out left held s e =
    subst (λ (x : Stream). Going b w out left left held held x b w out 0) (sym e)
    (record {
      reached = record { input = []; over = false; written = []; run = begins };
      count = refl;
      consumed = consumes_none left;
      appended = appends_none held;
    })

module _ {b window output : List ℕ} {left left' held held' : Option (List ℕ)} {s : Stream} {r w out : List ℕ} {n : ℕ}
    (G : Going b window output left left' held held' s r w out n) where
  pub going_ready : 152 ≤ length output → Ready s (length w) (length out)
  going_ready h = (holds (omega arith) G.reached.run).ready

  pub going_more : {left'' held'' : Option (List ℕ)} {t : Stream} {r' w' out' : List ℕ}
      → OneMore G.reached left' left'' held' held'' t r' w' out' → Going b window output left left'' held held'' t r' w' out' (n + 1)
  going_more {left''} {held''} M = record {
    reached = M.reached;
    count = omega (arith, M.more, G.count);
    consumed = subst (Consumes left left'') (sym M.input) (consumes_more left left' left'' _ _ G.consumed M.consumed);
    appended = subst (Appends held held'') (sym M.written) (appends_more held held' held'' _ _ G.appended M.appended);
  }

  pub finished_ended : s.place.ended ≡ true → Finished b window output left left' held held' s r w out
  finished_ended e = record { reached = G.reached; ended = inl e; consumed = G.consumed; appended = G.appended }

  pub finished_count : 65535 ≤ length window → 152 ≤ length output → 18446744073709551615 ≤ n
      → Finished b window output left left' held held' s r w out
  finished_count large wide h = record {
    reached = G.reached;
    ended = inr (omega (arith, G.count, (run_right large wide G.reached.run).moves));
    consumed = G.consumed;
    appended = G.appended;
  }
