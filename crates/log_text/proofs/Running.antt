-- Steps one after the other: the loop's invariant and its measure. Assumes nothing.
use Prim.Native.Nat.{ℕ, ◌+◌, ◌-◌}
use mathlib.Core.Path.{◌≡◌}
use mathlib.Core.Bool.{Bool, true, false}
use mathlib.Core.List.{List, ◌++◌, append_assoc}
use lib.ListN.{length}
use Rattle.lines.proofs.Puts.{put_then}
use Rattle.log_text.specs.declared.Place.{Place}
use Rattle.log_text.specs.Moves.{Moves, Waiting, Turned}

module _ (w : List ℕ) (last : Bool) where
  pub record Running (p : Place) (r out : List ℕ) (q : Place) (r' out' : List ℕ) : Type 0 where
    pub moves : Moves w last p r out q r' out'
    pub waiting : q.waits ≡ true → Waiting w last q r'

  -- a step more
  pub running_more : {p q s : Place} {r r' r'' out out' out'' : List ℕ} → Running p r out q r' out' → Turned w last q r' out' s r'' out''
      → Running p r out s r'' out''
  running_more {p} {q} {s} A T =
      let M = A.moves in
      let N = T.moves in
      record {
        moves = record {
          bytes = M.bytes ++ N.bytes;
          printed = put_then M.bytes N.bytes M.printed N.printed;
          completes = λ more text end k. rw append_assoc (M.completes more (N.bytes ++ text) end (N.completes more text end k));
          inside = λ k. N.inside (M.inside k);
          fits = λ k. rw M.printed.long at (N.fits (rw M.printed.long (M.fits k)));
        };
        waiting = T.waiting;
      }

  -- the bytes left in the window, and one for the step that stops
  abbrev pub left : Place → ℕ
  left q = elim q.ended [ true ↦ 0 | false ↦ elim q.waits [ true ↦ 0 | false ↦ 1 + (length w - q.at) ] ]
