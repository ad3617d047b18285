-- What any frame does to a state, and is told, is what the history says of it. Assumes nothing.
use mathlib.Core.Path.{refl}
use mathlib.Core.Bool.{not, ◌||◌}
use mathlib.Core.Option.{Option, none, some}
use native.Mathlib.Omega.{arith}
use lib.Dec.{eqb, ltb}
use lib.ListN.{length, drop}
use Rattle.hypercube.specs.Words.{word}
use Rattle.hypercube.specs.Tests.{cases}
use Rattle.hypercube.specs.Checks.{first_met}
use Rattle.history.specs.Calls.{Call, Kind, kind_of, length_field, kind, size}
use Rattle.history.specs.Causes.{checks, causes}
use Rattle.state.specs.declared.State.{State}
use Rattle.state.specs.declared.Call as alloc
use Rattle.state.specs.Acts.{call_of}
use Rattle.state.proofs.Valid.{Sized, Valid}
use Rattle.state.specs.View.{view}
use Rattle.state.proofs.Effected.{Does, refuses}
use Rattle.state.proofs.Agrees.{Reads, reads}
use Rattle.frames.specs.Parse.{sized, parsed}
use Rattle.cube.specs.Called.{step_of}

module _ (s : State) (z : Sized s) (w : Valid s) (c : Call) where
  -- the rows from 4 on, for a frame of kind k that is read as o
  of_kind : (k : Kind) (o : Option alloc.Call) → Reads s z w c o k
      → Does s c (step_of s (sized c.frame k o)) (first_met (checks (drop 2 (causes s.n)) (view s) k c) none)
  unfolding sized causes first_met
  of_kind k none R = rw R (refuses s z w c 4 (omega arith, λ e. absurd (omega arith)))
  of_kind k (some a) R =
      rw R.0 (cases (eqb (length c.frame) (size k))
      (λ l. rw l R.1)
      (λ l. rw l (refuses s z w c 5 (omega arith, λ e. absurd (omega arith)))))

  -- the rows from 3 on
  pub does : Does s c (step_of s (parsed c.frame)) (first_met (checks (drop 1 (causes s.n)) (view s) (kind c) c) none)
  unfolding parsed causes first_met length_field kind
  does =
      cases (ltb (length c.frame) 4 || not (eqb (word c.frame 0) (length c.frame)))
      (λ l. rw l (refuses s z w c 3 (omega arith, λ e. absurd (omega arith))))
      (λ l.
      let k = kind_of (word c.frame 2) in
      rw l (of_kind k (call_of c.frame k) (reads s z w c k refl)))
