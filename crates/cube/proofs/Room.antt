-- A call with room for its reply is not refused with 2. Assumes nothing.
use Prim.Native.Nat.{ℕ, ◌≤◌}
use mathlib.Core.Path.{◌≡◌}
use mathlib.Core.Logic.{◌≢◌, ⊎_elim}
use mathlib.Core.Bool.{true}
use mathlib.Core.List.{List}
use native.Mathlib.Omega.{arith}
use borrow.Author.Tests.{le-ltb}
use lib.ListN.{length}
use Rattle.hypercube.specs.Tests.{cases}
use Rattle.hypercube.specs.Replies.{number_of}
use Rattle.record.specs.Layout.{decode, valid_record}
use Rattle.record.proofs.Round.{sized-decode}
use Rattle.steps.proofs.Ways.{state_valid}
use Rattle.cube.specs.Called.{step_on, call_number}
use Rattle.cube.proofs.Framed.{does}
use Rattle.cube.proofs.Heard.{accepted_zero}

module _ (r f p : List ℕ) (room : 12 ≤ length p) where
  by_step : valid_record r ≡ true → number_of (step_on r f).reply ≢ 2
  unfolding step_on
  by_step v e =
      ⊎_elim (λ a. omega (arith, accepted_zero (step_on r f).reply a)) (λ l. omega arith)
      (does (decode r) (sized-decode r) (state_valid r v) (record { frame = f; room = length p })).ends

  pub not_2 : call_number r f p ≢ 2
  unfolding call_number
  not_2 e = cases (valid_record r) (λ v. by_step v (rw (v, le-ltb (length p) 12 room) at e)) (λ v. omega (arith, rw v at e))
