-- Demand 3, for every record that set-up left or that the loading call lets through, and every list of calls. Assumes nothing.
use mathlib.Core.Path.{◌≡◌, refl, sym, ap, fun_ext, subst}
use mathlib.Core.Logic.{inl, inr}
use mathlib.Core.List.{List}
use Prim.Native.Nat.{ℕ, ◌≤◌}
use borrow.Author.Tests.{le-leb}
use lib.ListN.{length, length-replicate}
use Rattle.hypercube.specs.Labels.{identity}
use Rattle.hypercube.specs.Replies.{heard}
use Rattle.hypercube.proofs.Lists.{zero_at, length_from}
use Rattle.history.specs.Account.{fresh}
use Rattle.history.specs.Verdicts.{verdict}
use Rattle.history.specs.Held.{Held}
use Rattle.history.proofs.Theorem.{fresh_begins, fresh-holds_none}
use Rattle.state.specs.States.{fresh_state}
use Rattle.record.specs.Layout.{record_size}
use Rattle.record.specs.Says.{dimension_of, says}
use Rattle.cube.specs.Called.{setup_number, setup_record, delivered}
use Rattle.cube.specs.Start.{Start, set_up, MayBegin}
use Rattle.cube.specs.Run.{Exchange, Exchanges, fed, number, reply, history_at}
use Rattle.cube.specs.Demand3.{ListRight, Demand3}
use Rattle.cube.proofs.Answers.{Stands}
use Rattle.cube.proofs.Loads.{tests, loaded_small, loaded_stands, loaded_begins}
use Rattle.cube.proofs.Lists.{heard_from, list_right}

-- ---- a fresh cube

module _ (n : ℕ) (small : n ≤ 10) (b : List ℕ) (whole : length b ≡ record_size) where
  accepted : setup_number b n ≡ 0
  unfolding setup_number
  accepted = rw (whole, le-leb n 10 small)

  -- set-up leaves a fresh cube
  fresh_stands : Stands n fresh (setup_record b n)
  unfolding setup_record
  fresh_stands = record {
    state = fresh_state n;
    bytes = rw accepted;
    sized = record {
      directions = length_from 1 10;
      holders = length-replicate {A = ℕ} 1024 0;
      conditions = length-replicate {A = ℕ} 1024 0;
      stars = length-replicate {A = ℕ} 1024 0;
    };
    dimension = refl;
    viewed = ap (λ (f : ℕ → ℕ). record { condition = f; holder = f; stars = f; directions = identity }) (fun_ext (zero_at 1024));
  }

  pub heard_is : (es : Exchanges) (e : Exchange)
      → heard (number delivered (setup_record b n) es e) (reply delivered (setup_record b n) es e) ≡ verdict n (history_at n es) (fed e)
  heard_is = heard_from n small (setup_record b n) fresh fresh_stands (fresh_begins n small)

  pub from_set_up : ListRight delivered (set_up delivered n b)
  from_set_up =
      subst (λ (gs : List Held). ListRight delivered (record { dimension = n; bytes = setup_record b n; history = fresh; held = gs }))
      (fresh-holds_none n)
      (list_right n small (setup_record b n) fresh fresh_stands (fresh_begins n small))

-- ---- either start

from_start : (a : Start) → MayBegin delivered a → ListRight delivered a
from_start a (inl B) = subst (ListRight delivered) (sym B.is) (from_set_up B.n B.small B.buffer B.whole)
from_start a (inr B) =
    let r = B.lent in
    subst (ListRight delivered) (sym B.is)
    (list_right (dimension_of r) (loaded_small r B.passed) r (says r) (loaded_stands r B.passed B.bytes) (loaded_begins r B.passed))

pub demand3 : Demand3 delivered
demand3 = record { set_up = accepted; loading = tests; lists = from_start }
