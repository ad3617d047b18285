-- Document 02, (b): "Relabelling shall take D over all nodes that aren't good." Three programs that take it over others, and so break demand 3.
use Rattle.std.specs.Prelude.{ℕ, ◌+◌, ◌<◌, ◌≡◌, Bool, not, List, eqb, get_or}
use Rattle.hypercube.specs.Labels.{differing, size, relabelled}
use Rattle.hypercube.specs.declared.Reply.TheVariants.{Done}
use Rattle.labels.specs.Relabelling.{not_good}
use Rattle.state.specs.declared.State.{State}
use Rattle.state.specs.declared.Call.TheVariants.{Relabel}
use Rattle.state.specs.declared.Step.{Step}
use Rattle.state.specs.States.{with_map}
use Rattle.state.specs.Effects.{step}
use Rattle.state.specs.Acts.{checks_of, guarded}
use Rattle.record.specs.Layout.{map_at}
use Rattle.cube.specs.Called.{Program}
use Rattle.cube.specs.Run.{Exchanges, record_after, history_at}
use Rattle.weak.specs.Programs.{Acts, by, request_step, grow_step, release_step, doing}
use Rattle.weak.specs.Parts.{ReplyRight, Breaks}

-- a test of the conditions: which nodes D is taken over
abbrev pub Over : Type 0
Over = List ℕ → ℕ → Bool

-- a relabel whose map is by one D, and whose reply by another
abbrev pub relabel_over : Over → Over → State → Step
relabel_over mapped sized s =
    guarded s (checks_of s Relabel)
    (step (with_map s (relabelled s.n (mapped s.conditions))) (Done (size (differing s.n (sized s.conditions)))))

abbrev pub relabelling : Over → Over → Acts
relabelling mapped sized = doing (relabel_over mapped sized) request_step grow_step release_step

-- those reported faulty
abbrev pub faulty_only : Over
faulty_only cs x = eqb (get_or cs x 0) 2

-- those not reported faulty: silent and good ones
abbrev pub not_faulty : Over
not_faulty cs x = not (eqb (get_or cs x 0) 2)

-- 2 and 3: the record's map is the history's
abbrev pub MapRight : Program → ℕ → List ℕ → Type 0
MapRight P n b =
    (es : Exchanges) (i : ℕ) → i < n → get_or (record_after P (P.setup_record b n) es) (map_at + i) 0 ≡ get_or (history_at n es).directions i 0

-- on any buffer of the record's size, b: the size of D is told wrong; it is told right and the map is wrong
pub record RelabelsRefuted (b : List ℕ) : Type 0 where
  pub over_faulty : Breaks ReplyRight (by (relabelling faulty_only faulty_only)) 1 b
  pub over_not_faulty : Breaks ReplyRight (by (relabelling not_faulty not_faulty)) 1 b
  pub map_over_faulty : Breaks MapRight (by (relabelling faulty_only not_good)) 2 b
