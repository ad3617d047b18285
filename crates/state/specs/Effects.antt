-- What a call does to a state that no check stops, and is told: one of four effects. Document 01, "Six calls and their frames".
use Rattle.std.specs.Prelude.{ℕ, Bool, cond, ◌&&◌, ◌||◌, eqb, get_or}
use Rattle.hypercube.specs.Bits.{width}
use Rattle.hypercube.specs.Labels.{node, differing, size, relabelled}
use Rattle.hypercube.specs.Subcubes.{vertices}
use Rattle.hypercube.specs.Choice.{choice}
use Rattle.hypercube.specs.declared.Walk.{Walk}
use Rattle.labels.specs.Relabelling.{not_good}
use Rattle.state.specs.declared.State.{State}
use Rattle.hypercube.specs.declared.Reply.{Reply}
use Rattle.hypercube.specs.declared.Reply.TheVariants.{Granted, Refused, Done}
use Rattle.state.specs.declared.Step.{Step}
use Rattle.state.specs.States.{with_condition, with_map, lost, taken}
use Rattle.state.specs.Checks.{held_by}
use Rattle.state.specs.Walked.{reply_of}

-- node x set to condition v; a relabelling; a subcube of dimension k granted to job j under strategy f; the nodes of job j given back
pub data Effect : Type 0 where
  Sets : ℕ → ℕ → Effect
  Relabels : Effect
  Grants : ℕ → ℕ → ℕ → Effect
  Releases : ℕ → Effect

abbrev pub step : State → Reply → Step
step s r = record { state = s; reply = r }

-- told is "for a fault the holder", "else 0"
abbrev pub told_of : State → ℕ → ℕ → ℕ
told_of s x v = cond (eqb v 2) (get_or s.holders x 0) 0

-- "A node is free if it is good and unheld"; by document 02, (e), to the job that asks "its own good nodes count as free"
abbrev pub free_node : State → ℕ → ℕ → Bool
free_node s j x = eqb (get_or s.conditions x 0) 1 && (eqb (get_or s.holders x 0) 0 || eqb (get_or s.holders x 0) j)

-- a label is free where its node is, by the map
abbrev pub free_label : State → ℕ → ℕ → Bool
free_label s j l = free_node s j (node s.map l)

-- the walk of a request or a growth by job j: "Strategies work on labels"
abbrev pub walk_of : State → ℕ → ℕ → ℕ → Walk
walk_of s j k f = choice f s.n k (free_label s j)

-- a reply to a request or a growth, done to a state: where it is a grant, its job "loses its nodes outside" the subcube granted and becomes the
-- holder of each node of it, with the star bits replied
abbrev pub granting : State → Reply → Step
granting s (Granted j low stars t) = step (taken (lost s j) (vertices width stars low.0) j stars) (Granted j low stars t)
granting s (Refused m t) = step s (Refused m t)
granting s (Done v) = step s (Done v)

-- a request or a growth by job j that meets no cause before 14, by its walk's answer
abbrev pub grant_step : State → ℕ → Walk → Step
grant_step s j w = granting s (reply_of s.map j w)

abbrev pub effected : State → Effect → Step
effected s (Sets x v) = step (with_condition s x v) (Done (told_of s x v))
effected s Relabels =
    step (with_map s (relabelled s.n (not_good s.conditions))) (Done (size (differing s.n (not_good s.conditions))))
effected s (Grants j k f) = grant_step s j (walk_of s j k f)
effected s (Releases j) = step (lost s j) (Done (held_by s j))
