-- Document 02, (e): "The job gets the first such member and loses its nodes outside it"; such is a member that is "good and unheld by others". Two
-- programs that do otherwise on a growth, and so break demand 3.
use Rattle.std.specs.Prelude.{ℕ, List, []}
use Rattle.hypercube.specs.Bits.{width}
use Rattle.hypercube.specs.Subcubes.{vertices}
use Rattle.hypercube.specs.declared.Reply.{Reply}
use Rattle.hypercube.specs.declared.Reply.TheVariants.{Granted, Refused, Done}
use Rattle.state.specs.declared.State.{State}
use Rattle.state.specs.declared.Call.TheVariants.{Grow}
use Rattle.state.specs.States.{with_holders, taken}
use Rattle.state.specs.Effects.{step, walk_of, grant_step}
use Rattle.state.specs.Acts.{checks_of, guarded}
use Rattle.weak.specs.Programs.{Acts, by, Asks, relabel_step, request_step, grow_step, release_step, doing}
use Rattle.weak.specs.Parts.{HeldDisjoint, HoldersRight, Breaks}

abbrev pub growing : Asks → Acts
growing g = doing relabel_step request_step g release_step

-- one that leaves the old nodes held: the job is given the nodes granted and keeps its others; the reply is the delivered program's
abbrev pub keeping : State → Reply → State
keeping s (Granted j low stars t) = taken s (vertices width stars low.0) j stars
keeping s (Refused m t) = s
keeping s (Done v) = s

abbrev pub old_kept : Asks
old_kept s j k f = step (keeping s (grow_step s j k f).reply) (grow_step s j k f).reply

-- one that counts another job's nodes as free: its walk is as if no node were held
abbrev pub others_free : Asks
others_free s j k f = guarded s (checks_of s (Grow j k f)) (grant_step s j (walk_of (with_holders s []) j k f))

-- on any buffer of the record's size, b
pub record GrowthsRefuted (b : List ℕ) : Type 0 where
  pub old_kept : Breaks HoldersRight (by (growing old_kept)) 2 b
  pub others_free : Breaks HeldDisjoint (by (growing others_free)) 1 b
