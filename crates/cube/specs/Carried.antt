-- What a frame does to a record that is one, and is told: its call's step, or the refusal of the frame.
use Rattle.std.specs.Prelude.{List, ℕ, Result}
use Rattle.hypercube.specs.declared.Refusal.{Refusal}
use Rattle.hypercube.specs.declared.Reply.{Reply}
use Rattle.state.specs.declared.Call.{Call}
use Rattle.record.specs.Layout.{decode}
use Rattle.steps.specs.Carried.{Does}
use Rattle.cube.specs.Called.{step_of}

abbrev pub CarriedFrame : List ℕ → Result Call Refusal → Reply → List ℕ → Type 0
CarriedFrame r p told r' = Does r (step_of (decode r) p) told r'
