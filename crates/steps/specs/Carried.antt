-- What a call does to a record that is one, and is told: the state is stored where the call is accepted, and otherwise nothing is.
use Rattle.std.specs.Prelude.{ℕ, cond, ◌≡◌, List, eqb}
use Rattle.state.specs.declared.Call.{Call}
use Rattle.hypercube.specs.declared.Reply.{Reply}
use Rattle.state.specs.declared.Step.{Step}
use Rattle.hypercube.specs.Replies.{number_of}
use Rattle.state.specs.Acts.{acted}
use Rattle.record.specs.Layout.{encode, decode}

-- the record r after the step t
abbrev pub stored : List ℕ → Step → List ℕ
stored r t = cond (eqb (number_of t.reply) 0) (encode t.state) r

-- the reply is the step's, and the record afterwards is as the step leaves it
pub record Does (r : List ℕ) (t : Step) (told : Reply) (r' : List ℕ) : Type 0 where
  pub replied : told ≡ t.reply
  pub left : r' ≡ stored r t

abbrev pub Carried : List ℕ → Call → Reply → List ℕ → Type 0
Carried r c told r' = Does r (acted (decode r) c) told r'
