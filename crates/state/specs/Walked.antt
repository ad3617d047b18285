-- A walk's answer in document 01's numbers and values: the reply that it is, and its 'tried'.
use Rattle.std.specs.Prelude.{ℕ, List}
use Rattle.hypercube.specs.Labels.{node}
use Rattle.hypercube.specs.declared.Walk.{Walk}
use Rattle.hypercube.specs.declared.Walk.TheVariants.{Found, NoneFree}
use Rattle.hypercube.specs.declared.Reply.{Reply}
use Rattle.hypercube.specs.declared.Reply.TheVariants.{Granted, Refused}

-- to job j, by the map ds: granted "job, lowest node, star bits, tried", and "grants, star bits too, are given in node numbers"; or
-- "refusal 14 with the family's whole count", or with the number of maximal free blocks
abbrev pub reply_of : List ℕ → ℕ → Walk → Reply
reply_of ds j (Found c t) = Granted j (record { 0 = node ds c.low.0 }) (node ds c.stars) t
reply_of ds j (NoneFree t) = Refused 14 t

-- "the granted member's place in that order, from 1", or "the family's whole count"; under strategy 4 the number of maximal free blocks
abbrev pub tried_in : Walk → ℕ
tried_in (Found c t) = t
tried_in (NoneFree t) = t
