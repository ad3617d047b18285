-- A run whole, else by halves.
use Rattle.std.proofs.Common.{arith, sym, ◌∙◌, true, false}
use Rattle.hypercube.specs.Bits.{width}
use Rattle.hypercube.proofs.Halves.{free-node}
use Rattle.walks.proofs.Halves.{starred, rest_ones, free_halves, upper_first, run_stars}
use Rattle.walks.proofs.+free.Goals as goal

pub returns-then-k-eq0 : goal.returns-then-k-eq0
returns-then-k-eq0 t c = c.label_free.ensures ∙ sym (free-node _ width _ _ (c.requires.1 ∙ c.if-k-eq0.true))

pub highest-star-requires : goal.highest-star-requires
highest-star-requires t c = starred width _ (λ z. c.if-k-eq0.false (sym c.requires.1 ∙ z))

pub returns-then-not-label_free : goal.returns-then-not-label_free
returns-then-not-label_free t c =
    sym (upper_first c.highest-star.ensures (omega arith) _ _ (sym c.label_free-2.ensures ∙ c.if-not-label_free.true))

pub returns-then-rest-star : goal.returns-then-rest-star
returns-then-rest-star t c = c.run_free.ensures ∙ run_stars c.highest-star.ensures (omega arith) _ _ (omega arith)

pub free-requires : goal.free-requires
free-requires t c = (omega arith, (omega arith, omega (arith, rest_ones c.highest-star.ensures (omega arith))))

pub free-requires-then-free : goal.free-requires-then-free
free-requires-then-free t c = (omega arith, (omega arith, omega (arith, rest_ones c.highest-star.ensures (omega arith))))

pub returns-then-free : goal.returns-then-free
returns-then-free t c =
    c.free-then-free.ensures ∙ sym (free_halves c.highest-star.ensures (omega arith) _ _ true (sym c.free.ensures ∙ c.if-free.true))

pub returns-else-free : goal.returns-else-free
returns-else-free t c =
    c.if-free.false ∙ sym (free_halves c.highest-star.ensures (omega arith) _ _ false (sym c.free.ensures ∙ c.if-free.false))
